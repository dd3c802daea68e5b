use Rattle.hosted.proofs.Loops.{Inv}
use Rattle.hosted.proofs.call_all.Given as goal

abbrev pub invariant-loop-call : goal.invariant-loop-call
invariant-loop-call l =
    Inv l.inputs l.program l.whole l.rest l.initial.number l.initial.cells l.initial.registers l.initial.path l.initial.report l.number l.cells l.registers l.path l.report l.call-index
