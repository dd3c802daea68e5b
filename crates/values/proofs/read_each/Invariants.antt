use Rattle.values.proofs.Parts.{DigitsOn}
use Rattle.values.proofs.read_each.Given as goal

abbrev pub invariant-loop-end : goal.invariant-loop-end
invariant-loop-end l = DigitsOn l.input l.from l.initial.line l.end l.line
