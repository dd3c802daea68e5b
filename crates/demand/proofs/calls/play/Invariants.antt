use mathlib.Core.Path.{◌≡◌}
use lib.ListN.{length}
use Rattle.demand.proofs.Loops.{left_at, seen}
use Rattle.demand.proofs.calls.play.Given as goal

abbrev pub invariant-loop-call : goal.invariant-loop-call
invariant-loop-call l =
    record {
      registers_long : length l.registers ≡ length l.initial.registers;
      path_long : length l.path ≡ l.whole;
      left : left_at l.inputs l.program l.whole l.rest (seen l.program l.reply l.registers l.path) l.call-index ≡ left_at l.inputs l.program l.whole l.rest (seen l.program l.initial.reply l.initial.registers l.initial.path) 0;
    }
