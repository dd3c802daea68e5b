use Rattle.work.specs.View.{kept_values}
use Rattle.run.specs.Calls.{Reaches}
use Rattle.run.proofs.steps.Given as goal

abbrev pub invariant-loop-place : goal.invariant-loop-place
invariant-loop-place l =
    Reaches l.inputs l.p l.from.left l.from.at (kept_values l.fn.kept) l.fn.regs l.place.left l.place.at (kept_values l.held) l.regs

abbrev pub decreases-loop-place : goal.decreases-loop-place
decreases-loop-place l = l.place.left
