use Rattle.std.proofs.Common.{[]}
use Rattle.run.specs.Calls.{Reaches}
use Rattle.run.proofs.straight.Given as goal

abbrev pub invariant-loop-place : goal.invariant-loop-place
invariant-loop-place l = Reaches l.inputs l.p l.fn.from.left l.fn.from.at [] l.fn.regs l.place.left l.place.at [] l.regs

abbrev pub decreases-loop-place : goal.decreases-loop-place
decreases-loop-place l = l.place.left
