use Prim.Native.Nat.{◌-◌}
use Rattle.reader.proofs.Extents.{Level}
use Rattle.reader.proofs.+end_of.Given as goal

abbrev pub decreases-end_of : goal.decreases-end_of
decreases-end_of l = l.levels

abbrev pub invariant-loop-child : goal.invariant-loop-child
invariant-loop-child l = Level l.b l.at l.levels l.below (l.children - l.child) l.end
