use Prim.Native.Nat.{◌-◌}
use lib.ListN.{length}
use Rattle.tally.proofs.Flat.{Left}
use Rattle.tally.proofs.count.Given as goal

abbrev pub invariant-loop-owed : goal.invariant-loop-owed
invariant-loop-owed l = Left l.b l.d l.all.node l.owed l.all.code l.all.paths l.all.entries

abbrev pub decreases-loop-owed : goal.decreases-loop-owed
decreases-loop-owed l = length l.b - l.all.node
