use Rattle.std.proofs.Common.{ℕ, List, length, ◌-◌}
use Rattle.lines.specs.Calls.{SameSlices, held}
use Rattle.lines.proofs.Feeding.{Feeding}
use Rattle.legs.proofs.feed.Given as goal

abbrev pub invariant-loop-at : goal.invariant-loop-at
invariant-loop-at l =
    let m = l.initial.memory in
    (text : List ℕ)
    × Feeding l.formula l.input (held l.initial.names m) l.initial.stage m.out.now l.at (held l.names l.memory) l.stage l.memory.out.now text
    × SameSlices m l.memory

abbrev pub decreases-loop-at : goal.decreases-loop-at
decreases-loop-at l = length l.input - l.at
