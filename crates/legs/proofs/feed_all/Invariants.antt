use Rattle.lines.specs.Calls.{SameSlices, held}
use Rattle.legs.proofs.Feeding.{FeedingAll}
use Rattle.legs.proofs.feed_all.Given as goal

abbrev pub invariant-loop : goal.invariant-loop
invariant-loop l =
    let m = l.initial.memory in
    FeedingAll l.formula l.initial.block (held l.initial.names m) l.initial.stage m.out.now l.block (held l.names l.memory) l.stage l.memory.out.now
    × SameSlices m l.memory
