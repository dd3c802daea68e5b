use Rattle.std.proofs.Common.{length, ◌-◌}
use Rattle.lines.specs.Calls.{SameSlices, held}
use Rattle.legs_cases.proofs.Listed.{Gathering}
use Rattle.legs_cases.proofs.feed.Given as goal

abbrev pub invariant-loop-at : goal.invariant-loop-at
invariant-loop-at l =
    let i = l.initial in
    let m = i.memory in
    Gathering l.formula l.blocks.input.now (held i.names m) i.stage m.out.now i.all i.length l.at (held l.names l.memory) l.stage l.memory.out.now l.all l.length
    × SameSlices m l.memory

abbrev pub decreases-loop-at : goal.decreases-loop-at
decreases-loop-at l = length l.blocks.input.now - l.at
