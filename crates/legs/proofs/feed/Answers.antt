use Rattle.std.proofs.Common.{length, take, ◌++◌, arith}
use Rattle.lines.specs.Calls.{held}
use Rattle.lines.proofs.Feeding.{feeding_step, same_lengths, slices_then}
use Rattle.legs.proofs.Feeding.{feeds}
use Rattle.legs.proofs.feed.Goals as goal

pub loop-at-preserved : goal.loop-at-preserved
loop-at-preserved c =
    let a = c.args in
    let m = a.memory.now in
    let l = c.loop-at in
    let r = c.advance-advanced in
    let m' = r.new.memory in (
      l.invariant.0 ++ take r.result.length m'.out.now,
      feeding_step a.formula.now a.input.now (held a.names.now m) a.start m.out.now l.at (held l.names l.memory) l.stage l.memory.out.now l.invariant.0 l.invariant.1
          (length a.input.now) (omega arith) r.result (held r.new.names m') m'.out.now r.ensures.advances l.invariant.1.inside
          (same_lengths l.names r.new.names l.memory m' r.auto.names r.ensures.slices),
      slices_then m l.memory m' l.invariant.2 r.ensures.slices,
    )

pub returns-clause-feeds : goal.returns-clause-feeds
returns-clause-feeds c =
    let a = c.args in
    let m = a.memory.now in
    let l = c.loop-at in
    feeds a.formula.now a.input.now (held a.names.now m) a.start m.out.now l.at (held l.names l.memory) l.stage l.memory.out.now l.invariant.0 l.invariant.1 c.loop-at-test.false
