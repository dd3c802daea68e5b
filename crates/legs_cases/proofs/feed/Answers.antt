use Rattle.std.proofs.Common.{arith}
use Rattle.lines.specs.Calls.{held}
use Rattle.lines.proofs.Feeding.{same_lengths, slices_start, slices_then}
use Rattle.legs_cases.proofs.Listed.{gathering_end, gathering_full, gathering_start, gathering_step}
use Rattle.legs_cases.proofs.feed.Goals as goal

pub loop-at-init : goal.loop-at-init
loop-at-init c =
    let a = c.args in
    let m = a.memory.now in
    (gathering_start a.formula.now _ (held a.names.now m) a.start m.out.now a.all.now a.from c.requires.1, slices_start m)

pub loop-at-preserved : goal.loop-at-preserved
loop-at-preserved c =
    let a = c.args in
    let m = a.memory.now in
    let l = c.loop-at in
    let end = c.end-end in
    let r = c.advance-advanced in
    let m' = r.new.memory in (
      gathering_step a.formula.now _ (held a.names.now m) a.start m.out.now a.all.now a.from l.at (held l.names l.memory) l.stage l.memory.out.now l.all l.length
          l.invariant.0 end.result end.ensures.1 r.result (held r.new.names m') m'.out.now c.add.new.all r.ensures.advances (same_lengths l.names r.new.names l.memory m' r.auto.names r.ensures.slices)
          (omega (arith, end.ensures.0)) c.add.auto.all c.in_ok-length.length (rw c.written.ensures at c.in_ok-length.ensures),
      slices_then m l.memory m' l.invariant.1 r.ensures.slices,
    )

pub returns-in_err-length-clause-feeds : goal.returns-in_err-length-clause-feeds
returns-in_err-length-clause-feeds c =
    let a = c.args in
    let m = a.memory.now in
    let l = c.loop-at in
    let end = c.end-end in
    let r = c.advance-advanced in
    let m' = r.new.memory in
    rw c.from_residual.ensures
    (gathering_full a.formula.now _ (held a.names.now m) a.start m.out.now a.all.now a.from l.at (held l.names l.memory) l.stage l.memory.out.now l.all l.length
    l.invariant.0 end.result end.ensures.1 r.result (held r.new.names m') m'.out.now c.add.new.all r.ensures.advances (same_lengths l.names r.new.names l.memory m' r.auto.names r.ensures.slices)
    (rw (c.in_err-length.was, c.written.ensures) at c.add.ensures))

pub returns-clause-feeds : goal.returns-clause-feeds
returns-clause-feeds c =
    let a = c.args in
    let m = a.memory.now in
    let l = c.loop-at in
    gathering_end a.formula.now _ (held a.names.now m) a.start m.out.now a.all.now a.from l.at (held l.names l.memory) l.stage l.memory.out.now l.all l.length
    l.invariant.0 c.loop-at-test.false
