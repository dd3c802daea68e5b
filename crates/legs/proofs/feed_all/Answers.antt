use Rattle.lines.specs.Calls.{held}
use Rattle.lines.proofs.Feeding.{same_lengths, slices_start, slices_then}
use Rattle.legs.proofs.Feeding.{all_start, all_step}
use Rattle.legs.proofs.feed_all.Goals as goal

pub loop-init : goal.loop-init
loop-init c =
    let a = c.args in
    let m = a.memory.now in
    (all_start a.formula.now a.block.now (held a.names.now m) a.start m.out.now c.requires, slices_start m)

pub loop-preserved : goal.loop-preserved
loop-preserved c =
    let a = c.args in
    let m = a.memory.now in
    let l = c.loop in
    let read = c.read_once in
    let m' = c.feed.new.memory in
    let on = c.in_ok-stage in (
      all_step a.formula.now a.block.now (held a.names.now m) a.start m.out.now c.requires l.block (held l.names l.memory) l.stage l.memory.out.now l.invariant.0
          read.new.buf c.unwrap_or-n.result (held c.feed.new.names m') on.stage m'.out.now read.auto.buf (same_lengths l.names c.feed.new.names l.memory m' c.feed.auto.names on.ensures.slices) on.ensures.feeds,
      slices_then m l.memory m' l.invariant.1 on.ensures.slices,
    )
