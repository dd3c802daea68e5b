use Rattle.std.proofs.Common.{arith}
use lib.Ieee.{of_bits}
use Rattle.machine.specs.Machine.{read_all}
use Rattle.layout.specs.Decode.{entries_from}
use Rattle.instruction.specs.Effects.{extremum_at}
use Rattle.instruction.proofs.Extremes.{extreme_none, left_end, left_start, left_step, list_place}
use Rattle.instruction.proofs.Plain.{plain_right}
use Rattle.instruction.proofs.extremum.Goals as goal

pub returns-then-count-eq0 : goal.returns-then-count-eq0
unfolding of_bits extremum_at
returns-then-count-eq0 g c = extreme_none _ c.args.p.now c.args.count c.args.a c.args.regs.now c.if-count-eq0.true

pub returns-then-x : goal.returns-then-x
unfolding of_bits extremum_at
returns-then-x g c =
    let place = list_place c.args.p.now c.word.result c.word-2.result c.args.a c.word.ensures.0 c.word-2.ensures.0 in
    plain_right _ (read_all c.args.regs.now (entries_from c.args.p.now c.args.count c.args.a)) c.plain_extremum-x.result (c.plain_extremum-x.ensures c.args.a place) c.if-x.true

pub loop-i-init : goal.loop-i-init
loop-i-init g c = left_start _ c.args.p.now _ c.args.count c.args.regs.now c.entry-extreme.result (omega arith) c.entry-extreme.ensures

pub loop-i-preserved : goal.loop-i-preserved
loop-i-preserved g c =
    let loop = c.loop-i in
    let next = c.entry-next in
    left_step _ c.args.p.now _ c.args.count c.args.regs.now loop.extreme next.result c.hold-extreme.result loop.i loop.invariant c.loop-i-test.true next.ensures c.hold-extreme.ensures

pub returns : goal.returns
unfolding extremum_at
returns g c =
    let loop = c.loop-i in
    let place = list_place c.args.p.now c.word.result c.word-2.result c.args.a c.word.ensures.0 c.word-2.ensures.0 in
    left_end _ c.args.p.now _ c.args.count c.args.regs.now loop.extreme loop.i loop.invariant c.loop-i-test.false c.args.a place
