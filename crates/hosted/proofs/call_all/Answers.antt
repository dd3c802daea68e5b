use mathlib.Core.Path.{refl, ◌∙◌}
use lib.ListN.{length}
use native.Mathlib.Omega.{arith}
use Rattle.demand.proofs.Loops.{first_is, next_call, rest_is}
use Rattle.hosted.proofs.Loops.{inv_end, inv_step}
use Rattle.hosted.proofs.call_all.Goals as goal

pub loop-call-preserved : goal.loop-call-preserved
loop-call-preserved c =
    let a = c.args in
    let loop = c.loop-call in
    let room = c.min-room-in-loop-call in
    let r = c.go_on-number in
    inv_step a.inputs.now a.program.now (length a.path.now) _ _ _ _ _ _ loop.number loop.cells loop.registers loop.path loop.report loop.call-index loop.invariant
    _ r.result r.new.cells r.new.registers r.new.path r.new.report room.result (next_call _ _ loop.call-index c.loop-call-test.true) room.ensures (omega (arith, room.ensures))
    r.ensures.outcome r.ensures.state r.auto.cells r.auto.registers r.auto.path r.auto.report

pub returns : goal.returns
returns c =
    let a = c.args in
    let r = c.vebrostin_run-number in
    let room = c.min-room in
    let loop = c.loop-call in
    let e = inv_end a.inputs.now a.program.now (length a.path.now) _ c.unwrap_or_default-first.result a.calls.now a.registers.now r.new.registers loop.registers a.cells.now r.new.cells loop.cells
    a.path.now r.new.path loop.path a.report.now r.new.report loop.report r.result loop.number room.result loop.call-index refl room.ensures (omega (arith, room.ensures))
    (first_is a.calls.now _ c.copied.result _ _ (c.copied.ensures ∙ c.first.ensures.value) c.unwrap_or_default-first.ensures (λ d h. (h.0, h.1.0)))
    (rest_is a.calls.now _ c.get.result _ _ c.unwrap_or-rest.ensures refl c.get.ensures.lookup)
    r.ensures.outcome r.ensures.state r.auto.cells r.auto.report c.loop-call-test.false loop.invariant in
    record { outcome = e.outcome; reply = e.reply }
