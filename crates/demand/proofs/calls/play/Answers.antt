use mathlib.Core.Path.{◌≡◌, refl, sym, ap, ◌∙◌}
use lib.ListN.{length}
use native.Mathlib.Omega.{arith}
use Rattle.demand.specs.Listed.{Played, play_at}
use Rattle.demand.proofs.Loops.{first_is, left_end, left_start, rest_is, seen}
use Rattle.demand.proofs.Lasts.{demand}
use Rattle.demand.proofs.calls.play.Goals as goal

played : (c : goal.After-loop-call) → seen c.args.program.now c.loop-call.reply c.loop-call.registers c.loop-call.path
    ≡ play_at c.args.inputs.now c.args.program.now c.args.path.now c.args.calls.now c.args.registers.now
played c =
    let a = c.args in
    let run = c.run-reply in
    let loop = c.loop-call in
    let room = c.min-room in
    sym (left_end a.inputs.now a.program.now (length a.path.now) _ (seen a.program.now loop.reply loop.registers loop.path) loop.call-index c.loop-call-test.false)
    ∙ loop.invariant.left
    ∙ left_start a.inputs.now a.program.now (length a.path.now) _ c.unwrap_or_default-first.result a.registers.now _ a.path.now _ run.result room.result refl (omega arith) (omega (arith, room.ensures))
    run.ensures.reply run.ensures.place a.calls.now
    (first_is a.calls.now _ c.copied.result _ _ (c.copied.ensures ∙ c.first.ensures.value) c.unwrap_or_default-first.ensures (λ d h. (h.0, h.1.0)))
    (rest_is a.calls.now _ c.get.result _ _ c.unwrap_or-rest.ensures refl c.get.ensures.lookup)

pub returns : goal.returns
returns c =
    let e = played c in
    record {
      reply = ap (λ (x : Played). x.reply) e;
      place = ap (λ (x : Played). x.path) e;
      demand = demand c.args.inputs.now c.args.program.now c.args.path.now c.args.registers.now _ c.args.calls.now (ap (λ (x : Played). x.reply) e);
    }
