-- 1 or 5, or straight along.
use Rattle.std.proofs.Common.{[], length, refl, sym, ◌∙◌}
use Rattle.run.proofs.Whole.{run_goes, settled_valid}
use Rattle.vebrostin.proofs.Outcomes.{apart, ends_as, placed_as, reply_ends, run_ends, settled}
use Rattle.vebrostin.proofs.Straight.{not_early}
use Rattle.vebrostin.proofs.vebrostin_run_unchecked.Goals as goal

pub returns-then-is_early : goal.returns-then-is_early
returns-then-is_early c =
    let a = c.args in
    let h = sym c.is_short.ensures ∙ c.if-is_short.false in
    let reply = c.run_unchecked-reply in
    let put = c.put_reply.ensures in
    let r =
    apart (settled a.program.now a.path.now a.cells.now a.report.now h)
    (λ s.
    run_ends a.inputs.now a.program.now a.budget a.registers.now a.cells.now a.path.now a.report.now _ _ _ _ h
    (reply_ends a.program.now reply.result _ _ a.cells.now _ _ (reply.ensures.reply s) put.number put.cells put.state)
    (placed_as a.path.now (reply.ensures.reply s) (reply.ensures.place s)))
    refl in
    record { outcome = r.0; state = r.1.0; report = r.1.1 }

pub returns : goal.returns
returns c =
    let a = c.args in
    let h = sym c.is_short.ensures ∙ c.if-is_short.false in
    let u = not_early (length a.path.now) _ (sym c.is_early.ensures ∙ c.if-is_early.false) in
    let ends = c.ends.ensures in
    let r =
    apart (settled a.program.now a.path.now a.cells.now a.report.now h)
    (λ s.
    let v = settled_valid a.program.now (length a.path.now) u.0 s in
    let e = c.along-place.ensures.rest ∙ run_goes a.inputs.now a.program.now (length a.path.now) a.budget a.registers.now [] refl u.0 v u.1 in
    run_ends a.inputs.now a.program.now a.budget a.registers.now a.cells.now a.path.now a.report.now _ _ _ _ h (ends_as e ends.reply) (placed_as a.path.now e (ends.place v)))
    refl in
    record { outcome = r.0; state = r.1.0; report = r.1.1 }
