-- A refusal, or the reply's cells.
use Rattle.std.proofs.Common.{refl, sym, ◌∙◌}
use Rattle.run.specs.Views.{supplied_of}
use Rattle.vebrostin.proofs.Outcomes.{apart, resume_goes_on, resume_refused, settled, unrefused}
use Rattle.vebrostin.proofs.resumed_unchecked.Goals as goal

pub returns-in-Refused-clause-outcome : goal.returns-in-Refused-clause-outcome
returns-in-Refused-clause-outcome c =
    let a = c.args in
    let h = sym c.is_short.ensures ∙ c.if-is_short.false in
    let before = c.state_in-before in
    let reply = c.resume_unchecked-reply in
    λ t.
    let s = settled a.program.now a.path.now a.cells.now a.report.now h t in
    (resume_refused a.inputs.now a.program.now a.budget (supplied_of a.supplied) a.registers.now a.cells.now a.path.now a.report.now reply.result _ a.cells.now _ _ h before.result
    before.ensures (reply.ensures.reply s) (reply.ensures.place s) (rw c.in-Refused.is c.number-in-Refused.ensures) (rw c.in-Refused.is refl) reply.ensures.state refl).0

pub returns-in_default : goal.returns-in_default
returns-in_default c =
    let a = c.args in
    let h = sym c.is_short.ensures ∙ c.if-is_short.false in
    let before = c.state_in-before in
    let reply = c.resume_unchecked-reply in
    let put = c.put_reply.ensures in
    let r =
    apart (settled a.program.now a.path.now a.cells.now a.report.now h)
    (λ s.
    resume_goes_on a.inputs.now a.program.now a.budget (supplied_of a.supplied) a.registers.now a.cells.now a.path.now a.report.now reply.result _ _ _ _ h before.result before.ensures
    (reply.ensures.reply s) (reply.ensures.place s) put.number (unrefused reply.result.answer c.in_default.not-Refused) put.cells put.state)
    refl in
    record { outcome = r.0; state = r.1.0; report = r.1.1 }
