-- Bytes that are no program are refused by 10.
use Rattle.std.proofs.Common.{ap, length, sym, ◌∙◌}
use Rattle.run.specs.Views.{reply_of, state_of, supplied_of}
use Rattle.run.proofs.Progress.{resume_promises}
use Rattle.run.proofs.Whole.{resume_10, unsettled}
use Rattle.run.proofs.resume.Goals as goal

pub returns : goal.returns
returns c =
    let a = c.args in
    let room = length a.path.now in
    let e = c.refused.ensures in
    let u = unsettled a.p.now room (sym c.goes_on.ensures ∙ c.if-goes_on.false) in
    let r =
    resume_promises a.inputs.now a.p.now room a.budget a.regs.now (supplied_of a.supplied) (state_of a.state) c.refused.result a.regs.now a.path.now a.path.now a.state
    (ap (λ r. reply_of a.p.now r a.regs.now) e ∙ resume_10 a.inputs.now a.p.now room a.budget a.regs.now (supplied_of a.supplied) (state_of a.state) u.0 u.1)
    (rw e) (λ n f. ap (λ r. r.state) e) in
    record { reply = r.0; place = r.1.0; state = r.1.1.0; number = r.1.1.1.0; lawful = r.1.1.1.1 }
