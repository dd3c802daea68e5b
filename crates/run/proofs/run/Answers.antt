-- A run is a resume of a fresh state.
use Rattle.std.proofs.Common.{length, sym, ◌∙◌}
use Rattle.run.proofs.Progress.{run_promises, run_resumes}
use Rattle.run.proofs.run.Goals as goal

pub returns : goal.returns
returns c =
    let a = c.args in
    let room = length a.path.now in
    let r =
    run_promises a.inputs.now a.p.now room a.budget a.regs.now c.resume.result _ a.path.now _
    (rw c.fresh.ensures at c.resume.ensures.reply ∙ sym (run_resumes a.inputs.now a.p.now room a.budget a.regs.now)) c.resume.ensures.place in
    record { reply = r.0; place = r.1.0; number = r.1.1.0; lawful = r.1.1.1 }
