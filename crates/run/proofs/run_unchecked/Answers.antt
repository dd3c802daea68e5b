-- A run is a resume of a fresh state.
use Rattle.std.proofs.Common.{length, sym, ◌∙◌}
use Rattle.run.proofs.Progress.{run_resumes, run_where}
use Rattle.run.proofs.run_unchecked.Goals as goal

pub returns : goal.returns
returns c =
    let a = c.args in
    let room = length a.path.now in
    let reply = c.resume_unchecked.ensures in
    let r =
    run_where a.inputs.now a.p.now room a.budget a.regs.now c.resume_unchecked.result _ a.path.now _
    (λ s. rw c.fresh.ensures at (reply.reply s) ∙ sym (run_resumes a.inputs.now a.p.now room a.budget a.regs.now)) reply.place in
    record { reply = r.0; place = r.1.0; number = r.1.1.0; lawful = r.1.1.1 }
