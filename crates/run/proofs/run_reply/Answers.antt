-- A run is a resume of a fresh state.
use Rattle.std.proofs.Common.{sym, ◌∙◌}
use Rattle.run.proofs.Progress.{run_resumes}
use Rattle.run.proofs.run_reply.Goals as goal

pub returns-clause-reply : goal.returns-clause-reply
returns-clause-reply c =
    let a = c.args in
    λ v room l. rw c.fresh.ensures at (c.resume_reply.ensures.reply v room l) ∙ sym (run_resumes a.inputs.now a.p.now room a.budget a.regs.now)
