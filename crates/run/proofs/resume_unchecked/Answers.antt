-- 1, then what is left to look at, and the place of a refusal.
use Rattle.std.proofs.Common.{ap, length, ◌∙◌}
use Rattle.run.specs.Views.{reply_of, state_of, supplied_of}
use Rattle.run.proofs.Progress.{resume_where}
use Rattle.run.proofs.Whole.{resume_1, settled_valid}
use Rattle.run.proofs.resume_unchecked.Goals as goal

pub returns-then-path-lt8192 : goal.returns-then-path-lt8192
returns-then-path-lt8192 c =
    let a = c.args in
    let room = length a.path.now in
    let e = c.refused.ensures in
    let r =
    resume_where a.inputs.now a.p.now room a.budget a.regs.now (supplied_of a.supplied) (state_of a.state) c.refused.result a.regs.now a.path.now a.path.now a.state
    (λ s. ap (λ r. reply_of a.p.now r a.regs.now) e ∙ resume_1 a.inputs.now a.p.now room a.budget a.regs.now (supplied_of a.supplied) (state_of a.state) c.if-path-lt8192.true)
    (λ s. rw e) (λ n f. ap (λ r. r.state) e) in
    record { reply = r.0; place = r.1.0; state = r.1.1.0; number = r.1.1.1.0; lawful = r.1.1.1.1 }

pub returns : goal.returns
returns c =
    let a = c.args in
    let room = length a.path.now in
    let reply = c.resume_reply-reply.ensures in
    let v = settled_valid a.p.now room c.if-path-lt8192.false in
    let r =
    resume_where a.inputs.now a.p.now room a.budget a.regs.now (supplied_of a.supplied) (state_of a.state) c.resume_reply-reply.result _ a.path.now _ a.state
    (λ s. reply.reply (v s) room c.if-path-lt8192.false) (λ s. c.write_place.ensures (v s, reply.place (v s))) reply.state in
    record { reply = r.0; place = r.1.0; state = r.1.1.0; number = r.1.1.1.0; lawful = r.1.1.1.1 }
