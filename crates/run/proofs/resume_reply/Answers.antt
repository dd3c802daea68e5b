-- 5, then 11, then the steps.
use Rattle.std.proofs.Common.{ap, arith, refl, sym, ◌∙◌}
use Rattle.work.specs.View.{kept_values}
use Rattle.run.specs.Calls.{supplying}
use Rattle.run.specs.Views.{reply_of, state_of, supplied_of}
use Rattle.run.proofs.Single.{budget_left}
use Rattle.run.proofs.Whole.{resume_5, resume_11, resume_goes, steps_back, steps_writable}
use Rattle.run.proofs.resume_reply.Goals as goal

pub returns-then-unfit-clause-reply : goal.returns-then-unfit-clause-reply
returns-then-unfit-clause-reply c =
    let a = c.args in
    λ v room l.
    ap (λ r. reply_of a.p.now r a.regs.now) c.refused.ensures
    ∙ resume_5 a.inputs.now a.p.now room a.budget a.regs.now (supplied_of a.supplied) (state_of a.state) l v (sym c.unfit.ensures ∙ c.if-unfit.true)

pub returns-then-stale-clause-reply : goal.returns-then-stale-clause-reply
returns-then-stale-clause-reply c =
    let a = c.args in
    λ v room l.
    ap (λ r. reply_of a.p.now r a.regs.now) c.refused-then-stale.ensures
    ∙ resume_11 a.inputs.now a.p.now room a.budget a.regs.now (supplied_of a.supplied) (state_of a.state) l v (sym c.unfit.ensures ∙ c.if-unfit.false) (sym c.stale.ensures ∙ c.if-stale.true)

pub goes-requires : goal.goes-requires
goes-requires c =
    let a = c.args in
    (budget_left a.inputs.now a.p.now a.regs.now a.budget (sym c.unfit.ensures ∙ c.if-unfit.false), sym c.stale.ensures ∙ c.if-stale.false)

pub returns : goal.returns
returns c =
    let a = c.args in
    let s = a.state in
    let kept = supplying (kept_values s.kept) (supplied_of a.supplied) in
    record {
      reply = λ v room l.
          c.goes.ensures.reply
          ∙ resume_goes a.inputs.now a.p.now room a.budget a.regs.now (supplied_of a.supplied) (state_of s) kept refl l v (sym c.unfit.ensures ∙ c.if-unfit.false) (sym c.stale.ensures ∙ c.if-stale.false);
      place = λ v. steps_writable a.inputs.now a.p.now 8192 a.budget s.position kept a.regs.now _ c.goes.result v (omega arith) c.goes.ensures.reply c.goes.ensures.place;
      state = steps_back a.inputs.now a.p.now a.budget s.position kept a.regs.now _ c.goes.result s c.goes.ensures.reply;
    }
