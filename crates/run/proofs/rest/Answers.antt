-- The steps that are left, with nothing kept.
use Rattle.std.proofs.Common.{[], ap, arith}
use Rattle.run.specs.Calls.{after}
use Rattle.run.proofs.Single.{few_counted}
use Rattle.run.proofs.Whole.{steps_writable}
use Rattle.run.proofs.rest.Goals as goal

pub overflow_add-result : goal.overflow_add-result
overflow_add-result c =
    let a = c.args in
    let e = rw c.new.ensures at c.steps-reply.ensures.reply in
    omega (arith, few_counted a.inputs.now a.p.now a.from.left a.from.at a.regs.now _ c.steps-reply.result e, c.requires.1)

pub returns-clause-reply : goal.returns-clause-reply
unfolding after
returns-clause-reply c = ap (after c.args.done) (rw c.new.ensures at c.steps-reply.ensures.reply)

pub returns-clause-place : goal.returns-clause-place
returns-clause-place c =
    let a = c.args in
    let e = rw c.new.ensures at c.steps-reply.ensures.reply in
    λ v. c.write_place.ensures (v, steps_writable a.inputs.now a.p.now 8192 a.from.left a.from.at [] a.regs.now _ c.steps-reply.result v (omega arith) e c.steps-reply.ensures.place)
