-- The instruction's result is stored, and the steps after it go on.
use Rattle.std.proofs.Common.{arith, ◌+◌, ◌-◌}
use Rattle.layout.specs.Decode.{destination_at}
use Rattle.run.proofs.Single.{answered_reply, few_counted}
use Rattle.run.proofs.answered.Goals as goal

pub overflow_add-result : goal.overflow_add-result
overflow_add-result c =
    let a = c.args in
    let e = rw (c.next.ensures, c.new.ensures) at c.steps-reply.ensures.reply in
    let few = few_counted a.inputs.now a.p.now (a.from.left - 1) (a.from.at + 1) c.store.new.xs _ c.steps-reply.result e in
    omega (arith, few, c.requires.0)

pub returns-clause-reply : goal.returns-clause-reply
unfolding destination_at
returns-clause-reply c =
    let a = c.args in
    let pre = c.requires in
    let e = rw (c.next.ensures, c.new.ensures) at c.steps-reply.ensures.reply in
    answered_reply a.inputs.now a.p.now a.regs.now c.store.new.xs _ a.from.left a.from.at c.word-to.result a.value c.steps-reply.result pre.0 pre.1 pre.2 pre.3
    c.word-to.ensures.0 c.store.ensures e
