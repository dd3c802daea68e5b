-- What was done before an instruction, and what comes of it.
use Rattle.std.proofs.Common.{arith, ◌-◌, ◌∙◌}
use Rattle.layout.specs.Decode.{code_count}
use Rattle.work.specs.View.{kept_values}
use Rattle.run.proofs.Looping.{asked_is, domain_is, known_place, reaches_bare, reaches_next, reaches_on, reaches_start}
use Rattle.run.proofs.steps.Goals as goal
use Rattle.run.proofs.steps.Goals.{then-kept-eq0, else-kept-eq0, then-loop-place-test+else-place-code, else-loop-place-test}

pub loop-place-init : goal.loop-place-init
loop-place-init c =
    let a = c.args in
    elim c.if-kept-eq0.branch [
      | then-kept-eq0 w ↦ rw (w.regs-is, w.place-is) (reaches_bare a.inputs.now a.p.now a.kept w.if-kept-eq0.true w.along-place.ensures)
      | else-kept-eq0 w ↦ rw (w.regs-is, w.place-is) (reaches_start a.inputs.now a.p.now a.from.left a.from.at (kept_values a.kept) a.regs.now)
    ]

pub loop-place-preserved : goal.loop-place-preserved
unfolding code_count
loop-place-preserved c =
    let inputs = c.args.inputs.now in
    let p = c.args.p.now in
    let T = rw c.in-Next.is at c.step.ensures in
    let R = reaches_next inputs p c.loop-place.invariant c.in-Next.to c.loop-place-test.true (omega (arith, c.word-code.ensures.0)) T in
    rw c.new-none.ensures (reaches_on inputs p R (rw c.next.ensures at c.along-place-in-Next.ensures))

pub returns-in-Domain-clause-reply : goal.returns-in-Domain-clause-reply
unfolding code_count
returns-in-Domain-clause-reply c =
    let a = c.args in
    let l = c.loop-place in
    domain_is a.inputs.now a.p.now l.place.left (a.from.left - l.place.left) l.place.at c.word-code.result c.in-Domain.k (kept_values l.held) l.regs c.word-code.ensures.0
    c.loop-place-test.true c.if-place-code.true c.bare.ensures (rw c.in-Domain.is at c.step.ensures)
    ∙ l.invariant.rest

pub returns-in-Domain-clause-place : goal.returns-in-Domain-clause-place
unfolding code_count
returns-in-Domain-clause-place c =
    known_place c.args.inputs.now c.args.p.now c.loop-place.place.at c.in-Domain.k (omega (arith, c.word-code.ensures.0)) (rw c.in-Domain.is at c.step.ensures)

pub returns-in-Question-clause-reply : goal.returns-in-Question-clause-reply
unfolding code_count
returns-in-Question-clause-reply c =
    let a = c.args in
    let l = c.loop-place in
    asked_is a.inputs.now a.p.now l.place.left (a.from.left - l.place.left) l.place.at c.in-Question.question (kept_values l.held) l.regs
    c.loop-place-test.true (omega (arith, c.word-code.ensures.0)) (rw c.in-Question.is at c.step.ensures)
    ∙ l.invariant.rest

pub returns-clause-reply : goal.returns-clause-reply
unfolding code_count
returns-clause-reply c =
    let place = c.loop-place.place in
    c.ends.ensures.reply c.args.inputs.now place.left
    (λ h. elim c.loop-place-test.branch [
      | then-loop-place-test+else-place-code w ↦ omega (arith, w.if-place-code.false, c.word-code.ensures.0, h)
      | else-loop-place-test w ↦ omega (arith, w.loop-place-test.false)
    ])
    ∙ c.loop-place.invariant.rest
