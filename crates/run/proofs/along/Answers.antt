-- The common ones, then one of those that take longer.
use Rattle.std.proofs.Common.{arith}
use Rattle.layout.specs.Decode.{code_count}
use Rattle.run.proofs.Looping.{reaches_common, reaches_on, reaches_other}
use Rattle.run.proofs.along.Goals as goal

pub returns-in-None : goal.returns-in-None
returns-in-None c =
    let inputs = c.args.inputs.now in
    let p = c.args.p.now in
    reaches_other inputs p (reaches_on inputs p c.loop-place.invariant c.shortly-place.ensures) c.in-None.is (c.step.ensures inputs)

pub loop-place-preserved : goal.loop-place-preserved
unfolding code_count
loop-place-preserved c =
    let inputs = c.args.inputs.now in
    let p = c.args.p.now in
    let R = reaches_on inputs p c.loop-place.invariant c.shortly-place.ensures in
    rw c.next-place.ensures
    (reaches_common inputs p R c.in-Some.to (omega arith) (omega (arith, c.word-code.ensures.0)) c.in-Some.is (c.step.ensures inputs))
