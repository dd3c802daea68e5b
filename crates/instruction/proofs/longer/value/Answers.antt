use mathlib.Core.Bool.{true, false}
use mathlib.Core.Path.{ap, refl, ◌∙◌}
use native.Mathlib.Omega.{arith}
use lib.Ieee.{of_bits}
use Rattle.work.specs.declared.Outcome.TheVariants.{Value}
use Rattle.work.proofs.Answers.{given}
use Rattle.instruction.proofs.Stores.{extremum_works, modulo_works, nothing_works, single_works}
use Rattle.instruction.proofs.longer.value.Goals as goal

pub returns-in-13 : goal.returns-in-13
returns-in-13 c =
    let x = c.known_register in
    let y = c.known_register-in-13 in
    modulo_works c.args.p.now c.args.at c.args.op c.args.regs.now x.result y.result c.remainder.result c.in-13.is x.ensures y.ensures c.remainder.ensures

pub returns-in-23 : goal.returns-in-23
returns-in-23 c =
    let x = c.known_register-in-23 in
    single_works c.args.p.now c.args.at c.args.op c.args.regs.now 23 x.result c.sqrt.result c.in-23.is (omega arith) (omega arith) x.ensures
    (λ kept y z. ap Value c.sqrt.ensures ∙ given _ kept)

pub returns-in-28 : goal.returns-in-28
returns-in-28 c =
    let x = c.known_register-in-28 in
    single_works c.args.p.now c.args.at c.args.op c.args.regs.now 28 x.result c.abs.result c.in-28.is (omega arith) (omega arith) x.ensures
    (λ kept y z. ap Value c.abs.ensures ∙ given _ kept)

pub returns-in-29 : goal.returns-in-29
returns-in-29 c =
    let x = c.known_register-in-29 in
    single_works c.args.p.now c.args.at c.args.op c.args.regs.now 29 x.result c.floor.result c.in-29.is (omega arith) (omega arith) x.ensures
    (λ kept y z. ap Value c.floor.ensures ∙ given _ kept)

pub returns-in-30 : goal.returns-in-30
returns-in-30 c =
    let x = c.known_register-in-30 in
    single_works c.args.p.now c.args.at c.args.op c.args.regs.now 30 x.result c.ceil.result c.in-30.is (omega arith) (omega arith) x.ensures
    (λ kept y z. ap Value c.ceil.ensures ∙ given _ kept)

pub returns-in-31 : goal.returns-in-31
returns-in-31 c =
    extremum_works c.args.p.now c.args.at c.args.op c.args.regs.now false c.half.result c.known_word.result c.extremum.result c.in-31.is
    c.half.ensures.0 c.known_word.ensures.0 c.extremum.ensures

pub returns-in-32 : goal.returns-in-32
returns-in-32 c =
    let count = c.half-in-32 in
    let a = c.known_word-in-32 in
    extremum_works c.args.p.now c.args.at c.args.op c.args.regs.now true count.result a.result c.extremum-in-32.result c.in-32.is
    count.ensures.0 a.ensures.0 c.extremum-in-32.ensures

pub returns-in_default : goal.returns-in_default
unfolding of_bits
returns-in_default c = nothing_works c.args.p.now c.args.at c.args.op c.args.regs.now _ refl
