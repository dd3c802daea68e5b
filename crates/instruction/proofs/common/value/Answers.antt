use mathlib.Core.Path.{refl}
use lib.Ieee.{add, binary64, eq, le, lt, mul, ne, neg, of_bits, sub}
use Rattle.arithmetic.specs.Value.{0f, truth_value}
use Rattle.instruction.proofs.Stores.{constant_stores, copy_stores, load_stores, nothing_stores, operation_stores, quotient_stores}
use Rattle.instruction.proofs.common.value.Goals as goal

pub returns-in-0 : goal.returns-in-0
returns-in-0 c = constant_stores c.args.op c.args.a c.args.b c.args.inputs.now c.args.regs.now _ c.of_bits.result c.in-0.is refl c.of_bits.ensures

pub returns-in-1 : goal.returns-in-1
returns-in-1 c = load_stores c.args.op c.args.a c.args.b c.args.inputs.now c.args.regs.now c.value_at.result c.in-1.is c.value_at.ensures

pub returns-in-2 : goal.returns-in-2
returns-in-2 c = copy_stores c.args.op c.args.a c.args.b c.args.inputs.now c.args.regs.now c.value_at-in-2.result c.in-2.is c.value_at-in-2.ensures

pub returns-in-5 : goal.returns-in-5
returns-in-5 c =
    operation_stores c.args.op c.args.a c.args.b c.args.inputs.now c.args.regs.now 5 (λ u w. u) c.value_at-in-5.result _ _
    c.in-5.is c.value_at-in-5.ensures refl refl (λ b count z n kept. refl)

pub returns-in-6 : goal.returns-in-6
returns-in-6 c =
    operation_stores c.args.op c.args.a c.args.b c.args.inputs.now c.args.regs.now 6 (λ u w. neg u) c.value_at-in-6.result _ _
    c.in-6.is c.value_at-in-6.ensures refl refl (λ b count z n kept. refl)

pub returns-in-7 : goal.returns-in-7
unfolding of_bits
returns-in-7 c =
    operation_stores c.args.op c.args.a c.args.b c.args.inputs.now c.args.regs.now 7 (λ u w. truth_value (eq u 0f)) c.value_at-in-7.result _ _
    c.in-7.is c.value_at-in-7.ensures refl c.truth_value.ensures (λ b count z n kept. refl)

pub returns-in-8 : goal.returns-in-8
returns-in-8 c =
    operation_stores c.args.op c.args.a c.args.b c.args.inputs.now c.args.regs.now 8 (λ u w. add binary64 u w) c.value_at-in-8.result c.value_at-in-8-2.result _
    c.in-8.is c.value_at-in-8.ensures c.value_at-in-8-2.ensures refl (λ b count z n kept. refl)

pub returns-in-9 : goal.returns-in-9
returns-in-9 c =
    operation_stores c.args.op c.args.a c.args.b c.args.inputs.now c.args.regs.now 9 (λ u w. sub binary64 u w) c.value_at-in-9.result c.value_at-in-9-2.result _
    c.in-9.is c.value_at-in-9.ensures c.value_at-in-9-2.ensures refl (λ b count z n kept. refl)

pub returns-in-10 : goal.returns-in-10
returns-in-10 c =
    operation_stores c.args.op c.args.a c.args.b c.args.inputs.now c.args.regs.now 10 (λ u w. mul binary64 u w) c.value_at-in-10.result c.value_at-in-10-2.result _
    c.in-10.is c.value_at-in-10.ensures c.value_at-in-10-2.ensures refl (λ b count z n kept. refl)

pub returns-in-11 : goal.returns-in-11
returns-in-11 c =
    quotient_stores c.args.op c.args.a c.args.b c.args.inputs.now c.args.regs.now c.value_at-in-11.result c.value_at-in-11-2.result _
    c.in-11.is c.value_at-in-11.ensures c.value_at-in-11-2.ensures refl

pub returns-in-14 : goal.returns-in-14
returns-in-14 c =
    operation_stores c.args.op c.args.a c.args.b c.args.inputs.now c.args.regs.now 14 (λ u w. truth_value (lt u w)) c.value_at-in-14.result c.value_at-in-14-2.result _
    c.in-14.is c.value_at-in-14.ensures c.value_at-in-14-2.ensures c.truth_value-in-14.ensures (λ b count z n kept. refl)

pub returns-in-15 : goal.returns-in-15
returns-in-15 c =
    operation_stores c.args.op c.args.a c.args.b c.args.inputs.now c.args.regs.now 15 (λ u w. truth_value (le u w)) c.value_at-in-15.result c.value_at-in-15-2.result _
    c.in-15.is c.value_at-in-15.ensures c.value_at-in-15-2.ensures c.truth_value-in-15.ensures (λ b count z n kept. refl)

pub returns-in-16 : goal.returns-in-16
returns-in-16 c =
    operation_stores c.args.op c.args.a c.args.b c.args.inputs.now c.args.regs.now 16 (λ u w. truth_value (lt w u)) c.value_at-in-16.result c.value_at-in-16-2.result _
    c.in-16.is c.value_at-in-16.ensures c.value_at-in-16-2.ensures c.truth_value-in-16.ensures (λ b count z n kept. refl)

pub returns-in-17 : goal.returns-in-17
returns-in-17 c =
    operation_stores c.args.op c.args.a c.args.b c.args.inputs.now c.args.regs.now 17 (λ u w. truth_value (le w u)) c.value_at-in-17.result c.value_at-in-17-2.result _
    c.in-17.is c.value_at-in-17.ensures c.value_at-in-17-2.ensures c.truth_value-in-17.ensures (λ b count z n kept. refl)

pub returns-in-18 : goal.returns-in-18
returns-in-18 c =
    operation_stores c.args.op c.args.a c.args.b c.args.inputs.now c.args.regs.now 18 (λ u w. truth_value (eq u w)) c.value_at-in-18.result c.value_at-in-18-2.result _
    c.in-18.is c.value_at-in-18.ensures c.value_at-in-18-2.ensures c.truth_value-in-18.ensures (λ b count z n kept. refl)

pub returns-in-19 : goal.returns-in-19
returns-in-19 c =
    operation_stores c.args.op c.args.a c.args.b c.args.inputs.now c.args.regs.now 19 (λ u w. truth_value (ne u w)) c.value_at-in-19.result c.value_at-in-19-2.result _
    c.in-19.is c.value_at-in-19.ensures c.value_at-in-19-2.ensures c.truth_value-in-19.ensures (λ b count z n kept. refl)

pub returns-in_default : goal.returns-in_default
unfolding of_bits
returns-in_default c = nothing_stores c.args.op c.args.a c.args.b c.args.inputs.now c.args.regs.now _ refl
