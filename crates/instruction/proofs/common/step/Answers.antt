use mathlib.Core.Path.{sym, ◌∙◌}
use lib.Ieee.{of_bits}
use Rattle.instruction.proofs.Stores.{went_jump, went_on, went_taken, went_value}
use Rattle.instruction.proofs.common.step.Goals as goal

pub returns-in-3 : goal.returns-in-3
unfolding of_bits
returns-in-3 c =
    let a = c.known_word-a in
    let to = c.known_word in
    went_taken c.args.inputs.now c.args.p.now c.args.n c.args.regs.now c.from-op.result a.result to.result c.value_at.result
    c.from-op.ensures c.in-3.is a.ensures.0 c.value_at.ensures c.if-value_at.true to.ensures.0

pub returns-in-3-2 : goal.returns-in-3-2
unfolding of_bits
returns-in-3-2 c =
    let a = c.known_word-a in
    went_on c.args.inputs.now c.args.p.now c.args.n c.args.regs.now c.from-op.result a.result c.value_at.result
    c.from-op.ensures c.in-3.is a.ensures.0 c.value_at.ensures c.if-value_at.false

pub returns-in-4 : goal.returns-in-4
returns-in-4 c =
    let to = c.known_word-in-4 in
    went_jump c.args.inputs.now c.args.p.now c.args.n c.args.regs.now c.from-op.result to.result c.from-op.ensures c.in-4.is to.ensures.0

pub returns-else-not-is_finite : goal.returns-else-not-is_finite
returns-else-not-is_finite c =
    let a = c.known_word-a in
    let b = c.known_word-b in
    let to = c.known_word-in_default in
    went_value c.args.inputs.now c.args.p.now c.args.n c.args.regs.now c.from-op.result a.result b.result to.result c.value-v.result
    c.from-op.ensures a.ensures.0 b.ensures.0 c.value-v.ensures (sym c.is_finite.ensures ∙ c.if-not-is_finite.false) to.ensures.0 c.store.ensures
