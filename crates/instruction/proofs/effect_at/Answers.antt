use native.Mathlib.Numerals.{add-one}
use lib.Ieee.{of_bits}
use Rattle.std.proofs.Common.{◌∙◌}
use Rattle.work.specs.View.{kept_values}
use Rattle.instruction.proofs.Opcodes.{passed_is, taken_is}
use Rattle.instruction.proofs.effect_at.Goals as goal

pub returns-then-condition : goal.returns-then-condition
unfolding of_bits
returns-then-condition c =
    taken_is c.args.inputs.now c.args.p.now c.args.n (kept_values c.args.kept) c.args.regs.now c.from-op.result c.word-then-condition.result c.register-condition.result
    (c.from-op.ensures ∙ c.byte.ensures) c.in-3.is c.register-condition.ensures c.if-condition.true c.word-then-condition.ensures.0

pub returns-else-condition : goal.returns-else-condition
unfolding of_bits
returns-else-condition c =
    passed_is c.args.inputs.now c.args.p.now c.args.n (kept_values c.args.kept) c.args.regs.now c.from-op.result _ c.register-condition.result
    (c.from-op.ensures ∙ c.byte.ensures) c.in-3.is c.register-condition.ensures c.if-condition.false (add-one c.args.n)
