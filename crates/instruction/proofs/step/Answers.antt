use mathlib.Core.Path.{sym, ap, ◌∙◌}
use Rattle.layout.specs.Decode.{destination_at, path_number}
use Rattle.work.specs.View.{kept_values}
use Rattle.instruction.specs.declared.Effect.TheVariants.{Work}
use Rattle.instruction.proofs.Done.{infinite_done, jump_done, question_done, undefined_done, value_done}
use Rattle.instruction.proofs.step.Goals as goal

pub returns-in-Jump : goal.returns-in-Jump
returns-in-Jump c =
    jump_done c.args.inputs.now c.args.p.now c.args.n (kept_values c.args.kept) c.args.regs.now c.effect_at.ensures c.in-Jump.to c.in-Jump.is

pub returns-in-Work-Value : goal.returns-in-Work-Value
unfolding destination_at
returns-in-Work-Value c =
    value_done c.args.inputs.now c.args.p.now c.args.n (kept_values c.args.kept) c.args.regs.now c.effect_at.ensures c.in-Work-Value.v c.word.result
    (c.in-Work-Value.is ∙ ap Work c.in-Work-Value.field-0-is) (sym c.is_finite.ensures ∙ c.if-is_finite.true) c.word.ensures.0 c.store.ensures

pub returns-in-Work-Value-2 : goal.returns-in-Work-Value-2
unfolding path_number
returns-in-Work-Value-2 c =
    infinite_done c.args.inputs.now c.args.p.now c.args.n (kept_values c.args.kept) c.args.regs.now c.effect_at.ensures c.in-Work-Value.v c.word-in-Work-Value-2.result
    (c.in-Work-Value.is ∙ ap Work c.in-Work-Value.field-0-is) (sym c.is_finite.ensures ∙ c.if-is_finite.false) c.word-in-Work-Value-2.ensures.0

pub returns-in-Work-Undefined : goal.returns-in-Work-Undefined
unfolding path_number
returns-in-Work-Undefined c =
    undefined_done c.args.inputs.now c.args.p.now c.args.n (kept_values c.args.kept) c.args.regs.now c.effect_at.ensures c.word-in-Work-Undefined.result
    (c.in-Work-Undefined.is ∙ ap Work c.in-Work-Undefined.field-0-is) c.word-in-Work-Undefined.ensures.0

pub returns-in-Work-Question : goal.returns-in-Work-Question
returns-in-Work-Question c =
    question_done c.args.inputs.now c.args.p.now c.args.n (kept_values c.args.kept) c.args.regs.now c.effect_at.ensures c.in-Work-Question.q
    (c.in-Work-Question.is ∙ ap Work c.in-Work-Question.field-0-is)
