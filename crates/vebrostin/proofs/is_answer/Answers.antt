-- The question that the cells hold is the only one of the instruction.
use Rattle.std.proofs.Common.{arith, rules, sym, ◌∙◌}
use Rattle.layout.specs.Decode.{code_count}
use Rattle.vebrostin.proofs.Straight.{answers, where_some}
use Rattle.vebrostin.proofs.is_answer.Goals as goal

pub question_at-requires : goal.question_at-requires
unfolding code_count
question_at-requires c = omega (arith, c.word.ensures.0, c.if-word-at.false)

pub returns : goal.returns
unfolding code_count
returns c =
    let a = c.args in
    where_some c.question_at.result c.is_some_and.ensures c.question_at.ensures
    (λ q P R e. answers a.program.now a.registers.now a.cells.now a.value q (omega (arith, c.word.ensures.0, c.if-word-at.false)) c.if-cells-ne0.false (sym c.is_finite.ensures ∙ c.if-not-is_finite.false) P (search rules))
