use native.Mathlib.Omega.{arith}
use borrow.Author.Tests.{ne_eqb}
use mathlib.Core.Path.{◌∙◌, sym}
use Rattle.survey.proofs.Rows.{first_inside}
use Rattle.survey.proofs.Filling.{symbol_yes, symbol_no}
use Rattle.survey.proofs.is_symbol.Goals as goal

pub overflow_mul-k : goal.overflow_mul-k
overflow_mul-k c = omega (arith, first_inside c.args.f.now c.args.k c.requires)

pub returns-then-byte-eq-SYMBOL : goal.returns-then-byte-eq-SYMBOL
returns-then-byte-eq-SYMBOL c =
    let args = c.args in
    symbol_yes args.f.now args.k args.s c.requires c.word.result c.word.ensures.0
    (sym c.byte.ensures ∙ c.if-byte-eq-SYMBOL.true)

pub returns-else-byte-eq-SYMBOL : goal.returns-else-byte-eq-SYMBOL
returns-else-byte-eq-SYMBOL c =
    let args = c.args in
    ne_eqb c.byte.result 2 c.if-byte-eq-SYMBOL.false ∙ symbol_no args.f.now args.k args.s c.requires (λ e. c.if-byte-eq-SYMBOL.false (c.byte.ensures ∙ e))
