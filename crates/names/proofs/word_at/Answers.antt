use mathlib.Core.Path.{sym, ◌∙◌}
use Rattle.names.proofs.Letters.{spelling_more}
use Rattle.names.proofs.word_at.Goals as goal

pub loop-end-preserved : goal.loop-end-preserved
loop-end-preserved c =
    let loop = c.loop-end in
    spelling_more c.args.line.now c.args.at loop.end loop.mark c.from.result loop.invariant c.loop-end-test.true
    (sym c.is_letter_or_digit.ensures ∙ c.if-not-is_letter_or_digit.false) c.from.ensures
