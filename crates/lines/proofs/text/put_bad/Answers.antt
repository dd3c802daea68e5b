use Rattle.lines.proofs.Texts.{wrote, wrote_then}
use Rattle.formula.specs.Text.{ascii, decimal}
use Rattle.refusals.specs.Refusals.{number_of}
use Rattle.std.proofs.Common.{◌≡◌, sym, ◌∙◌, arith}
use Rattle.lines.proofs.text.put_bad.Goals as goal

pub returns-clause-wrote : goal.returns-clause-wrote
returns-clause-wrote c =
    let args = c.args in
    let word = c.put_bytes-number in
    let digits = c.put_decimal in
    let n : c.from.result ≡ number_of args.refusal = c.from.ensures ∙ c.number.ensures in
    rw (sym n)
    (wrote_then args.out.now args.at (ascii "bad,") word.new.out word.result (decimal c.from.result) digits.new.out digits.result
    (omega (arith, word.ensures.0, c.requires)) (wrote _ _ _ _ _ word.ensures) (wrote _ _ _ _ _ digits.ensures))
