use Rattle.std.proofs.Common.{◌∷◌, []}
use Rattle.values.proofs.Readings.{bad_on_all, byte_after, comma_after, early_after}
use Rattle.values.proofs.read_byte.Goals as goal

pub returns-in_err-line : goal.returns-in_err-line
returns-in_err-line c = λ seen r. rw c.from_residual.ensures (bad_on_all seen (c.args.b ∷ []) (rw c.in_err-line.was at r))

pub returns-then-b-ne44 : goal.returns-then-b-ne44
returns-then-b-ne44 c =
    λ seen r. byte_after seen c.in_ok-line.line c.args.values.now c.args.b c.with_digit.result c.if-b-ne44.true c.with_digit.ensures (rw c.in_ok-line.was at r)

pub returns-then-line-ne16 : goal.returns-then-line-ne16
returns-then-line-ne16 c =
    λ seen r. rw c.if-b-ne44.false (early_after seen c.in_ok-line.line c.args.values.now c.if-line-ne16.true (rw c.in_ok-line.was at r))

pub returns : goal.returns
returns c =
    λ seen r. rw (c.after.ensures, c.keep.ensures.0, c.keep.ensures.1, c.if-b-ne44.false)
    (comma_after seen c.in_ok-line.line c.args.values.now c.if-line-ne16.false (rw c.in_ok-line.was at r))
