use Rattle.lines.proofs.Totals.{default_is, line_adds}
use Rattle.lines.specs.Sums.{totals_of}
use Rattle.std.proofs.Common.{refl}
use Rattle.lines.proofs.sums.Totals.with_line.Goals as goal
use Rattle.lines.proofs.sums.Totals.with_line.Goals.{in-Value, in-Question, in-Spent, in-Domain, in-Refused}

pub returns : goal.returns
returns c =
    let args = c.args in
    let line = c.match-outcome.line in
    line_adds args.self args.outcome (totals_of line) c.add.result c.add.ensures
    (λ b. elim c.match-outcome.branch [
      | in-Value w ↦ rw (w.in-Value.is, w.line-is, default_is c.default.result c.default.ensures) refl
      | in-Question w ↦ rw (w.in-Question.is, w.line-is, default_is c.default.result c.default.ensures) refl
      | in-Spent w ↦ rw (w.in-Spent.is, w.line-is, default_is c.default.result c.default.ensures) refl
      | in-Domain w ↦ rw (w.in-Domain.is, w.line-is, default_is c.default.result c.default.ensures) refl
      | in-Refused w ↦ rw (w.in-Refused.is, w.line-is, default_is w.default-in-Refused.result w.default-in-Refused.ensures) refl
    ])
