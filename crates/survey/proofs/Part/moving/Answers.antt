use Rattle.std.proofs.Common.{rules, ◌≡◌, arith}
use mathlib.Core.Path.{◌∙◌, sym}
use Rattle.survey.specs.Table.{row_in}
use Rattle.survey.proofs.Chosen.{moving_given, moving_none}
use Rattle.survey.proofs.Rows.{either}
use Rattle.survey.proofs.Part.moving.Goals as goal

pub returns : goal.returns
returns c =
    let part = c.args.self.now in
    let node = part.node in
    either c.child.result c.child.ensures c.is_some_and.ensures
    (λ past e. e ∙ sym (moving_none part.by.symbol node.formula.now node.number node.owned.formed (omega (arith, past))))
    (λ child given post.
    let is : c.is_some_and.result ≡ (row_in child.rows.now child.number).has = search rules in
    is ∙ moving_given part.by.symbol part.by.state node.formula.now node.rows.now node.number child.formula.now child.rows.now child.number given part.ready)
