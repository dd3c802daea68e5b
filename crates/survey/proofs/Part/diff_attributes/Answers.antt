use Rattle.std.proofs.Common.{rules, ◌≡◌}
use mathlib.Core.Path.{◌∙◌, ap, sym}
use Rattle.derivative.specs.Attributes.{attributes_of}
use Rattle.survey.specs.Table.{reading, row_in}
use Rattle.survey.proofs.Rows.{either, surveyed_given, derived_given, derived_none}
use Rattle.survey.proofs.Part.diff_attributes.Goals as goal

pub returns : goal.returns
returns c =
    let part = c.args.self.now in
    let node = part.node in
    either c.child.result c.child.ensures c.map_or.ensures
    (λ past e.
    ap reading e ∙ c.of_literal.ensures
    ∙ ap attributes_of (sym (derived_none part.by.symbol part.by.state node.formula.now node.number c.args.i node.owned.formed past)))
    (λ child given post.
    let is : c.map_or.result ≡ (row_in child.rows.now child.number).diff = search rules in
    ap reading is
    ∙ (surveyed_given node.formula.now node.rows.now node.number c.args.i child.formula.now child.rows.now child.number given part.by.symbol part.by.state part.ready).diff
    ∙ ap attributes_of
    (sym (derived_given node.formula.now node.rows.now node.number c.args.i child.formula.now child.rows.now child.number given part.by.symbol part.by.state)))
