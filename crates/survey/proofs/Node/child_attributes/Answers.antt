use Rattle.std.proofs.Common.{rules, ◌≡◌}
use Rattle.survey.proofs.Rows.{either, child_given, child_none}
use Rattle.derivative.specs.Attributes.{attributes_of}
use mathlib.Core.Path.{◌∙◌, ap, sym}
use Rattle.survey.specs.Table.{reading, tree}
use Rattle.survey.proofs.Node.child_attributes.Goals as goal

pub returns : goal.returns
returns c =
    let node = c.args.self.now in
    either c.child.result c.child.ensures c.map_or.ensures
    (λ past e. ap reading e ∙ c.of_literal.ensures ∙ ap attributes_of (sym (child_none node.formula.now node.number c.args.i node.owned.formed past)))
    (λ child given post.
    let is : reading c.map_or.result ≡ attributes_of (tree child.formula.now child.number) = search rules in
    is ∙ ap attributes_of (sym (child_given node.formula.now node.rows.now node.number c.args.i child.formula.now child.rows.now child.number given)))
