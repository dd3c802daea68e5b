use mathlib.Core.Bool.{false}
use mathlib.Core.Path.{refl, ap, ◌∙◌}
use Rattle.survey.specs.declared.Row.{Row}
use Rattle.survey.proofs.Rows.{own_row}
use Rattle.differentiate.proofs.Lists.{as_text, room_as}
use Rattle.differentiate.proofs.Leaves.{copy_node}
use Rattle.differentiate.proofs.NodesForm.put_copy.Goals as goal

pub put_nodes-requires : goal.put_nodes-requires
put_nodes-requires c =
    let node = c.args.node.now in
    (node.owned.formed, (ap (λ (r : Row). r.nodes) c.row.ensures ∙ (own_row node.formula.now node.rows.now node.number node.owned).nodes), room_as _ _ _ (copy_node node.formula.now node.rows.now node.number node.owned false refl) c.requires)

pub returns : goal.returns
returns c =
    let node = c.args.node.now in
    as_text _ _ _ _ _ (copy_node node.formula.now node.rows.now node.number node.owned false refl) c.put_nodes.ensures
