use mathlib.Core.Bool.{false}
use mathlib.Core.Path.{refl, ◌∙◌}
use Rattle.differentiate.proofs.Lists.{as_text, written_over}
use Rattle.differentiate.proofs.Leaves.{literal_is, literal_node}
use Rattle.differentiate.proofs.NodesForm.put_literal.Goals as goal

pub returns : goal.returns
returns c =
    as_text _ _ _ _ _ (c.put_long.ensures ∙ literal_is c.args.bits ∙ literal_node false _ c.args.node.now.number c.args.bits refl)
    (written_over c.put_long.new.p c.args.out.now _ _ c.put_bytes.ensures.0 c.put_bytes.ensures.1)
