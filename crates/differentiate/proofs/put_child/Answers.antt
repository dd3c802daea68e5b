use mathlib.Core.Bool.{false}
use Rattle.differentiate.proofs.Lists.{as_text, room_as}
use Rattle.differentiate.proofs.Leaves.{bytes_room, none_text}
use Rattle.differentiate.proofs.Texts.{copy_given}
use Rattle.differentiate.proofs.put_child.Goals as goal

pub put_copy-requires : goal.put_copy-requires
put_copy-requires g c =
    room_as _ _ _
    (copy_given g.F.Form.records 0 false c.args.node.now.formula.now c.args.node.now.rows.now c.args.node.now.number c.args.i c.in-Some.child.formula.now c.in-Some.child.rows.now c.in-Some.child.number c.in-Some.ensures)
    c.requires

pub put_literal-requires : goal.put_literal-requires
put_literal-requires g c =
    bytes_room g.F.Form.records _ _ _ (none_text g.F.Form.records c.args.node.now.formula.now c.args.node.now.number c.args.i c.args.node.now.owned.formed c.in-None.ensures)
    c.requires

pub returns-in-Some : goal.returns-in-Some
returns-in-Some g c =
    as_text _ _ _ _ _
    (copy_given g.F.Form.records 0 false c.args.node.now.formula.now c.args.node.now.rows.now c.args.node.now.number c.args.i c.in-Some.child.formula.now c.in-Some.child.rows.now c.in-Some.child.number c.in-Some.ensures)
    c.put_copy.ensures

pub returns-in-None : goal.returns-in-None
returns-in-None g c =
    as_text _ _ _ _ _ (none_text g.F.Form.records c.args.node.now.formula.now c.args.node.now.number c.args.i c.args.node.now.owned.formed c.in-None.ensures)
    c.put_literal.ensures
