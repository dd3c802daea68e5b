use Rattle.survey.proofs.Rows.{exponent_given, exponent_none}
use mathlib.Core.Path.{◌∙◌, sym, refl}
use Rattle.survey.proofs.Node.exponent.Goals as goal

pub returns-in_err-child : goal.returns-in_err-child
returns-in_err-child c =
    let node = c.args.self.now in
    rw c.from_residual.ensures (sym (exponent_none node.formula.now node.number node.owned.formed c.in_err-child.ensures))

pub returns : goal.returns
returns c =
    let node = c.args.self.now in
    c.literal.ensures ∙ sym (exponent_given node.formula.now node.rows.now node.number 1 _ _ _ c.in_ok-child.ensures refl)
