use mathlib.Core.Path.{◌∙◌, ap}
use Prim.Native.Nat.{min}
use Rattle.formula.specs.Optional.{option_of}
use Rattle.survey.specs.declared.Row.{Row}
use Rattle.survey.proofs.Rows.{own_right}
use Rattle.survey.proofs.Node.attributes.Goals as goal

pub returns : goal.returns
returns c =
    let node = c.args.self.now in
    own_right node.formula.now node.rows.now node.number node.owned c.min.result c.min-2.result (option_of c.literal.result)
    (c.min.ensures ∙ ap (λ (r : Row). min r.nodes 16385) c.row-row.ensures) (c.min-2.ensures ∙ ap (λ (r : Row). min r.levels 129) c.row-row.ensures) c.literal.ensures
