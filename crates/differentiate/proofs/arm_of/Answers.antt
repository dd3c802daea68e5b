use Prim.Native.Nat.{ℕ, ◌*◌}
use mathlib.Core.Path.{◌∙◌, ap}
use Rattle.formula.specs.Text.{byte_at}
use Rattle.formula.specs.Node.{node_size}
use Rattle.differentiate.specs.Written.{coded_arm}
use Rattle.differentiate.proofs.Leaves.{arm_coded}
use Rattle.differentiate.proofs.arm_of.Goals as goal

pub returns : goal.returns
returns c =
    let node = c.args.node.now in
    c.from.ensures ∙ c.arm_number.ensures
    ∙ ap (λ (x : ℕ). coded_arm x c.byte-2.result) c.byte.ensures
    ∙ ap (λ (x : ℕ). coded_arm (byte_at node.formula.now (node_size * node.number)) x) c.byte-2.ensures
    ∙ arm_coded node.formula.now node.number node.owned.formed
