use Prim.Native.Nat.{◌+◌, ◌-◌, ◌*◌}
use native.Mathlib.Omega.{arith}
use lib.ListN.{length-take, length-drop}
use Rattle.formula.specs.Node.{node_size}
use Rattle.survey.proofs.Trees.{tree_ends}
use Rattle.reader.proofs.Encode.{encode_length}
use Rattle.survey.specs.Table.{tree}
use Rattle.differentiate.proofs.Lists.{as_text, written_over}
use Rattle.differentiate.proofs.Leaves.{tree_bytes}
use Rattle.differentiate.proofs.put_nodes.Goals as goal

pub overflow_mul-start : goal.overflow_mul-start
overflow_mul-start c = omega (arith, c.requires.1, tree_ends c.args.f.now c.args.k c.requires.0)

pub overflow_mul-end : goal.overflow_mul-end
overflow_mul-end c = omega (arith, c.requires.1, tree_ends c.args.f.now c.args.k c.requires.0)

pub overflow_add-end : goal.overflow_add-end
overflow_add-end c = omega (arith, c.requires.1, tree_ends c.args.f.now c.args.k c.requires.0)

pub slice_bounds-put_bytes-end : goal.slice_bounds-put_bytes-end
slice_bounds-put_bytes-end c = omega (arith, c.requires.1, tree_ends c.args.f.now c.args.k c.requires.0)

pub put_bytes-requires : goal.put_bytes-requires
put_bytes-requires c =
    simp (length-take, length-drop)
    (omega (arith, c.requires.1, c.requires.2, tree_ends c.args.f.now c.args.k c.requires.0, encode_length (tree c.args.f.now c.args.k)))

pub returns : goal.returns
returns c =
    let size = node_size * c.args.k + node_size * c.args.count - node_size * c.args.k in
    as_text _ _ _ _ _ (tree_bytes c.args.f.now c.args.k c.requires.0 (λ i. omega (arith, c.type_inv.f i)) size (omega (arith, c.requires.1)))
    (written_over _ c.args.out.now _ _ c.put_bytes.ensures.0 c.put_bytes.ensures.1)
