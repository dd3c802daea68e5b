use native.Mathlib.Omega.{arith}
use Rattle.differentiate.proofs.Lists.{as_text, written_over}
use Rattle.differentiate.proofs.Leaves.{node_is}
use Rattle.differentiate.proofs.NodesForm.put_head.Goals as goal

pub returns : goal.returns
returns c =
    let head = c.args.head in
    as_text _ _ _ _ _ (node_is head.kind head.operator head.children (omega arith))
    (written_over _ c.args.out.now _ _ c.put_bytes.ensures.0 c.put_bytes.ensures.1)
