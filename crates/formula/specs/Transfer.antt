-- A formula file that was cut or damaged on its way: "whether bytes ended early, a field is wrong, or bytes follow the root's last child, and at which
-- node from 0".
use Rattle.std.specs.Prelude.{cond, List, ℕ, suc, ◌+◌, ◌*◌, length, leb}
use Rattle.std.proofs.Math.Option.{Option, none, some}
use Rattle.formula.specs.Formula.{Formula, Formulas, node, last, next, is_node, well_formed}
use Rattle.formula.specs.Node.{formula_of, node_size, tree_at, tree_in}

-- a formula, or what is wrong with the bytes and its node
pub data Transfer : Type 0 where
  whole : Formula → Transfer
  ended_early : ℕ → Transfer
  wrong_field : ℕ → Transfer
  left_over : ℕ → Transfer

-- how many nodes, in the order of their bytes, come before the first that is malformed
abbrev mutual
  pub good_nodes : Formula → ℕ
  good_nodes (node h ts) = cond (is_node h) (suc (all_good_nodes ts)) 0

  pub all_good_nodes : Formulas → ℕ
  all_good_nodes last = 0
  all_good_nodes (next t ts) = good_nodes t + cond (well_formed t) (all_good_nodes ts) 0

-- "The first fault in byte order counts; a last node of fewer than 16 bytes is ended early, and bytes left over are placed at the number of nodes read."
abbrev pub fault_in : List ℕ → Formula → Transfer
fault_in b t =
    let k = good_nodes t in
    cond (well_formed t) (left_over k) (cond (leb (node_size * suc k) (length b)) (wrong_field k) (ended_early k))

abbrev pub received : List ℕ → Option Formula → Transfer
received b (some f) = whole f
received b none = fault_in b (tree_at b 0)

unfoldable pub transfer_of : List ℕ → Transfer
unfolding formula_of tree_in
transfer_of b = received b (formula_of b)
