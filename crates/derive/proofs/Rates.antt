-- The rates of plain polynomials, exactly (document 02, slip 13), of the bytes that derive is lent and of those that it leaves.
use mathlib.Core.Path.{◌≡◌, ap, ◌∙◌}
use mathlib.Core.Bool.{true}
use mathlib.Core.List.{List}
use mathlib.Core.Option.{some}
use Prim.Native.Nat.{ℕ, ◌*◌}
use lib.ListN.{length, take}
use Rattle.formula.specs.Formula.{Formula}
use Rattle.formula.specs.Node.{formula_of, node_size}
use Rattle.reader.proofs.Bytes.{Bytes}
use Rattle.reader.proofs.Encode.{formula_encode}
use Rattle.derivative.specs.Derive.{by_state, derive}
use Rattle.derivative.specs.Polynomial.{plain, ExactRate}
use Rattle.derivative.proofs.Polynomial.{derivation_rate}
use Rattle.std.specs.Prelude.{Result, Ok}
use Rattle.refusals.specs.declared.Refusal.{Refusal}
use Rattle.derive.specs.Outcome.{Leaves, lengths}
use Rattle.derive.proofs.Left.{written}
use Rattle.derive.proofs.Writable.{derivative_writable}
use Rattle.derive.proofs.Writing.{held_writable}

module _
    (b names q q' t t' l l' p p' : List ℕ) (s n : ℕ) (r : Result ℕ Refusal) (bytes : Bytes b)
    (e : Leaves (derive b names s (length q) (lengths t l p)) r q q' t t' l l' p p') (a : r ≡ Ok n) where
  -- Where derive answers with a tree of n nodes, the bytes that it was lent are a formula f, the first 16·n that it leaves in the tree slice are a formula d, and where f is
  -- plain d is plain and is its exact rate.
  pub written_rate : (f : Formula) × (d : Formula) × (formula_of b ≡ some f) × (formula_of (take (node_size * n) t') ≡ some d)
      × (plain f ≡ true → (plain d ≡ true) × ExactRate s f d)
  written_rate =
      let x = written b names q q' t t' l l' p p' s n r e a in
      let D = x.derivation in
      let w = derivative_writable s (by_state x.symbols s) x.formula x.tree (held_writable b x.formula bytes x.held) D.differentiated in (
        x.formula,
        x.tree,
        x.held,
        ap formula_of x.tree_bytes ∙ formula_encode x.tree w,
        λ plain_f. derivation_rate b names s (length q) (lengths t l p) x.formula x.tree x.list x.symbols D plain_f,
      )
