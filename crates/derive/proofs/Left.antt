-- What derive leaves where it answers with a tree: the tree's bytes, and the record of each node, by its bytes.
use mathlib.Core.Path.{◌≡◌, refl, sym, ap, ◌∙◌}
use mathlib.Core.List.{List, [], ◌∷◌, ◌++◌, append_assoc}
use mathlib.Core.Option.{some}
use Prim.Native.Nat.{ℕ, zero, suc, ◌+◌, ◌*◌, ◌-◌}
use native.Mathlib.Omega.{arith}
use lib.ListN.{length, take, drop, get_elem?}
use lib.Seq.{drop-append-add, take_at}
use Rattle.formula.specs.Text.{zeros}
use Rattle.formula.specs.Formula.{Formula, size}
use Rattle.formula.specs.Names.{Symbol}
use Rattle.formula.specs.Node.{encode, formula_of, node_size}
use Rattle.reader.proofs.Encode.{encode_length}
use Rattle.compile.proofs.Back.{accepted_parts}
use Rattle.derivative.specs.Records.{Record, derivative_records, list_bytes, record_bytes, record_size}
use Rattle.derivative.specs.Provenance.{Told}
use Rattle.derivative.specs.Derive.{Derived, by_state, derive, derived, formula_refused, formula_refused_at, list_after, refused, tree_after}
use Rattle.derivative.proofs.Derived.{Derivation, derived_formula}
use Rattle.derivative.proofs.Erased.{derivative_records_length}
use Rattle.derivative.proofs.Provenance.{told}
use Rattle.std.specs.Prelude.{Result, Ok}
use Rattle.refusals.specs.declared.Refusal.{Refusal}
use Rattle.derive.specs.Outcome.{Leaves, answer, lengths}

-- an answer with a tree is of one that was derived
there : (X : Derived) (n : ℕ) → answer X ≡ Ok n → (d : Formula) × (symbols : List Symbol) × (rs : List Record) × (X ≡ derived d rs symbols) × (size d ≡ n)
there (formula_refused m place) n e = absurd (let z : ◌≡◌ {A = ℕ} 0 1 = cc in omega arith)
there (formula_refused_at m k) n e = absurd (let z : ◌≡◌ {A = ℕ} 0 1 = cc in omega arith)
there (refused m place) n e = absurd (let z : ◌≡◌ {A = ℕ} 0 1 = cc in omega arith)
there (derived d rs symbols) n e = (d, symbols, rs, refl, cc)

-- the bytes lent are a formula, and those left in the first 16·n of the tree slice and in the list slice are its derivative and the derivative's records
pub record Written (b names q t t' l l' p : List ℕ) (s n : ℕ) : Type 0 where
  pub formula : Formula
  pub tree : Formula
  pub list : List Record
  pub symbols : List Symbol
  pub derivation : Derivation b names s (length q) (length p) formula tree list symbols
  pub held : formula_of b ≡ some formula
  pub tree_bytes : take (node_size * n) t' ≡ encode tree
  pub list_is : l' ≡ list_bytes list ++ zeros (length l - length (list_bytes list))
  pub nodes : size tree ≡ n

module _
    (b names q q' t t' l l' p p' : List ℕ) (s n : ℕ) (r : Result ℕ Refusal)
    (e : Leaves (derive b names s (length q) (lengths t l p)) r q q' t t' l l' p p') (a : r ≡ Ok n) where
  pub written : Written b names q t t' l l' p s n
  written =
      let x = there (derive b names s (length q) (lengths t l p)) n (sym e.0 ∙ a) in
      let d = x.0 in
      let D = derived_formula b names s (length q) (lengths t l p) d x.2 x.1 x.3 in
      let k : length (encode d) ≡ node_size * n = encode_length d ∙ ap (λ (m : ℕ). node_size * m) x.4 in
      let after : t' ≡ encode d ++ zeros (length t - length (encode d)) = e.2 ∙ ap (λ (X : Derived). tree_after X t) x.3 in
      record {
        formula = D.0;
        tree = d;
        list = x.2;
        symbols = x.1;
        derivation = D.1;
        held = (accepted_parts b names (length q) (length p) D.0 x.1 D.1.compiled).0;
        tree_bytes = ap (take (node_size * n)) after ∙ take_at (encode d) (zeros (length t - length (encode d))) (node_size * n) k;
        list_is = e.3 ∙ ap (λ (X : Derived). list_after X l) x.3;
        nodes = x.4;
      }

-- the bytes of record j
record_at : (rs : List Record) (rest : List ℕ) (j : ℕ) (x : Record) → get_elem? rs j ≡ some x
    → take record_size (drop (record_size * j) (list_bytes rs ++ rest)) ≡ record_bytes x
unfolding list_bytes record_bytes
record_at [] rest j x e = absurd (let z : ◌≡◌ {A = ℕ} 0 1 = cc in omega arith)
record_at (y ∷ rs) rest zero x e = let q : y ≡ x = cc in ap record_bytes q
record_at (y ∷ rs) rest (suc j) x e =
    let k : record_size * suc j ≡ length (record_bytes y) + record_size * j = omega arith in
    ap (λ (m : ℕ). take record_size (drop m (list_bytes (y ∷ rs) ++ rest))) k
    ∙ ap (λ (z : List ℕ). take record_size (drop (length (record_bytes y) + record_size * j) z)) (append_assoc (record_bytes y) (list_bytes rs) rest)
    ∙ ap (take record_size) (drop-append-add (record_bytes y) (list_bytes rs ++ rest) (record_size * j))
    ∙ record_at rs rest j x e

module _
    (b names q q' t t' l l' p p' : List ℕ) (s n : ℕ) (r : Result ℕ Refusal)
    (e : Leaves (derive b names s (length q) (lengths t l p)) r q q' t t' l l' p p') (a : r ≡ Ok n) where
  -- Where derive answers with a tree of n nodes: the bytes lent are a formula f, the first 16·n bytes of the tree slice a formula d, there are n records, and for each node j of
  -- d the 8 bytes from 8·j on in the list slice are a record that says of node j and of f what `Told` says.
  pub written_records : (f : Formula) × (d : Formula) × (rs : List Record) × (formula_of b ≡ some f) × (take (node_size * n) t' ≡ encode d) × (length rs ≡ n)
      × ((j : ℕ) (x : Record) → get_elem? rs j ≡ some x → (take record_size (drop (record_size * j) l') ≡ record_bytes x) × Told s f d rs j x)
  written_records =
      let w = written b names q q' t t' l l' p p' s n r e a in
      let D = w.derivation in
      let state = by_state w.symbols s in
      let rs = derivative_records s state w.formula in
      let rest = zeros (length l - length (list_bytes w.list)) in
      let list : l' ≡ list_bytes rs ++ rest = w.list_is ∙ ap (λ (y : List Record). list_bytes y ++ rest) (sym D.recorded) in (
        w.formula,
        w.tree,
        rs,
        w.held,
        w.tree_bytes,
        derivative_records_length s state w.formula w.tree D.differentiated ∙ w.nodes,
        λ j x h. (
          ap (λ (y : List ℕ). take record_size (drop (record_size * j) y)) list ∙ record_at rs rest j x h,
          told s state w.formula w.tree D.differentiated j x h,
        ),
      )
