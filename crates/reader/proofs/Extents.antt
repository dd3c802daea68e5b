-- How deep a tree is.
use mathlib.Core.Path.{◌≡◌, refl, sym, ap, ◌∙◌}
use mathlib.Core.Option.{Option, none, some}
use mathlib.Core.Bool.{Bool, true, false, ◌&&◌}
use mathlib.Core.List.{List}
use Prim.Native.Nat.{ℕ, suc, ◌+◌, ◌-◌, ◌*◌, ◌/◌, ◌≤◌, ◌<◌, max}
use native.Mathlib.Omega.{arith}
use lib.ListN.{length}
use lib.Dec.{leb}
use borrow.Author.Tests.{lt-leb, le-leb, leb-true, leb-false}
use Rattle.formula.specs.Formula.{Formula, Formulas, node, next, size, sizes, depth, depths, well_formed, all_well_formed, within}
use Rattle.formula.specs.Text.{half_at}
use Rattle.formula.specs.Node.{fields_at, children_at, tree_at, formula_of, node_size}
use Rattle.std.specs.Prelude.{Some, None}
use Rattle.std.specs.Prelude as Std
use Rattle.std.specs.Option as Std_option
use Rattle.reader.specs.Read.{is_some, when, end_at, limited}
use Rattle.reader.proofs.Heads.{no_true, and_first, and_second}
use Rattle.reader.proofs.Trees.{node_at, tree_inside, children_next, children_none, depth_pos}
use Rattle.reader.proofs.Scan.{trees, whole}

leb_same : (b : Bool) (a d a' d' : ℕ) → leb a d ≡ b → (a ≤ d → a' ≤ d') → (d < a → d' < a') → leb a' d' ≡ leb a d
leb_same true a d a' d' e h k = le-leb a' d' (h (leb-true a d e)) ∙ sym e
leb_same false a d a' d' e h k = lt-leb a' d' (k (leb-false a d e)) ∙ sym e

leb_step : (a d : ℕ) → leb (suc a) (suc d) ≡ leb a d
leb_step a d = leb_same (leb a d) a d (suc a) (suc d) refl (λ l. omega arith) (λ l. omega arith)

leb_max : (a b d : ℕ) → leb a d ≡ true → leb (max a b) d ≡ leb b d
leb_max a b d e = let h = leb-true a d e in leb_same (leb b d) b d (max a b) d refl (λ l. omega arith) (λ l. omega arith)

leb_over : (a b d : ℕ) → leb a d ≡ false → leb (max a b) d ≡ false
leb_over a b d e = let h = leb-false a d e in lt-leb (max a b) d (omega arith)

-- where so many trees end, from a byte on so many trees from a byte on
unfoldable pub end_from : List ℕ → ℕ → ℕ → ℕ → Std.Option ℕ
end_from b k at levels = when (leb (depths (trees b k at)) levels) (at + node_size * sizes (trees b k at))

some_is : (c : Bool) (x e : ℕ) → Some e ≡ when c x → (c ≡ true) × (e ≡ x)
some_is true x e q = (refl, cc)
some_is false x e q = let z : ◌≡◌ {A = ℕ} 0 1 = cc in absurd (omega arith)

none_is : (c : Bool) (x : ℕ) → None ≡ when c x → c ≡ false
none_is true x q = let z : ◌≡◌ {A = ℕ} 0 1 = cc in absurd (omega arith)
none_is false x q = refl

-- ---- what the recursion gives at each return

-- so many children's trees, which have one level less, stand in for the node's
pub record Level (b : List ℕ) (at levels below k x : ℕ) : Type 0 where
  pub inside : x ≤ length b
  pub all : all_well_formed (trees b k x) ≡ true
  pub same : end_at b at levels ≡ end_from b k x below

module _ (b : List ℕ) (at levels : ℕ) (w : well_formed (tree_at b at) ≡ true) where
  pub no_levels : levels ≡ 0 → None ≡ end_at b at levels
  unfolding end_at
  no_levels z =
      let l : levels < depth (tree_at b at) = omega (arith, depth_pos (tree_at b at)) in
      sym (ap (λ (c : Bool). when c (at + node_size * size (tree_at b at))) (lt-leb (depth (tree_at b at)) levels l))

  pub node_inside : at + node_size ≤ length b
  node_inside = (node_at b at w).headed.inside

  pub level_start : (n below : ℕ) → n ≡ half_at b (at + 2) → levels ≡ suc below → Level b at levels below n (at + node_size)
  unfolding end_at end_from trees fields_at
  level_start n below e z =
      let m = node_at b at w in
      let ts = children_at (λ a. tree_at b a) (half_at b (at + 2)) (at + node_size) in
      let us = children_at (λ a. tree_at b a) n (at + node_size) in
      let q : ts ≡ us = ap (λ (j : ℕ). children_at (λ a. tree_at b a) j (at + node_size)) (sym e) in
      let t : tree_at b at ≡ node m.head us = m.tree ∙ ap (λ (vs : Formulas). node m.head vs) q in
      let v : at + node_size * suc (sizes us) ≡ at + node_size + node_size * sizes us = omega arith in
      record {
        inside = m.headed.inside;
        all = sym (ap all_well_formed q) ∙ m.children;
        same =
            ap (λ (T : Formula). when (leb (depth T) levels) (at + node_size * size T)) t
            ∙ ap (λ (d : ℕ). when (leb (suc (depths us)) d) (at + node_size * suc (sizes us))) z
            ∙ ap (λ (c : Bool). when c (at + node_size * suc (sizes us))) (leb_step (depths us) below)
            ∙ ap (λ (x : ℕ). when (leb (depths us) below) x) v;
      }

module _ (b : List ℕ) (at levels below k x : ℕ) (l : Level b at levels below k x) where
  pub level_end : k ≡ 0 → Some x ≡ end_at b at levels
  unfolding end_from trees
  level_end z =
      let e = children_none (λ a. tree_at b a) k x z in
      let a : x + node_size * 0 ≡ x = omega arith in
      sym (l.same
      ∙ ap (λ (ts : Formulas). when (leb (depths ts) below) (x + node_size * sizes ts)) e
      ∙ ap (λ (c : Bool). when c (x + node_size * 0)) (le-leb 0 below (omega arith))
      ∙ ap (λ (y : ℕ). Some y) a)

  module _ (z : k ≡ 0 → ⊥) where
    pub first_child : well_formed (tree_at b x) ≡ true
    unfolding trees
    first_child = and_first (well_formed (tree_at b x)) _ (sym (ap all_well_formed (children_next (λ a. tree_at b a) k x z)) ∙ l.all)

    pub level_deeper : None ≡ end_at b x below → None ≡ end_at b at levels
    unfolding end_at end_from trees
    level_deeper q =
        let c = none_is (leb (depth (tree_at b x)) below) (x + node_size * size (tree_at b x)) q in
        let y = children_at (λ a. tree_at b a) (k - 1) (x + node_size * size (tree_at b x)) in
        let g : leb (depths (trees b k x)) below ≡ false =
        ap (λ (ts : Formulas). leb (depths ts) below) (children_next (λ a. tree_at b a) k x z) ∙ leb_over (depth (tree_at b x)) (depths y) below c in
        sym (l.same ∙ ap (λ (v : Bool). when v (x + node_size * sizes (trees b k x))) g)

    pub level_next : (m e : ℕ) → m ≡ k - 1 → Some e ≡ end_at b x below → Level b at levels below m e
    unfolding end_at end_from trees
    level_next m e n q =
        let s = some_is (leb (depth (tree_at b x)) below) (x + node_size * size (tree_at b x)) e q in
        let o = children_next (λ a. tree_at b a) k x z in
        let y = x + node_size * size (tree_at b x) in
        let us = children_at (λ a. tree_at b a) m y in
        let g = o ∙ ap (λ (j : ℕ). next (tree_at b x) (children_at (λ a. tree_at b a) j y)) (sym n) in
        let v : x + node_size * (size (tree_at b x) + sizes us) ≡ y + node_size * sizes us = omega arith in
        record {
          inside = omega (arith, s.1, tree_inside (length b) b x first_child);
          all = ap (λ (j : ℕ). all_well_formed (children_at (λ a. tree_at b a) m j)) s.1
              ∙ and_second (well_formed (tree_at b x)) (all_well_formed us) (sym (ap all_well_formed g) ∙ l.all);
          same = l.same
              ∙ ap (λ (ts : Formulas). when (leb (depths ts) below) (x + node_size * sizes ts)) g
              ∙ ap (λ (c : Bool). when c (x + node_size * (size (tree_at b x) + sizes us))) (leb_max (depth (tree_at b x)) (depths us) below s.0)
              ∙ ap (λ (j : ℕ). when (leb (depths us) below) j) v
              ∙ ap (λ (j : ℕ). when (leb (depths (children_at (λ a. tree_at b a) m j)) below) (j + node_size * sizes (children_at (λ a. tree_at b a) m j))) (sym s.1);
        }

-- ---- both limits

no_formula : (o : Option Formula) (nodes levels : ℕ) → is_some o ≡ false → false ≡ limited nodes levels o
no_formula none nodes levels e = refl
no_formula (some f) nodes levels e = absurd (no_true (sym e))

pub not_limited : (b : List ℕ) (nodes levels : ℕ) → is_some (formula_of b) ≡ false → false ≡ limited nodes levels (formula_of b)
not_limited b nodes levels e = no_formula (formula_of b) nodes levels e

some_when : (c : Bool) (x : ℕ) → Std_option.is_some (when c x) ≡ c
some_when true x = refl
some_when false x = refl

module _ (b : List ℕ) (nodes levels : ℕ) where
  -- the limits of a formula are those of its tree
  limits : is_some (formula_of b) ≡ true → limited nodes levels (formula_of b) ≡ within nodes levels (tree_at b 0)
  limits f = ap (limited nodes levels) (whole b f).2

  too_long_by : (t : Bool) → is_some (formula_of b) ≡ t → nodes < length b / node_size → false ≡ limited nodes levels (formula_of b)
  too_long_by true f h =
      let s = (whole b f).1 in
      sym (limits f ∙ ap (λ (c : Bool). c && leb (depth (tree_at b 0)) levels) (lt-leb (size (tree_at b 0)) nodes (omega arith)))
  too_long_by false f h = not_limited b nodes levels f

  pub too_long : nodes < length b / node_size → false ≡ limited nodes levels (formula_of b)
  too_long h = too_long_by (is_some (formula_of b)) refl h

  module _ (f : is_some (formula_of b) ≡ true) (h : length b / node_size ≤ nodes) where
    short : limited nodes levels (formula_of b) ≡ leb (depth (tree_at b 0)) levels
    short =
        let s = (whole b f).1 in
        limits f ∙ ap (λ (c : Bool). c && leb (depth (tree_at b 0)) levels) (le-leb (size (tree_at b 0)) nodes (omega arith))

    -- the answer of both limits is that of the levels
    pub as_deep : Std_option.is_some (end_at b 0 levels) ≡ limited nodes levels (formula_of b)
    unfolding end_at
    as_deep = some_when (leb (depth (tree_at b 0)) levels) (0 + node_size * size (tree_at b 0)) ∙ sym short
