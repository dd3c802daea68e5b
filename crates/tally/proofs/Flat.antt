-- The nodes one after another: what each needs by itself, and what the trees that are left need.
use mathlib.Core.Path.{◌≡◌, refl, sym, ap, ◌∙◌, subst}
use mathlib.Core.Bool.{Bool, true, false, not, ◌&&◌}
use mathlib.Core.List.{List}
use Prim.Native.Nat.{ℕ, zero, suc, ◌+◌, ◌-◌, ◌*◌, ◌^◌, ◌≤◌, ◌<◌}
use native.Mathlib.Omega.{arith}
use lib.ListN.{length}
use lib.Dec.{eqb, ltb}
use borrow.Author.Tests.{ltb-true}
use Rattle.formula.specs.Formula.{Formula, Formulas, all_well_formed, last, next, size, sizes, well_formed}
use Rattle.formula.specs.Node.{children_at, fields_at, node_size, tree_in}
use Rattle.formula.specs.Term.{term, terms}
use Rattle.machine.specs.Lower.{instruction_count, instruction_counts}
use Rattle.layout.specs.Image.{entry_count, entry_counts, path_count, path_counts}
use Rattle.reader.specs.Read.{written}
use Rattle.reader.specs.declared.Fields.{Fields}
use Rattle.reader.proofs.Trees.{count_le, levels_enough, more_levels}
use Rattle.lower.specs.Operators.{chooses_at, listing_at}
use Rattle.lower.specs.Piece.{kids}
use Rattle.lower.proofs.Kids.{first_well, kids_none, kids_step, one_well, rest_well, stands}
use Rattle.lower.proofs.Wholes as wholes
use Rattle.tally.specs.declared.Counts.{Counts}
use Rattle.tally.specs.Weight.{drops_at, weight}
use Rattle.tally.proofs.Weights.{bounded, counts, kids_end, node_counts, small, tree_end, weight_is}

-- ---- levels enough for every tree in the bytes

abbrev pub levels : List ℕ → ℕ → ℕ
levels b d = suc (length b + d)

same_kids : (b : List ℕ) (d n x : ℕ) → kids b (levels b d - 1) n x ≡ kids b (levels b d) n x
unfolding kids
same_kids b d n x =
    let l = levels b d - 1 in
    λ i. children_at (λ a. levels_enough l (levels b d) b a (omega arith) (omega arith) i) n x

pub whole_same : (b : List ℕ) (d : ℕ) → well_formed (tree_in d b 0) ≡ true → kids b (levels b d) 1 0 ≡ kids b d 1 0
whole_same b d w =
    let e : tree_in (levels b d) b 0 ≡ tree_in d b 0 = more_levels d (levels b d) b 0 w (omega arith) in
    let x = kids_step b (levels b d) 1 0 (λ z. omega arith) in
    let y = kids_step b d 1 0 (λ z. omega arith) in
    let x₀ = kids_none b (levels b d) (0 + node_size * size (tree_in (levels b d) b 0)) (1 - 1) (omega arith) in
    let y₀ = kids_none b d (0 + node_size * size (tree_in d b 0)) (1 - 1) (omega arith) in
    x ∙ ap (λ (z : Formulas). next (tree_in (levels b d) b 0) z) x₀ ∙ ap (λ (z : Formula). next z last) e ∙ sym (ap (λ (z : Formulas). next (tree_in d b 0) z) y₀) ∙ sym y

-- ---- trees beside each other

add_sum : (own : Formula → ℕ) (all : Formulas → ℕ) → all last ≡ 0 → ((f : Formula) (fs : Formulas) → all (next f fs) ≡ own f + all fs) → (t : ℕ → Formula) (k m x : ℕ)
    → all (children_at t (k + m) x) ≡ all (children_at t k x) + all (children_at t m (x + node_size * sizes (children_at t k x)))
add_sum own all z s t zero m x =
    let a : zero + m ≡ m = omega arith in
    let b : x ≡ x + node_size * 0 = omega arith in
    let c = ap (λ (j : ℕ). all (children_at t j x)) a ∙ ap (λ (j : ℕ). all (children_at t m j)) b in
    omega (arith, c, z)
add_sum own all z s t (suc k) m x =
    let y = x + node_size * size (t x) in
    let n = sizes (children_at t k y) in
    let a : suc k + m ≡ suc (k + m) = omega arith in
    let b : y + node_size * n ≡ x + node_size * (size (t x) + n) = omega arith in
    let c = ap (λ (j : ℕ). all (children_at t j x)) a in
    let d = ap (λ (j : ℕ). all (children_at t m j)) b in
    omega (arith, c, d, add_sum own all z s t k m y, s (t x) (children_at t (k + m) y), s (t x) (children_at t k y))

both_well : (x y : Bool) → x ≡ true → y ≡ true → (x && y) ≡ true
both_well x y e f = rw (e, f)

add_well : (t : ℕ → Formula) (k m x : ℕ) → all_well_formed (children_at t k x) ≡ true → all_well_formed (children_at t m (x + node_size * sizes (children_at t k x))) ≡ true
    → all_well_formed (children_at t (k + m) x) ≡ true
add_well t zero m x h g =
    let a : m ≡ zero + m = omega arith in
    let b : x + node_size * 0 ≡ x = omega arith in
    subst (λ (j : ℕ). all_well_formed (children_at t j x) ≡ true) a (subst (λ (j : ℕ). all_well_formed (children_at t m j) ≡ true) b g)
add_well t (suc k) m x h g =
    let y = x + node_size * size (t x) in
    let n = sizes (children_at t k y) in
    let a : suc (k + m) ≡ suc k + m = omega arith in
    let b : x + node_size * (size (t x) + n) ≡ y + node_size * n = omega arith in
    let p = halves (well_formed (t x)) (all_well_formed (children_at t k y)) h in
    let g' = subst (λ (j : ℕ). all_well_formed (children_at t m j) ≡ true) b g in
    subst (λ (j : ℕ). all_well_formed (children_at t j x) ≡ true) a (both_well (well_formed (t x)) (all_well_formed (children_at t (k + m) y)) p.0 (add_well t k m y p.1 g'))
  where
    halves : (c e : Bool) → (c && e) ≡ true → (c ≡ true) × (e ≡ true)
    halves true e h = (refl, h)
    halves false e h = absurd (let z : ◌≡◌ {A = ℕ} 0 1 = cc in omega arith)

-- ---- a node by itself

abbrev pub none : Counts
none = record { node = 0; code = 0; paths = 0; entries = 0 }

-- what a node needs is its children's counts and its own
abbrev Adds : Counts → Counts → Fields → Type 0
Adds w t f = (w.code ≡ t.code + (weight f none).code) × (w.paths ≡ t.paths + (weight f none).paths) × (w.entries ≡ t.entries + (weight f none).entries)

lost_few : (f : Fields) → drops_at f ≡ false → eqb f.kind 6 ≡ true → ltb f.children 2 ≡ false
unfolding drops_at
lost_few f h e = rw e at h

lost_wrong : (f : Fields) → drops_at f ≡ false → eqb f.kind 6 ≡ false → chooses_at f.kind f.operator ≡ true → eqb f.children 3 ≡ true
unfolding drops_at
lost_wrong f h e g = go (eqb f.children 3) (rw (e, g) at h)
  where
    go : (x : Bool) → not x ≡ false → x ≡ true
    go true q = refl
    go false q = absurd (let z : ◌≡◌ {A = ℕ} 0 1 = cc in omega arith)

adds : (f : Fields) (t : Counts) → drops_at f ≡ false → (f.kind < 3 → (t.code ≡ 0) × (t.paths ≡ 0) × (t.entries ≡ 0)) → Adds (weight f t) t f
unfolding weight
adds f t h leaf = leafs (ltb f.kind 3) refl
  where
    lists : (x : Bool) → listing_at f.kind f.operator ≡ x → ltb f.kind 3 ≡ false → eqb f.kind 6 ≡ false → chooses_at f.kind f.operator ≡ false → Adds (weight f t) t f
    lists true e a b c = rw (a, b, c, e) (omega arith, omega arith, omega arith)
    lists false e a b c = rw (a, b, c, e) (omega arith, omega arith, omega arith)

    choices : (x : Bool) → chooses_at f.kind f.operator ≡ x → ltb f.kind 3 ≡ false → eqb f.kind 6 ≡ false → Adds (weight f t) t f
    choices true e a b = rw (a, b, e, lost_wrong f h b e) (omega arith, omega arith, omega arith)
    choices false e a b = lists (listing_at f.kind f.operator) refl a b e

    joins : (x : Bool) → eqb f.kind 6 ≡ x → ltb f.kind 3 ≡ false → Adds (weight f t) t f
    joins true e a = rw (a, e, lost_few f h e) (omega arith, omega arith, omega arith)
    joins false e a = choices (chooses_at f.kind f.operator) refl a e

    leafs : (x : Bool) → ltb f.kind 3 ≡ x → Adds (weight f t) t f
    leafs true e = let z = leaf (ltb-true f.kind 3 e) in rw e (omega (arith, z), omega (arith, z), omega (arith, z))
    leafs false e = joins (eqb f.kind 6) refl e

-- ---- the pass

-- the trees that are left need so much less than the whole
pub record Left (b : List ℕ) (d at owed code paths entries : ℕ) : Type 0 where
  pub well : all_well_formed (kids b (levels b d) owed at) ≡ true
  pub inside : at ≤ length b
  pub codes : code + (counts b (levels b d) owed at).code ≡ (counts b d 1 0).code
  pub path_s : paths + (counts b (levels b d) owed at).paths ≡ (counts b d 1 0).paths
  pub entry_s : entries + (counts b (levels b d) owed at).entries ≡ (counts b d 1 0).entries

pub left_start : (b : List ℕ) (d : ℕ) → well_formed (tree_in d b 0) ≡ true → Left b d 0 1 0 0 0
left_start b d w =
    let e = whole_same b d w in
    record {
      well = subst (λ (z : Formulas). all_well_formed z ≡ true) (sym e) (one_well b d 1 0 refl w);
      inside = omega arith;
      codes = omega (arith, ap (λ (z : Formulas). instruction_counts (terms z)) e);
      path_s = omega (arith, ap (λ (z : Formulas). path_counts (terms z)) e);
      entry_s = omega (arith, ap (λ (z : Formulas). entry_counts (terms z)) e);
    }

pub left_end : (b : List ℕ) (d at owed code paths entries : ℕ) → Left b d at owed code paths entries → owed ≡ 0
    → (code ≡ (counts b d 1 0).code) × (paths ≡ (counts b d 1 0).paths) × (entries ≡ (counts b d 1 0).entries)
left_end b d at owed code paths entries L z =
    let e = kids_none b (levels b d) at owed z in (
      omega (arith, L.codes, ap (λ (y : Formulas). instruction_counts (terms y)) e),
      omega (arith, L.path_s, ap (λ (y : Formulas). path_counts (terms y)) e),
      omega (arith, L.entry_s, ap (λ (y : Formulas). entry_counts (terms y)) e),
    )

-- no number is too large
pub left_small : (b : List ℕ) (d at owed code paths entries : ℕ) → length b < 2 ^ 64 → well_formed (tree_in d b 0) ≡ true → Left b d at owed code paths entries
    → (owed ≤ length b) × (code < 2 ^ 63) × (paths < 2 ^ 63) × (entries < 2 ^ 63)
unfolding kids
left_small b d at owed code paths entries l w L =
    let s = small b d 1 0 (counts b d 1 0) l (omega arith) (one_well b d 1 0 refl w) refl in
    let e = kids_end b (levels b d) (λ x y. tree_end b (levels b d) x y) owed at L.inside L.well in
    let k = count_le (λ a. tree_in (levels b d) b a) owed at in
    (omega (arith, e, k), omega (arith, s, L.codes), omega (arith, s, L.path_s), omega (arith, s, L.entry_s))

module _ (b : List ℕ) (d at owed code paths entries : ℕ) (L : Left b d at owed code paths entries) (n : owed ≡ 0 → ⊥) where
  abbrev E : ℕ
  E = levels b d

  pub node_well : well_formed (tree_in E b at) ≡ true
  node_well = first_well b E owed at n L.well

  module _ (f : Fields) (is_f : written f ≡ fields_at b at) (h : drops_at f ≡ false) where
    abbrev inner : Counts
    inner = counts b (E - 1) f.children (at + node_size)

    no_inner : f.kind < 3 → (inner.code ≡ 0) × (inner.paths ≡ 0) × (inner.entries ≡ 0)
    no_inner k =
        let s = wholes.leaf_size b E at f is_f node_well k in
        let p = wholes.past_is b E at f is_f node_well in
        let x = bounded (kids b (E - 1) f.children (at + node_size)) in
        (omega (arith, s, p, x), omega (arith, s, p, x), omega (arith, s, p, x))

    node_adds : Adds (node_counts b E at) inner f
    node_adds = subst (λ (z : Counts). Adds z inner f) (weight_is b E at f is_f node_well) (adds f inner h no_inner)

    abbrev m : ℕ
    m = owed - 1 + f.children

    after : at + node_size * size (tree_in E b at) ≡ at + node_size + node_size * sizes (kids b E f.children (at + node_size))
    after = omega (arith, wholes.past_is b E at f is_f node_well, ap sizes (same_kids b d f.children (at + node_size)))

    joined : (own : Formula → ℕ) (all : Formulas → ℕ) → all last ≡ 0 → ((g : Formula) (gs : Formulas) → all (next g gs) ≡ own g + all gs)
        → all (kids b E m (at + node_size)) ≡ all (kids b (E - 1) f.children (at + node_size)) + all (kids b E (owed - 1) (at + node_size * size (tree_in E b at)))
    unfolding kids
    joined own all z s =
        let t : ℕ → Formula = λ a. tree_in E b a in
        let c : m ≡ f.children + (owed - 1) = omega arith in
        ap (λ (j : ℕ). all (children_at t j (at + node_size))) c
        ∙ add_sum own all z s t f.children (owed - 1) (at + node_size)
        ∙ ap (λ (j : ℕ). all (children_at t f.children (at + node_size)) + all (children_at t (owed - 1) j)) (sym after)
        ∙ ap (λ (fs : Formulas). all fs + all (children_at t (owed - 1) (at + node_size * size (tree_in E b at)))) (sym (same_kids b d f.children (at + node_size)))

    next_well : all_well_formed (kids b E m (at + node_size)) ≡ true
    unfolding kids
    next_well =
        let t : ℕ → Formula = λ a. tree_in E b a in
        let c : f.children + (owed - 1) ≡ m = omega arith in
        let k = subst (λ (fs : Formulas). all_well_formed fs ≡ true) (same_kids b d f.children (at + node_size)) (wholes.kids_well b E at f is_f node_well) in
        let r = subst (λ (j : ℕ). all_well_formed (children_at t (owed - 1) j) ≡ true) after (rest_well b E owed at n L.well) in
        subst (λ (j : ℕ). all_well_formed (children_at t j (at + node_size)) ≡ true) c (add_well t f.children (owed - 1) (at + node_size) k r)

    pub left_step : Left b d (at + node_size) m (code + (weight f none).code) (paths + (weight f none).paths) (entries + (weight f none).entries)
    left_step =
        let k = kids_step b E owed at n in
        record {
          well = next_well;
          inside = wholes.node_inside b E at f is_f node_well;
          codes =
              omega (arith, L.codes, node_adds.0, ap (λ (fs : Formulas). instruction_counts (terms fs)) k, joined (λ g. instruction_count (term g)) (λ gs. instruction_counts (terms gs)) refl (λ g gs. refl));
          path_s = omega (arith, L.path_s, node_adds.1, ap (λ (fs : Formulas). path_counts (terms fs)) k, joined (λ g. path_count (term g)) (λ gs. path_counts (terms gs)) refl (λ g gs. refl));
          entry_s = omega (arith, L.entry_s, node_adds.2, ap (λ (fs : Formulas). entry_counts (terms fs)) k, joined (λ g. entry_count (term g)) (λ gs. entry_counts (terms gs)) refl (λ g gs. refl));
        }

  pub node_there : at + node_size ≤ length b
  node_there = (stands b E at node_well).inside

  -- with the node's own counts as the code has them
  module _ (f : Fields) (is_f : written f ≡ fields_at b at) (lost : Bool) (is_lost : lost ≡ drops_at f) (h : lost ≡ false) (own : Counts) (is_own : own ≡ weight f none) where
    pub step : Left b d (at + node_size) (owed - 1 + f.children) (code + own.code) (paths + own.paths) (entries + own.entries)
    step =
        subst (λ (z : Counts). Left b d (at + node_size) (owed - 1 + f.children) (code + z.code) (paths + z.paths) (entries + z.entries)) (sym is_own)
        (left_step f is_f (sym is_lost ∙ h))

    pub step_small : length b < 2 ^ 64 → well_formed (tree_in d b 0) ≡ true
        → (owed - 1 + f.children ≤ length b) × (code + own.code < 2 ^ 63) × (paths + own.paths < 2 ^ 63) × (entries + own.entries < 2 ^ 63)
    step_small l w = left_small b d (at + node_size) (owed - 1 + f.children) (code + own.code) (paths + own.paths) (entries + own.entries) l w step
