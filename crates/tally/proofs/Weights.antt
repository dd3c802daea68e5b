-- The counts of a node by those of its children, their bounds, and where nodes end.
use mathlib.Core.Path.{◌≡◌, refl, sym, ap, ap₂, ◌∙◌, subst}
use mathlib.Core.Bool.{Bool, true, false, cond, not, ◌&&◌}
use mathlib.Core.List.{List}
use Prim.Native.Nat.{ℕ, zero, suc, ◌+◌, ◌-◌, ◌*◌, ◌^◌, ◌≤◌, ◌<◌}
use native.Mathlib.Omega.{arith}
use lib.ListN.{length}
use lib.Dec.{eqb, ltb}
use borrow.Author.Tests.{eq-eqb, eqb-false, eqb-true, le-ltb, lt-ltb, ltb-false, ltb-true, ne_eqb}
use Rattle.formula.specs.Operator.{And, Junction, Or}
use Rattle.formula.specs.Formula.{Formulas, all_well_formed, last, next, size, sizes, well_formed}
use Rattle.formula.specs.Node.{fields_at, tree_in, node_size}
use Rattle.formula.specs.Term.{Term, Terms, ◌and◌, apply, branch_term, chain, end, literal, miscounted, symbol, term, term_count, terms, truth}
use Rattle.machine.specs.Lower.{instruction_count, instruction_counts}
use Rattle.layout.specs.Image.{entry_count, entry_counts, path_count, path_counts}
use Rattle.layout.proofs.Lengths.{bounds}
use Rattle.reader.specs.Read.{written}
use Rattle.reader.specs.declared.Fields.{Fields}
use Rattle.lower.specs.Operators.{chooses_at, listing_at}
use Rattle.lower.specs.Piece.{arm, joined, junction_of, kids, leaf, past}
use Rattle.lower.proofs.Kids.{Known, first_well, kids_none, kids_step, past_none, past_step, rest_well, stands}
use Rattle.lower.proofs.Wholes as wholes
use Rattle.tally.specs.declared.Counts.{Counts}
use Rattle.tally.specs.Weight.{drops_at, more, one, weight}

-- ---- where nodes end

pub kids_end : (b : List ℕ) (d : ℕ) → ((at : ℕ) → well_formed (tree_in d b at) ≡ true → at + node_size * size (tree_in d b at) ≤ length b)
    → (left at : ℕ) → at ≤ length b → all_well_formed (kids b d left at) ≡ true → past b d left at ≤ length b
kids_end b d tree zero at h w = omega (arith, past_none b d 0 at refl)
kids_end b d tree (suc k) at h w =
    let n : (suc k ≡ 0 → ⊥) = λ z. omega arith in
    let e : suc k - 1 ≡ k = omega arith in
    let r : all_well_formed (kids b d k (at + node_size * size (tree_in d b at))) ≡ true = rw e at (rest_well b d (suc k) at n w) in
    let s : past b d k (at + node_size * size (tree_in d b at)) ≡ past b d (suc k) at = rw e at (past_step b d (suc k) at n) in
    let t = tree at (first_well b d (suc k) at n w) in
    omega (arith, s, kids_end b d tree k (at + node_size * size (tree_in d b at)) t r)

pub tree_end : (b : List ℕ) (d at : ℕ) → well_formed (tree_in d b at) ≡ true → at + node_size * size (tree_in d b at) ≤ length b
tree_end b zero at w = absurd (omega (arith, (stands b 0 at w).deep))
tree_end b (suc d) at w =
    let N = stands b (suc d) at w in
    let e : suc d - 1 ≡ d = omega arith in
    let a : all_well_formed (kids b d (fields_at b at).children (at + node_size)) ≡ true = rw e at N.all in
    let s : size (tree_in (suc d) b at) ≡ suc (sizes (kids b d (fields_at b at).children (at + node_size))) = rw e at (ap size N.tree) in
    omega (arith, s, kids_end b d (λ x y. tree_end b d x y) (fields_at b at).children (at + node_size) N.inside a)

-- ---- bounds

pub bounded : (fs : Formulas)
    → (instruction_counts (terms fs) ≤ 6 * sizes fs) × (path_counts (terms fs) ≤ 3 * sizes fs) × (entry_counts (terms fs) ≤ sizes fs)
bounded last = omega arith
bounded (next f fs) = omega (arith, bounds f, bounded fs)

-- ---- And, Or and conditionals

-- what a term has where it is made of the terms ts
abbrev Made : Term → Terms → ℕ → ℕ → ℕ → Type 0
Made t ts code paths entries =
    (instruction_count t ≡ instruction_counts ts + code) × (path_count t ≡ path_counts ts + paths) × (entry_count t ≡ entry_counts ts + entries)

made_chain : (j : Junction) (t : Term) (us : Terms) → Made (chain j t us) (t and us) (5 * term_count us) (2 * term_count us) 0
made_chain j t end = omega arith
made_chain And t (u and us) = omega (arith, made_chain And u us)
made_chain Or t (u and us) = omega (arith, made_chain Or u us)

made_joined : (j : Junction) (ts : Terms) (n : ℕ) → term_count ts ≡ n → 2 ≤ n → Made (joined j ts) ts (5 * (n - 1)) (2 * (n - 1)) 0
made_joined j end n e h = absurd (omega arith)
made_joined j (t and us) n e h = omega (arith, made_chain j t us)

made_three : (ts : Terms) → term_count ts ≡ 3 → Made (branch_term ts) ts 4 1 0
made_three end e = absurd (omega arith)
made_three (a and end) e = absurd (omega arith)
made_three (a and b and end) e = absurd (omega arith)
made_three (a and b and c and end) e = omega arith
made_three (a and b and c and d and ds) e = absurd (omega arith)

-- ---- a node by its children

abbrev Single : Term → Type 0
Single t = (instruction_count t ≡ 1) × (path_count t ≡ 1) × (entry_count t ≡ 0)

single_leaf : (f : Fields) → Single (leaf f)
single_leaf f = go (eqb f.kind 0) (eqb f.kind 1)
  where
    go : (a c : Bool) → Single (cond a (literal f.value) (cond c (truth (eqb f.value 1)) (symbol f.symbol)))
    go true c = (refl, refl, refl)
    go false true = (refl, refl, refl)
    go false false = (refl, refl, refl)

-- what some nodes need, and what one needs with all below it
abbrev pub counts : List ℕ → ℕ → ℕ → ℕ → Counts
counts b d left at =
    let ts = terms (kids b d left at) in
    record { node = past b d left at; code = instruction_counts ts; paths = path_counts ts; entries = entry_counts ts }

abbrev pub node_counts : List ℕ → ℕ → ℕ → Counts
node_counts b d at =
    let t = term (tree_in d b at) in
    record { node = at + node_size * size (tree_in d b at); code = instruction_count t; paths = path_count t; entries = entry_count t }

module _ (b : List ℕ) (d at : ℕ) (f : Fields) (is_f : written f ≡ fields_at b at) (w : well_formed (tree_in d b at) ≡ true) where
  abbrev n : ℕ
  n = f.children

  abbrev ts : Terms
  ts = terms (kids b (d - 1) n (at + node_size))

  abbrev inner : Counts
  inner = counts b (d - 1) n (at + node_size)

  count_is : term_count ts ≡ n
  count_is = wholes.count_kids b (d - 1) n (at + node_size)

  end_is : inner.node ≡ (node_counts b d at).node
  end_is = wholes.past_is b d at f is_f w

  as_one : (t : Term) → term (tree_in d b at) ≡ t → Single t → one inner ≡ node_counts b d at
  as_one t e (x, y, z) =
      let x' = ap instruction_count e ∙ x in
      let y' = ap path_count e ∙ y in
      let z' = ap entry_count e ∙ z in
      λ j. record { node = end_is j; code = sym x' j; paths = sym y' j; entries = sym z' j }

  as_more : (t : Term) (code paths entries : ℕ) → term (tree_in d b at) ≡ t → Made t ts code paths entries → more inner code paths entries ≡ node_counts b d at
  as_more t code paths entries e (x, y, z) =
      let x' = ap instruction_count e ∙ x in
      let y' = ap path_count e ∙ y in
      let z' = ap entry_count e ∙ z in
      λ j. record { node = end_is j; code = sym x' j; paths = sym y' j; entries = sym z' j }

  joined_made : 2 ≤ n → Made (arm b (d - 1) (eqb f.operator 0) n (at + node_size)) ts (5 * (n - 1)) (2 * (n - 1)) 0
  unfolding arm
  joined_made h = made_joined (junction_of (eqb f.operator 0)) ts n count_is h

  as_joined : f.kind ≡ 6 → (c : Bool) → ltb n 2 ≡ c → cond c (one inner) (more inner (5 * (n - 1)) (2 * (n - 1)) 0) ≡ node_counts b d at
  as_joined k true e = as_one miscounted (wholes.few_is b d at f is_f w k (ltb-true n 2 e)) (refl, refl, refl)
  as_joined k false e =
      let h = ltb-false n 2 e in
      as_more _ (5 * (n - 1)) (2 * (n - 1)) 0 (wholes.link_is b d at f is_f w k h) (joined_made h)

  as_choice : chooses_at f.kind f.operator ≡ true → (c : Bool) → eqb n 3 ≡ c → cond c (more inner 4 1 0) (one inner) ≡ node_counts b d at
  as_choice k true e =
      let h = eqb-true n 3 e in
      as_more (branch_term ts) 4 1 0 (wholes.branch_is b d at f is_f w k h ∙ sym (wholes.three_kids b (d - 1) n (at + node_size) h)) (made_three ts (count_is ∙ h))
  as_choice k false e = as_one miscounted (wholes.wrong_is b d at f is_f w k (eqb-false n 3 e)) (refl, refl, refl)

  module _ (k₃ : 3 ≤ f.kind) (k₆ : f.kind ≡ 6 → ⊥) (k : chooses_at f.kind f.operator ≡ false) where
    abbrev K : Known f.kind f.operator f.children (stands b d at w).head
    K = wholes.knows b d at f is_f w k₃ k₆ k

    made_operation : (c : Bool) → listing_at f.kind f.operator ≡ c → Made (apply K.op ts) ts 1 1 (cond c n 0)
    made_operation c e =
        (omega arith, omega arith, ap₂ (λ (u : Bool) (v : ℕ). entry_counts ts + cond u v 0) (sym K.lists ∙ e) count_is)

    as_operation : (c : Bool) → listing_at f.kind f.operator ≡ c → cond c (more inner 1 1 n) (more inner 1 1 0) ≡ node_counts b d at
    as_operation true e = as_more (apply K.op ts) 1 1 n (wholes.apply_is b d at f is_f w k₃ k₆ k) (made_operation true e)
    as_operation false e = as_more (apply K.op ts) 1 1 0 (wholes.apply_is b d at f is_f w k₃ k₆ k) (made_operation false e)

  pub weight_is : weight f inner ≡ node_counts b d at
  unfolding weight
  weight_is = leafs (ltb f.kind 3) refl
    where
      choices : 3 ≤ f.kind → (f.kind ≡ 6 → ⊥) → (c : Bool) → chooses_at f.kind f.operator ≡ c
          → cond c (cond (eqb n 3) (more inner 4 1 0) (one inner)) (cond (listing_at f.kind f.operator) (more inner 1 1 n) (more inner 1 1 0)) ≡ node_counts b d at
      choices k₃ k₆ true e = as_choice e (eqb n 3) refl
      choices k₃ k₆ false e = as_operation k₃ k₆ e (listing_at f.kind f.operator) refl

      joins : 3 ≤ f.kind → (c : Bool) → eqb f.kind 6 ≡ c
          → cond c (cond (ltb n 2) (one inner) (more inner (5 * (n - 1)) (2 * (n - 1)) 0))
          (cond (chooses_at f.kind f.operator) (cond (eqb n 3) (more inner 4 1 0) (one inner)) (cond (listing_at f.kind f.operator) (more inner 1 1 n) (more inner 1 1 0)))
          ≡ node_counts b d at
      joins k₃ true e = as_joined (eqb-true f.kind 6 e) (ltb n 2) refl
      joins k₃ false e = choices k₃ (eqb-false f.kind 6 e) (chooses_at f.kind f.operator) refl

      leafs : (c : Bool) → ltb f.kind 3 ≡ c
          → cond c (one inner) (cond (eqb f.kind 6) (cond (ltb n 2) (one inner) (more inner (5 * (n - 1)) (2 * (n - 1)) 0))
          (cond (chooses_at f.kind f.operator) (cond (eqb n 3) (more inner 4 1 0) (one inner)) (cond (listing_at f.kind f.operator) (more inner 1 1 n) (more inner 1 1 0))))
          ≡ node_counts b d at
      leafs true e = as_one (leaf f) (wholes.leaf_term_is b d at f is_f w (ltb-true f.kind 3 e)) (single_leaf f)
      leafs false e = joins (ltb-false f.kind 3 e) (eqb f.kind 6) refl

-- ---- the code's cases

-- a node that keeps its children has as many as it should
module _ (f : Fields) (kept : drops_at f ≡ false) where
  pub kept_few : f.kind ≡ 6 → 2 ≤ f.children
  unfolding drops_at
  kept_few e = ltb-false f.children 2 (rw (eq-eqb f.kind 6 e) at kept)

  pub kept_right : (f.kind ≡ 6 → ⊥) → chooses_at f.kind f.operator ≡ true → f.children ≡ 3
  unfolding drops_at
  kept_right n e = go (eqb f.children 3) refl (rw (ne_eqb f.kind 6 n, e) at kept)
    where
      go : (x : Bool) → eqb f.children 3 ≡ x → not x ≡ false → f.children ≡ 3
      go true p q = eqb-true f.children 3 p
      go false p q = absurd (let z : ◌≡◌ {A = ℕ} 0 1 = cc in omega arith)

module _ (f : Fields) (t : Counts) where
  pub leaf_weight : f.kind < 3 → one t ≡ weight f t
  unfolding weight
  leaf_weight h = sym (rw (lt-ltb f.kind 3 h))

  dropped_at : (a b c e g : Bool) → ltb f.kind 3 ≡ a → eqb f.kind 6 ≡ b → chooses_at f.kind f.operator ≡ c → ltb f.children 2 ≡ e → eqb f.children 3 ≡ g
      → cond b e (c && not g) ≡ true → one t ≡ weight f t
  unfolding weight
  dropped_at true b c e g ea eb ec ee eg d = sym (rw ea)
  dropped_at false true c true g ea eb ec ee eg d = sym (rw (ea, eb, ee))
  dropped_at false false true e false ea eb ec ee eg d = sym (rw (ea, eb, ec, eg))
  dropped_at false true c false g ea eb ec ee eg d = absurd (let z : ◌≡◌ {A = ℕ} 0 1 = cc in omega arith)
  dropped_at false false true e true ea eb ec ee eg d = absurd (let z : ◌≡◌ {A = ℕ} 0 1 = cc in omega arith)
  dropped_at false false false e g ea eb ec ee eg d = absurd (let z : ◌≡◌ {A = ℕ} 0 1 = cc in omega arith)

  pub dropped_weight : drops_at f ≡ true → one t ≡ weight f t
  unfolding drops_at
  dropped_weight h = dropped_at _ _ _ _ _ refl refl refl refl refl h

  module _ (h₃ : 3 ≤ f.kind) where
    pub link_weight : f.kind ≡ 6 → 2 ≤ f.children → more t (5 * (f.children - 1)) (2 * (f.children - 1)) 0 ≡ weight f t
    unfolding weight
    link_weight h₆ h = sym (rw (le-ltb f.kind 3 h₃, eq-eqb f.kind 6 h₆, le-ltb f.children 2 h))

    module _ (h₆ : f.kind ≡ 6 → ⊥) where
      pub branch_weight : chooses_at f.kind f.operator ≡ true → f.children ≡ 3 → more t 4 1 0 ≡ weight f t
      unfolding weight
      branch_weight e h = sym (rw (le-ltb f.kind 3 h₃, ne_eqb f.kind 6 h₆, e, eq-eqb f.children 3 h))

      pub list_weight : chooses_at f.kind f.operator ≡ false → listing_at f.kind f.operator ≡ true → more t 1 1 f.children ≡ weight f t
      unfolding weight
      list_weight e h = sym (rw (le-ltb f.kind 3 h₃, ne_eqb f.kind 6 h₆, e, h))

      pub other_weight : chooses_at f.kind f.operator ≡ false → listing_at f.kind f.operator ≡ false → more t 1 1 0 ≡ weight f t
      unfolding weight
      other_weight e h = sym (rw (le-ltb f.kind 3 h₃, ne_eqb f.kind 6 h₆, e, h))

-- ---- the pass

pub none_counts : (b : List ℕ) (d left at : ℕ) → left ≡ 0 → record { node = at; code = 0; paths = 0; entries = 0 } ≡ counts b d left at
none_counts b d left at e =
    let x = sym (past_none b d left at e) in
    let k : last ≡ kids b d left at = sym (kids_none b d at left e) in
    λ j. record { node = x j; code = instruction_counts (terms (k j)); paths = path_counts (terms (k j)); entries = entry_counts (terms (k j)) }

abbrev pub Small : Counts → Type 0
Small t = (t.code < 2 ^ 63) × (t.paths < 2 ^ 63) × (t.entries < 2 ^ 63)

-- counts of nodes that stand in a slice are no overflow
pub small : (b : List ℕ) (d left at : ℕ) (t : Counts) → length b < 2 ^ 64 → at ≤ length b → all_well_formed (kids b d left at) ≡ true → t ≡ counts b d left at → Small t
small b d left at t l h w e =
    let x = bounded (kids b d left at) in
    let y = kids_end b d (λ u v. tree_end b d u v) left at h w in
    let e₁ = ap (λ (u : Counts). u.code) e in
    let e₂ = ap (λ (u : Counts). u.paths) e in
    let e₃ = ap (λ (u : Counts). u.entries) e in
    (omega (arith, x, y, l, e₁), omega (arith, x, y, l, e₂), omega (arith, x, y, l, e₃))

pub node_small : (b : List ℕ) (d at : ℕ) (t : Counts) → length b < 2 ^ 64 → well_formed (tree_in d b at) ≡ true → t ≡ node_counts b d at → Small t
node_small b d at t l w e =
    let x = bounds (tree_in d b at) in
    let y = tree_end b d at w in
    let e₁ = ap (λ (u : Counts). u.code) e in
    let e₂ = ap (λ (u : Counts). u.paths) e in
    let e₃ = ap (λ (u : Counts). u.entries) e in
    (omega (arith, x, y, l, e₁), omega (arith, x, y, l, e₂), omega (arith, x, y, l, e₃))

module _ (b : List ℕ) (d left at : ℕ) (n : left ≡ 0 → ⊥) (w : all_well_formed (kids b d left at) ≡ true) (f : Fields) (is_f : written f ≡ fields_at b at) where
  pub here_well : well_formed (tree_in d b at) ≡ true
  here_well = first_well b d left at n w

  pub deep : 0 < d
  deep = wholes.node_deep b d at f is_f here_well

  pub inside : at + node_size ≤ length b
  inside = wholes.node_inside b d at f is_f here_well

  pub inner_well : all_well_formed (kids b (d - 1) f.children (at + node_size)) ≡ true
  inner_well = wholes.kids_well b d at f is_f here_well

  module _ (t : Counts) (is_t : t ≡ counts b (d - 1) f.children (at + node_size)) (one : Counts) (is_one : one ≡ weight f t) where
    pub first_is : one ≡ node_counts b d at
    first_is = is_one ∙ ap (weight f) is_t ∙ weight_is b d at f is_f here_well

    next_at : at + node_size * size (tree_in d b at) ≡ one.node
    next_at = sym (ap (λ (u : Counts). u.node) first_is)

    pub next_well : all_well_formed (kids b d (left - 1) one.node) ≡ true
    next_well = subst (λ (x : ℕ). all_well_formed (kids b d (left - 1) x) ≡ true) next_at (rest_well b d left at n w)

    pub all_counts : (rest r : Counts) → rest ≡ counts b d (left - 1) one.node → r ≡ more rest one.code one.paths one.entries → r ≡ counts b d left at
    all_counts rest r e x =
        let k = kids_step b d left at n in
        let e' : rest ≡ counts b d (left - 1) (at + node_size * size (tree_in d b at)) = e ∙ ap (λ (u : ℕ). counts b d (left - 1) u) (sym next_at) in
        let x₀ : rest.node ≡ past b d left at = ap (λ (u : Counts). u.node) e' ∙ past_step b d left at n in
        let x₁ : rest.code + one.code ≡ instruction_counts (terms (kids b d left at)) =
        omega (arith, ap (λ (u : Counts). u.code) e', ap (λ (u : Counts). u.code) first_is, ap (λ (u : Formulas). instruction_counts (terms u)) k) in
        let x₂ : rest.paths + one.paths ≡ path_counts (terms (kids b d left at)) =
        omega (arith, ap (λ (u : Counts). u.paths) e', ap (λ (u : Counts). u.paths) first_is, ap (λ (u : Formulas). path_counts (terms u)) k) in
        let x₃ : rest.entries + one.entries ≡ entry_counts (terms (kids b d left at)) =
        omega (arith, ap (λ (u : Counts). u.entries) e', ap (λ (u : Counts). u.entries) first_is, ap (λ (u : Formulas). entry_counts (terms u)) k) in
        x ∙ (λ j. record { node = x₀ j; code = x₁ j; paths = x₂ j; entries = x₃ j })

-- the first i of some nodes that stand in a row need t
pub record Passed (b : List ℕ) (d left at i : ℕ) (t : Counts) : Type 0 where
  pub well : all_well_formed (kids b d (left - i) t.node) ≡ true
  pub whole : more (counts b d (left - i) t.node) t.code t.paths t.entries ≡ counts b d left at

more_none : (t : Counts) → more t 0 0 0 ≡ t
more_none t =
    let x₁ : t.code + 0 ≡ t.code = omega arith in
    let x₂ : t.paths + 0 ≡ t.paths = omega arith in
    let x₃ : t.entries + 0 ≡ t.entries = omega arith in
    λ j. record { node = t.node; code = x₁ j; paths = x₂ j; entries = x₃ j }

more_more : (t u w : Counts) → w ≡ more u t.code t.paths t.entries → (s : Counts) → more s w.code w.paths w.entries ≡ more (more s t.code t.paths t.entries) u.code u.paths u.entries
more_more t u w e s =
    let x₁ : s.code + w.code ≡ s.code + t.code + u.code = omega (arith, ap (λ (x : Counts). x.code) e) in
    let x₂ : s.paths + w.paths ≡ s.paths + t.paths + u.paths = omega (arith, ap (λ (x : Counts). x.paths) e) in
    let x₃ : s.entries + w.entries ≡ s.entries + t.entries + u.entries = omega (arith, ap (λ (x : Counts). x.entries) e) in
    λ j. record { node = s.node; code = x₁ j; paths = x₂ j; entries = x₃ j }

pub passed_start : (b : List ℕ) (d left at : ℕ) → all_well_formed (kids b d left at) ≡ true → Passed b d left at 0 (record { node = at; code = 0; paths = 0; entries = 0 })
passed_start b d left at w =
    let all_left : left ≡ left - 0 = omega arith in
    record {
      well = subst (λ (m : ℕ). all_well_formed (kids b d m at) ≡ true) all_left w;
      whole = more_none (counts b d (left - 0) at) ∙ ap (λ (m : ℕ). counts b d m at) (sym all_left);
    }

none_more : (t : Counts) → t ≡ more (record { node = t.node; code = 0; paths = 0; entries = 0 }) t.code t.paths t.entries
none_more t =
    let x₁ : t.code ≡ 0 + t.code = omega arith in
    let x₂ : t.paths ≡ 0 + t.paths = omega arith in
    let x₃ : t.entries ≡ 0 + t.entries = omega arith in
    λ j. record { node = t.node; code = x₁ j; paths = x₂ j; entries = x₃ j }

pub passed_end : (b : List ℕ) (d left at i : ℕ) (t : Counts) → Passed b d left at i t → left ≤ i → t ≡ counts b d left at
passed_end b d left at i t P h =
    let none_left : left - i ≡ 0 = omega arith in
    none_more t ∙ ap (λ (u : Counts). more u t.code t.paths t.entries) (none_counts b d (left - i) t.node none_left) ∙ P.whole

module _ (b : List ℕ) (d left at i : ℕ) (t : Counts) (w : all_well_formed (kids b d left at) ≡ true) (P : Passed b d left at i t) (h : i < left) where
  pub some_left : left - i ≡ 0 → ⊥
  some_left z = omega arith

  pub passed_small : length b < 2 ^ 64 → Small t
  passed_small l =
      let there = (stands b d at (first_well b d left at (λ z. omega arith) w)).inside in
      let s = small b d left at (counts b d left at) l (omega (arith, there)) w refl in
      (omega (arith, s, ap (λ (x : Counts). x.code) P.whole), omega (arith, s, ap (λ (x : Counts). x.paths) P.whole), omega (arith, s, ap (λ (x : Counts). x.entries) P.whole))

  pub passed_step : (f : Fields) (is_f : written f ≡ fields_at b t.node) (inner : Counts) (is_inner : inner ≡ counts b (d - 1) f.children (t.node + node_size)) (own : Counts)
      (is_own : own ≡ weight f inner) (r : Counts) → r ≡ more t own.code own.paths own.entries
      → Passed b d left at (i + 1) (record { node = own.node; code = r.code; paths = r.paths; entries = r.entries })
  passed_step f is_f inner is_inner own is_own r e =
      let fewer : left - i - 1 ≡ left - (i + 1) = omega arith in
      let rest = counts b d (left - i - 1) own.node in
      let one = all_counts b d (left - i) t.node some_left P.well f is_f inner is_inner own is_own rest (more rest own.code own.paths own.entries) refl refl in
      record {
        well =
            subst (λ (m : ℕ). all_well_formed (kids b d m own.node) ≡ true) fewer
            (next_well b d (left - i) t.node some_left P.well f is_f inner is_inner own is_own);
        whole =
            subst (λ (m : ℕ). more (counts b d m own.node) r.code r.paths r.entries ≡ counts b d left at) fewer
            (more_more own t r e rest ∙ ap (λ (u : Counts). more u t.code t.paths t.entries) one ∙ P.whole);
      }
