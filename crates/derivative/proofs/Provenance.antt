-- "It must be proved that each node's record is the rule, and the formula node it is applied at, by which the definition of the derivative writes that
-- node, and no other."
use mathlib.Core.Path.{◌≡◌, refl, sym, ap, ◌∙◌, subst}
use mathlib.Core.Bool.{Bool, true, false, cond}
use mathlib.Core.List.{List, [], ◌∷◌, ◌++◌, map, map-append, append-nil, append_assoc}
use mathlib.Core.Logic.{◌⊎◌, inl, inr}
use mathlib.Core.Option.{Option, none, some, some-injective}
use Prim.Native.Nat.{ℕ, zero, suc, ◌+◌, ◌≤◌, ◌<◌}
use native.Mathlib.Omega.{arith}
use lib.ListN.{length, length-map, get_elem?, take, drop}
use lib.Seq.{take-append_seam, drop-append-le, drop-append-add}
use lib.Dec.{eqb}
use borrow.Author.Tests.{eqb-true}
use Rattle.formula.specs.Formula.{Formula, node, size}
use Rattle.formula.proofs.Sizes.{size_pos}
use Rattle.derivative.specs.Differentiate.{derivative}
use Rattle.derivative.specs.Records.{Record, Recorded, Recordeds, noted, stop, more, erase, erase_all, records, records_all, by_rule, outer, to_the_zeroth, copy, differentiate_at, recorded_with_primal, recorded_derivative, records_of, derivative_records}
use Rattle.derivative.specs.Provenance.{parts, parts_all, subtrees, subtrees_all, top, numbered, all_between, Says, Told}
use Rattle.derivative.proofs.Attributes.{map_option}
use Rattle.derivative.proofs.Compiles.{and_then_some}
use Rattle.derivative.proofs.Faultless.{none_some}
use Rattle.derivative.proofs.Erased.{erase_copy, copy_records, records_length, recorded_there}
use Rattle.derivative.proofs.Indexed.{from_start, parts_length, there_below, between_one, between_append, between_drop, between_take}
use Rattle.derivative.proofs.Written.{All}
use Rattle.derivative.proofs.Says.{Every, EveryOf, Placed, copy_placed, differentiate_says}

-- ---- nodes, parts and records have the same numbers

mutual
  -- the records are those on top of the parts, in order
  pub records_tops : (t : Recorded) → records t ≡ map top (subtrees t)
  records_tops (noted r h ts) = rw (records_all_tops ts)

  records_all_tops : (ts : Recordeds) → records_all ts ≡ map top (subtrees_all ts)
  records_all_tops stop = refl
  records_all_tops (more t ts) = rw (map-append top (subtrees t) (subtrees_all ts), records_tops t, records_all_tops ts)

mutual
  -- the parts of the tree without records are the parts of the tree, without records, in order
  pub parts_erased : (t : Recorded) → parts (erase t) ≡ map erase (subtrees t)
  parts_erased (noted r h ts) = rw (parts_all_erased ts)

  parts_all_erased : (ts : Recordeds) → parts_all (erase_all ts) ≡ map erase (subtrees_all ts)
  parts_all_erased stop = refl
  parts_all_erased (more t ts) = rw (map-append erase (subtrees t) (subtrees_all ts), parts_erased t, parts_all_erased ts)

map_at : {A B : Type 0} (g : A → B) (xs : List A) (j : ℕ) → get_elem? (map g xs) j ≡ map_option g (get_elem? xs j)
map_at g [] j = refl
map_at g (x ∷ xs) zero = refl
map_at g (x ∷ xs) (suc j) = map_at g xs j

-- ---- the records of a part stand together

append_cases : {A : Type 0} (xs ys : List A) (j : ℕ) (a : A) → get_elem? (xs ++ ys) j ≡ some a
    → (get_elem? xs j ≡ some a) ⊎ ((i : ℕ) × (j ≡ length xs + i) × (get_elem? ys i ≡ some a))
append_cases [] ys j a e = inr (j, omega arith, e)
append_cases (x ∷ xs) ys zero a e = inl e
append_cases {A} (x ∷ xs) ys (suc j) a e = from (append_cases xs ys j a e)
  where
    from : (get_elem? xs j ≡ some a) ⊎ ((i : ℕ) × (j ≡ length xs + i) × (get_elem? ys i ≡ some a))
        → (get_elem? xs j ≡ some a) ⊎ ((i : ℕ) × (suc j ≡ suc (length xs) + i) × (get_elem? ys i ≡ some a))
    from (inl p) = inl p
    from (inr (i, z, p)) = inr (i, omega arith, p)

pub subtrees_length : (t : Recorded) → length (subtrees t) ≡ length (records t)
subtrees_length t = sym (length-map (subtrees t) top) ∙ ap (λ (xs : List Record). length xs) (sym (records_tops t))

-- the list begins with these
abbrev Begins : List Record → List Record → Type 0
Begins list rs = (more_of : List Record) × (list ≡ rs ++ more_of)

joined : (t : Recorded) (ts : Recordeds) (j : ℕ) (u : Recorded)
    → (get_elem? (subtrees t) j ≡ some u) ⊎ ((i : ℕ) × (j ≡ length (subtrees t) + i) × (get_elem? (subtrees_all ts) i ≡ some u))
    → (get_elem? (subtrees t) j ≡ some u → Begins (drop j (records t)) (records u))
    → ((i : ℕ) → get_elem? (subtrees_all ts) i ≡ some u → Begins (drop i (records_all ts)) (records u))
    → Begins (drop j (records t ++ records_all ts)) (records u)
joined t ts j u (inl e) p q =
    let g = p e in
    let b : j ≤ length (records t) = omega (arith, there_below (subtrees t) j u e, subtrees_length t) in (
      g.0 ++ records_all ts,
      drop-append-le j (records t) (records_all ts) b
          ∙ ap (λ (xs : List Record). xs ++ records_all ts) g.1
          ∙ append_assoc (records u) g.0 (records_all ts),
    )
joined t ts j u (inr (i, z, e)) p q =
    let g = q i e in
    let w : j ≡ length (records t) + i = omega (arith, subtrees_length t) in
    (g.0, ap (λ (n : ℕ). drop n (records t ++ records_all ts)) w ∙ drop-append-add (records t) (records_all ts) i ∙ g.1)

mutual
  -- from the record of node j on, the list has the records of the part on top of which it stands
  records_begin : (t : Recorded) (j : ℕ) (u : Recorded) → get_elem? (subtrees t) j ≡ some u → Begins (drop j (records t)) (records u)
  records_begin (noted r h ts) zero u e =
      ([], ap (λ (x : Recorded). records x) (some-injective _ _ e) ∙ sym (append-nil (records u)))
  records_begin (noted r h ts) (suc j) u e = records_all_begin ts j u e

  records_all_begin : (ts : Recordeds) (j : ℕ) (u : Recorded) → get_elem? (subtrees_all ts) j ≡ some u → Begins (drop j (records_all ts)) (records u)
  records_all_begin stop j u e = none_some e
  records_all_begin (more t ts) j u e =
      joined t ts j u (append_cases (subtrees t) (subtrees_all ts) j u e) (λ p. records_begin t j u p) (λ i p. records_all_begin ts i u p)

-- from the record of node j on, the list has the records of the part on top of which it stands
pub records_from : (t : Recorded) (j : ℕ) (u : Recorded) → get_elem? (subtrees t) j ≡ some u → take (length (records u)) (drop j (records t)) ≡ records u
records_from t j u e =
    let g = records_begin t j u e in
    ap (λ (xs : List Record). take (length (records u)) xs) g.1 ∙ take-append_seam (records u) g.0

-- ---- a law of every part

all_append : {A : Type 0} (P : A → Type 0) (xs ys : List A) → All P xs → All P ys → All P (xs ++ ys)
all_append P [] ys a b = b
all_append P (x ∷ xs) ys a b = (a.0, all_append P xs ys a.1 b)

all_at : {A : Type 0} (P : A → Type 0) (xs : List A) (j : ℕ) (x : A) → All P xs → get_elem? xs j ≡ some x → P x
all_at P [] j x a e = none_some e
all_at P (y ∷ xs) zero x a e = subst P (some-injective _ _ e) a.0
all_at P (y ∷ xs) (suc j) x a e = all_at P xs j x a.1 e

mutual
  every_all : (P : Recorded → Type 0) (t : Recorded) → Every P t → All P (subtrees t)
  every_all P (noted r h ts) a = (a.0, every_of_all P ts a.1)

  every_of_all : (P : Recorded → Type 0) (ts : Recordeds) → EveryOf P ts → All P (subtrees_all ts)
  every_of_all P stop a = tt
  every_of_all P (more t ts) a = all_append P (subtrees t) (subtrees_all ts) (every_all P t a.0) (every_of_all P ts a.1)

-- ---- how often a rule's number stands in a list of records

abbrev pub times : ℕ → List Record → ℕ
times r [] = 0
times r (x ∷ xs) = cond (eqb x.rule r) (suc (times r xs)) (times r xs)

never_times : (r : ℕ) (P : Recorded → Type 0) → ((t : Recorded) → P t → (top t).rule ≡ r → ⊥) → (ts : List Recorded) → All P ts
    → times r (map top ts) ≡ 0
never_times r P n [] a = refl
never_times r P n (t ∷ ts) a = from (eqb (top t).rule r) refl (never_times r P n ts a.1)
  where
    from : (b : Bool) → eqb (top t).rule r ≡ b → times r (map top ts) ≡ 0 → times r (map top (t ∷ ts)) ≡ 0
    from true e z = absurd (n t a.0 (eqb-true (top t).rule r e))
    from false e z = rw (e, z)

-- ---- the derivative of a formula

module _ (s : ℕ) (by_state : Bool) (f : Formula) where
  module _ (D : Recorded) (is : recorded_derivative s by_state f ≡ some D) where
    -- what is inside the outer nodes: the derivative by the rules
    pub inside : (d : Recorded) × (differentiate_at s by_state 0 f ≡ some d) × (recorded_with_primal f d ≡ D)
    inside = let g = and_then_some (differentiate_at s by_state 0 f) _ D is in (g.0, g.1, some-injective _ _ g.2)

    -- the parts from node 3 on: those of the formula's copy, then those of the derivative by the rules
    abbrev rest : Recorded → List Recorded
    rest d = subtrees (copy 0 f) ++ [] ++ (subtrees d ++ [])

    copy_there : Placed s f 0 (0 + size f) (copy 0 f)
    copy_there = copy_placed s f 0 (0 + size f) 0 f (omega arith) (omega arith) (from_start f)

    rest_say : (d : Recorded) → differentiate_at s by_state 0 f ≡ some d → All (Says s f) (rest d)
    rest_say d e =
        all_append (Says s f) (subtrees (copy 0 f) ++ []) (subtrees d ++ [])
        (all_append (Says s f) (subtrees (copy 0 f)) [] (every_all (Says s f) (copy 0 f) copy_there.0) tt)
        (all_append (Says s f) (subtrees d) [] (every_all (Says s f) d (differentiate_says s by_state f 0 f d (from_start f) e).0) tt)

    -- nodes 0, 1 and 2 are the outer ones
    pub outer_records :
        (get_elem? (records D) 0 ≡ some (by_rule outer 0)) × (get_elem? (records D) 1 ≡ some (by_rule outer 0))
        × (get_elem? (records D) 2 ≡ some (by_rule outer 0))
    outer_records = let g = inside in rw (← g.2) (refl, refl, refl)

    -- node 3 is the copy of the formula
    pub primal_copied : get_elem? (subtrees D) 3 ≡ some (copy 0 f)
    primal_copied = let g = inside in rw (← g.2) (from f g.0)
      where
        from : (p : Formula) (d : Recorded) → get_elem? (subtrees (recorded_with_primal p d)) 3 ≡ some (copy 0 p)
        from (node h ts) d = refl

    -- from node 3 on each record says what it is to say
    pub others_say : (j : ℕ) (t : Recorded) → get_elem? (subtrees D) (suc (suc (suc j))) ≡ some t → Says s f t
    others_say j t e = let g = inside in all_at (Says s f) (rest g.0) j t (rest_say g.0 g.1) (rw (← g.2) at e)

    -- node by node: the outer three, or what is to be said
    pub each_says : (j : ℕ) (t : Recorded) → get_elem? (subtrees D) j ≡ some t → ((j < 3) × (top t ≡ by_rule outer 0)) ⊎ ((3 ≤ j) × Says s f t)
    each_says zero t e =
        let g = inside in inl (omega arith, ap top (sym (some-injective _ _ (rw (← g.2) at e))))
    each_says (suc zero) t e =
        let g = inside in inl (omega arith, ap top (sym (some-injective _ _ (rw (← g.2) at e))))
    each_says (suc (suc zero)) t e =
        let g = inside in inl (omega arith, ap top (sym (some-injective _ _ (rw (← g.2) at e))))
    each_says (suc (suc (suc j))) t e = inr (omega arith, others_say j t e)

    rest_times : (r : ℕ) → ((t : Recorded) → Says s f t → (top t).rule ≡ r → ⊥) → (d : Recorded) → differentiate_at s by_state 0 f ≡ some d
        → times r (map top (rest d)) ≡ 0
    rest_times r n d e = never_times r (Says s f) n (rest d) (rest_say d e)

    -- exactly three records are of the outer nodes
    pub three_outer : times outer (records D) ≡ 3
    three_outer =
        let g = inside in
        ap (λ (xs : List Record). times outer xs) (records_tops D)
        ∙ rw (← g.2) (ap (λ (n : ℕ). suc (suc (suc n))) (rest_times outer (λ t a z. omega (arith, a.not_above)) g.0 g.1))

    -- none of the 1 that `power` writes for the power 0
    pub never_zeroth : times to_the_zeroth (records D) ≡ 0
    never_zeroth =
        let g = inside in
        ap (λ (xs : List Record). times to_the_zeroth xs) (records_tops D)
        ∙ rw (← g.2) (rest_times to_the_zeroth (λ t a z. a.not_zeroth z) g.0 g.1)

    -- none of Positive
    pub never_positive : times 2 (records D) ≡ 0
    never_positive =
        let g = inside in
        ap (λ (xs : List Record). times 2 xs) (records_tops D) ∙ rw (← g.2) (rest_times 2 (λ t a z. a.not_positive z) g.0 g.1)

    part_at : (j : ℕ) (t : Recorded) → get_elem? (subtrees D) j ≡ some t → get_elem? (parts (erase D)) j ≡ some (erase t)
    part_at j t e =
        ap (λ (ps : List Formula). get_elem? ps j) (parts_erased D) ∙ map_at erase (subtrees D) j ∙ ap (λ (o : Option Recorded). map_option erase o) e

    outer_between : (rs : List Record) → all_between 0 (0 + size f) rs ≡ true → all_between 0 (0 + size f) (by_rule outer 0 ∷ rs) ≡ true
    outer_between rs e = between_one 0 (0 + size f) 0 (all_between 0 (0 + size f) rs) (omega arith) (omega (arith, size_pos f)) e

    -- all records are at nodes of the formula
    all_there : all_between 0 (0 + size f) (records D) ≡ true
    all_there =
        let g = inside in
        let copies = records (copy 0 f) ++ [] in
        let product = by_rule outer 0 ∷ by_rule outer 0 ∷ copies in
        let below = (differentiate_says s by_state f 0 f g.0 (from_start f) g.1).1 in
        rw (← g.2)
        (outer_between (product ++ (records g.0 ++ []))
        (between_append 0 (0 + size f) product (records g.0 ++ [])
        (outer_between (by_rule outer 0 ∷ copies) (outer_between copies (between_append 0 (0 + size f) (records (copy 0 f)) [] copy_there.1 refl)))
        (between_append 0 (0 + size f) (records g.0) [] below refl)))

    outer_told : (j : ℕ) (t : Recorded) → get_elem? (subtrees D) j ≡ some t → j < 3 → top t ≡ by_rule outer 0 → Told s f (erase D) (records D) j (top t)
    outer_told j t e l z =
        let r : (top t).rule ≡ 27 = ap (λ (x : Record). x.rule) z in
        let k : (top t).source ≡ 0 = ap (λ (x : Record). x.source) z in
        record {
          part = f;
          is_part = rw k (first f);
          term = erase t;
          is_term = part_at j t e;
          is_local = rw k (between_take 0 (0 + size f) (size (erase t)) (drop j (records D)) (between_drop 0 (0 + size f) j (records D) all_there));
          if_copied = λ q. absurd (omega arith);
          if_arm = λ lo hi. absurd (omega arith);
          if_beside_zero = λ q. absurd (omega arith);
          if_without_symbol = λ q. absurd (omega arith);
          if_outer = λ q. (l, k);
          if_first = λ q. r;
          not_positive = λ q. omega arith;
          not_zeroth = λ q. omega arith;
          not_above = omega arith;
        }
      where
        first : (p : Formula) → get_elem? (parts p) 0 ≡ some p
        first (node h ts) = refl

    term_records : (j : ℕ) (t : Recorded) → get_elem? (subtrees D) j ≡ some t → take (size (erase t)) (drop j (records D)) ≡ records t
    term_records j t e = rw (← records_length t) (records_from D j t e)

    copied_told : (j : ℕ) (t : Recorded) (k : ℕ) (p : Formula) → get_elem? (subtrees D) j ≡ some t → t ≡ copy k p
        → (erase t ≡ p) × (take (size p) (drop j (records D)) ≡ numbered k (size p))
    copied_told j t k p e z =
        let q : erase t ≡ p = ap (λ (x : Recorded). erase x) z ∙ erase_copy k p in
        (q, rw (← q) (term_records j t e) ∙ ap (λ (x : Recorded). records x) z ∙ copy_records k p)

    says_told : (j : ℕ) (t : Recorded) → get_elem? (subtrees D) j ≡ some t → 3 ≤ j → Says s f t → Told s f (erase D) (records D) j (top t)
    says_told j t e l a =
        record {
          part = a.part;
          is_part = a.is_part;
          term = erase t;
          is_term = part_at j t e;
          is_local =
              ap (λ (rs : List Record). all_between (top t).source ((top t).source + size a.part) rs) (term_records j t e) ∙ a.is_local;
          if_copied = λ q. copied_told j t (top t).source a.part e (a.if_copied q);
          if_arm = a.if_arm;
          if_beside_zero = λ q. ((a.if_beside_zero q).0, ap (λ (x : Recorded). erase x) (a.if_beside_zero q).1);
          if_without_symbol = λ q. ((a.if_without_symbol q).0, ap (λ (x : Recorded). erase x) (a.if_without_symbol q).1);
          if_outer = λ q. absurd (omega (arith, a.not_above));
          if_first = λ q. absurd (omega arith);
          not_positive = a.not_positive;
          not_zeroth = a.not_zeroth;
          not_above = omega (arith, a.not_above);
        }

    node_told : (j : ℕ) (t : Recorded) → get_elem? (subtrees D) j ≡ some t → Told s f (erase D) (records D) j (top t)
    node_told j t e = from (each_says j t e)
      where
        from : ((j < 3) × (top t ≡ by_rule outer 0)) ⊎ ((3 ≤ j) × Says s f t) → Told s f (erase D) (records D) j (top t)
        from (inl (l, z)) = outer_told j t e l z
        from (inr (l, a)) = says_told j t e l a

    record_told : (j : ℕ) (r : Record) → get_elem? (records D) j ≡ some r → Told s f (erase D) (records D) j r
    record_told j r e =
        from (get_elem? (subtrees D) j) refl (sym (map_at top (subtrees D) j) ∙ ap (λ (xs : List Record). get_elem? xs j) (sym (records_tops D)) ∙ e)
      where
        from : (o : Option Recorded) → get_elem? (subtrees D) j ≡ o → map_option top o ≡ some r → Told s f (erase D) (records D) j r
        from none p q = none_some q
        from (some t) p q = subst (λ (x : Record). Told s f (erase D) (records D) j x) (some-injective _ _ q) (node_told j t p)

  -- ---- the same of formula, derivative and list

  list_is : (D : Recorded) → recorded_derivative s by_state f ≡ some D → records D ≡ derivative_records s by_state f
  unfolding derivative_records
  list_is D is = ap (λ (o : Option Recorded). records_of o) (sym is)

  module _ (d : Formula) (is : derivative s by_state f ≡ some d) where
    -- Each record of the list, the j-th, is the rule and the node of the formula by which node j of the derivative is written.
    pub told : (j : ℕ) (r : Record) → get_elem? (derivative_records s by_state f) j ≡ some r → Told s f d (derivative_records s by_state f) j r
    told j r e =
        let g = recorded_there s by_state f d is in
        let l = list_is g.0 g.1 in
        subst (λ (x : Formula). Told s f x (derivative_records s by_state f) j r) g.2
        (subst (λ (xs : List Record). Told s f (erase g.0) xs j r) l
        (record_told g.0 g.1 j r (ap (λ (xs : List Record). get_elem? xs j) l ∙ e)))

    -- it is a node of the formula
    pub source_below : (j : ℕ) (r : Record) → get_elem? (derivative_records s by_state f) j ≡ some r → r.source < size f
    source_below j r e =
        let a = told j r e in omega (arith, there_below (parts f) r.source a.part a.is_part, parts_length f)

    -- three records are of the outer nodes; Positive and the 1 of `power` are in none
    pub numbers_of_rules :
        (times outer (derivative_records s by_state f) ≡ 3)
        × (times 2 (derivative_records s by_state f) ≡ 0)
        × (times to_the_zeroth (derivative_records s by_state f) ≡ 0)
    numbers_of_rules =
        let g = recorded_there s by_state f d is in
        rw (← list_is g.0 g.1) (three_outer g.0 g.1, never_positive g.0 g.1, never_zeroth g.0 g.1)
