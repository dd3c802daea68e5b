-- Each record is the rule, and the formula's node it is applied at, by which its node is written.
use mathlib.Core.Path.{◌≡◌, refl, sym, ap, ◌∙◌, subst}
use mathlib.Core.Bool.{Bool, true, false, cond, ◌&&◌, ◌||◌}
use mathlib.Core.List.{List, [], ◌∷◌}
use mathlib.Core.Logic.{inl, inr}
use mathlib.Core.Option.{Option, none, some, some-injective}
use Prim.Native.Nat.{ℕ, suc, ◌+◌, ◌≤◌}
use native.Mathlib.Omega.{arith}
use lib.ListN.{length, get_or, get_elem?}
use lib.Dec.{ltb}
use borrow.Author.Tests.{ltb-false, le-ltb}
use Rattle.formula.specs.Operator.{unary, binary, compare, call, Positive, Negative, Not, Multiply, Binary, Add, Subtract, Divide, Power, Modulo, Function, Exp, Log, Log10, Sqrt, Sin, Cos, Tan, Tanh, Abs, Floor, Ceil, Min, Max, Hill, InverseGaussianDensity}
use Rattle.formula.specs.Formula.{Head, number, truth, symbol, operation, junction, ifelse, conditional, malformed, Formula, Formulas, node, last, next, count, size, sizes, depends}
use Rattle.formula.proofs.Sizes.{size_pos}
use Rattle.derivative.specs.Rules.{Algebra, Parts, Rule, diff, lit, instance}
use Rattle.derivative.specs.Differentiate.{first_literal, second_literal, and_then, applied, the_rule}
use Rattle.derivative.specs.Records.{Record, Recorded, Recordeds, noted, stop, more, gathered, records, records_all, by_rule, copy, copies, written_by, arm, binary_arm, call_arm, beside_zero, without_symbol, recorded_literal, differentiate_at, differentiate_from}
use Rattle.derivative.specs.Provenance.{parts, parts_all, same_head, written_nodes, looked_at, writes, all_between, Says}
use Rattle.derivative.proofs.Compiles.{and_then_some}
use Rattle.derivative.proofs.Faultless.{never, none_some}
use Rattle.derivative.proofs.Erased.{copy_records}
use Rattle.derivative.proofs.Indexed.{From, from_first, from_rest, from_left, from_right, between_one, between_append, between_numbered, between_wider}
use Rattle.derivative.proofs.Written.{All, instance_holds, zeroth_holds}
use Rattle.derivative.proofs.RulesWritten.{Made, Enough, writes_by, rule_made, symbol_made}

-- ---- of every part of a tree with records

abbrev mutual
  pub Every : (Recorded → Type 0) → Recorded → Type 0
  Every P (noted r h ts) = P (noted r h ts) × EveryOf P ts

  pub EveryOf : (Recorded → Type 0) → Recordeds → Type 0
  EveryOf P stop = Unit {0}
  EveryOf P (more t ts) = Every P t × EveryOf P ts

every_gathered : (P : Recorded → Type 0) (ts : List Recorded) → All (Every P) ts → EveryOf P (gathered ts)
every_gathered P [] a = tt
every_gathered P (t ∷ ts) a = (a.0, every_gathered P ts a.1)

-- ---- the numbers of arms

call_below : (f : Function) → call_arm f ≤ 23
call_below Exp = omega arith
call_below Log = omega arith
call_below Log10 = omega arith
call_below Sqrt = omega arith
call_below Sin = omega arith
call_below Cos = omega arith
call_below Tan = omega arith
call_below Tanh = omega arith
call_below Abs = omega arith
call_below Floor = omega arith
call_below Ceil = omega arith
call_below Min = omega arith
call_below Max = omega arith
call_below Hill = omega arith
call_below InverseGaussianDensity = omega arith

binary_below : (o : Binary) → binary_arm o ≤ 23
binary_below Add = omega arith
binary_below Subtract = omega arith
binary_below Multiply = omega arith
binary_below Divide = omega arith
binary_below Power = omega arith
binary_below Modulo = omega arith

pub arm_below : (h : Head) → arm h ≤ 23
arm_below (number b) = omega arith
arm_below (truth b) = omega arith
arm_below (symbol i) = omega arith
arm_below (operation (unary Positive)) = omega arith
arm_below (operation (unary Negative)) = omega arith
arm_below (operation (unary Not)) = omega arith
arm_below (operation (binary o)) = binary_below o
arm_below (operation (compare o)) = omega arith
arm_below (operation (call g)) = call_below g
arm_below (junction j) = omega arith
arm_below ifelse = omega arith
arm_below conditional = omega arith
arm_below malformed = omega arith

-- ---- what is written says so

-- whether a child that the arm looks at isn't there
abbrev misses : Formula → Bool
misses (node h ts) = ltb (count ts) (get_or looked_at (arm h) 0)

-- an arm that has no nodes to write and looks at no child writes nothing
nothing_written : (n : ℕ) (x : Option ℕ) (r : ℕ) (g : Head) → get_or looked_at r 0 ≡ 0 → get_or (written_nodes x) r [] ≡ []
    → writes_by (ltb n (get_or looked_at r 0)) x r g ≡ true → ⊥
nothing_written n x r g p q e =
    from (same_head g (number 0)) (rw (p, q, le-ltb n 0 (omega arith)) at e)
  where
    from : (b : Bool) → ((b && false) || false) ≡ true → ⊥
    from true h = never h
    from false h = never h

module _ (s : ℕ) (f : Formula) where
  copy_says_so : (k : ℕ) (p : Formula) → get_elem? (parts f) k ≡ some p → Says s f (copy k p)
  copy_says_so k (node h ts) e =
      record {
        part = node h ts;
        is_part = e;
        is_local =
            ap (λ (rs : List Record). all_between k (k + size (node h ts)) rs) (copy_records k (node h ts))
            ∙ between_numbered k (k + size (node h ts)) k (size (node h ts)) (omega arith) (omega arith);
        if_copied = λ z. refl;
        if_arm = λ lo hi. absurd (omega arith);
        if_beside_zero = λ z. absurd (omega arith);
        if_without_symbol = λ z. absurd (omega arith);
        not_positive = λ z. omega arith;
        not_zeroth = λ z. omega arith;
        not_above = omega arith;
      }

  arm_says_so : (k : ℕ) (h : Head) (ps : Formulas) (g : Head) (ts : Recordeds)
      → get_elem? (parts f) k ≡ some (node h ps) → depends s (node h ps) ≡ true → writes (node h ps) g ≡ true
      → all_between k (k + size (node h ps)) (by_rule (arm h) k ∷ records_all ts) ≡ true → Says s f (noted (by_rule (arm h) k) g ts)
  arm_says_so k h ps g ts e d w i =
      let unwritten : (r : ℕ) → get_or looked_at r 0 ≡ 0 → get_or (written_nodes (second_literal ps)) r [] ≡ [] → arm h ≡ r → ⊥ =
      λ r p q z. nothing_written (count ps) (second_literal ps) r g p q (ap (λ (n : ℕ). writes_by (ltb (count ps) (get_or looked_at n 0)) (second_literal ps) n g) (sym z) ∙ w) in
      record {
        part = node h ps;
        is_part = e;
        is_local = i;
        if_copied = λ z. absurd (unwritten 0 refl refl z);
        if_arm = λ lo hi. (d, refl, w);
        if_beside_zero = λ z. absurd (omega (arith, arm_below h));
        if_without_symbol = λ z. absurd (omega (arith, arm_below h));
        not_positive = λ z. unwritten 2 refl refl z;
        not_zeroth = λ z. omega (arith, arm_below h);
        not_above = omega (arith, arm_below h);
      }

  zero_says_so : (k : ℕ) (p : Formula) → get_elem? (parts f) k ≡ some p → depends s p ≡ true → Says s f (recorded_literal beside_zero k 0)
  zero_says_so k p e d =
      record {
        part = p;
        is_part = e;
        is_local = between_one k (k + size p) k true (omega arith) (omega (arith, size_pos p)) refl;
        if_copied = λ z. absurd (omega arith);
        if_arm = λ lo hi. absurd (omega arith);
        if_beside_zero = λ z. (d, refl);
        if_without_symbol = λ z. absurd (omega arith);
        not_positive = λ z. omega arith;
        not_zeroth = λ z. omega arith;
        not_above = omega arith;
      }

  without_says_so : (k : ℕ) (p : Formula) → get_elem? (parts f) k ≡ some p → depends s p ≡ false → Says s f (recorded_literal without_symbol k 0)
  without_says_so k p e d =
      record {
        part = p;
        is_part = e;
        is_local = between_one k (k + size p) k true (omega arith) (omega (arith, size_pos p)) refl;
        if_copied = λ z. absurd (omega arith);
        if_arm = λ lo hi. absurd (omega arith);
        if_beside_zero = λ z. absurd (omega arith);
        if_without_symbol = λ z. (d, refl);
        not_positive = λ z. omega arith;
        not_zeroth = λ z. omega arith;
        not_above = omega arith;
      }

  abbrev pub AllSay : Recorded → Type 0
  AllSay t = Every (Says s f) t

  mutual
    -- in a copy of the formula's node k each record says so
    pub copy_says : (k : ℕ) (t : Formula) → From f k (parts t) → AllSay (copy k t)
    copy_says k (node h ts) a =
        let below = copies_say (suc k) ts (from_rest f k (node h ts) (parts_all ts) a) in
        (copy_says_so k (node h ts) (from_first f k (node h ts) (parts_all ts) a), every_gathered (Says s f) (copies (suc k) ts) below)

    copies_say : (k : ℕ) (ts : Formulas) → From f k (parts_all ts) → All AllSay (copies k ts)
    copies_say k last a = tt
    copies_say k (next t ts) a =
        (copy_says k t (from_left f k (parts t) (parts_all ts) a), copies_say (k + size t) ts (from_right f k t (parts_all ts) a))

  -- each record says so, and all are at nodes from one up to another
  abbrev pub Placed : ℕ → ℕ → Recorded → Type 0
  Placed from to t = AllSay t × (all_between from to (records t) ≡ true)

  wider : (from to from' to' : ℕ) → from ≤ from' → to' ≤ to → (t : Recorded) → Placed from' to' t → Placed from to t
  wider from to from' to' l h t a = (a.0, between_wider from to from' to' l h (records t) a.1)

  all_wider : (from to from' to' : ℕ) → from ≤ from' → to' ≤ to → (ts : List Recorded) → All (Placed from' to') ts → All (Placed from to) ts
  all_wider from to from' to' l h [] a = tt
  all_wider from to from' to' l h (t ∷ ts) a = (wider from to from' to' l h t a.0, all_wider from to from' to' l h ts a.1)

  all_first : (from to : ℕ) (ts : List Recorded) → All (Placed from to) ts → All AllSay ts
  all_first from to [] a = tt
  all_first from to (t ∷ ts) a = (a.0.0, all_first from to ts a.1)

  all_second : (from to : ℕ) (ts : List Recorded) → All (Placed from to) ts → all_between from to (records_all (gathered ts)) ≡ true
  all_second from to [] a = refl
  all_second from to (t ∷ ts) a = between_append from to (records t) (records_all (gathered ts)) a.0.1 (all_second from to ts a.1)

  pub copy_placed : (from to k : ℕ) (t : Formula) → from ≤ k → k + size t ≤ to → From f k (parts t) → Placed from to (copy k t)
  copy_placed from to k t l h a = (copy_says k t a, rw (copy_records k t) (between_numbered from to k (size t) l h))

  copies_placed : (from to k : ℕ) (ts : Formulas) → from ≤ k → k + sizes ts ≤ to → From f k (parts_all ts) → All (Placed from to) (copies k ts)
  copies_placed from to k last l h a = tt
  copies_placed from to k (next t ts) l h a = (
    copy_placed from to k t l (omega arith) (from_left f k (parts t) (parts_all ts) a),
    copies_placed from to (k + size t) ts (omega arith) (omega arith) (from_right f k t (parts_all ts) a),
  )

  copies_length : (k : ℕ) (ts : Formulas) → length (copies k ts) ≡ count ts
  copies_length k last = refl
  copies_length k (next t ts) = rw (copies_length (k + size t) ts)

  -- what the arm of the formula's node k writes
  module _ (k : ℕ) (h : Head) (ps : Formulas) (is : get_elem? (parts f) k ≡ some (node h ps)) (has : depends s (node h ps) ≡ true) where
    abbrev Here : Recorded → Type 0
    Here t = Placed k (k + size (node h ps)) t

    nodes_say : (g : Head) (ts : List Recorded) → writes (node h ps) g ≡ true → All Here ts → Here ((written_by (arm h) k).node g ts)
    nodes_say g ts w a =
        let to = k + size (node h ps) in
        let i = between_one k to k (all_between k to (records_all (gathered ts))) (omega arith) (omega arith) (all_second k to ts a) in
        ((arm_says_so k h ps g (gathered ts) is has w i, every_gathered (Says s f) ts (all_first k to ts a)), i)

    product_says : Here (written_by (arm h) k).zero_product
    product_says =
        ((zero_says_so k (node h ps) is has, tt), between_one k (k + size (node h ps)) k true (omega arith) (omega arith) refl)

    instance_says : (n : ℕ) (e : Parts Recorded) (q : Rule) → Here e.own → All Here e.children → All Here e.diffs
        → length e.children ≡ n → length e.diffs ≡ n → Made (misses (node h ps)) (second_literal ps) (arm h) n q → Here (instance (written_by (arm h) k) e q)
    instance_says n e q own children diffs l m (inl t) =
        instance_holds (written_by (arm h) k) Here (writes (node h ps)) nodes_say product_says n e own children diffs l m q t
    instance_says n e q own children diffs l m (inr (c, p, u, v, d)) =
        rw p
        (zeroth_holds (written_by (arm h) k) Here (writes (node h ps)) nodes_say product_says refl refl
        (instance (written_by (arm h) k) e (lit c)) (instance (written_by (arm h) k) e (diff 0)) v (nodes_say (number c) [] u tt)
        (instance_holds (written_by (arm h) k) Here (writes (node h ps)) nodes_say product_says n e own children diffs l m (diff 0) d))

applied_some : {A : Type 0} (G : Algebra A) (r : Option Rule) (t : A) (ts ds : List A) (d : A) → applied G r t ts ds ≡ some d
    → (q : Rule) × (r ≡ some q) × (instance G (record { own = t; children = ts; diffs = ds }) q ≡ d)
applied_some G none t ts ds d e = none_some e
applied_some G (some q) t ts ds d e = (q, refl, some-injective _ _ e)

module _ (s : ℕ) (by_state : Bool) where
  enough : (h : Head) (ts : Formulas) → Enough (misses (node h ts)) (arm h) (count ts)
  enough h ts e = ltb-false (count ts) (get_or looked_at (arm h) 0) e

  made_of : (h : Head) (ts : Formulas) (q : Rule) → depends s (node h ts) ≡ true → the_rule s by_state h ts ≡ some q
      → Made (misses (node h ts)) (second_literal ts) (arm h) (count ts) q
  made_of h (next t ts) q d e = rule_made by_state (misses (node h (next t ts))) (first_literal ts) (count ts) (depends s t) h q (enough h (next t ts)) e
  made_of (symbol i) last q d e = symbol_made (misses (node (symbol i) last)) none 0 q e
  made_of (number b) last q d e = never d
  made_of (truth b) last q d e = never d
  made_of (operation o) last q d e = never d
  made_of (junction j) last q d e = never d
  made_of ifelse last q d e = never d
  made_of conditional last q d e = never d
  made_of malformed last q d e = never d

  module _ (f : Formula) where
    abbrev DerivativesSay : ℕ → Formulas → Type 0
    DerivativesSay k ts =
        (ds : List Recorded) → differentiate_from s by_state k ts ≡ some ds → All (Placed s f k (k + sizes ts)) ds × (length ds ≡ count ts)

    node_says : (has : Bool) (k : ℕ) (h : Head) (ts : Formulas) (d : Recorded) → depends s (node h ts) ≡ has → From f k (parts (node h ts))
        → DerivativesSay (suc k) ts
        → cond has
        (and_then (differentiate_from s by_state (suc k) ts)
        (λ ds. applied (written_by (arm h) k) (the_rule s by_state h ts) (copy k (node h ts)) (copies (suc k) ts) ds))
        (some (recorded_literal without_symbol k 0))
        ≡ some d
        → Placed s f k (k + size (node h ts)) d
    node_says true k h ts d has a ih e =
        let to = k + size (node h ts) in
        let g = and_then_some (differentiate_from s by_state (suc k) ts) _ d e in
        let ds = g.0 in
        let q = applied_some (written_by (arm h) k) (the_rule s by_state h ts) (copy k (node h ts)) (copies (suc k) ts) ds d g.2 in
        let is = from_first f k (node h ts) (parts_all ts) a in
        let below = ih ds g.1 in
        subst (λ (t : Recorded). Placed s f k to t) q.2
        (instance_says s f k h ts is has (count ts) (record { own = copy k (node h ts); children = copies (suc k) ts; diffs = ds }) q.0
        (copy_placed s f k to k (node h ts) (omega arith) (omega arith) a)
        (copies_placed s f k to (suc k) ts (omega arith) (omega arith) (from_rest f k (node h ts) (parts_all ts) a))
        (all_wider s f k to (suc k) (suc k + sizes ts) (omega arith) (omega arith) ds below.0)
        (copies_length s f (suc k) ts) below.1 (made_of h ts q.0 has q.1))
    node_says false k h ts d has a ih e =
        let to = k + size (node h ts) in
        let q : recorded_literal without_symbol k 0 ≡ d = some-injective _ _ e in
        subst (λ (t : Recorded). Placed s f k to t) q
        ((without_says_so s f k (node h ts) (from_first f k (node h ts) (parts_all ts) a) has, tt), between_one k to k true (omega arith) (omega arith) refl)

    mutual
      -- in the derivative of the formula's node k each record says what it is to say, and is at a node of that part
      pub differentiate_says : (k : ℕ) (p : Formula) (d : Recorded) → From f k (parts p) → differentiate_at s by_state k p ≡ some d
          → Placed s f k (k + size p) d
      differentiate_says k (node h ts) d a e =
          node_says (depends s (node h ts)) k h ts d refl a
          (λ ds e'. differentiate_all_say (suc k) ts ds (from_rest f k (node h ts) (parts_all ts) a) e') e

      differentiate_all_say : (k : ℕ) (ts : Formulas) (ds : List Recorded) → From f k (parts_all ts) → differentiate_from s by_state k ts ≡ some ds
          → All (Placed s f k (k + sizes ts)) ds × (length ds ≡ count ts)
      differentiate_all_say k last ds a e =
          let q : [] ≡ ds = some-injective _ _ e in subst (λ (x : List Recorded). All (Placed s f k (k + 0)) x × (length x ≡ 0)) q (tt, refl)
      differentiate_all_say k (next t ts) ds a e =
          let to = k + sizes (next t ts) in
          let g = and_then_some (differentiate_at s by_state k t) _ ds e in
          let r = and_then_some (differentiate_from s by_state (k + size t) ts) _ ds g.2 in
          let q : g.0 ∷ r.0 ≡ ds = some-injective _ _ r.2 in
          let first = differentiate_says k t g.0 (from_left f k (parts t) (parts_all ts) a) g.1 in
          let below = differentiate_all_say (k + size t) ts r.0 (from_right f k t (parts_all ts) a) r.1 in
          subst (λ (x : List Recorded). All (Placed s f k to) x × (length x ≡ suc (count ts))) q (
            (
              wider s f k to k (k + size t) (omega arith) (omega arith) g.0 first,
              all_wider s f k to (k + size t) (k + size t + sizes ts) (omega arith) (omega arith) r.0 below.0,
            ),
            ap suc below.1,
          )
