-- What each writer writes is the bytes of its part: its nodes, or its records.
use mathlib.Core.Path.{◌≡◌, refl, sym, ap, ◌∙◌, subst}
use mathlib.Core.Bool.{Bool, true, false, cond, ◌||◌}
use mathlib.Core.List.{List, [], ◌∷◌, ◌++◌, append_assoc, append-nil}
use mathlib.Core.Option.{Option, none, some}
use Prim.Native.Nat.{ℕ, zero, suc, ◌+◌, ◌-◌, ◌*◌, ◌/◌, ◌%◌, ◌≤◌, ◌<◌}
use native.Mathlib.Omega.{arith}
use lib.ListN.{length, get_or}
use lib.Dec.{eqb}
use borrow.Author.Tests.{eqb-true}
use Rattle.formula.specs.Operator.{binary, Add, Multiply}
use Rattle.formula.specs.Text.{half_at}
use Rattle.formula.specs.Formula.{Formula, operation, node, count, depth, depends, well_formed}
use Rattle.formula.specs.Node.{Fields, node_bytes, inner_fields, fields_of, node_size}
use Rattle.derivative.specs.Rules.{Parts, Rule, child, whole, diff, make, lit, 0·0, instance, instances, unless_zero, zeroth, zero_of}
use Rattle.derivative.specs.Differentiate.{formulas, the_rule}
use Rattle.derivative.specs.Attributes.{Attributes, attribute_algebra, attributes_of}
use Rattle.derivative.specs.Records.{Recorded, gathered, erase, erase_all, by_rule as record_of, copy, recorded_literal, beside_zero, to_the_zeroth, without_symbol}
use Rattle.derivative.proofs.Attributes.{instance_right}
use Rattle.derivative.proofs.Erased.{erase_instance}
use Rattle.derivative.proofs.Homomorphism.{get_d_map}
use Rattle.reader.proofs.Heads.{head_fields}
use Rattle.reader.proofs.Trees.{size_pos}
use Rattle.rules.specs.Notation.{end_at, code_at, parts, literal_code, literal_rule, extremum}
use Rattle.rules.specs.declared.RulePart.{RulePart}
use Rattle.survey.specs.Derived.{parts_of, rule_for, children_of, derived_of, zero_literal, head_of_tree, or_else}
use Rattle.survey.specs.Table.{tree, reading, number_of, row_in, IsChild}
use Rattle.survey.specs.declared.Row.{Row}
use Rattle.survey.specs.Worked.{worked}
use Rattle.survey.specs.declared.Attributes as Declared
use Rattle.survey.proofs.Rows.{owned_child}
use Rattle.survey.proofs.Worked.{rule_none, rule_long, rule_kind, rule_literal, rule_node, rules_for, bits_for, Writing, coded}
use Rattle.survey.proofs.Chosen.{no_rule, some_rule}
use Rattle.differentiate.specs.Written.{Known, Task, start, bytes, bytes_all, arm_of, arms, arm_literal, literal_part, arm_node, recorded, recorded_all, recorded_parts, copy_of, recorded_of, part, parts_bytes, extremum_bytes, extremum_tree, tie_bytes, sum_bytes, product_bytes}
use Rattle.differentiate.proofs.Lists.{room_as}
use Rattle.differentiate.proofs.Leaves.{child_text}
use Rattle.differentiate.proofs.Recorded.{erase_recorded_all, erase_parts, recorded_is, recorded_none}

recorded_by : (s : ℕ) (b : Bool) (k : ℕ) (t : Formula) → recorded s b k t
    ≡ cond (depends s t) (or_else (arms k t) (recorded_literal without_symbol k 0) (the_rule s b (head_of_tree t) (children_of t)) (recorded_parts s b k t))
    (recorded_literal without_symbol k 0)
recorded_by s b k (node h ts) = refl

-- the derivative of a node without the symbol, and with it
recorded_without : (s : ℕ) (b : Bool) (k : ℕ) (t : Formula) → depends s t ≡ false → recorded s b k t ≡ recorded_literal without_symbol k 0
recorded_without s b k t h = recorded_by s b k t ∙ rw h

recorded_ruled : (s : ℕ) (b : Bool) (k : ℕ) (t : Formula) (r : Option Rule) → depends s t ≡ true → the_rule s b (head_of_tree t) (children_of t) ≡ r
    → recorded s b k t ≡ or_else (arms k t) (recorded_literal without_symbol k 0) r (recorded_parts s b k t)
recorded_ruled s b k t r h e = recorded_by s b k t ∙ rw (h, e)

-- ---- the node itself

module _ (m : Bool) (s : ℕ) (b : Bool) (k : ℕ) (t : Formula) where
  pub text_by : (d q i : ℕ) (r : Rule) → rule_for t d q i ≡ r → bytes m (instance (arms k t) (recorded_parts s b k t) r) ≡ bytes m (part s b k t d q i)
  unfolding part
  text_by d q i r e = ap (λ (x : Rule). bytes m (instance (arms k t) (recorded_parts s b k t) x)) (sym e)

  erase_of : (i : ℕ) → erase (recorded_of s b k t i) ≡ derived_of s b t i
  erase_of i =
      get_d_map erase (recorded_all s b (suc k) (children_of t)) i (zero_of (arms k t))
      ∙ ap (λ (ds : List Formula). get_or ds i zero_literal) (erase_recorded_all s b (suc k) (children_of t))

  -- `power`'s literal has its own record
  literal_is : (o : ℕ) → literal_part k t o ≡ instance (arms k t) (recorded_parts s b k t) (literal_rule (bits_for t) o)
  literal_is o = go (eqb o 11) refl
    where
      go : (x : Bool) → eqb o 11 ≡ x
          → cond x (recorded_literal to_the_zeroth k (literal_code (bits_for t) o)) (recorded_literal (arm_of t) k (literal_code (bits_for t) o))
          ≡ instance (arms k t) (recorded_parts s b k t) (cond x zeroth (lit (literal_code (bits_for t) o)))
      go true e = ap (λ (x : ℕ). recorded_literal to_the_zeroth k (literal_code (bits_for t) x)) (eqb-true o 11 e)
      go false e = refl

  pub text_none : (d q i : ℕ) → d ≡ 0 → arm_literal m k t 0 ≡ bytes m (part s b k t d q i)
  text_none d q i e = text_by d q i 0·0 (rule_none t d q i e)

  pub text_long : (d q i : ℕ) → 128 ≤ i → arm_literal m k t 0 ≡ bytes m (part s b k t d q i)
  text_long d q i h = text_by d q i 0·0 (rule_long t d q i h)

  instances_count : (d q left i : ℕ) → count (erase_all (gathered (instances (arms k t) (recorded_parts s b k t) (rules_for t d q left i)))) ≡ left
  instances_count d q zero i = refl
  instances_count d q (suc left) i = ap suc (instances_count d q left (end_at d q i))

  module _ (d q i c : ℕ) (nz : d ≡ 0 → ⊥) (lt : i < 128) (e : c ≡ code_at q i) where
    abbrev text : List ℕ
    text = bytes m (part s b k t d q i)

    pub text_zero : c / 16 ≡ 0 → arm_literal m k t 0 ≡ text
    text_zero p = text_by d q i 0·0 (rule_kind t d q i c 0 nz lt e p)

    pub text_child : c / 16 ≡ 1 → bytes m (copy_of k t (c % 16)) ≡ text
    text_child p = text_by d q i (child (c % 16)) (rule_kind t d q i c 1 nz lt e p)

    pub text_diff : c / 16 ≡ 2 → bytes m (recorded_of s b k t (c % 16)) ≡ text
    text_diff p = text_by d q i (diff (c % 16)) (rule_kind t d q i c 2 nz lt e p)

    pub text_whole : c / 16 ≡ 3 → bytes m (copy k t) ≡ text
    text_whole p = text_by d q i whole (rule_kind t d q i c 3 nz lt e p)

    pub text_extremum : c / 16 ≡ 11 → bytes m (extremum_tree s b k t) ≡ text
    unfolding extremum_tree
    text_extremum p = text_by d q i (extremum (count (children_of t))) (rule_kind t d q i c 11 nz lt e p)

    pub text_literal : 12 ≤ c / 16 → bytes m (literal_part k t (c % 16)) ≡ text
    text_literal p = ap (bytes m) (literal_is (c % 16)) ∙ text_by d q i (literal_rule (bits_for t) (c % 16)) (rule_literal t d q i c nz lt e p)

    unless : c / 16 ≡ 6 → bytes m (cond ((arms k t).is_zero (recorded_of s b k t (c % 16))) (zero_of (arms k t)) (part s b k t (d - 1) q (i + 1))) ≡ text
    unfolding part
    unless p = text_by d q i (unless_zero (c % 16) (rule_for t (d - 1) q (i + 1))) (rule_kind t d q i c 6 nz lt e p)

    unless_by : (v : Bool) → c / 16 ≡ 6 → attribute_algebra.is_zero (attributes_of (derived_of s b t (c % 16))) ≡ v
        → bytes m (cond v (zero_of (arms k t)) (part s b k t (d - 1) q (i + 1))) ≡ text
    unless_by v p y =
        sym (ap (λ (x : Bool). bytes m (cond x (zero_of (arms k t)) (part s b k t (d - 1) q (i + 1))))
        (ap (λ (x : Formula). formulas.is_zero x) (erase_of (c % 16)) ∙ y))
        ∙ unless p

    pub text_unless_yes : c / 16 ≡ 6 → attribute_algebra.is_zero (attributes_of (derived_of s b t (c % 16))) ≡ true → arm_literal m k t 0 ≡ text
    text_unless_yes p y = unless_by true p y

    -- the first part after the code
    module _ (first : RulePart) (is : first ≡ record { rule = q; start = i + 1; levels = d - 1 }) where
      pub text_unless_no : c / 16 ≡ 6 → attribute_algebra.is_zero (attributes_of (derived_of s b t (c % 16))) ≡ false
          → bytes m (part s b k t first.levels first.rule first.start) ≡ text
      text_unless_no p y = ap (λ (x : RulePart). bytes m (part s b k t x.levels x.rule x.start)) is ∙ unless_by false p y

      pub text_sum : c / 16 ≡ 9 → sum_bytes m s b k t first.levels first.rule first.start ≡ text
      unfolding sum_bytes part
      text_sum p = ap (λ (x : RulePart). sum_bytes m s b k t x.levels x.rule x.start) is ∙ text_by d q i _ (rule_kind t d q i c 9 nz lt e p)

      pub text_product : c / 16 ≡ 10 → product_bytes m s b k t first.levels first.rule first.start ≡ text
      unfolding product_bytes part
      text_product p = ap (λ (x : RulePart). product_bytes m s b k t x.levels x.rule x.start) is ∙ text_by d q i _ (rule_kind t d q i c 10 nz lt e p)

    pub text_node : Writing (c / 16) → (left : ℕ) → left ≡ parts (c / 16) (c % 16)
        → arm_node m k t (c / 16) (c % 16) left ++ parts_bytes m s b k t (d - 1) q left (i + 1) ≡ text
    unfolding parts_bytes bytes
    text_node w left pl =
        let h = coded q i c e w.writes_node in
        let n = parts (c / 16) (c % 16) in
        let ts = gathered (instances (arms k t) (recorded_parts s b k t) (rules_for t (d - 1) q n (i + 1))) in
        ap (λ (x : ℕ). arm_node m k t (c / 16) (c % 16) x ++ parts_bytes m s b k t (d - 1) q x (i + 1)) pl
        ∙ ap (λ (F : Fields). start m (record_of (arm_of t) k) (node_bytes F) ++ bytes_all m ts)
        (sym (head_fields (inner_fields (c / 16) (c % 16) n) h.head h.is))
        ∙ ap (λ (x : ℕ). start m (record_of (arm_of t) k) (node_bytes (fields_of h.head x)) ++ bytes_all m ts) (sym (instances_count (d - 1) q n (i + 1)))
        ∙ text_by d q i (make h.head (rules_for t (d - 1) q n (i + 1))) (rule_node t d q i c nz lt e w h)

    pub text_head : (first : RulePart) → first ≡ record { rule = q; start = i + 1; levels = d - 1 }
        → (kind op children : ℕ) → kind ≡ c / 16 → op ≡ c % 16 → children ≡ parts (c / 16) (c % 16) → Writing (c / 16)
        → arm_node m k t kind op children ++ parts_bytes m s b k t first.levels first.rule children first.start ≡ text
    text_head first is kind op children ek eo ec w =
        ap (λ (x : RulePart). arm_node m k t kind op children ++ parts_bytes m s b k t x.levels x.rule children x.start) is
        ∙ ap (λ (x : ℕ). arm_node m k t x op children ++ parts_bytes m s b k t (d - 1) q children (i + 1)) ek
        ∙ ap (λ (x : ℕ). arm_node m k t (c / 16) x children ++ parts_bytes m s b k t (d - 1) q children (i + 1)) eo
        ∙ text_node w children ec

  -- ---- parts one after another

  pub none_left : (d q left i : ℕ) → left ≡ 0 → [] ≡ parts_bytes m s b k t d q left i
  unfolding parts_bytes bytes
  none_left d q zero i e = refl
  none_left d q (suc left) i e = absurd (omega arith)

  pub next_part : (d q left i j : ℕ) → (left ≡ 0 → ⊥) → j ≡ end_at d q i → bytes m (part s b k t d q i) ++ parts_bytes m s b k t d q (left - 1) j ≡ parts_bytes m s b k t d q left i
  unfolding parts_bytes bytes part
  next_part d q zero i j z e = absurd (z refl)
  next_part d q (suc left) i j z e =
      let w : suc left - 1 ≡ left = omega arith in
      ap (λ (x : ℕ). bytes m (part s b k t d q i) ++ parts_bytes m s b k t d q x j) w
      ∙ ap (λ (x : ℕ). bytes m (part s b k t d q i) ++ parts_bytes m s b k t d q left x) e

  -- ---- the tests of `add` and `mul`

  worked_part : (d q i : ℕ) → worked s b t d q i ≡ attributes_of (erase (part s b k t d q i))
  unfolding worked part
  worked_part d q i =
      let r = rule_for t d q i in
      sym (ap attributes_of (erase_instance (arm_of t) k (recorded_parts s b k t) r ∙ ap (λ (e : Parts Formula). instance formulas e r) (erase_parts s b k t))
      ∙ instance_right (parts_of s b t) r)

  pub zero_test : (d q i : ℕ) (r : Bool) (a : Declared.Attributes) (v : Bool) → r ≡ attribute_algebra.is_zero (reading a) → reading a ≡ worked s b t d q i → r ≡ v
      → (arms k t).is_zero (part s b k t d q i) ≡ v
  zero_test d q i r a v e p h = sym (ap (λ (x : Attributes). attribute_algebra.is_zero x) (p ∙ worked_part d q i)) ∙ sym e ∙ h

  pub one_test : (d q i : ℕ) (r : Bool) (a : Declared.Attributes) (v : Bool) → r ≡ attribute_algebra.is_one (reading a) → reading a ≡ worked s b t d q i → r ≡ v
      → (arms k t).is_one (part s b k t d q i) ≡ v
  one_test d q i r a v e p h = sym (ap (λ (x : Attributes). attribute_algebra.is_one x) (p ∙ worked_part d q i)) ∙ sym e ∙ h

  module _ (d q i : ℕ) (next : RulePart) (e : next ≡ record { rule = q; start = end_at d q i; levels = d }) where
    abbrev X : Recorded
    X = part s b k t d q i

    abbrev Y : Recorded
    Y = part s b k t d q (end_at d q i)

    at_end : (v : Bool) (p : Recorded → Bool) → p (part s b k t next.levels next.rule next.start) ≡ v → p Y ≡ v
    at_end v p h = sym (ap (λ (x : RulePart). p (part s b k t x.levels x.rule x.start)) e) ∙ h

    second : bytes m (part s b k t next.levels next.rule next.start) ≡ bytes m Y
    second = ap (λ (x : RulePart). bytes m (part s b k t x.levels x.rule x.start)) e

    abbrev sums : Bool → Bool → Recorded
    sums x y = cond x Y (cond y X ((arms k t).node (operation (binary Add)) (X ∷ Y ∷ [])))

    sum_by : (x y : Bool) → (arms k t).is_zero X ≡ x → (arms k t).is_zero Y ≡ y → bytes m (sums x y) ≡ sum_bytes m s b k t d q i
    unfolding sum_bytes
    sum_by x y p r = sym (ap (λ (v : Bool). bytes m (sums v ((arms k t).is_zero Y))) p ∙ ap (λ (v : Bool). bytes m (sums x v)) r)

    pub sum_left : (arms k t).is_zero X ≡ true → bytes m (part s b k t next.levels next.rule next.start) ≡ sum_bytes m s b k t d q i
    sum_left p = second ∙ sum_by true ((arms k t).is_zero Y) p refl

    pub sum_right : (arms k t).is_zero X ≡ false → (arms k t).is_zero (part s b k t next.levels next.rule next.start) ≡ true → bytes m X ≡ sum_bytes m s b k t d q i
    sum_right p r = sum_by false true p (at_end true (λ y. (arms k t).is_zero y) r)

    pub sum_kept : (arms k t).is_zero X ≡ false → (arms k t).is_zero (part s b k t next.levels next.rule next.start) ≡ false → arm_node m k t 4 0 2 ++ parts_bytes m s b k t d q 2 i ≡ sum_bytes m s b k t d q i
    unfolding parts_bytes bytes part
    sum_kept p r = sum_by false false p (at_end false (λ y. (arms k t).is_zero y) r)

    abbrev products : Bool → Bool → Bool → Bool → Recorded
    products zx zy ox oy = cond (zx || zy) (arms k t).zero_product (cond ox Y (cond oy X ((arms k t).node (operation (binary Multiply)) (X ∷ Y ∷ []))))

    product_by : (zx zy ox oy : Bool) → (arms k t).is_zero X ≡ zx → (arms k t).is_zero Y ≡ zy → (arms k t).is_one X ≡ ox → (arms k t).is_one Y ≡ oy
        → bytes m (products zx zy ox oy) ≡ product_bytes m s b k t d q i
    unfolding product_bytes
    product_by zx zy ox oy p r u w =
        sym (ap (λ (v : Bool). bytes m (products v ((arms k t).is_zero Y) ((arms k t).is_one X) ((arms k t).is_one Y))) p
        ∙ ap (λ (v : Bool). bytes m (products zx v ((arms k t).is_one X) ((arms k t).is_one Y))) r
        ∙ ap (λ (v : Bool). bytes m (products zx zy v ((arms k t).is_one Y))) u
        ∙ ap (λ (v : Bool). bytes m (products zx zy ox v)) w)

    pub product_left : (arms k t).is_zero X ≡ true → bytes m (recorded_literal beside_zero k 0) ≡ product_bytes m s b k t d q i
    product_left p = product_by true ((arms k t).is_zero Y) ((arms k t).is_one X) ((arms k t).is_one Y) p refl refl refl

    module _ (p : (arms k t).is_zero X ≡ false) where
      pub product_right : (arms k t).is_zero (part s b k t next.levels next.rule next.start) ≡ true → bytes m (recorded_literal beside_zero k 0) ≡ product_bytes m s b k t d q i
      product_right r = product_by false true ((arms k t).is_one X) ((arms k t).is_one Y) p (at_end true (λ y. (arms k t).is_zero y) r) refl refl

      module _ (r : (arms k t).is_zero (part s b k t next.levels next.rule next.start) ≡ false) where
        pub one_left : (arms k t).is_one X ≡ true → bytes m (part s b k t next.levels next.rule next.start) ≡ product_bytes m s b k t d q i
        one_left u = second ∙ product_by false false true ((arms k t).is_one Y) p (at_end false (λ y. (arms k t).is_zero y) r) u refl

        pub one_right : (arms k t).is_one X ≡ false → (arms k t).is_one (part s b k t next.levels next.rule next.start) ≡ true → bytes m X ≡ product_bytes m s b k t d q i
        one_right u w = product_by false false false true p (at_end false (λ y. (arms k t).is_zero y) r) u (at_end true (λ y. (arms k t).is_one y) w)

        pub product_kept : (arms k t).is_one X ≡ false → (arms k t).is_one (part s b k t next.levels next.rule next.start) ≡ false → arm_node m k t 4 2 2 ++ parts_bytes m s b k t d q 2 i ≡ product_bytes m s b k t d q i
        unfolding parts_bytes bytes part
        product_kept u w = product_by false false false false p (at_end false (λ y. (arms k t).is_zero y) r) u (at_end false (λ y. (arms k t).is_one y) w)

  -- ---- Min and Max

  pub last_tie : (i left : ℕ) → left ≡ 0 → bytes m (recorded_of s b k t i) ≡ extremum_bytes m s b k t i left
  unfolding extremum_bytes
  last_tie i zero e = refl
  last_tie i (suc left) e = absurd (omega arith)

  nested : (a f c x d r : List ℕ) → ((((a ++ f) ++ c) ++ x) ++ d) ++ r ≡ a ++ ((f ++ (c ++ (x ++ []))) ++ (d ++ (r ++ [])))
  nested a f c x d r = simp (append_assoc, append-nil)

  pub next_tie : (i left : ℕ) → (left ≡ 0 → ⊥) → (tie_bytes m k t i ++ bytes m (recorded_of s b k t i)) ++ extremum_bytes m s b k t (i + 1) (left - 1) ≡ extremum_bytes m s b k t i left
  unfolding extremum_bytes bytes
  next_tie i zero z = absurd (z refl)
  next_tie i (suc left) z =
      let w : suc left - 1 ≡ left = omega arith in
      let v : i + 1 ≡ suc i = omega arith in
      ap (λ (x : ℕ). (tie_bytes m k t i ++ bytes m (recorded_of s b k t i)) ++ extremum_bytes m s b k t (i + 1) x) w
      ∙ ap (λ (x : ℕ). (tie_bytes m k t i ++ bytes m (recorded_of s b k t i)) ++ extremum_bytes m s b k t x left) v
      ∙ nested (arm_node m k t 8 0 3) (arm_node m k t 5 4 2) (bytes m (copy_of k t i)) (bytes m (copy k t)) (bytes m (recorded_of s b k t i)) (extremum_bytes m s b k t (suc i) left)

  pub no_ties : (n : ℕ) → n ≡ count (children_of t) → n ≡ 0 → arm_literal m k t 0 ≡ bytes m (extremum_tree s b k t)
  unfolding extremum_tree
  no_ties n e z = ap (λ (x : ℕ). bytes m (instance (arms k t) (recorded_parts s b k t) (extremum x))) (sym z ∙ e)

  pub all_ties : (n : ℕ) → n ≡ count (children_of t) → (n ≡ 0 → ⊥) → extremum_bytes m s b k t 0 (n - 1) ≡ bytes m (extremum_tree s b k t)
  unfolding extremum_tree extremum_bytes
  all_ties zero e z = absurd (z refl)
  all_ties (suc n) e z =
      let w : suc n - 1 ≡ n = omega arith in
      ap (λ (x : ℕ). extremum_bytes m s b k t 0 x) w ∙ ap (λ (x : ℕ). bytes m (instance (arms k t) (recorded_parts s b k t) (extremum x))) e

-- ---- the derivative of a node

module _ (m : Bool) (s : ℕ) (b : Bool) (f : List ℕ) (T : List Row) (k : ℕ) (o : Known s b f T k) where
  own_survey : (row_in T k).has ≡ depends s (tree f k)
  own_survey = (o.survey k (omega arith) (omega (arith, size_pos (tree f k)))).has

  pub has_not : (row_in T k).has ≡ false → bytes m (recorded_literal without_symbol k 0) ≡ bytes m (recorded s b k (tree f k))
  has_not h = ap (bytes m) (sym (recorded_without s b k (tree f k) (sym own_survey ∙ h)))

  module _ (h : (row_in T k).has ≡ true) (q : ℕ) (e : q ≡ number_of s b f k) where
    has_it : depends s (tree f k) ≡ true
    has_it = sym own_survey ∙ h

    pub without_rule : code_at q 0 ≡ 0 → bytes m (recorded_literal without_symbol k 0) ≡ bytes m (recorded s b k (tree f k))
    without_rule z = ap (bytes m) (sym (recorded_ruled s b k (tree f k) none has_it (no_rule s b f k o.owned.formed q e z)))

    pub by_rule : (code_at q 0 ≡ 0 → ⊥) → bytes m (part s b k (tree f k) 16 q 0) ≡ bytes m (recorded s b k (tree f k))
    unfolding part
    by_rule z =
        ap (bytes m) (sym (recorded_ruled s b k (tree f k) (some (rule_for (tree f k) 16 q 0)) has_it (some_rule s b f k o.owned.formed q e z)))

  pub known_child : (i r : ℕ) → IsChild f k i r → Known s b f T r
  known_child i r c = record { owned = owned_child f T k i r o.owned c; survey = λ j x y. o.survey j (omega (arith, c.after)) (omega (arith, c.ends)) }

pub diff_text : (m : Bool) (s : ℕ) (b : Bool) (f : List ℕ) (k i r : ℕ) → IsChild f k i r
    → bytes m (recorded s b r (tree f r)) ≡ bytes m (recorded_of s b k (tree f k) i)
diff_text m s b f k i r c = ap (bytes m) (sym (recorded_is f k i r c s b))

pub no_diff : (m : Bool) (s : ℕ) (b : Bool) (f : List ℕ) (k i : ℕ) → well_formed (tree f k) ≡ true → half_at f (node_size * k + 2) ≤ i
    → arm_literal m k (tree f k) 0 ≡ bytes m (recorded_of s b k (tree f k) i)
no_diff m s b f k i w h = ap (bytes m) (sym (recorded_none f k i w h s b))

pub task_as : (s : ℕ) (b : Bool) (f : List ℕ) (T : List Row) (k d : ℕ) (x y out : List ℕ) → x ≡ y → Task s b f T k d y out → Task s b f T k d x out
task_as s b f T k d x y out e t = record { known = t.known; deep = t.deep; room = room_as x y (length out) e t.room }

-- ---- a child as the code has it

module _ (m : Bool) (s : ℕ) (b : Bool) (f : List ℕ) (T : List Row) (k i : ℕ) (g : List ℕ) (U : List Row) (r : ℕ) (h : (g ≡ f) × (U ≡ T) × IsChild f k i r) where
  pub copy_given : bytes m (copy r (tree g r)) ≡ bytes m (copy_of k (tree f k) i)
  copy_given = ap (λ (x : List ℕ). bytes m (copy r (tree x r))) h.0 ∙ child_text m f k i r h.2

  pub diff_given : bytes m (recorded s b r (tree g r)) ≡ bytes m (recorded_of s b k (tree f k) i)
  diff_given = ap (λ (x : List ℕ). bytes m (recorded s b r (tree x r))) h.0 ∙ diff_text m s b f k i r h.2

  pub task_given : (d : ℕ) (out : List ℕ) → Task s b f T k d (bytes m (recorded_of s b k (tree f k) i)) out
      → Task s b g U r (d - 1) (bytes m (recorded s b r (tree g r))) out
  task_given d out t =
      record {
        known =
            subst (λ (x : List ℕ). Known s b x U r) (sym h.0)
            (subst (λ (V : List Row). Known s b f V r) (sym h.1) (known_child m s b f T k t.known i r h.2));
        deep = omega (arith, ap (λ (x : List ℕ). depth (tree x r)) h.0, h.2.shallower, t.deep);
        room = room_as _ _ _ diff_given t.room;
      }
