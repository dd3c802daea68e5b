-- The rule that is chosen for a node is the definition's.
use mathlib.Core.Path.{◌≡◌, refl, sym, ap, ◌∙◌}
use mathlib.Core.Bool.{Bool, true, false, cond}
use mathlib.Core.Option.{Option, none, some}
use mathlib.Core.Logic.{◌⊎◌, ⊎_elim}
use mathlib.Core.List.{List}
use Prim.Native.Nat.{ℕ, zero, suc, ◌+◌, ◌*◌, ◌≤◌}
use native.Mathlib.Omega.{arith}
use lib.Dec.{eqb}
use borrow.Author.Tests.{eq-eqb, ne_eqb}
use Rattle.formula.specs.Formula.{Head, Formula, Formulas, node, last, next, count, depends, well_formed}
use Rattle.formula.specs.Text.{byte_at, half_at}
use Rattle.formula.specs.Node.{Fields, fields_at, fields_of, node_size}
use Rattle.derivative.specs.Rules.{Rule}
use Rattle.derivative.specs.Differentiate.{the_rule, first_depends, second_literal}
use Rattle.derivative.specs.Attributes.{attributes_of}
use Rattle.derivative.proofs.Attributes.{instance_right}
use Rattle.reader.specs.Read.{is_some}
use Rattle.rules.specs.Notation.{rule_number, rule_numbered, rule_at, power_number, code_at, or_zero, childless}
use Rattle.rules.proofs.Right.{chosen_right}
use Rattle.survey.specs.Derived.{children_of, head_of_tree, derived, ruled, or_zero_literal, zero_literal, parts_of, rule_for}
use Rattle.survey.specs.Table.{tree, trees, nth, number_of, Ready, IsChild, row_in}
use Rattle.survey.specs.declared.Row.{Row}
use Rattle.survey.specs.Worked.{worked}
use Rattle.survey.proofs.Trees.{opened, count_is, trees_count}
use Rattle.survey.proofs.Rows.{surveyed_given}

-- ---- a condition

first_is : (s : ℕ) (ts : Formulas) (t : Formula) → nth ts 0 ≡ some t → first_depends s ts ≡ depends s t
first_is s last t e = let y : ◌≡◌ {A = ℕ} 0 1 = cc in absurd (omega arith)
first_is s (next u ts) t e = let q : u ≡ t = cc in ap (depends s) q

first_none : (s : ℕ) (ts : Formulas) → count ts ≡ 0 → first_depends s ts ≡ false
first_none s last e = refl
first_none s (next u ts) e = absurd (omega arith)

pub moving_is : (s : ℕ) (f : List ℕ) (k r : ℕ) → IsChild f k 0 r → first_depends s (children_of (tree f k)) ≡ depends s (tree f r)
moving_is s f k r c = first_is s (children_of (tree f k)) (tree f r) c.is

pub moving_given : (s : ℕ) (b : Bool) (f : List ℕ) (T : List Row) (k : ℕ) (g : List ℕ) (U : List Row) (r : ℕ) → (g ≡ f) × (U ≡ T) × IsChild f k 0 r → Ready s b f T k
    → (row_in U r).has ≡ first_depends s (children_of (tree f k))
moving_given s b f T k g U r h o =
    (surveyed_given f T k 0 g U r h s b o).has ∙ ap (λ (x : List ℕ). depends s (tree x r)) h.0 ∙ sym (moving_is s f k r h.2)

pub moving_none : (s : ℕ) (f : List ℕ) (k : ℕ) → well_formed (tree f k) ≡ true → half_at f (node_size * k + 2) ≡ 0 → first_depends s (children_of (tree f k)) ≡ false
moving_none s f k w e = first_none s (children_of (tree f k)) (count_is f k w ∙ e)

-- ---- the number of the rule

childless_yes : (n : ℕ) → n ≡ 0 → childless n ≡ true
childless_yes zero e = refl
childless_yes (suc n) e = absurd (omega arith)

childless_no : (n : ℕ) → (n ≡ 0 → ⊥) → childless n ≡ false
childless_no zero e = absurd (e refl)
childless_no (suc n) e = refl

module _ (s : ℕ) (b : Bool) (f : List ℕ) (k q : ℕ) (e : q ≡ 16 * byte_at f (node_size * k) + byte_at f (node_size * k + 1)) where
  abbrev ts : Formulas
  ts = children_of (tree f k)

  abbrev choice : Bool → Bool → Bool → Bool → Bool → Bool → ℕ
  choice p h i c m x =
      cond p (power_number (second_literal ts))
      (cond h (cond b 0x8d 0x7d)
      (cond i (cond (first_depends s ts) 0 0x7e)
      (cond c (cond (first_depends s ts) 0 0x80)
      (cond m (cond (childless (count ts)) 0 0x7b)
      (cond x (cond (childless (count ts)) 0 0x7c) q)))))

  by_tests : (p h i c m x : Bool) → eqb q 0x44 ≡ p → eqb q 0x7d ≡ h → eqb q 0x7e ≡ i → eqb q 0x80 ≡ c → eqb q 0x7b ≡ m → eqb q 0x7c ≡ x
      → choice p h i c m x ≡ number_of s b f k
  unfolding number_of rule_number
  by_tests p h i c m x ep eh ei ec em ex =
      sym (rw (sym e) (ap (λ (v : Bool). choice v (eqb q 0x7d) (eqb q 0x7e) (eqb q 0x80) (eqb q 0x7b) (eqb q 0x7c)) ep
      ∙ ap (λ (v : Bool). choice p v (eqb q 0x7e) (eqb q 0x80) (eqb q 0x7b) (eqb q 0x7c)) eh
      ∙ ap (λ (v : Bool). choice p h v (eqb q 0x80) (eqb q 0x7b) (eqb q 0x7c)) ei
      ∙ ap (λ (v : Bool). choice p h i v (eqb q 0x7b) (eqb q 0x7c)) ec
      ∙ ap (λ (v : Bool). choice p h i c v (eqb q 0x7c)) em
      ∙ ap (λ (v : Bool). choice p h i c m v) ex))

  at : (v : ℕ) → q ≡ v → eqb q v ≡ true
  at v h = eq-eqb q v h

  off : (v : ℕ) → (q ≡ v → ⊥) → eqb q v ≡ false
  off v h = ne_eqb q v h

  pub number_power : q ≡ 0x44 → power_number (second_literal ts) ≡ number_of s b f k
  number_power p = by_tests true _ _ _ _ _ (at 0x44 p) refl refl refl refl refl

  module _ (n4 : q ≡ 0x44 → ⊥) where
    pub number_hill : q ≡ 0x7d → cond b 0x8d 0x7d ≡ number_of s b f k
    number_hill p = by_tests false true _ _ _ _ (off 0x44 n4) (at 0x7d p) refl refl refl refl

    module _ (nd : q ≡ 0x7d → ⊥) where
      pub number_ifelse : q ≡ 0x7e → cond (first_depends s ts) 0 0x7e ≡ number_of s b f k
      number_ifelse p = by_tests false false true _ _ _ (off 0x44 n4) (off 0x7d nd) (at 0x7e p) refl refl refl

      module _ (ne : q ≡ 0x7e → ⊥) where
        pub number_conditional : q ≡ 0x80 → cond (first_depends s ts) 0 0x80 ≡ number_of s b f k
        number_conditional p = by_tests false false false true _ _ (off 0x44 n4) (off 0x7d nd) (off 0x7e ne) (at 0x80 p) refl refl

        module _ (n8 : q ≡ 0x80 → ⊥) where
          pub number_min : q ≡ 0x7b → cond (childless (count ts)) 0 0x7b ≡ number_of s b f k
          number_min p = by_tests false false false false true _ (off 0x44 n4) (off 0x7d nd) (off 0x7e ne) (off 0x80 n8) (at 0x7b p) refl

          module _ (nb : q ≡ 0x7b → ⊥) where
            pub number_max : q ≡ 0x7c → cond (childless (count ts)) 0 0x7c ≡ number_of s b f k
            number_max p = by_tests false false false false false true (off 0x44 n4) (off 0x7d nd) (off 0x7e ne) (off 0x80 n8) (off 0x7b nb) (at 0x7c p)

  pub number_plain : (q ≡ 0x44 → ⊥) → (q ≡ 0x7d → ⊥) → (q ≡ 0x7e → ⊥) → (q ≡ 0x80 → ⊥) → (q ≡ 0x7b → ⊥) → (q ≡ 0x7c → ⊥) → q ≡ number_of s b f k
  number_plain n4 nd ne n8 nb nc = by_tests false false false false false false (off 0x44 n4) (off 0x7d nd) (off 0x7e ne) (off 0x80 n8) (off 0x7b nb) (off 0x7c nc)

  -- Ifelse and a conditional, and Min and Max
  pub number_choosing : (q ≡ 0x7e) ⊎ (q ≡ 0x80) → cond (first_depends s ts) 0 q ≡ number_of s b f k
  number_choosing w =
      ⊎_elim (λ p. ap (λ (v : ℕ). cond (first_depends s ts) 0 v) p ∙ number_ifelse (λ z. omega arith) (λ z. omega arith) p)
      (λ p. ap (λ (v : ℕ). cond (first_depends s ts) 0 v) p ∙ number_conditional (λ z. omega arith) (λ z. omega arith) (λ z. omega arith) p) w

  pub number_extremum : (q ≡ 0x7b) ⊎ (q ≡ 0x7c) → cond (childless (count ts)) 0 q ≡ number_of s b f k
  number_extremum w =
      ⊎_elim (λ p. ap (λ (v : ℕ). cond (childless (count ts)) 0 v) p ∙ number_min (λ z. omega arith) (λ z. omega arith) (λ z. omega arith) (λ z. omega arith) p)
      (λ p. ap (λ (v : ℕ). cond (childless (count ts)) 0 v) p ∙ number_max (λ z. omega arith) (λ z. omega arith) (λ z. omega arith) (λ z. omega arith) (λ z. omega arith) p) w

  pub extremes : 0x7b ≤ q → q ≤ 0x7c → (q ≡ 0x7b) ⊎ (q ≡ 0x7c)
  extremes lo hi = grind arith

pub by_state_yes : (b : Bool) → b ≡ true → ◌≡◌ {A = ℕ} 0x8d (cond b 0x8d 0x7d)
by_state_yes b e = sym (ap (λ (x : Bool). cond x 0x8d 0x7d) e)

pub by_state_no : (b : Bool) → b ≡ false → ◌≡◌ {A = ℕ} 0x7d (cond b 0x8d 0x7d)
by_state_no b e = sym (ap (λ (x : Bool). cond x 0x8d 0x7d) e)

pub moves_no : (r b : Bool) (v : ℕ) → r ≡ b → r ≡ false → v ≡ cond b 0 v
moves_no r b v e t = sym (ap (λ (x : Bool). cond x 0 v) (sym e ∙ t))

pub moves_yes : (r b : Bool) (v : ℕ) → r ≡ b → r ≡ true → 0 ≡ cond b 0 v
moves_yes r b v e t = sym (ap (λ (x : Bool). cond x 0 v) (sym e ∙ t))

pub none_yes : (f : List ℕ) (k h v : ℕ) → well_formed (tree f k) ≡ true → h ≡ half_at f (node_size * k + 2) → h ≡ 0 → 0 ≡ cond (childless (count (children_of (tree f k)))) 0 v
none_yes f k h v w e z = sym (ap (λ (x : Bool). cond x 0 v) (childless_yes (count (children_of (tree f k))) (count_is f k w ∙ sym e ∙ z)))

pub none_no : (f : List ℕ) (k h v : ℕ) → well_formed (tree f k) ≡ true → h ≡ half_at f (node_size * k + 2) → (h ≡ 0 → ⊥) → v ≡ cond (childless (count (children_of (tree f k)))) 0 v
none_no f k h v w e z = sym (ap (λ (x : Bool). cond x 0 v) (childless_no (count (children_of (tree f k))) (λ y. z (e ∙ sym (count_is f k w) ∙ y))))

-- ---- the rule

rule_by : (s : ℕ) (b : Bool) (t : Formula) (h : Head) (us : Formulas) (n : ℕ) (F : Fields) → t ≡ node h us → count us ≡ n → fields_of h n ≡ F
    → rule_numbered (or_zero (second_literal (children_of t))) (count (children_of t)) (rule_number b (first_depends s (children_of t)) (count (children_of t)) (second_literal (children_of t)) F.kind F.operator)
    ≡ the_rule s b (head_of_tree t) (children_of t)
rule_by s b t h us n F e c g =
    ap (λ (x : Formula). rule_numbered (or_zero (second_literal (children_of x))) (count (children_of x)) (rule_number b (first_depends s (children_of x)) (count (children_of x)) (second_literal (children_of x)) F.kind F.operator)) e
    ∙ ap (λ (x : Fields). rule_numbered (or_zero (second_literal us)) (count us) (rule_number b (first_depends s us) (count us) (second_literal us) x.kind x.operator)) (sym g ∙ ap (λ (m : ℕ). fields_of h m) (sym c))
    ∙ chosen_right b (first_depends s us) (count us) (second_literal us) h
    ∙ ap (λ (x : Formula). the_rule s b (head_of_tree x) (children_of x)) (sym e)

module _ (s : ℕ) (b : Bool) (f : List ℕ) (k : ℕ) (w : well_formed (tree f k) ≡ true) (q : ℕ) (e : q ≡ number_of s b f k) where
  abbrev t : Formula
  t = tree f k

  numbered : rule_numbered (or_zero (second_literal (children_of t))) (count (children_of t)) q ≡ the_rule s b (head_of_tree t) (children_of t)
  unfolding number_of fields_at
  numbered =
      let o = opened f k w in
      ap (λ (x : ℕ). rule_numbered (or_zero (second_literal (children_of t))) (count (children_of t)) x) e
      ∙ rule_by s b t o.head (trees f (half_at f (node_size * k + 2)) (k + 1)) (half_at f (node_size * k + 2)) (fields_at f (node_size * k)) o.is (trees_count f (half_at f (node_size * k + 2)) (k + 1)) o.back

  pub no_rule : code_at q 0 ≡ 0 → the_rule s b (head_of_tree t) (children_of t) ≡ none
  unfolding rule_numbered
  no_rule z = sym numbered ∙ ap (λ (x : Bool). cond x none (some (rule_at (or_zero (second_literal (children_of t))) (count (children_of t)) 16 q 0))) (eq-eqb (code_at q 0) 0 z)

  pub some_rule : (code_at q 0 ≡ 0 → ⊥) → the_rule s b (head_of_tree t) (children_of t) ≡ some (rule_for t 16 q 0)
  unfolding rule_numbered rule_for
  some_rule z = sym numbered ∙ ap (λ (x : Bool). cond x none (some (rule_at (or_zero (second_literal (children_of t))) (count (children_of t)) 16 q 0))) (ne_eqb (code_at q 0) 0 z)

derived_by : (s : ℕ) (b : Bool) (t : Formula) → derived s b t ≡ cond (depends s t) (or_zero_literal (the_rule s b (head_of_tree t) (children_of t)) (parts_of s b t)) zero_literal
derived_by s b (node h ts) = refl

-- the derivative of a node without the symbol, without a rule, and with one
pub derived_without : (s : ℕ) (b : Bool) (t : Formula) → depends s t ≡ false → derived s b t ≡ zero_literal
derived_without s b t h = derived_by s b t ∙ ap (λ (x : Bool). cond x (or_zero_literal (the_rule s b (head_of_tree t) (children_of t)) (parts_of s b t)) zero_literal) h

pub derived_ruled : (s : ℕ) (b : Bool) (t : Formula) (r : Option Rule) → depends s t ≡ true → the_rule s b (head_of_tree t) (children_of t) ≡ r → derived s b t ≡ or_zero_literal r (parts_of s b t)
derived_ruled s b t r h e =
    derived_by s b t
    ∙ ap (λ (x : Bool). cond x (or_zero_literal (the_rule s b (head_of_tree t) (children_of t)) (parts_of s b t)) zero_literal) h
    ∙ ap (λ (x : Option Rule). or_zero_literal x (parts_of s b t)) e

pub ruled_without : (s : ℕ) (b : Bool) (t : Formula) → depends s t ≡ false → true ≡ ruled s b t
ruled_without s b t h = sym (ap (λ (x : Bool). cond x (is_some (the_rule s b (head_of_tree t) (children_of t))) true) h)

pub ruled_by : (s : ℕ) (b : Bool) (t : Formula) (r : Option Rule) → depends s t ≡ true → the_rule s b (head_of_tree t) (children_of t) ≡ r → is_some r ≡ ruled s b t
ruled_by s b t r h e =
    sym (ap (λ (x : Bool). cond x (is_some (the_rule s b (head_of_tree t) (children_of t))) true) h ∙ ap (λ (x : Option Rule). is_some x) e)

pub worked_derived : (s : ℕ) (b : Bool) (t : Formula) (q : ℕ) → depends s t ≡ true → the_rule s b (head_of_tree t) (children_of t) ≡ some (rule_for t 16 q 0)
    → worked s b t 16 q 0 ≡ attributes_of (derived s b t)
unfolding worked
worked_derived s b t q h e = sym (instance_right (parts_of s b t) (rule_for t 16 q 0)) ∙ ap attributes_of (sym (derived_ruled s b t (some (rule_for t 16 q 0)) h e))
