-- What each code of a rule gives, over attributes.
use mathlib.Core.Path.{◌≡◌, refl, sym, ap, ◌∙◌}
use mathlib.Core.Bool.{Bool, true, false, cond, not}
use mathlib.Core.List.{[], ◌∷◌, map}
use mathlib.Core.Option.{Option, none, some}
use Prim.Native.Nat.{ℕ, zero, suc, ◌+◌, ◌-◌, ◌*◌, ◌/◌, ◌%◌, ◌<◌, ◌≤◌, min}
use native.Mathlib.Omega.{arith}
use lib.ListN.{get_or}
use lib.Dec.{eqb}
use borrow.Author.Tests.{eqb-true, lt-ltb, le-ltb}
use Rattle.formula.specs.Formula.{Head, Formula, count, to_list}
use Rattle.derivative.specs.Rules.{Algebra, Rule, Rules, child, whole, diff, make, unless_zero, zeroth, lit, 0·0, extremum_from, instance, zero_of, add_of, mul_of}
use Rattle.derivative.specs.Differentiate.{literal_head, second_literal}
use Rattle.derivative.specs.Attributes.{Attributes, attribute_algebra, attributes_of, total_nodes, most_levels}
use Rattle.derivative.proofs.Homomorphism.{get_d_map}
use Rattle.derivative.proofs.Attributes.{instance_right}
use Rattle.reader.specs.Read.{is_some}
use Rattle.rules.specs.Notation.{rule_at, rules_from, end_at, code_at, decoded, made, coded_head, parts, or_zero, literal_code, literal_rule, extremum}
use Rattle.rules.proofs.Ends.{codes_valid, plain, valid}
use Rattle.rules.specs.Codes.{writes}
use Rattle.survey.specs.Derived.{children_of, child_of, derived_of, derived_all, zero_literal, rule_for, parts_of}
use Rattle.survey.specs.Worked.{attribute_parts, worked, worked_all, literal_attributes, inner}

abbrev G : Algebra Attributes
G = attribute_algebra

-- ---- a rule by its first code

pub rule_none : (t : Formula) (d q i : ℕ) → d ≡ 0 → rule_for t d q i ≡ 0·0
unfolding rule_for rule_at
rule_none t zero q i e = refl
rule_none t (suc d) q i e = absurd (omega arith)

pub rule_long : (t : Formula) (d q i : ℕ) → 128 ≤ i → rule_for t d q i ≡ 0·0
unfolding rule_for rule_at
rule_long t zero q i h = refl
rule_long t (suc d) q i h = rw (le-ltb i 128 h)

-- the bits of the exponent, and how many children there are
abbrev pub bits_for : Formula → ℕ
bits_for t = or_zero (second_literal (children_of t))

abbrev pub count_for : Formula → ℕ
count_for t = count (children_of t)

-- what a code does
abbrev pub decoded_for : Formula → ℕ → ℕ → ℕ → ℕ → ℕ → Rule
decoded_for t d q k o i = decoded (bits_for t) (count_for t) k o (λ j. rule_for t d q j) (λ j. end_at d q j) i

pub rule_some : (t : Formula) (d q i c : ℕ) → (d ≡ 0 → ⊥) → i < 128 → c ≡ code_at q i
    → rule_for t d q i ≡ decoded_for t (d - 1) q (c / 16) (c % 16) (i + 1)
unfolding rule_for rule_at
rule_some t zero q i c z h e = absurd (z refl)
rule_some t (suc d) q i c z h e =
    let w : d ≡ suc d - 1 = omega arith in
    ap (λ (b : Bool). cond b (decoded_for t d q (code_at q i / 16) (code_at q i % 16) (i + 1)) 0·0) (lt-ltb i 128 h)
    ∙ ap (λ (x : ℕ). decoded_for t d q (x / 16) (x % 16) (i + 1)) (sym e)
    ∙ ap (λ (x : ℕ). decoded_for t x q (c / 16) (c % 16) (i + 1)) w

pub rule_kind : (t : Formula) (d q i c k : ℕ) → (d ≡ 0 → ⊥) → i < 128 → c ≡ code_at q i → c / 16 ≡ k
    → rule_for t d q i ≡ decoded_for t (d - 1) q k (c % 16) (i + 1)
rule_kind t d q i c k z h e p = rule_some t d q i c z h e ∙ ap (λ (x : ℕ). decoded_for t (d - 1) q x (c % 16) (i + 1)) p

decoded_past : (t : Formula) (d q k o i : ℕ) → 12 ≤ k → decoded_for t d q k o i ≡ literal_rule (bits_for t) o
decoded_past t d q zero o i h = absurd (omega arith)
decoded_past t d q (suc zero) o i h = absurd (omega arith)
decoded_past t d q (suc (suc zero)) o i h = absurd (omega arith)
decoded_past t d q (suc (suc (suc zero))) o i h = absurd (omega arith)
decoded_past t d q (suc (suc (suc (suc zero)))) o i h = absurd (omega arith)
decoded_past t d q (suc (suc (suc (suc (suc zero))))) o i h = absurd (omega arith)
decoded_past t d q (suc (suc (suc (suc (suc (suc zero)))))) o i h = absurd (omega arith)
decoded_past t d q (suc (suc (suc (suc (suc (suc (suc zero))))))) o i h = absurd (omega arith)
decoded_past t d q (suc (suc (suc (suc (suc (suc (suc (suc zero)))))))) o i h = absurd (omega arith)
decoded_past t d q (suc (suc (suc (suc (suc (suc (suc (suc (suc zero))))))))) o i h = absurd (omega arith)
decoded_past t d q (suc (suc (suc (suc (suc (suc (suc (suc (suc (suc zero)))))))))) o i h = absurd (omega arith)
decoded_past t d q (suc (suc (suc (suc (suc (suc (suc (suc (suc (suc (suc zero))))))))))) o i h = absurd (omega arith)
decoded_past t d q (suc (suc (suc (suc (suc (suc (suc (suc (suc (suc (suc (suc k)))))))))))) o i h = refl

pub rule_literal : (t : Formula) (d q i c : ℕ) → (d ≡ 0 → ⊥) → i < 128 → c ≡ code_at q i → 12 ≤ c / 16
    → rule_for t d q i ≡ literal_rule (bits_for t) (c % 16)
rule_literal t d q i c z h e p = rule_some t d q i c z h e ∙ decoded_past t (d - 1) q (c / 16) (c % 16) (i + 1) p

-- ---- the codes that write a node

abbrev pub rules_for : Formula → ℕ → ℕ → ℕ → ℕ → Rules
rules_for t d q left i = rules_from (λ j. rule_for t d q j) (λ j. end_at d q j) left i

-- a kind that writes a node
pub record Writing (k : ℕ) : Type 0 where
  pub writes_node : writes k ≡ true
  pub decodes : (t : Formula) (d q o i : ℕ) → decoded_for t d q k o i ≡ made (coded_head k o) (rules_for t d q (parts k o) i)

writing_kind : (k : ℕ) → writes k ≡ true → Writing k
writing_kind zero e = let z : ◌≡◌ {A = ℕ} 0 1 = cc in absurd (omega arith)
writing_kind (suc zero) e = let z : ◌≡◌ {A = ℕ} 0 1 = cc in absurd (omega arith)
writing_kind (suc (suc zero)) e = let z : ◌≡◌ {A = ℕ} 0 1 = cc in absurd (omega arith)
writing_kind (suc (suc (suc zero))) e = let z : ◌≡◌ {A = ℕ} 0 1 = cc in absurd (omega arith)
writing_kind (suc (suc (suc (suc zero)))) e = record { writes_node = refl; decodes = λ t d q o i. refl }
writing_kind (suc (suc (suc (suc (suc zero))))) e = record { writes_node = refl; decodes = λ t d q o i. refl }
writing_kind (suc (suc (suc (suc (suc (suc zero)))))) e = let z : ◌≡◌ {A = ℕ} 0 1 = cc in absurd (omega arith)
writing_kind (suc (suc (suc (suc (suc (suc (suc zero))))))) e = record { writes_node = refl; decodes = λ t d q o i. refl }
writing_kind (suc (suc (suc (suc (suc (suc (suc (suc zero)))))))) e = record { writes_node = refl; decodes = λ t d q o i. refl }
writing_kind (suc (suc (suc (suc (suc (suc (suc (suc (suc k))))))))) e = let z : ◌≡◌ {A = ℕ} 0 1 = cc in absurd (omega arith)

pub writing : (c : ℕ) → writes (c / 16) ≡ true → Writing (c / 16)
writing c e = writing_kind (c / 16) e

-- a code's head, which is no literal
pub record Coded (k o : ℕ) : Type 0 where
  pub head : Head
  pub is : coded_head k o ≡ some head
  pub no_literal : literal_head head ≡ none

none_of : (o : Option ℕ) → not (is_some o) ≡ true → o ≡ none
none_of none e = refl
none_of (some a) e = let z : ◌≡◌ {A = ℕ} 0 1 = cc in absurd (omega arith)

coded_in : (x : Option Head) (k o : ℕ) → coded_head k o ≡ x → plain x ≡ true → Coded k o
coded_in none k o e p = let z : ◌≡◌ {A = ℕ} 0 1 = cc in absurd (omega arith)
coded_in (some h) k o e p = record { head = h; is = e; no_literal = none_of (literal_head h) p }

pub coded : (q i c : ℕ) → c ≡ code_at q i → writes (c / 16) ≡ true → Coded (c / 16) (c % 16)
coded q i c e w =
    coded_in (coded_head (c / 16) (c % 16)) (c / 16) (c % 16) refl
    (sym (ap (λ (b : Bool). cond b (plain (coded_head (c / 16) (c % 16))) true) w) ∙ ap valid e ∙ codes_valid q i)

pub rule_node : (t : Formula) (d q i c : ℕ) → (d ≡ 0 → ⊥) → i < 128 → c ≡ code_at q i → (w : Writing (c / 16)) (h : Coded (c / 16) (c % 16))
    → rule_for t d q i ≡ make h.head (rules_for t (d - 1) q (parts (c / 16) (c % 16)) (i + 1))
rule_node t d q i c z l e w h =
    rule_some t d q i c z l e
    ∙ w.decodes t (d - 1) q (c % 16) (i + 1)
    ∙ ap (λ (x : Option Head). made x (rules_for t (d - 1) q (parts (c / 16) (c % 16)) (i + 1))) h.is

-- ---- the same over attributes

pub child_attributes : (t : Formula) (i : ℕ) → attributes_of (child_of t i) ≡ get_or (map attributes_of (to_list (children_of t))) i (zero_of G)
child_attributes t i = get_d_map attributes_of (to_list (children_of t)) i zero_literal

pub derived_attributes : (s : ℕ) (b : Bool) (t : Formula) (i : ℕ) → attributes_of (derived_of s b t i) ≡ get_or (map attributes_of (derived_all s b (children_of t))) i (zero_of G)
derived_attributes s b t i = get_d_map attributes_of (derived_all s b (children_of t)) i zero_literal

module _ (s : ℕ) (b : Bool) (t : Formula) where
  -- no instance of a rule is above the caps
  pub instance_capped : (r : Rule) → ((instance G (attribute_parts s b t) r).nodes ≤ 16385) × ((instance G (attribute_parts s b t) r).levels ≤ 129)
  instance_capped r =
      let e = instance_right (parts_of s b t) r in
      (omega (arith, ap (λ (a : Attributes). a.nodes) e), omega (arith, ap (λ (a : Attributes). a.levels) e))

  pub worked_by : (d q i : ℕ) (r : Rule) → rule_for t d q i ≡ r → instance G (attribute_parts s b t) r ≡ worked s b t d q i
  unfolding worked
  worked_by d q i r e = ap (λ (x : Rule). instance G (attribute_parts s b t) x) (sym e)

  pub worked_capped : (d q i : ℕ) → ((worked s b t d q i).nodes ≤ 16385) × ((worked s b t d q i).levels ≤ 129)
  unfolding worked
  worked_capped d q i = instance_capped (rule_for t d q i)

  -- `power`'s literal has the attributes of any other
  literal_worked : (o : ℕ) → literal_attributes (literal_code (bits_for t) o) ≡ instance G (attribute_parts s b t) (literal_rule (bits_for t) o)
  literal_worked o = go (eqb o 11) refl
    where
      go : (x : Bool) → eqb o 11 ≡ x
          → literal_attributes (literal_code (bits_for t) o) ≡ instance G (attribute_parts s b t) (cond x zeroth (lit (literal_code (bits_for t) o)))
      go true e = ap (λ (x : ℕ). literal_attributes (literal_code (bits_for t) x)) (eqb-true o 11 e)
      go false e = refl

  pub all_none : (d q left i : ℕ) → left ≡ 0 → worked_all s b t d q left i ≡ []
  unfolding worked_all
  all_none d q zero i e = refl
  all_none d q (suc left) i e = absurd (omega arith)

  pub all_next : (d q left i : ℕ) → (left ≡ 0 → ⊥) → worked_all s b t d q left i ≡ worked s b t d q i ∷ worked_all s b t d q (left - 1) (end_at d q i)
  unfolding worked worked_all
  all_next d q zero i h = absurd (h refl)
  all_next d q (suc left) i h =
      let w : left ≡ suc left - 1 = omega arith in
      ap (λ (x : ℕ). worked s b t d q i ∷ worked_all s b t d q x (end_at d q i)) w

  pub all_nodes : (d q left i : ℕ) → total_nodes (worked_all s b t d q left i) ≤ 16385 * left
  unfolding worked_all worked
  all_nodes d q zero i = omega arith
  all_nodes d q (suc left) i = omega (arith, (worked_capped d q i).0, all_nodes d q left (end_at d q i))

  pub all_levels : (d q left i : ℕ) → most_levels (worked_all s b t d q left i) ≤ 129
  unfolding worked_all worked
  all_levels d q zero i = omega arith
  all_levels d q (suc left) i = omega (arith, (worked_capped d q i).1, all_levels d q left (end_at d q i))

  module _ (d q i c : ℕ) (nz : d ≡ 0 → ⊥) (lt : i < 128) (e : c ≡ code_at q i) where
    pub worked_add : c / 16 ≡ 9 → add_of G (worked s b t (d - 1) q (i + 1)) (worked s b t (d - 1) q (end_at (d - 1) q (i + 1))) ≡ worked s b t d q i
    unfolding worked
    worked_add p = worked_by d q i _ (rule_kind t d q i c 9 nz lt e p)

    pub worked_mul : c / 16 ≡ 10 → mul_of G (worked s b t (d - 1) q (i + 1)) (worked s b t (d - 1) q (end_at (d - 1) q (i + 1))) ≡ worked s b t d q i
    unfolding worked
    worked_mul p = worked_by d q i _ (rule_kind t d q i c 10 nz lt e p)

    pub worked_child : c / 16 ≡ 1 → attributes_of (child_of t (c % 16)) ≡ worked s b t d q i
    worked_child p = child_attributes t (c % 16) ∙ worked_by d q i (child (c % 16)) (rule_kind t d q i c 1 nz lt e p)

    pub worked_diff : c / 16 ≡ 2 → attributes_of (derived_of s b t (c % 16)) ≡ worked s b t d q i
    worked_diff p = derived_attributes s b t (c % 16) ∙ worked_by d q i (diff (c % 16)) (rule_kind t d q i c 2 nz lt e p)

    pub worked_whole : c / 16 ≡ 3 → attributes_of t ≡ worked s b t d q i
    worked_whole p = worked_by d q i whole (rule_kind t d q i c 3 nz lt e p)

    pub worked_extremum : c / 16 ≡ 11 → instance G (attribute_parts s b t) (extremum (count_for t)) ≡ worked s b t d q i
    worked_extremum p = worked_by d q i (extremum (count_for t)) (rule_kind t d q i c 11 nz lt e p)

    pub worked_literal : 12 ≤ c / 16 → literal_attributes (literal_code (bits_for t) (c % 16)) ≡ worked s b t d q i
    worked_literal p = literal_worked (c % 16) ∙ worked_by d q i (literal_rule (bits_for t) (c % 16)) (rule_literal t d q i c nz lt e p)

    pub worked_zero : c / 16 ≡ 0 → literal_attributes 0 ≡ worked s b t d q i
    worked_zero p = worked_by d q i 0·0 (rule_kind t d q i c 0 nz lt e p)

    unless : c / 16 ≡ 6 → cond (G.is_zero (attributes_of (derived_of s b t (c % 16)))) (literal_attributes 0) (worked s b t (d - 1) q (i + 1)) ≡ worked s b t d q i
    unfolding worked
    unless p =
        ap (λ (a : Attributes). cond (G.is_zero a) (literal_attributes 0) (worked s b t (d - 1) q (i + 1))) (derived_attributes s b t (c % 16))
        ∙ worked_by d q i (unless_zero (c % 16) (rule_for t (d - 1) q (i + 1))) (rule_kind t d q i c 6 nz lt e p)

    pub unless_yes : c / 16 ≡ 6 → G.is_zero (attributes_of (derived_of s b t (c % 16))) ≡ true → literal_attributes 0 ≡ worked s b t d q i
    unless_yes p y = sym (ap (λ (x : Bool). cond x (literal_attributes 0) (worked s b t (d - 1) q (i + 1))) y) ∙ unless p

    pub unless_no : c / 16 ≡ 6 → G.is_zero (attributes_of (derived_of s b t (c % 16))) ≡ false → worked s b t (d - 1) q (i + 1) ≡ worked s b t d q i
    unless_no p y = sym (ap (λ (x : Bool). cond x (literal_attributes 0) (worked s b t (d - 1) q (i + 1))) y) ∙ unless p

    pub worked_node : Writing (c / 16) → inner (worked_all s b t (d - 1) q (parts (c / 16) (c % 16)) (i + 1)) ≡ worked s b t d q i
    unfolding worked_all
    worked_node w =
        let h = coded q i c e w.writes_node in
        let as' = worked_all s b t (d - 1) q (parts (c / 16) (c % 16)) (i + 1) in
        ap (λ (x : Option ℕ). record { nodes = min 16385 (suc (total_nodes as')); levels = min 129 (suc (most_levels as')); bits = x }) (sym h.no_literal)
        ∙ worked_by d q i (make h.head (rules_for t (d - 1) q (parts (c / 16) (c % 16)) (i + 1))) (rule_node t d q i c nz lt e w h)

-- ---- Min and Max

module _ (s : ℕ) (b : Bool) (t : Formula) where
  abbrev E : ℕ → ℕ → Attributes
  E i left = instance G (attribute_parts s b t) (extremum_from i left)

  pub extremum_last : (n i : ℕ) → i ≡ n - 1 → attributes_of (derived_of s b t i) ≡ E i (n - 1 - i)
  extremum_last n i e =
      let z : n - 1 - i ≡ 0 = omega arith in
      derived_attributes s b t i ∙ sym (ap (λ (x : ℕ). E i x) z)

  pub extremum_step : (n i : ℕ) → (i ≡ 0 → ⊥) → i < n
      → inner (inner (attributes_of (child_of t (i - 1)) ∷ attributes_of t ∷ []) ∷ attributes_of (derived_of s b t (i - 1)) ∷ E i (n - 1 - i) ∷ []) ≡ E (i - 1) (n - 1 - (i - 1))
  extremum_step n i z h =
      let w : n - 1 - (i - 1) ≡ suc (n - 1 - i) = omega (arith, z) in
      let v : suc (i - 1) ≡ i = omega (arith, z) in
      ap (λ (x : Attributes). inner (inner (x ∷ attributes_of t ∷ []) ∷ attributes_of (derived_of s b t (i - 1)) ∷ E i (n - 1 - i) ∷ [])) (child_attributes t (i - 1))
      ∙ ap (λ (x : Attributes). inner (inner (get_or (map attributes_of (to_list (children_of t))) (i - 1) (zero_of G) ∷ attributes_of t ∷ []) ∷ x ∷ E i (n - 1 - i) ∷ [])) (derived_attributes s b t (i - 1))
      ∙ sym (ap (λ (x : ℕ). E (i - 1) x) w
      ∙ ap (λ (x : ℕ). inner (inner (get_or (map attributes_of (to_list (children_of t))) (i - 1) (zero_of G) ∷ attributes_of t ∷ []) ∷ get_or (map attributes_of (derived_all s b (children_of t))) (i - 1) (zero_of G) ∷ E x (n - 1 - i) ∷ [])) v)

  pub extremum_done : (n i : ℕ) → n ≡ count_for t → (n ≡ 0 → ⊥) → i ≡ 0 → E i (n - 1 - i) ≡ instance G (attribute_parts s b t) (extremum (count_for t))
  extremum_done zero i e z h = absurd (z refl)
  extremum_done (suc n) i e z h =
      let w : suc n - 1 - i ≡ n = omega arith in
      ap (λ (x : ℕ). E i x) w ∙ ap (λ (x : ℕ). E x n) h ∙ ap (λ (x : ℕ). instance G (attribute_parts s b t) (extremum x)) e

  pub extremum_none : (n : ℕ) → n ≡ count_for t → n ≡ 0 → literal_attributes 0 ≡ instance G (attribute_parts s b t) (extremum (count_for t))
  extremum_none n e z = ap (λ (x : ℕ). instance G (attribute_parts s b t) (extremum x)) (sym z ∙ e)
