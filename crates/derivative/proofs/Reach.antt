-- Which rules are reached: of a formula that compiles to a Number only Numbers are differentiated, so the rules' Type answers never come, and 8 comes
-- just where Floor or Ceil has the symbol in it, or the condition of a conditional has.
use mathlib.Core.Logic.{◌↔◌}
use mathlib.Core.Path.{◌≡◌, refl, sym, ap, ◌∙◌}
use mathlib.Core.List.{List, ◌∷◌}
use mathlib.Core.Bool.{Bool, true, false, cond, ◌&&◌, ◌||◌}
use mathlib.Core.Option.{Option, none, some}
use Prim.Native.Nat.{ℕ, zero, suc}
use native.Mathlib.Omega.{arith}
use lib.Dec.{leb}
use borrow.Author.Tests.{leb-true}
use Rattle.formula.specs.Operator.{Operation, unary, binary, compare, call, Positive, Negative, Not, Function, Exp, Log, Log10, Sqrt, Sin, Cos, Tan, Tanh, Abs, Floor, Ceil, Min, Max, Hill, InverseGaussianDensity, Junction, And, Or, ValueKind, Number, Boolean, same_kind, result_kind, argument_kind, arity, stepped_call}
use Rattle.formula.specs.Formula.{Head, number, truth, symbol, operation, junction, ifelse, conditional, malformed, Formula, Formulas, node, last, next, to_list, count, is_symbol, depends, any_depends}
use Rattle.formula.specs.Path.{root}
use Rattle.formula.specs.Term.{Terms, end, ◌and◌, term, terms, term_from, junction_term, branch_term}
use Rattle.machine.specs.Check.{Context, kind, all_kind, fault}
use Rattle.derivative.specs.Rules.{Rule, extremum_rule, call_rule, operation_rule, branch_rule}
use Rattle.derivative.specs.Differentiate.{formulas, first_depends, second_literal, and_then, applied, the_rule, differentiate, differentiate_all}
use Rattle.derivative.proofs.Faultless.{never, both, kind_is, Faultless, AllFaultless, faultless}
use Rattle.derivative.proofs.Compiles.{count_terms}
use Rattle.formula.proofs.Tests.{or_none}

-- ---- the rules' own 8

-- Floor, Ceil, and a conditional whose condition has the symbol
abbrev pub no_rule : ℕ → Head → Formulas → Bool
no_rule s (number b) ts = false
no_rule s (truth b) ts = false
no_rule s (symbol i) ts = false
no_rule s (operation (unary o)) ts = false
no_rule s (operation (binary o)) ts = false
no_rule s (operation (compare o)) ts = false
no_rule s (operation (call f)) ts = stepped_call f
no_rule s (junction j) ts = false
no_rule s ifelse ts = first_depends s ts
no_rule s conditional ts = first_depends s ts
no_rule s malformed ts = false

-- somewhere in the formula stands such a node that has the symbol
abbrev mutual
  pub unsupported : ℕ → Formula → Bool
  unsupported s (node h ts) = (depends s (node h ts) && no_rule s h ts) || any_unsupported s ts

  pub any_unsupported : ℕ → Formulas → Bool
  any_unsupported s last = false
  any_unsupported s (next t ts) = unsupported s t || any_unsupported s ts

abbrev pub is_none : {A : Type 0} → Option A → Bool
is_none none = true
is_none (some a) = false

-- ---- which rules are asked for

-- what `derivative.rs` answers with Type
abbrev pub type_answer : Head → Bool
type_answer (number b) = true
type_answer (truth b) = true
type_answer (symbol i) = false
type_answer (operation (unary Positive)) = false
type_answer (operation (unary Negative)) = false
type_answer (operation (unary Not)) = true
type_answer (operation (binary o)) = false
type_answer (operation (compare o)) = true
type_answer (operation (call f)) = false
type_answer (junction j) = true
type_answer ifelse = false
type_answer conditional = false
type_answer malformed = true

abbrev pub head_of : Formula → Head
head_of (node h ts) = h

abbrev pub parts_asked : Head → Type 0 → Type 0 → Type 0
parts_asked (number b) arms all = all
parts_asked (truth b) arms all = all
parts_asked (symbol i) arms all = all
parts_asked (operation o) arms all = all
parts_asked (junction j) arms all = all
parts_asked ifelse arms all = arms
parts_asked conditional arms all = arms
parts_asked malformed arms all = all

-- P holds of every part whose rule is asked for, as `derivative.rs` goes: a part that has the symbol, then its children; of a conditional the arms alone,
-- and those only where the condition has not the symbol. (Where it has, the conditional has no rule, whatever comes of its children.)
abbrev mutual
  pub Asked : ℕ → (Formula → Type 0) → Formula → Type 0
  Asked s P (node h ts) = depends s (node h ts) ≡ true → P (node h ts) × parts_asked h (ArmsAsked s P ts) (AllAsked s P ts)

  pub AllAsked : ℕ → (Formula → Type 0) → Formulas → Type 0
  AllAsked s P last = Unit {0}
  AllAsked s P (next t ts) = Asked s P t × AllAsked s P ts

  pub ArmsAsked : ℕ → (Formula → Type 0) → Formulas → Type 0
  ArmsAsked s P last = Unit {0}
  ArmsAsked s P (next t ts) = depends s t ≡ false → AllAsked s P ts

-- ---- a part without the symbol

or_comm : (a b : Bool) → (a || b) ≡ (b || a)
or_comm true true = refl
or_comm true false = refl
or_comm false true = refl
or_comm false false = refl

or_true : (a : Bool) → (a || true) ≡ true
or_true true = refl
or_true false = refl

module _ (s : ℕ) where
  mutual
    free_supported : (f : Formula) → depends s f ≡ false → unsupported s f ≡ false
    free_supported (node h ts) e = rw (e, free_all_supported ts (or_none (is_symbol s h) (any_depends s ts) e).1)

    free_all_supported : (ts : Formulas) → any_depends s ts ≡ false → any_unsupported s ts ≡ false
    free_all_supported last e = refl
    free_all_supported (next t ts) e =
        let g = or_none (depends s t) (any_depends s ts) e in
        rw (free_supported t g.0, free_all_supported ts g.1)

-- ---- an operation that gives a Number

not_boolean : {A : Type 0} (κ : ValueKind) → κ ≡ Boolean → κ ≡ Number → A
not_boolean κ e h = let z : ◌≡◌ {A = ℕ} 0 1 = cc in absurd (omega arith)

extremum_there : (n : ℕ) → leb 2 n ≡ true → is_none (extremum_rule n) ≡ false
extremum_there zero a = absurd (omega (arith, leb-true 2 0 a))
extremum_there (suc n) a = refl

call_there : (by_state : Bool) (n : ℕ) (f : Function) → arity (call f) n ≡ true → is_none (call_rule by_state n f) ≡ stepped_call f
call_there b n Exp a = refl
call_there b n Log a = refl
call_there b n Log10 a = refl
call_there b n Sqrt a = refl
call_there b n Sin a = refl
call_there b n Cos a = refl
call_there b n Tan a = refl
call_there b n Tanh a = refl
call_there b n Abs a = refl
call_there b n Floor a = refl
call_there b n Ceil a = refl
call_there b n Min a = extremum_there n a
call_there b n Max a = extremum_there n a
call_there b n Hill a = refl
call_there b n InverseGaussianDensity a = refl

-- it takes Numbers, its head is none that is answered with Type, and it has a rule unless it is Floor or Ceil
pub record NumberOperation (s : ℕ) (by_state : Bool) (n : ℕ) (e : Option ℕ) (o : Operation) (ts : Formulas) : Type 0 where
  pub takes : argument_kind o ≡ Number
  pub typed : type_answer (operation o) ≡ false
  pub ruled : is_none (operation_rule by_state n e o) ≡ no_rule s (operation o) ts

number_operation : (s : ℕ) (by_state : Bool) (n : ℕ) (e : Option ℕ) (o : Operation) (ts : Formulas) → arity o n ≡ true → result_kind o ≡ Number
    → NumberOperation s by_state n e o ts
number_operation s b n e (unary Positive) ts a k = record { takes = refl; typed = refl; ruled = refl }
number_operation s b n e (unary Negative) ts a k = record { takes = refl; typed = refl; ruled = refl }
number_operation s b n e (unary Not) ts a k = not_boolean Boolean refl k
number_operation s b n e (binary o) ts a k = record { takes = refl; typed = refl; ruled = refl }
number_operation s b n e (compare o) ts a k = not_boolean Boolean refl k
number_operation s b n e (call f) ts a k = record { takes = refl; typed = refl; ruled = call_there b n f a }

module _ (C : Context) where
  junction_boolean : (j : Junction) (ts : Terms) → Faultless C (junction_term j ts) → kind (junction_term j ts) ≡ Boolean
  junction_boolean j end c = absurd c
  junction_boolean j (t and end) c = absurd c
  junction_boolean And (t and u and us) c = sym (kind_is Boolean _ c.5)
  junction_boolean Or (t and u and us) c = refl

  -- a conditional of kind Number: its arms are Numbers
  abbrev rest : Formulas → Formulas
  rest last = last
  rest (next t ts) = ts

  arms_number : (ts : Formulas) → Faultless C (branch_term (terms ts)) → kind (branch_term (terms ts)) ≡ Number
      → AllFaultless C (terms (rest ts)) × (all_kind Number (terms (rest ts)) ≡ true)
  arms_number last c k = absurd c
  arms_number (next x last) c k = absurd c
  arms_number (next x (next y last)) c k = absurd c
  arms_number (next x (next y (next z last))) c k = ((c.3, (c.4, tt)), rw (kind_is (kind (term z)) (kind (term y)) c.5, k))
  arms_number (next x (next y (next z (next u us)))) c k = absurd c

  module _ (s : ℕ) (by_state : Bool) where
    -- ---- which parts are differentiated

    abbrev NumberPart : Formula → Type 0
    NumberPart f = (kind (term f) ≡ Number) × (type_answer (head_of f) ≡ false)

    node_asked : (h : Head) (ts : Formulas)
        → (AllFaultless C (terms ts) → all_kind Number (terms ts) ≡ true → AllAsked s NumberPart ts)
        → (AllFaultless C (terms (rest ts)) → all_kind Number (terms (rest ts)) ≡ true → ArmsAsked s NumberPart ts)
        → Faultless C (term_from h (terms ts)) → kind (term_from h (terms ts)) ≡ Number → depends s (node h ts) ≡ true
        → NumberPart (node h ts) × parts_asked h (ArmsAsked s NumberPart ts) (AllAsked s NumberPart ts)
    node_asked (number b) last all arms c k has = never has
    node_asked (number b) (next t ts) all arms c k has = absurd c
    node_asked (truth b) last all arms c k has = not_boolean Boolean refl k
    node_asked (truth b) (next t ts) all arms c k has = absurd c
    node_asked (symbol i) last all arms c k has = ((refl, refl), tt)
    node_asked (symbol i) (next t ts) all arms c k has = absurd c
    node_asked (operation o) ts all arms c k has =
        let r = number_operation s by_state (count ts) (second_literal ts) o ts (rw count_terms at c.1) k in
        ((k, r.typed), all c.0 (rw r.takes at c.2))
    node_asked (junction j) ts all arms c k has = not_boolean _ (junction_boolean j (terms ts) c) k
    node_asked ifelse ts all arms c k has = let a = arms_number ts c k in ((k, refl), arms a.0 a.1)
    node_asked conditional ts all arms c k has = let a = arms_number ts c k in ((k, refl), arms a.0 a.1)
    node_asked malformed ts all arms c k has = absurd c

    mutual
      numbers_asked : (f : Formula) → Faultless C (term f) → kind (term f) ≡ Number → Asked s NumberPart f
      numbers_asked (node h ts) c k =
          λ has. node_asked h ts (λ c' k'. all_numbers_asked ts c' k') (λ c' k'. arms_numbers_asked ts c' k') c k has

      all_numbers_asked : (ts : Formulas) → AllFaultless C (terms ts) → all_kind Number (terms ts) ≡ true → AllAsked s NumberPart ts
      all_numbers_asked last c k = tt
      all_numbers_asked (next t ts) c k =
          let g = both (same_kind (kind (term t)) Number) _ k in
          (numbers_asked t c.0 (kind_is (kind (term t)) Number g.0), all_numbers_asked ts c.1 g.1)

      arms_numbers_asked : (ts : Formulas) → AllFaultless C (terms (rest ts)) → all_kind Number (terms (rest ts)) ≡ true → ArmsAsked s NumberPart ts
      arms_numbers_asked last c k = tt
      arms_numbers_asked (next t ts) c k = λ free. all_numbers_asked ts c k

    -- ---- where the rules have none

    all_none : (o : Option Formula) (os : Option (List Formula))
        → is_none (and_then o (λ d. and_then os (λ ds. some (d ∷ ds)))) ≡ (is_none o || is_none os)
    all_none none os = refl
    all_none (some d) none = refl
    all_none (some d) (some ds) = refl

    applied_none : (os : Option (List Formula)) (r : Option Rule) (own : Formula) (ts : List Formula)
        → is_none (and_then os (λ ds. applied formulas r own ts ds)) ≡ (is_none os || is_none r)
    applied_none none r own ts = refl
    applied_none (some ds) none own ts = refl
    applied_none (some ds) (some r) own ts = refl

    free_differentiate : (f : Formula) → depends s f ≡ false → is_none (differentiate s by_state f) ≡ false
    free_differentiate (node h ts) e = rw e

    -- none of the children's derivatives, or no rule
    abbrev missing : Head → Formulas → Bool
    missing h ts = is_none (differentiate_all s by_state ts) || is_none (the_rule s by_state h ts)

    abbrev Right : Formulas → Type 0
    Right ts = AllFaultless C (terms ts) → all_kind Number (terms ts) ≡ true → is_none (differentiate_all s by_state ts) ≡ any_unsupported s ts

    moving_missing : (moving : Bool) (x : Formula) (ts : Formulas) → depends s x ≡ moving
        → is_none (differentiate_all s by_state ts) ≡ any_unsupported s ts
        → (is_none (differentiate_all s by_state (next x ts)) || is_none (branch_rule moving)) ≡ (moving || any_unsupported s (next x ts))
    moving_missing true x ts e ih = or_true (is_none (differentiate_all s by_state (next x ts)))
    moving_missing false x ts e ih =
        rw (all_none (differentiate s by_state x) (differentiate_all s by_state ts), free_differentiate x e, free_supported s x e, ih) (or_comm (any_unsupported s ts) false)

    branch_missing : (ts : Formulas) → Right (rest ts) → Faultless C (branch_term (terms ts)) → kind (branch_term (terms ts)) ≡ Number
        → (is_none (differentiate_all s by_state ts) || is_none (branch_rule (first_depends s ts))) ≡ (first_depends s ts || any_unsupported s ts)
    branch_missing last ih c k = absurd c
    branch_missing (next x ts) ih c k = let a = arms_number (next x ts) c k in moving_missing (depends s x) x ts refl (ih a.0 a.1)

    head_missing : (h : Head) (ts : Formulas) → Right ts → Right (rest ts) → Faultless C (term_from h (terms ts)) → kind (term_from h (terms ts)) ≡ Number
        → depends s (node h ts) ≡ true → missing h ts ≡ (no_rule s h ts || any_unsupported s ts)
    head_missing (number b) last ih arms c k has = never has
    head_missing (number b) (next t ts) ih arms c k has = absurd c
    head_missing (truth b) last ih arms c k has = not_boolean Boolean refl k
    head_missing (truth b) (next t ts) ih arms c k has = absurd c
    head_missing (symbol i) last ih arms c k has = refl
    head_missing (symbol i) (next t ts) ih arms c k has = absurd c
    head_missing (operation o) ts ih arms c k has =
        let r = number_operation s by_state (count ts) (second_literal ts) o ts (rw count_terms at c.1) k in
        rw (ih c.0 (rw r.takes at c.2), r.ruled) (or_comm (any_unsupported s ts) (no_rule s (operation o) ts))
    head_missing (junction j) ts ih arms c k has = not_boolean _ (junction_boolean j (terms ts) c) k
    head_missing ifelse ts ih arms c k has = branch_missing ts arms c k
    head_missing conditional ts ih arms c k has = branch_missing ts arms c k
    head_missing malformed ts ih arms c k has = absurd c

    node_missing : (has : Bool) (h : Head) (ts : Formulas) → depends s (node h ts) ≡ has → Right ts → Right (rest ts)
        → Faultless C (term_from h (terms ts)) → kind (term_from h (terms ts)) ≡ Number
        → is_none (cond has (and_then (differentiate_all s by_state ts) (λ ds. applied formulas (the_rule s by_state h ts) (node h ts) (to_list ts) ds)) (some (node (number 0) last)))
        ≡ ((has && no_rule s h ts) || any_unsupported s ts)
    node_missing true h ts e ih arms c k =
        applied_none (differentiate_all s by_state ts) (the_rule s by_state h ts) (node h ts) (to_list ts) ∙ head_missing h ts ih arms c k e
    node_missing false h ts e ih arms c k = sym (free_all_supported s ts (or_none (is_symbol s h) (any_depends s ts) e).1)

    mutual
      differentiate_missing : (f : Formula) → Faultless C (term f) → kind (term f) ≡ Number → is_none (differentiate s by_state f) ≡ unsupported s f
      differentiate_missing (node h ts) c k =
          node_missing (depends s (node h ts)) h ts refl (λ c' k'. all_missing ts c' k') (λ c' k'. arms_missing ts c' k') c k

      all_missing : (ts : Formulas) → AllFaultless C (terms ts) → all_kind Number (terms ts) ≡ true
          → is_none (differentiate_all s by_state ts) ≡ any_unsupported s ts
      all_missing last c k = refl
      all_missing (next t ts) c k =
          let g = both (same_kind (kind (term t)) Number) _ k in
          all_none (differentiate s by_state t) (differentiate_all s by_state ts)
          ∙ rw (differentiate_missing t c.0 (kind_is (kind (term t)) Number g.0), all_missing ts c.1 g.1)

      arms_missing : (ts : Formulas) → AllFaultless C (terms (rest ts)) → all_kind Number (terms (rest ts)) ≡ true
          → is_none (differentiate_all s by_state (rest ts)) ≡ any_unsupported s (rest ts)
      arms_missing last c k = refl
      arms_missing (next t ts) c k = all_missing ts c k

-- ---- of a formula that compiles to a Number

none_of : {A : Type 0} (o : Option A) → is_none o ≡ true → o ≡ none
none_of none e = refl
none_of (some a) e = never e

module _ (C : Context) (s : ℕ) (by_state : Bool) (f : Formula) (ok : fault C (term f) root ≡ none) (number : kind (term f) ≡ Number) where
  -- no rule is asked for but of a Number, and none is answered with Type
  pub only_numbers_asked : Asked s (λ t. (kind (term t) ≡ Number) × (type_answer (head_of t) ≡ false)) f
  only_numbers_asked = numbers_asked C s by_state f (faultless C (term f) root ok) number

  pub none_unsupported : is_none (differentiate s by_state f) ≡ unsupported s f
  none_unsupported = differentiate_missing C s by_state f (faultless C (term f) root ok) number

  pub none_iff_unsupported : (differentiate s by_state f ≡ none) ↔ (unsupported s f ≡ true)
  none_iff_unsupported = ((λ e. sym none_unsupported ∙ ap is_none e), (λ e. none_of (differentiate s by_state f) (none_unsupported ∙ e)))
