-- The derivative of a formula that compiles to a Number compiles, as generated, to a Number, with And and Or no longer than the formula's.
use mathlib.Core.Path.{◌≡◌, refl, subst}
use mathlib.Core.List.{List, [], ◌∷◌}
use mathlib.Core.Bool.{Bool, true, false, cond}
use mathlib.Core.Option.{Option, none, some}
use Prim.Native.Nat.{ℕ, ◌≤◌}
use native.Mathlib.Omega.{arith}
use Rattle.formula.specs.Operator.{binary, Add, Multiply, ValueKind, Number, Boolean, same_kind}
use Rattle.formula.specs.Formula.{Head, number, truth, symbol, operation, junction, ifelse, conditional, malformed, Formula, Formulas, node, last, next, to_list, count, depends}
use Rattle.formula.specs.Path.{root}
use Rattle.formula.specs.Term.{term, terms, term_from, branch_term, term_count}
use Rattle.machine.specs.Check.{Context, kind, all_kind, fault}
use Rattle.derivative.specs.Rules.{Rule, instance}
use Rattle.derivative.specs.Differentiate.{literal_bits, second_literal, formulas, and_then, applied, the_rule, differentiate, differentiate_all, with_primal, derivative}
use Rattle.derivative.proofs.Faultless.{none_some, both, kind_is, Faultless, AllFaultless, faultless, fault_none, generated, as_generated}
use Rattle.derivative.proofs.Sound.{Sound, chains, all_chains, sound_operation, sound_zero}
use Rattle.derivative.proofs.Typing.{well_typed, SoundChildren, SoundDiffs, instance_sound}
use Rattle.derivative.proofs.RulesTyped.{numbers, FiniteLiteral, operation_typed, branch_typed, symbol_typed}

-- ---- the children of a node that compiles

abbrev pub kinds_of : Formulas → List ValueKind
kinds_of last = []
kinds_of (next t ts) = kind (term t) ∷ kinds_of ts

pub count_terms : (ts : Formulas) → term_count (terms ts) ≡ count ts
count_terms last = refl
count_terms (next t ts) = rw (count_terms ts)

kinds_numbers : (ts : Formulas) → all_kind Number (terms ts) ≡ true → kinds_of ts ≡ numbers (count ts)
kinds_numbers last h = refl
kinds_numbers (next t ts) h =
    let g = both (same_kind (kind (term t)) Number) _ h in
    rw (kind_is (kind (term t)) Number g.0, kinds_numbers ts g.1)

-- ---- what a derivative that is there comes from

pub and_then_some : {A B : Type 0} (o : Option A) (k : A → Option B) (b : B) → and_then o k ≡ some b → (a : A) × (o ≡ some a) × (k a ≡ some b)
and_then_some none k b e = none_some e
and_then_some (some a) k b e = (a, refl, e)

applied_some : (r : Option Rule) (t : Formula) (ts ds : List Formula) (d : Formula) → applied formulas r t ts ds ≡ some d
    → (q : Rule) × (r ≡ some q) × (instance formulas (record { own = t; children = ts; diffs = ds }) q ≡ d)
applied_some none t ts ds d e = none_some e
applied_some (some q) t ts ds d e = (q, refl, cc)

module _ (C : Context) where
  literal_finite : (f : Formula) → Faultless C (term f) → FiniteLiteral (literal_bits f)
  literal_finite (node (number b) last) c = c
  literal_finite (node (number b) (next t ts)) c = absurd c
  literal_finite (node (truth b) ts) c = tt
  literal_finite (node (symbol i) ts) c = tt
  literal_finite (node (operation o) ts) c = tt
  literal_finite (node (junction j) ts) c = tt
  literal_finite (node ifelse ts) c = tt
  literal_finite (node conditional ts) c = tt
  literal_finite (node malformed ts) c = tt

  second_finite : (ts : Formulas) → AllFaultless C (terms ts) → FiniteLiteral (second_literal ts)
  second_finite last c = tt
  second_finite (next t last) c = tt
  second_finite (next t (next u us)) c = literal_finite u c.1.0

  module _ (n : ℕ) (s : ℕ) (by_state : Bool) where
    children_sound : (ts : Formulas) → AllFaultless C (terms ts) → all_chains ts ≤ n → SoundChildren C n (kinds_of ts) (to_list ts)
    children_sound last c l = tt
    children_sound (next t ts) c l =
        (record { faultless = as_generated C (term t) c.0; kind_right = refl; short = omega arith }, children_sound ts c.1 (omega arith))

    -- the children of a Number compile, and its rule is well typed over their kinds
    abbrev Ready : Head → Formulas → Type 0
    Ready h ts = (r : Rule) → the_rule s by_state h ts ≡ some r → AllFaultless C (terms ts) × (well_typed (kinds_of ts) Number r ≡ true)

    branch_ready : (ts : Formulas) → Faultless C (branch_term (terms ts)) → kind (branch_term (terms ts)) ≡ Number → Ready conditional ts
    branch_ready last c k r e = absurd c
    branch_ready (next x last) c k r e = absurd c
    branch_ready (next x (next y last)) c k r e = absurd c
    branch_ready (next x (next y (next z last))) c k r e = (
      (c.0, (c.3, (c.4, tt))),
      rw (kind_is (kind (term x)) Boolean c.1, kind_is (kind (term z)) (kind (term y)) c.5, k) (branch_typed (depends s x) r e),
    )
    branch_ready (next x (next y (next z (next u us)))) c k r e = absurd c

    ready : (h : Head) (ts : Formulas) → Faultless C (term_from h (terms ts)) → kind (term_from h (terms ts)) ≡ Number → Ready h ts
    ready (number v) ts c k r e = none_some e
    ready (truth v) ts c k r e = none_some e
    ready (symbol i) last c k r e = (tt, symbol_typed [] r e)
    ready (symbol i) (next t ts) c k r e = absurd c
    ready (operation o) ts c k r e =
        let f = operation_typed by_state (count ts) (second_literal ts) o r (rw count_terms at c.1) (second_finite ts c.0) e in
        (c.0, rw (kinds_numbers ts (rw f.0 at c.2)) f.1)
    ready (junction j) ts c k r e = none_some e
    ready ifelse ts c k r e = branch_ready ts c k r e
    ready conditional ts c k r e = branch_ready ts c k r e
    ready malformed ts c k r e = none_some e

    node_sound : (has : Bool) (h : Head) (ts : Formulas) (d : Formula)
        → ((ds : List Formula) → AllFaultless C (terms ts) → all_chains ts ≤ n → differentiate_all s by_state ts ≡ some ds → SoundDiffs C n (kinds_of ts) ds)
        → Faultless C (term (node h ts)) → kind (term (node h ts)) ≡ Number → chains (node h ts) ≤ n
        → cond has (and_then (differentiate_all s by_state ts) (λ ds. applied formulas (the_rule s by_state h ts) (node h ts) (to_list ts) ds)) (some (node (number 0) last)) ≡ some d
        → Sound C n Number d
    node_sound true h ts d ih c k l e =
        let g = and_then_some (differentiate_all s by_state ts) _ d e in
        let ds = g.0 in
        let q = applied_some (the_rule s by_state h ts) (node h ts) (to_list ts) ds d g.2 in
        let f = ready h ts c k q.0 q.1 in
        let m : all_chains ts ≤ n = omega arith in
        subst (λ (x : Formula). Sound C n Number x) q.2
        (instance_sound C n (record { own = node h ts; children = to_list ts; diffs = ds }) (kinds_of ts)
        (record { faultless = as_generated C (term (node h ts)) c; kind_right = k; short = l })
        (children_sound ts f.0 m) (ih ds f.0 m g.1) q.0 Number f.1)
    node_sound false h ts d ih c k l e =
        let q : node (number 0) last ≡ d = cc in
        subst (λ (x : Formula). Sound C n Number x) q (sound_zero C n)

    mutual
      pub differentiate_sound : (f d : Formula) → Faultless C (term f) → kind (term f) ≡ Number → chains f ≤ n → differentiate s by_state f ≡ some d
          → Sound C n Number d
      differentiate_sound (node h ts) d c k l e =
          node_sound (depends s (node h ts)) h ts d (λ ds c' l' e'. differentiate_all_sound ts ds c' l' e') c k l e

      differentiate_all_sound : (ts : Formulas) (ds : List Formula) → AllFaultless C (terms ts) → all_chains ts ≤ n
          → differentiate_all s by_state ts ≡ some ds → SoundDiffs C n (kinds_of ts) ds
      differentiate_all_sound last ds c l e = let q : [] ≡ ds = cc in subst (λ (x : List Formula). SoundDiffs C n [] x) q tt
      differentiate_all_sound (next t ts) ds c l e =
          let g = and_then_some (differentiate s by_state t) _ ds e in
          let f = and_then_some (differentiate_all s by_state ts) _ ds g.2 in
          let q : g.0 ∷ f.0 ≡ ds = cc in
          subst (λ (x : List Formula). SoundDiffs C n (kind (term t) ∷ kinds_of ts) x) q
          ((λ k. differentiate_sound t g.0 c.0 k (omega arith) g.1), differentiate_all_sound ts f.0 c.1 (omega arith) f.1)

    with_primal_sound : (f d : Formula) → Sound C n Number f → Sound C n Number d → Sound C n Number (with_primal f d)
    with_primal_sound f d sf sd =
        sound_operation C n (binary Add) (_ ∷ d ∷ [])
        (sound_operation C n (binary Multiply) (node (number 0) last ∷ f ∷ []) (sound_zero C n, (sf, tt)) refl, (sd, tt)) refl

pub derivative_compiles : (C : Context) (s : ℕ) (by_state : Bool) (f d : Formula)
    → fault C (term f) root ≡ none → kind (term f) ≡ Number → derivative s by_state f ≡ some d
    → (fault (generated C) (term d) root ≡ none) × (kind (term d) ≡ Number) × (chains d ≤ chains f)
derivative_compiles C s by_state f d ok k e =
    let n = chains f in
    let c = faultless C (term f) root ok in
    let g = and_then_some (differentiate s by_state f) _ d e in
    let q : with_primal f g.0 ≡ d = cc in
    let own : Sound C n Number f = record { faultless = as_generated C (term f) c; kind_right = k; short = omega arith } in
    let r =
    subst (λ (x : Formula). Sound C n Number x) q
    (with_primal_sound C n s by_state f g.0 own (differentiate_sound C n s by_state f g.0 c k (omega arith) g.1)) in
    (fault_none (generated C) (term d) root r.faultless, r.kind_right, r.short)
