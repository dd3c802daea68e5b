-- A term without a fault, whatever the path: the same as a fault that is none, and kept where the term is taken as generated.
use mathlib.Core.Path.{◌≡◌, refl}
use mathlib.Core.Bool.{Bool, true, false, ◌&&◌}
use mathlib.Core.Option.{none, some}
use Prim.Native.Nat.{ℕ, suc}
use native.Mathlib.Omega.{arith}
use lib.ListN.{length}
use lib.Dec.{ltb}
use Rattle.arithmetic.specs.Value.{finite}
use Rattle.arithmetic.specs.Constant
use Rattle.formula.specs.Operator.{ValueKind, Number, Boolean, same_kind, argument_kind, arity, stepped}
use Rattle.formula.specs.Path.{Path, ◌▸◌, argument, condition, then_arm, else_arm}
use Rattle.formula.specs.Term.{Term, Terms, literal, truth, symbol, apply, branch, miscounted, end, ◌and◌, term_count}
use Rattle.machine.specs.Check.{Context, kind, all_kind, dynamic, any_dynamic, unless, supported, fault, faults}
use Rattle.machine.proofs.Laws.{and_l, and_r, none_left, none_right, unless_none}

pub never : {A : Type 0} → false ≡ true → A
never e = let z : ◌≡◌ {A = ℕ} 0 1 = cc in absurd (omega arith)

pub none_some : {A B : Type 0} {a : A} → none ≡ some a → B
none_some {a} e = let z : ◌≡◌ {A = ℕ} 0 1 = cc in absurd (omega arith)

pub some_none : {A B : Type 0} {a : A} → some a ≡ none → B
some_none {a} e = let z : ◌≡◌ {A = ℕ} 0 1 = cc in absurd (omega arith)

pub both : (a b : Bool) → a && b ≡ true → (a ≡ true) × (b ≡ true)
both a b e = (and_l a b e, and_r a b e)

pub same_kind_of : (a b : ValueKind) → a ≡ b → same_kind a b ≡ true
same_kind_of Number Number e = refl
same_kind_of Number Boolean e = let z : ◌≡◌ {A = ℕ} 0 1 = cc in absurd (omega arith)
same_kind_of Boolean Number e = let z : ◌≡◌ {A = ℕ} 0 1 = cc in absurd (omega arith)
same_kind_of Boolean Boolean e = refl

pub kind_is : (a b : ValueKind) → same_kind a b ≡ true → a ≡ b
kind_is Number Number e = refl
kind_is Number Boolean e = never e
kind_is Boolean Number e = never e
kind_is Boolean Boolean e = refl

abbrev mutual
  pub Faultless : Context → Term → Type 0
  Faultless C (literal b) = finite (Constant.literal b) ≡ true
  Faultless C (truth b) = Unit {0}
  Faultless C (symbol i) = ltb i (length C.symbols) ≡ true
  Faultless C (apply o ts) =
      AllFaultless C ts × (arity o (term_count ts) ≡ true) × (all_kind (argument_kind o) ts ≡ true) × (supported C (stepped o && any_dynamic C ts) ≡ true)
  Faultless C (branch c y e) =
      Faultless C c × (same_kind (kind c) Boolean ≡ true) × (supported C (dynamic C c) ≡ true) × Faultless C y × Faultless C e
      × (same_kind (kind e) (kind y) ≡ true)
  Faultless C miscounted = ⊥

  pub AllFaultless : Context → Terms → Type 0
  AllFaultless C end = Unit {0}
  AllFaultless C (t and ts) = Faultless C t × AllFaultless C ts

module _ (C : Context) where
  mutual
    pub faultless : (t : Term) (p : Path) → fault C t p ≡ none → Faultless C t
    faultless (literal b) p e = unless_none _ 9 p e
    faultless (truth b) p e = tt
    faultless (symbol i) p e = unless_none _ 6 p e
    faultless (apply o ts) p e =
        let e₁ = none_right (faults C ts p 0) _ e in
        let e₂ = none_right (unless (arity o (term_count ts)) 5 p) _ e₁ in
        let e₃ = none_right (unless (all_kind (argument_kind o) ts) 7 p) _ e₂ in
        (all_faultless ts p 0 (none_left _ _ e), unless_none _ 5 p (none_left _ _ e₁), unless_none _ 7 p (none_left _ _ e₂), unless_none _ 8 p e₃)
    faultless (branch c y e) p h =
        let h₁ = none_right (fault C c (p ▸ condition)) _ h in
        let h₂ = none_right (unless (same_kind (kind c) Boolean) 7 p) _ h₁ in
        let h₃ = none_right (unless (supported C (dynamic C c)) 8 p) _ h₂ in
        let h₄ = none_right (fault C y (p ▸ then_arm)) _ h₃ in
        let h₅ = none_right (fault C e (p ▸ else_arm)) _ h₄ in
        (faultless c _ (none_left _ _ h), unless_none _ 7 p (none_left _ _ h₁), unless_none _ 8 p (none_left _ _ h₂), faultless y _ (none_left _ _ h₃), faultless e _ (none_left _ _ h₄), unless_none _ 7 p h₅)
    faultless miscounted p e = some_none e

    all_faultless : (ts : Terms) (p : Path) (i : ℕ) → faults C ts p i ≡ none → AllFaultless C ts
    all_faultless end p i e = tt
    all_faultless (t and ts) p i e =
        (faultless t _ (none_left _ _ e), all_faultless ts p (suc i) (none_right (fault C t (p ▸ argument i)) _ e))

  mutual
    pub fault_none : (t : Term) (p : Path) → Faultless C t → fault C t p ≡ none
    fault_none (literal b) p c = rw c
    fault_none (truth b) p c = refl
    fault_none (symbol i) p c = rw c
    fault_none (apply o ts) p c = rw (faults_none ts p 0 c.0, c.1, c.2, c.3)
    fault_none (branch c y e) p h =
        rw (fault_none c (p ▸ condition) h.0, h.1, h.2, fault_none y (p ▸ then_arm) h.3, fault_none e (p ▸ else_arm) h.4, h.5)
    fault_none miscounted p c = absurd c

    faults_none : (ts : Terms) (p : Path) (i : ℕ) → AllFaultless C ts → faults C ts p i ≡ none
    faults_none end p i c = refl
    faults_none (t and ts) p i c = rw (fault_none t (p ▸ argument i) c.0, faults_none ts p (suc i) c.1)

abbrev pub generated : Context → Context
generated C = record { symbols = C.symbols; generated = true }

-- what compiles as the operator's own compiles as generated
module _ (C : Context) where
  mutual
    pub as_generated : (t : Term) → Faultless C t → Faultless (generated C) t
    as_generated (literal b) c = c
    as_generated (truth b) c = tt
    as_generated (symbol i) c = c
    as_generated (apply o ts) c = (all_as_generated ts c.0, c.1, c.2, refl)
    as_generated (branch c y e) h = (as_generated c h.0, h.1, refl, as_generated y h.3, as_generated e h.4, h.5)
    as_generated miscounted c = c

    all_as_generated : (ts : Terms) → AllFaultless C ts → AllFaultless (generated C) ts
    all_as_generated end c = tt
    all_as_generated (t and ts) c = (as_generated t c.0, all_as_generated ts c.1)
