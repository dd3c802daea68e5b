-- What each end of derive's parts leaves.
use mathlib.Core.Path.{◌≡◌, refl, ap, ◌∙◌, subst}
use mathlib.Core.Bool.{Bool, true, false, ◌||◌}
use mathlib.Core.List.{List, [], ◌∷◌, map}
use mathlib.Core.Option.{Option, none, some}
use mathlib.Core.Logic.{⊎_elim}
use Prim.Native.Nat.{ℕ, zero, suc, ◌*◌, ◌≤◌, ◌<◌}
use native.Mathlib.Omega.{arith}
use lib.ListN.{length, get_or}
use lib.Dec.{ltb}
use borrow.Author.Tests.{ltb-false}
use Rattle.formula.specs.Operator.{Boolean, Number, ValueKind, same_kind}
use Rattle.formula.specs.Formula.{Formula, derivative_limit, size}
use Rattle.formula.specs.Names.{Parameter, State, Time, Input, Symbol, SymbolKind, is_state, kinds}
use denote.Enum.Bare.{sameb}
use Rattle.names.specs.contracts.Kind.{the_type}
use Rattle.formula.specs.Path.{Path, placed, root}
use Rattle.formula.specs.Term.{term}
use Rattle.formula.specs.Node.{node_size}
use Rattle.machine.specs.Check.{Fault, fault, kind}
use Rattle.machine.specs.Compile.{Compiled, compile, lowered_or, own_context, program_room}
use Rattle.machine.specs.Compile as Compile
use Rattle.names.specs.Lines.{kind_as}
use Rattle.compile.specs.Outcome.{fault_place, lowered_to}
use Rattle.compile.proofs.Entries.{Early, listed_length}
use Rattle.derivative.specs.Differentiate.{derivative}
use Rattle.derivative.specs.Records.{Record, record_size}
use Rattle.derivative.specs.Derive.{Derived, Lengths, by_state, continued, derive, derived, fitted, formula_refused, formula_refused_at, refused, too_short}
use Rattle.derive.specs.Outcome.{Leaves}
use Rattle.std.specs.Prelude.{Result, Ok, Err}
use Rattle.refusals.specs.Refusals.{refusal_at, refusal_of}
use Rattle.refusals.specs.declared.Refusal.{Refusal}
use Rattle.names.specs.declared.Kind.{Kind}
use Rattle.names.specs.declared.Kind.TheVariants as Kinds
use Rattle.derive.proofs.Parts.{leaves}

-- the path slice before is the one that was lent
pub from_path : (X : Derived) (r : Result ℕ Refusal) (q q₁ q' t t' l l' p p' : List ℕ) → q₁ ≡ q → Leaves X r q₁ q' t t' l l' p p' → Leaves X r q q' t t' l l' p p'
from_path X r q q₁ q' t t' l l' p p' e L = subst (λ (x : List ℕ). Leaves X r x q' t t' l l' p p') e L

pub by_is : (s : ℕ) (f : Formula) (st : Bool) (ss : List Symbol) → st ≡ by_state ss s → derivative s st f ≡ derivative s (by_state ss s) f
by_is s f st ss e = ap (λ (c : Bool). derivative s c f) e

-- ---- the room for a tree of n nodes

or_neither : (a b : Bool) → (a || b) ≡ false → (a ≡ false) × (b ≡ false)
or_neither true b e = absurd (let z : ◌≡◌ {A = ℕ} 0 1 = cc in omega arith)
or_neither false b e = (refl, e)

-- no slice is too short
pub rooms : (l : Lengths) (n : ℕ) → too_short l n ≡ false → (node_size * n ≤ l.tree) × (record_size * n ≤ l.list) × (240 * n ≤ l.program)
rooms l n e =
    let x = or_neither (ltb l.tree (node_size * n) || ltb l.list (record_size * n)) _ e in
    let y = or_neither (ltb l.tree (node_size * n)) _ x.0 in
    let z = ltb-false l.program (program_room (node_size * n)) x.1 in
    (ltb-false l.tree (node_size * n) y.0, ltb-false l.list (record_size * n) y.1, omega arith)

-- ---- after a formula that compiles to a Number, over its symbols

module _ (l : Lengths) (ss : List Symbol) (rs : List Record) (o : Option Formula) where
  pub unruled : o ≡ none → fitted l ss rs o ≡ refused 8 (some root)
  unruled e = ap (fitted l ss rs) e

  module _ (d : Formula) (e : o ≡ some d) where
    pub too_large : derivative_limit d ≡ false → fitted l ss rs o ≡ refused 4 (some root)
    too_large h = ap (fitted l ss rs) e ∙ rw h

    module _ (h : derivative_limit d ≡ true) where
      pub short : too_short l (size d) ≡ true → fitted l ss rs o ≡ refused 1 none
      short k = ap (fitted l ss rs) e ∙ rw (h, k)

      pub long_enough : too_short l (size d) ≡ false → fitted l ss rs o ≡ derived d rs ss
      long_enough k = ap (fitted l ss rs) e ∙ rw (h, k)

-- ---- after a formula within the limits, over its symbols

module _ (lens : Lengths) (s : ℕ) (f : Formula) (ss : List Symbol) where
  abbrev O : Option Fault
  O = fault (own_context ss) (term f) root

  abbrev X : Option Fault → Derived
  X o = continued lens s (lowered_or f ss o)

  module _ (q q' : List ℕ) where
    faultless_at : (o : Option Fault) (b : Bool) → Ok b ≡ lowered_to f o → q' ≡ placed (fault_place o) q → (o ≡ none) × (b ≡ same_kind (kind (term f)) Boolean) × (q' ≡ q)
    faultless_at none b e k = let m : b ≡ same_kind (kind (term f)) Boolean = cc in (refl, m, k)
    faultless_at (some x) b e k = absurd (let z : ◌≡◌ {A = ℕ} 0 1 = cc in omega arith)

    pub faultless : (b : Bool) → Ok b ≡ lowered_to f O → q' ≡ placed (fault_place O) q → (O ≡ none) × (b ≡ same_kind (kind (term f)) Boolean) × (q' ≡ q)
    faultless = faultless_at O

pub not_boolean : (κ : ValueKind) → same_kind κ Boolean ≡ false → κ ≡ Number
not_boolean Number e = refl
not_boolean Boolean e = absurd (let z : ◌≡◌ {A = ℕ} 0 1 = cc in omega arith)

-- ---- the kinds in a slice

pub kinds_length : (K : List Kind) (ss : List Symbol) → K ≡ map kind_as (kinds ss) → length K ≡ length ss
kinds_length K ss e = ap length e ∙ listed_length ss

listed_at : (ss : List Symbol) (i : ℕ) (z : Kind) → i < length ss → get_or (map kind_as (kinds ss)) i z ≡ kind_as (get_or (kinds ss) i Parameter)
listed_at [] i z h = absurd (omega arith)
listed_at (x ∷ xs) zero z h = refl
listed_at (x ∷ xs) (suc i) z h = listed_at xs i z (omega arith)

kind_is : (K : List Kind) (ss : List Symbol) (s : ℕ) (z : Kind) → K ≡ map kind_as (kinds ss) → s < length ss → get_or K s z ≡ kind_as (get_or (kinds ss) s Parameter)
kind_is K ss s z e h = ap (λ (x : List Kind). get_or x s z) e ∙ listed_at ss s z h

-- whether a symbol is a state, as the code asks it
pub state_is : (K : List Kind) (ss : List Symbol) (s : ℕ) (z : Kind) → K ≡ map kind_as (kinds ss) → s < length ss → sameb the_type (get_or K s z) Kinds.State ≡ by_state ss s
state_is K ss s z e h = ap (λ (k : Kind). sameb the_type k Kinds.State) (kind_is K ss s z e h) ∙ go (get_or (kinds ss) s Parameter)
  where
    go : (k : SymbolKind) → sameb the_type (kind_as k) Kinds.State ≡ is_state k
    go Parameter = refl
    go State = refl
    go Time = refl
    go Input = refl

-- ---- after the refusals of compile

module _ (b names : List ℕ) (s : ℕ) (q q' : List ℕ) (lens : Lengths) where
  pub refused_first : (n : ℕ) (r : Refusal) (place : Option Path) (t l p : List ℕ) → compile b names (length q) lens.program ≡ Compile.refused n place → r ≡ refusal_of n
      → q' ≡ placed place q → Leaves (derive b names s (length q) lens) (Err r) q q' t t l l p p
  unfolding derive
  refused_first n r place t l p e i k =
      leaves (continued lens s (compile b names (length q) lens.program)) (formula_refused n place) (Err r) q q' t t l l p p (ap (continued lens s) e)
      (ap (λ (x : Refusal). Err x) i, k, refl, refl, refl)

  pub goes_on : (X : Compiled) → compile b names (length q) lens.program ≡ X → derive b names s (length q) lens ≡ continued lens s X
  unfolding derive
  goes_on X e = ap (continued lens s) e

module _ (b names : List ℕ) (s : ℕ) (q : List ℕ) (lens : Lengths) (r : Refusal) (t l p : List ℕ) where
  refused_at_node : (n k : ℕ) → compile b names (length q) lens.program ≡ Compile.refused_at n k → r ≡ refusal_at n k → Leaves (derive b names s (length q) lens) (Err r) q q t t l l p p
  unfolding derive
  refused_at_node n k e i =
      leaves (continued lens s (compile b names (length q) lens.program)) (formula_refused_at n k) (Err r) q q t t l l p p (ap (continued lens s) e)
      (ap (λ (x : Refusal). Err x) i, refl, refl, refl, refl)

  -- a refusal of prepare
  pub refused_early : Early (compile b names (length q) lens.program) r → Leaves (derive b names s (length q) lens) (Err r) q q t t l l p p
  refused_early =
      ⊎_elim (λ h. refused_first b names s q q lens h.0 r none t l p h.1 h.3 refl) (λ h. refused_at_node h.0 h.1 h.2 h.3)
