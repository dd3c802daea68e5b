-- The faults of a formula: "the first fault in `lower`'s order: 5 `InvalidInput` (arity), 6 `UnknownSymbol`, 7 `Type`, 8 `Unsupported`, 9 `Domain`
-- (non-finite literal), each at Rust's path."
use Rattle.std.specs.Prelude.{Bool, true, false, not, ◌&&◌, ◌||◌, List, ℕ, suc, length, get_or, ltb}
use Rattle.std.proofs.Math.Option.{Option, none, some}
use Rattle.refusals.specs.Numbers.{invalid_input, outside_domain, unknown_symbol, unsupported, wrong_type}
use Rattle.arithmetic.specs.Value.{finite}
use Rattle.arithmetic.specs.Constant
use Rattle.formula.specs.Operator.{ValueKind, Number, Boolean, same_kind, result_kind, argument_kind, arity, stepped}
use Rattle.formula.specs.Names.{SymbolKind, Parameter, varies}
use Rattle.formula.specs.Path.{Path, ◌▸◌, argument, condition, then_arm, else_arm}
use Rattle.formula.specs.Term.{Term, Terms, literal, truth, symbol, apply, branch, miscounted, end, ◌and◌, term_count}

-- the kinds of the name line's symbols, and whether the formula is a derivative (Rust's `generated`)
pub record Context : Type 0 where
  pub symbols : List SymbolKind
  pub generated : Bool

-- the kind of value that a term gives
abbrev pub kind : Term → ValueKind
kind (literal b) = Number
kind (truth b) = Boolean
kind (symbol i) = Number
kind (apply o ts) = result_kind o
kind (branch c y e) = kind y
kind miscounted = Number

abbrev pub all_kind : ValueKind → Terms → Bool
all_kind κ end = true
all_kind κ (t and ts) = same_kind (kind t) κ && all_kind κ ts

-- a symbol that is no parameter stands in it
abbrev mutual
  pub dynamic : Context → Term → Bool
  dynamic C (literal b) = false
  dynamic C (truth b) = false
  dynamic C (symbol i) = varies (get_or C.symbols i Parameter)
  dynamic C (apply o ts) = any_dynamic C ts
  dynamic C (branch c y e) = dynamic C c || dynamic C y || dynamic C e
  dynamic C miscounted = false

  pub any_dynamic : Context → Terms → Bool
  any_dynamic C end = false
  any_dynamic C (t and ts) = dynamic C t || any_dynamic C ts

pub record Fault : Type 0 where
  pub number : ℕ
  pub place : Path

abbrev pub or_else : Option Fault → Option Fault → Option Fault
or_else none later = later
or_else (some f) later = some f

-- the fault n at p unless the test holds
abbrev pub unless : Bool → ℕ → Path → Option Fault
unless true n p = none
unless false n p = some (record { number = n; place = p })

-- what jumps must not vary, but in a derivative: 8
abbrev pub supported : Context → Bool → Bool
supported C jumps_and_varies = C.generated || not jumps_and_varies

abbrev mutual
  pub fault : Context → Term → Path → Option Fault
  fault C (literal b) p = unless (finite (Constant.literal b)) outside_domain p
  fault C (truth b) p = none
  fault C (symbol i) p = unless (ltb i (length C.symbols)) unknown_symbol p
  -- children, then arity, then types, then 8
  fault C (apply o ts) p =
      or_else (faults C ts p 0)
      (or_else (unless (arity o (term_count ts)) invalid_input p)
      (or_else (unless (all_kind (argument_kind o) ts) wrong_type p) (unless (supported C (stepped o && any_dynamic C ts)) unsupported p)))
  -- the condition, its type, its 8, the arms, and that they are of one type
  fault C (branch c y e) p =
      or_else (fault C c (p ▸ condition))
      (or_else (unless (same_kind (kind c) Boolean) wrong_type p)
      (or_else (unless (supported C (dynamic C c)) unsupported p)
      (or_else (fault C y (p ▸ then_arm)) (or_else (fault C e (p ▸ else_arm)) (unless (same_kind (kind e) (kind y)) wrong_type p)))))
  fault C miscounted p = some (record { number = invalid_input; place = p })

  pub faults : Context → Terms → Path → ℕ → Option Fault
  faults C end p i = none
  faults C (t and ts) p i = or_else (fault C t (p ▸ argument i)) (faults C ts p (suc i))
