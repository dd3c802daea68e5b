-- The refusal of compile or derive has the definition's number and node. The number is never 0, so 0 says that a program was made.
use mathlib.Core.List.{List}
use Prim.Native.Nat.{ℕ}
use Rattle.machine.specs.Compile.{Compiled, accepted, compile}
use Rattle.machine.specs.Compile as Compile
use Rattle.compile.proofs.Numbers.{Numbered, NumberedAt, Numbers, numbers}
use Rattle.derivative.specs.Derive.{Derived, Lengths, derive, derived, formula_refused, formula_refused_at}
use Rattle.derivative.specs.Derive as Derive
use Rattle.derive.proofs.Numbers.{DerivedNumbers, derived_numbers}
use Rattle.demand.specs.Made.{Made, made, make, of_compiled, of_derived, refused, refused_at}
use Rattle.demand.specs.declared.Wanted.{Wanted}

abbrev pub Told : Made → Type 0
Told (refused n place) = Numbered n
Told (refused_at n k) = NumberedAt n k
Told (made C f) = Unit {0}

of_compile : (X : Compiled) → Numbers X → Told (of_compiled X)
of_compile (Compile.refused n place) h = h
of_compile (Compile.refused_at n k) h = h
of_compile (accepted f ss) h = tt

of_derive : (X : Derived) → DerivedNumbers X → Told (of_derived X)
of_derive (formula_refused n place) h = h
of_derive (formula_refused_at n k) h = h
of_derive (Derive.refused n place) h = h
of_derive (derived d rs ss) h = tt

pub told : (formula names : List ℕ) (w : Wanted ℕ) (p : ℕ) (l : Lengths) → Told (make formula names w p l)
told formula names Wanted.Formula p l = of_compile (compile formula names p l.program) (numbers formula names p l.program)
told formula names (Wanted.Derivative s) p l = of_derive (derive formula names s p l) (derived_numbers formula names s p l)
