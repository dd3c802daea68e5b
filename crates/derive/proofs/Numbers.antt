-- The refusal that derive answers has the definition's number, from 1 to 13, and its node.
use mathlib.Core.Bool.{Bool, true, false, cond}
use mathlib.Core.List.{List}
use mathlib.Core.Option.{Option, none, some}
use mathlib.Core.Path.{refl}
use Prim.Native.Nat.{ℕ}
use native.Mathlib.Omega.{arith}
use lib.ListN.{length}
use lib.Dec.{ltb}
use Rattle.formula.specs.Operator.{Boolean, same_kind}
use Rattle.formula.specs.Formula.{Formula, derivative_limit, size}
use Rattle.formula.specs.Names.{Symbol}
use Rattle.formula.specs.Term.{term}
use Rattle.machine.specs.Check.{kind}
use Rattle.machine.specs.Compile.{Compiled, accepted, compile}
use Rattle.machine.specs.Compile as Compile
use Rattle.compile.proofs.Numbers.{Numbered, NumberedAt, Numbers, numbers}
use Rattle.derivative.specs.Differentiate.{derivative}
use Rattle.derivative.specs.Records.{Record, derivative_records}
use Rattle.derivative.specs.Derive.{Derived, Lengths, by_state, continued, derive, derived, fitted, formula_refused, formula_refused_at, refused, too_short}

abbrev pub DerivedNumbers : Derived → Type 0
DerivedNumbers (formula_refused n place) = Numbered n
DerivedNumbers (formula_refused_at n k) = NumberedAt n k
DerivedNumbers (refused n place) = Numbered n
DerivedNumbers (derived d rs ss) = Unit {0}

either : (b : Bool) (X Y : Derived) → DerivedNumbers X → DerivedNumbers Y → DerivedNumbers (cond b X Y)
either true X Y h k = h
either false X Y h k = k

fitted_numbers : (l : Lengths) (ss : List Symbol) (rs : List Record) (d : Option Formula) → DerivedNumbers (fitted l ss rs d)
fitted_numbers l ss rs none = record { least = omega arith; most = omega arith; number = refl; node = refl }
fitted_numbers l ss rs (some d) =
    either (derivative_limit d) _ _ (either (too_short l (size d)) _ _ record { least = omega arith; most = omega arith; number = refl; node = refl } tt)
    record { least = omega arith; most = omega arith; number = refl; node = refl }

continued_numbers : (l : Lengths) (s : ℕ) (X : Compiled) → Numbers X → DerivedNumbers (continued l s X)
continued_numbers l s (Compile.refused n place) h = h
continued_numbers l s (Compile.refused_at n k) h = h
continued_numbers l s (accepted f ss) h =
    either (same_kind (kind (term f)) Boolean) _ _ record { least = omega arith; most = omega arith; number = refl; node = refl }
    (either (ltb s (length ss)) _ _ (fitted_numbers l ss (derivative_records s (by_state ss s) f) (derivative s (by_state ss s) f))
    record { least = omega arith; most = omega arith; number = refl; node = refl })

pub derived_numbers : (formula names : List ℕ) (s p : ℕ) (l : Lengths) → DerivedNumbers (derive formula names s p l)
unfolding derive
derived_numbers formula names s p l = continued_numbers l s (compile formula names p l.program) (numbers formula names p l.program)
