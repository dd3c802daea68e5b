-- An operation's work on the arguments that it has is that on its first three: the others are not looked at.
use mathlib.Core.Path.{◌≡◌, refl, sym}
use mathlib.Core.Bool.{true, true≢false}
use mathlib.Core.List.{[], ◌∷◌}
use lib.Ieee.{Float, Format}
use Rattle.formula.specs.Operator.{Unary, Binary, Compare, Function, unary, binary, compare, call, Exp, Log, Log10, Sqrt, Sin, Cos, Tan, Tanh, Abs, Floor, Ceil, Min, Max, Hill, InverseGaussianDensity, call_arity}
use Rattle.meaning.specs.Work.{work}

module _ (F : Format) (x y z : Float) where
  pub of_unary : (o : Unary) → work F (unary o) (x ∷ []) ≡ work F (unary o) (x ∷ y ∷ z ∷ [])
  of_unary o = refl

  pub of_binary : (o : Binary) → work F (binary o) (x ∷ y ∷ []) ≡ work F (binary o) (x ∷ y ∷ z ∷ [])
  of_binary o = refl

  pub of_compare : (o : Compare) → work F (compare o) (x ∷ y ∷ []) ≡ work F (compare o) (x ∷ y ∷ z ∷ [])
  of_compare o = refl

  pub of_single : (f : Function) → call_arity f 1 ≡ true → work F (call f) (x ∷ []) ≡ work F (call f) (x ∷ y ∷ z ∷ [])
  of_single Exp h = refl
  of_single Log h = refl
  of_single Log10 h = refl
  of_single Sqrt h = refl
  of_single Sin h = refl
  of_single Cos h = refl
  of_single Tan h = refl
  of_single Tanh h = refl
  of_single Abs h = refl
  of_single Floor h = refl
  of_single Ceil h = refl
  of_single Min h = absurd (true≢false (sym h))
  of_single Max h = absurd (true≢false (sym h))
  of_single Hill h = absurd (true≢false (sym h))
  of_single InverseGaussianDensity h = absurd (true≢false (sym h))
