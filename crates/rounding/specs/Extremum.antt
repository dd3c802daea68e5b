-- What Min and Max give on values that a format holds, whatever the order of the arguments: "IEEE 754-2019 puts -0 below +0 for minimum and maximum. Min and Max follow
-- that now, in every order of arguments; NaN stays as in document 01." Two values of a format that are equal here are equal bit for bit.
use Rattle.std.specs.Prelude.{◌≡◌, ◌⊎◌, Bool, true, false, not, ◌&&◌, cond, T, Float}
use mathlib.Core.List.{List, [], ◌∷◌, Memᴰ, Permᴰ}
use Rattle.std.specs.Float.{nan, Format}
use Rattle.std.specs.Float.Ieee.{eq, fits, is_nan}
use Rattle.arithmetic.specs.Value.{is_zero}
use Rattle.arithmetic.specs.Extremum.{extremum}

-- the format holds it, and it is no NaN
abbrev pub number : Format → Float → Bool
number F x = fits F x && not (is_nan x)

abbrev pub Each : (Float → Bool) → List Float → Type 0
Each p xs = (x : Float) → Memᴰ x xs → T (p x)

-- xs without its NaNs
unfoldable pub numbers : List Float → List Float
numbers [] = []
numbers (x ∷ xs) = cond (is_nan x) (numbers xs) (x ∷ numbers xs)

-- r is one of xs, and none of them is beyond it
pub record IsExtremum (beyond : Float → Float → Bool) (xs : List Float) (r : Float) : Type 0 where
  pub among : Memᴰ r xs
  pub last : (x : Float) → Memᴰ x xs → beyond x r ≡ false

-- For Min `beyond` is `below` and `zero` is -0, for Max `above` and +0. `plain` is the order of numbers alone, in which the two zeros are equal.
pub record Decides (F : Format) (plain beyond : Float → Float → Bool) (zero : Float) : Type 0 where
  -- a strict order; of two numbers one is beyond the other, or they are one
  pub irreflexive : (x : Float) → T (fits F x) → beyond x x ≡ false
  pub transitive : (x y z : Float) → T (fits F x) → T (fits F y) → T (fits F z) → beyond x y ≡ true → beyond y z ≡ true → beyond x z ≡ true
  pub total : (x y : Float) → T (number F x) → T (number F y) → (beyond x y ≡ true) ⊎ (x ≡ y) ⊎ (beyond y x ≡ true)
  -- NaN: the first value, it is the result; a later one is passed over
  pub nan_first : (xs : List Float) → extremum beyond (nan ∷ xs) ≡ nan
  pub nan_later : (x : Float) (xs : List Float) → extremum beyond (x ∷ xs) ≡ extremum beyond (x ∷ numbers xs)
  -- where the first value is a number, the result is a number among the values that none is beyond. Of numbers there is only one such.
  pub result : (x : Float) (xs : List Float) → T (number F x) → Each (fits F) xs
      → T (number F (extremum beyond (x ∷ xs))) × IsExtremum beyond (x ∷ xs) (extremum beyond (x ∷ xs))
  pub only : (xs : List Float) (q r : Float) → T (number F q) → T (number F r) → IsExtremum beyond xs q → IsExtremum beyond xs r → q ≡ r
  -- every permutation that has a number first too gives the same
  pub any_order : (x y : Float) (xs ys : List Float) → T (number F x) → T (number F y) → Each (fits F) xs → Permᴰ (x ∷ xs) (y ∷ ys)
      → extremum beyond (x ∷ xs) ≡ extremum beyond (y ∷ ys)
  -- where the result is a zero and this one is among the values, it is the result
  pub zeros : (x : Float) (xs : List Float) → T (number F x) → Each (fits F) xs → Memᴰ zero (x ∷ xs) → T (is_zero (extremum beyond (x ∷ xs))) → extremum beyond (x ∷ xs) ≡ zero
  -- as a number it is what the order of numbers alone gives: no value is past it there
  pub none_past : (x : Float) (xs : List Float) → T (number F x) → Each (fits F) xs → (y : Float) → Memᴰ y (x ∷ xs) → plain y (extremum beyond (x ∷ xs)) ≡ false
  pub same_number : (x : Float) (xs : List Float) → T (number F x) → Each (fits F) xs → eq (extremum beyond (x ∷ xs)) (extremum plain (x ∷ xs)) ≡ true
