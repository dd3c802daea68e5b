-- Hexadecimal digits.
use mathlib.Core.Path.{◌≡◌, refl, ap}
use mathlib.Core.Bool.{Bool, true, false, cond}
use mathlib.Core.List.{List, [], ◌∷◌, ◌++◌, map}
use mathlib.Core.Option.{Option, none, some}
use Prim.Native.Nat.{ℕ, suc, ◌+◌, ◌-◌, ◌≤◌, ◌<◌}
use native.Mathlib.Omega.{arith}
use lib.ListN.{length, get_or, drop}
use lib.Dec.{eqb, ltb}
use borrow.Author.Tests.{eqb-true, ne_eqb}
use Rattle.formula.specs.Text.{all_some}
use Rattle.formula.specs.Names.{between}
use Rattle.formula.specs.Values.{hex_digits, found, place_in, digit_of, numbered, value_of, digits_in, hex}
use Rattle.std.specs.Prelude.{Some}
use Rattle.formula.specs.Optional.{given}
use Rattle.names.proofs.Options.{option_some}
use Rattle.formula.proofs.Tests.{no_true, passes}

-- ---- a digit and its place

below_by : (t : Bool) (i n : ℕ) (o : Option ℕ) → i < n → ((d : ℕ) → o ≡ some d → d < n) → (d : ℕ) → found t i o ≡ some d → d < n
below_by true i n o h k d e = let q : i ≡ d = cc in omega arith
below_by false i n o h k d e = k d e

place_below : (ds : List ℕ) (i b n d : ℕ) → i + length ds ≤ n → place_in ds i b ≡ some d → d < n
place_below [] i b n d h e = let z : ◌≡◌ {A = ℕ} 0 1 = cc in absurd (omega arith)
place_below (x ∷ ds) i b n d h e =
    below_by (eqb x b) i n (place_in ds (suc i) b) (omega arith) (λ c. place_below ds (suc i) b n c (omega arith)) d e

pub digit_below : (b d : ℕ) → digit_of b ≡ some d → d < 16
digit_below b d e = place_below hex_digits 0 b 16 d (omega arith) e

pub digit_is : (b d : ℕ) → Some d ≡ given (digit_of b) → (digit_of b ≡ some d) × (d < 16)
digit_is b d e = let q = option_some (digit_of b) d e in (q, digit_below b d q)

-- ---- "the digit worked out by its formula: 48 more than the value below ten, 87 more from ten."

abbrev pub byte_of : ℕ → ℕ
byte_of d = cond (ltb d 10) (48 + d) (87 + d)

-- and back, 48 less from `0` to `9` and 87 less from `a` to `f`; no other byte is a digit
abbrev pub by_formula : ℕ → Option ℕ
by_formula b = cond (between 48 57 b) (some (b - 48)) (cond (between 97 102 b) (some (b - 87)) none)

abbrev same : Option ℕ → Option ℕ → Bool
same none none = true
same none (some e) = false
same (some d) none = false
same (some d) (some e) = eqb d e

same_is : (o p : Option ℕ) → same o p ≡ true → o ≡ p
same_is none none h = refl
same_is none (some e) h = absurd (no_true h)
same_is (some d) none h = absurd (no_true h)
same_is (some d) (some e) h = ap (λ x. some x) (eqb-true d e h)

-- the text of the sixteen digits and the formula agree
pub byte_is : (d : ℕ) → d < 16 → get_or hex_digits d 0 ≡ byte_of d
byte_is d l = eqb-true (get_or hex_digits d 0) (byte_of d) (passes (λ i. eqb (get_or hex_digits i 0) (byte_of i)) 16 d refl l)

pub digit_by_formula : (b : ℕ) → b < 256 → digit_of b ≡ by_formula b
digit_by_formula b l = same_is (digit_of b) (by_formula b) (passes (λ i. same (digit_of i) (by_formula i)) 256 b refl l)

-- a digit's byte reads back as the digit
pub digit_again : (d : ℕ) → d < 16 → digit_of (byte_of d) ≡ some d
digit_again d l = same_is (digit_of (byte_of d)) (some d) (passes (λ i. same (digit_of (byte_of i)) (some i)) 16 d refl l)

-- ---- a value

pub value_length : (xs : List ℕ) → (length xs ≡ 16 → ⊥) → value_of xs ≡ none
value_length xs h = ap (λ (t : Bool). cond t (numbered (all_some (map digit_of xs))) none) (ne_eqb (length xs) 16 h)

-- ---- writing

-- the digits before i are still to be written
pub record Writing (n rest i : ℕ) (out : List ℕ) : Type 0 where
  pub below : i ≤ 16
  pub all : length out ≡ 16
  pub same : hex n ≡ digits_in i rest ++ drop i out
