-- One step of Min and Max by the code's tests: of two equal values only zeros differ, and a zero is known by its bits.
use Rattle.std.proofs.Common.{◌≡◌, ℕ, Bool, true, false, cond, not, ◌&&◌, ◌||◌, T, eqb, sym, refl, ap, ◌∙◌, subst, ap₂, inl, inr, true≢false, eqb-true}
use mathlib.Core.Bool.{beq, and_comm, or-true}
use lib.Ieee.{Float, nan, inf, fin, binary64, eq, fits, of_bits, to_bits}
use lib.Ieee.Bits.{of_bits-to_bits}
use Rattle.arithmetic.specs.Extremum.{held, zero_of}
use Rattle.rounding.specs.Exact.{sign}
use Rattle.rounding.proofs.Value.{zero_exponent}
use Rattle.rounding.proofs.Rank.{zero±, equal_values}
use Rattle.floats.specs.Extremum.{beyond, strictly, zero_bits}
use Rattle.floats.proofs.Zero.{held as passes}

-- ---- the zero with the sign s, and its bits
bits_of_zero : (s : Bool) → to_bits binary64 (zero± s) ≡ zero_bits s
unfolding to_bits
bits_of_zero true = refl
bits_of_zero false = refl

zero_of_bits : (s : Bool) → of_bits binary64 (zero_bits s) ≡ zero± s
unfolding of_bits
zero_of_bits true = refl
zero_of_bits false = refl

by_bits : (s : Bool) (x : Float) → T (fits binary64 x) → to_bits binary64 x ≡ zero_bits s → x ≡ zero± s
by_bits s x t e = sym (of_bits-to_bits binary64 x t) ∙ ap (of_bits binary64) e ∙ zero_of_bits s

both_true : (a b : Bool) → (a && b) ≡ true → (a ≡ true) × (b ≡ true)
both_true true b e = (refl, e)
both_true false b e = absurd (true≢false (sym e))

same_sign : (s t : Bool) → beq s t ≡ true → t ≡ s
same_sign true true e = refl
same_sign true false e = absurd (true≢false (sym e))
same_sign false true e = absurd (true≢false (sym e))
same_sign false false e = refl

is_the_zero : (s : Bool) (x : Float) → T (fits binary64 x) → zero_of s x ≡ true → x ≡ zero± s
is_the_zero s nan t h = absurd (true≢false (sym h))
is_the_zero s (inf u) t h = absurd (true≢false (sym h))
is_the_zero s (fin u m e) t h =
    let b = both_true (beq s u) (eqb m 0) h in
    let z = eqb-true m 0 b.1 in
    ap₂ (λ (v : Bool) (n : ℕ). fin v n e) (same_sign s u b.0) z ∙ ap (fin s 0) (zero_exponent binary64 u e (subst (λ (n : ℕ). T (fits binary64 (fin u n e))) z t))

-- other bits: not the zero
no_zero : (s : Bool) (x : Float) → T (fits binary64 x) → (to_bits binary64 x ≡ zero_bits s → ⊥) → zero_of s x ≡ false
no_zero s x t h = go (zero_of s x) refl
  where
    go : (b : Bool) → zero_of s x ≡ b → b ≡ false
    go true e = absurd (h (ap (to_bits binary64) (is_the_zero s x t e) ∙ bits_of_zero s))
    go false e = refl

-- ---- what a test of equality leaves
zeros_equal : (s : Bool) → eq (zero± s) (zero± (not s)) ≡ true
unfolding eq
zeros_equal true = refl
zeros_equal false = refl

-- x is the zero with the sign s and y the other one, in the order that `below` and `above` have them: x is -0 for Min, +0 for Max
abbrev zeros : Bool → Float → Float → Bool
zeros true x y = zero_of true x && zero_of false y
zeros false x y = zero_of true y && zero_of false x

zeros_is : (s : Bool) (x y : Float) → zeros s x y ≡ (zero_of s x && zero_of (not s) y)
zeros_is true x y = refl
zeros_is false x y = and_comm (zero_of true y) (zero_of false x)

-- ---- one step: x comes next, y is held, and p says whether x is strictly beyond y
module _ (s : Bool) (x y : Float) (X : fits binary64 x ≡ true) (Y : fits binary64 y ≡ true) (p : Bool) where
  t : T (fits binary64 x)
  t = passes (fits binary64 x) X

  u : T (fits binary64 y)
  u = passes (fits binary64 y) Y

  step : (b : Bool) → zeros s x y ≡ b → cond (p || zeros s x y) x y ≡ cond (p || b) x y
  step b e = ap (λ (c : Bool). cond (p || c) x y) e

  -- equal to y, and with the bits of the zero: y is the same value, or the other zero
  pub takes_zero : eq x y ≡ true → to_bits binary64 x ≡ zero_bits s → x ≡ cond (p || zeros s x y) x y
  takes_zero h e = elim (equal_values binary64 x y t u h) [
    | inl q ↦ either (p || zeros s x y) q
    | inr z ↦ sym (step true (zeros_is s x y ∙ named s z.0 (sym (by_bits s x t e) ∙ z.1) z.1 z.2) ∙ ap (λ (b : Bool). cond b x y) (or-true p))
  ]
    where
      either : (b : Bool) → x ≡ y → x ≡ cond b x y
      either true q = refl
      either false q = q

      named : (s v : Bool) → zero± s ≡ zero± v → x ≡ zero± v → y ≡ zero± (not v) → (zero_of s x && zero_of (not s) y) ≡ true
      named true true q a b = ap₂ ◌&&◌ (ap (zero_of true) a) (ap (zero_of false) b)
      named true false q a b = absurd (true≢false (ap sign q))
      named false true q a b = absurd (true≢false (sym (ap sign q)))
      named false false q a b = ap₂ ◌&&◌ (ap (zero_of false) a) (ap (zero_of true) b)

  kept : p ≡ false → zeros s x y ≡ false → y ≡ cond (p || zeros s x y) x y
  kept l z = sym (step false z ∙ ap (λ (b : Bool). cond (b || false) x y) l)

  -- with other bits it is not the zero
  pub keeps_held : p ≡ false → (to_bits binary64 x ≡ zero_bits s → ⊥) → y ≡ cond (p || zeros s x y) x y
  keeps_held l h = kept l (zeros_is s x y ∙ ap (λ (b : Bool). b && zero_of (not s) y) (no_zero s x t h))

  -- two values that are not equal are not the two zeros
  pub keeps_unequal : p ≡ false → eq x y ≡ false → y ≡ cond (p || zeros s x y) x y
  keeps_unequal l h = kept l (zeros_is s x y ∙ go (zero_of s x && zero_of (not s) y) refl)
    where
      go : (b : Bool) → (zero_of s x && zero_of (not s) y) ≡ b → b ≡ false
      go true e =
          let b = both_true (zero_of s x) (zero_of (not s) y) e in
          absurd (true≢false (sym (zeros_equal s) ∙ sym (ap₂ eq (is_the_zero s x t b.0) (is_the_zero (not s) y u b.1)) ∙ h))
      go false e = refl

-- ---- the same of Min and Max: x comes next, and y is held
module _ (most : Bool) (x y : Float) where
  by_zeros : beyond most x y ≡ (strictly most x y || zeros (not most) x y)
  by_zeros = elim most as (λ m. beyond m x y ≡ (strictly m x y || zeros (not m) x y)) [ true ↦ refl | false ↦ refl ]

  after : {z : Float} → z ≡ cond (strictly most x y || zeros (not most) x y) x y → z ≡ held (beyond most) y x
  after e = e ∙ ap (λ (b : Bool). cond b x y) (sym by_zeros)

  module _ (X : fits binary64 x ≡ true) (Y : fits binary64 y ≡ true) where
    pub holds_zero : eq x y ≡ true → to_bits binary64 x ≡ zero_bits (not most) → x ≡ held (beyond most) y x
    holds_zero h e = after (takes_zero (not most) x y X Y (strictly most x y) h e)

    pub holds_other_bits : strictly most x y ≡ false → (to_bits binary64 x ≡ zero_bits (not most) → ⊥) → y ≡ held (beyond most) y x
    holds_other_bits l h = after (keeps_held (not most) x y X Y (strictly most x y) l h)

    pub holds_unequal : strictly most x y ≡ false → eq x y ≡ false → y ≡ held (beyond most) y x
    holds_unequal l h = after (keeps_unequal (not most) x y X Y (strictly most x y) l h)
