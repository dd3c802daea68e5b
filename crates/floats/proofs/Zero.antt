-- A value against zero, and what a test of it says.
use Rattle.std.proofs.Common.{◌≡◌, ℕ, zero, suc, ◌+◌, ◌*◌, ◌<◌, Bool, true, false, T, ltb, ℤ, pos, sym, subst, true≢false, zero-lt-suc, mul-pos, zero-mul, arith, ltb-false, ltb-true}
use lib.Ieee.{Float, nan, inf, fin, Format, up, down, lt, fits}
use lib.Ieee.Fits.{up_pos}
use Rattle.arithmetic.specs.Value.{0f}
use Rattle.rounding.proofs.Value.{zero_exponent}

pub held : (b : Bool) → b ≡ true → T b
held b e = subst T (sym e) tt

-- neither below zero nor above it
pub data Still : Float → Type 0 where
  unordered : Still nan
  zero± : (s : Bool) → Still (fin s 0 (pos 0))

above_zero : (m : ℕ) (e : ℤ) → ltb (0 * down e) (suc m * up e * 1) ≡ false → ⊥
above_zero m e h =
    let a : 0 < suc m * up e = mul-pos (zero-lt-suc m) (up_pos e) in
    let z = zero-mul (down e) in
    let l = ltb-false (0 * down e) (suc m * up e * 1) h in
    omega arith

below_zero : (m : ℕ) (e : ℤ) → ltb 0 (suc m * up e * 1 + 0 * down e) ≡ false → ⊥
below_zero m e h =
    let a : 0 < suc m * up e = mul-pos (zero-lt-suc m) (up_pos e) in
    let l = ltb-false 0 (suc m * up e * 1 + 0 * down e) h in
    omega arith

pub still : (F : Format) (x : Float) → T (fits F x) → lt 0f x ≡ false → lt x 0f ≡ false → Still x
unfolding lt
still F nan t h k = unordered
still F (inf true) t h k = absurd (true≢false k)
still F (inf false) t h k = absurd (true≢false h)
still F (fin s zero e) t h k = subst (λ (d : ℤ). Still (fin s 0 d)) (sym (zero_exponent F s e t)) (zero± s)
still F (fin false (suc m) e) t h k = absurd (above_zero m e h)
still F (fin true (suc m) e) t h k = absurd (below_zero m e k)

-- above zero: an infinity, or a number that is not 0
none : (a b : ℕ) → ltb (0 * a) (0 * b * 1) ≡ true → ⊥
none a b h = let x = zero-mul a in let y = zero-mul b in let l = ltb-true (0 * a) (0 * b * 1) h in omega arith

pub data Above : Float → Type 0 where
  infinity : Above (inf false)
  number : (m : ℕ) (e : ℤ) → Above (fin false (suc m) e)

pub above : (x : Float) → lt 0f x ≡ true → Above x
unfolding lt
above nan h = absurd (true≢false (sym h))
above (inf true) h = absurd (true≢false (sym h))
above (inf false) h = infinity
above (fin true m e) h = absurd (true≢false (sym h))
above (fin false zero e) h = absurd (none (down e) (up e) h)
above (fin false (suc m) e) h = number m e

-- below zero: an infinity, or a number that is not 0
pub data Below : Float → Type 0 where
  infinity- : Below (inf true)
  number- : (m : ℕ) (e : ℤ) → Below (fin true (suc m) e)

none_minus : (a b : ℕ) → ltb 0 (0 * a * 1 + 0 * b) ≡ true → ⊥
none_minus a b h = let x = zero-mul a in let y = zero-mul b in let l = ltb-true 0 (0 * a * 1 + 0 * b) h in omega arith

none_plus : (a b : ℕ) → ltb a (0 * b) ≡ true → ⊥
none_plus a b h = let z = zero-mul b in let l = ltb-true a (0 * b) h in omega arith

pub below : (x : Float) → lt x 0f ≡ true → Below x
unfolding lt
below nan h = absurd (true≢false (sym h))
below (inf true) h = infinity-
below (inf false) h = absurd (true≢false (sym h))
below (fin true zero e) h = absurd (none_minus (up e) (down e) h)
below (fin true (suc m) e) h = number- m e
below (fin false m e) h = absurd (none_plus (m * up e * 1) (down e) h)
