-- n - 1 of a finite n is finite: the largest magnitude plus 1 rounds to the largest, so no literal that a rule writes is refused as 9.
use mathlib.Core.Path.{◌≡◌, refl, sym, ap, ◌∙◌, subst}
use mathlib.Core.Bool.{Bool, true, false, cond, ◌&&◌, beq}
use Prim.Native.Nat.{ℕ, zero, suc, ◌+◌, ◌-◌, ◌*◌, ◌%◌, ◌^◌, ◌≤◌, ◌<◌, zero-le}
use native.Mathlib.Nat.{le_trans, le_of_eq, mul-le-mul, mul-le-mul_right, lt_of_mul-lt-mul_right, mul_assoc, zero-mul, mul-one, one-mul, add-mul, le_of_lt}
use native.Mathlib.Bridge.{le_by_compare, IsLe}
use native.Mathlib.Omega.{arith}
use lib.Dec.{T, ltb, leb, eqb, ltb→lt}
use lib.IntN.{ℤ, pos, negsuc}
use lib.Pow.{pow-add, pow_pos, pow_mono}
use lib.Ieee.{Float, nan, inf, binary64, prec, emax, low, up, down, odd, units, round, sum, sub, le, lt, eq, fits, of_bits}
use lib.Ieee as Ieee
use lib.Ieee.Fits.{round_is, and_l, and_r, sub-fits, down_pos}
use lib.Ieee.Order.{round_mono}
use lib.Ieee.Bits.{of_bits-to_bits, of_bits-fits}
use borrow.Author.Tests.{leb-true, leb-false}
use Rattle.arithmetic.specs.Value.{finite}
use Rattle.arithmetic.specs.Constant
use Rattle.derivative.specs.Rules.{less_one}

odd_finite : (d : ℕ) (s : Bool) (q k l : ℕ) → finite (odd d s q k l) ≡ true
unfolding odd
odd_finite d s zero k l = refl
odd_finite d s (suc q) k l = refl

-- the sign does not matter
units_sign : (s : Bool) (q k : ℕ) → finite (units binary64 s q k) ≡ finite (units binary64 false q k)
unfolding units
units_sign s q k = go (ltb (q * 2 ^ k) (2 ^ (low binary64 + suc (emax binary64))))
  where
    go : (b : Bool) → finite (cond b (odd (suc (prec binary64)) s q k (low binary64)) (inf s)) ≡ finite (cond b (odd (suc (prec binary64)) false q k (low binary64)) (inf false))
    go true = odd_finite (suc (prec binary64)) s q k (low binary64) ∙ sym (odd_finite (suc (prec binary64)) false q k (low binary64))
    go false = refl

round_sign : (s : Bool) (a c : ℕ) → finite (round binary64 s a c) ≡ finite (round binary64 false a c)
round_sign s a c = ap finite (round_is binary64 s a c) ∙ units_sign s _ _ ∙ sym (ap finite (round_is binary64 false a c))

-- the largest plus 1
top : ℕ
top = (2 ^ 53 - 1) * 2 ^ 971 + 1

under : (s : Bool) (m : ℕ) (e : ℤ) → T (le (inf false) (Ieee.fin s m e)) → ⊥
unfolding le lt eq
under s m e t = t

units_under : (q k m : ℕ) (e : ℤ) → T (le (units binary64 false q k) (Ieee.fin false m e)) → finite (units binary64 false q k) ≡ true
unfolding units
units_under q k m e = go (ltb (q * 2 ^ k) (2 ^ (low binary64 + suc (emax binary64))))
  where
    go : (b : Bool) → T (le (cond b (odd (suc (prec binary64)) false q k (low binary64)) (inf false)) (Ieee.fin false m e))
        → finite (cond b (odd (suc (prec binary64)) false q k (low binary64)) (inf false)) ≡ true
    go true t = odd_finite (suc (prec binary64)) false q k (low binary64)
    go false t = absurd (under false m e t)

top_round : round binary64 false top 1 ≡ Ieee.fin false (2 ^ 53 - 1) (pos 971)
unfolding round top
top_round = refl

round_finite : (s : Bool) (a c : ℕ) → 0 < c → a * 1 ≤ top * c → finite (round binary64 s a c) ≡ true
round_finite s a c p h =
    round_sign s a c
    ∙ ap finite (round_is binary64 false a c)
    ∙ units_under _ _ (2 ^ 53 - 1) (pos 971)
    (subst (λ (z : Float). T (le z (Ieee.fin false (2 ^ 53 - 1) (pos 971)))) (round_is binary64 false a c)
    (subst (λ (z : Float). T (le (round binary64 false a c) z)) top_round (round_mono binary64 a c top 1 p (omega arith) h)))

sum_finite : (s t : Bool) (a b c : ℕ) → 0 < c → a + b ≤ top * c → finite (sum binary64 s a t b c) ≡ true
unfolding sum
sum_finite s t a b c p h = go (beq s t) (ltb a b)
  where
    go : (x y : Bool) → finite (cond x (round binary64 s (a + b) c) (cond y (round binary64 t (b - a) c) (round binary64 (s && ltb b a) (a - b) c))) ≡ true
    go true y = round_finite s (a + b) c p (omega arith)
    go false true = round_finite t (b - a) c p (omega arith)
    go false false = round_finite (s && ltb b a) (a - b) c p (omega arith)

largest : ℕ
largest = (2 ^ 53 - 1) * 2 ^ 971

scaled : (m k : ℕ) → m < 2 ^ 53 → m * 2 ^ k < 2 ^ 1024 → m * 2 ^ k ≤ largest
unfolding largest
scaled m k h l = go (leb k 971) refl
  where
    go : (b : Bool) → leb k 971 ≡ b → m * 2 ^ k ≤ (2 ^ 53 - 1) * 2 ^ 971
    go true e = let w : m ≤ 2 ^ 53 - 1 = omega arith in mul-le-mul w (pow_mono (leb-true k 971 e))
    go false e =
        let g : 971 < k = leb-false k 971 e in
        let j = k - 971 in
        let q : k ≡ j + 971 = omega arith in
        let p : m * 2 ^ k ≡ m * 2 ^ j * 2 ^ 971 = ap (λ (x : ℕ). m * 2 ^ x) q ∙ ap (λ (x : ℕ). m * x) (pow-add 2 j 971) ∙ sym (mul_assoc m (2 ^ j) (2 ^ 971)) in
        let u : m * 2 ^ j * 2 ^ 971 < 2 ^ 53 * 2 ^ 971 = subst (λ (x : ℕ). x < 2 ^ 1024) p l in
        let v : m * 2 ^ j < 2 ^ 53 = lt_of_mul-lt-mul_right (2 ^ 971) u in
        let w : m * 2 ^ j ≤ 2 ^ 53 - 1 = omega arith in
        subst (λ (x : ℕ). x ≤ (2 ^ 53 - 1) * 2 ^ 971) (sym p) (mul-le-mul_right (2 ^ 971) w)

small : (m : ℕ) → m < 2 ^ 53 → m ≤ largest
unfolding IsLe largest
small m h = le_trans (le_of_lt h) (le_by_compare (2 ^ 53) largest tt)

opened : (s : Bool) (m : ℕ) (e : ℤ) → T (fits binary64 (Ieee.fin s (suc m) e)) → (suc m < 2 ^ 53) × (suc m * up e < 2 ^ 1024 * down e)
unfolding fits
opened s m e t =
    let b₁ = eqb (suc m % 2) 1 in
    let b₂ = ltb (suc m) (2 ^ 53) in
    let b₃ = leb (down e) (2 ^ low binary64) in
    let b₄ = ltb (suc m * up e) (2 ^ 1024 * down e) in
    (ltb→lt (suc m) (2 ^ 53) (and_r b₁ b₂ (and_l (b₁ && b₂) b₃ (and_l (b₁ && b₂ && b₃) b₄ t))), ltb→lt (suc m * up e) (2 ^ 1024 * down e) (and_r (b₁ && b₂ && b₃) b₄ t))

bounded : (s : Bool) (m : ℕ) (e : ℤ) → T (fits binary64 (Ieee.fin s m e)) → m * up e ≤ largest * down e
bounded s zero e t = le_trans (le_of_eq (zero-mul (up e))) zero-le
bounded s (suc m) (pos k) t =
    let o = opened s m (pos k) t in
    rw mul-one (scaled (suc m) k o.0 o.1)
bounded s (suc m) (negsuc k) t = mul-le-mul (small (suc m) (opened s m (negsuc k) t).0) (pow_pos (suc k))

one_more : (l a d : ℕ) → a ≤ l * d → a * 1 + 1 * 1 * d ≤ (l + 1) * (d * 1)
one_more l a d h =
    let p : (l + 1) * (d * 1) ≡ l * d + d = ap (λ (x : ℕ). (l + 1) * x) (mul-one d) ∙ add-mul l 1 d ∙ ap (λ (x : ℕ). l * d + x) (one-mul d) in
    omega arith

top_is : top ≡ largest + 1
unfolding largest top
top_is = refl

fits_top : (a d : ℕ) → a ≤ largest * d → a * 1 + 1 * 1 * d ≤ top * (d * 1)
fits_top a d h = rw top_is (one_more largest a d h)

one_is : of_bits binary64 0x3ff0000000000000 ≡ Ieee.fin false 1 (pos 0)
unfolding of_bits
one_is = refl

sub_one_finite : (x : Float) → T (fits binary64 x) → finite x ≡ true → finite (sub binary64 x (Ieee.fin false 1 (pos 0))) ≡ true
unfolding sub
sub_one_finite nan f e = e
sub_one_finite (inf s) f e = e
sub_one_finite (Ieee.fin s m x) f e = sum_finite s true (m * up x * 1) (1 * 1 * down x) (down x * 1) (omega (arith, down_pos x)) (fits_top (m * up x) (down x) (bounded s m x f))

pub less_one_finite : (n : ℕ) → finite (Constant.literal n) ≡ true → finite (Constant.literal (less_one n)) ≡ true
unfolding less_one
less_one_finite n f =
    ap finite (of_bits-to_bits binary64 _ (sub-fits binary64 _ _))
    ∙ rw one_is (sub_one_finite (of_bits binary64 n) (of_bits-fits binary64 n) f)
