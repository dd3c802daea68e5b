-- The remainder of two values, over whole numbers of units.
use Rattle.std.proofs.Common.{◌≡◌, ℕ, zero, suc, ◌+◌, ◌-◌, ◌*◌, ◌/◌, ◌%◌, ◌^◌, ◌<◌, ◌≤◌, Bool, true, false, cond, T, eqb, ℤ, sym, refl, ap, ap₂, ◌∙◌, subst, lt_of_lt_of_le, le_of_eq, le_of_lt, le_trans, mul_assoc, mul-le-mul, mul-lt-mul_of_pos_right, mul-pos, mod-eq_of_lt, mul-one, zero-mul, zero-lt-suc, arith, pow_pos, pow_mono, pow-add}
use native.Mathlib.Nat.{pow-succ', mul_right_comm}
use lib.Dec.{eqb-suc-zero}
use lib.Ieee.{Float, nan, inf, fin, binary64, up, down, round, rem, neg, fits, of_bits, to_bits}
use lib.Ieee.Fits.{up_pos, down_pos, neg-fits, round-fits}
use lib.Ieee.Bits.{of_bits-to_bits, of_bits-fits}
use lib.Ieee.Exact.{HasValue}
use lib.Ieee.Positive.{first_pos}
use Rattle.std.proofs.lemmas.Nat.{mul-mod_first}
use Rattle.arithmetic.specs.Value.{absolute}
use Rattle.arithmetic.specs.Width.{width}
use Rattle.rounding.specs.Rounding.{Counts}
use Rattle.rounding.proofs.Remainder.{scaled_mod}
use Rattle.rounding.proofs.Rounded.{round_rounded, rounded_number}
use Rattle.rounding.proofs.Value.{one_value, zero_exponent}
use Rattle.floats.specs.Fields.{significand, magnitude, infinity_bits}
use Rattle.floats.proofs.Bits.{bits_value, pattern_in}

-- ---- the remainder after some places more
pub none_more : (left by : ℕ) → left < by → left ≡ left * 2 ^ 0 % by
none_more left by h = sym (ap (λ (x : ℕ). x % by) (mul-one left) ∙ mod-eq_of_lt h)

pub more : (first by m j k left : ℕ) → left ≡ first * 2 ^ m % by → k ≡ m + j → left * 2 ^ j % by ≡ first * 2 ^ k % by
more first by m j k left e h =
    ap (λ (x : ℕ). x * 2 ^ j % by) e
    ∙ mul-mod_first (first * 2 ^ m) (2 ^ j) by
    ∙ ap (λ (x : ℕ). x % by) (mul_assoc first (2 ^ m) (2 ^ j) ∙ ap (λ (x : ℕ). first * x) (sym (pow-add 2 m j) ∙ ap (λ (x : ℕ). 2 ^ x) (sym h)))

-- ---- of two values that are apart by a place at least, the smaller is what it leaves
pub smaller : (m e n d : ℕ) → m < 2 ^ 53 → 2 ^ 52 ≤ n → e < d → m * 2 ^ e ≡ m * 2 ^ e % (n * 2 ^ d)
smaller m e n d few many h =
    sym (mod-eq_of_lt (lt_of_lt_of_le (mul-lt-mul_of_pos_right few (pow_pos e)) (le_trans (le_of_eq up_one) (mul-le-mul {n₁ = 2 ^ 52} {m₁ = 2 ^ suc e} {n₂ = n} {m₂ = 2 ^ d} many (pow_mono {i = suc e} {j = d} (omega arith))))))
  where
    up_one : 2 ^ 53 * 2 ^ e ≡ 2 ^ 52 * 2 ^ suc e
    up_one = mul_assoc (2 ^ 52) 2 (2 ^ e) ∙ ap (λ (z : ℕ). 2 ^ 52 * z) (sym (pow-succ' 2 e))

-- ---- and what the larger leaves
pub larger : (m e n d left : ℕ) → 0 < n → d ≤ e → left ≡ m * 2 ^ (e - d) % n → left * 2 ^ d ≡ m * 2 ^ e % (n * 2 ^ d)
larger m e n d left N h g =
    ap (λ (x : ℕ). x * 2 ^ d) g
    ∙ sym (scaled_mod (m * 2 ^ (e - d)) n (2 ^ d) N (pow_pos d))
    ∙ ap (λ (x : ℕ). x % (n * 2 ^ d)) (mul_assoc m (2 ^ (e - d)) (2 ^ d) ∙ ap (λ (x : ℕ). m * x) (sym (pow-add 2 (e - d) d) ∙ ap (λ (x : ℕ). 2 ^ x) back))
  where
    back : e - d + d ≡ e
    back = omega arith

-- ---- the value that has these units, with a sign
same_fits : (s : Bool) (m : ℕ) (e : ℤ) → T (fits binary64 (fin s m e)) → T (fits binary64 (fin false m e))
unfolding fits
same_fits false m e t = t
same_fits true zero e t = t
same_fits true (suc m) e t = t

with_sign : Bool → Float → Float
with_sign s z = cond s (neg z) z

sign_value : (s : Bool) (z : Float) (a c : ℕ) → HasValue z false a c → HasValue (with_sign s z) s a c
unfolding neg with_sign
sign_value false z a c v = v
sign_value true nan a c v = absurd v
sign_value true (inf t) a c v = absurd v
sign_value true (fin false m e) a c v = (refl, v.1)
sign_value true (fin true m e) a c v = absurd (let z : ◌≡◌ {A = Bool} true false = v.0 in cc)

sign_fits : (s : Bool) (z : Float) → T (fits binary64 z) → T (fits binary64 (with_sign s z))
unfolding with_sign
sign_fits false z t = t
sign_fits true z t = neg-fits binary64 z t

counts : (x : Float) (s : Bool) (j : ℕ) → HasValue x s j (2 ^ 1074) → j < 2 ^ 2098 → Counts (width binary64) x s j
counts nan s j v h = v
counts (inf t) s j v h = absurd v
counts (fin t m e) s j v h = (v.0, v.1, h)

-- the units of a finite value without its sign
units_of : (m : ℕ) (e : ℤ) → T (fits binary64 (fin false m e)) → m * up e * 2 ^ 1074 ≡ magnitude (to_bits binary64 (fin false m e)) * down e
units_of m e t =
    let v = subst (λ (x : Float). HasValue x false (magnitude (to_bits binary64 (fin false m e))) (2 ^ 1074)) (of_bits-to_bits binary64 (fin false m e) t) (bits_value (to_bits binary64 (fin false m e)) (pattern_in m e t)) in
    v.1

module _ (s t : Bool) (m : ℕ) (e : ℤ) (n : ℕ) (d : ℤ) (A : T (fits binary64 (fin s m e))) (B : T (fits binary64 (fin t (suc n) d))) (r : ℕ) (R : r < infinity_bits)
    (h : magnitude r ≡ magnitude (to_bits binary64 (fin false m e)) % magnitude (to_bits binary64 (fin false (suc n) d))) where
  abbrev x : ℕ
  x = magnitude (to_bits binary64 (fin false m e))

  abbrev y : ℕ
  y = magnitude (to_bits binary64 (fin false (suc n) d))

  abbrev c : ℕ
  c = down e * down d

  abbrev left : ℕ
  left = m * up e * down d % (suc n * up d * down e)

  c_pos : 0 < c
  c_pos = mul-pos (down_pos e) (down_pos d)

  a_units : m * up e * 2 ^ 1074 ≡ x * down e
  a_units = units_of m e (same_fits s m e A)

  b_units : suc n * up d * 2 ^ 1074 ≡ y * down d
  b_units = units_of (suc n) d (same_fits t (suc n) d B)

  y_pos : 0 < y
  y_pos = first_pos y (down d) (subst (λ (z : ℕ). 0 < z) b_units (mul-pos (mul-pos (zero-lt-suc n) (up_pos d)) (pow_pos 1074)))

  in_units : left * 2 ^ 1074 ≡ magnitude r * c
  in_units =
      sym (scaled_mod (m * up e * down d) (suc n * up d * down e) (2 ^ 1074) (mul-pos (mul-pos (zero-lt-suc n) (up_pos d)) (down_pos e)) (pow_pos 1074))
      ∙ ap₂ (λ (p q : ℕ). p % q)
      (mul_right_comm (m * up e) (down d) (2 ^ 1074) ∙ ap (λ (z : ℕ). z * down d) a_units ∙ mul_assoc x (down e) (down d))
      (mul_right_comm (suc n * up d) (down e) (2 ^ 1074) ∙ ap (λ (z : ℕ). z * down e) b_units ∙ mul_right_comm y (down d) (down e) ∙ mul_assoc y (down e) (down d))
      ∙ scaled_mod x y c y_pos c_pos
      ∙ ap (λ (z : ℕ). z * c) (sym h)

  abbrev q : ℕ
  q = significand (r / 2 ^ 52) (r % 2 ^ 52)

  abbrev j : ℕ
  j = r / 2 ^ 52 - 1

  q_small : q < 2 ^ 53
  q_small = go (eqb (r / 2 ^ 52) 0)
    where
      go : (b : Bool) → cond b (r % 2 ^ 52) (r % 2 ^ 52 + 2 ^ 52) < 2 ^ 53
      go true = omega arith
      go false = omega arith

  in_range : q * 2 ^ j < 2 ^ 2098
  in_range = lt_of_lt_of_le (mul-lt-mul_of_pos_right q_small (pow_pos j)) (le_trans (le_of_eq (sym (pow-add 2 53 j))) (pow_mono {i = 53 + j} {j = 2098} (omega arith)))

  rem_counts : Counts (width binary64) (round binary64 s left c) s (q * 2 ^ j)
  rem_counts =
      let w = round_rounded binary64 s left c c_pos in
      let i =
      rounded_number (width binary64) s left c (q * 2 ^ j) (round binary64 s left c) w c_pos
      (record { short = record { digits = q; zeros = j; few = q_small; same = refl }; within = le_of_lt in_range }) in_units in
      subst (λ (k : ℕ). Counts (width binary64) (round binary64 s left c) s k) i w.counts

  rem_is : with_sign s (of_bits binary64 r) ≡ rem binary64 (fin s m e) (fin t (suc n) d)
  unfolding rem
  rem_is =
      let z = of_bits binary64 r in
      one_value binary64 (with_sign s z) (round binary64 s left c) s (q * 2 ^ j) (sign_fits s z (of_bits-fits binary64 r)) (round-fits binary64 s left c)
      (counts (with_sign s z) s (q * 2 ^ j) (sign_value s z (q * 2 ^ j) (2 ^ 1074) (bits_value r R)) in_range)
      rem_counts
      ∙ sym (ap (λ (b : Bool). cond b nan (round binary64 s left c)) (eqb-suc-zero n))

-- ---- the cases of `remainder`, by the bits without signs
pub no_left : (a b : Float) → T (fits binary64 a) → infinity_bits ≤ to_bits binary64 (absolute a) → nan ≡ rem binary64 a b
unfolding rem absolute
no_left nan b t h = refl
no_left (inf s) b t h = refl
no_left (fin s m e) b t h = absurd (let p = pattern_in m e (same_fits s m e t) in omega arith)

pub no_right : (a b : Float) → T (fits binary64 b) → to_bits binary64 (absolute a) < infinity_bits → infinity_bits < to_bits binary64 (absolute b) → nan ≡ rem binary64 a b
unfolding rem absolute to_bits
no_right nan b t h k = refl
no_right (inf s) b t h k = refl
no_right (fin s m e) nan t h k = refl
no_right (fin s m e) (inf u) t h k = absurd (omega arith)
no_right (fin s m e) (fin u n d) t h k = absurd (let p = pattern_in n d (same_fits u n d t) in omega arith)

pub by_infinity : (a b : Float) → T (fits binary64 b) → to_bits binary64 (absolute a) < infinity_bits → to_bits binary64 (absolute b) ≡ infinity_bits → a ≡ rem binary64 a b
unfolding rem absolute to_bits
by_infinity nan b t h k = refl
by_infinity (inf s) b t h k = absurd (omega arith)
by_infinity (fin s m e) nan t h k = absurd (omega arith)
by_infinity (fin s m e) (inf u) t h k = refl
by_infinity (fin s m e) (fin u n d) t h k = absurd (let p = pattern_in n d (same_fits u n d t) in omega arith)

-- a number that is not 0 has bits
some_bits : (n : ℕ) (d : ℤ) → T (fits binary64 (fin false n d)) → 0 < n → to_bits binary64 (fin false n d) ≡ 0 → ⊥
some_bits n d t h k =
    let z : 0 * down d ≡ 0 = zero-mul (down d) in
    let u : n * up d * 2 ^ 1074 ≡ 0 = units_of n d t ∙ ap (λ (b : ℕ). magnitude b * down d) k ∙ z in
    let p : 0 < n * up d * 2 ^ 1074 = mul-pos (mul-pos h (up_pos d)) (pow_pos 1074) in
    omega arith

pub by_zero : (a b : Float) → T (fits binary64 b) → to_bits binary64 (absolute a) < infinity_bits → to_bits binary64 (absolute b) ≡ 0 → nan ≡ rem binary64 a b
unfolding rem absolute to_bits
by_zero nan b t h k = refl
by_zero (inf s) b t h k = refl
by_zero (fin s m e) nan t h k = refl
by_zero (fin s m e) (inf u) t h k = absurd (omega arith)
by_zero (fin s m e) (fin u zero d) t h k = refl
by_zero (fin s m e) (fin u (suc n) d) t h k = absurd (some_bits (suc n) d (same_fits u (suc n) d t) (zero-lt-suc n) k)

zero_bits : (s : Bool) (d : ℤ) → T (fits binary64 (fin s zero d)) → to_bits binary64 (fin false zero d) ≡ 0
unfolding to_bits
zero_bits s d t = ap (λ (x : ℤ). to_bits binary64 (fin false zero x)) (zero_exponent binary64 s d t) ∙ refl

-- both finite, and b not 0
module _ (a b : Float) (A : T (fits binary64 a)) (B : T (fits binary64 b)) (r : ℕ) (R : r < infinity_bits) where
  abbrev Left : Type 0
  Left = (to_bits binary64 (absolute a) < infinity_bits) × (to_bits binary64 (absolute b) < infinity_bits) × (0 < to_bits binary64 (absolute b))
      × (magnitude r ≡ magnitude (to_bits binary64 (absolute a)) % magnitude (to_bits binary64 (absolute b)))

pub plus_left : (a b : Float) (A : T (fits binary64 a)) (B : T (fits binary64 b)) (r : ℕ) (R : r < infinity_bits) → Left a b A B r R → to_bits binary64 a < 2 ^ 63
    → of_bits binary64 r ≡ rem binary64 a b
unfolding absolute to_bits with_sign
plus_left nan b A B r R h l = absurd (let z = h.0 in omega arith)
plus_left (inf s) b A B r R h l = absurd (let z = h.0 in omega arith)
plus_left (fin s m e) nan A B r R h l = absurd (let z = h.1 in omega arith)
plus_left (fin s m e) (inf u) A B r R h l = absurd (let z = h.1 in omega arith)
plus_left (fin s m e) (fin u zero d) A B r R h l = absurd (let z = h.2 in let y = zero_bits u d B in omega arith)
plus_left (fin true m e) (fin u (suc n) d) A B r R h l = absurd (omega arith)
plus_left (fin false m e) (fin u (suc n) d) A B r R h l = rem_is false u m e n d A B r R h.3

pub minus_left : (a b : Float) (A : T (fits binary64 a)) (B : T (fits binary64 b)) (r : ℕ) (R : r < infinity_bits) → Left a b A B r R → 2 ^ 63 ≤ to_bits binary64 a
    → neg (of_bits binary64 r) ≡ rem binary64 a b
unfolding absolute to_bits with_sign
minus_left nan b A B r R h l = absurd (let z = h.0 in omega arith)
minus_left (inf s) b A B r R h l = absurd (let z = h.0 in omega arith)
minus_left (fin s m e) nan A B r R h l = absurd (let z = h.1 in omega arith)
minus_left (fin s m e) (inf u) A B r R h l = absurd (let z = h.1 in omega arith)
minus_left (fin s m e) (fin u zero d) A B r R h l = absurd (let z = h.2 in let y = zero_bits u d B in omega arith)
minus_left (fin false m e) (fin u (suc n) d) A B r R h l = absurd (let p = pattern_in m e A in omega arith)
minus_left (fin true m e) (fin u (suc n) d) A B r R h l = rem_is true u m e n d A B r R h.3
