-- What each step of `sqrt` owes, on plain numbers and on values.
use Rattle.std.proofs.Common.{◌≡◌, ℕ, zero, suc, ◌+◌, ◌-◌, ◌*◌, ◌/◌, ◌%◌, ◌^◌, ◌<◌, ◌≤◌, Bool, true, false, not, T, sym, refl, ap, ◌∙◌, subst, ap₂, inl, inr, true≢false, le_of_eq, lt_of_lt_of_le, lt_of_le_of_lt, add_assoc, mod-lt, zero-lt-suc, mul_assoc, mul_comm, add-mul, eq-zero-or-pos, mul-le-mul, mul-pos, pow-suc, lt_of_not-le, div-add-mod', mul-add, not-le_of_lt, le_of_mul-le-mul_right, mul_left_comm, arith, lit<, lt→ltb, pow_pos, pow_mono, pow-add}
use native.Mathlib.Nat.{pow-succ'}
use lib.Arith.{le→nltb}
use lib.Ieee.{Float, nan, inf, fin, binary64, top, fits, of_bits, to_bits, lt, is_nan, nan_bits}
use lib.Ieee.Exact.{HasValue}
use lib.Ieee.Bits.{of_bits-to_bits, nan_bits_above}
use lib.Ieee.Positive.{num, den, positive, den_pos, positive_of_value, value→cross, first_pos}
use Rattle.arithmetic.specs.Width.{Width, width}
use Rattle.arithmetic.specs.Root.{nearest_root, sqrt_at, sqrt}
use Rattle.rounding.specs.Square.{Root}
use Rattle.rounding.proofs.Square.{square_more, root_ge, root_lt}
use Rattle.rounding.proofs.RootDigits.{root_by_digits}
use Rattle.rounding.proofs.Rounded.{units_are}
use Rattle.floats.specs.Fields.{magnitude, infinity_bits}
use Rattle.floats.proofs.Bits.{of_pattern, bits_value, pattern_in}
use Rattle.floats.proofs.Zero.{Above, infinity, number, Still, unordered, zero±, Below, infinity-, number-}

-- ---- the whole root of m, corrected from any number below 2 ^ 27
pub square_lt : (r : ℕ) → r < 2 ^ 27 → r * r < 2 ^ 54
square_lt r h = lt_of_le_of_lt (mul-le-mul {n₁ = r} {m₁ = r} {n₂ = 2 ^ 27 - 1} {m₂ = 2 ^ 27 - 1} (omega arith) (omega arith)) (lit< tt)

pub next_square : (r : ℕ) → r < 2 ^ 27 → (r + 1) * (r + 1) ≤ 2 ^ 54
next_square r h = mul-le-mul {n₁ = r + 1} {m₁ = r + 1} {n₂ = 2 ^ 27} {m₂ = 2 ^ 27} (omega arith) (omega arith)

pub some_root : (m r : ℕ) → m < r * r → 0 < r
some_root m r h = first_pos r r (lt_of_le_of_lt (zero_below m) h)
  where
    zero_below : (m : ℕ) → 0 ≤ m
    zero_below m = omega arith

pub root_below : (m r : ℕ) → m < 2 ^ 54 → r * r ≤ m → r < 2 ^ 27
root_below m r h k = lt_of_not-le (λ (g : 2 ^ 27 ≤ r). not-le_of_lt (lt_of_le_of_lt k h) (mul-le-mul {n₁ = 2 ^ 27} {m₁ = 2 ^ 27} {n₂ = r} {m₂ = r} g g))

-- ---- the root of m * 2 ^ 54, from the root `upper` of m: what m leaves, divided by twice `upper`, gives the lower digits
regroup : (x y : ℕ) → x * y * (x * y) ≡ x * x * (y * y)
regroup x y = simp (mul_assoc, mul_left_comm)

square_sum : (a b : ℕ) → (a + b) * (a + b) ≡ a * a + 2 * (a * b) + b * b
square_sum a b = let c = mul_comm a b in simp (mul-add, add-mul, add_assoc) (omega arith)

pub record Split (m upper lower left : ℕ) : Type 0 where
  pub whole : Root m upper
  pub upper_ge : 2 ^ 26 ≤ upper
  pub upper_lt : upper < 2 ^ 27
  pub rest_le : m - upper * upper ≤ upper * 2
  pub lower_le : lower ≤ 2 ^ 27
  pub lower_square : lower * lower ≤ 2 ^ 54
  pub left_lt : left < upper * 2
  pub divided : lower * (upper * 2) + left ≡ (m - upper * upper) * 2 ^ 27

pub split : (m upper : ℕ) → 2 ^ 52 ≤ m → m < 2 ^ 54 → Root m upper → Split m upper ((m - upper * upper) * 2 ^ 27 / (upper * 2)) ((m - upper * upper) * 2 ^ 27 % (upper * 2))
split m upper low high R =
    let ge = root_ge m upper (2 ^ 26) R low in
    let s = square_more upper in
    let rest : m - upper * upper ≤ upper * 2 = omega arith in
    let twice : 0 < upper * 2 = omega arith in
    let n = (m - upper * upper) * 2 ^ 27 in
    let d = div-add-mod' n (upper * 2) in
    let lower = n / (upper * 2) in
    let le : lower ≤ 2 ^ 27 = le_of_mul-le-mul_right {m = lower} {n = 2 ^ 27} {k = upper * 2} (omega arith) twice in
    record {
      whole = R;
      upper_ge = ge;
      upper_lt = root_below m upper high R.0;
      rest_le = rest;
      lower_le = le;
      lower_square = mul-le-mul {n₁ = lower} {m₁ = lower} {n₂ = 2 ^ 27} {m₂ = 2 ^ 27} le le;
      left_lt = mod-lt n twice;
      divided = d;
    }

square_is : (upper lower : ℕ) → (upper * 2 ^ 27 + lower) * (upper * 2 ^ 27 + lower) ≡ upper * upper * 2 ^ 54 + lower * (upper * 2) * 2 ^ 27 + lower * lower
square_is upper lower =
    let s = square_sum (upper * 2 ^ 27) lower in
    let a : upper * 2 ^ 27 * (upper * 2 ^ 27) ≡ upper * upper * 2 ^ 54 = regroup upper (2 ^ 27) in
    let b : upper * 2 ^ 27 * lower ≡ lower * upper * 2 ^ 27 = mul_comm (upper * 2 ^ 27) lower ∙ sym (mul_assoc lower upper (2 ^ 27)) in
    let d : lower * (upper * 2) ≡ lower * upper * 2 = sym (mul_assoc lower upper 2) in
    omega arith

pub long_plain : (m upper lower left : ℕ) → Split m upper lower left → lower * lower ≤ left * 2 ^ 27 → Root (m * 2 ^ 54) (upper * 2 ^ 27 + lower)
long_plain m upper lower left p h =
    let s = square_is upper lower in
    let t = square_more (upper * 2 ^ 27 + lower) in
    let a = p.whole.0 in
    (omega arith, omega arith)

pub long_less : (m upper lower left : ℕ) → Split m upper lower left → left * 2 ^ 27 < lower * lower → Root (m * 2 ^ 54) (upper * 2 ^ 27 + lower - 1)
long_less m upper lower left p h =
    let s = square_is upper lower in
    let r = upper * 2 ^ 27 + lower - 1 in
    let l = some_root (left * 2 ^ 27) lower h in
    let z : r + 1 ≡ upper * 2 ^ 27 + lower = omega arith in
    let q : (r + 1) * (r + 1) ≡ (upper * 2 ^ 27 + lower) * (upper * 2 ^ 27 + lower) = ap (λ (x : ℕ). x * x) z in
    let t = square_more r in
    let a = p.whole.0 in
    (omega arith, omega arith)

-- ---- an even exponent
four_is : (j : ℕ) → 4 ^ j ≡ 2 ^ j * 2 ^ j
four_is zero = refl
four_is (suc j) = pow-suc 4 j ∙ ap (λ (x : ℕ). x * 4) (four_is j) ∙ four (2 ^ j) ∙ ap (λ (x : ℕ). x * x) (sym (pow-suc 2 j))
  where
    four : (x : ℕ) → x * x * 4 ≡ (x * 2) * (x * 2)
    four x = sym (simp (mul_assoc, mul_comm, mul_left_comm) (let z = mul_comm x x in omega arith))

half_twice : (e : ℕ) → e % 2 ≡ 0 → e / 2 + e / 2 ≡ e
half_twice e h = omega arith

half_odd : (e : ℕ) → (e % 2 ≡ 0 → ⊥) → suc (e / 2 + e / 2) ≡ e
half_odd e h = omega arith

pub even_scaled : (d e : ℕ) → e % 2 ≡ 0 → d * 4 ^ (e / 2) ≡ d * 2 ^ e
even_scaled d e h = ap (λ (x : ℕ). d * x) (four_is (e / 2) ∙ sym (pow-add 2 (e / 2) (e / 2)) ∙ ap (λ (x : ℕ). 2 ^ x) (half_twice e h))

pub odd_scaled : (d e : ℕ) → (e % 2 ≡ 0 → ⊥) → d * 2 * 4 ^ (e / 2) ≡ d * 2 ^ e
odd_scaled d e h =
    mul_assoc d 2 (4 ^ (e / 2))
    ∙ ap (λ (x : ℕ). d * (2 * x)) (four_is (e / 2) ∙ sym (pow-add 2 (e / 2) (e / 2)))
    ∙ ap (λ (x : ℕ). d * x) (sym (pow-succ' 2 (e / 2 + e / 2)) ∙ ap (λ (x : ℕ). 2 ^ x) (half_odd e h))

-- ---- the root of a value that is above zero
sqrt_positive : (W : Width) (x : Float) → T (positive x) → sqrt_at W x ≡ nearest_root W (num x) (den x)
unfolding sqrt_at
sqrt_positive W nan h = absurd h
sqrt_positive W (inf s) h = absurd h
sqrt_positive W (fin true m e) h = absurd h
sqrt_positive W (fin false zero e) h = absurd h
sqrt_positive W (fin false (suc m) e) h = refl

radicand_plain : (a c d M f K U w v : ℕ) → a * U ≡ d * c → M * f ≡ d * w → K ≡ f * v → U ≡ w * (w * v) → a * U * U ≡ M * w * (c * K)
radicand_plain a c d M f K U w v e g h u =
    ap₂ (λ (x y : ℕ). x * y) e u
    ∙ left d c w v
    ∙ ap (λ (x : ℕ). x * (w * (c * v))) (sym g)
    ∙ right M f w c v
    ∙ ap (λ (x : ℕ). M * w * (c * x)) (sym h)
  where
    left : (d c w v : ℕ) → d * c * (w * (w * v)) ≡ d * w * (w * (c * v))
    left d c w v = simp (mul_assoc, mul_left_comm)

    right : (M f w c v : ℕ) → M * f * (w * (c * v)) ≡ M * w * (c * (f * v))
    right M f w c v = simp (mul_assoc, mul_left_comm)

-- ---- a long root has 54 digits at most
pub long_below : (M r : ℕ) → M < 2 ^ 54 → Root (M * 2 ^ 54) r → r < 2 ^ 54
long_below M r hi R = root_lt (M * 2 ^ 54) r (2 ^ 54) R (omega arith)

-- ---- the bits that `root_bits` makes
module _ (b digits exp M r : ℕ) (B : b < infinity_bits) (D : digits * 2 ^ exp ≡ magnitude b * 2 ^ 52) (some : 2 ^ 52 ≤ digits) (X : exp < 2098)
    (E : M * 4 ^ (exp / 2) ≡ digits * 2 ^ exp) (lo : 2 ^ 52 ≤ M) (hi : M < 2 ^ 54) (R : Root (M * 2 ^ 54) r) where
  abbrev k : ℕ
  k = exp / 2 + 485

  pub root_big : 2 ^ 53 ≤ r
  root_big = root_ge (M * 2 ^ 54) r (2 ^ 53) R (omega arith)

  root_small : r < 2 ^ 54
  root_small = long_below M r hi R

  magnitude_pos : 0 < magnitude b
  magnitude_pos = first_pos (magnitude b) (2 ^ 52) (lt_of_lt_of_le (mul-pos (lt_of_lt_of_le (pow_pos 52) some) (pow_pos exp)) (le_of_eq D))

  k_squared : 2 ^ k * 2 ^ k ≡ 4 ^ (exp / 2) * 2 ^ 970
  k_squared = ap₂ (λ (x y : ℕ). x * y) (pow-add 2 (exp / 2) 485) (pow-add 2 (exp / 2) 485) ∙ regroup (2 ^ (exp / 2)) (2 ^ 485) ∙ ap (λ (z : ℕ). z * 2 ^ 970) (sym (four_is (exp / 2)))

  radicand : (a c : ℕ) → a * 2 ^ 1074 ≡ magnitude b * c → a * 2 ^ 1074 * 2 ^ 1074 ≡ M * 2 ^ 52 * (c * (2 ^ k * 2 ^ k))
  radicand a c e = radicand_plain a c (magnitude b) M (4 ^ (exp / 2)) (2 ^ k * 2 ^ k) (2 ^ 1074) (2 ^ 52) (2 ^ 970) e (E ∙ D) k_squared refl

  four : M * 2 ^ 54 ≡ 4 * (M * 2 ^ 52)
  four = omega arith

  pub root_pattern : of_bits binary64 (k * 2 ^ 52 + (r + 1) / 2) ≡ sqrt binary64 (of_bits binary64 b)
  root_pattern =
      let x = of_bits binary64 b in
      let v : HasValue x false (magnitude b) (2 ^ 1074) = bits_value b B in
      let p = positive_of_value x (magnitude b) (2 ^ 1074) v magnitude_pos in
      let q = (r + 1) / 2 in
      let ql : 2 ^ 52 ≤ q = let z = root_big in omega arith in
      let qh : q ≤ 2 ^ 53 = let z = root_small in omega arith in
      of_pattern q k ql qh (lt_of_le_of_lt (mul-le-mul {n₁ = q} {m₁ = 2 ^ k} {n₂ = 2 ^ 53} {m₂ = 2 ^ 1533} qh (pow_mono {i = k} {j = 1533} (omega arith))) (lit< tt))
      ∙ sym (units_are binary64 false q k)
      ∙ sym (root_by_digits (width binary64) (num x) (den x) (M * 2 ^ 52) k r (den_pos x) (omega arith) (omega arith) (radicand (num x) (den x) (value→cross x (magnitude b) (2 ^ 1074) v)) (subst (λ (z : ℕ). Root z r) four R))
      ∙ sym (sqrt_positive (width binary64) x p)

-- ---- the cases of `sqrt`
pub positive_number : {x : Float} → Above x → lt x (inf false) ≡ true → T (positive x)
unfolding lt
positive_number infinity k = absurd (true≢false (sym k))
positive_number (number m e) k = lt→ltb 0 (suc m) (zero-lt-suc m)

pub no_nan : (x : Float) → T (positive x) → T (not (is_nan x))
unfolding is_nan
no_nan nan h = absurd h
no_nan (inf s) h = absurd h
no_nan (fin s m e) h = tt

pub bits_below : (x : Float) → T (positive x) → T (fits binary64 x) → to_bits binary64 x < infinity_bits
bits_below nan h t = absurd h
bits_below (inf s) h t = absurd h
bits_below (fin true m e) h t = absurd h
bits_below (fin false m e) h t = pattern_in m e t

no_bits : T (positive (of_bits binary64 0)) → ⊥
unfolding of_bits
no_bits t = t

pub bits_above : (x : Float) → T (positive x) → T (fits binary64 x) → 0 < to_bits binary64 x
bits_above x h t = elim (eq-zero-or-pos (to_bits binary64 x)) [
  | inl z ↦ absurd (no_bits (subst (λ (n : ℕ). T (positive (of_bits binary64 n))) z (subst (λ (y : Float). T (positive y)) (sym (of_bits-to_bits binary64 x t)) h)))
  | inr l ↦ l
]

pub no_nan_bits : (n : ℕ) → n < infinity_bits → T (not (nan_bits binary64 n))
no_nan_bits n h = subst (λ (b : Bool). T (not b)) (sym (nan_bits_above binary64 n)) (le→nltb infinity_bits (n % top binary64) (omega arith))

pub sqrt_infinity : {x : Float} → Above x → lt x (inf false) ≡ false → x ≡ sqrt binary64 x
unfolding lt sqrt_at
sqrt_infinity infinity k = refl
sqrt_infinity (number m e) k = absurd (true≢false k)

pub sqrt_still : {x : Float} → Still x → x ≡ sqrt binary64 x
unfolding sqrt_at
sqrt_still unordered = refl
sqrt_still (zero± s) = refl

pub sqrt_below : {x : Float} → Below x → nan ≡ sqrt binary64 x
unfolding sqrt_at
sqrt_below infinity- = refl
sqrt_below (number- m e) = refl
