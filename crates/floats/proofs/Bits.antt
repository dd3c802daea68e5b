-- Bit patterns: the pattern of a value of q * 2 ^ k units, and the value of a pattern's fields.
use Rattle.std.proofs.Common.{◌≡◌, ℕ, zero, suc, ◌+◌, ◌-◌, ◌*◌, ◌/◌, ◌%◌, ◌^◌, ◌<◌, ◌≤◌, Bool, true, false, cond, not, T, eqb, leb, ℤ, sym, refl, ap, ◌∙◌, subst, ap₂, inl, inr, true≢false, le_trans, le_of_eq, le_refl, lt_of_lt_of_le, mul-le-mul_right, mod-eq_of_lt, mul_assoc, add_comm, suc-add, eq-or-lt_of_le, mul-lt-mul_of_pos_right, lt_of_not-le, zero-add, mul-div_cancel, arith, lit<, pow_pos, pow-add, ne_eqb, le-leb}
use native.Mathlib.Nat.{pow-succ'}
use native.Mathlib.Decide.{dec_le}
use borrow.Author.Tests.{lt-leb}
use lib.Dec.{eqb-suc-zero}
use lib.Ieee.{Float, nan, inf, fin, Format, binary64, prec, low, hid, top, up, down, size, odd, units, fits, of_bits, to_bits, of_fields}
use lib.Ieee.Fits.{down_pos}
use lib.Ieee.Exact.{HasValue, odd_sign, units_val}
use lib.Ieee.Bits.{of_bits-to_bits, to_bits-lt}
use Rattle.floats.specs.Fields.{significand, magnitude, infinity_bits}
use Rattle.rounding.proofs.Digits.{size_of}
use Rattle.rounding.proofs.Value.{units_fits}

-- ---- the pattern of q * 2 ^ k units, q having all the digits that the format keeps
module _ (f : Format) (p : ℕ) (is : prec f ≡ suc p) (q k : ℕ) (lo : 2 ^ p ≤ q) (hi : q < 2 ^ suc p) where
  size_scaled : size (q * 2 ^ k) ≡ suc (p + k)
  size_scaled =
      size_of (q * 2 ^ k) (p + k) (le_trans (le_of_eq (pow-add 2 p k)) (mul-le-mul_right (2 ^ k) lo))
      (lt_of_lt_of_le (mul-lt-mul_of_pos_right hi (pow_pos k)) (le_of_eq (sym (pow-add 2 (suc p) k) ∙ ap (λ (x : ℕ). 2 ^ x) (suc-add p k))))

  drops : size (q * 2 ^ k) - prec f ≡ k
  drops = let e = size_scaled in omega arith

  pattern_at : (n : ℕ) → n ≡ q * 2 ^ k → 0 + (size n - prec f) * hid f + n / 2 ^ (size n - prec f) ≡ k * hid f + q
  pattern_at n e =
      ap (λ (x : ℕ). 0 + (size x - prec f) * hid f + x / 2 ^ (size x - prec f)) e
      ∙ ap (λ (j : ℕ). 0 + j * hid f + q * 2 ^ k / 2 ^ j) drops
      ∙ ap₂ (λ (x y : ℕ). x + y) (zero-add (k * hid f)) (mul-div_cancel q (pow_pos k))

  pub pattern : (x : Float) → HasValue x false (q * 2 ^ k) (2 ^ low f) → to_bits f x ≡ k * hid f + q
  unfolding to_bits
  pattern nan v = absurd v
  pattern (inf s) v = absurd v
  pattern (fin true m e) v = absurd (true≢false v.0)
  pattern (fin false m e) v = pattern_at (m * up e * 2 ^ low f / down e) (ap (λ (x : ℕ). x / down e) v.1 ∙ mul-div_cancel (q * 2 ^ k) (down_pos e))

-- the value of a pattern of k * 2 ^ 52 + q, q up to 2 ^ 53
pub of_pattern : (q k : ℕ) → 2 ^ 52 ≤ q → q ≤ 2 ^ 53 → q * 2 ^ k < 2 ^ 2098 → of_bits binary64 (k * 2 ^ 52 + q) ≡ units binary64 false q k
of_pattern q k lo hi b = sym (ap (of_bits binary64) is) ∙ of_bits-to_bits binary64 x (units_fits binary64 q k hi b)
  where
    x : Float
    x = units binary64 false q k

    v : HasValue x false (q * 2 ^ k) (2 ^ 1074)
    v = units_val binary64 false q k b

    scaled : q ≡ 2 ^ 53 → q * 2 ^ k ≡ 2 ^ 52 * 2 ^ suc k
    scaled e = ap (λ (z : ℕ). z * 2 ^ k) e ∙ mul_assoc (2 ^ 52) 2 (2 ^ k) ∙ ap (λ (z : ℕ). 2 ^ 52 * z) (sym (pow-succ' 2 k))

    carried : q ≡ 2 ^ 53 → suc k * 2 ^ 52 + 2 ^ 52 ≡ k * 2 ^ 52 + q
    carried e = omega arith

    is : to_bits binary64 x ≡ k * 2 ^ 52 + q
    is = elim (eq-or-lt_of_le hi) [
      | inl e ↦ pattern binary64 52 refl (2 ^ 52) (suc k) (le_refl (2 ^ 52)) (lit< tt) x (subst (λ (z : ℕ). HasValue x false z (2 ^ 1074)) (scaled e) v) ∙ carried e
      | inr l ↦ pattern binary64 52 refl q k lo l x v
    ]

-- ---- the value of a pattern's fields
fields_val : (s : Bool) (field t : ℕ) → field < 2047 → HasValue (of_fields binary64 s field t) s (significand field t * 2 ^ (field - 1)) (2 ^ 1074)
unfolding of_fields
fields_val s zero t h = odd_sign 53 s t 0 1074
fields_val s (suc x) t h =
    subst (λ (b : Bool). HasValue (cond b (cond (eqb t 0) (inf s) nan) (odd 53 s (2 ^ 52 + t) x 1074)) s (significand (suc x) t * 2 ^ (suc x - 1)) (2 ^ 1074)) (sym (ne_eqb (suc x) 2047 (λ e. omega arith)))
    (subst (λ (n : ℕ). HasValue (odd 53 s (2 ^ 52 + t) x 1074) s n (2 ^ 1074)) same (odd_sign 53 s (2 ^ 52 + t) x 1074))
  where
    less_one : suc x - 1 ≡ x
    less_one = omega arith

    same : (2 ^ 52 + t) * 2 ^ x ≡ significand (suc x) t * 2 ^ (suc x - 1)
    same = ap₂ (λ (a b : ℕ). a * 2 ^ b) (add_comm (2 ^ 52) t ∙ ap (λ (b : Bool). cond b t (t + 2 ^ 52)) (sym (eqb-suc-zero x))) (sym less_one)

pub bits_value : (b : ℕ) → b < infinity_bits → HasValue (of_bits binary64 b) false (magnitude b) (2 ^ 1074)
unfolding of_bits
bits_value b h =
    subst (λ (s : Bool). HasValue (of_fields binary64 s (b % top binary64 / 2 ^ 52) (b % 2 ^ 52)) false (magnitude b) (2 ^ 1074)) (sym (lt-leb (top binary64) b (omega arith)))
    (subst (λ (r : ℕ). HasValue (of_fields binary64 false (r / 2 ^ 52) (b % 2 ^ 52)) false (magnitude b) (2 ^ 1074)) (sym (mod-eq_of_lt inside))
    (fields_val false (b / 2 ^ 52) (b % 2 ^ 52) (omega arith)))
  where
    inside : b < top binary64
    inside = omega arith

-- ---- which patterns stand for a number that is not negative
abbrev plain : Float → Bool
plain nan = false
plain (inf s) = false
plain (fin s m e) = not s

odd_minus : (d q k l : ℕ) → T (plain (odd d true q k l)) → ⊥
unfolding odd
odd_minus d zero k l t = t
odd_minus d (suc q) k l t = t

fields_minus : (field t : ℕ) → T (plain (of_fields binary64 true field t)) → ⊥
unfolding of_fields
fields_minus zero t h = odd_minus 53 t 0 1074 h
fields_minus (suc x) t h = go (eqb (suc x) 2047) (eqb t 0) h
  where
    go : (a b : Bool) → T (plain (cond a (cond b (inf true) nan) (odd 53 true (2 ^ 52 + t) x 1074))) → ⊥
    go true true h = h
    go true false h = h
    go false b h = odd_minus 53 (2 ^ 52 + t) x 1074 h

fields_ones : (s : Bool) (t : ℕ) → T (plain (of_fields binary64 s 2047 t)) → ⊥
unfolding of_fields
fields_ones s t h = go (eqb t 0) h
  where
    go : (b : Bool) → T (plain (cond b (inf s) nan)) → ⊥
    go true h = h
    go false h = h

plain_below : (b : ℕ) → b < 2 ^ 64 → T (plain (of_bits binary64 b)) → b < infinity_bits
unfolding of_bits
plain_below b h t = lt_of_not-le (λ (g : infinity_bits ≤ b). big g)
  where
    low_half : infinity_bits ≤ b → b < 2 ^ 63 → ⊥
    low_half g l =
        let w : b % top binary64 / 2 ^ 52 ≡ 2047 = omega arith in
        fields_ones (leb (top binary64) b) (b % 2 ^ 52) (subst (λ (x : ℕ). T (plain (of_fields binary64 (leb (top binary64) b) x (b % 2 ^ 52)))) w t)

    high_half : 2 ^ 63 ≤ b → ⊥
    high_half g = fields_minus (b % top binary64 / 2 ^ 52) (b % 2 ^ 52) (subst (λ (s : Bool). T (plain (of_fields binary64 s (b % top binary64 / 2 ^ 52) (b % 2 ^ 52)))) (le-leb (top binary64) b g) t)

    big : infinity_bits ≤ b → ⊥
    big g = pick (dec_le (2 ^ 63) b)
      where
        pick : Dec (2 ^ 63 ≤ b) → ⊥
        pick (yes l) = high_half l
        pick (no f) = low_half g (lt_of_not-le f)

pub pattern_in : (m : ℕ) (e : ℤ) → T (fits binary64 (fin false m e)) → to_bits binary64 (fin false m e) < infinity_bits
pattern_in m e t =
    plain_below (to_bits binary64 (fin false m e)) (to_bits-lt binary64 (fin false m e) t) (subst (λ (x : Float). T (plain x)) (sym (of_bits-to_bits binary64 (fin false m e) t)) tt)
