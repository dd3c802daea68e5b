-- Modulo: the remainder is exact, for any width that has both numbers, and the result is as 01 has it; and so it is in each format.
use mathlib.Core.Path.{◌≡◌, refl, sym, ap, ap₂, ◌∙◌, subst, subst₂}
use mathlib.Core.Logic.{◌⊎◌, inl, inr}
use mathlib.Core.Bool.{Bool, true, false, ◌&&◌, cond, true≢false, false≢true}
use Prim.Native.Nat.{ℕ, zero, suc, ◌+◌, ◌-◌, ◌*◌, ◌/◌, ◌%◌, ◌^◌, ◌≤◌, ◌<◌, zero-le}
use native.Mathlib.Nat.{le_trans, le_of_eq, le_of_lt, lt_of_lt_of_le, lt_of_le_of_lt, lt_of_not-le, lt_irrefl, zero-lt-suc, mul-pos, zero-mul, mul_comm, mul_assoc, mul_left_comm, mul_right_comm, mul-sub, mul-le-mul_right, le_of_mul-le-mul_right, mul-lt-mul_of_pos_right, lt_of_mul-lt-mul_right, add-mul, add_comm, div-add-mod', mod-lt, mod-le}
use native.Mathlib.Decide.{dec_le}
use native.Mathlib.Omega.{arith}
use borrow.Author.Tests.{ltb-true, ltb-false}
use lib.Arith.{digits_mod}
use lib.Dec.{T, leb, ltb, eqb-suc-zero, lt→ltb}
use lib.IntN.{ℤ, pos, neg_ℤ, nat_abs, ◌+ℤ◌, +ℤ_comm}
use lib.Pow.{pow_pos, pow-add}
use lib.Ieee.{Float, nan, inf, fin, Format, up, down, odd, add, rem, lt, le, fits}
use lib.Ieee.Fits.{up_pos, down_pos, rem-fits, add-fits, cond-fits}
use lib.Ieee.Scale.{finite}
use lib.Ieee.Exact.{HasValue}
use lib.Ieee.Positive.{num, den}
use Rattle.arithmetic.specs.Width.{Width, width, digits, least, past, of_units}
use Rattle.arithmetic.specs.Value.{0f}
use Rattle.arithmetic.specs.Modulo.{wrapped, modulo}
use Rattle.rounding.specs.Rounding.{Short, Held, Counts, distance, IsRounded, round_at}
use Rattle.rounding.specs.Exact.{sign, signed, sign_of}
use Rattle.rounding.specs.Modulo.{IsModulo, rem_at, add_at, modulo_at}
use Rattle.rounding.proofs.Nearest.{round_at_rounded}
use Rattle.rounding.proofs.Rounded.{rounded_number, rescaled, round_is_at}
use Rattle.rounding.proofs.Value.{Placed, placed, held_units, from_units, exact_at, holds}
use Rattle.rounding.proofs.Once.{sign_back, difference, add_is}
use Rattle.rounding.proofs.Order.{le_shows, le_of_values±, zero_left}

-- ---- remainders of multiples
pub scaled_mod : (a b k : ℕ) → 0 < b → 0 < k → a * k % (b * k) ≡ a % b * k
scaled_mod a b k B K = ap (λ (z : ℕ). z % (b * k)) split ∙ digits_mod (a / b) (mul-lt-mul_of_pos_right (mod-lt a B) K)
  where
    split : a * k ≡ a / b * (b * k) + a % b * k
    split = ap (λ (z : ℕ). z * k) (sym (div-add-mod' a b)) ∙ add-mul (a / b * b) (a % b) k ∙ ap (λ (z : ℕ). z + a % b * k) (mul_assoc (a / b) b k)

-- ---- the remainder of two values in units
either_order : (a b : ℕ) → (a ≤ b) ⊎ (b ≤ a)
either_order a b = go (dec_le a b)
  where
    go : Dec (a ≤ b) → (a ≤ b) ⊎ (b ≤ a)
    go (yes h) = inl h
    go (no f) = inr (le_of_lt (lt_of_not-le f))

short_mod : (p m n E D : ℕ) → m < 2 ^ p → n < 2 ^ p → 0 < n → Short p (m * 2 ^ E % (n * 2 ^ D))
short_mod p m n E D M N P = elim (either_order E D) [
  | inl h ↦ record {
    digits = m % (n * 2 ^ (D - E));
    zeros = E;
    few = lt_of_le_of_lt (mod-le m (n * 2 ^ (D - E))) M;
    same = ap (λ (z : ℕ). m * 2 ^ E % z) (split n E D h) ∙ scaled_mod m (n * 2 ^ (D - E)) (2 ^ E) (mul-pos P (pow_pos (D - E))) (pow_pos E);
  }
  | inr h ↦ record {
    digits = m * 2 ^ (E - D) % n;
    zeros = D;
    few = lt_of_lt_of_le (mod-lt (m * 2 ^ (E - D)) P) (le_of_lt N);
    same = ap (λ (z : ℕ). z % (n * 2 ^ D)) (split m D E h) ∙ scaled_mod (m * 2 ^ (E - D)) n (2 ^ D) P (pow_pos D);
  }
]
  where
    split : (n i j : ℕ) → i ≤ j → n * 2 ^ j ≡ n * 2 ^ (j - i) * 2 ^ i
    split n i j h = ap (λ (z : ℕ). n * 2 ^ z) whole ∙ ap (λ (z : ℕ). n * z) (pow-add 2 (j - i) i) ∙ sym (mul_assoc n (2 ^ (j - i)) (2 ^ i))
      where
        whole : j ≡ j - i + i
        whole = omega arith

-- ---- the remainder of a by b, b not 0: over the common denominator, what a leaves by b, exactly, with a's sign
module _ (W : Width) (s t : Bool) (m : ℕ) (e : ℤ) (n : ℕ) (d : ℤ) (A : Held W m e) (B : Held W (suc n) d) where
  abbrev c : ℕ
  c = down e * down d

  abbrev c_pos : 0 < c
  c_pos = mul-pos (down_pos e) (down_pos d)

  abbrev left : ℕ
  left = m * up e * down d % (suc n * up d * down e)

  x : Placed (least W) e
  x = placed (least W) e A.fine

  y : Placed (least W) d
  y = placed (least W) d B.fine

  abbrev units_left : ℕ
  units_left = m * 2 ^ x.exponent % (suc n * 2 ^ y.exponent)

  -- each of the two, times the units in 1, in units and over the common denominator
  left_units : m * up e * down d * 2 ^ least W ≡ m * 2 ^ x.exponent * (down e * down d)
  left_units = over m (up e) (down d) (2 ^ least W) (2 ^ x.exponent) (down e) x.same
    where
      over : (m u d w k e : ℕ) → u * w ≡ k * e → m * u * d * w ≡ m * k * (e * d)
      over m u d w k e h = mul_right_comm (m * u) d w ∙ ap (λ (z : ℕ). z * d) (mul_assoc m u w ∙ ap (λ (z : ℕ). m * z) h ∙ sym (mul_assoc m k e)) ∙ mul_assoc (m * k) e d

  right_units : suc n * up d * down e * 2 ^ least W ≡ suc n * 2 ^ y.exponent * (down e * down d)
  right_units = over (suc n) (up d) (down e) (2 ^ least W) (2 ^ y.exponent) (down d) y.same
    where
      over : (m u d w k e : ℕ) → u * w ≡ k * e → m * u * d * w ≡ m * k * (d * e)
      over m u d w k e h = mul_right_comm (m * u) d w ∙ ap (λ (z : ℕ). z * d) (mul_assoc m u w ∙ ap (λ (z : ℕ). m * z) h ∙ sym (mul_assoc m k e)) ∙ mul_assoc (m * k) e d ∙ ap (λ (z : ℕ). m * k * z) (mul_comm e d)

  in_units : left * 2 ^ least W ≡ units_left * (down e * down d)
  in_units =
      sym (scaled_mod (m * up e * down d) (suc n * up d * down e) (2 ^ least W) (mul-pos (mul-pos (zero-lt-suc n) (up_pos d)) (down_pos e)) (pow_pos (least W)))
      ∙ ap₂ (λ (a b : ℕ). a % b) left_units right_units
      ∙ scaled_mod (m * 2 ^ x.exponent) (suc n * 2 ^ y.exponent) (down e * down d) (mul-pos (zero-lt-suc n) (pow_pos y.exponent)) (mul-pos (down_pos e) (down_pos d))

  in_range : units_left < past W
  in_range =
      lt_of_le_of_lt (mod-le (m * 2 ^ x.exponent) (suc n * 2 ^ y.exponent))
      (lt_of_lt_of_le (lt_of_mul-lt-mul_right (down e) scaled) (le_of_eq (sym (pow-add 2 (suc W.power) (least W)) ∙ ap (λ (z : ℕ). 2 ^ z) (add_comm (suc W.power) (least W)))))
    where
      scaled : m * 2 ^ x.exponent * down e < 2 ^ suc W.power * 2 ^ least W * down e
      scaled =
          subst₂ (λ (a b : ℕ). a < b)
          (mul_assoc m (up e) (2 ^ least W) ∙ ap (λ (z : ℕ). m * z) x.same ∙ sym (mul_assoc m (2 ^ x.exponent) (down e)))
          (mul_right_comm (2 ^ suc W.power) (down e) (2 ^ least W))
          (mul-lt-mul_of_pos_right A.range (pow_pos (least W)))

  short : Short (digits W) units_left
  short = short_mod (digits W) m (suc n) x.exponent y.exponent A.few B.few (zero-lt-suc n)

  rem_value : HasValue (round_at W s left c) s left c
  rem_value = exact_at W s left c units_left c_pos short in_range in_units

  rem_count : Counts W (round_at W s left c) s units_left
  rem_count =
      let r = round_at_rounded W s left c c_pos in
      let i = rounded_number W s left c units_left (round_at W s left c) r c_pos (record { short = short; within = le_of_lt in_range }) in_units in
      subst (λ (j : ℕ). Counts W (round_at W s left c) s j) i r.counts

  -- |r| < |b|
  left_lt : left < suc n * up d * down e
  left_lt = mod-lt (m * up e * down d) (mul-pos (mul-pos (zero-lt-suc n) (up_pos d)) (down_pos e))

-- ---- what rounds to a value with no sign
data Plus : Float → Type 0 where
  plus_infinity : Plus (inf false)
  plus : (m : ℕ) (e : ℤ) → Plus (fin false m e)

odd_plus : (d q k l : ℕ) → Plus (odd d false q k l)
unfolding odd
odd_plus d zero k l = plus zero (pos 0)
odd_plus d (suc q) k l = plus _ _

units_plus : (W : Width) (q k : ℕ) → Plus (of_units W false q k)
unfolding of_units
units_plus W q k = go (leb (past W) (q * 2 ^ k))
  where
    go : (b : Bool) → Plus (cond b (inf false) (odd (suc (digits W)) false q k (least W)))
    go true = plus_infinity
    go false = odd_plus (suc (digits W)) q k (least W)

round_plus : (W : Width) (a c : ℕ) → Plus (round_at W false a c)
unfolding round_at
round_plus W a c = units_plus W _ _

-- ---- from 0 up to b; a zero may have a sign
pub record InRange (y b : Float) : Type 0 where
  pub not_below : T (le 0f y)
  pub below : T (lt y b)

at_most_infinity : (s : Bool) (n : ℕ) (d : ℤ) → le (fin s n d) (inf false) ≡ true
unfolding le
at_most_infinity s n d = refl

clash : (b : Bool) → b ≡ false → T b → ⊥
clash b h t = subst T h t

zero_least : (m : ℕ) (e : ℤ) → 0 * down e ≤ m * up e * 1
zero_least m e = le_trans (le_of_eq (zero-mul (down e))) zero-le

plus_not_below : {y : Float} → Plus y → T (le 0f y)
plus_not_below plus_infinity = subst T (sym (at_most_infinity false 0 (pos 0))) tt
plus_not_below (plus m e) = le_shows false 0 (pos 0) false m e (zero_least m e)

plus_below : {y : Float} (n : ℕ) (d : ℤ) → Plus y → le (fin false n d) y ≡ false → T (lt y (fin false n d))
unfolding lt
plus_below n d plus_infinity h = absurd (true≢false (sym (at_most_infinity false n d) ∙ h))
plus_below n d (plus m e) h =
    lt→ltb (m * up e * down d) (n * up d * down e)
    (lt_of_not-le (λ (g : n * up d * down e ≤ m * up e * down d). clash (le (fin false n d) (fin false m e)) h (le_shows false n d false m e g)))

-- b is above 0
above_zero : (n k : ℕ) (d : ℤ) → 0 < k → 0 < suc n * up d * k
above_zero n k d K = mul-pos (mul-pos (zero-lt-suc n) (up_pos d)) K

zero_range : (n : ℕ) (d : ℤ) → InRange 0f (fin false (suc n) d)
unfolding lt
zero_range n d = record {
  not_below = plus_not_below (plus 0 (pos 0));
  below = lt→ltb (0 * down d) (suc n * up d * 1) (lt_of_le_of_lt (le_of_eq (zero-mul (down d))) (above_zero n 1 d (zero-lt-suc 0)));
}

minus_zero_range : (m : ℕ) (e : ℤ) (n : ℕ) (d : ℤ) → m ≡ 0 → InRange (fin true m e) (fin false (suc n) d)
unfolding lt
minus_zero_range m e n d z = record {
  not_below = le_shows false 0 (pos 0) true m e (zero-mul (down e), ap (λ (k : ℕ). k * up e * 1) z ∙ ap (λ (k : ℕ). k * 1) (zero-mul (up e)));
  below = lt→ltb 0 (m * up e * down d + suc n * up d * down e) (let h = above_zero n (down e) d (down_pos e) in omega arith);
}

-- ---- what rounds from at most a number of the width is at most that number
at_most : (x y n : ℕ) → n ≤ x → x < y → distance y n ≤ distance x n → ⊥
at_most x y n a b h = omega arith

below_number : (W : Width) (a c : ℕ) (z : Float) (n : ℕ) (d : ℤ) (B : Held W n d) → 0 < c → a * down d ≤ n * up d * c → IsRounded W false a c z → T (le z (fin false n d))
below_number W a c z n d B C h r =
    let u = held_units W n d B in
    let l : r.units ≤ u.units = le_of_not_lt (λ (g : u.units < r.units). at_most (u.units * c) (r.units * c) (a * 2 ^ least W) (under u.units u.same) (mul-lt-mul_of_pos_right g C) (r.closest u.units (record { short = u.short; within = le_of_lt u.under }))) in
    let v = from_units W z false r.units r.units (2 ^ least W) (lt_of_le_of_lt l u.under) refl r.counts in
    le_of_values± z (fin false n d) false false r.units (2 ^ least W) u.units (2 ^ least W) (pow_pos (least W)) (pow_pos (least W)) v (refl, u.same) (mul-le-mul_right (2 ^ least W) l)
  where
    le_of_not_lt : {x y : ℕ} → (y < x → ⊥) → x ≤ y
    le_of_not_lt f = omega arith

    under : (j : ℕ) → n * up d * 2 ^ least W ≡ j * down d → a * 2 ^ least W ≤ j * c
    under j e =
        le_of_mul-le-mul_right
        (le_trans (le_of_eq (mul_right_comm a (2 ^ least W) (down d)))
        (le_trans (mul-le-mul_right (2 ^ least W) h) (le_of_eq (mul_right_comm (n * up d) c (2 ^ least W) ∙ ap (λ (x : ℕ). x * c) e ∙ mul_right_comm j (down d) c))))
        (down_pos d)

-- ---- Modulo of a = ±m * 2 ^ e by b = (n + 1) * 2 ^ d, from the remainder r on
module _ (W : Width) (s : Bool) (m : ℕ) (e : ℤ) (n : ℕ) (d : ℤ) (A : Held W m e) (B : Held W (suc n) d) where
  abbrev a : Float
  a = fin s m e

  abbrev b : Float
  b = fin false (suc n) d

  abbrev f : ℕ
  f = down e * down d

  abbrev rest : ℕ
  rest = m * up e * down d % (suc n * up d * down e)

  less : rest < suc n * up d * down e
  less = left_lt W s false m e n d A B

  -- |r| < b, over their own denominators
  smaller : (k : ℕ) (g : ℤ) → k * up g * f ≡ rest * down g → k * up g * down d < suc n * up d * down g
  smaller k g v =
      lt_of_mul-lt-mul_right (down e)
      (subst₂ (λ (x y : ℕ). x < y) (sym v ∙ ap (λ (z : ℕ). k * up g * z) (mul_comm (down e) (down d)) ∙ sym (mul_assoc (k * up g) (down d) (down e))) (mul_right_comm (suc n * up d) (down e) (down g))
      (mul-lt-mul_of_pos_right less (down_pos g)))

  -- the sum of r and b, r negative
  sum_is : (k : ℕ) (g : ℤ) → k * up g * down d < suc n * up d * down g → add_at W (fin true k g) b ≡ round_at W false (suc n * up d * down g - k * up g * down d) (down g * down d)
  sum_is k g l =
      let x = k * up g * down d in
      let y = suc n * up d * down g in
      let i : neg_ℤ (pos x) +ℤ pos y ≡ pos (y - x) = +ℤ_comm (neg_ℤ (pos x)) (pos y) ∙ difference y x (le_of_lt l) in
      ap (λ (z : ℤ). round_at W (sign_of false z) (nat_abs z) (down g * down d)) i
      ∙ ap (λ (t : Bool). round_at W t (y - x) (down g * down d)) (sign_back false false (y - x) (λ q. refl))

  same_fraction : (k : ℕ) (g : ℤ) → k * up g * f ≡ rest * down g → (suc n * up d * down g - k * up g * down d) * f ≡ (suc n * up d * down e - rest) * (down g * down d)
  same_fraction k g v =
      less_times (suc n * up d * down g) (k * up g * down d) f
      ∙ ap₂ (λ (x y : ℕ). x - y) (regroup (suc n * up d) (down g) (down e) (down d)) (mul_right_comm (k * up g) (down d) f ∙ ap (λ (x : ℕ). x * down d) v ∙ mul_assoc rest (down g) (down d))
      ∙ sym (less_times (suc n * up d * down e) rest (down g * down d))
    where
      less_times : (x y k : ℕ) → (x - y) * k ≡ x * k - y * k
      less_times x y k = mul_comm (x - y) k ∙ mul-sub k x y ∙ ap₂ (λ (p q : ℕ). p - q) (mul_comm k x) (mul_comm k y)

      regroup : (x g e d : ℕ) → x * g * (e * d) ≡ x * e * (g * d)
      regroup x g e d = simp (mul_assoc, mul_left_comm)

  rounded_sum : (k : ℕ) (g : ℤ) → k * up g * f ≡ rest * down g → IsRounded W false (suc n * up d * down e - rest) f (add_at W (fin true k g) b)
  rounded_sum k g v =
      let x = suc n * up d * down g - k * up g * down d in
      rescaled W false x (down g * down d) (suc n * up d * down e - rest) f (add_at W (fin true k g) b) (mul-pos (down_pos g) (down_pos d)) (mul-pos (down_pos e) (down_pos d)) (same_fraction k g v)
      (subst (λ (z : Float). IsRounded W false x (down g * down d) z) (sym (sum_is k g (smaller k g v))) (round_at_rounded W false x (down g * down d) (mul-pos (down_pos g) (down_pos d))))

  plus_sum : (k : ℕ) (g : ℤ) → k * up g * f ≡ rest * down g → Plus (add_at W (fin true k g) b)
  plus_sum k g v = subst (λ (z : Float). Plus z) (sym (sum_is k g (smaller k g v))) (round_plus W (suc n * up d * down g - k * up g * down d) (down g * down d))

  sum_at_most : (z : Float) → IsRounded W false (suc n * up d * down e - rest) f z → T (le z b)
  sum_at_most z r = below_number W (suc n * up d * down e - rest) f z (suc n) d B (mul-pos (down_pos e) (down_pos d)) (le_trans (mul-le-mul_right (down d) (cut (suc n * up d * down e) rest)) (le_of_eq (mul_assoc (suc n * up d) (down e) (down d)))) r
    where
      cut : (x y : ℕ) → x - y ≤ x
      cut x y = omega arith

  abbrev units : ℕ
  units = units_left W s false m e n d A B

  built : (y : Float) → ((s ≡ false) ⊎ (rest ≡ 0) → Counts W y s units) → (s ≡ true → 0 < rest → (sum : Float) × IsRounded W false (suc n * up d * down e - rest) f sum × T (le sum b) × (y ≡ wrapped b sum))
      → InRange y b → IsModulo W a b y
  built y k w i = record {
    n = m * up e * down d / (suc n * up d * down e);
    r = rest;
    exact = sym (div-add-mod' (m * up e * down d) (suc n * up d * down e));
    less = less;
    units = units;
    same = in_units W s false m e n d A B;
    number = record { short = short W s false m e n d A B; within = le_of_lt (in_range W s false m e n d A B) };
    kept = k;
    moved = w;
    not_below = i.not_below;
    below = i.below;
  }

  -- r is not below 0
  of_plus : (k : ℕ) (g : ℤ) → HasValue (fin false k g) s rest f → Counts W (fin false k g) s units → IsModulo W a b (fin false k g)
  unfolding lt
  of_plus k g v w =
      built (fin false k g) (λ h. w) (λ h l. absurd (false≢true (v.0 ∙ h)))
      (record { not_below = plus_not_below (plus k g); below = lt→ltb (k * up g * down d) (suc n * up d * down g) (smaller k g v.1) })

  -- r is a negative zero
  of_zero : (k : ℕ) (g : ℤ) → k ≡ 0 → HasValue (fin true k g) s rest f → Counts W (fin true k g) s units → IsModulo W a b (fin true k g)
  of_zero k g z v w = built (fin true k g) (λ h. w) (λ h l. absurd (lt_irrefl 0 (lt_of_lt_of_le l (le_of_eq none)))) (minus_zero_range k g n d z)
    where
      none : rest ≡ 0
      none = zero_left rest (down g) (down_pos g) (sym v.1 ∙ ap (λ (x : ℕ). x * up g * f) z ∙ ap (λ (x : ℕ). x * f) (zero-mul (up g)) ∙ zero-mul f)

  -- r is below 0
  of_minus : (k : ℕ) (g : ℤ) → 0 < k * up g → HasValue (fin true k g) s rest f → IsModulo W a b (wrapped b (add_at W (fin true k g) b))
  of_minus k g l v =
      let z = add_at W (fin true k g) b in
      let r = rounded_sum k g v.1 in
      built (wrapped b z) (λ h. absurd (none h)) (λ h i. (z, r, sum_at_most z r, refl)) (go (le b z) refl)
    where
      none : (s ≡ false) ⊎ (rest ≡ 0) → ⊥
      none (inl h) = true≢false (v.0 ∙ h)
      none (inr h) = lt_irrefl 0 (lt_of_lt_of_le (mul-pos l (mul-pos (down_pos e) (down_pos d))) (le_of_eq (v.1 ∙ ap (λ (x : ℕ). x * down g) h ∙ zero-mul (down g))))

      go : (t : Bool) → le b (add_at W (fin true k g) b) ≡ t → InRange (cond t 0f (add_at W (fin true k g) b)) b
      go true h = zero_range n d
      go false h = let p = plus_sum k g v.1 in record { not_below = plus_not_below p; below = plus_below (suc n) d p h }

  of_rem : (r : Float) → HasValue r s rest f → Counts W r s units → IsModulo W a b (cond (lt r 0f) (wrapped b (add_at W r b)) r)
  unfolding lt
  of_rem nan v w = absurd v
  of_rem (inf t) v w = absurd v
  of_rem (fin false k g) v w = go (ltb (k * up g * 1) (0 * down g)) refl
    where
      none : (x y : ℕ) → ltb (x * 1) (0 * y) ≡ true → ⊥
      none x y h = let l = ltb-true (x * 1) (0 * y) h in let z = zero-mul y in omega arith

      go : (t : Bool) → ltb (k * up g * 1) (0 * down g) ≡ t → IsModulo W a b (cond t (wrapped b (add_at W (fin false k g) b)) (fin false k g))
      go true h = absurd (none (k * up g) (down g) h)
      go false h = of_plus k g v w
  of_rem (fin true k g) v w = go (ltb 0 (k * up g * 1 + 0 * down g)) refl
    where
      some : (x y : ℕ) → ltb 0 (x * 1 + 0 * y) ≡ true → 0 < x
      some x y h = let l = ltb-true 0 (x * 1 + 0 * y) h in let z = zero-mul y in omega arith

      none : (x y : ℕ) → ltb 0 (x * 1 + 0 * y) ≡ false → x ≡ 0
      none x y h = let l = ltb-false 0 (x * 1 + 0 * y) h in omega arith

      go : (t : Bool) → ltb 0 (k * up g * 1 + 0 * down g) ≡ t → IsModulo W a b (cond t (wrapped b (add_at W (fin true k g) b)) (fin true k g))
      go true h = of_minus k g (some (k * up g) (down g) h) v
      go false h = of_zero k g (zero_left k (up g) (up_pos g) (none (k * up g) (down g) h)) v w

  pub modulo_at_is : IsModulo W a b (modulo_at W a b)
  modulo_at_is = of_rem (rem_at W a b) (rem_value W s false m e n d A B) (rem_count W s false m e n d A B)

-- ---- the formats
pub rem_is_at : (F : Format) (a b : Float) → T (finite a) → T (finite b) → 0 < num b → rem F a b ≡ rem_at (width F) a b
unfolding rem
rem_is_at F nan b h k l = absurd h
rem_is_at F (inf s) b h k l = absurd h
rem_is_at F (fin s m e) nan h k l = absurd k
rem_is_at F (fin s m e) (inf t) h k l = absurd k
rem_is_at F (fin s m e) (fin t zero d) h k l = absurd (lt_irrefl 0 (lt_of_lt_of_le l (le_of_eq (zero-mul (up d)))))
rem_is_at F (fin s m e) (fin t (suc n) d) h k l = rw (eqb-suc-zero n) (round_is_at F s (m * up e * down d % (suc n * up d * down e)) (down e * down d))

pub add_is_at : (F : Format) (x y : Float) → T (finite x) → T (finite y) → add F x y ≡ add_at (width F) x y
add_is_at F x y h k =
    let n = signed (sign x) (num x * den y) +ℤ signed (sign y) (num y * den x) in
    add_is F x y h k ∙ round_is_at F (sign_of (sign x && sign y) n) (nat_abs n) (den x * den y)

value_finite : (y : Float) (s : Bool) (a c : ℕ) → HasValue y s a c → T (finite y)
value_finite nan s a c v = v
value_finite (inf t) s a c v = v
value_finite (fin t m e) s a c v = tt

module _ (F : Format) (s : Bool) (m : ℕ) (e : ℤ) (n : ℕ) (d : ℤ) (A : T (fits F (fin s m e))) (B : T (fits F (fin false (suc n) d))) where
  pub modulo_is_at : modulo F (fin s m e) (fin false (suc n) d) ≡ modulo_at (width F) (fin s m e) (fin false (suc n) d)
  modulo_is_at =
      let a = fin s m e in
      let b = fin false (suc n) d in
      let r = rem_at (width F) a b in
      let l = mul-pos (zero-lt-suc n) (up_pos d) in
      let v = rem_value (width F) s false m e n d (holds F s m e A) (holds F false (suc n) d B) in
      ap (λ (x : Float). cond (lt x 0f) (wrapped b (add F x b)) x) (rem_is_at F a b tt tt l)
      ∙ ap (λ (x : Float). cond (lt r 0f) (wrapped b x) r) (add_is_at F r b (value_finite r s (m * up e * down d % (suc n * up d * down e)) (down e * down d) v) tt)

  pub modulo_is : IsModulo (width F) (fin s m e) (fin false (suc n) d) (modulo F (fin s m e) (fin false (suc n) d))
  modulo_is =
      subst (λ (y : Float). IsModulo (width F) (fin s m e) (fin false (suc n) d) y) (sym modulo_is_at)
      (modulo_at_is (width F) s m e n d (holds F s m e A) (holds F false (suc n) d B))

-- the format holds the result
pub modulo_fits : (F : Format) (a b : Float) → T (fits F a) → T (fits F (modulo F a b))
modulo_fits F a b t =
    let r = rem F a b in
    let z : T (fits F 0f) = unfold fits in tt in
    cond-fits F (lt r 0f) (wrapped b (add F r b)) r (cond-fits F (le b (add F r b)) 0f (add F r b) z (add-fits F r b)) (rem-fits F a b t)

-- a finite a below 0 by an infinity
pub modulo_infinite : (F : Format) (s : Bool) (m : ℕ) (e : ℤ) → lt (fin s m e) 0f ≡ true → modulo F (fin s m e) (inf false) ≡ 0f
unfolding rem add le
modulo_infinite F s m e h = rw h
