-- What a format holds: values as fractions, whole numbers among them, and the sign.
use mathlib.Core.Path.{◌≡◌, refl, sym, ap, ap₂, ◌∙◌, subst}
use mathlib.Core.Bool.{Bool, false, not, ◌&&◌, cond}
use Prim.Native.Nat.{ℕ, zero, suc, ◌+◌, ◌-◌, ◌*◌, ◌/◌, ◌%◌, ◌^◌, ◌≤◌, ◌<◌}
use native.Mathlib.Nat.{lt_of_not-le, not-le_of_lt, le_of_eq, le_of_lt, lt_of_lt_of_le, lt_of_le_of_lt, lt_irrefl, zero-lt-suc, mul-one, one-mul, zero-mul, mul_assoc, mul_right_comm, mul-lt-mul_of_pos_right, lt_of_mul-lt-mul_right, eq_of_mul-eq-mul_right, mul-div_cancel, add_comm, pow-suc}
use native.Mathlib.Omega.{arith}
use borrow.Author.Tests.{lt-ltb}
use lib.Dec.{T, ltb, leb, eqb, ltb→lt, leb→le}
use lib.IntN.{ℤ, pos, negsuc}
use lib.Pow.{pow_pos, pow-add, pow-lt}
use lib.Ieee.{Float, nan, inf, fin, Format, binary32, binary64, prec, emax, low, hid, top, up, down, size, odd, units, round, fits, is_nan, of_bits, to_bits}
use lib.Ieee.Fits.{and_l, and_r, down_pos, odd-fits, round-fits}
use lib.Ieee.Bits.{of_bits-to_bits}
use lib.Ieee.Exact.{HasValue}
use lib.Ieee.Back.{whole_unique}
use Rattle.arithmetic.specs.Width.{Width, width, digits, least, past}
use Rattle.rounding.specs.Rounding.{Short, Size, Held, Counts, IsRounded, round_at}
use Rattle.rounding.specs.Exact.{sign}
use Rattle.rounding.proofs.Nearest.{past_short, round_at_rounded}
use Rattle.rounding.proofs.Rounded.{rounded_once, rounded_number, round_is_at, round_rounded}

-- ---- a value in units of the format's smallest: m * 2 ^ exponent
pub record Placed (l : ℕ) (e : ℤ) : Type 0 where
  pub exponent : ℕ
  pub same : up e * 2 ^ l ≡ 2 ^ exponent * down e

pub placed : (l : ℕ) (e : ℤ) → down e ≤ 2 ^ l → Placed l e
placed l (pos k) h = record { exponent = k + l; same = sym (pow-add 2 k l) ∙ sym (mul-one (2 ^ (k + l))) }
placed l (negsuc k) h = record { exponent = l - suc k; same = one-mul (2 ^ l) ∙ ap (λ (z : ℕ). 2 ^ z) back ∙ pow-add 2 (l - suc k) (suc k) }
  where
    some : suc k ≤ l
    some = lt_of_not-le (λ (g : l ≤ k). not-le_of_lt (pow-lt (below g)) h)
      where
        below : l ≤ k → l < suc k
        below g = omega arith

    back : l ≡ l - suc k + suc k
    back = let s = some in omega arith

-- ---- a number of a width, in units
pub record Units (W : Width) (m : ℕ) (e : ℤ) : Type 0 where
  pub units : ℕ
  pub same : m * up e * 2 ^ least W ≡ units * down e
  pub short : Short (digits W) units
  pub under : units < past W

pub held_units : (W : Width) (m : ℕ) (e : ℤ) → Held W m e → Units W m e
held_units W m e h =
    let x = placed (least W) e h.fine in
    let j = m * 2 ^ x.exponent in
    let same : m * up e * 2 ^ least W ≡ j * down e = mul_assoc m (up e) (2 ^ least W) ∙ ap (λ (z : ℕ). m * z) x.same ∙ sym (mul_assoc m (2 ^ x.exponent) (down e)) in
    record {
      units = j;
      same = same;
      short = record { digits = m; zeros = x.exponent; few = h.few; same = refl };
      under = lt_of_mul-lt-mul_right (down e) (lt_of_le_of_lt (le_of_eq (sym same)) (lt_of_lt_of_le (mul-lt-mul_of_pos_right h.range (pow_pos (least W))) (le_of_eq limit)));
    }
  where
    limit : 2 ^ suc W.power * down e * 2 ^ least W ≡ past W * down e
    limit = mul_right_comm (2 ^ suc W.power) (down e) (2 ^ least W) ∙ ap (λ (z : ℕ). z * down e) (sym (pow-add 2 (suc W.power) (least W)) ∙ ap (λ (z : ℕ). 2 ^ z) (add_comm (suc W.power) (least W)))

-- ---- a fraction that is a number of the width is what it rounds to
pub from_units : (W : Width) (y : Float) (s : Bool) (j a c : ℕ) → j < past W → a * 2 ^ least W ≡ j * c → Counts W y s j → HasValue y s a c
from_units W nan s j a c l e h = absurd h
from_units W (inf t) s j a c l e h = absurd (lt_irrefl j (lt_of_lt_of_le l (le_of_eq (sym h.1))))
from_units W (fin t m d) s j a c l e h = (
  h.0,
  eq_of_mul-eq-mul_right (2 ^ least W) (pow_pos (least W)) (m * up d * c) (a * down d)
      (mul_right_comm (m * up d) c (2 ^ least W) ∙ ap (λ (z : ℕ). z * c) h.1 ∙ mul_right_comm j (down d) c ∙ ap (λ (z : ℕ). z * down d) (sym e) ∙ mul_right_comm a (2 ^ least W) (down d)),
)

pub exact_at : (W : Width) (s : Bool) (a c j : ℕ) → 0 < c → Short (digits W) j → j < past W → a * 2 ^ least W ≡ j * c → HasValue (round_at W s a c) s a c
exact_at W s a c j C x l e =
    let r = round_at_rounded W s a c C in
    let i = rounded_number W s a c j (round_at W s a c) r C (record { short = x; within = le_of_lt l }) e in
    from_units W (round_at W s a c) s j a c l e (subst (λ (k : ℕ). Counts W (round_at W s a c) s k) i r.counts)

-- ---- what `fits` says of a number
fits_parts : (F : Format) (s : Bool) (m : ℕ) (e : ℤ) → T (fits F (fin s (suc m) e)) → (suc m < 2 ^ prec F) × (down e ≤ 2 ^ low F) × (suc m * up e < 2 ^ suc (emax F) * down e)
unfolding fits
fits_parts F s m e t =
    let p = eqb (suc m % 2) 1 in
    let q = ltb (suc m) (2 ^ prec F) in
    let r = leb (down e) (2 ^ low F) in
    let w = ltb (suc m * up e) (2 ^ suc (emax F) * down e) in (
      ltb→lt (suc m) (2 ^ prec F) (and_r p q (and_l (p && q) r (and_l (p && q && r) w t))),
      leb→le (down e) (2 ^ low F) (and_r (p && q) r (and_l (p && q && r) w t)),
      ltb→lt (suc m * up e) (2 ^ suc (emax F) * down e) (and_r (p && q && r) w t),
    )

pub fits_says : (F : Format) (s : Bool) (m : ℕ) (e : ℤ) → T (fits F (fin s (suc m) e)) → Held (width F) (suc m) e
fits_says binary32 s m e t = let h = fits_parts binary32 s m e t in record { few = h.0; fine = h.1; range = h.2 }
fits_says binary64 s m e t = let h = fits_parts binary64 s m e t in record { few = h.0; fine = h.1; range = h.2 }

-- a zero is written in one way
exponent : Float → ℤ
exponent nan = pos 0
exponent (inf s) = pos 0
exponent (fin s m e) = e

pub zero_exponent : (F : Format) (s : Bool) (e : ℤ) → T (fits F (fin s zero e)) → e ≡ pos 0
unfolding exponent
zero_exponent F s e t =
    let plain : T (fits F (fin s zero (pos 0))) = unfold fits in tt in
    ap exponent (whole_unique F (fin s zero e) (fin s zero (pos 0)) s 0 t plain (refl, none e) (refl, none (pos 0)))
  where
    none : (e : ℤ) → 0 * up e * 1 ≡ 0 * down e
    none e = mul-one (0 * up e) ∙ zero-mul (up e) ∙ sym (zero-mul (down e))

pub zero_held : (W : Width) → Held W 0 (pos 0)
zero_held W = record { few = pow_pos (digits W); fine = pow_pos (least W); range = lt_of_lt_of_le (pow_pos (suc W.power)) (le_of_eq (sym (mul-one (2 ^ suc W.power)))) }

pub holds : (F : Format) (s : Bool) (m : ℕ) (e : ℤ) → T (fits F (fin s m e)) → Held (width F) m e
holds F s zero e t = subst (λ (d : ℤ). Held (width F) 0 d) (sym (zero_exponent F s e t)) (zero_held (width F))
holds F s (suc m) e t = fits_says F s m e t

-- ---- the sizes of a width are those of the values that its format holds, infinities too
pub fits_size : (F : Format) (x : Float) → T (fits F x) → T (not (is_nan x)) → (j : ℕ) × Counts (width F) x (sign x) j × Size (width F) j
unfolding is_nan
fits_size F nan t h = absurd h
fits_size F (inf s) t h = (past (width F), (refl, refl), record { short = past_short (width F); within = le_of_eq refl })
fits_size F (fin s m e) t h = let u = held_units (width F) m e (holds F s m e t) in (u.units, (refl, u.same, u.under), record { short = u.short; within = le_of_lt u.under })

pub size_fits : (F : Format) (s : Bool) (j : ℕ) → Size (width F) j → (x : Float) × T (fits F x) × Counts (width F) x s j
size_fits F s j z =
    let c = 2 ^ least (width F) in
    let x = round F s j c in
    let r = round_rounded F s j c (pow_pos (least (width F))) in
    (x, round-fits F s j c, subst (λ (k : ℕ). Counts (width F) x s k) (rounded_number (width F) s j c j x r (pow_pos (least (width F))) z refl) r.counts)

-- ---- `units` fits
pub units_fits : (f : Format) (q k : ℕ) → q ≤ 2 ^ prec f → q * 2 ^ k < 2 ^ (low f + suc (emax f)) → T (fits f (units f false q k))
unfolding units
units_fits f q k a b =
    subst (λ (t : Bool). T (fits f (cond t (odd (suc (prec f)) false q k (low f)) (inf false)))) (sym (lt-ltb (q * 2 ^ k) (2 ^ (low f + suc (emax f))) b))
    (odd-fits f (suc (prec f)) false q k (lt_of_le_of_lt a (lt_pow (prec f))) a b)
  where
    lt_pow : (p : ℕ) → 2 ^ p < 2 ^ suc p
    lt_pow p = let e = pow-suc 2 p in let z = pow_pos p in omega arith

-- ---- a sign and a size make one value
-- its bits, by sign and units
abbrev bits_at : Format → Bool → ℕ → ℕ
bits_at F s j = cond s (top F) 0 + (size j - prec F) * hid F + j / 2 ^ (size j - prec F)

bits_count : (F : Format) (t s : Bool) (m : ℕ) (e : ℤ) (j : ℕ) → Counts (width F) (fin t m e) s j → to_bits F (fin t m e) ≡ bits_at F s j
unfolding to_bits
bits_count F t s m e j h = ap₂ (λ (u : Bool) (n : ℕ). bits_at F u n) h.0 (ap (λ (z : ℕ). z / down e) (ap (λ (l : ℕ). m * up e * 2 ^ l) (sym (least_is F)) ∙ h.1) ∙ mul-div_cancel j (down_pos e))
  where
    least_is : (F : Format) → least (width F) ≡ low F
    least_is binary32 = refl
    least_is binary64 = refl

pub one_value : (F : Format) (x y : Float) (s : Bool) (j : ℕ) → T (fits F x) → T (fits F y) → Counts (width F) x s j → Counts (width F) y s j → x ≡ y
one_value F nan y s j t u h k = absurd h
one_value F (inf a) nan s j t u h k = absurd k
one_value F (inf a) (inf b) s j t u h k = ap inf (h.0 ∙ sym k.0)
one_value F (inf a) (fin b n d) s j t u h k = absurd (lt_irrefl j (lt_of_lt_of_le k.2 (le_of_eq (sym h.1))))
one_value F (fin a m e) nan s j t u h k = absurd k
one_value F (fin a m e) (inf b) s j t u h k = absurd (lt_irrefl j (lt_of_lt_of_le h.2 (le_of_eq (sym k.1))))
one_value F (fin a m e) (fin b n d) s j t u h k =
    sym (of_bits-to_bits F (fin a m e) t) ∙ ap (of_bits F) (bits_count F a s m e j h ∙ sym (bits_count F b s n d j k)) ∙ of_bits-to_bits F (fin b n d) u

-- so what a fraction rounds to is one value
pub rounded_is : (F : Format) (s : Bool) (a c : ℕ) (y : Float) → 0 < c → T (fits F y) → IsRounded (width F) s a c y → y ≡ round F s a c
rounded_is F s a c y C t r =
    let q = round_rounded F s a c C in
    one_value F y (round F s a c) s q.units t (round-fits F s a c) (subst (λ (j : ℕ). Counts (width F) y s j) (rounded_once (width F) s s a c y (round F s a c) r q) r.counts) q.counts

-- ---- whole numbers
-- a whole value is what `round` gives at its number
pub round_of_whole : (F : Format) (s : Bool) (m k : ℕ) → T (fits F (fin s (suc m) (pos k))) → round F s (suc m * 2 ^ k) 1 ≡ fin s (suc m) (pos k)
round_of_whole F s m k t =
    let u = held_units (width F) (suc m) (pos k) (fits_says F s m (pos k) t) in
    let n = suc m * 2 ^ k in
    whole_unique F (round F s n 1) (fin s (suc m) (pos k)) s n (round-fits F s n 1) t
    (subst (λ (y : Float). HasValue y s n 1) (sym (round_is_at F s n 1)) (exact_at (width F) s n 1 u.units (zero-lt-suc 0) u.short u.under u.same))
    (refl, refl)
