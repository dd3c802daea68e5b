-- Floor and Ceil are the largest whole number not above and the least not below, for any width; and so they are in each format.
use mathlib.Core.Path.{◌≡◌, refl, sym, ap, ◌∙◌, subst}
use mathlib.Core.Bool.{Bool, true, false, not, cond, true≢false}
use Prim.Native.Nat.{ℕ, suc, ◌+◌, ◌*◌, ◌/◌, ◌%◌, ◌^◌, ◌≤◌, ◌<◌}
use native.Mathlib.Nat.{le_trans, le_of_eq, le_of_lt, lt_of_lt_of_le, zero-lt-suc, zero-mul, mul-one, mul-le-mul_left, mul-le-mul_right, le_of_mul-le-mul_right, lt_of_mul-lt-mul_right, div-mul-le_self, div-one, mod-one, le-div_iff_mul-le, div-add-mod', suc-mul, mod-lt, mul-mod_left, pow-suc}
use native.Mathlib.Omega.{arith}
use borrow.Author.Tests.{eqb-true, eqb-false, eq-eqb, ne_eqb}
use lib.Dec.{T, eqb, lit≤}
use lib.Arith.{le-zero}
use lib.Pow.{pow_pos, pow-add, pow_mono}
use lib.IntN.{ℤ, pos, negsuc}
use lib.Ieee.{Float, nan, inf, fin, Format, binary32, binary64, up, down, eq, le, neg, fits}
use lib.Ieee.Fits.{down_pos, nan-fits, inf-fits, round-fits}
use lib.Ieee.Exact.{HasValue}
use lib.Ieee.Positive.{num, den}
use Rattle.arithmetic.specs.Width.{Width, width, digits, least}
use Rattle.arithmetic.specs.Value.{finite, whole}
use Rattle.arithmetic.specs.Round.{floor_div, ceil_div, floor_by, ceil_by, floor, ceil}
use Rattle.rounding.specs.Rounding.{Held, Counts, round_at}
use Rattle.rounding.specs.Exact.{sign}
use Rattle.rounding.specs.Whole.{IsFloor, IsCeil, floor_at, ceil_at}
use Rattle.rounding.proofs.Nearest.{round_at_rounded}
use Rattle.rounding.proofs.Rounded.{rounded_number, round_is_at}
use Rattle.rounding.proofs.Small.{small}
use Rattle.rounding.proofs.Value.{Units, held_units, exact_at, holds}
use Rattle.rounding.proofs.Sign.{neg_neg, neg_round_at, ceil_neg_by}
use Rattle.rounding.proofs.Order.{same_test, eq_of_value, Le±, le_of_values±, values_of_le±, le_neg, zero_left}

-- ---- no fraction
floor_div_meets : (a c : ℕ) → eqb (floor_div a c * c) a ≡ eqb (a % c) 0
floor_div_meets a c = let e = div-add-mod' a c in same_test (a / c * c) a (a % c) 0 (λ h. omega arith) (λ h. omega arith)

ceil_div_meets : (a c : ℕ) → 0 < c → eqb (ceil_div a c * c) a ≡ eqb (a % c) 0
ceil_div_meets a c C = go (eqb (a % c) 0) refl
  where
    go : (t : Bool) → eqb (a % c) 0 ≡ t → eqb (cond t (a / c) (suc (a / c)) * c) a ≡ t
    go true h = floor_div_meets a c ∙ h
    go false h =
        let e = div-add-mod' a c in
        let m = suc-mul (a / c) c in
        let l = mod-lt a C in
        ne_eqb (suc (a / c) * c) a (λ z. omega arith)

-- ---- the largest whole number that is not above a / c, and the least that is not below it
floor_div_le : (a c : ℕ) → floor_div a c * c ≤ a
floor_div_le a c = div-mul-le_self a c

floor_div_greatest : (a c w : ℕ) → 0 < c → w * c ≤ a → w ≤ floor_div a c
floor_div_greatest a c w C h = (le-div_iff_mul-le C).1 h

ceil_div_ge : (a c : ℕ) → 0 < c → a ≤ ceil_div a c * c
ceil_div_ge a c C = go (eqb (a % c) 0) refl
  where
    go : (t : Bool) → eqb (a % c) 0 ≡ t → a ≤ cond t (a / c) (suc (a / c)) * c
    go true h = let e = div-add-mod' a c in let z = eqb-true (a % c) 0 h in omega arith
    go false h = let e = div-add-mod' a c in let m = suc-mul (a / c) c in let l = mod-lt a C in omega arith

ceil_div_least : (a c w : ℕ) → 0 < c → a ≤ w * c → ceil_div a c ≤ w
ceil_div_least a c w C h = go (eqb (a % c) 0) refl
  where
    go : (t : Bool) → eqb (a % c) 0 ≡ t → cond t (a / c) (suc (a / c)) ≤ w
    go true z = le_of_mul-le-mul_right (le_trans (div-mul-le_self a c) h) C
    go false z = lt_of_mul-lt-mul_right c (lt_of_lt_of_le (let e = div-add-mod' a c in let n = eqb-false (a % c) 0 z in some (a % c) n e) h)
      where
        some : (r : ℕ) → (r ≡ 0 → ⊥) → a / c * c + r ≡ a → a / c * c < a
        some r n e = omega arith

ceil_div_zero : (a c : ℕ) → 0 < c → a ≡ 0 → ceil_div a c ≡ 0
ceil_div_zero a c C z = le-zero (ceil_div_least a c 0 C (le_of_eq (z ∙ sym (zero-mul c))))

-- ---- what a value is, and what a whole one is
own : (s : Bool) (m : ℕ) (e : ℤ) → HasValue (fin s m e) s (m * up e) (down e)
own s m e = (refl, refl)

pub whole_of_value : (y : Float) (s : Bool) (q : ℕ) → HasValue y s q 1 → whole y ≡ true
unfolding whole
whole_of_value nan s q v = absurd v
whole_of_value (inf t) s q v = absurd v
whole_of_value (fin t n d) s q v = eq-eqb (n * up d % down d) 0 (ap (λ (z : ℕ). z % down d) (sym (mul-one (n * up d)) ∙ v.1) ∙ mul-mod_left q (down d))

-- a whole value's number
number : Float → ℕ
number nan = 0
number (inf s) = 0
number (fin s m e) = m * up e / down e

value_of_whole : (w : Float) → whole w ≡ true → HasValue w (sign w) (number w) 1
unfolding whole number
value_of_whole nan h = absurd (true≢false (sym h))
value_of_whole (inf s) h = absurd (true≢false (sym h))
value_of_whole (fin s m e) h =
    let z = eqb-true (m * up e % down e) 0 h in
    let d = div-add-mod' (m * up e) (down e) in
    (refl, mul-one (m * up e) ∙ omega arith)

-- ---- the whole part of a number of the width is one too, and so is the next whole number up where there is a fraction
pub ceil_div_one : (a : ℕ) → ceil_div a 1 ≡ a
ceil_div_one a = ap (λ (b : Bool). cond b (a / 1) (suc (a / 1))) (eq-eqb (a % 1) 0 (mod-one a)) ∙ div-one a

floor_div_le_ceil : (a c : ℕ) → 0 < c → floor_div a c ≤ ceil_div a c
floor_div_le_ceil a c C = le_of_mul-le-mul_right (le_trans (floor_div_le a c) (ceil_div_ge a c C)) C

-- a number without a fraction is a whole number of the width
own_units : (W : Width) (m k : ℕ) → Units W m (pos k) → Units W (m * 2 ^ k) (pos 0)
own_units W m k u = record { units = u.units; same = ap (λ (x : ℕ). x * 2 ^ least W) (mul-one (m * 2 ^ k)) ∙ u.same; short = u.short; under = u.under }

fraction_small : (W : Width) (m k : ℕ) → Held W m (negsuc k) → ceil_div (m * 1) (2 ^ suc k) ≤ 2 ^ W.fraction
fraction_small W m k h =
    ceil_div_least (m * 1) (2 ^ suc k) (2 ^ W.fraction) (pow_pos (suc k))
    (le_trans (le_of_eq (mul-one m)) (le_trans (le_of_lt h.few) (le_trans (pow_mono {i = digits W} {j = W.fraction + suc k} (omega arith)) (le_of_eq (pow-add 2 W.fraction (suc k))))))

ceil_units : (W : Width) → W.fraction ≤ W.power → (m : ℕ) (e : ℤ) → Held W m e → Units W (ceil_div (m * up e) (down e)) (pos 0)
ceil_units W wide m (pos k) h = subst (λ (q : ℕ). Units W q (pos 0)) (sym (ceil_div_one (m * 2 ^ k))) (own_units W m k (held_units W m (pos k) h))
ceil_units W wide m (negsuc k) h = small W wide (ceil_div (m * 1) (2 ^ suc k)) (fraction_small W m k h)

floor_units : (W : Width) → W.fraction ≤ W.power → (m : ℕ) (e : ℤ) → Held W m e → Units W (floor_div (m * up e) (down e)) (pos 0)
floor_units W wide m (pos k) h = subst (λ (q : ℕ). Units W q (pos 0)) (sym (div-one (m * 2 ^ k))) (own_units W m k (held_units W m (pos k) h))
floor_units W wide m (negsuc k) h = small W wide (floor_div (m * 1) (2 ^ suc k)) (le_trans (floor_div_le_ceil (m * 1) (2 ^ suc k) (pow_pos (suc k))) (fraction_small W m k h))

-- rounding changes nothing of it
plain : (W : Width) (q : ℕ) (u : Units W q (pos 0)) → q * 2 ^ least W ≡ u.units * 1
plain W q u = ap (λ (x : ℕ). x * 2 ^ least W) (sym (mul-one q)) ∙ u.same

units_value : (W : Width) (s : Bool) (q : ℕ) → Units W q (pos 0) → HasValue (round_at W s q 1) s q 1
units_value W s q u = exact_at W s q 1 u.units (zero-lt-suc 0) u.short u.under (plain W q u)

units_count : (W : Width) (s : Bool) (q : ℕ) (u : Units W q (pos 0)) → Counts W (round_at W s q 1) s u.units
units_count W s q u =
    let r = round_at_rounded W s q 1 (zero-lt-suc 0) in
    let i = rounded_number W s q 1 u.units (round_at W s q 1) r (zero-lt-suc 0) (record { short = u.short; within = le_of_lt u.under }) (plain W q u) in
    subst (λ (j : ℕ). Counts W (round_at W s q 1) s j) i r.counts

-- ---- Floor
-- the magnitude of the floor of ±a / c
floored : Bool → ℕ → ℕ → ℕ
floored true a c = ceil_div a c
floored false a c = floor_div a c

floored_below : (s : Bool) (a c : ℕ) → 0 < c → Le± s (floored s a c * c) s (a * 1)
unfolding floored
floored_below true a c C = le_trans (le_of_eq (mul-one a)) (ceil_div_ge a c C)
floored_below false a c C = le_trans (floor_div_le a c) (le_of_eq (sym (mul-one a)))

floored_largest : (s t : Bool) (a c w : ℕ) → 0 < c → Le± t (w * c) s (a * 1) → Le± t (w * 1) s (floored s a c * 1)
unfolding floored
floored_largest false false a c w C h = mul-le-mul_right 1 (floor_div_greatest a c w C (le_trans h (le_of_eq (mul-one a))))
floored_largest false true a c w C h = tt
floored_largest true false a c w C h = (mul-one w ∙ zero_left w c C h.0, mul-one (ceil_div a c) ∙ ceil_div_zero a c C (sym (mul-one a) ∙ h.1))
floored_largest true true a c w C h = mul-le-mul_right 1 (ceil_div_least a c w C (le_trans (le_of_eq (sym (mul-one a))) h))

module _ (W : Width) (wide : W.fraction ≤ W.power) where
  floored_units : (s : Bool) (m : ℕ) (e : ℤ) → Held W m e → Units W (floored s (m * up e) (down e)) (pos 0)
  unfolding floored
  floored_units true m e h = ceil_units W wide m e h
  floored_units false m e h = floor_units W wide m e h

  floored_is : (s : Bool) (m : ℕ) (e : ℤ) → floor_at W (fin s m e) ≡ round_at W s (floored s (m * up e) (down e)) 1
  unfolding floored
  floored_is true m e = refl
  floored_is false m e = refl

  floor_value : (s : Bool) (m : ℕ) (e : ℤ) → Held W m e → HasValue (floor_at W (fin s m e)) s (floored s (m * up e) (down e)) 1
  floor_value s m e h =
      let q = floored s (m * up e) (down e) in
      subst (λ (y : Float). HasValue y s q 1) (sym (floored_is s m e)) (units_value W s q (floored_units s m e h))

  pub floor_at_is : (s : Bool) (m : ℕ) (e : ℤ) → Held W m e → IsFloor W (fin s m e) (floor_at W (fin s m e))
  floor_at_is s m e h =
      let a = m * up e in
      let c = down e in
      let y = floor_at W (fin s m e) in
      let q = floored s a c in
      let v = floor_value s m e h in
      let n = floored_units s m e h in
      record {
        units = n.units;
        counts = subst (λ (z : Float). Counts W z s n.units) (sym (floored_is s m e)) (units_count W s q n);
        number = record { short = n.short; within = le_of_lt n.under };
        is_whole = whole_of_value y s q v;
        not_above = le_of_values± y (fin s m e) s s q 1 a c (zero-lt-suc 0) (down_pos e) v (own s m e) (floored_below s a c (down_pos e));
        largest = λ w i l.
            let u = value_of_whole w i in
            le_of_values± w y (sign w) s (number w) 1 q 1 (zero-lt-suc 0) (zero-lt-suc 0) u v
            (floored_largest s (sign w) a c (number w) (down_pos e) (values_of_le± w (fin s m e) (sign w) s (number w) 1 a c (zero-lt-suc 0) (down_pos e) u (own s m e) l));
      }

  -- a number is whole where it is its own floor
  whole_is_at : (s : Bool) (m : ℕ) (e : ℤ) → Held W m e → eq (floor_at W (fin s m e)) (fin s m e) ≡ whole (fin s m e)
  unfolding whole floored
  whole_is_at true m e h = eq_of_value (floor_at W (fin true m e)) true (ceil_div (m * up e) (down e)) m e (floor_value true m e h) ∙ ceil_div_meets (m * up e) (down e) (down_pos e)
  whole_is_at false m e h = eq_of_value (floor_at W (fin false m e)) false (floor_div (m * up e) (down e)) m e (floor_value false m e h) ∙ floor_div_meets (m * up e) (down e)

-- ---- Ceil, as Floor of the negated value, negated
whole_neg : (x : Float) → whole (neg x) ≡ whole x
unfolding whole neg
whole_neg nan = refl
whole_neg (inf s) = refl
whole_neg (fin s m e) = refl

counts_neg : (W : Width) (y : Float) (s : Bool) (j : ℕ) → Counts W y (not s) j → Counts W (neg y) s j
unfolding neg
counts_neg W nan s j h = h
counts_neg W (inf t) true j h = (ap not h.0, h.1)
counts_neg W (inf t) false j h = (ap not h.0, h.1)
counts_neg W (fin t m e) true j h = (ap not h.0, h.1, h.2)
counts_neg W (fin t m e) false j h = (ap not h.0, h.1, h.2)

negated : (W : Width) (s : Bool) (m : ℕ) (e : ℤ) (y : Float) → IsFloor W (fin (not s) m e) y → IsCeil W (fin s m e) (neg y)
unfolding neg
negated W s m e y f =
    let x = fin s m e in
    record {
      units = f.units;
      counts = counts_neg W y s f.units f.counts;
      number = f.number;
      is_whole = whole_neg y ∙ f.is_whole;
      not_below = subst (λ (z : Float). T (le z (neg y))) (neg_neg x) (le_neg y (neg x) f.not_above);
      least = λ w i l. subst (λ (z : Float). T (le (neg y) z)) (neg_neg w) (le_neg (neg w) y (f.largest (neg w) (whole_neg w ∙ i) (le_neg x w l)));
    }

pub ceil_at_is : (W : Width) → W.fraction ≤ W.power → (s : Bool) (m : ℕ) (e : ℤ) → Held W m e → IsCeil W (fin s m e) (ceil_at W (fin s m e))
unfolding neg
ceil_at_is W wide s m e h =
    subst (λ (y : Float). IsCeil W (fin s m e) y) (ceil_neg_by (round_at W) (neg_round_at W) (fin s m e)) (negated W s m e (floor_at W (fin (not s) m e)) (floor_at_is W wide (not s) m e h))

-- ---- the formats
wide : (F : Format) → (width F).fraction ≤ (width F).power
wide binary32 = lit≤ tt
wide binary64 = lit≤ tt

pub floor_is_at : (F : Format) (x : Float) → floor F x ≡ floor_at (width F) x
unfolding floor
floor_is_at F x = ap (λ (r : Bool → ℕ → ℕ → Float). floor_by r x) (λ i s a c. round_is_at F s a c i)

pub ceil_is_at : (F : Format) (x : Float) → ceil F x ≡ ceil_at (width F) x
unfolding ceil
ceil_is_at F x = ap (λ (r : Bool → ℕ → ℕ → Float). ceil_by r x) (λ i s a c. round_is_at F s a c i)

pub floor_is : (F : Format) (x : Float) → T (fits F x) → T (finite x) → IsFloor (width F) x (floor F x)
floor_is F nan t h = absurd h
floor_is F (inf s) t h = absurd h
floor_is F (fin s m e) t h = subst (λ (y : Float). IsFloor (width F) (fin s m e) y) (sym (floor_is_at F (fin s m e))) (floor_at_is (width F) (wide F) s m e (holds F s m e t))

pub ceil_is : (F : Format) (x : Float) → T (fits F x) → T (finite x) → IsCeil (width F) x (ceil F x)
ceil_is F nan t h = absurd h
ceil_is F (inf s) t h = absurd h
ceil_is F (fin s m e) t h = subst (λ (y : Float). IsCeil (width F) (fin s m e) y) (sym (ceil_is_at F (fin s m e))) (ceil_at_is (width F) (wide F) s m e (holds F s m e t))

pub whole_is : (F : Format) (x : Float) → T (fits F x) → finite x ≡ true → eq (floor F x) x ≡ whole x
whole_is F nan t h = absurd (true≢false (sym h))
whole_is F (inf s) t h = absurd (true≢false (sym h))
whole_is F (fin s m e) t h = ap (λ (y : Float). eq y (fin s m e)) (floor_is_at F (fin s m e)) ∙ whole_is_at (width F) (wide F) s m e (holds F s m e t)

pub floor_fits : (F : Format) (x : Float) → T (fits F (floor F x))
unfolding floor
floor_fits F nan = nan-fits F
floor_fits F (inf s) = inf-fits F s
floor_fits F (fin true m e) = round-fits F true (ceil_div (m * up e) (down e)) 1
floor_fits F (fin false m e) = round-fits F false (floor_div (m * up e) (down e)) 1

pub ceil_fits : (F : Format) (x : Float) → T (fits F (ceil F x))
unfolding ceil
ceil_fits F nan = nan-fits F
ceil_fits F (inf s) = inf-fits F s
ceil_fits F (fin true m e) = round-fits F true (floor_div (m * up e) (down e)) 1
ceil_fits F (fin false m e) = round-fits F false (ceil_div (m * up e) (down e)) 1

-- ---- values that have no digit after the point: f64 from 2 ^ 52 on
large_at : (W : Width) (s : Bool) (m : ℕ) (e : ℤ) → Held W m e → 2 ^ W.fraction * down e ≤ m * up e → whole (fin s m e) ≡ true
unfolding whole
large_at W s m (pos k) H h = eq-eqb (m * 2 ^ k % 1) 0 (mod-one (m * 2 ^ k))
large_at W s m (negsuc k) H h =
    let a : 2 ^ W.fraction * 2 ≤ 2 ^ W.fraction * 2 ^ suc k = mul-le-mul_left (2 ^ W.fraction) (pow_mono {i = 1} {j = suc k} (omega arith)) in
    absurd (omega (arith, H.few, pow-suc 2 W.fraction, mul-one m))

pub large_whole : (F : Format) (x : Float) → T (fits F x) → finite x ≡ true → 2 ^ (width F).fraction * den x ≤ num x → whole x ≡ true
large_whole F nan t f h = absurd (true≢false (sym f))
large_whole F (inf s) t f h = absurd (true≢false (sym f))
large_whole F (fin s m e) t f h = large_at (width F) s m e (holds F s m e t) h
