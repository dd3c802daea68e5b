-- What follows of a rounded result: there is one only, a number rounds to itself, and the infinities begin half way past the largest number.
-- And that the toolchain's `round` at a format is `round_at` at its width.
use mathlib.Core.Path.{◌≡◌, refl, sym, ap, ap₂, ◌∙◌, subst}
use mathlib.Core.Logic.{◌⊎◌, inl, inr, ◌↔◌}
use mathlib.Core.Bool.{Bool, cond}
use Prim.Native.Nat.{ℕ, suc, ◌+◌, ◌-◌, ◌*◌, ◌/◌, ◌%◌, ◌^◌, ◌≤◌, ◌<◌, compare, Ordering}
use native.Mathlib.Nat.{le_trans, le_of_eq, le_antisymm, lt_of_lt_of_le, lt_of_not-le, not-le_of_lt, zero-lt-suc, lt_irrefl, mul_assoc, mul_comm, mul_right_comm, mul-sub, mul-le-mul_right, le_of_mul-le-mul_right, mul-lt-mul_of_pos_right, eq_of_mul-eq-mul_right, add-mul, one-mul, div-add-mod', pow-succ', eq-or-lt_of_le}
use native.Mathlib.Decide.{dec_le, ℕ_discrete}
use native.Mathlib.Omega.{arith}
use borrow.Author.Tests.{le-leb, lt-leb, le-ltb, lt-ltb}
use lib.Dec.{leb, ltb}
use lib.Pow.{pow_pos, pow-add}
use lib.Ieee.{Float, nan, inf, fin, Format, binary32, binary64, size, nearest, odd, units, round}
use lib.Ieee.Fits.{core, round_is}
use Rattle.arithmetic.specs.Width.{Width, width, digits, least, past, of_units}
use Rattle.rounding.specs.Rounding.{Short, Size, largest, Counts, distance, off, IsRounded, round_at}
use Rattle.rounding.proofs.Digits.{less, more, same}
use Rattle.rounding.proofs.Neighbours.{next}
use Rattle.rounding.proofs.Nearest.{past_short, round_at_rounded}

-- ---- one result only
-- two numbers can't both be an even number of times the gap between them
both_even : (x y h i : ℕ) → (x ≡ y → ⊥) → x ≡ 2 * h * distance x y → y ≡ 2 * i * distance y x → ⊥
both_even x y h i d a b = go (dec_le x y)
  where
    two : (h g : ℕ) → 2 * h * g ≡ 2 * (h * g)
    two h g = mul_assoc 2 h g

    steps : (x y h i g : ℕ) → 0 < g → x + g ≡ y → x ≡ 2 * h * g → y ≡ 2 * i * g → ⊥
    steps x y h i g G e a b = pick (dec_le i h)
      where
        pick : Dec (i ≤ h) → ⊥
        pick (yes l) = let m = mul-le-mul_right g l in let s = two h g in let t = two i g in omega arith
        pick (no f) =
            let m : (h + 1) * g ≤ i * g = mul-le-mul_right g (omega arith) in
            let r = add-mul h 1 g ∙ ap (λ (z : ℕ). h * g + z) (one-mul g) in
            let s = two h g in
            let t = two i g in
            omega arith

    turn : (x y : ℕ) → distance y x ≡ distance x y
    turn x y = omega arith

    go : Dec (x ≤ y) → ⊥
    go (yes l) = steps x y h i (distance x y) (omega arith) (omega arith) a (b ∙ ap (λ (z : ℕ). 2 * i * z) (turn x y))
    go (no f) = steps y x i h (distance y x) (omega arith) (omega arith) b (a ∙ ap (λ (z : ℕ). 2 * h * z) (turn y x))

pub rounded_once : (W : Width) (s t : Bool) (a c : ℕ) (y z : Float) (r : IsRounded W s a c y) (q : IsRounded W t a c z) → r.units ≡ q.units
rounded_once W s t a c y z r q = go (ℕ_discrete r.units q.units)
  where
    go : Dec (r.units ≡ q.units) → r.units ≡ q.units
    go (yes e) = e
    go (no d) =
        let e = le_antisymm (r.closest q.units q.number) (q.closest r.units r.number) in
        let h = r.even q.units q.number (λ i. d (sym i)) e in
        let i = q.even r.units r.number d (sym e) in
        absurd (both_even r.units q.units h.0 i.0 d h.1 i.1)

-- ---- what is a number rounds to itself
pub rounded_number : (W : Width) (s : Bool) (a c j : ℕ) (y : Float) (r : IsRounded W s a c y) → 0 < c → Size W j → a * 2 ^ least W ≡ j * c → r.units ≡ j
rounded_number W s a c j y r C z e =
    let l = r.closest j z in
    eq_of_mul-eq-mul_right c C r.units j (plain (r.units * c) (a * 2 ^ least W) (j * c) e l)
  where
    plain : (x n y : ℕ) → n ≡ y → distance x n ≤ distance y n → x ≡ y
    plain x n y e l = omega arith

-- ---- only the fraction counts, not how it is written
times : (x y k : ℕ) → distance (x * k) (y * k) ≡ distance x y * k
times x y k = ap₂ (λ (a b : ℕ). a + b) (less_times x y) (less_times y x) ∙ sym (add-mul (x - y) (y - x) k)
  where
    less_times : (x y : ℕ) → x * k - y * k ≡ (x - y) * k
    less_times x y = ap₂ (λ (a b : ℕ). a - b) (mul_comm x k) (mul_comm y k) ∙ sym (mul-sub k x y) ∙ mul_comm k (x - y)

off_times : (W : Width) (a c b d j : ℕ) → a * d ≡ b * c → off W b d j * c ≡ off W a c j * d
off_times W a c b d j e =
    sym (times (j * d) (b * 2 ^ least W) c)
    ∙ ap₂ (λ (x y : ℕ). distance x y) (mul_right_comm j d c) (mul_right_comm b (2 ^ least W) c ∙ ap (λ (x : ℕ). x * 2 ^ least W) (sym e) ∙ mul_right_comm a d (2 ^ least W))
    ∙ times (j * c) (a * 2 ^ least W) d

pub rescaled : (W : Width) (s : Bool) (a c b d : ℕ) (y : Float) → 0 < c → 0 < d → a * d ≡ b * c → IsRounded W s a c y → IsRounded W s b d y
rescaled W s a c b d y C D e r = record {
  units = r.units;
  counts = r.counts;
  number = r.number;
  closest = λ j z. le_of_mul-le-mul_right (le_trans (le_of_eq (off_times W a c b d r.units e)) (le_trans (mul-le-mul_right d (r.closest j z)) (le_of_eq (sym (off_times W a c b d j e))))) C;
  even = λ j z n i.
      r.even j z n (eq_of_mul-eq-mul_right d D (off W a c r.units) (off W a c j) (sym (off_times W a c b d r.units e) ∙ ap (λ (x : ℕ). x * c) i ∙ off_times W a c b d j e));
}

-- ---- from half way between the largest number and 2 ^ (power + 1) on, and only from there, the result is infinite
abbrev top : Width → ℕ
top W = 2 ^ (least W + W.power - W.fraction)

past_is : (W : Width) → 1 ≤ W.power → past W ≡ 2 ^ digits W * top W
past_is W h = ap (λ (x : ℕ). 2 ^ x) exponents ∙ pow-add 2 (digits W) (least W + W.power - W.fraction)
  where
    exponents : least W + suc W.power ≡ digits W + (least W + W.power - W.fraction)
    exponents = omega arith

largest_next : (W : Width) → 1 ≤ W.power → largest W + top W ≡ past W
largest_next W h =
    let l = pow_pos (digits W) in
    let e : 2 ^ digits W ≡ 2 ^ digits W - 1 + 1 = omega arith in
    sym (past_is W h ∙ ap (λ (x : ℕ). x * top W) e ∙ add-mul (2 ^ digits W - 1) 1 (top W) ∙ ap (λ (x : ℕ). largest W + x) (one-mul (top W)))

pub largest_short : (W : Width) → Short (digits W) (largest W)
largest_short W = record { digits = 2 ^ digits W - 1; zeros = least W + W.power - W.fraction; few = let l = pow_pos (digits W) in omega arith; same = refl }

pub largest_number : (W : Width) → 1 ≤ W.power → Size W (largest W)
largest_number W h = record { short = largest_short W; within = let e = largest_next W h in omega arith }

pub largest_is : (W : Width) → 1 ≤ W.power → (j : ℕ) → Short (digits W) j → j < past W → j ≤ largest W
largest_is W h j s l = go (dec_le j (largest W))
  where
    full : 2 ^ (digits W - 1) ≤ 2 ^ digits W - 1
    full =
        let z : 2 ^ (digits W - 1) ≡ 2 ^ W.fraction = ap (λ (x : ℕ). 2 ^ x) one_less in
        let e = pow-succ' 2 W.fraction in
        let l = pow_pos W.fraction in
        omega arith
      where
        one_less : digits W - 1 ≡ W.fraction
        one_less = omega arith

    go : Dec (j ≤ largest W) → j ≤ largest W
    go (yes g) = g
    go (no f) =
        let r = next (digits W) (2 ^ digits W - 1) (least W + W.power - W.fraction) (zero-lt-suc W.fraction) (inr full) j s (lt_of_not-le f) in
        let e = largest_next W h in
        let t = add-mul (2 ^ digits W - 1) 1 (top W) ∙ ap (λ (x : ℕ). largest W + x) (one-mul (top W)) in
        absurd (not-le_of_lt l (omega arith))

infinite_units : (W : Width) (y : Float) (s : Bool) (j : ℕ) → Counts W y s j → (y ≡ inf s) ↔ (j ≡ past W)
infinite_units W nan s j h = absurd h
infinite_units W (inf t) s j h = ((λ e. h.1), (λ e. ap inf h.0))
infinite_units W (fin t m e) s j h = ((λ i. absurd (subst finite i tt)), (λ i. absurd (lt_irrefl j (lt_of_lt_of_le h.2 (le_of_eq (sym i))))))
  where
    finite : Float → Type 0
    finite nan = ⊥
    finite (inf t) = ⊥
    finite (fin t m e) = Unit

-- twice n against x and y: n is nearer to y, or to u below x
nearer_past : (x y n : ℕ) → x < y → distance y n ≤ distance x n → x + y ≤ 2 * n
nearer_past x y n l h = omega arith

nearer_below : (u x y n : ℕ) → u ≤ x → x < y → x + y ≤ 2 * n → distance u n ≤ distance y n → (u ≡ x) × (distance u n ≡ distance y n)
nearer_below u x y n a l g h = go (dec_le y n)
  where
    go : Dec (y ≤ n) → (u ≡ x) × (distance u n ≡ distance y n)
    go (yes i) = absurd (none (distance u n) (distance y n) h (under u n (omega arith)) (under y n i))
      where
        under : (x n : ℕ) → x ≤ n → distance x n + x ≡ n
        under x n h = omega arith

        none : (d e : ℕ) → d ≤ e → d + u ≡ n → e + y ≡ n → ⊥
        none d e h i j = omega arith
    go (no f) = (omega arith, omega arith)

-- the largest number is no even number of times the gap above it
odd_largest : (W : Width) (half : ℕ) → 1 ≤ W.power → largest W ≡ 2 * half * distance (largest W) (past W) → ⊥
odd_largest W half h e =
    let g : distance (largest W) (past W) ≡ top W = let n = largest_next W h in omega arith in
    let f : 2 ^ digits W - 1 ≡ 2 * half = eq_of_mul-eq-mul_right (top W) (pow_pos (least W + W.power - W.fraction)) (2 ^ digits W - 1) (2 * half) (e ∙ ap (λ (x : ℕ). 2 * half * x) g) in
    let t = pow-succ' 2 W.fraction in
    let l = pow_pos W.fraction in
    omega arith

pub infinite_from : (W : Width) (s : Bool) (a c : ℕ) (y : Float) → 0 < c → 1 ≤ W.power → IsRounded W s a c y → (y ≡ inf s) ↔ ((largest W + past W) * c ≤ 2 * (a * 2 ^ least W))
infinite_from W s a c y C E r = ((λ i. only (ends.0 i)), (λ l. ends.1 (from l (eq-or-lt_of_le r.number.within))))
  where
    ends : (y ≡ inf s) ↔ (r.units ≡ past W)
    ends = infinite_units W y s r.units r.counts

    below : largest W * c < past W * c
    below = mul-lt-mul_of_pos_right (let e = largest_next W E in let l = pow_pos (least W + W.power - W.fraction) in omega arith) C

    only : r.units ≡ past W → (largest W + past W) * c ≤ 2 * (a * 2 ^ least W)
    only i = le_trans (le_of_eq (add-mul (largest W) (past W) c))
        (nearer_past (largest W * c) (past W * c) (a * 2 ^ least W) below (subst (λ (x : ℕ). off W a c x ≤ off W a c (largest W)) i (r.closest (largest W) (largest_number W E))))

    from : (largest W + past W) * c ≤ 2 * (a * 2 ^ least W) → (r.units ≡ past W) ⊎ (r.units < past W) → r.units ≡ past W
    from l (inl i) = i
    from l (inr g) =
        let m = largest_is W E r.units r.number.short g in
        let p : Size W (past W) = record { short = past_short W; within = le_of_eq refl } in
        let t = nearer_below (r.units * c) (largest W * c) (past W * c) (a * 2 ^ least W) (mul-le-mul_right c m) below (le_trans (le_of_eq (sym (add-mul (largest W) (past W) c))) l) (r.closest (past W) p) in
        let i : r.units ≡ largest W = eq_of_mul-eq-mul_right c C r.units (largest W) t.0 in
        let h = r.even (past W) p (λ j. lt_irrefl r.units (lt_of_lt_of_le g (le_of_eq j))) t.1 in
        absurd (odd_largest W h.0 E (subst (λ (x : ℕ). x ≡ 2 * h.0 * distance x (past W)) i h.1))

-- ---- the formats
turned : (x y : Float) (a b : ℕ) → cond (leb b a) x y ≡ cond (ltb a b) y x
turned x y a b = go (dec_le b a)
  where
    go : Dec (b ≤ a) → cond (leb b a) x y ≡ cond (ltb a b) y x
    go (yes h) = rw (le-leb b a h, le-ltb a b h)
    go (no f) = let l = lt_of_not-le f in rw (lt-leb b a l, lt-ltb a b l)

pub units_are : (F : Format) (s : Bool) (q k : ℕ) → of_units (width F) s q k ≡ units F s q k
unfolding of_units units
units_are binary32 s q k = turned (inf s) (odd 25 s q k 149) (q * 2 ^ k) (2 ^ 277)
units_are binary64 s q k = turned (inf s) (odd 54 s q k 1074) (q * 2 ^ k) (2 ^ 2098)

shifted : (a b z x y : ℕ) → x ≡ z + a → y ≡ z + b → compare a b ≡ compare x y
shifted a b z x y e f = go (dec_le (suc a) b) (dec_le (suc b) a)
  where
    go : Dec (suc a ≤ b) → Dec (suc b ≤ a) → compare a b ≡ compare x y
    go (yes l) d = less a b l ∙ sym (less x y (omega arith))
    go (no g) (yes l) = more a b l ∙ sym (more x y (omega arith))
    go (no g) (no h) = same a b (omega arith) ∙ sym (same x y (omega arith))

halves : (n u : ℕ) → compare (n % u * 2) u ≡ compare (2 * n) ((2 * (n / u) + 1) * u)
halves n u =
    let d = div-add-mod' n u in
    let e : (2 * (n / u) + 1) * u ≡ 2 * (n / u * u) + u = add-mul (2 * (n / u)) 1 u ∙ ap (λ (x : ℕ). x + 1 * u) (mul_assoc 2 (n / u) u) ∙ ap (λ (x : ℕ). 2 * (n / u * u) + x) (one-mul u) in
    shifted (n % u * 2) u (2 * (n / u * u)) (2 * n) ((2 * (n / u) + 1) * u) (omega arith) e

-- the same from n on, with the digits p and the units as they come
from_n : (F : Format) (s : Bool) (n c k : ℕ) → core F s n c k ≡ of_units (width F) s (nearest (n / (c * 2 ^ k)) (compare (2 * n) ((2 * (n / (c * 2 ^ k)) + 1) * (c * 2 ^ k)))) k
from_n F s n c k =
    let u = c * 2 ^ k in
    ap (λ (o : Ordering). units F s (nearest (n / u) o) k) (halves n u)
    ∙ sym (units_are F s (nearest (n / u) (compare (2 * n) ((2 * (n / u) + 1) * u))) k)

pub round_is_at : (F : Format) (s : Bool) (a c : ℕ) → round F s a c ≡ round_at (width F) s a c
unfolding round_at
round_is_at binary32 s a c = round_is binary32 s a c ∙ from_n binary32 s (a * 2 ^ 149) c (size (a * 2 ^ 149 / c) - 24)
round_is_at binary64 s a c = round_is binary64 s a c ∙ from_n binary64 s (a * 2 ^ 1074) c (size (a * 2 ^ 1074 / c) - 53)

-- "each operation rounds once": the toolchain's `round` is to the nearest number of the format, ties to even
pub round_rounded : (F : Format) (s : Bool) (a c : ℕ) → 0 < c → IsRounded (width F) s a c (round F s a c)
round_rounded F s a c C = subst (λ (y : Float). IsRounded (width F) s a c y) (sym (round_is_at F s a c)) (round_at_rounded (width F) s a c C)
