-- "Each operation rounds once": Add, Subtract, Multiply and Divide of finite values are the exact result, rounded once. Nothing is fused: a product that is then
-- added to is `add F (mul F x y) z`, two operations and two roundings.
use mathlib.Core.Path.{◌≡◌, refl, sym, ap, ap₂, ◌∙◌, subst}
use mathlib.Core.Bool.{Bool, true, false, not, ◌&&◌, cond}
use Prim.Native.Nat.{ℕ, zero, suc, ◌+◌, ◌-◌, ◌*◌, ◌^◌, ◌≤◌, ◌<◌, zero-le}
use native.Mathlib.Nat.{mul-pos, zero-mul, le_trans, le_of_lt, lt_of_not-le, lt_irrefl, lt_of_lt_of_le, le_of_eq}
use native.Mathlib.Decide.{dec_le}
use native.Mathlib.Omega.{arith}
use borrow.Author.Tests.{ltb-true, ltb-false}
use lib.Dec.{T, ltb, eqb-suc-zero}
use lib.IntN.{ℤ, pos, neg_ℤ, nat_abs, neg_ℤ-neg_ℤ, ◌+ℤ◌, ◌-ℤ◌, pos-+ℤ-pos, neg_ℤ-+ℤ, +ℤ_comm, +ℤ-neg_ℤ_cancel}
use lib.Pow.{pow_pos}
use lib.Ieee.{Float, nan, inf, fin, Format, up, down, unlike, round, neg, sum, add, sub, mul, div}
use lib.Ieee.Scale.{finite}
use lib.Ieee.Fits.{down_pos}
use lib.Ieee.Positive.{num, den, den_pos}
use Rattle.arithmetic.specs.Width.{Width, width, digits, least}
use Rattle.arithmetic.proofs.Integers.{nat_abs_neg}
use Rattle.arithmetic.proofs.Wholes.{size_back}
use Rattle.rounding.specs.Rounding.{Size, distance, off, IsRounded}
use Rattle.rounding.specs.Exact.{sign, signed, sign_of, RoundsTo, off±}
use Rattle.rounding.proofs.Rounded.{round_rounded}

-- ---- a sign and a size, as a whole number
pub sign_back : (z s : Bool) (k : ℕ) → (k ≡ 0 → s ≡ z) → sign_of z (signed s k) ≡ s
sign_back z s zero h = zeros s (h refl)
  where
    zeros : (s : Bool) → s ≡ z → sign_of z (signed s 0) ≡ s
    zeros false e = sym e
    zeros true e = sym e
sign_back z false (suc k) h = refl
sign_back z true (suc k) h = refl

as_whole : (F : Format) (a : ℤ) (c : ℕ) (z s : Bool) (k : ℕ) → a ≡ signed s k → (k ≡ 0 → s ≡ z) → round F s k c ≡ round F (sign_of z a) (nat_abs a) c
as_whole F a c z s k e h =
    ap₂ (λ (t : Bool) (n : ℕ). round F t n c) (sym (sign_back z s k h)) (sym (size_back s k))
    ∙ ap (λ (b : ℤ). round F (sign_of z b) (nat_abs b) c) (sym e)

-- ---- ±a + ±b
pub difference : (a b : ℕ) → b ≤ a → pos a +ℤ neg_ℤ (pos b) ≡ pos (a - b)
difference a b h = ap (λ (x : ℤ). x +ℤ neg_ℤ (pos b)) (ap pos whole ∙ sym (pos-+ℤ-pos (a - b) b)) ∙ +ℤ-neg_ℤ_cancel (pos (a - b)) (pos b)
  where
    whole : a ≡ a - b + b
    whole = omega arith

opposite : (a b : ℕ) → a ≤ b → pos a +ℤ neg_ℤ (pos b) ≡ neg_ℤ (pos (b - a))
opposite a b h =
    +ℤ_comm (pos a) (neg_ℤ (pos b))
    ∙ ap (λ (x : ℤ). neg_ℤ (pos b) +ℤ x) (sym (neg_ℤ-neg_ℤ (pos a)))
    ∙ sym (neg_ℤ-+ℤ (pos b) (neg_ℤ (pos a)))
    ∙ ap neg_ℤ (difference b a h)

-- ---- the distance of numbers with signs
apart : (x y : ℕ) → nat_abs (pos x +ℤ neg_ℤ (pos y)) ≡ distance x y
apart x y = go (dec_le y x)
  where
    go : Dec (y ≤ x) → nat_abs (pos x +ℤ neg_ℤ (pos y)) ≡ distance x y
    go (yes h) = ap nat_abs (difference x y h) ∙ omega arith
    go (no f) = let l = le_of_lt (lt_of_not-le f) in ap nat_abs (opposite x y l) ∙ size_back true (y - x) ∙ omega arith

pub apart_like : (s : Bool) (x y : ℕ) → nat_abs (signed s x -ℤ signed s y) ≡ distance x y
apart_like false x y = apart x y
apart_like true x y = ap nat_abs (sym (neg_ℤ-+ℤ (pos x) (neg_ℤ (pos y)))) ∙ nat_abs_neg (pos x +ℤ neg_ℤ (pos y)) ∙ apart x y

pub apart_unlike : (s : Bool) (x y : ℕ) → nat_abs (signed (not s) x -ℤ signed s y) ≡ x + y
apart_unlike false x y = ap nat_abs (sym (neg_ℤ-+ℤ (pos x) (pos y))) ∙ size_back true (x + y)
apart_unlike true x y = ap (λ (z : ℤ). nat_abs (pos x +ℤ z)) (neg_ℤ-neg_ℤ (pos y))

-- no number of the width is nearer, whatever its sign
pub no_nearer : (W : Width) (s : Bool) (a c : ℕ) (y : Float) (r : IsRounded W s a c y) (t : Bool) (j : ℕ) → Size W j → off± W s a c s r.units ≤ off± W s a c t j
no_nearer W s a c y r t j z = le_trans (le_of_eq (apart_like s (r.units * c) n)) (go s t)
  where
    n : ℕ
    n = a * 2 ^ least W

    none : Size W 0
    none = record { short = record { digits = 0; zeros = 0; few = pow_pos (digits W); same = refl }; within = zero-le }

    far : (u : ℕ) → u ≤ distance (0 * c) (a * 2 ^ least W) → u ≤ j * c + a * 2 ^ least W
    far u h = let e = zero-mul c in omega arith

    go : (s t : Bool) → off W a c r.units ≤ nat_abs (signed t (j * c) -ℤ signed s (a * 2 ^ least W))
    go false false = le_trans (r.closest j z) (le_of_eq (sym (apart_like false (j * c) (a * 2 ^ least W))))
    go true true = le_trans (r.closest j z) (le_of_eq (sym (apart_like true (j * c) (a * 2 ^ least W))))
    go false true = le_trans (far (off W a c r.units) (r.closest 0 none)) (le_of_eq (sym (apart_unlike false (j * c) (a * 2 ^ least W))))
    go true false = le_trans (far (off W a c r.units) (r.closest 0 none)) (le_of_eq (sym (apart_unlike true (j * c) (a * 2 ^ least W))))

no_zero : (a b : ℕ) (s t : Bool) → a < b → b - a ≡ 0 → s ≡ t
no_zero a b s t l e = absurd (lt_irrefl 0 (some a b l e))
  where
    some : (a b : ℕ) → a < b → b - a ≡ 0 → 0 < 0
    some a b l e = omega arith

-- a sum that is exactly 0 is -0 where both are negative, and 0 otherwise
sum_is : (F : Format) (s : Bool) (a : ℕ) (t : Bool) (b c : ℕ) → sum F s a t b c ≡ round F (sign_of (s && t) (signed s a +ℤ signed t b)) (nat_abs (signed s a +ℤ signed t b)) c
unfolding sum
sum_is F false a false b c = as_whole F (pos a +ℤ pos b) c false false (a + b) refl (λ e. refl)
sum_is F true a true b c = as_whole F (neg_ℤ (pos a) +ℤ neg_ℤ (pos b)) c true true (a + b) (sym (neg_ℤ-+ℤ (pos a) (pos b))) (λ e. refl)
sum_is F false a true b c = go (ltb a b) refl
  where
    go : (u : Bool) → ltb a b ≡ u → cond u (round F true (b - a) c) (round F false (a - b) c) ≡ round F (sign_of false (pos a +ℤ neg_ℤ (pos b))) (nat_abs (pos a +ℤ neg_ℤ (pos b))) c
    go true h = let l = ltb-true a b h in as_whole F (pos a +ℤ neg_ℤ (pos b)) c false true (b - a) (opposite a b (le_of_lt l)) (no_zero a b true false l)
    go false h = as_whole F (pos a +ℤ neg_ℤ (pos b)) c false false (a - b) (difference a b (ltb-false a b h)) (λ e. refl)
sum_is F true a false b c = go (ltb a b) (ltb b a) refl refl ∙ ap (λ (x : ℤ). round F (sign_of false x) (nat_abs x) c) (+ℤ_comm (pos b) (neg_ℤ (pos a)))
  where
    go : (u w : Bool) → ltb a b ≡ u → ltb b a ≡ w
        → cond u (round F false (b - a) c) (round F w (a - b) c) ≡ round F (sign_of false (pos b +ℤ neg_ℤ (pos a))) (nat_abs (pos b +ℤ neg_ℤ (pos a))) c
    go true w h k = as_whole F (pos b +ℤ neg_ℤ (pos a)) c false false (b - a) (difference b a (le_of_lt (ltb-true a b h))) (λ e. refl)
    go false true h k = let l = ltb-true b a k in as_whole F (pos b +ℤ neg_ℤ (pos a)) c false true (a - b) (opposite b a (le_of_lt l)) (no_zero b a true false l)
    go false false h k =
        let l = ltb-false a b h in
        let m = ltb-false b a k in
        as_whole F (pos b +ℤ neg_ℤ (pos a)) c false false (a - b) (difference b a m ∙ ap pos (level a b l m)) (λ e. refl)
      where
        level : (a b : ℕ) → b ≤ a → a ≤ b → b - a ≡ a - b
        level a b l m = omega arith

-- ---- the operations, on finite values
-- the exact sum
abbrev exact_sum : Float → Float → ℤ
exact_sum x y = signed (sign x) (num x * den y) +ℤ signed (sign y) (num y * den x)

pub add_is : (F : Format) (x y : Float) → T (finite x) → T (finite y) → add F x y ≡ round F (sign_of (sign x && sign y) (exact_sum x y)) (nat_abs (exact_sum x y)) (den x * den y)
unfolding add
add_is F nan y h k = absurd h
add_is F (inf s) y h k = absurd h
add_is F (fin s m e) nan h k = absurd k
add_is F (fin s m e) (inf t) h k = absurd k
add_is F (fin s m e) (fin t n d) h k = sum_is F s (m * up e * down d) t (n * up d * down e) (down e * down d)

pub add_rounds : (F : Format) (x y : Float) → T (finite x) → T (finite y)
    → RoundsTo (width F) (signed (sign x) (num x * den y) +ℤ signed (sign y) (num y * den x)) (den x * den y) (sign x && sign y) (add F x y)
add_rounds F x y h k =
    let a = exact_sum x y in
    let c = den x * den y in
    let s = sign_of (sign x && sign y) a in
    subst (λ (z : Float). IsRounded (width F) s (nat_abs a) c z) (sym (add_is F x y h k)) (round_rounded F s (nat_abs a) c (mul-pos (den_pos x) (den_pos y)))

-- a difference is the sum with the negated value
negated : (t : Bool) (b : ℕ) → signed (not t) b ≡ neg_ℤ (signed t b)
negated false b = refl
negated true b = sym (neg_ℤ-neg_ℤ (pos b))

pub sub_rounds : (F : Format) (x y : Float) → T (finite x) → T (finite y)
    → RoundsTo (width F) (signed (sign x) (num x * den y) -ℤ signed (sign y) (num y * den x)) (den x * den y) (sign x && not (sign y)) (sub F x y)
unfolding sub neg
sub_rounds F x nan h k = absurd k
sub_rounds F x (inf t) h k = absurd k
sub_rounds F x (fin t n d) h k =
    subst (λ (z : ℤ). RoundsTo (width F) (signed (sign x) (num x * down d) +ℤ z) (den x * down d) (sign x && not t) (add F x (fin (not t) n d))) (negated t (n * up d * den x)) (add_rounds F x (fin (not t) n d) h tt)

pub mul_rounds : (F : Format) (x y : Float) → T (finite x) → T (finite y) → IsRounded (width F) (unlike (sign x) (sign y)) (num x * num y) (den x * den y) (mul F x y)
unfolding mul
mul_rounds F nan y h k = absurd h
mul_rounds F (inf s) y h k = absurd h
mul_rounds F (fin s m e) nan h k = absurd k
mul_rounds F (fin s m e) (inf t) h k = absurd k
mul_rounds F (fin s m e) (fin t n d) h k = round_rounded F (unlike s t) (m * up e * (n * up d)) (down e * down d) (mul-pos (down_pos e) (down_pos d))

pub div_rounds : (F : Format) (x y : Float) → T (finite x) → T (finite y) → 0 < num y → IsRounded (width F) (unlike (sign x) (sign y)) (num x * den y) (num y * den x) (div F x y)
unfolding div
div_rounds F nan y h k p = absurd h
div_rounds F (inf s) y h k p = absurd h
div_rounds F (fin s m e) nan h k p = absurd k
div_rounds F (fin s m e) (inf t) h k p = absurd k
div_rounds F (fin s m e) (fin t zero d) h k p = absurd (lt_irrefl 0 (lt_of_lt_of_le p (le_of_eq (zero-mul (up d)))))
div_rounds F (fin s m e) (fin t (suc n) d) h k p = rw (eqb-suc-zero n) (round_rounded F (unlike s t) (m * up e * down d) (suc n * up d * down e) (mul-pos p (down_pos e)))
