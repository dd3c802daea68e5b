-- Min and Max by the strict test, to which zeros are equal: a result that is not a zero is the right one.
use mathlib.Core.Path.{◌≡◌, refl, sym, ap, ap₂, ◌∙◌, subst}
use mathlib.Core.Logic.{◌⊎◌, inl, inr}
use mathlib.Core.Bool.{Bool, true, false, not, ◌&&◌, ◌||◌, beq, cond, true≢false}
use mathlib.Core.List.{List, [], ◌∷◌}
use Prim.Native.Nat.{ℕ, zero, suc, ◌*◌, ◌<◌}
use native.Mathlib.Nat.{add-zero, zero-add, mul-pos, zero-mul, zero-lt-suc}
use native.Mathlib.Omega.{arith}
use borrow.Author.Tests.{lt-ltb, le-ltb}
use lib.Dec.{T, eqb, eqb→eq, ltb}
use lib.IntN.{ℤ}
use lib.Ieee as Ieee
use lib.Ieee.{Float, nan, inf, fin, up, down, lt, eq, ne}
use lib.Ieee.Fits.{up_pos, down_pos, and_l, and_r}
use Rattle.arithmetic.specs.Value.{0f}
use Rattle.arithmetic.specs.Extremum.{extremum, held, hold, zero_of}
use Rattle.floats.specs.Extremum.{beyond, strictly}

-- ---- the order does not tell one zero from another
data Zero : Float → Type 0 where
  zero± : (s : Bool) (e : ℤ) → Zero (fin s 0 e)

nothing : (a b : ℕ) → 0 * a * b ≡ 0
nothing a b = ap (λ (n : ℕ). n * b) (zero-mul a) ∙ zero-mul b

scaled : (m a b : ℕ) → 0 < a → 0 < b → ltb 0 (m * a * b) ≡ ltb 0 m
scaled zero a b h g = ap (ltb 0) (nothing a b)
scaled (suc m) a b h g = lt-ltb 0 (suc m * a * b) (mul-pos (mul-pos (zero-lt-suc m) h) g) ∙ sym (lt-ltb 0 (suc m) (zero-lt-suc m))

against_zero : (t : Bool) (a : ℕ) (s : Bool) → Ieee.below t a s 0 ≡ (t && ltb 0 a)
against_zero false a false = le-ltb a 0 (omega arith)
against_zero false a true = refl
against_zero true a false = ap (ltb 0) (add-zero a)
against_zero true a true = refl

zero_against : (s t : Bool) (a : ℕ) → Ieee.below s 0 t a ≡ (not t && ltb 0 a)
zero_against false false a = refl
zero_against false true a = refl
zero_against true false a = ap (ltb 0) (zero-add a)
zero_against true true a = le-ltb a 0 (omega arith)

abbrev negative : Float → Bool
negative nan = false
negative (inf t) = t
negative (fin t m d) = t && ltb 0 m

abbrev positive : Float → Bool
positive nan = false
positive (inf t) = not t
positive (fin t m d) = not t && ltb 0 m

below_zero : (x z : Float) → Zero z → lt x z ≡ negative x
unfolding lt
below_zero nan _ (zero± s e) = refl
below_zero (inf t) _ (zero± s e) = refl
below_zero (fin t m d) _ (zero± s e) =
    ap (Ieee.below t (m * up d * down e) s) (nothing (up e) (down d)) ∙ against_zero t (m * up d * down e) s
    ∙ ap (λ (b : Bool). t && b) (scaled m (up d) (down e) (up_pos d) (down_pos e))

above_zero : (x z : Float) → Zero z → lt z x ≡ positive x
unfolding lt
above_zero nan _ (zero± s e) = refl
above_zero (inf t) _ (zero± s e) = refl
above_zero (fin t m d) _ (zero± s e) =
    ap (λ (n : ℕ). Ieee.below s n t (m * up d * down e)) (nothing (up e) (down d)) ∙ zero_against s t (m * up d * down e)
    ∙ ap (λ (b : Bool). not t && b) (scaled m (up d) (down e) (up_pos d) (down_pos e))

same_zeros : (most : Bool) (x c p : Float) → Zero c → Zero p → strictly most x c ≡ strictly most x p
same_zeros true x c p u v = above_zero x c u ∙ sym (above_zero x p v)
same_zeros false x c p u v = below_zero x c u ∙ sym (below_zero x p v)

-- ---- what tests say of a zero
is_zero : (s : Bool) (x : Float) → T (zero_of s x) → Zero x
is_zero s nan t = absurd t
is_zero s (inf u) t = absurd t
is_zero s (fin u m e) t = subst (λ (n : ℕ). Zero (fin u n e)) (sym (eqb→eq m 0 (and_r (beq s u) (eqb m 0) t))) (zero± u e)

no_unequal : (x : Float) → Zero x → ne x 0f ≡ false
unfolding ne eq
no_unequal _ (zero± s e) = ap₂ (λ (a b : ℕ). not (Ieee.level s a false b)) (nothing (up e) 1) (nothing 1 (down e)) ∙ go s
  where
    go : (s : Bool) → not (Ieee.level s 0 false 0) ≡ false
    go true = refl
    go false = refl

-- ---- one step of both
abbrev zeros : Bool → Float → Float → Bool
zeros true x y = zero_of true y && zero_of false x
zeros false x y = zero_of true x && zero_of false y

beyond_is : (most : Bool) (x y : Float) → beyond most x y ≡ (strictly most x y || zeros most x y)
beyond_is true x y = refl
beyond_is false x y = refl

both_zeros : (most : Bool) (x y : Float) → T (zeros most x y) → Zero x × Zero y
both_zeros true x y t = (is_zero false x (and_r (zero_of true y) (zero_of false x) t), is_zero true y (and_l (zero_of true y) (zero_of false x) t))
both_zeros false x y t = (is_zero true x (and_l (zero_of true x) (zero_of false y) t), is_zero false y (and_r (zero_of true x) (zero_of false y) t))

-- c by the careful test, p by the strict one: the same, or zeros
abbrev Near : Float → Float → Type 0
Near c p = (c ≡ p) ⊎ (Zero c × Zero p)

near_zero : (c p : Float) → Zero c → Near c p → Zero p
near_zero c p z n = elim n [ inl e ↦ subst Zero e z | inr b ↦ b.1 ]

near_test : (most : Bool) (x c p : Float) → Near c p → strictly most x c ≡ strictly most x p
near_test most x c p n = elim n [ inl e ↦ ap (strictly most x) e | inr b ↦ same_zeros most x c p b.0 b.1 ]

near_step : (most : Bool) (x c p : Float) → Near c p → Near (held (beyond most) c x) (held (strictly most) p x)
near_step most x c p n =
    subst (λ (b : Bool). Near (cond b x c) (held (strictly most) p x)) (sym (beyond_is most x c ∙ ap (λ (b : Bool). b || zeros most x c) (near_test most x c p n)))
    (go (strictly most x p) (zeros most x c) (both_zeros most x c))
  where
    go : (b z : Bool) → (T z → Zero x × Zero c) → Near (cond (b || z) x c) (cond b x p)
    go true z f = inl refl
    go false true f = inr ((f tt).0, near_zero c p (f tt).1 n)
    go false false f = n

near_all : (most : Bool) (c p : Float) (xs : List Float) → Near c p → Near (hold (beyond most) c xs) (hold (strictly most) p xs)
unfolding hold
near_all most c p [] n = n
near_all most c p (x ∷ xs) n = near_all most (held (beyond most) c x) (held (strictly most) p x) xs (near_step most x c p n)

pub plain_right : (most : Bool) (xs : List Float) (v : Float) → v ≡ extremum (strictly most) xs → ne v 0f ≡ true → v ≡ extremum (beyond most) xs
plain_right most [] v e h = e
plain_right most (x ∷ xs) v e h = elim (near_all most x x xs (inl refl)) [
  | inl f ↦ e ∙ sym f
  | inr b ↦ absurd (true≢false (sym h ∙ no_unequal v (subst Zero (sym e) b.1)))
]
