-- Comparisons of values as comparisons of fractions, with their signs.
use mathlib.Core.Path.{◌≡◌, refl, sym, ap, ◌∙◌, subst₂}
use mathlib.Core.Logic.{◌⊎◌, inl, inr}
use mathlib.Core.Bool.{Bool, true, false, not, ◌&&◌, ◌||◌}
use Prim.Native.Nat.{ℕ, ◌+◌, ◌*◌, ◌≤◌, ◌<◌}
use native.Mathlib.Nat.{le_of_eq, le_of_lt, lt_of_lt_of_le, lt_irrefl, zero-mul, mul-pos, eq-or-lt_of_le, eq-zero-or-pos, mul-one, mul_right_comm, eq_of_mul-eq-mul_right}
use native.Mathlib.Omega.{arith}
use borrow.Author.Tests.{ltb-true, ltb-false, lt-ltb, eqb-true, eqb-false, eq-eqb, ne_eqb}
use lib.Dec.{T, ltb, eqb, ltb→lt, lt→ltb, eqb→eq}
use lib.IntN.{ℤ}
use lib.Ieee.{Float, nan, inf, fin, up, down, eq, le, neg, level}
use lib.Ieee.Fits.{down_pos, and_i, and_l, and_r, eq→eqb}
use lib.Ieee.Exact.{HasValue}
use lib.Ieee.Order.{transfer}

-- ---- two tests are one where each fact gives the other
pub same_test : (a b c d : ℕ) → (a ≡ b → c ≡ d) → (c ≡ d → a ≡ b) → eqb a b ≡ eqb c d
same_test a b c d f g = go (eqb a b) (eqb-true a b) (eqb-false a b)
  where
    go : (t : Bool) → (t ≡ true → a ≡ b) → (t ≡ false → a ≡ b → ⊥) → t ≡ eqb c d
    go true p q = sym (eq-eqb c d (f (p refl)))
    go false p q = sym (ne_eqb c d (λ e. q refl (g e)))

pub same_less : (a b c d : ℕ) → (a < b → c < d) → (c < d → a < b) → ltb a b ≡ ltb c d
same_less a b c d f g = go (ltb a b) (ltb-true a b) (ltb-false a b)
  where
    go : (t : Bool) → (t ≡ true → a < b) → (t ≡ false → b ≤ a) → t ≡ ltb c d
    go true p q = sym (lt-ltb c d (f (p refl)))
    go false p q = go_on (ltb c d) (ltb-true c d)
      where
        go_on : (u : Bool) → (u ≡ true → c < d) → false ≡ u
        go_on true r = absurd (lt_irrefl a (lt_of_lt_of_le (g (r refl)) (q refl)))
        go_on false r = refl

level_same : (s : Bool) (a b : ℕ) → level s a s b ≡ eqb a b
level_same true a b = go (eqb a b)
  where
    go : (t : Bool) → (t && true) ≡ t
    go true = refl
    go false = refl
level_same false a b = go (eqb a b)
  where
    go : (t : Bool) → (t && true) ≡ t
    go true = refl
    go false = refl

-- y is q with the sign s: whether it equals x, which has that sign too
pub eq_of_value : (y : Float) (s : Bool) (q m : ℕ) (e : ℤ) → HasValue y s q 1 → eq y (fin s m e) ≡ eqb (q * down e) (m * up e)
unfolding eq
eq_of_value nan s q m e v = absurd v
eq_of_value (inf t) s q m e v = absurd v
eq_of_value (fin t n d) s q m e v =
    ap (λ (u : Bool). level u (n * up d * down e) s (m * up e * down d)) v.0
    ∙ level_same s (n * up d * down e) (m * up e * down d)
    ∙ ap (λ (z : ℕ). eqb z (m * up e * down d)) (ap (λ (z : ℕ). z * down e) a ∙ mul_right_comm q (down d) (down e))
    ∙ same_test (q * down e * down d) (m * up e * down d) (q * down e) (m * up e) (eq_of_mul-eq-mul_right (down d) (down_pos d) (q * down e) (m * up e)) (ap (λ (z : ℕ). z * down d))
  where
    a : n * up d ≡ q * down d
    a = sym (mul-one (n * up d)) ∙ v.1

-- ---- ±a ≤ ±b
abbrev pub Le± : Bool → ℕ → Bool → ℕ → Type 0
Le± false a false b = a ≤ b
Le± false a true b = (a ≡ 0) × (b ≡ 0)
Le± true a false b = T true
Le± true a true b = b ≤ a

either : (a b : Bool) → T (a || b) → T a ⊎ T b
either true b t = inl tt
either false b t = inr t

either_l : (a b : Bool) → T a → T (a || b)
either_l true b t = tt
either_l false b t = absurd t

either_r : (a b : Bool) → T b → T (a || b)
either_r true b t = tt
either_r false b t = t

both_zero : (a b : ℕ) → T (eqb a b && (false || eqb a 0)) → (a ≡ 0) × (b ≡ 0)
both_zero a b t =
    let e = eqb→eq a b (and_l (eqb a b) (eqb a 0) t) in
    let z = eqb→eq a 0 (and_r (eqb a b) (eqb a 0) t) in
    (z, sym e ∙ z)

both_zeros : (a b : ℕ) → a ≡ 0 → b ≡ 0 → T (eqb a b && (false || eqb a 0))
both_zeros a b p q = and_i (eqb a b) (eqb a 0) (eq→eqb (p ∙ sym q)) (eq→eqb p)

-- t tests whether a and b are equal
at_most : (a b : ℕ) (t : Bool) → (T t → a ≡ b) → T (ltb a b || (t && true)) → a ≤ b
at_most a b t f h = elim (either (ltb a b) (t && true) h) [ inl u ↦ le_of_lt (ltb→lt a b u) | inr u ↦ le_of_eq (f (and_l t true u)) ]

is_at_most : (a b : ℕ) (t : Bool) → (a ≡ b → T t) → a ≤ b → T (ltb a b || (t && true))
is_at_most a b t f h = elim (eq-or-lt_of_le h) [ inl e ↦ either_r (ltb a b) (t && true) (and_i t true (f e) tt) | inr l ↦ either_l (ltb a b) (t && true) (lt→ltb a b l) ]

-- a negative value is at most one that is not
any_sign : (a b : ℕ) → T (ltb 0 (a + b) || (eqb a b && (false || eqb a 0)))
any_sign a b = elim (eq-zero-or-pos (a + b)) [
  | inl z ↦ either_r (ltb 0 (a + b)) (eqb a b && (false || eqb a 0)) (both_zeros a b (omega arith) (omega arith))
  | inr l ↦ either_l (ltb 0 (a + b)) (eqb a b && (false || eqb a 0)) (lt→ltb 0 (a + b) l)
]

pub le_says : (s : Bool) (m : ℕ) (e : ℤ) (t : Bool) (n : ℕ) (d : ℤ) → T (le (fin s m e) (fin t n d)) → Le± s (m * up e * down d) t (n * up d * down e)
unfolding le
le_says false m e false n d h = let a = m * up e * down d in let b = n * up d * down e in at_most a b (eqb a b) (eqb→eq a b) h
le_says false m e true n d h = both_zero (m * up e * down d) (n * up d * down e) h
le_says true m e false n d h = tt
le_says true m e true n d h = let a = m * up e * down d in let b = n * up d * down e in at_most b a (eqb a b) (λ t. sym (eqb→eq a b t)) h

pub le_shows : (s : Bool) (m : ℕ) (e : ℤ) (t : Bool) (n : ℕ) (d : ℤ) → Le± s (m * up e * down d) t (n * up d * down e) → T (le (fin s m e) (fin t n d))
unfolding le
le_shows false m e false n d h = let a = m * up e * down d in let b = n * up d * down e in is_at_most a b (eqb a b) (λ p. eq→eqb p) h
le_shows false m e true n d h = both_zeros (m * up e * down d) (n * up d * down e) h.0 h.1
le_shows true m e false n d h = any_sign (m * up e * down d) (n * up d * down e)
le_shows true m e true n d h = let a = m * up e * down d in let b = n * up d * down e in is_at_most b a (eqb a b) (λ p. eq→eqb (sym p)) h

-- the same of any fractions that the two values are
pub zero_left : (a k : ℕ) → 0 < k → a * k ≡ 0 → a ≡ 0
zero_left a k K h = elim (eq-zero-or-pos a) [ inl z ↦ z | inr l ↦ absurd (lt_irrefl 0 (lt_of_lt_of_le (mul-pos l K) (le_of_eq h))) ]

zero_moves : (x a c k l de : ℕ) → 0 < c → 0 < k → x * c ≡ a * de → a * k ≡ 0 → x * l ≡ 0
zero_moves x a c k l de C K p h = ap (λ (z : ℕ). z * l) (zero_left x c C (p ∙ ap (λ (z : ℕ). z * de) (zero_left a k K h) ∙ zero-mul de)) ∙ zero-mul l

moves : (s t : Bool) (x y de dd a b c d : ℕ) → 0 < c → 0 < d → x * c ≡ a * de → y * d ≡ b * dd → Le± s (a * d) t (b * c) → Le± s (x * dd) t (y * de)
moves false false x y de dd a b c d C D p q h = transfer x y de dd a b c d C D p q h
moves false true x y de dd a b c d C D p q h = (zero_moves x a c d dd de C D p h.0, zero_moves y b d c de dd D C q h.1)
moves true false x y de dd a b c d C D p q h = tt
moves true true x y de dd a b c d C D p q h = transfer y x dd de b a d c D C q p h

pub le_of_values± : (x y : Float) (s t : Bool) (a c b d : ℕ) → 0 < c → 0 < d → HasValue x s a c → HasValue y t b d → Le± s (a * d) t (b * c) → T (le x y)
le_of_values± nan y s t a c b d C D p q h = absurd p
le_of_values± (inf u) y s t a c b d C D p q h = absurd p
le_of_values± (fin u m e) nan s t a c b d C D p q h = absurd q
le_of_values± (fin u m e) (inf w) s t a c b d C D p q h = absurd q
le_of_values± (fin u m e) (fin w n f) s t a c b d C D p q h =
    le_shows u m e w n f
    (subst₂ (λ (v z : Bool). Le± v (m * up e * down f) z (n * up f * down e)) (sym p.0) (sym q.0) (moves s t (m * up e) (n * up f) (down e) (down f) a b c d C D p.1 q.1 h))

pub values_of_le± : (x y : Float) (s t : Bool) (a c b d : ℕ) → 0 < c → 0 < d → HasValue x s a c → HasValue y t b d → T (le x y) → Le± s (a * d) t (b * c)
values_of_le± nan y s t a c b d C D p q h = absurd p
values_of_le± (inf u) y s t a c b d C D p q h = absurd p
values_of_le± (fin u m e) nan s t a c b d C D p q h = absurd q
values_of_le± (fin u m e) (inf w) s t a c b d C D p q h = absurd q
values_of_le± (fin u m e) (fin w n f) s t a c b d C D p q h =
    moves s t a b c d (m * up e) (n * up f) (down e) (down f) (down_pos e) (down_pos f) (sym p.1) (sym q.1)
    (subst₂ (λ (v z : Bool). Le± v (m * up e * down f) z (n * up f * down e)) p.0 q.0 (le_says u m e w n f h))

-- ---- negation turns the order round
turned : (s t : Bool) (a b : ℕ) → Le± s a t b → Le± (not t) b (not s) a
turned false false a b h = h
turned false true a b h = (h.1, h.0)
turned true false a b h = tt
turned true true a b h = h

pub le_neg : (x y : Float) → T (le x y) → T (le (neg y) (neg x))
unfolding neg le
le_neg nan y h = absurd h
le_neg (inf s) nan h = absurd h
le_neg (inf true) (inf true) h = tt
le_neg (inf true) (inf false) h = tt
le_neg (inf false) (inf true) h = absurd h
le_neg (inf false) (inf false) h = tt
le_neg (inf true) (fin t n d) h = tt
le_neg (inf false) (fin t n d) h = absurd h
le_neg (fin s m e) nan h = absurd h
le_neg (fin s m e) (inf true) h = absurd h
le_neg (fin s m e) (inf false) h = tt
le_neg (fin s m e) (fin t n d) h = le_shows (not t) n d (not s) m e (turned s t (m * up e * down d) (n * up d * down e) (le_says s m e t n d h))
