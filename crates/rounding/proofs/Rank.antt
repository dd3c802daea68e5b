-- The order of a format's values as the order of whole numbers: by sign and size, and by rank, in which -0 stands one below +0.
use mathlib.Core.Path.{◌≡◌, refl, sym, ap, ap₂, ◌∙◌, subst, subst₂}
use mathlib.Core.Logic.{◌⊎◌, inl, inr}
use mathlib.Core.Bool.{Bool, true, false, not, ◌&&◌, ◌||◌, beq, cond, true≢false, and-false, or-false}
use Prim.Native.Nat.{ℕ, suc, ◌+◌, ◌-◌, ◌*◌, ◌/◌, ◌^◌, ◌≤◌, ◌<◌}
use native.Mathlib.Nat.{le_refl, le_of_eq, lt_of_lt_of_le, lt_irrefl, zero-mul, add-mul, mul_right_comm, mul_assoc, mul_comm, mul-pos, mul-lt-mul_of_pos_right, lt_of_mul-lt-mul_right, eq_of_mul-eq-mul_right, mul-div_cancel}
use native.Mathlib.Omega.{arith}
use borrow.Author.Tests.{ltb-false, lt-ltb, le-ltb, eq-eqb, ne_eqb}
use lib.Dec.{T, ltb, eqb, eqb→eq}
use lib.IntN.{ℤ, pos}
use lib.Pow.{pow_pos}
use lib.Ieee.{Float, nan, inf, fin, Format, up, down, level, lt, eq, fits, is_nan}
use lib.Ieee as Ieee
use lib.Ieee.Fits.{and_i, and_l, and_r, up_pos, down_pos}
use Rattle.arithmetic.specs.Width.{Width, width, least, past}
use Rattle.arithmetic.specs.Extremum.{zero_of, below}
use Rattle.rounding.specs.Rounding.{Counts}
use Rattle.rounding.specs.Exact.{sign}
use Rattle.rounding.specs.Extremum.{number}
use Rattle.rounding.proofs.Order.{same_test, same_less, zero_left}
use Rattle.rounding.proofs.Value.{fits_size, one_value}

-- ---- tests of the same numbers over other denominators: a / c is j / l, and b / c is i / l
module _ (l c : ℕ) (L : 0 < l) (C : 0 < c) where
  less : (a b j i : ℕ) → a * l ≡ j * c → b * l ≡ i * c → ltb a b ≡ ltb j i
  less a b j i p q =
      same_less a b j i
      (λ h. lt_of_mul-lt-mul_right c (subst₂ ◌<◌ p q (mul-lt-mul_of_pos_right h L)))
      (λ h. lt_of_mul-lt-mul_right l (subst₂ ◌<◌ (sym p) (sym q) (mul-lt-mul_of_pos_right h C)))

  equal : (a b j i : ℕ) → a * l ≡ j * c → b * l ≡ i * c → eqb a b ≡ eqb j i
  equal a b j i p q =
      same_test a b j i
      (λ e. eq_of_mul-eq-mul_right c C j i (sym p ∙ ap (λ (z : ℕ). z * l) e ∙ q))
      (λ e. eq_of_mul-eq-mul_right l L a b (p ∙ ap (λ (z : ℕ). z * c) e ∙ sym q))

  nothing : 0 * l ≡ 0 * c
  nothing = zero-mul l ∙ sym (zero-mul c)

  below_scaled : (s t : Bool) (a b j i : ℕ) → a * l ≡ j * c → b * l ≡ i * c → Ieee.below s a t b ≡ Ieee.below s j t i
  below_scaled false false a b j i p q = less a b j i p q
  below_scaled false true a b j i p q = refl
  below_scaled true false a b j i p q = less 0 (a + b) 0 (j + i) nothing (add-mul a b l ∙ ap₂ ◌+◌ p q ∙ sym (add-mul j i c))
  below_scaled true true a b j i p q = less b a i j q p

  level_scaled : (s t : Bool) (a b j i : ℕ) → a * l ≡ j * c → b * l ≡ i * c → level s a t b ≡ level s j t i
  level_scaled s t a b j i p q = ap₂ (λ (u w : Bool). u && (beq s t || w)) (equal a b j i p q) (equal a 0 j 0 p nothing)

-- ---- infinities beside a size p that no number reaches
inf_inf : (s t : Bool) (p : ℕ) → 0 < p → (s && not t) ≡ Ieee.below s p t p
inf_inf false false p h = sym (le-ltb p p (le_refl p))
inf_inf false true p h = refl
inf_inf true false p h = sym (lt-ltb 0 (p + p) (omega arith))
inf_inf true true p h = sym (le-ltb p p (le_refl p))

inf_fin : (s t : Bool) (p i : ℕ) → i < p → s ≡ Ieee.below s p t i
inf_fin false false p i h = sym (le-ltb p i (omega arith))
inf_fin false true p i h = refl
inf_fin true false p i h = sym (lt-ltb 0 (p + i) (omega arith))
inf_fin true true p i h = sym (lt-ltb i p h)

fin_inf : (s t : Bool) (j p : ℕ) → j < p → not t ≡ Ieee.below s j t p
fin_inf false false j p h = sym (lt-ltb j p h)
fin_inf false true j p h = refl
fin_inf true false j p h = sym (lt-ltb 0 (j + p) (omega arith))
fin_inf true true j p h = sym (le-ltb p j (omega arith))

inf_level : (s t : Bool) (p : ℕ) → 0 < p → beq s t ≡ level s p t p
inf_level s t p h = sym (or-false (beq s t)) ∙ sym (ap₂ (λ (u w : Bool). u && (beq s t || w)) (eq-eqb p p refl) (ne_eqb p 0 (λ e. omega arith)))

unlevel : (s t : Bool) (j i : ℕ) → (j ≡ i → ⊥) → false ≡ level s j t i
unlevel s t j i h = ap (λ (u : Bool). u && (beq s t || eqb j 0)) (sym (ne_eqb j i h))

module _ (W : Width) where
  past_pos : 0 < past W
  past_pos = pow_pos (least W + suc W.power)

  -- both numbers over the product of their denominators
  left_scaled : (m j : ℕ) (e d : ℤ) → m * up e * 2 ^ least W ≡ j * down e → m * up e * down d * 2 ^ least W ≡ j * (down e * down d)
  left_scaled m j e d p = mul_right_comm (m * up e) (down d) (2 ^ least W) ∙ ap (λ (z : ℕ). z * down d) p ∙ mul_assoc j (down e) (down d)

  right_scaled : (n i : ℕ) (e d : ℤ) → n * up d * 2 ^ least W ≡ i * down d → n * up d * down e * 2 ^ least W ≡ i * (down e * down d)
  right_scaled n i e d p = left_scaled n i d e p ∙ ap (λ (z : ℕ). i * z) (mul_comm (down d) (down e))

  -- ---- the comparisons, by sign and size
  pub lt_counts : (x y : Float) (s t : Bool) (j i : ℕ) → Counts W x s j → Counts W y t i → lt x y ≡ Ieee.below s j t i
  unfolding lt
  lt_counts nan y s t j i h k = absurd h
  lt_counts (inf a) nan s t j i h k = absurd k
  lt_counts (inf a) (inf b) s t j i h k =
      ap₂ (λ (u w : Bool). u && not w) h.0 k.0 ∙ inf_inf s t (past W) past_pos ∙ ap₂ (λ (u w : ℕ). Ieee.below s u t w) (sym h.1) (sym k.1)
  lt_counts (inf a) (fin b n d) s t j i h k = h.0 ∙ inf_fin s t (past W) i k.2 ∙ ap (λ (u : ℕ). Ieee.below s u t i) (sym h.1)
  lt_counts (fin a m e) nan s t j i h k = absurd k
  lt_counts (fin a m e) (inf b) s t j i h k = ap not k.0 ∙ fin_inf s t j (past W) h.2 ∙ ap (λ (u : ℕ). Ieee.below s j t u) (sym k.1)
  lt_counts (fin a m e) (fin b n d) s t j i h k =
      ap₂ (λ (u w : Bool). Ieee.below u (m * up e * down d) w (n * up d * down e)) h.0 k.0
      ∙ below_scaled (2 ^ least W) (down e * down d) (pow_pos (least W)) (mul-pos (down_pos e) (down_pos d)) s t (m * up e * down d) (n * up d * down e) j i
      (left_scaled m j e d h.1) (right_scaled n i e d k.1)

  pub eq_counts : (x y : Float) (s t : Bool) (j i : ℕ) → Counts W x s j → Counts W y t i → eq x y ≡ level s j t i
  unfolding eq
  eq_counts nan y s t j i h k = absurd h
  eq_counts (inf a) nan s t j i h k = absurd k
  eq_counts (inf a) (inf b) s t j i h k =
      ap₂ beq h.0 k.0 ∙ inf_level s t (past W) past_pos ∙ ap₂ (λ (u w : ℕ). level s u t w) (sym h.1) (sym k.1)
  eq_counts (inf a) (fin b n d) s t j i h k = unlevel s t j i (λ e. lt_irrefl i (lt_of_lt_of_le k.2 (le_of_eq (sym h.1 ∙ e))))
  eq_counts (fin a m e) nan s t j i h k = absurd k
  eq_counts (fin a m e) (inf b) s t j i h k = unlevel s t j i (λ e. lt_irrefl j (lt_of_lt_of_le h.2 (le_of_eq (sym k.1 ∙ sym e))))
  eq_counts (fin a m e) (fin b n d) s t j i h k =
      ap₂ (λ (u w : Bool). level u (m * up e * down d) w (n * up d * down e)) h.0 k.0
      ∙ level_scaled (2 ^ least W) (down e * down d) (pow_pos (least W)) (mul-pos (down_pos e) (down_pos d)) s t (m * up e * down d) (n * up d * down e) j i
      (left_scaled m j e d h.1) (right_scaled n i e d k.1)

  pub zero_counts : (u : Bool) (x : Float) (s : Bool) (j : ℕ) → Counts W x s j → zero_of u x ≡ (beq u s && eqb j 0)
  zero_counts u nan s j h = absurd h
  zero_counts u (inf a) s j h = sym (ap (λ (w : Bool). beq u s && w) (ne_eqb j 0 (λ e. lt_irrefl 0 (lt_of_lt_of_le past_pos (le_of_eq (sym h.1 ∙ e))))) ∙ and-false (beq u s))
  zero_counts u (fin a m e) s j h = ap₂ (λ (v w : Bool). beq u v && w) h.0 (same_test m 0 j 0 there back)
    where
      there : m ≡ 0 → j ≡ 0
      there z = zero_left j (down e) (down_pos e) (sym h.1 ∙ ap (λ (n : ℕ). n * up e * 2 ^ least W) z ∙ ap (λ (n : ℕ). n * 2 ^ least W) (zero-mul (up e)) ∙ zero-mul (2 ^ least W))

      back : j ≡ 0 → m ≡ 0
      back z = zero_left m (up e) (up_pos e) (zero_left (m * up e) (2 ^ least W) (pow_pos (least W)) (h.1 ∙ ap (λ (n : ℕ). n * down e) z ∙ zero-mul (down e)))

-- ---- whole numbers in the order of the values: p for 0 and one above it for all that isn't negative; and with the two zeros as one
abbrev pub rank : ℕ → Bool → ℕ → ℕ
rank p s j = cond s (p - j) (suc (p + j))

abbrev pub plain_rank : ℕ → Bool → ℕ → ℕ
plain_rank p s j = cond s (p - j) (p + j)

pub rank_most : (p : ℕ) (s : Bool) (j : ℕ) → j ≤ p → rank p s j ≤ suc (p + p)
rank_most p true j h = omega arith
rank_most p false j h = omega arith

pub plain_most : (p : ℕ) (s : Bool) (j : ℕ) → j ≤ p → plain_rank p s j ≤ p + p
plain_most p true j h = omega arith
plain_most p false j h = omega arith

by_rank : (p : ℕ) (s t : Bool) (j i : ℕ) → j ≤ p → i ≤ p
    → (Ieee.below s j t i || ((beq true s && eqb j 0) && (beq false t && eqb i 0))) ≡ ltb (rank p s j) (rank p t i)
by_rank p false false j i h k = or-false (ltb j i) ∙ same_less j i (suc (p + j)) (suc (p + i)) (λ l. omega arith) (λ l. omega arith)
by_rank p false true j i h k = sym (le-ltb (suc (p + j)) (p - i) (omega arith))
by_rank p true false j i h k = go (ltb 0 (j + i)) (ltb-false 0 (j + i)) ∙ sym (lt-ltb (p - j) (suc (p + i)) (omega arith))
  where
    go : (b : Bool) → (b ≡ false → j + i ≤ 0) → (b || (eqb j 0 && eqb i 0)) ≡ true
    go true z = refl
    go false z = let l = z refl in ap₂ ◌&&◌ (eq-eqb j 0 (omega arith)) (eq-eqb i 0 (omega arith))
by_rank p true true j i h k = ap (λ (b : Bool). ltb i j || b) (and-false (eqb j 0)) ∙ or-false (ltb i j) ∙ same_less i j (p - j) (p - i) (λ l. omega arith) (λ l. omega arith)

by_plain_rank : (p : ℕ) (s t : Bool) (j i : ℕ) → j ≤ p → i ≤ p → Ieee.below s j t i ≡ ltb (plain_rank p s j) (plain_rank p t i)
by_plain_rank p false false j i h k = same_less j i (p + j) (p + i) (λ l. omega arith) (λ l. omega arith)
by_plain_rank p false true j i h k = sym (le-ltb (p + j) (p - i) (omega arith))
by_plain_rank p true false j i h k = same_less 0 (j + i) (p - j) (p + i) (λ l. omega arith) (λ l. omega arith)
by_plain_rank p true true j i h k = same_less i j (p - j) (p - i) (λ l. omega arith) (λ l. omega arith)

-- a rank has one sign and size
one_rank : (p : ℕ) (s t : Bool) (j i : ℕ) → j ≤ p → i ≤ p → rank p s j ≡ rank p t i → (s ≡ t) × (j ≡ i)
one_rank p false false j i h k e = (refl, omega arith)
one_rank p false true j i h k e = absurd (omega arith)
one_rank p true false j i h k e = absurd (omega arith)
one_rank p true true j i h k e = (refl, omega arith)

one_plain_rank : (p : ℕ) (s t : Bool) (j i : ℕ) → j ≤ p → i ≤ p → plain_rank p s j ≡ plain_rank p t i → level s j t i ≡ true
one_plain_rank p false false j i h k e = ap (λ (u : Bool). u && true) (eq-eqb j i (omega arith))
one_plain_rank p false true j i h k e = ap₂ (λ (u w : Bool). u && (false || w)) (eq-eqb j i (omega arith)) (eq-eqb j 0 (omega arith))
one_plain_rank p true false j i h k e = ap₂ (λ (u w : Bool). u && (false || w)) (eq-eqb j i (omega arith)) (eq-eqb j 0 (omega arith))
one_plain_rank p true true j i h k e = ap (λ (u : Bool). u && true) (eq-eqb j i (omega arith))

-- the zero with the sign s
abbrev pub zero± : Bool → Float
zero± s = fin s 0 (pos 0)

-- ---- of the values of a format
module _ (F : Format) where
  -- how many units a value has
  abbrev size_in : Float → ℕ
  size_in nan = 0
  size_in (inf s) = past (width F)
  size_in (fin s m e) = m * up e * 2 ^ least (width F) / down e

  abbrev pub rank_of : Float → ℕ
  rank_of x = rank (past (width F)) (sign x) (size_in x)

  abbrev pub plain_rank_of : Float → ℕ
  plain_rank_of x = plain_rank (past (width F)) (sign x) (size_in x)

  size_is : (x : Float) (s : Bool) (j : ℕ) → Counts (width F) x s j → j ≡ size_in x
  size_is nan s j h = absurd h
  size_is (inf t) s j h = h.1
  size_is (fin t m e) s j h = sym (ap (λ (z : ℕ). z / down e) h.1 ∙ mul-div_cancel j (down_pos e))

  counted : (x : Float) → T (number F x) → Counts (width F) x (sign x) (size_in x) × (size_in x ≤ past (width F))
  counted x t =
      let c = fits_size F x (and_l (fits F x) (not (is_nan x)) t) (and_r (fits F x) (not (is_nan x)) t) in
      let e = size_is x (sign x) c.0 c.1 in
      (subst (λ (j : ℕ). Counts (width F) x (sign x) j) e c.1, subst (λ (j : ℕ). j ≤ past (width F)) e c.2.within)

  pub below_ranks : (x y : Float) → T (number F x) → T (number F y) → below x y ≡ ltb (rank_of x) (rank_of y)
  below_ranks x y t u =
      let c = counted x t in
      let d = counted y u in
      ap₂ ◌||◌ (lt_counts (width F) x y (sign x) (sign y) (size_in x) (size_in y) c.0 d.0)
      (ap₂ ◌&&◌ (zero_counts (width F) true x (sign x) (size_in x) c.0) (zero_counts (width F) false y (sign y) (size_in y) d.0))
      ∙ by_rank (past (width F)) (sign x) (sign y) (size_in x) (size_in y) c.1 d.1

  pub lt_ranks : (x y : Float) → T (number F x) → T (number F y) → lt x y ≡ ltb (plain_rank_of x) (plain_rank_of y)
  lt_ranks x y t u =
      let c = counted x t in
      let d = counted y u in
      lt_counts (width F) x y (sign x) (sign y) (size_in x) (size_in y) c.0 d.0
      ∙ by_plain_rank (past (width F)) (sign x) (sign y) (size_in x) (size_in y) c.1 d.1

  pub rank_bound : (x : Float) → T (number F x) → rank_of x ≤ suc (past (width F) + past (width F))
  rank_bound x t = rank_most (past (width F)) (sign x) (size_in x) (counted x t).1

  pub plain_bound : (x : Float) → T (number F x) → plain_rank_of x ≤ past (width F) + past (width F)
  plain_bound x t = plain_most (past (width F)) (sign x) (size_in x) (counted x t).1

  -- equal ranks are equal values; with the zeros as one, equal numbers
  pub rank_one : (x y : Float) → T (number F x) → T (number F y) → rank_of x ≡ rank_of y → x ≡ y
  rank_one x y t u e =
      let c = counted x t in
      let d = counted y u in
      let r = one_rank (past (width F)) (sign x) (sign y) (size_in x) (size_in y) c.1 d.1 e in
      one_value F x y (sign y) (size_in y) (and_l (fits F x) (not (is_nan x)) t) (and_l (fits F y) (not (is_nan y)) u)
      (subst₂ (λ (s : Bool) (j : ℕ). Counts (width F) x s j) r.0 r.1 c.0) d.0

  pub plain_one : (x y : Float) → T (number F x) → T (number F y) → plain_rank_of x ≡ plain_rank_of y → eq x y ≡ true
  plain_one x y t u e =
      let c = counted x t in
      let d = counted y u in
      eq_counts (width F) x y (sign x) (sign y) (size_in x) (size_in y) c.0 d.0
      ∙ one_plain_rank (past (width F)) (sign x) (sign y) (size_in x) (size_in y) c.1 d.1 e

  -- ---- of equal values only the two zeros differ
  zero_counted : (s : Bool) → Counts (width F) (zero± s) s 0
  zero_counted s = (refl, ap (λ (z : ℕ). z * 2 ^ least (width F)) (zero-mul (2 ^ 0)) ∙ zero-mul (2 ^ least (width F)), past_pos (width F))

  no_size : (x : Float) (s : Bool) → T (fits F x) → Counts (width F) x s 0 → x ≡ zero± s
  no_size x s t h = one_value F x (zero± s) s 0 t (unfold fits in tt) h (zero_counted s)

  equal_numbers : (x y : Float) → T (fits F x) → T (fits F y) → eq x y ≡ true → T (number F x) × T (number F y)
  unfolding eq is_nan
  equal_numbers nan y t u e = absurd (true≢false (sym e))
  equal_numbers (inf s) nan t u e = absurd (true≢false (sym e))
  equal_numbers (inf s) (inf b) t u e = (and_i (fits F (inf s)) true t tt, and_i (fits F (inf b)) true u tt)
  equal_numbers (inf s) (fin b n d) t u e = absurd (true≢false (sym e))
  equal_numbers (fin s m e') nan t u e = absurd (true≢false (sym e))
  equal_numbers (fin s m e') (inf b) t u e = absurd (true≢false (sym e))
  equal_numbers (fin s m e') (fin b n d) t u e = (and_i (fits F (fin s m e')) true t tt, and_i (fits F (fin b n d)) true u tt)

  level_says : (s t : Bool) (j i : ℕ) → level s j t i ≡ true → (j ≡ i) × ((t ≡ s) ⊎ ((j ≡ 0) × (t ≡ not s)))
  level_says s t j i h = (eqb→eq j i (and_l (eqb j i) (beq s t || eqb j 0) both), go s t (and_r (eqb j i) (beq s t || eqb j 0) both))
    where
      both : T (level s j t i)
      both = subst T (sym h) tt

      go : (s t : Bool) → T (beq s t || eqb j 0) → (t ≡ s) ⊎ ((j ≡ 0) × (t ≡ not s))
      go true true z = inl refl
      go true false z = inr (eqb→eq j 0 z, refl)
      go false true z = inr (eqb→eq j 0 z, refl)
      go false false z = inl refl

  pub equal_values : (x y : Float) → T (fits F x) → T (fits F y) → eq x y ≡ true → (x ≡ y) ⊎ ((s : Bool) × (x ≡ zero± s) × (y ≡ zero± (not s)))
  equal_values x y t u e =
      let n = equal_numbers x y t u e in
      let c = counted x n.0 in
      let d = counted y n.1 in
      let l = level_says (sign x) (sign y) (size_in x) (size_in y) (sym (eq_counts (width F) x y (sign x) (sign y) (size_in x) (size_in y) c.0 d.0) ∙ e) in
      elim l.1 [
        | inl p ↦ inl (one_value F x y (sign x) (size_in x) t u c.0 (subst₂ (λ (s : Bool) (j : ℕ). Counts (width F) y s j) p (sym l.0) d.0))
        | inr z ↦ inr (
          sign x,
          no_size x (sign x) t (subst (λ (j : ℕ). Counts (width F) x (sign x) j) z.0 c.0),
          no_size y (not (sign x)) u (subst₂ (λ (s : Bool) (j : ℕ). Counts (width F) y s j) z.1 (sym l.0 ∙ z.0) d.0),
        )
      ]
