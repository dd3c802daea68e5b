-- Whole numbers that move with h: x' = x + h·y. Sums, opposites and products of such; what is left at two layers of them; and that one slope at most leaves multiples of h·h.
use mathlib.Core.Path.{◌≡◌, refl, sym, ap, ap₂, ◌∙◌}
use Prim.Native.Nat.{ℕ, zero, suc, ◌*◌}
use native.Mathlib.Nat.{zero-mul, suc-mul}
use native.Mathlib.Omega.{arith}
use lib.IntN.{ℤ, pos, neg_ℤ, nat_abs, ◌+ℤ◌, ◌-ℤ◌, ◌*ℤ◌, neg_ℤ-+ℤ, -ℤ-+ℤ_cancel, +ℤ_idr, +ℤ_assoc, +ℤ_comm, *ℤ_comm, *ℤ-zero}
use Rattle.arithmetic.proofs.Integers.{add_add_add_comm, add_sub_cancel_left, add_mul, mul_add, mul_neg, sub_mul, mul_assoc, mul_left_comm, mul_right_cancel, nat_abs_mul, size_zero, sub_eq_sub, no_difference}

abbrev pub Moves : ℤ → ℤ → ℤ → ℤ → Type 0
Moves h x y x' = x' ≡ x +ℤ h *ℤ y

module _ (h : ℤ) where
  pub still : (x : ℤ) → Moves h x (pos 0) x
  still x = sym (ap (λ (z : ℤ). x +ℤ z) (*ℤ-zero h) ∙ +ℤ_idr x)

  pub opposites : (x y x' : ℤ) → Moves h x y x' → Moves h (neg_ℤ x) (neg_ℤ y) (neg_ℤ x')
  opposites x y x' p = ap neg_ℤ p ∙ neg_ℤ-+ℤ x (h *ℤ y) ∙ ap (λ (k : ℤ). neg_ℤ x +ℤ k) (sym (mul_neg h y))

  pub scaled : (x z w z' : ℤ) → Moves h z w z' → Moves h (x *ℤ z) (x *ℤ w) (x *ℤ z')
  scaled x z w z' q = ap (λ (k : ℤ). x *ℤ k) q ∙ mul_add x z (h *ℤ w) ∙ ap (λ (k : ℤ). x *ℤ z +ℤ k) (mul_left_comm x h w)

  module _ (x y x' z w z' : ℤ) (p : Moves h x y x') (q : Moves h z w z') where
    pub sums : Moves h (x +ℤ z) (y +ℤ w) (x' +ℤ z')
    sums = ap₂ ◌+ℤ◌ p q ∙ add_add_add_comm x (h *ℤ y) z (h *ℤ w) ∙ ap (λ (k : ℤ). x +ℤ z +ℤ k) (sym (mul_add h y w))

    pub products : Moves h (x *ℤ z) (y *ℤ z' +ℤ x *ℤ w) (x' *ℤ z')
    products =
        ap (λ (k : ℤ). k *ℤ z') p
        ∙ add_mul x (h *ℤ y) z'
        ∙ ap₂ ◌+ℤ◌ (scaled x z w z' q) (mul_assoc h y z')
        ∙ +ℤ_assoc (x *ℤ z) (h *ℤ (x *ℤ w)) (h *ℤ (y *ℤ z'))
        ∙ ap (λ (k : ℤ). x *ℤ z +ℤ k) (+ℤ_comm (h *ℤ (x *ℤ w)) (h *ℤ (y *ℤ z')) ∙ sym (mul_add h (y *ℤ z') (x *ℤ w)))

  -- x' = x + h·y and y = d + h·q leave q·h·h
  pub left_over : (x y x' d q : ℤ) → Moves h x y x' → Moves h d q y → x' -ℤ x -ℤ h *ℤ d ≡ q *ℤ (h *ℤ h)
  left_over x y x' d q p r =
      ap (λ (k : ℤ). k -ℤ x -ℤ h *ℤ d) p
      ∙ ap (λ (k : ℤ). k -ℤ h *ℤ d) (add_sub_cancel_left x (h *ℤ y) ∙ ap (λ (k : ℤ). h *ℤ k) r ∙ mul_add h d (h *ℤ q))
      ∙ add_sub_cancel_left (h *ℤ d) (h *ℤ (h *ℤ q))
      ∙ sym (mul_assoc h h q)
      ∙ *ℤ_comm (h *ℤ h) q

-- ---- one slope

-- no multiple of n + 1 but 0 is n
no_multiple : (n c : ℕ) → n ≡ c * suc n → n ≡ 0
no_multiple n zero e = e ∙ zero-mul (suc n)
no_multiple n (suc c) e = absurd (omega (arith, suc-mul c (suc n)))

module _ (F : ℤ → ℤ) (z w : ℤ) where
  -- h larger than the difference of two slopes
  apart : (h q r : ℤ) → nat_abs h ≡ suc (nat_abs (w -ℤ z)) → F h -ℤ h *ℤ z ≡ q *ℤ (h *ℤ h) → F h -ℤ h *ℤ w ≡ r *ℤ (h *ℤ h) → w ≡ z
  apart h q r n a b =
      let t = w -ℤ z in
      let same : q *ℤ (h *ℤ h) +ℤ h *ℤ z ≡ r *ℤ (h *ℤ h) +ℤ h *ℤ w =
      ap (λ (k : ℤ). k +ℤ h *ℤ z) (sym a) ∙ -ℤ-+ℤ_cancel (F h) (h *ℤ z) ∙ sym (-ℤ-+ℤ_cancel (F h) (h *ℤ w)) ∙ ap (λ (k : ℤ). k +ℤ h *ℤ w) b in
      let m : t *ℤ h ≡ (q -ℤ r) *ℤ h *ℤ h =
      sub_mul w z h
      ∙ ap₂ ◌-ℤ◌ (*ℤ_comm w h) (*ℤ_comm z h)
      ∙ sym (sub_eq_sub (q *ℤ (h *ℤ h)) (h *ℤ z) (r *ℤ (h *ℤ h)) (h *ℤ w) same)
      ∙ sym (sub_mul q r (h *ℤ h))
      ∙ sym (mul_assoc (q -ℤ r) h h) in
      let e : t ≡ (q -ℤ r) *ℤ h = mul_right_cancel t ((q -ℤ r) *ℤ h) h (omega arith) m in
      let k : nat_abs t ≡ nat_abs (q -ℤ r) * suc (nat_abs t) = ap nat_abs e ∙ nat_abs_mul (q -ℤ r) h ∙ ap (λ (j : ℕ). nat_abs (q -ℤ r) * j) n in
      no_difference w z (size_zero t (no_multiple (nat_abs t) (nat_abs (q -ℤ r)) k))

  pub one_slope : ((h : ℤ) → (q : ℤ) × (F h -ℤ h *ℤ z ≡ q *ℤ (h *ℤ h))) → ((h : ℤ) → (q : ℤ) × (F h -ℤ h *ℤ w ≡ q *ℤ (h *ℤ h))) → w ≡ z
  one_slope a b = let h = pos (suc (nat_abs (w -ℤ z))) in let x = a h in let y = b h in apart h x.0 y.0 refl x.1 y.1
