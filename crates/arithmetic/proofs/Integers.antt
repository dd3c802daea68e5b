-- Whole numbers: the laws of the product that `lib.IntN` leaves out, and sizes.
use mathlib.Core.Path.{◌≡◌, refl, sym, ap, ◌∙◌}
use Prim.Native.Nat.{ℕ, zero, suc, ◌*◌, ◌<◌}
use native.Mathlib.Nat.{mul-pos}
use native.Mathlib.Omega.{arith}
use lib.IntN.{ℤ, pos, negsuc, suc_ℤ, pred_ℤ, neg_ℤ, nat_abs, ◌+ℤ◌, ◌-ℤ◌, ◌*ℤ◌, neg_ℤ-neg_ℤ, +ℤ-neg_ℤ_cancel, +ℤ_idl, +ℤ_idr, +ℤ_assoc, +ℤ_comm, +ℤ_invr, suc_ℤ-+ℤ, pred_ℤ-+ℤ, *ℤ_comm, zero-*ℤ, one, *ℤ-one, suc_ℤ-*ℤ, pred_ℤ-*ℤ}

-- ---- sums

pub add_left_comm : (a b c : ℤ) → a +ℤ (b +ℤ c) ≡ b +ℤ (a +ℤ c)
add_left_comm a b c = sym (+ℤ_assoc a b c) ∙ ap (λ (x : ℤ). x +ℤ c) (+ℤ_comm a b) ∙ +ℤ_assoc b a c

pub add_add_add_comm : (a b c d : ℤ) → (a +ℤ b) +ℤ (c +ℤ d) ≡ (a +ℤ c) +ℤ (b +ℤ d)
add_add_add_comm a b c d = +ℤ_assoc a b (c +ℤ d) ∙ ap (λ (x : ℤ). a +ℤ x) (add_left_comm b c d) ∙ sym (+ℤ_assoc a c (b +ℤ d))

-- what is added on the left is taken away again
pub add_sub_cancel_left : (a b : ℤ) → (a +ℤ b) -ℤ a ≡ b
add_sub_cancel_left a b = ap (λ (x : ℤ). x -ℤ a) (+ℤ_comm a b) ∙ +ℤ_assoc b a (neg_ℤ a) ∙ ap (λ (x : ℤ). b +ℤ x) (+ℤ_invr a) ∙ +ℤ_idr b

-- two sums that are equal
pub sub_eq_sub : (a b c d : ℤ) → a +ℤ b ≡ c +ℤ d → a -ℤ c ≡ d -ℤ b
sub_eq_sub a b c d e =
    ap (λ (x : ℤ). x -ℤ c) (sym (+ℤ-neg_ℤ_cancel a b) ∙ ap (λ (x : ℤ). x -ℤ b) e)
    ∙ +ℤ_assoc (c +ℤ d) (neg_ℤ b) (neg_ℤ c)
    ∙ ap (λ (x : ℤ). c +ℤ d +ℤ x) (+ℤ_comm (neg_ℤ b) (neg_ℤ c))
    ∙ sym (+ℤ_assoc (c +ℤ d) (neg_ℤ c) (neg_ℤ b))
    ∙ ap (λ (x : ℤ). x -ℤ b) (add_sub_cancel_left c d)

-- a sum that is zero, and a difference
opposite : (a b : ℤ) → a +ℤ b ≡ pos 0 → a ≡ neg_ℤ b
opposite a b e =
    sym (+ℤ_idr a) ∙ ap (λ (x : ℤ). a +ℤ x) (sym (+ℤ_invr b)) ∙ sym (+ℤ_assoc a b (neg_ℤ b)) ∙ ap (λ (x : ℤ). x -ℤ b) e ∙ +ℤ_idl (neg_ℤ b)

pub no_difference : (a b : ℤ) → a -ℤ b ≡ pos 0 → a ≡ b
no_difference a b e = opposite a (neg_ℤ b) e ∙ neg_ℤ-neg_ℤ b

-- ---- products

-- a one more, and one less
add_mul_up : (a b c : ℤ) → (a +ℤ b) *ℤ c ≡ a *ℤ c +ℤ b *ℤ c → (suc_ℤ a +ℤ b) *ℤ c ≡ suc_ℤ a *ℤ c +ℤ b *ℤ c
add_mul_up a b c e =
    ap (λ (x : ℤ). x *ℤ c) (suc_ℤ-+ℤ a b)
    ∙ suc_ℤ-*ℤ (a +ℤ b) c
    ∙ ap (λ (x : ℤ). x +ℤ c) e
    ∙ +ℤ_assoc (a *ℤ c) (b *ℤ c) c
    ∙ ap (λ (x : ℤ). a *ℤ c +ℤ x) (+ℤ_comm (b *ℤ c) c)
    ∙ sym (+ℤ_assoc (a *ℤ c) c (b *ℤ c))
    ∙ ap (λ (x : ℤ). x +ℤ b *ℤ c) (sym (suc_ℤ-*ℤ a c))

add_mul_down : (a b c : ℤ) → (a +ℤ b) *ℤ c ≡ a *ℤ c +ℤ b *ℤ c → (pred_ℤ a +ℤ b) *ℤ c ≡ pred_ℤ a *ℤ c +ℤ b *ℤ c
add_mul_down a b c e =
    ap (λ (x : ℤ). x *ℤ c) (pred_ℤ-+ℤ a b)
    ∙ pred_ℤ-*ℤ (a +ℤ b) c
    ∙ ap (λ (x : ℤ). x -ℤ c) e
    ∙ +ℤ_assoc (a *ℤ c) (b *ℤ c) (neg_ℤ c)
    ∙ ap (λ (x : ℤ). a *ℤ c +ℤ x) (+ℤ_comm (b *ℤ c) (neg_ℤ c))
    ∙ sym (+ℤ_assoc (a *ℤ c) (neg_ℤ c) (b *ℤ c))
    ∙ ap (λ (x : ℤ). x +ℤ b *ℤ c) (sym (pred_ℤ-*ℤ a c))

zero_add_mul : (b c : ℤ) → (pos 0 +ℤ b) *ℤ c ≡ pos 0 *ℤ c +ℤ b *ℤ c
zero_add_mul b c = ap (λ (x : ℤ). x *ℤ c) (+ℤ_idl b) ∙ sym (+ℤ_idl (b *ℤ c)) ∙ ap (λ (x : ℤ). x +ℤ b *ℤ c) (sym (zero-*ℤ c))

pub add_mul : (a b c : ℤ) → (a +ℤ b) *ℤ c ≡ a *ℤ c +ℤ b *ℤ c
add_mul (pos zero) b c = zero_add_mul b c
add_mul (pos (suc n)) b c = add_mul_up (pos n) b c (add_mul (pos n) b c)
add_mul (negsuc zero) b c = add_mul_down (pos 0) b c (zero_add_mul b c)
add_mul (negsuc (suc n)) b c = add_mul_down (negsuc n) b c (add_mul (negsuc n) b c)

pub mul_add : (a b c : ℤ) → a *ℤ (b +ℤ c) ≡ a *ℤ b +ℤ a *ℤ c
mul_add a b c = *ℤ_comm a (b +ℤ c) ∙ add_mul b c a ∙ ap (λ (x : ℤ). x +ℤ c *ℤ a) (*ℤ_comm b a) ∙ ap (λ (x : ℤ). a *ℤ b +ℤ x) (*ℤ_comm c a)

pub neg_mul : (a b : ℤ) → neg_ℤ a *ℤ b ≡ neg_ℤ (a *ℤ b)
neg_mul a b =
    opposite (neg_ℤ a *ℤ b) (a *ℤ b)
    (sym (add_mul (neg_ℤ a) a b) ∙ ap (λ (x : ℤ). x *ℤ b) (+ℤ_comm (neg_ℤ a) a ∙ +ℤ_invr a) ∙ zero-*ℤ b)

pub mul_neg : (a b : ℤ) → a *ℤ neg_ℤ b ≡ neg_ℤ (a *ℤ b)
mul_neg a b = *ℤ_comm a (neg_ℤ b) ∙ neg_mul b a ∙ ap neg_ℤ (*ℤ_comm b a)

pub sub_mul : (a b c : ℤ) → (a -ℤ b) *ℤ c ≡ a *ℤ c -ℤ b *ℤ c
sub_mul a b c = add_mul a (neg_ℤ b) c ∙ ap (λ (x : ℤ). a *ℤ c +ℤ x) (neg_mul b c)

mul_assoc_up : (a b c : ℤ) → (a *ℤ b) *ℤ c ≡ a *ℤ (b *ℤ c) → (suc_ℤ a *ℤ b) *ℤ c ≡ suc_ℤ a *ℤ (b *ℤ c)
mul_assoc_up a b c e =
    ap (λ (x : ℤ). x *ℤ c) (suc_ℤ-*ℤ a b) ∙ add_mul (a *ℤ b) b c ∙ ap (λ (x : ℤ). x +ℤ b *ℤ c) e ∙ sym (suc_ℤ-*ℤ a (b *ℤ c))

mul_assoc_down : (a b c : ℤ) → (a *ℤ b) *ℤ c ≡ a *ℤ (b *ℤ c) → (pred_ℤ a *ℤ b) *ℤ c ≡ pred_ℤ a *ℤ (b *ℤ c)
mul_assoc_down a b c e =
    ap (λ (x : ℤ). x *ℤ c) (pred_ℤ-*ℤ a b)
    ∙ add_mul (a *ℤ b) (neg_ℤ b) c
    ∙ ap (λ (x : ℤ). x +ℤ neg_ℤ b *ℤ c) e
    ∙ ap (λ (x : ℤ). a *ℤ (b *ℤ c) +ℤ x) (neg_mul b c)
    ∙ sym (pred_ℤ-*ℤ a (b *ℤ c))

zero_mul_assoc : (b c : ℤ) → (pos 0 *ℤ b) *ℤ c ≡ pos 0 *ℤ (b *ℤ c)
zero_mul_assoc b c = ap (λ (x : ℤ). x *ℤ c) (zero-*ℤ b) ∙ zero-*ℤ c ∙ sym (zero-*ℤ (b *ℤ c))

pub mul_assoc : (a b c : ℤ) → (a *ℤ b) *ℤ c ≡ a *ℤ (b *ℤ c)
mul_assoc (pos zero) b c = zero_mul_assoc b c
mul_assoc (pos (suc n)) b c = mul_assoc_up (pos n) b c (mul_assoc (pos n) b c)
mul_assoc (negsuc zero) b c = mul_assoc_down (pos 0) b c (zero_mul_assoc b c)
mul_assoc (negsuc (suc n)) b c = mul_assoc_down (negsuc n) b c (mul_assoc (negsuc n) b c)

pub mul_left_comm : (a b c : ℤ) → a *ℤ (b *ℤ c) ≡ b *ℤ (a *ℤ c)
mul_left_comm a b c = sym (mul_assoc a b c) ∙ ap (λ (x : ℤ). x *ℤ c) (*ℤ_comm a b) ∙ mul_assoc b a c

pub mul_one : (a : ℤ) → a *ℤ pos 1 ≡ a
unfolding one
mul_one a = *ℤ-one a

pub one_mul : (a : ℤ) → pos 1 *ℤ a ≡ a
one_mul a = *ℤ_comm (pos 1) a ∙ mul_one a

pub minus_one_mul : (a : ℤ) → negsuc 0 *ℤ a ≡ neg_ℤ a
minus_one_mul a = pred_ℤ-*ℤ (pos 0) a ∙ ap (λ (x : ℤ). x -ℤ a) (zero-*ℤ a) ∙ +ℤ_idl (neg_ℤ a)

-- ---- sizes

pub nat_abs_neg : (a : ℤ) → nat_abs (neg_ℤ a) ≡ nat_abs a
nat_abs_neg (pos zero) = refl
nat_abs_neg (pos (suc n)) = refl
nat_abs_neg (negsuc n) = refl

pub nat_abs_mul : (a b : ℤ) → nat_abs (a *ℤ b) ≡ nat_abs a * nat_abs b
nat_abs_mul (pos a) (pos b) = refl
nat_abs_mul (pos a) (negsuc b) = nat_abs_neg (pos (a * suc b))
nat_abs_mul (negsuc a) (pos b) = nat_abs_neg (pos (suc a * b))
nat_abs_mul (negsuc a) (negsuc b) = refl

pub size_zero : (a : ℤ) → nat_abs a ≡ 0 → a ≡ pos 0
size_zero (pos n) e = ap pos e
size_zero (negsuc n) e = cc

product_zero : (n m : ℕ) → 0 < m → n * m ≡ 0 → n ≡ 0
product_zero zero m h e = refl
product_zero (suc n) m h e = let p : 0 < suc n * m = mul-pos (omega arith) h in absurd (omega arith)

pub mul_right_cancel : (a b c : ℤ) → 0 < nat_abs c → a *ℤ c ≡ b *ℤ c → a ≡ b
mul_right_cancel a b c h e =
    let p : (a -ℤ b) *ℤ c ≡ pos 0 = sub_mul a b c ∙ ap (λ (x : ℤ). x -ℤ b *ℤ c) e ∙ +ℤ_invr (b *ℤ c) in
    let q : nat_abs (a -ℤ b) ≡ 0 = product_zero (nat_abs (a -ℤ b)) (nat_abs c) h (sym (nat_abs_mul (a -ℤ b) c) ∙ ap nat_abs p) in
    no_difference a b (size_zero (a -ℤ b) q)
