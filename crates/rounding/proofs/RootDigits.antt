-- The root of a fraction, rounded to any width, from the digits of a whole root.
use mathlib.Core.Path.{◌≡◌, refl, sym, ap, ◌∙◌, subst}
use mathlib.Core.Logic.{◌⊎◌, inl, inr}
use mathlib.Core.Bool.{false}
use Prim.Native.Nat.{ℕ, suc, ◌+◌, ◌-◌, ◌*◌, ◌/◌, ◌%◌, ◌^◌, ◌≤◌, ◌<◌, compare, Ordering}
use native.Mathlib.Nat.{le_trans, le_of_eq, lt_of_lt_of_le, lt_of_le_of_lt, mul-pos, mul_assoc, mul_comm, mul_left_comm, mul-le-mul, mul-le-mul_right, mul-lt-mul_of_pos_right, mul-div_cancel, suc-add}
use native.Mathlib.Decide.{dec_le}
use native.Mathlib.Omega.{arith}
use lib.Pow.{pow_pos, pow-add}
use lib.Ieee.{Float, size, nearest}
use Rattle.arithmetic.specs.Width.{Width, digits, least, of_units}
use Rattle.arithmetic.specs.Root.{root, nearest_root}
use Rattle.rounding.specs.Square.{Root}
use Rattle.rounding.proofs.Square.{square_twice, square_more, root_is, root_ge, root_lt, root_unique}
use Rattle.rounding.proofs.Digits.{less, more, size_of}

-- ---- the same with n and k as they come
abbrev at : Width → ℕ → ℕ → ℕ → Float
at W n c k =
    of_units W false (nearest (root (n / (c * (2 ^ k * 2 ^ k)))) (compare (4 * n) ((2 * root (n / (c * (2 ^ k * 2 ^ k))) + 1) * (2 * root (n / (c * (2 ^ k * 2 ^ k))) + 1) * (c * (2 ^ k * 2 ^ k))))) k

nearest_root_is : (W : Width) (a c : ℕ) → nearest_root W a c ≡ at W (a * 2 ^ least W * 2 ^ least W) c (size (root (a * 2 ^ least W * 2 ^ least W / c)) - digits W)
unfolding nearest_root
nearest_root_is W a c = refl

square_pow : (j k : ℕ) → 2 ^ (j + k) * 2 ^ (j + k) ≡ 2 ^ j * 2 ^ j * (2 ^ k * 2 ^ k)
square_pow j k = simp (pow-add, mul_assoc, mul_left_comm)

same_half : (r q : ℕ) → r % 2 ≡ 0 → r / 2 ≡ q → (2 * q ≡ r) × (q ≡ (r + 1) / 2)
same_half r q h e = (omega arith, omega arith)

odd_half : (r q : ℕ) → r % 2 ≡ 1 → r / 2 ≡ q → (2 * q + 1 ≡ r) × (suc q ≡ (r + 1) / 2)
odd_half r q h e = (omega arith, omega arith)

even_or_odd : (r : ℕ) → (r % 2 ≡ 0) ⊎ (r % 2 ≡ 1)
even_or_odd r = go (dec_le (r % 2) 0)
  where
    go : Dec (r % 2 ≤ 0) → (r % 2 ≡ 0) ⊎ (r % 2 ≡ 1)
    go (yes h) = inl (omega arith)
    go (no f) = inr (omega arith)

-- half of the whole root of 4 * B is the whole root of B
half_root : (B r : ℕ) → Root (4 * B) r → Root B (r / 2)
half_root B r R =
    let q = r / 2 in
    let a = square_twice q in
    let b = square_more q in
    let l : (2 * q) * (2 * q) ≤ r * r = mul-le-mul {n₁ = 2 * q} {m₁ = 2 * q} {n₂ = r} {m₂ = r} (omega arith) (omega arith) in
    let h : (r + 1) * (r + 1) ≤ (2 * (q + 1)) * (2 * (q + 1)) = mul-le-mul {n₁ = r + 1} {m₁ = r + 1} {n₂ = 2 * (q + 1)} {m₂ = 2 * (q + 1)} (omega arith) (omega arith) in
    let d = square_twice (q + 1) in
    (omega arith, omega arith)

-- 4 * B is no odd number's square
no_tie : (B q : ℕ) → (2 * q + 1) * (2 * q + 1) ≤ 4 * B → (2 * q + 1) * (2 * q + 1) < 4 * B
no_tie B q h =
    let a = square_twice q in
    let b = square_more (2 * q) in
    omega arith

-- The radicand n / c is B * 4 ^ k, B's root having p + 1 digits, and r is the whole root of 4 * B: one digit more.
-- The root of 4 * B is no odd whole number, so the last digit of r says which way to round.
module _ (W : Width) (n c B k r : ℕ) (C : 0 < c) (lo : 2 ^ W.fraction * 2 ^ W.fraction ≤ B) (hi : B < 2 ^ digits W * 2 ^ digits W) (n_is : n ≡ B * (c * (2 ^ k * 2 ^ k))) (R : Root (4 * B) r) where
  kk : 0 < 2 ^ k * 2 ^ k
  kk = mul-pos (pow_pos k) (pow_pos k)

  over_c : n / c ≡ B * (2 ^ k * 2 ^ k)
  over_c = ap (λ (x : ℕ). x / c) (n_is ∙ ap (λ (x : ℕ). B * x) (mul_comm c (2 ^ k * 2 ^ k)) ∙ sym (mul_assoc B (2 ^ k * 2 ^ k) c)) ∙ mul-div_cancel (B * (2 ^ k * 2 ^ k)) C

  over_u : n / (c * (2 ^ k * 2 ^ k)) ≡ B
  over_u = ap (λ (x : ℕ). x / (c * (2 ^ k * 2 ^ k))) n_is ∙ mul-div_cancel B (mul-pos C kk)

  abbrev p : ℕ
  p = W.fraction

  digits_are : size (root (n / c)) ≡ suc (p + k)
  digits_are =
      let w = root_is (n / c) in
      let x = root (n / c) in
      let l1 : 2 ^ (p + k) * 2 ^ (p + k) ≤ n / c = le_trans (le_of_eq (square_pow p k)) (le_trans (mul-le-mul_right (2 ^ k * 2 ^ k) lo) (le_of_eq (sym over_c))) in
      let h1 : n / c < 2 ^ suc (p + k) * 2 ^ suc (p + k) =
      lt_of_le_of_lt (le_of_eq over_c) (lt_of_lt_of_le (mul-lt-mul_of_pos_right hi kk) (le_of_eq (sym (square_pow (suc p) k) ∙ ap (λ (x : ℕ). 2 ^ x * 2 ^ x) (suc-add p k)))) in
      size_of x (p + k) (root_ge (n / c) x (2 ^ (p + k)) w l1) (root_lt (n / c) x (2 ^ suc (p + k)) w h1)

  dropped : size (root (n / c)) - suc p ≡ k
  dropped = let e = digits_are in omega arith

  q_is : root (n / (c * (2 ^ k * 2 ^ k))) ≡ r / 2
  q_is = ap root over_u ∙ root_unique B (root B) (r / 2) (root_is B) (half_root B r R)

  four_n : 4 * n ≡ 4 * B * (c * (2 ^ k * 2 ^ k))
  four_n = ap (λ (x : ℕ). 4 * x) n_is ∙ sym (mul_assoc 4 B (c * (2 ^ k * 2 ^ k)))

  u_pos : 0 < c * (2 ^ k * 2 ^ k)
  u_pos = mul-pos C kk

  picked : (q : ℕ) → r / 2 ≡ q → nearest q (compare (4 * n) ((2 * q + 1) * (2 * q + 1) * (c * (2 ^ k * 2 ^ k)))) ≡ (r + 1) / 2
  picked q e = go (even_or_odd r)
    where
      go : (r % 2 ≡ 0) ⊎ (r % 2 ≡ 1) → nearest q (compare (4 * n) ((2 * q + 1) * (2 * q + 1) * (c * (2 ^ k * 2 ^ k)))) ≡ (r + 1) / 2
      go (inl h) =
          let s = same_half r q h e in
          let l : 4 * B < (2 * q + 1) * (2 * q + 1) = subst (λ (x : ℕ). 4 * B < (x + 1) * (x + 1)) (sym s.0) R.1 in
          ap (λ (o : Ordering). nearest q o)
          (less (4 * n) ((2 * q + 1) * (2 * q + 1) * (c * (2 ^ k * 2 ^ k))) (lt_of_le_of_lt (le_of_eq four_n) (mul-lt-mul_of_pos_right l u_pos)))
          ∙ s.1
      go (inr h) =
          let s = odd_half r q h e in
          let l : (2 * q + 1) * (2 * q + 1) < 4 * B = no_tie B q (subst (λ (x : ℕ). x * x ≤ 4 * B) (sym s.0) R.0) in
          ap (λ (o : Ordering). nearest q o)
          (more (4 * n) ((2 * q + 1) * (2 * q + 1) * (c * (2 ^ k * 2 ^ k))) (lt_of_lt_of_le (mul-lt-mul_of_pos_right l u_pos) (le_of_eq (sym four_n))))
          ∙ s.1

  pub at_is : at W n c (size (root (n / c)) - digits W) ≡ of_units W false ((r + 1) / 2) k
  at_is =
      ap (λ (j : ℕ). at W n c j) dropped
      ∙ ap (λ (q : ℕ). of_units W false (nearest q (compare (4 * n) ((2 * q + 1) * (2 * q + 1) * (c * (2 ^ k * 2 ^ k))))) k) q_is
      ∙ ap (λ (q : ℕ). of_units W false q k) (picked (r / 2) refl)

pub root_by_digits : (W : Width) (a c B k r : ℕ) → 0 < c → 2 ^ W.fraction * 2 ^ W.fraction ≤ B → B < 2 ^ digits W * 2 ^ digits W
    → a * 2 ^ least W * 2 ^ least W ≡ B * (c * (2 ^ k * 2 ^ k)) → Root (4 * B) r → nearest_root W a c ≡ of_units W false ((r + 1) / 2) k
root_by_digits W a c B k r C lo hi e R = nearest_root_is W a c ∙ at_is W (a * 2 ^ least W * 2 ^ least W) c B k r C lo hi e R
