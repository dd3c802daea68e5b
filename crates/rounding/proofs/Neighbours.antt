-- Numbers of at most p digits with zeros after them: where they lie among multiples of 2 ^ k.
use mathlib.Core.Path.{◌≡◌, refl, sym, ap, ◌∙◌}
use mathlib.Core.Logic.{◌⊎◌, inl, inr}
use Prim.Native.Nat.{ℕ, ◌+◌, ◌-◌, ◌*◌, ◌^◌, ◌≤◌, ◌<◌}
use native.Mathlib.Nat.{le_trans, le_of_eq, le_of_lt, lt_of_lt_of_le, eq-or-lt_of_le, not-le_of_lt, lt_of_mul-lt-mul_right, mul-le-mul_right, mul_assoc, mul-one, one-mul}
use native.Mathlib.Numerals.{add-one}
use native.Mathlib.Omega.{arith}
use lib.Pow.{pow-add, pow_mono, pow-lt}
use Rattle.rounding.specs.Rounding.{Short}

-- above q multiples, where q has all of p digits, such a number is a whole number of multiples
pub above_multiple : (p q k : ℕ) → 0 < p → (k ≡ 0) ⊎ (2 ^ (p - 1) ≤ q) → (j : ℕ) → Short p j → q * 2 ^ k < j → (t : ℕ) × (j ≡ t * 2 ^ k)
above_multiple p q k P full j s l = elim full [ inl z ↦ (j, sym (ap (λ (x : ℕ). j * 2 ^ x) z ∙ mul-one j)) | inr g ↦ multiple g ]
  where
    coarse : (i : ℕ) → i ≡ s.zeros → 2 ^ (p - 1) ≤ q → k ≤ i
    coarse i z g = le_of_not_lt (λ (f : i < k). not-le_of_lt l
        (le_trans (le_of_eq (s.same ∙ ap (λ (x : ℕ). s.digits * 2 ^ x) (sym z))) (le_trans (mul-le-mul_right (2 ^ i) (le_of_lt s.few)) (le_trans (le_of_eq (sym (pow-add 2 p i)))
        (le_trans (pow_mono {i = p + i} {j = p - 1 + k} (omega arith)) (le_trans (le_of_eq (pow-add 2 (p - 1) k)) (mul-le-mul_right (2 ^ k) g)))))))
      where
        le_of_not_lt : (i < k → ⊥) → k ≤ i
        le_of_not_lt f = omega arith

    multiple : 2 ^ (p - 1) ≤ q → (t : ℕ) × (j ≡ t * 2 ^ k)
    multiple g =
        let h = s.digits in
        let i = s.zeros in
        let e : i ≡ i - k + k = let x = coarse i refl g in omega arith in
        (h * 2 ^ (i - k), s.same ∙ ap (λ (x : ℕ). h * 2 ^ x) e ∙ ap (λ (x : ℕ). h * x) (pow-add 2 (i - k) k) ∙ sym (mul_assoc h (2 ^ (i - k)) (2 ^ k)))

-- so none lies between q and q + 1 multiples
pub next : (p q k : ℕ) → 0 < p → (k ≡ 0) ⊎ (2 ^ (p - 1) ≤ q) → (j : ℕ) → Short p j → q * 2 ^ k < j → (q + 1) * 2 ^ k ≤ j
next p q k P full j s l =
    let t = above_multiple p q k P full j s l in
    let a : q < t.0 = lt_of_mul-lt-mul_right (2 ^ k) (lt_of_lt_of_le l (le_of_eq t.1)) in
    le_trans (mul-le-mul_right (2 ^ k) (le_trans (le_of_eq (add-one q)) a)) (le_of_eq (sym t.1))

-- q multiples are such a number, for a q up to 2 ^ p
pub multiples_short : (p q k : ℕ) → 0 < p → q ≤ 2 ^ p → Short p (q * 2 ^ k)
multiples_short p q k P h = elim (eq-or-lt_of_le h) [
  | inl e ↦ record { digits = 1; zeros = p + k; few = pow-lt {i = 0} {j = p} P; same = ap (λ (x : ℕ). x * 2 ^ k) e ∙ sym (pow-add 2 p k) ∙ sym (one-mul (2 ^ (p + k))) }
  | inr l ↦ record { digits = q; zeros = k; few = l; same = refl }
]
