-- How two numbers compare, and how many binary digits a number has.
use mathlib.Core.Path.{◌≡◌, refl, sym, ap, subst, ◌∙◌}
use mathlib.Core.Logic.{◌⊎◌, inl, inr}
use mathlib.Core.Bool.{not}
use Prim.Native.Nat.{ℕ, suc, ◌+◌, ◌%◌, ◌^◌, ◌≤◌, ◌<◌, compare, Ordering}
use native.Mathlib.Nat.{le_of_eq, le_of_lt, le_antisymm, lt_of_lt_of_le, lt_of_not-le, not-le_of_lt, lt_irrefl}
use native.Mathlib.Decide.{dec_le}
use native.Mathlib.Omega.{arith}
use lib.Dec.{T, is_le, compare_is_eq, leb, eqb, le→leb, eqb→eq, eqb_refl, not_T}
use lib.Arith.{lt→nleb}
use lib.Pow.{pow_mono}
use lib.Ieee.{size, nearest}
use lib.Ieee.Digits.{size-lt, size-le}

-- ---- `compare`
pub less : (a b : ℕ) → a < b → compare a b ≡ Ordering.lt
less a b h = go (compare a b) (lt→leb a b h) (not_T (eqb a b) (λ t. lt_irrefl a (lt_of_lt_of_le h (le_of_eq (sym (eqb→eq a b t))))))
  where
    lt→leb : (a b : ℕ) → a < b → T (leb a b)
    lt→leb a b h = le→leb a b (omega arith)

    go : (o : Ordering) → T (is_le o) → T (not (compare_is_eq o)) → o ≡ Ordering.lt
    go Ordering.lt t u = refl
    go Ordering.eq t u = absurd u
    go Ordering.gt t u = absurd t

pub more : (a b : ℕ) → b < a → compare a b ≡ Ordering.gt
more a b h = go (compare a b) (lt→nleb a b h)
  where
    go : (o : Ordering) → T (not (is_le o)) → o ≡ Ordering.gt
    go Ordering.lt t = absurd t
    go Ordering.eq t = absurd t
    go Ordering.gt t = refl

pub same : (a b : ℕ) → a ≡ b → compare a b ≡ Ordering.eq
same a b h = go (compare a b) (subst (λ (x : ℕ). T (eqb a x)) h (eqb_refl a))
  where
    go : (o : Ordering) → T (compare_is_eq o) → o ≡ Ordering.eq
    go Ordering.lt t = absurd t
    go Ordering.eq t = refl
    go Ordering.gt t = absurd t

-- `nearest` gives q only where a is at most b, and q + 1 only where b is at most a
pub nearest_cases : (q a b : ℕ) → ((nearest q (compare a b) ≡ q) × (a ≤ b)) ⊎ ((nearest q (compare a b) ≡ suc q) × (b ≤ a))
nearest_cases q a b = go (dec_le (suc a) b) (dec_le (suc b) a)
  where
    tie : (q : ℕ) → (q + q % 2 ≡ q) ⊎ (q + q % 2 ≡ suc q)
    tie q = pick (dec_le (q % 2) 0)
      where
        pick : Dec (q % 2 ≤ 0) → (q + q % 2 ≡ q) ⊎ (q + q % 2 ≡ suc q)
        pick (yes h) = inl (omega arith)
        pick (no f) = inr (omega arith)

    go : Dec (suc a ≤ b) → Dec (suc b ≤ a) → ((nearest q (compare a b) ≡ q) × (a ≤ b)) ⊎ ((nearest q (compare a b) ≡ suc q) × (b ≤ a))
    go (yes l) d = inl (ap (λ (o : Ordering). nearest q o) (less a b l), le_of_lt l)
    go (no f) (yes l) = inr (ap (λ (o : Ordering). nearest q o) (more a b l), le_of_lt l)
    go (no f) (no g) =
        let e : a ≡ b = omega arith in
        let c : nearest q (compare a b) ≡ q + q % 2 = ap (λ (o : Ordering). nearest q o) (same a b e) in
        elim (tie q) [ inl t ↦ inl (c ∙ t, le_of_eq e) | inr t ↦ inr (c ∙ t, le_of_eq (sym e)) ]

-- ---- a number's digits
pub size_of : (n j : ℕ) → 2 ^ j ≤ n → n < 2 ^ suc j → size n ≡ suc j
size_of n j h k = le_antisymm (size-le n (suc j) k) (lt_of_not-le (λ (g : size n ≤ j). not-le_of_lt (lt_of_lt_of_le (size-lt n) (pow_mono g)) h))
