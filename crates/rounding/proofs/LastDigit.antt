-- Of two numbers that are equally near the result is the one with an even last digit, for a fraction of at least one digit.
use mathlib.Core.Path.{◌≡◌, refl, sym, ap, ◌∙◌}
use mathlib.Core.Logic.{◌⊎◌, inl, inr}
use mathlib.Core.Bool.{Bool}
use Prim.Native.Nat.{ℕ, zero, suc, ◌+◌, ◌-◌, ◌*◌, ◌%◌, ◌^◌, ◌≤◌, ◌<◌, zero-le}
use native.Mathlib.Nat.{le_trans, le_of_eq, le_of_lt, lt_of_lt_of_le, lt_of_le_of_lt, lt_of_not-le, not-le_of_lt, zero-lt-suc, mul_assoc, mul_comm, one-mul, zero-mul, add-mul, mul-sub, mul-lt-mul_of_pos_right, eq_of_mul-eq-mul_right, eq-or-lt_of_le, pow-succ'}
use native.Mathlib.Decide.{dec_le}
use native.Mathlib.Omega.{arith}
use lib.Pow.{pow_pos}
use lib.Ieee.{Float}
use Rattle.arithmetic.specs.Width.{Width, digits, least}
use Rattle.rounding.specs.Rounding.{Size, distance, off, IsRounded}
use Rattle.rounding.proofs.Neighbours.{next, above_multiple}

-- ---- numbers between two that are equally near are nearer
between : (x y z n : ℕ) → x < y → y < z → distance z n ≡ distance x n → distance z n ≤ distance y n → ⊥
between x y z n a b e h = go (dec_le n y)
  where
    high : n ≤ y → distance z n ≤ distance y n → ⊥
    high l h = omega arith

    low : y ≤ n → distance x n ≤ distance y n → ⊥
    low l h = omega arith

    go : Dec (n ≤ y) → ⊥
    go (yes l) = high l h
    go (no f) = low (le_of_lt (lt_of_not-le f)) (le_trans (le_of_eq (sym e)) h)

even_of : (d h : ℕ) → d ≡ 2 * h → d % 2 ≡ 0
even_of d h e = omega arith

-- d multiples are an even number of times g multiples
even_multiple : (d g w half : ℕ) → 0 < w → d * w ≡ 2 * half * (g * w) → d % 2 ≡ 0
even_multiple d g w half w_pos e =
    even_of d (half * g)
    (eq_of_mul-eq-mul_right w w_pos d (2 * (half * g)) (e ∙ sym (mul_assoc (2 * half) g w) ∙ ap (λ (x : ℕ). x * w) (mul_assoc 2 half g)))

module _ (W : Width) (some : 1 ≤ W.fraction) (s : Bool) (a c : ℕ) (y : Float) (C : 0 < c) (r : IsRounded W s a c y) (j : ℕ) (z : Size W j) (other : j ≡ r.units → ⊥)
    (near : off W a c r.units ≡ off W a c j) (d k : ℕ) (few : d < 2 ^ digits W) (same : r.units ≡ d * 2 ^ k) (full : (k ≡ 0) ⊎ (2 ^ W.fraction ≤ d)) where
  P : 0 < digits W
  P = zero-lt-suc W.fraction

  one_less : digits W - 1 ≡ W.fraction
  one_less = omega arith

  filled : (q : ℕ) → (k ≡ 0) ⊎ (2 ^ W.fraction ≤ q) → (k ≡ 0) ⊎ (2 ^ (digits W - 1) ≤ q)
  filled q (inl e) = inl e
  filled q (inr l) = inr (le_trans (le_of_eq (ap (λ (x : ℕ). 2 ^ x) one_less)) l)

  tie : (half : ℕ) × (r.units ≡ 2 * half * distance r.units j)
  tie = r.even j z other near

  -- the other is above: it is a multiple of 2 ^ k too
  from_above : r.units < j → d % 2 ≡ 0
  from_above l =
      let t = above_multiple (digits W) d k P (filled d full) j z.short (lt_of_le_of_lt (le_of_eq (sym same)) l) in
      let g : distance r.units j ≡ (t.0 - d) * 2 ^ k =
      plain r.units j l ∙ ap (λ (x : ℕ). x - r.units) t.1 ∙ ap (λ (x : ℕ). t.0 * 2 ^ k - x) same ∙ sym (less_times t.0 d (2 ^ k)) in
      even_multiple d (t.0 - d) (2 ^ k) tie.0 (pow_pos k) (sym same ∙ tie.1 ∙ ap (λ (x : ℕ). 2 * tie.0 * x) g)
    where
      plain : (x y : ℕ) → x < y → distance x y ≡ y - x
      plain x y l = omega arith

      less_times : (x y k : ℕ) → (x - y) * k ≡ x * k - y * k
      less_times x y k = mul_comm (x - y) k ∙ mul-sub k x y ∙ ap (λ (p : ℕ). p - k * y) (mul_comm k x) ∙ ap (λ (q : ℕ). x * k - q) (mul_comm k y)

  -- the other is below, by one multiple of 2 ^ k
  module _ (e : ℕ) (d_is : d ≡ e + 1) (still : (k ≡ 0) ⊎ (2 ^ W.fraction ≤ e)) where
    u_is : r.units ≡ e * 2 ^ k + 2 ^ k
    u_is = same ∙ ap (λ (x : ℕ). x * 2 ^ k) d_is ∙ add-mul e 1 (2 ^ k) ∙ ap (λ (x : ℕ). e * 2 ^ k + x) (one-mul (2 ^ k))

    less : e * 2 ^ k < r.units
    less = let l = pow_pos k in let i = u_is in omega arith

    under : Size W (e * 2 ^ k)
    under = record { short = record { digits = e; zeros = k; few = let f = few in let i = d_is in omega arith; same = refl }; within = le_trans (le_of_lt less) r.number.within }

    at_most : j < r.units → j ≤ e * 2 ^ k
    at_most l = go (dec_le j (e * 2 ^ k))
      where
        go : Dec (j ≤ e * 2 ^ k) → j ≤ e * 2 ^ k
        go (yes h) = h
        go (no f) =
            absurd (not-le_of_lt l (le_trans (le_of_eq (same ∙ ap (λ (x : ℕ). x * 2 ^ k) d_is)) (next (digits W) e k P (filled e still) j z.short (lt_of_not-le f))))

    from_below : j < r.units → d % 2 ≡ 0
    from_below l = elim (eq-or-lt_of_le (at_most l)) [
      | inl i ↦
          let g : distance r.units j ≡ 1 * 2 ^ k = plain r.units j (2 ^ k) (u_is ∙ ap (λ (x : ℕ). x + 2 ^ k) (sym i)) ∙ sym (one-mul (2 ^ k)) in
          even_multiple d 1 (2 ^ k) tie.0 (pow_pos k) (sym same ∙ tie.1 ∙ ap (λ (x : ℕ). 2 * tie.0 * x) g)
      | inr m ↦
          absurd (between (j * c) (e * 2 ^ k * c) (r.units * c) (a * 2 ^ least W) (mul-lt-mul_of_pos_right m C) (mul-lt-mul_of_pos_right less C) near (r.closest (e * 2 ^ k) under))
    ]
      where
        plain : (x y w : ℕ) → x ≡ y + w → distance x y ≡ w
        plain x y w e = omega arith

  -- the leading digit alone is even, as there is one after it
  leading : d ≡ 2 ^ W.fraction → d % 2 ≡ 0
  leading e = even_of d (2 ^ (W.fraction - 1)) (e ∙ ap (λ (x : ℕ). 2 ^ x) back ∙ pow-succ' 2 (W.fraction - 1))
    where
      back : W.fraction ≡ suc (W.fraction - 1)
      back = let h = some in omega arith

  below_case : j < r.units → (k ≡ 0) ⊎ (2 ^ W.fraction ≤ d) → d % 2 ≡ 0
  below_case l (inl z) = from_below (d - 1) (back d (pos_d d same l)) (inl z) l
    where
      back : (d : ℕ) → 0 < d → d ≡ d - 1 + 1
      back d h = omega arith

      pos_d : (d : ℕ) → r.units ≡ d * 2 ^ k → j < r.units → 0 < d
      pos_d zero e l = lt_of_le_of_lt zero-le (lt_of_lt_of_le l (le_of_eq (e ∙ zero-mul (2 ^ k))))
      pos_d (suc d) e l = zero-lt-suc d
  below_case l (inr h) = elim (eq-or-lt_of_le h) [
    | inl e ↦ leading (sym e)
    | inr m ↦ from_below (d - 1) (omega arith) (inr (omega arith)) l
  ]

  pub last_digit : d % 2 ≡ 0
  last_digit = go (dec_le j r.units)
    where
      go : Dec (j ≤ r.units) → d % 2 ≡ 0
      go (yes h) = elim (eq-or-lt_of_le h) [ inl e ↦ absurd (other e) | inr l ↦ below_case l full ]
      go (no f) = from_above (lt_of_not-le f)
