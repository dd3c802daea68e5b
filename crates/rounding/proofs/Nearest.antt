-- `round_at` is the nearest number, and at a tie the even one: for every width of at least one digit.
use mathlib.Core.Path.{◌≡◌, refl, sym, ap, ◌∙◌, subst}
use mathlib.Core.Logic.{◌⊎◌, inl, inr}
use mathlib.Core.Bool.{Bool, true, false, cond}
use Prim.Native.Nat.{ℕ, suc, ◌+◌, ◌-◌, ◌*◌, ◌/◌, ◌%◌, ◌^◌, ◌≤◌, ◌<◌, compare, Ordering}
use native.Mathlib.Nat.{le_trans, le_of_eq, le_of_lt, lt_of_lt_of_le, lt_of_not-le, zero-lt-suc, mul-pos, mul_assoc, mul_comm, one-mul, mul-le-mul_right, eq_of_mul-eq-mul_right, le-div_iff_mul-le, div-lt_iff_lt-mul, div-mul-le_self, div-div-eq-div-mul, add-mul}
use native.Mathlib.Decide.{dec_le}
use native.Mathlib.Numerals.{add-one}
use native.Mathlib.Omega.{arith}
use borrow.Author.Tests.{leb-true, leb-false}
use lib.Dec.{leb}
use lib.Pow.{pow_pos, pow-add, pow-lt}
use lib.Ieee.{Float, nan, inf, fin, size, nearest, odd}
use lib.Ieee.Digits.{size_reaches}
use lib.Ieee.Exact.{HasValue, odd_sign}
use lib.Ieee.Fits.{kept-lt}
use Rattle.arithmetic.specs.Width.{Width, digits, least, past, of_units}
use Rattle.rounding.specs.Rounding.{Short, Size, Counts, distance, IsRounded, twice, half_way, nearer, round_at}
use Rattle.rounding.proofs.Digits.{same, nearest_cases}
use Rattle.rounding.proofs.Neighbours.{next, multiples_short}

-- ---- n lies from x up to y, and z doesn't lie between these: which is nearer to n
low_nearer : (x y z n : ℕ) → x ≤ n → n < y → 2 * n ≤ x + y → (z ≤ x) ⊎ (y ≤ z) → distance x n ≤ distance z n
low_nearer x y z n a b h (inl l) = omega arith
low_nearer x y z n a b h (inr l) = omega arith

high_nearer : (x y z n : ℕ) → x ≤ n → n < y → x + y ≤ 2 * n → (z ≤ x) ⊎ (y ≤ z) → distance y n ≤ distance z n
high_nearer x y z n a b h (inl l) = omega arith
high_nearer x y z n a b h (inr l) = omega arith

low_tie : (x y z n : ℕ) → x ≤ n → n < y → 2 * n ≤ x + y → (z ≤ x) ⊎ (y ≤ z) → (z ≡ x → ⊥) → distance x n ≡ distance z n → (z ≡ y) × (2 * n ≡ x + y)
low_tie x y z n a b h (inl l) d e = absurd (d (omega arith))
low_tie x y z n a b h (inr l) d e = (omega arith, omega arith)

high_tie : (x y z n : ℕ) → x ≤ n → n < y → x + y ≤ 2 * n → (z ≤ x) ⊎ (y ≤ z) → (z ≡ y → ⊥) → distance y n ≡ distance z n → (z ≡ x) × (2 * n ≡ x + y)
high_tie x y z n a b h (inl l) d e = (omega arith, omega arith)
high_tie x y z n a b h (inr l) d e = absurd (d (omega arith))

-- ---- of q and q + 1 multiples of w, the even one
gap : (q w : ℕ) → (q + 1) * w ≡ q * w + w
gap q w = add-mul q 1 w ∙ ap (λ (x : ℕ). q * w + x) (one-mul w)

even_low : (q w v j : ℕ) → q % 2 ≡ 0 → v ≡ q * w → j ≡ (q + 1) * w → (half : ℕ) × (v ≡ 2 * half * distance v j)
even_low q w v j z a b = (q / 2, a ∙ ap (λ (x : ℕ). x * w) halves ∙ ap (λ (x : ℕ). 2 * (q / 2) * x) between)
  where
    halves : q ≡ 2 * (q / 2)
    halves = omega arith

    between : w ≡ distance v j
    between = let g = gap q w in omega arith

even_high : (q w v j : ℕ) → q % 2 ≡ 1 → v ≡ (q + 1) * w → j ≡ q * w → (half : ℕ) × (v ≡ 2 * half * distance v j)
even_high q w v j z a b = ((q + 1) / 2, a ∙ ap (λ (x : ℕ). x * w) halves ∙ ap (λ (x : ℕ). 2 * ((q + 1) / 2) * x) between)
  where
    halves : q + 1 ≡ 2 * ((q + 1) / 2)
    halves = omega arith

    between : w ≡ distance v j
    between = let g = gap q w in omega arith

-- ---- q or q + 1, as a compares with b
pick : (q a b n x : ℕ) → (a ≤ b → 2 * n ≤ x) → (b ≤ a → x ≤ 2 * n) → ((nearest q (compare a b) ≡ q) × (2 * n ≤ x)) ⊎ ((nearest q (compare a b) ≡ q + 1) × (x ≤ 2 * n))
pick q a b n x f g = elim (nearest_cases q a b) [ inl d ↦ inl (d.0, f d.1) | inr d ↦ inr (d.0 ∙ sym (add-one q), g d.1) ]

level : (q a b : ℕ) → a ≡ b → nearest q (compare a b) ≡ q + q % 2
level q a b e = ap (λ (o : Ordering). nearest q o) (same a b e)

-- ---- n / c units, to p digits
module _ (p n c : ℕ) (P : 0 < p) (C : 0 < c) where
  abbrev k : ℕ
  k = size (n / c) - p

  abbrev w : ℕ
  w = 2 ^ k

  abbrev u : ℕ
  u = c * 2 ^ k

  abbrev q : ℕ
  q = n / u

  abbrev Q : ℕ
  Q = nearer n u q

  abbrev v : ℕ
  v = Q * w

  u_pos : 0 < u
  u_pos = mul-pos C (pow_pos k)

  times_c : (x : ℕ) → x * w * c ≡ x * u
  times_c x = mul_assoc x w c ∙ ap (λ (z : ℕ). x * z) (mul_comm w c)

  from : q * w * c ≤ n
  from = le_trans (le_of_eq (times_c q)) (div-mul-le_self n u)

  to : n < (q + 1) * w * c
  to = lt_of_lt_of_le ((div-lt_iff_lt-mul u_pos).0 (one_more q)) (le_of_eq (sym (times_c (q + 1))))
    where
      one_more : (q : ℕ) → q < q + 1
      one_more q = omega arith

  middle : (2 * q + 1) * u ≡ q * w * c + (q + 1) * w * c
  middle = let a = times_c q in let b = times_c (q + 1) in ap (λ (x : ℕ). x * u) (twice q) ∙ add-mul q (q + 1) u ∙ omega arith
    where
      twice : (q : ℕ) → 2 * q + 1 ≡ q + (q + 1)
      twice q = omega arith

  few : q < 2 ^ p
  few = subst (λ (x : ℕ). x < 2 ^ p) (div-div-eq-div-mul n c w) (kept-lt p (n / c))

  full : (k ≡ 0) ⊎ (2 ^ (p - 1) ≤ q)
  full = go (dec_le (size (n / c)) p)
    where
      go : Dec (size (n / c) ≤ p) → (k ≡ 0) ⊎ (2 ^ (p - 1) ≤ q)
      go (yes h) = inl (omega arith)
      go (no f) =
          let a : 2 ^ (p - 1) * w ≤ n / c = le_trans (le_of_eq (sym (pow-add 2 (p - 1) k))) (size_reaches (n / c) (p - 1 + k) (omega arith)) in
          inr (subst (λ (x : ℕ). 2 ^ (p - 1) ≤ x) (div-div-eq-div-mul n c w) ((le-div_iff_mul-le (pow_pos k)).1 a))

  outside : (j : ℕ) → Short p j → (j * c ≤ q * w * c) ⊎ ((q + 1) * w * c ≤ j * c)
  outside j s = go (dec_le j (q * w))
    where
      go : Dec (j ≤ q * w) → (j * c ≤ q * w * c) ⊎ ((q + 1) * w * c ≤ j * c)
      go (yes h) = inl (mul-le-mul_right c h)
      go (no f) = inr (mul-le-mul_right c (next p q k P full j s (lt_of_not-le f)))

  -- which of the two, and that it is the nearer one
  picked : ((Q ≡ q) × (2 * n ≤ q * w * c + (q + 1) * w * c)) ⊎ ((Q ≡ q + 1) × (q * w * c + (q + 1) * w * c ≤ 2 * n))
  picked = let e = middle in pick q (twice n) (half_way u q) n (q * w * c + (q + 1) * w * c) (λ (h : twice n ≤ half_way u q). omega arith) (λ (h : half_way u q ≤ twice n). omega arith)

  kept_le : Q ≤ 2 ^ p
  kept_le = let f = few in elim picked [ inl d ↦ le_trans (le_of_eq d.0) (le_of_lt f) | inr d ↦ le_trans (le_of_eq (d.0 ∙ add-one q)) f ]

  v_short : Short p v
  v_short = multiples_short p Q k P kept_le

  closest : (j : ℕ) → Short p j → distance (v * c) n ≤ distance (j * c) n
  closest j s = elim picked [
    | inl d ↦ subst (λ (x : ℕ). distance (x * w * c) n ≤ distance (j * c) n) (sym d.0) (low_nearer (q * w * c) ((q + 1) * w * c) (j * c) n from to d.1 (outside j s))
    | inr d ↦ subst (λ (x : ℕ). distance (x * w * c) n ≤ distance (j * c) n) (sym d.0) (high_nearer (q * w * c) ((q + 1) * w * c) (j * c) n from to d.1 (outside j s))
  ]

  -- half way between the two
  at_tie : 2 * n ≡ q * w * c + (q + 1) * w * c → Q ≡ q + q % 2
  at_tie e = let m = middle in level q (twice n) (half_way u q) (omega arith)

  even : (j : ℕ) → Short p j → (j ≡ v → ⊥) → distance (v * c) n ≡ distance (j * c) n → (half : ℕ) × (v ≡ 2 * half * distance v j)
  even j s d e = elim picked [
    | inl h ↦
        let v_is : v ≡ q * w = ap (λ (x : ℕ). x * w) h.0 in
        let e' : distance (q * w * c) n ≡ distance (j * c) n = ap (λ (x : ℕ). distance (x * c) n) (sym v_is) ∙ e in
        let t = low_tie (q * w * c) ((q + 1) * w * c) (j * c) n from to h.1 (outside j s) (λ z. d (eq_of_mul-eq-mul_right c C j (q * w) z ∙ sym v_is)) e' in
        even_low q w v j (zero_tail q (sym h.0 ∙ at_tie t.1)) v_is (eq_of_mul-eq-mul_right c C j ((q + 1) * w) t.0)
    | inr h ↦
        let v_is : v ≡ (q + 1) * w = ap (λ (x : ℕ). x * w) h.0 in
        let e' : distance ((q + 1) * w * c) n ≡ distance (j * c) n = ap (λ (x : ℕ). distance (x * c) n) (sym v_is) ∙ e in
        let t = high_tie (q * w * c) ((q + 1) * w * c) (j * c) n from to h.1 (outside j s) (λ z. d (eq_of_mul-eq-mul_right c C j ((q + 1) * w) z ∙ sym v_is)) e' in
        even_high q w v j (one_tail q (sym h.0 ∙ at_tie t.1)) v_is (eq_of_mul-eq-mul_right c C j (q * w) t.0)
  ]
    where
      zero_tail : (q : ℕ) → q ≡ q + q % 2 → q % 2 ≡ 0
      zero_tail q e = omega arith

      one_tail : (q : ℕ) → q + 1 ≡ q + q % 2 → q % 2 ≡ 1
      one_tail q e = omega arith

-- ---- where the nearest is x or more, x is the nearest of those up to x
under : (x n : ℕ) → x ≤ n → distance x n + x ≡ n
under x n h = omega arith

beyond : (x n : ℕ) → n ≤ x → distance x n + n ≡ x
beyond x n h = omega arith

-- at x units or more the nearest is x itself, where n is below it
reached : (r x n : ℕ) → x ≤ r → n ≤ x → distance r n ≤ distance x n → r ≡ x
reached r x n a l h = let d = beyond r n (le_trans l a) in let e = beyond x n l in plain (distance r n) (distance x n) h d e
  where
    plain : (d e : ℕ) → d ≤ e → d + n ≡ r → e + n ≡ x → r ≡ x
    plain d e h i j = omega arith

over_nearer : (r x z n : ℕ) → x ≤ r → z ≤ x → distance r n ≤ distance x n → distance r n ≤ distance z n → distance x n ≤ distance z n
over_nearer r x z n a b h g = go (dec_le x n)
  where
    go : Dec (x ≤ n) → distance x n ≤ distance z n
    go (yes l) = omega arith
    go (no f) = subst (λ (y : ℕ). distance y n ≤ distance z n) (reached r x n a (le_of_lt (lt_of_not-le f)) h) g

over_tie : (r x z n : ℕ) → x ≤ r → z ≤ x → distance r n ≤ distance x n → (z ≡ x → ⊥) → distance x n ≡ distance z n → r ≡ x
over_tie r x z n a b h d e = go (dec_le x n)
  where
    plain : (i j : ℕ) → i ≡ j → i + x ≡ n → j + z ≡ n → z ≡ x
    plain i j e f g = omega arith

    go : Dec (x ≤ n) → r ≡ x
    go (yes l) = absurd (d (plain (distance x n) (distance z n) e (under x n l) (under z n (le_trans b l))))
    go (no f) = reached r x n a (le_of_lt (lt_of_not-le f)) h

-- ---- any width
pub past_short : (W : Width) → Short (digits W) (past W)
past_short W = record { digits = 1; zeros = least W + suc W.power; few = pow-lt {i = 0} {j = digits W} (zero-lt-suc W.fraction); same = sym (one-mul (past W)) }

pub counted : (W : Width) (y : Float) (s : Bool) (j : ℕ) → HasValue y s j (2 ^ least W) → j < past W → Counts W y s j
counted W nan s j h l = absurd h
counted W (inf t) s j h l = absurd h
counted W (fin t m e) s j h l = (h.0, h.1, l)

module _ (W : Width) (s : Bool) (a c : ℕ) (C : 0 < c) where
  abbrev p : ℕ
  p = digits W

  abbrev n : ℕ
  n = a * 2 ^ least W

  abbrev P : 0 < p
  P = zero-lt-suc W.fraction

  abbrev found : ℕ
  found = v p n c P C

  rounded_below : found < past W → IsRounded W s a c (odd (suc p) s (Q p n c P C) (k p n c P C) (least W))
  rounded_below l = record {
    units = found;
    counts = counted W (odd (suc p) s (Q p n c P C) (k p n c P C) (least W)) s found (odd_sign (suc p) s (Q p n c P C) (k p n c P C) (least W)) l;
    number = record { short = v_short p n c P C; within = le_of_lt l };
    closest = λ j z. closest p n c P C j z.short;
    even = λ j z d e. even p n c P C j z.short d e;
  }

  rounded_past : past W ≤ found → IsRounded W s a c (inf s)
  rounded_past l =
      let g = closest p n c P C (past W) (past_short W) in
      let x : past W * c ≤ found * c = mul-le-mul_right c l in
      record {
        units = past W;
        counts = (refl, refl);
        number = record { short = past_short W; within = le_of_eq refl };
        closest = λ j z. over_nearer (found * c) (past W * c) (j * c) n x (mul-le-mul_right c z.within) g (closest p n c P C j z.short);
        even = λ j z d e.
            let o = over_tie (found * c) (past W * c) (j * c) n x (mul-le-mul_right c z.within) g (λ i. d (eq_of_mul-eq-mul_right c C j (past W) i)) e in
            at_past j z d e (eq_of_mul-eq-mul_right c C found (past W) o);
      }
    where
      at_past : (j : ℕ) → Size W j → (j ≡ past W → ⊥) → distance (past W * c) n ≡ distance (j * c) n → found ≡ past W → (half : ℕ) × (past W ≡ 2 * half * distance (past W) j)
      at_past j z d e i =
          subst (λ (x : ℕ). (half : ℕ) × (x ≡ 2 * half * distance x j)) i
          (even p n c P C j z.short (λ (f : j ≡ found). d (f ∙ i)) (ap (λ (x : ℕ). distance (x * c) n) i ∙ e))

  pub round_at_rounded : IsRounded W s a c (round_at W s a c)
  unfolding round_at of_units
  round_at_rounded = go (leb (past W) found) refl
    where
      go : (t : Bool) → leb (past W) found ≡ t → IsRounded W s a c (cond t (inf s) (odd (suc p) s (Q p n c P C) (k p n c P C) (least W)))
      go true h = rounded_past (leb-true (past W) found h)
      go false h = rounded_below (leb-false (past W) found h)
