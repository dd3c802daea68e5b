-- "Sqrt is the nearest f64 to the exact root, proved over whole numbers; of -0 it is -0": for any width. In units the radicand a / c is n / c, a square of
-- units. A value of the width is j units, where j has at most p digits with zeros after them (`Short`). The result's v is nearer to the root than j is
-- where the root lies on v's side of half way between them: 4 n < (v + j)² c for a j above v, and the other way round for one below. No root of a value
-- lies half way, so v is nearer than any other value.
use mathlib.Core.Path.{◌≡◌, refl, sym, ap, ap₂, ◌∙◌, subst}
use mathlib.Core.Logic.{◌⊎◌, inl, inr}
use mathlib.Core.Bool.{Bool, true, false, not, cond}
use Prim.Native.Nat.{ℕ, zero-le, zero, suc, ◌+◌, ◌-◌, ◌*◌, ◌/◌, ◌^◌, ◌≤◌, ◌<◌, compare}
use native.Mathlib.Nat.{mul-le-mul_left, eq_of_mul-eq-mul_right, mul-lt-mul_of_pos_left, le_trans, le_of_eq, le_of_lt, lt_of_lt_of_le, lt_of_le_of_lt, lt_of_not-le, not-le_of_lt, mul-pos, mul-one, mul_assoc, mul_comm, mul_left_comm, add-mul, mul-le-mul, mul-le-mul_right, mul-lt-mul_of_pos_right, le-div_iff_mul-le, div-lt_iff_lt-mul, suc-mul, zero-lt-suc, add_comm, pow-succ'}
use native.Mathlib.Decide.{dec_le}
use native.Mathlib.Numerals.{add-one}
use native.Mathlib.Omega.{arith}
use borrow.Author.Tests.{lt-leb}
use lib.Arith.{lt_of_le-ne}
use lib.Dec.{T, lit≤}
use lib.IntN.{ℤ}
use lib.Pow.{pow_pos, pow-add, pow_mono}
use lib.Ieee.{Float, nan, inf, fin, Format, binary32, binary64, up, down, size, nearest, odd, fits, is_nan}
use lib.Ieee.Digits.{size-lt, size_reaches}
use lib.Ieee.Exact.{odd_sign}
use lib.Ieee.Fits.{down_pos, nearest-le, nan-fits, inf-fits}
use Rattle.arithmetic.specs.Width.{Width, width, digits, least, past, of_units}
use Rattle.arithmetic.specs.Root.{root, nearest_root, sqrt_at, sqrt}
use Rattle.rounding.proofs.Square.{square_more, square_twice, root_is, root_ge, root_lt}
use Rattle.rounding.proofs.Digits.{nearest_cases}
use Rattle.rounding.specs.Rounding.{Short, Held, Counts}
use Rattle.rounding.specs.Exact.{sign}
use Rattle.rounding.specs.NearestRoot.{squared_units, NearerRoot, IsNearestRoot}
use Rattle.rounding.proofs.Nearest.{counted}
use Rattle.rounding.proofs.Rounded.{units_are}
use Rattle.rounding.proofs.Neighbours.{next, multiples_short}
use Rattle.rounding.proofs.Value.{held_units, fits_says, fits_size, units_fits}

-- the digits at the end of the root that no value of its size has, and the root without them
abbrev pub dropped : ℕ → ℕ → ℕ → ℕ
dropped p n c = size (root (n / c)) - p

abbrev pub lower : ℕ → ℕ → ℕ → ℕ
lower n c k = root (n / (c * (2 ^ k * 2 ^ k)))

abbrev pub kept : ℕ → ℕ → ℕ → ℕ
kept n c k = nearest (lower n c k) (compare (4 * n) ((2 * lower n c k + 1) * (2 * lower n c k + 1) * (c * (2 ^ k * 2 ^ k))))

-- ---- squares of multiples
scaled_square : (z w c : ℕ) → z * w * (z * w) * c ≡ z * z * (c * (w * w))
scaled_square z w c = simp (mul_assoc, mul_comm, mul_left_comm)

square_le : (x y c : ℕ) → x ≤ y → x * x * c ≤ y * y * c
square_le x y c h = mul-le-mul_right c (mul-le-mul h h)

square_lt : (x y c : ℕ) → 0 < c → x < y → x * x * c < y * y * c
square_lt x y c C h = mul-lt-mul_of_pos_right (lt_of_le_of_lt (mul-le-mul_right x (le_of_lt h)) (mul-lt-mul_of_pos_left h (lt_of_le_of_lt zero-le h))) C

-- ---- no odd number's square is an even number, or a number of fewer digits
odd_square : (q x : ℕ) → (2 * q + 1) * (2 * q + 1) ≡ 2 * x → ⊥
odd_square q x e = let a = square_more (2 * q) in let b = square_twice q in omega arith

-- a * 2 ^ i ≡ b * 2 ^ j, without the fewer of the two powers
split : (a b i j : ℕ) → i ≤ j → a * 2 ^ i ≡ b * 2 ^ j → a ≡ b * 2 ^ (j - i)
split a b i j h e =
    eq_of_mul-eq-mul_right (2 ^ i) (pow_pos i) a (b * 2 ^ (j - i))
    (e ∙ ap (λ (x : ℕ). b * 2 ^ x) back ∙ ap (λ (x : ℕ). b * x) (pow-add 2 (j - i) i) ∙ sym (mul_assoc b (2 ^ (j - i)) (2 ^ i)))
  where
    back : j ≡ j - i + i
    back = omega arith

-- four times a radicand of m * 2 ^ i units, and o multiples of c * 4 ^ k, without the denominator c
without : (m i l o k n c M W : ℕ) → 0 < c → M ≡ m * 2 ^ i → W ≡ 2 ^ l → n ≡ M * c * W → 4 * n ≡ o * (c * (2 ^ k * 2 ^ k)) → m * 2 ^ (i + l + 2) ≡ o * 2 ^ (k + k)
without m i l o k n c M W C M_is W_is n_is e =
    eq_of_mul-eq-mul_right c C (m * 2 ^ (i + l + 2)) (o * 2 ^ (k + k))
    (ap (λ (x : ℕ). m * x * c) (pow-add 2 (i + l) 2 ∙ ap (λ (x : ℕ). x * 4) (pow-add 2 i l))
    ∙ regroup m (2 ^ i) (2 ^ l) c
    ∙ ap₂ (λ (x y : ℕ). 4 * (x * c * y)) (sym M_is) (sym W_is)
    ∙ ap (λ (x : ℕ). 4 * x) (sym n_is)
    ∙ e
    ∙ ap (λ (x : ℕ). o * x) (mul_comm c (2 ^ k * 2 ^ k) ∙ ap (λ (x : ℕ). x * c) (sym (pow-add 2 k k)))
    ∙ sym (mul_assoc o (2 ^ (k + k)) c))
  where
    regroup : (m x y c : ℕ) → m * (x * y * 4) * c ≡ 4 * (m * x * c * y)
    regroup m x y c = simp (mul_assoc, mul_comm, mul_left_comm)

-- ---- the nearer of q and q + 1 multiples of w: Q, by how 4 n compares with the square of 2 q + 1
abbrev Nearer : ℕ → ℕ → ℕ → ℕ → ℕ → Type 0
Nearer q w c n Q = ((Q ≡ q) × (4 * n < (2 * q + 1) * (2 * q + 1) * (c * (w * w)))) ⊎ ((Q ≡ suc q) × ((2 * q + 1) * (2 * q + 1) * (c * (w * w)) < 4 * n))

module _ (q w c n j Q : ℕ) (C : 0 < c) (N : Nearer q w c n Q) (next : q * w < j → (q + 1) * w ≤ j) where
  -- half way between the two
  middle : (2 * q + 1) * w ≡ q * w + (q + 1) * w
  middle = ap (λ (x : ℕ). x * w) twice ∙ add-mul q (q + 1) w
    where
      twice : 2 * q + 1 ≡ q + (q + 1)
      twice = omega arith

  doubled : (r : ℕ) → 4 * (r * r * (c * (w * w))) ≡ (r * w + r * w) * (r * w + r * w) * c
  doubled r =
      sym (mul_assoc 4 (r * r) (c * (w * w)))
      ∙ ap (λ (x : ℕ). x * (c * (w * w))) (sym (square_twice r))
      ∙ sym (scaled_square (2 * r) w c)
      ∙ ap (λ (x : ℕ). x * x * c) (mul_assoc 2 r w ∙ twice (r * w))
    where
      twice : (x : ℕ) → 2 * x ≡ x + x
      twice x = omega arith

  up_one : suc q * w ≡ (q + 1) * w
  up_one = ap (λ (x : ℕ). x * w) (sym (add-one q))

  nearer_above : n < (q + 1) * (q + 1) * (c * (w * w)) → Q * w < j → 4 * n < (Q * w + j) * (Q * w + j) * c
  nearer_above t l = elim N [
    | inl d ↦
        let e : Q * w ≡ q * w = ap (λ (x : ℕ). x * w) d.0 in
        let g = next (lt_of_le_of_lt (le_of_eq (sym e)) l) in
        let m = middle in
        lt_of_lt_of_le d.1 (le_trans (le_of_eq (sym (scaled_square (2 * q + 1) w c))) (square_le ((2 * q + 1) * w) (Q * w + j) c (omega arith)))
    | inr d ↦
        let e : Q * w ≡ (q + 1) * w = ap (λ (x : ℕ). x * w) d.0 ∙ up_one in
        let x = doubled (q + 1) in
        let y : ((q + 1) * w + (q + 1) * w) * ((q + 1) * w + (q + 1) * w) * c ≤ (Q * w + j) * (Q * w + j) * c = square_le ((q + 1) * w + (q + 1) * w) (Q * w + j) c (omega arith) in
        omega arith
  ]

  nearer_below : q * q * (c * (w * w)) ≤ n → j < Q * w → (Q * w + j) * (Q * w + j) * c < 4 * n
  nearer_below f l = elim N [
    | inl d ↦
        let e : Q * w ≡ q * w = ap (λ (x : ℕ). x * w) d.0 in
        let x = doubled q in
        let y : (Q * w + j) * (Q * w + j) * c < (q * w + q * w) * (q * w + q * w) * c = square_lt (Q * w + j) (q * w + q * w) c C (omega arith) in
        omega arith
    | inr d ↦
        let e : Q * w ≡ (q + 1) * w = ap (λ (x : ℕ). x * w) d.0 ∙ up_one in
        let g : j ≤ q * w = at_most (λ (h : q * w < j). not-le_of_lt (lt_of_lt_of_le l (le_of_eq e)) (next h)) in
        let m = middle in
        lt_of_le_of_lt (square_le (Q * w + j) ((2 * q + 1) * w) c (omega arith)) (lt_of_le_of_lt (le_of_eq (scaled_square (2 * q + 1) w c)) d.1)
  ]
    where
      at_most : {a b : ℕ} → (b < a → ⊥) → a ≤ b
      at_most f = omega arith

module _ (p n c : ℕ) (P : 0 < p) (C : 0 < c) where
  abbrev k : ℕ
  k = dropped p n c

  abbrev w : ℕ
  w = 2 ^ k

  abbrev u : ℕ
  u = c * (2 ^ k * 2 ^ k)

  abbrev q : ℕ
  q = lower n c k

  u_pos : 0 < u
  u_pos = mul-pos C (mul-pos (pow_pos k) (pow_pos k))

  -- the root lies between q and q + 1 multiples of w
  from : q * q * u ≤ n
  from = (le-div_iff_mul-le u_pos).0 (root_is (n / u)).0

  to : n < (q + 1) * (q + 1) * u
  to = (div-lt_iff_lt-mul u_pos).0 (root_is (n / u)).1

  -- where digits are dropped q has all of p
  abbrev whole : ℕ
  whole = root (n / c)

  full : (k ≡ 0) ⊎ (2 ^ (p - 1) ≤ q)
  full = go (dec_le (size whole) p)
    where
      go : Dec (size whole ≤ p) → (k ≡ 0) ⊎ (2 ^ (p - 1) ≤ q)
      go (yes h) = inl (omega arith)
      go (no f) =
          let a : 2 ^ (p - 1) * w ≤ whole = le_trans (le_of_eq (sym (pow-add 2 (p - 1) k))) (size_reaches whole (p - 1 + k) (omega arith)) in
          let b : 2 ^ (p - 1) * w * (2 ^ (p - 1) * w) ≤ n / c = le_trans (mul-le-mul a a) (root_is (n / c)).0 in
          inr (root_ge (n / u) q (2 ^ (p - 1)) (root_is (n / u)) ((le-div_iff_mul-le u_pos).1 (le_trans (le_of_eq (sym (scaled_square (2 ^ (p - 1)) w c))) ((le-div_iff_mul-le C).0 b))))

  few : q < 2 ^ p
  few =
      let a : whole + 1 ≤ 2 ^ p * w =
      le_trans (le_of_eq (add-one whole)) (lt_of_lt_of_le (size-lt whole) (le_trans (pow_mono {i = size whole} {j = p + k} (omega arith)) (le_of_eq (pow-add 2 p k)))) in
      let b : n / c < 2 ^ p * w * (2 ^ p * w) = lt_of_lt_of_le (root_is (n / c)).1 (mul-le-mul a a) in
      root_lt (n / u) q (2 ^ p) (root_is (n / u)) ((div-lt_iff_lt-mul u_pos).1 (lt_of_lt_of_le ((div-lt_iff_lt-mul C).0 b) (le_of_eq (scaled_square (2 ^ p) w c))))

  abbrev v : ℕ
  v = kept n c k * 2 ^ k

  near : ((kept n c k ≡ q) × (4 * n ≤ (2 * q + 1) * (2 * q + 1) * u)) ⊎ ((kept n c k ≡ suc q) × ((2 * q + 1) * (2 * q + 1) * u ≤ 4 * n))
  near = nearest_cases q (4 * n) ((2 * q + 1) * (2 * q + 1) * u)

  -- ---- where the radicand is itself a value of the format, of m * 2 ^ i units, no tie can be: the square of 2 q + 1 is odd, and too long
  module _ (W M : ℕ) (m i l : ℕ) (few_m : m < 2 ^ p) (M_is : M ≡ m * 2 ^ i) (W_is : W ≡ 2 ^ l) (n_is : n ≡ M * c * W) where
    abbrev o : ℕ
    o = (2 * q + 1) * (2 * q + 1)

    -- both sides without the denominator
    plain : 4 * n ≡ o * u → m * 2 ^ (i + l + 2) ≡ o * 2 ^ (k + k)
    plain e = without m i l o k n c M W C M_is W_is n_is e

    no_tie : 4 * n ≡ o * u → ⊥
    no_tie e = go (dec_le (i + l + 2) (k + k))
      where
        long : 2 ^ (p - 1) ≤ q → m < o
        long g =
            let t : 2 ^ p ≡ 2 * 2 ^ (p - 1) = ap (λ (x : ℕ). 2 ^ x) one_less ∙ pow-succ' 2 (p - 1) in
            let a : 2 ^ p ≤ 2 * q + 1 = omega arith in
            lt_of_lt_of_le few_m (le_trans (le_trans (le_of_eq (sym (mul-one (2 ^ p)))) (mul-le-mul_left (2 ^ p) (pow_pos p))) (mul-le-mul a a))
          where
            one_less : p ≡ suc (p - 1)
            one_less = omega arith

        go : Dec (i + l + 2 ≤ k + k) → ⊥
        go (yes h) =
            let a : m ≡ o * 2 ^ (k + k - (i + l + 2)) = split m o (i + l + 2) (k + k) h (plain e) in
            let b : o * 1 ≤ o * 2 ^ (k + k - (i + l + 2)) = mul-le-mul_left o (pow_pos (k + k - (i + l + 2))) in
            elim full [ inl z ↦ none k (i + l) z h | inr g ↦ not-le_of_lt (long g) (le_trans (le_of_eq (sym (mul-one o))) (le_trans b (le_of_eq (sym a)))) ]
          where
            none : (k x : ℕ) → k ≡ 0 → x + 2 ≤ k + k → ⊥
            none k x z h = omega arith
        go (no f) =
            let d = i + l + 2 - (k + k) in
            let a : o ≡ m * 2 ^ d = split o m (k + k) (i + l + 2) (omega arith) (sym (plain e)) in
            let t : d ≡ suc (d - 1) = omega arith in
            odd_square q (m * 2 ^ (d - 1)) (a ∙ ap (λ (x : ℕ). m * 2 ^ x) t ∙ ap (λ (x : ℕ). m * x) (pow-succ' 2 (d - 1)) ∙ mul_left_comm m 2 (2 ^ (d - 1)))

    nearer : Nearer q w c n (kept n c k)
    nearer = elim near [
      | inl d ↦ inl (d.0, lt_of_le-ne d.1 no_tie)
      | inr d ↦ inr (d.0, lt_of_le-ne d.1 (λ (e : o * u ≡ 4 * n). no_tie (sym e)))
    ]

    -- the root is on v's side of half way to a j above
    above : (j : ℕ) → Short p j → v < j → 4 * n < (v + j) * (v + j) * c
    above j s l = nearer_above q w c n j (kept n c k) C nearer (next p q k P full j s) to l

    -- and to a j below
    below : (j : ℕ) → Short p j → j < v → (v + j) * (v + j) * c < 4 * n
    below j s l = nearer_below q w c n j (kept n c k) C nearer (next p q k P full j s) from l

  -- ---- v is a value of the format
  kept_le : kept n c k ≤ 2 ^ p
  kept_le = elim near [ inl d ↦ le_trans (le_of_eq d.0) (le_of_lt few) | inr d ↦ le_trans (le_of_eq d.0) few ]

  short : Short p v
  short = multiples_short p (kept n c k) k P kept_le

  -- below twice any B whose square is above the radicand
  bounded : (B : ℕ) → 1 < B → n < B * B * c → v < 2 * B
  bounded B b h = elim full [
    | inl z ↦ let e : w ≡ 1 = ap (λ (x : ℕ). 2 ^ x) z in let l = under in let m = most in omega arith
    | inr g ↦
        let e : 1 * w ≤ q * w = mul-le-mul_right w (le_trans (pow_pos (p - 1)) g) in
        let l = under in
        let m = most in
        omega arith
  ]
    where
      under : q * w < B
      under = lt_of_not-le (λ (g : B ≤ q * w). not-le_of_lt h (le_trans (square_le B (q * w) c g) (le_trans (le_of_eq (scaled_square q w c)) from)))

      most : v ≤ q * w + w
      most = le_trans (mul-le-mul_right w (nearest-le q (compare (4 * n) ((2 * q + 1) * (2 * q + 1) * u)))) (le_of_eq (suc-mul q w))

-- ---- the root of a / c, for a number of the width
units_count : (W : Width) (q k : ℕ) → q * 2 ^ k < past W → Counts W (of_units W false q k) false (q * 2 ^ k)
unfolding of_units
units_count W q k h =
    subst (λ (b : Bool). Counts W (cond b (inf false) (odd (suc (digits W)) false q k (least W))) false (q * 2 ^ k)) (sym (lt-leb (past W) (q * 2 ^ k) h))
    (counted W (odd (suc (digits W)) false q k (least W)) false (q * 2 ^ k) (odd_sign (suc (digits W)) false q k (least W)) h)

nearest_root_is : (W : Width) (a c : ℕ)
    → nearest_root W a c ≡ of_units W false (kept (squared_units W a) c (dropped (digits W) (squared_units W a) c)) (dropped (digits W) (squared_units W a) c)
unfolding nearest_root
nearest_root_is W a c = refl

root_in_range : (W : Width) (a c : ℕ) (C : 0 < c) → 1 ≤ W.power → a < 2 ^ suc W.power * c → v (digits W) (squared_units W a) c (zero-lt-suc W.fraction) C < past W
root_in_range W a c C E h =
    let em = W.power in
    let l = least W in
    let U = 2 ^ l in
    let M = 2 ^ em in
    let n = squared_units W a in
    let two : 2 ^ 1 ≤ M = pow_mono E in
    let b : 2 ^ 1 * 1 ≤ M * U = mul-le-mul two (pow_pos l) in
    let e : 2 ^ suc em ≤ M * M = le_trans (pow_mono {i = suc em} {j = em + em} (omega arith)) (le_of_eq (pow-add 2 em em)) in
    let g : a < M * M * c = lt_of_lt_of_le h (mul-le-mul_right c e) in
    let r : n < M * U * (M * U) * c = lt_of_lt_of_le (mul-lt-mul_of_pos_right (mul-lt-mul_of_pos_right g (pow_pos l)) (pow_pos l)) (le_of_eq (regroup M c U)) in
    lt_of_lt_of_le (bounded (digits W) n c (zero-lt-suc W.fraction) C (M * U) (omega arith) r)
    (le_of_eq (sym (mul_assoc 2 M U) ∙ ap (λ (x : ℕ). x * U) (sym (pow-succ' 2 em)) ∙ sym (pow-add 2 (suc em) l) ∙ ap (λ (x : ℕ). 2 ^ x) (add_comm (suc em) l)))
  where
    regroup : (M c W : ℕ) → M * M * c * W * W ≡ M * W * (M * W) * c
    regroup M c W = simp (mul_assoc, mul_comm, mul_left_comm)

-- a / c is of so many units
nearest_root_nearest : (W : Width) (a c units : ℕ) → 1 ≤ W.power → 0 < c → a < 2 ^ suc W.power * c → Short (digits W) units → a * 2 ^ least W ≡ units * c
    → IsNearestRoot W a c (nearest_root W a c)
nearest_root_nearest W a c units E C h x e =
    let p = digits W in
    let P : 0 < p = zero-lt-suc W.fraction in
    let n = squared_units W a in
    let k = dropped p n c in
    let U = 2 ^ least W in
    let l = root_in_range W a c C E h in
    let n_is : n ≡ units * c * U = ap (λ (z : ℕ). z * U) e in
    record {
      units = v p n c P C;
      counts = subst (λ (y : Float). Counts W y false (v p n c P C)) (sym (nearest_root_is W a c)) (units_count W (kept n c k) k l);
      number = record { short = short p n c P C; within = le_of_lt l };
      nearer = λ j z. (
        above p n c P C U units x.digits x.zeros (least W) x.few x.same refl n_is j z.short,
        below p n c P C U units x.digits x.zeros (least W) x.few x.same refl n_is j z.short,
      );
    }

-- ---- Sqrt of a number above 0
pub sqrt_at_nearest : (W : Width) → 1 ≤ W.power → (m : ℕ) (e : ℤ) → Held W (suc m) e → IsNearestRoot W (suc m * up e) (down e) (sqrt_at W (fin false (suc m) e))
unfolding sqrt_at
sqrt_at_nearest W E m e h = let u = held_units W (suc m) e h in nearest_root_nearest W (suc m * up e) (down e) u.units E (down_pos e) h.range u.short u.same

some_power : (F : Format) → 1 ≤ (width F).power
some_power binary32 = lit≤ tt
some_power binary64 = lit≤ tt

pub sqrt_nearest : (F : Format) (m : ℕ) (e : ℤ) → T (fits F (fin false (suc m) e)) → IsNearestRoot (width F) (suc m * up e) (down e) (sqrt F (fin false (suc m) e))
sqrt_nearest F m e t = sqrt_at_nearest (width F) (some_power F) m e (fits_says F false m e t)

-- against every value that the format holds
pub sqrt_nearer : (F : Format) (m : ℕ) (e : ℤ) (t : T (fits F (fin false (suc m) e))) (y : Float) → T (fits F y) → T (not (is_nan y))
    → (j : ℕ) × Counts (width F) y (sign y) j × NearerRoot (width F) (suc m * up e) (down e) (sqrt_nearest F m e t).units j
sqrt_nearer F m e t y h k = let z = fits_size F y h k in (z.0, z.1, (sqrt_nearest F m e t).nearer z.0 z.2)

-- the format holds it
sized_fits : (F : Format) (q k : ℕ) → q ≤ 2 ^ digits (width F) → q * 2 ^ k < past (width F) → T (fits F (of_units (width F) false q k))
sized_fits binary32 q k a b = subst (λ (y : Float). T (fits binary32 y)) (sym (units_are binary32 false q k)) (units_fits binary32 q k a b)
sized_fits binary64 q k a b = subst (λ (y : Float). T (fits binary64 y)) (sym (units_are binary64 false q k)) (units_fits binary64 q k a b)

pub sqrt_fits : (F : Format) (x : Float) → T (fits F x) → T (fits F (sqrt F x))
unfolding sqrt_at
sqrt_fits F nan t = nan-fits F
sqrt_fits F (inf true) t = nan-fits F
sqrt_fits F (inf false) t = inf-fits F false
sqrt_fits F (fin s zero e) t = t
sqrt_fits F (fin true (suc m) e) t = nan-fits F
sqrt_fits F (fin false (suc m) e) t =
    let W = width F in
    let p = digits W in
    let P = zero-lt-suc W.fraction in
    let n = squared_units W (suc m * up e) in
    let k = dropped p n (down e) in
    subst (λ (y : Float). T (fits F y)) (sym (nearest_root_is W (suc m * up e) (down e)))
    (sized_fits F (kept n (down e) k) k (kept_le p n (down e) P (down_pos e)) (root_in_range W (suc m * up e) (down e) (down_pos e) (some_power F) (fits_says F false m e t).range))

-- "of -0 it is -0": a zero is its own root, and below zero there is none
pub sqrt_zero : (W : Width) (s : Bool) (e : ℤ) → sqrt_at W (fin s 0 e) ≡ fin s 0 e
unfolding sqrt_at
sqrt_zero W s e = refl

pub sqrt_below_zero : (W : Width) (m : ℕ) (e : ℤ) → sqrt_at W (fin true (suc m) e) ≡ nan
unfolding sqrt_at
sqrt_below_zero W m e = refl

pub sqrt_infinity : (W : Width) → (sqrt_at W (inf false) ≡ inf false) × (sqrt_at W (inf true) ≡ nan)
unfolding sqrt_at
sqrt_infinity W = (refl, refl)
