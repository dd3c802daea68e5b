-- Numbers in decimal: the last digit apart, how many digits there are, and a number written digit by digit.
use mathlib.Core.Path.{◌≡◌, refl, sym, ap, ◌∙◌}
use mathlib.Core.Bool.{Bool, true, false}
use mathlib.Core.List.{List, [], ◌∷◌, ◌++◌}
use Prim.Native.Nat.{ℕ, zero, suc, ◌+◌, ◌*◌, ◌/◌, ◌%◌, ◌≤◌, ◌<◌}
use native.Mathlib.Omega.{arith}
use borrow.Author.Tests.{lt-ltb, le-ltb, ltb-true, ltb-false}
use lib.ListN.{length, length-append, set}
use lib.Dec.{ltb}
use Rattle.formula.specs.Text.{decimal, decimal_in}
use Rattle.writer.specs.Over.{over}
use Rattle.writer.proofs.Over.{over_over, over_one, over_length}

same_decimal : (t u n : ℕ) (b : Bool) → n < t → n < u → ltb n 10 ≡ b → decimal_in t b n ≡ decimal_in u b n
same_decimal zero u n b h k e = absurd (omega arith)
same_decimal (suc t) zero n b h k e = absurd (omega arith)
same_decimal (suc t) (suc u) n true h k e = refl
same_decimal (suc t) (suc u) n false h k e =
    let l = ltb-false n 10 e in
    ap (λ (xs : List ℕ). xs ++ (48 + n % 10) ∷ []) (same_decimal t u (n / 10) (ltb (n / 10) 10) (omega arith) (omega arith) refl)

pub decimal_small : (n : ℕ) → n < 10 → decimal n ≡ (48 + n) ∷ []
decimal_small n h = rw (lt-ltb n 10 h)

pub decimal_large : (n : ℕ) → 10 ≤ n → decimal n ≡ decimal (n / 10) ++ (48 + n % 10) ∷ []
decimal_large n h =
    rw (le-ltb n 10 h)
    (ap (λ (xs : List ℕ). xs ++ (48 + n % 10) ∷ []) (same_decimal n (suc (n / 10)) (n / 10) (ltb (n / 10) 10) (omega arith) (omega arith) refl))

length_turns : (t n : ℕ) (b : Bool) → length (decimal_in t b n) ≤ t
length_turns zero n b = omega arith
length_turns (suc t) n true = omega arith
length_turns (suc t) n false = rw length-append (omega (arith, length_turns t (n / 10) (ltb (n / 10) 10)))

pub decimal_bound : (n : ℕ) → length (decimal n) ≤ n + 1
decimal_bound n = omega (arith, length_turns (suc n) n (ltb n 10))

pub length_small : (n : ℕ) → n < 10 → length (decimal n) ≡ 1
length_small n h = ap length (decimal_small n h)

pub length_large : (n : ℕ) → 10 ≤ n → length (decimal n) ≡ length (decimal (n / 10)) + 1
length_large n h = ap length (decimal_large n h) ∙ length-append (decimal (n / 10)) ((48 + n % 10) ∷ [])

abbrev pub power_of_ten : ℕ → ℕ
power_of_ten zero = 1
power_of_ten (suc k) = 10 * power_of_ten k

length_by : (s : Bool) (k n : ℕ) → ltb n 10 ≡ s → n < 10 * power_of_ten k → (n / 10 < power_of_ten k → 10 ≤ n → length (decimal (n / 10)) ≤ k) → length (decimal n) ≤ suc k
length_by true k n e h r = let l = ltb-true n 10 e in omega (arith, length_small n l)
length_by false k n e h r = let l = ltb-false n 10 e in let q = r (omega arith) l in omega (arith, length_large n l)

-- a number below 10 ^ k has at most k digits
pub decimal_length_le : (k n : ℕ) → n < power_of_ten k → 1 ≤ k → length (decimal n) ≤ k
decimal_length_le zero n h l = absurd (omega arith)
decimal_length_le (suc zero) n h l = length_by (ltb n 10) zero n refl h (λ a b. absurd (omega arith))
decimal_length_le (suc (suc k)) n h l = length_by (ltb n 10) (suc k) n refl h (λ a b. decimal_length_le (suc k) (n / 10) a (omega arith))

-- ---- writing a number

pub put_small : (out : List ℕ) (at n : ℕ) → n < 10 → at + length (decimal n) ≤ length out
    → (at + 1 ≡ at + length (decimal n)) × (set out at (48 + n) ≡ over out at (decimal n))
put_small out at n h l =
    let e = decimal_small n h in
    let m = length_small n h in (
      omega (arith, m),
      over_one out at (48 + n) (omega arith) ∙ ap (over out at) (sym e),
    )

pub put_more : (out mid : List ℕ) (at end n : ℕ) → 10 ≤ n → at + length (decimal n) ≤ length out → end ≡ at + length (decimal (n / 10))
    → mid ≡ over out at (decimal (n / 10)) → (end + 1 ≡ at + length (decimal n)) × (set mid end (48 + n % 10) ≡ over out at (decimal n))
put_more out mid at end n h l e q =
    let ds = decimal (n / 10) in
    let d = 48 + n % 10 in
    let m = length_large n h in
    let lm : length mid ≡ length out = ap length q ∙ over_length out at ds (omega arith) in (
      omega (arith, m),
      over_one mid end d (omega arith)
          ∙ ap (λ (x : List ℕ). over x end (d ∷ [])) q
          ∙ ap (λ (x : ℕ). over (over out at ds) x (d ∷ [])) e
          ∙ over_over out at ds (d ∷ []) (omega arith)
          ∙ ap (over out at) (sym (decimal_large n h)),
    )
