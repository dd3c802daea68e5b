-- Tests joined by and, or, and tests of all numbers below one.
use mathlib.Core.Path.{◌≡◌, refl, sym, ap, ◌∙◌}
use mathlib.Core.Bool.{Bool, true, false, ◌&&◌, ◌||◌}
use Prim.Native.Nat.{ℕ, zero, suc, ◌<◌}
use native.Mathlib.Omega.{arith}
use lib.Dec.{ltb}
use borrow.Author.Tests.{ltb-true, ltb-false}

pub no_true : false ≡ true → ⊥
no_true e = let z : ◌≡◌ {A = ℕ} 0 1 = cc in omega arith

pub and_first : (a b : Bool) → (a && b) ≡ true → a ≡ true
and_first true b e = refl
and_first false b e = e

pub and_second : (a b : Bool) → (a && b) ≡ true → b ≡ true
and_second true b e = e
and_second false b e = absurd (no_true e)

pub and_both : (a b : Bool) → a ≡ true → b ≡ true → (a && b) ≡ true
and_both a b p q = rw (p, q)

pub and_one : (a : Bool) → (a && true) ≡ a
and_one true = refl
and_one false = refl

pub or_none : (a b : Bool) → (a || b) ≡ false → (a ≡ false) × (b ≡ false)
or_none true b e = absurd (no_true (sym e))
or_none false b e = (refl, e)

-- a test that holds of all numbers below n
abbrev pub all_pass : (ℕ → Bool) → ℕ → Bool
all_pass f zero = true
all_pass f (suc n) = f n && all_pass f n

pass_by : (f : ℕ → Bool) (t : Bool) (n d : ℕ) → ltb d n ≡ t → all_pass f (suc n) ≡ true → d < suc n → (d < n → all_pass f n ≡ true → f d ≡ true) → f d ≡ true
pass_by f true n d q e l r = r (ltb-true d n q) (and_second (f n) (all_pass f n) e)
pass_by f false n d q e l r =
    let k = ltb-false d n q in
    let z : d ≡ n = omega arith in
    ap f z ∙ and_first (f n) (all_pass f n) e

pub passes : (f : ℕ → Bool) (n d : ℕ) → all_pass f n ≡ true → d < n → f d ≡ true
passes f zero d e l = absurd (omega arith)
passes f (suc n) d e l = pass_by f (ltb d n) n d refl e l (λ k g. passes f n d g k)
