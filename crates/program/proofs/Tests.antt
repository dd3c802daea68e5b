-- Tests joined by `&&`, and numbers of a short range.
use mathlib.Core.Path.{◌≡◌, refl, sym, ap, ◌∙◌, subst}
use mathlib.Core.Bool.{Bool, true, false, ◌&&◌}
use mathlib.Core.Logic.{⊎_elim}
use Prim.Native.Nat.{ℕ, zero, suc, ◌+◌, ◌≤◌, ◌<◌}
use native.Mathlib.Nat.{eq-or-lt_of_le}
use native.Mathlib.Numerals.{add-one}
use native.Mathlib.Omega.{arith}
use borrow.Author.Tests.{le-ltb, ne_eqb}
use lib.Dec.{eqb, leb, leb-suc-suc, ltb}
pub use Rattle.formula.proofs.Tests.{and_one}
use Rattle.machine.proofs.Laws.{and_false}

pub both : {x a r b : Bool} → x ≡ a → x ≡ true → r ≡ b → r ≡ (a && b)
both {b} e t f = f ∙ sym (ap (λ y. y && b) (sym e ∙ t))

pub stop : {x a : Bool} (b : Bool) → x ≡ a → x ≡ false → x ≡ (a && b)
stop b e f = f ∙ sym (ap (λ y. y && b) (sym e ∙ f))

-- ---- joined tests

pub and_assoc : (a b c : Bool) → ((a && b) && c) ≡ (a && (b && c))
and_assoc true b c = refl
and_assoc false b c = refl

-- P of each of k numbers
abbrev pub Each : (ℕ → Type 0) → ℕ → ℕ → Type 0
Each P zero lo = Unit {0}
Each P (suc k) lo = P lo × Each P k (suc lo)

pub one_of : (P : ℕ → Type 0) (k lo n : ℕ) → lo ≤ n → n < lo + k → Each P k lo → P n
one_of P zero lo n h l e = absurd (omega arith)
one_of P (suc k) lo n h l e =
    ⊎_elim (λ z. subst P z e.0) (λ z. one_of P k (suc lo) n (omega arith) (omega arith) e.1) (eq-or-lt_of_le h)

pub refused : (x : Bool) → (x ≡ true → ⊥) → false ≡ x
refused true f = absurd (f refl)
refused false f = refl

pub under : (x : Bool) {r s : Bool} → (x ≡ true → r ≡ s) → (x && r) ≡ (x && s)
under true f = f refl
under false f = refl

-- ---- tests in another order

pub turned : (x y z : Bool) → (x && (y && z)) ≡ (y && (z && x))
turned true y z = ap (λ w. y && w) (sym (and_one z))
turned false true z = sym (and_false z)
turned false false z = refl

pub swapped : (x y r : Bool) → (x && (y && r)) ≡ (y && (x && r))
swapped true y r = refl
swapped false y r = sym (and_false y)

pub passed : (p x y q : Bool) → (p && (x && (y && q))) ≡ (x && (y && (p && q)))
passed p true true q = refl
passed p true false q = and_false p
passed p false y q = and_false p

-- ---- limits

pub below_one : (x : ℕ) → ltb x 1 ≡ eqb x 0
below_one zero = refl
below_one (suc x) = le-ltb (suc x) 1 (omega arith) ∙ sym (ne_eqb (suc x) 0 (λ z. omega arith))

pub below_next : (x k : ℕ) → ltb x (k + 1) ≡ leb x k
below_next x k = ap (ltb x) (add-one k) ∙ leb-suc-suc x k
