-- Opcodes of a range: what each stands for.
use mathlib.Core.Path.{◌≡◌, refl, subst}
use mathlib.Core.List.{List, [], ◌∷◌}
use Prim.Native.Nat.{ℕ, zero, suc, ◌+◌, ◌-◌, ◌≤◌, ◌<◌}
use native.Mathlib.Omega.{arith}
use lib.ListN.{length, get_or}
use lib.Ieee.{Float}
use Rattle.formula.specs.Operator.{Operation, unary, Positive}
use Rattle.meaning.specs.Work.{supplied, elementary}
use Rattle.work.specs.Opcode.{operations, operation, work_of}

-- below 6
pub first_six : (n : ℕ) → n < 6 → operation n ≡ unary Positive
first_six zero h = refl
first_six (suc zero) h = refl
first_six (suc (suc zero)) h = refl
first_six (suc (suc (suc zero))) h = refl
first_six (suc (suc (suc (suc zero)))) h = refl
first_six (suc (suc (suc (suc (suc zero))))) h = refl
first_six (suc (suc (suc (suc (suc (suc n)))))) h = absurd (omega arith)

-- from 35 on
past : (os : List Operation) (n : ℕ) (o : Operation) → length os ≤ n → get_or os n o ≡ o
past [] n o h = refl
past (p ∷ os) zero o h = absurd (omega arith)
past (p ∷ os) (suc n) o h = past os n o (omega arith)

pub past_last : (n : ℕ) → 35 ≤ n → operation n ≡ unary Positive
past_last n h = past (unary Positive ∷ unary Positive ∷ unary Positive ∷ unary Positive ∷ unary Positive ∷ operations) n (unary Positive) h

-- the calls that the host answers, by the function's number
asked_number : (i : ℕ) (x y z : Float) → i < 8 → (i ≡ 3 → ⊥) → work_of (20 + i) x y z ≡ supplied (elementary i x)
asked_number zero x y z h k = refl
asked_number (suc zero) x y z h k = refl
asked_number (suc (suc zero)) x y z h k = refl
asked_number (suc (suc (suc zero))) x y z h k = absurd (k refl)
asked_number (suc (suc (suc (suc zero)))) x y z h k = refl
asked_number (suc (suc (suc (suc (suc zero))))) x y z h k = refl
asked_number (suc (suc (suc (suc (suc (suc zero)))))) x y z h k = refl
asked_number (suc (suc (suc (suc (suc (suc (suc zero))))))) x y z h k = refl
asked_number (suc (suc (suc (suc (suc (suc (suc (suc i)))))))) x y z h k = absurd (omega arith)

pub asked_here : (n : ℕ) (x y z : Float) → 20 ≤ n → n < 28 → (n ≡ 23 → ⊥) → work_of n x y z ≡ supplied (elementary (n - 20) x)
asked_here n x y z l h k =
    let e : 20 + (n - 20) ≡ n = omega arith in
    subst (λ (m : ℕ). work_of m x y z ≡ supplied (elementary (n - 20) x)) e (asked_number (n - 20) x y z (omega arith) (λ z. k (omega arith)))
