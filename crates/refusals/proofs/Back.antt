-- A refusal and its number give each other back.
use Rattle.std.proofs.Common.{◌≡◌, refl, ℕ, zero, suc, ◌≤◌, arith}
use Rattle.std.specs.Prelude.{Option, Some, None}
use Rattle.refusals.specs.declared.Refusal.{Refusal}
use Rattle.refusals.specs.declared.Refusal.TheVariants.{SliceTooShort, WrongField, MalformedLine, ExpressionLimit, InvalidInput, UnknownSymbol, WrongType, Unsupported, OutsideDomain, NoProgram, StaleState, EndedEarly, LeftOver}
use Rattle.refusals.specs.Refusals.{number_of, node_of, refusal_at}

abbrev node_or_0 : Option ℕ → ℕ
node_or_0 None = 0
node_or_0 (Some k) = k

-- the refusal, of its number and its node
pub refusal_back : (r : Refusal) → refusal_at (number_of r) (node_or_0 (node_of r)) ≡ r
refusal_back SliceTooShort = refl
refusal_back (WrongField k) = refl
refusal_back MalformedLine = refl
refusal_back ExpressionLimit = refl
refusal_back InvalidInput = refl
refusal_back UnknownSymbol = refl
refusal_back WrongType = refl
refusal_back Unsupported = refl
refusal_back OutsideDomain = refl
refusal_back NoProgram = refl
refusal_back StaleState = refl
refusal_back (EndedEarly k) = refl
refusal_back (LeftOver k) = refl

-- the number, of the refusal of a number from 1 to 13
pub number_back : (n k : ℕ) → 1 ≤ n → n ≤ 13 → number_of (refusal_at n k) ≡ n
number_back zero k low high = absurd (omega arith)
number_back (suc zero) k low high = refl
number_back (suc (suc zero)) k low high = refl
number_back (suc (suc (suc zero))) k low high = refl
number_back (suc (suc (suc (suc zero)))) k low high = refl
number_back (suc (suc (suc (suc (suc zero))))) k low high = refl
number_back (suc (suc (suc (suc (suc (suc zero)))))) k low high = refl
number_back (suc (suc (suc (suc (suc (suc (suc zero))))))) k low high = refl
number_back (suc (suc (suc (suc (suc (suc (suc (suc zero)))))))) k low high = refl
number_back (suc (suc (suc (suc (suc (suc (suc (suc (suc zero))))))))) k low high = refl
number_back (suc (suc (suc (suc (suc (suc (suc (suc (suc (suc zero)))))))))) k low high = refl
number_back (suc (suc (suc (suc (suc (suc (suc (suc (suc (suc (suc zero))))))))))) k low high = refl
number_back (suc (suc (suc (suc (suc (suc (suc (suc (suc (suc (suc (suc zero)))))))))))) k low high = refl
number_back (suc (suc (suc (suc (suc (suc (suc (suc (suc (suc (suc (suc (suc zero))))))))))))) k low high = refl
number_back (suc (suc (suc (suc (suc (suc (suc (suc (suc (suc (suc (suc (suc (suc n)))))))))))))) k low high = absurd (omega arith)

-- a number from 3 to 11 names no node
pub no_node : (n k : ℕ) → 3 ≤ n → n ≤ 11 → node_of (refusal_at n k) ≡ None
no_node zero k low high = absurd (omega arith)
no_node (suc zero) k low high = absurd (omega arith)
no_node (suc (suc zero)) k low high = absurd (omega arith)
no_node (suc (suc (suc zero))) k low high = refl
no_node (suc (suc (suc (suc zero)))) k low high = refl
no_node (suc (suc (suc (suc (suc zero))))) k low high = refl
no_node (suc (suc (suc (suc (suc (suc zero)))))) k low high = refl
no_node (suc (suc (suc (suc (suc (suc (suc zero))))))) k low high = refl
no_node (suc (suc (suc (suc (suc (suc (suc (suc zero)))))))) k low high = refl
no_node (suc (suc (suc (suc (suc (suc (suc (suc (suc zero))))))))) k low high = refl
no_node (suc (suc (suc (suc (suc (suc (suc (suc (suc (suc zero)))))))))) k low high = refl
no_node (suc (suc (suc (suc (suc (suc (suc (suc (suc (suc (suc zero))))))))))) k low high = refl
no_node (suc (suc (suc (suc (suc (suc (suc (suc (suc (suc (suc (suc n)))))))))))) k low high = absurd (omega arith)
