-- Where a part of a rule ends, and how many parts follow a code.
use mathlib.Core.Path.{◌≡◌, refl, sym, ap, ◌∙◌}
use mathlib.Core.Bool.{Bool, true, false, cond, not}
use mathlib.Core.List.{List, [], ◌∷◌}
use mathlib.Core.Option.{Option, none, some}
use Prim.Native.Nat.{ℕ, zero, suc, ◌+◌, ◌-◌, ◌/◌, ◌%◌, ◌<◌, ◌≤◌}
use native.Mathlib.Omega.{arith}
use lib.Dec.{eqb}
use borrow.Author.Tests.{lt-ltb, le-ltb}
use Rattle.formula.specs.Text.{all}
use Rattle.formula.specs.Formula.{Head}
use Rattle.formula.specs.Node.{head_of}
use Rattle.derivative.specs.Differentiate.{literal_head}
use Rattle.reader.specs.Read.{is_some}
use Rattle.rules.specs.Notation.{parts, past_all, coded, operands, operand_codes, operators, operator_codes, code_of, letter_at, code_at, end_at, coded_head}
use Rattle.rules.specs.Codes.{writes}
use Rattle.machine.proofs.Laws.{and_l, and_r}

pub end_none : (d q i : ℕ) → d ≡ 0 → i ≡ end_at d q i
unfolding end_at
end_none zero q i e = refl
end_none (suc d) q i e = absurd (omega arith)

pub end_long : (d q i : ℕ) → 128 ≤ i → i ≡ end_at d q i
unfolding end_at
end_long zero q i h = refl
end_long (suc d) q i h = rw (le-ltb i 128 h)

pub end_start : (d q i c left : ℕ) → (d ≡ 0 → ⊥) → i < 128 → c ≡ code_at q i → left ≡ parts (c / 16) (c % 16)
    → end_at d q i ≡ past_all (λ j. end_at (d - 1) q j) left (i + 1)
unfolding end_at
end_start zero q i c left z h e p = absurd (z refl)
end_start (suc d) q i c left z h e p =
    let w : d ≡ suc d - 1 = omega arith in
    ap (λ (b : Bool). cond b (past_all (λ j. end_at d q j) (parts (code_at q i / 16) (code_at q i % 16)) (i + 1)) i) (lt-ltb i 128 h)
    ∙ ap (λ (x : ℕ). past_all (λ j. end_at d q j) (parts (x / 16) (x % 16)) (i + 1)) (sym e)
    ∙ ap (λ (x : ℕ). past_all (λ j. end_at d q j) x (i + 1)) (sym p)
    ∙ ap (λ (x : ℕ). past_all (λ j. end_at x q j) left (i + 1)) w

pub past_step : (past : ℕ → ℕ) (left i : ℕ) → (left ≡ 0 → ⊥) → past_all past left i ≡ past_all past (left - 1) (past i)
past_step past zero i h = absurd (h refl)
past_step past (suc left) i h = let w : left ≡ suc left - 1 = omega arith in ap (λ (x : ℕ). past_all past x (past i)) w

pub past_done : (past : ℕ → ℕ) (left i : ℕ) → left ≡ 0 → past_all past left i ≡ i
past_done past left i e = ap (λ (x : ℕ). past_all past x i) e

-- ---- every code that writes a node has a head, which is no literal

abbrev pub plain : Option Head → Bool
plain none = false
plain (some h) = not (is_some (literal_head h))

abbrev pub valid : ℕ → Bool
valid c = cond (writes (c / 16)) (plain (coded_head (c / 16) (c % 16))) true

cond_valid : (b : Bool) (c d : ℕ) → valid c ≡ true → valid d ≡ true → valid (cond b c d) ≡ true
cond_valid true c d p q = p
cond_valid false c d p q = q

coded_valid : (ls cs : List ℕ) (other x : ℕ) → all valid cs ≡ true → valid other ≡ true → valid (coded ls cs other x) ≡ true
coded_valid [] cs other x e o = o
coded_valid (l ∷ ls) [] other x e o = o
coded_valid (l ∷ ls) (c ∷ cs) other x e o =
    cond_valid (eqb x l) c (coded ls cs other x) (and_l (valid c) (all valid cs) e) (coded_valid ls cs other x (and_r (valid c) (all valid cs) e) o)

operands_valid : all valid operand_codes ≡ true
unfolding head_of
operands_valid = refl

operators_valid : all valid operator_codes ≡ true
unfolding head_of
operators_valid = refl

none_valid : valid 0 ≡ true
unfolding head_of
none_valid = refl

pub codes_valid : (q i : ℕ) → valid (code_at q i) ≡ true
unfolding code_of code_at
codes_valid q i =
    coded_valid operands operand_codes (coded operators operator_codes 0 (letter_at q i)) (letter_at q i) operands_valid
    (coded_valid operators operator_codes 0 (letter_at q i) operators_valid none_valid)
