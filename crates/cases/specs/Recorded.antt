-- How recorded cases are written down.
use Rattle.std.specs.Prelude.{◌≡◌, Bool, true, false, ◌&&◌, cond, eqb, List, [], ◌∷◌, ◌++◌, ℕ, zero, suc, ◌+◌, ◌*◌, ◌%◌, ◌^◌, All, length, take, drop, Float, Some, None}
use Rattle.std.specs.Prelude as Std
use Rattle.std.proofs.Math.Option.{Option, none, some}
use Rattle.formula.specs.Text.{long_at}
use Rattle.formula.specs.Values.{digit_of}
use Rattle.cases.specs.declared.Kind.{Kind}
use Rattle.cases.specs.declared.Kind.TheVariants.{Run, Resume, Answer}

-- the values of the first n cells
abbrev pub cells_of : {A : Type 0} → (ℕ → A) → ℕ → List ℕ → List A
cells_of value zero bytes = []
cells_of value (suc n) bytes = cells_of value n bytes ++ (value (long_at (drop (8 * n) bytes) 0) ∷ [])

-- whether the first cells are those of these numbers
abbrev pub same_cells : {A : Type 0} → (A → ℕ) → List A → List ℕ → Bool
same_cells cell [] bytes = true
same_cells cell (x ∷ xs) bytes = eqb (cell x) (long_at bytes 0) && same_cells cell xs (drop 8 bytes)

-- the value of some 8 bytes
abbrev pub IsCell : {A : Type 0} → (ℕ → A) → A → Type 0
IsCell value x = (bytes : List ℕ) × (length bytes ≡ 8) × (x ≡ value (long_at bytes 0))

-- a call's number: 0 for a run, 1 for a resume, any other for a resume with the value
abbrev pub kind_of : ℕ → Float → Kind
kind_of n value = cond (eqb n 0) Run (cond (eqb n 1) Resume (Answer value))

-- a number with one digit more after it, of which it keeps the last 16
abbrev pub with_digit : ℕ → Option ℕ → Option ℕ
with_digit n none = none
with_digit n (some d) = some ((n * 16 % 2 ^ 64 + d) % 2 ^ 64)

abbrev pub hex_from : Option ℕ → List ℕ → Std.Option ℕ
hex_from none bytes = None
hex_from (some n) [] = Some n
hex_from (some n) (b ∷ bytes) = hex_from (with_digit n (digit_of b)) bytes

-- a text with `rest` after it to the end
abbrev pub HoldsText : List ℕ → List ℕ → ℕ → Type 0
HoldsText slice text rest = (take (length text) slice ≡ text) × All (λ b. b ≡ rest) (drop (length text) slice)
