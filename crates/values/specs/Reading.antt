-- A line of values as far as it was read, beside what `values_of` says of the line.
use Rattle.std.specs.Prelude.{Option as Maybe, Some, None, Result, Ok, Err, ◌≡◌, ℕ, ◌+◌, ◌*◌, ◌%◌, ◌<◌, ◌≤◌, min, Bool, true, false, cond, List, [], ◌++◌, map, length, take, ◌≢◌, ◌⊎◌, from_bits, nat_lt, Float}
use Rattle.std.proofs.Math.Option.{Option, none, some}
use Rattle.std.specs.Float.{binary64}
use Rattle.formula.specs.Text.{all_some, split}
use Rattle.formula.specs.Values.{digit_of, of_digits, value_of, values_of}
use Rattle.names.specs.Lines.{cap, prefixed}
use Rattle.values.specs.declared.Partial.{Partial}
use Rattle.refusals.specs.declared.Refusal.{Refusal}
use Rattle.refusals.specs.declared.Refusal.TheVariants.{InvalidInput, MalformedLine}

-- the values of the pieces between commas
unfoldable pub values_in : List ℕ → Option (List ℕ)
values_in line = all_some (map value_of (split 44 line))

abbrev pub floats : List ℕ → List Float
floats vs = map (λ b. from_bits binary64 b) vs

-- one value more in a slice of so many places
abbrev pub counted : ℕ → ℕ → ℕ
counted places count = cond (nat_lt count places) (count + 1) (places + 1)

-- so many of the values stand in the slice
pub record Kept (vs : List ℕ) (count : ℕ) (values : List Float) : Type 0 where
  pub counts : count ≡ min (length vs) (length values + 1)
  pub stand : length vs ≤ length values → take (length vs) values ≡ floats vs

-- A line as said so far: the values vs, each with its comma, then the digits ds.
pub record Good (seen : List ℕ) (s : Partial) (values : List Float) : Type 0 where
  pub vs : List ℕ
  pub ds : List ℕ
  pub numbers : List ℕ
  pub rest : (more : List ℕ) → values_in (seen ++ more) ≡ prefixed vs (values_in (ds ++ more))
  pub digits : all_some (map digit_of ds) ≡ some numbers
  pub many : length ds ≡ s.digits
  pub few : s.digits ≤ 16
  pub bits : of_digits 0 numbers ≡ s.bits
  pub small : s.bits < cap s.digits
  pub kept : Kept vs s.count values
  pub start : length vs ≡ 0 → seen ≡ ds
  pub later : (length vs ≢ 0) → seen ≢ []

-- A line that is not as said, whatever follows.
pub record Bad (seen : List ℕ) : Type 0 where
  pub rest : (more : List ℕ) → values_in (seen ++ more) ≡ none
  pub later : seen ≡ [] → ⊥

abbrev pub Reading : Type 0
Reading = Maybe Partial

-- what was read of a line whose bytes so far are `seen`
abbrev pub Reads : List ℕ → Reading → List Float → Type 0
Reads seen (Some s) values = Good seen s values
Reads seen None values = Bad seen

-- a whole line's values: they stand in the slice, or are more than it has places
abbrev pub Finds : Option (List ℕ) → Result ℕ Refusal → List Float → Type 0
Finds none (Err refusal) values = refusal ≡ MalformedLine
Finds none (Ok n) values = ⊥
Finds (some vs) (Err refusal) values = (refusal ≡ InvalidInput) × (length values < length vs)
Finds (some vs) (Ok n) values = (n ≡ length vs) × (take n values ≡ floats vs)

-- ---- what the functions say

-- nothing was read
abbrev pub Starts : Reading → Type 0
Starts s = (values : List Float) → Reads [] s values

-- these bytes were read, after any others
abbrev pub ReadsOn : Reading → List Float → List ℕ → Reading → List Float → Type 0
ReadsOn s values bytes s' values' = (seen : List ℕ) → Reads seen s values → Reads (seen ++ bytes) s' values'

-- one more byte, which is a digit, or ends the value or the line
abbrev pub ReadsDigit : Partial → ℕ → Reading → Type 0
ReadsDigit s b (Some t) =
    (d : ℕ) × (digit_of b ≡ some d) × (d < 16) × (s.digits < 16)
    × (t ≡ record { count = s.count; digits = s.digits + 1; bits = 16 * (s.bits % 1152921504606846976) + d })
ReadsDigit s b None = (digit_of b ≡ none) ⊎ (16 ≤ s.digits)

-- the line ends here
abbrev pub EndsAs : Reading → List Float → Result ℕ Refusal → List Float → Type 0
EndsAs s values r values' = (seen : List ℕ) → Reads seen s values → Finds (values_of seen) r values'

abbrev pub TellsEmpty : Reading → Bool → Type 0
TellsEmpty s r = (seen : List ℕ) (values : List Float) → Reads seen s values → (r ≡ true → seen ≡ []) × (r ≡ false → seen ≢ [])
