-- Digits in words.
use Rattle.std.specs.Prelude.{◌≡◌, ℕ, ◌<◌, List, [], ◌∷◌, map, slice_index, Option, Some, None}
use Rattle.std.proofs.Math.Option.{some}
use Rattle.formula.specs.Text.{all_some}
use Rattle.formula.specs.Values.{digit_of, hex_digits, numbered}
use Rattle.names.specs.Lines.{cap}

-- k bytes that are digits, and their number
abbrev pub Numbers : ℕ → List ℕ → Option ℕ → Type 0
Numbers k xs (Some n) = (numbered (all_some (map digit_of xs)) ≡ some n) × (n < cap k)
Numbers k xs None = Unit {0}

abbrev pub AllBelow : ℕ → List ℕ → Type 0
AllBelow n [] = Unit {0}
AllBelow n (x ∷ xs) = (x < n) × AllBelow n xs

-- the byte of a digit
abbrev pub digit_byte : ℕ → ℕ
digit_byte d = slice_index hex_digits d
