-- Lines of values: "each value is 16 lower-case hexadecimal digits, the bits of an f64, joined by commas. A line ends at a newline byte or at the
-- end of the file; nothing after a last newline is no line. An empty file is an empty name line; an empty line of values has none."
use Rattle.std.specs.Prelude.{Bool, true, false, cond, List, [], ◌∷◌, ◌++◌, map, ℕ, zero, suc, ◌+◌, ◌*◌, ◌/◌, ◌%◌, length, get_or, eqb}
use Rattle.std.proofs.Math.Option.{Option, none, some}
use Rattle.formula.specs.Text.{ascii, split, all_some}

-- the digits from 0 to 15, as text. Document 02: "the digit worked out by its formula: 48 more than the value below ten, 87 more from ten."
-- That text and formula agree is proved in names/proofs/Digits (`byte_is`, `digit_by_formula`).
abbrev pub hex_digits : List ℕ
hex_digits = ascii "0123456789abcdef"

-- the place of a byte among others, counted from i
abbrev pub found : Bool → ℕ → Option ℕ → Option ℕ
found true i later = some i
found false i later = later

abbrev pub place_in : List ℕ → ℕ → ℕ → Option ℕ
place_in [] i b = none
place_in (d ∷ ds) i b = found (eqb d b) i (place_in ds (suc i) b)

abbrev pub digit_of : ℕ → Option ℕ
digit_of b = place_in hex_digits 0 b

-- the number of digits, the highest first
abbrev pub of_digits : ℕ → List ℕ → ℕ
of_digits n [] = n
of_digits n (d ∷ ds) = of_digits (16 * n + d) ds

abbrev pub numbered : Option (List ℕ) → Option ℕ
numbered none = none
numbered (some ds) = some (of_digits 0 ds)

abbrev pub value_of : List ℕ → Option ℕ
value_of digits = cond (eqb (length digits) 16) (numbered (all_some (map digit_of digits))) none

-- the bits of a line's values; a line that is not as above is none
unfoldable pub values_of : List ℕ → Option (List ℕ)
values_of [] = some []
values_of (b ∷ bs) = all_some (map value_of (split 44 (b ∷ bs)))

-- the k last digits of a number
abbrev pub digits_in : ℕ → ℕ → List ℕ
digits_in zero n = []
digits_in (suc k) n = digits_in k (n / 16) ++ get_or hex_digits (n % 16) 0 ∷ []

-- 16 digits
abbrev pub hex : ℕ → List ℕ
hex n = digits_in 16 n

-- the piece after the last newline
abbrev pub last_line : List ℕ → List (List ℕ)
last_line [] = []
last_line (b ∷ bs) = (b ∷ bs) ∷ []

abbrev pub ended : List (List ℕ) → List (List ℕ)
ended [] = []
ended (p ∷ []) = last_line p
ended (p ∷ q ∷ qs) = p ∷ ended (q ∷ qs)

-- the lines of a file
abbrev pub lines_of : List ℕ → List (List ℕ)
lines_of b = ended (split 10 b)
