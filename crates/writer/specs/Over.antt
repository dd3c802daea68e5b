-- A part of a list, written anew.
use Rattle.std.specs.Prelude.{List, ◌++◌, ℕ, ◌+◌, ◌-◌, length, take, drop}
use Rattle.formula.specs.Text.{zeros}

-- xs from a place on, the rest as it was
unfoldable pub over : List ℕ → ℕ → List ℕ → List ℕ
over p at xs = take at p ++ (xs ++ drop (at + length xs) p)

-- zeros from a place on
unfoldable pub zeroed : List ℕ → ℕ → List ℕ
zeroed p at = take at p ++ zeros (length p - at)
