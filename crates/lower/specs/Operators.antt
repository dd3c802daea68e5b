-- What the kind and the operator of a node say of its operation, by their numbers.
use Rattle.std.specs.Prelude.{Bool, true, cond, ◌&&◌, ◌||◌, ℕ, ◌+◌, eqb, leb}

-- Min and Max take at least 2 arguments, Hill and the density 3, any other call 1; the counts of the other kinds are right in every formula
unfoldable pub arity_at : ℕ → ℕ → ℕ → Bool
arity_at k o n =
    cond (eqb k 7) (cond (eqb o 11 || eqb o 12) (leb 2 n) (cond (eqb o 13 || eqb o 15) (eqb n 3) (eqb n 1))) true

-- Not takes a Boolean; Not and comparisons give one
unfoldable pub takes_boolean : ℕ → ℕ → Bool
takes_boolean k o = eqb k 3 && eqb o 2

unfoldable pub gives_boolean : ℕ → ℕ → Bool
gives_boolean k o = (eqb k 3 && eqb o 2) || eqb k 5

-- Modulo, Floor, Ceil
unfoldable pub stepped_at : ℕ → ℕ → Bool
stepped_at k o = (eqb k 4 && eqb o 5) || (eqb k 7 && (eqb o 9 || eqb o 10))

-- Min, Max
unfoldable pub listing_at : ℕ → ℕ → Bool
listing_at k o = eqb k 7 && (eqb o 11 || eqb o 12)

unfoldable pub opcode_at : ℕ → ℕ → ℕ
opcode_at k o = cond (eqb k 3) (5 + o) (cond (eqb k 4) (8 + o) (cond (eqb k 5) (14 + o) (cond (eqb o 15) 34 (20 + o))))

-- a conditional, or Ifelse
unfoldable pub chooses_at : ℕ → ℕ → Bool
chooses_at k o = eqb k 8 || (eqb k 7 && eqb o 14)
