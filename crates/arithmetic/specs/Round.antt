-- "Floor and Ceil keep the sign of zero."
use Rattle.std.specs.Prelude.{ℕ, suc, ◌*◌, ◌/◌, ◌%◌, Bool, true, false, cond, eqb, Float}
use Rattle.std.specs.Float.{nan, inf, fin, Format}
use Rattle.std.specs.Float.Ieee.{up, down, round}

-- the largest whole number that is not above a / c, and the least that is not below it
abbrev pub floor_div : ℕ → ℕ → ℕ
floor_div a c = a / c

abbrev pub ceil_div : ℕ → ℕ → ℕ
ceil_div a c = cond (eqb (a % c) 0) (a / c) (suc (a / c))

-- The largest whole number that is not above x, and the least that is not below it; a zero has x's sign. `rounded` gives a value of a fraction: of a whole number
-- that the format holds it gives that number.
abbrev pub floor_by : (Bool → ℕ → ℕ → Float) → Float → Float
floor_by rounded nan = nan
floor_by rounded (inf s) = inf s
floor_by rounded (fin true m e) = rounded true (ceil_div (m * up e) (down e)) 1
floor_by rounded (fin false m e) = rounded false (floor_div (m * up e) (down e)) 1

abbrev pub ceil_by : (Bool → ℕ → ℕ → Float) → Float → Float
ceil_by rounded nan = nan
ceil_by rounded (inf s) = inf s
ceil_by rounded (fin true m e) = rounded true (floor_div (m * up e) (down e)) 1
ceil_by rounded (fin false m e) = rounded false (ceil_div (m * up e) (down e)) 1

unfoldable pub floor : Format → Float → Float
unfolding round
floor F x = floor_by (round F) x

unfoldable pub ceil : Format → Float → Float
unfolding round
ceil F x = ceil_by (round F) x
