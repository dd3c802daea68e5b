-- The widths of IEEE 754's binary values, of any size: `fraction` digits after the leading one, and finite values below 2 ^ (power + 1).
-- What crate `rounding` says of a width holds where the fraction has a digit at least and the power is above its number of digits.
use Rattle.std.specs.Prelude.{ℕ, suc, ◌+◌, ◌-◌, ◌*◌, ◌^◌, Bool, cond, leb, Float}
use Rattle.std.specs.Float.{inf, Format, binary32, binary64}
use Rattle.std.specs.Float.Ieee.{odd}

pub record Width : Type 0 where
  pub fraction : ℕ
  pub power : ℕ

abbrev pub width : Format → Width
width binary32 = record { fraction = 23; power = 127 }
width binary64 = record { fraction = 52; power = 1023 }

-- the leading one counted
abbrev pub digits : Width → ℕ
digits W = suc W.fraction

-- The least positive value is 2 ^ -(least W): the unit, of which every value is a whole number.
abbrev pub least : Width → ℕ
least W = W.power + W.fraction - 1

-- 2 ^ (power + 1) in units, the first power of two that is too large
abbrev pub past : Width → ℕ
past W = 2 ^ (least W + suc W.power)

-- the value of q * 2 ^ k units with the sign s; an infinity where they are too many
unfoldable pub of_units : Width → Bool → ℕ → ℕ → Float
unfolding odd
of_units W s q k = cond (leb (past W) (q * 2 ^ k)) (inf s) (odd (suc (digits W)) s q k (least W))
