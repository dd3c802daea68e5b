-- Exact results as fractions with a sign, and one rounding of them. `num x / den x` is the size of a finite x.
use Rattle.std.specs.Prelude.{Bool, true, false, ℕ, zero, suc, ◌*◌, ◌^◌, ℤ, pos, negsuc, nat_abs, ◌-ℤ◌, Float}
use Rattle.arithmetic.specs.Width.{Width, least}
use Rattle.rounding.specs.Rounding.{IsRounded}
-- a value's sign, and ±a
pub use Rattle.arithmetic.specs.Value.{sign, signed}

-- the sign of a whole number; z for 0, which has none
abbrev pub sign_of : Bool → ℤ → Bool
sign_of z (pos zero) = z
sign_of z (pos (suc n)) = false
sign_of z (negsuc n) = true

-- y is a / c rounded once, and where a is 0 the zero with the sign z
abbrev pub RoundsTo : Width → ℤ → ℕ → Bool → Float → Type 0
RoundsTo W a c z y = IsRounded W (sign_of z a) (nat_abs a) c y

-- c times how far ±j units, the sign t, are from ±a / c, the sign s
abbrev pub off± : Width → Bool → ℕ → ℕ → Bool → ℕ → ℕ
off± W s a c t j = nat_abs (signed t (j * c) -ℤ signed s (a * 2 ^ least W))
