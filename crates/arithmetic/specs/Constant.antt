-- "Constants in f64 bits: 2π 401921fb54442d18, ln 2 3fe62e42fefa39ef, ln 10 40026bb1bbb55516."
use Rattle.std.specs.Prelude.{ℕ, Float}
use Rattle.std.specs.Float.{binary64}
use Rattle.std.specs.Float.Ieee.{of_bits}

abbrev pub two_pi_bits : ℕ
two_pi_bits = 0x401921fb54442d18

abbrev pub ln_two_bits : ℕ
ln_two_bits = 0x3fe62e42fefa39ef

abbrev pub ln_ten_bits : ℕ
ln_ten_bits = 0x40026bb1bbb55516

-- a literal's value: the bits of an f64
abbrev pub literal : ℕ → Float
literal bits = of_bits binary64 bits

abbrev pub two_pi : Float
two_pi = literal two_pi_bits

abbrev pub ln_two : Float
ln_two = literal ln_two_bits
