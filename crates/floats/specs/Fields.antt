-- What the fields of an f64's bits stand for, below the infinity's, in units of the smallest positive value.
use Rattle.std.specs.Prelude.{ℕ, ◌+◌, ◌-◌, ◌*◌, ◌/◌, ◌%◌, ◌^◌, cond, ◌==◌}
use Rattle.floats.specs.declared.scaled.Scaled.{Scaled}

abbrev pub infinity_bits : ℕ
infinity_bits = 0x7ff0_0000_0000_0000

-- subnormal where the field is 0: then the fraction is all, and its weight is that of field 1
abbrev pub significand : ℕ → ℕ → ℕ
significand field t = cond (field == 0) t (t + 2 ^ 52)

abbrev pub magnitude : ℕ → ℕ
magnitude b = significand (b / 2 ^ 52) (b % 2 ^ 52) * 2 ^ (b / 2 ^ 52 - 1)

-- digits * 2 ^ exp of them
abbrev pub units : Scaled → ℕ
units s = s.digits * 2 ^ s.exp
