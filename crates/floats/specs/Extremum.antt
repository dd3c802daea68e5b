-- Min and Max as one: Max takes what is above, Min what is below.
use Rattle.std.specs.Prelude.{Bool, true, false, ℕ, cond, Float}
use Rattle.std.specs.Float.Ieee.{lt}
use Rattle.arithmetic.specs.Extremum.{above, below}

abbrev pub beyond : Bool → Float → Float → Bool
beyond true = above
beyond false = below

-- strictly above, or below; zeros are equal
abbrev pub strictly : Bool → Float → Float → Bool
strictly true x y = lt y x
strictly false x y = lt x y

-- the bits of -0 where s is true, and of +0
abbrev pub zero_bits : Bool → ℕ
zero_bits s = cond s 0x8000000000000000 0
