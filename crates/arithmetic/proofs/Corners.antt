-- Values at the places that document 01 names: Modulo's corners, Sqrt 2, Ceil -0.5, and at zeros and NaNs under Min and Max; and values as whole numbers.
use mathlib.Core.Path.{◌≡◌, refl}
use mathlib.Core.List.{[], ◌∷◌}
use mathlib.Core.Option.{none, some}
use Prim.Native.Nat.{ℕ, ◌*◌, ◌-◌, ◌^◌}
use mathlib.Core.Bool.{true, false}
use lib.Dec.{ltb}
use lib.IntN.{pos, negsuc, neg_ℤ}
use lib.Ieee.{Float, binary64, add, sub, mul, div, rem, neg, lt, le, eq, of_bits, round}
use Rattle.arithmetic.specs.Value.{whole, integer_of}
use Rattle.arithmetic.specs.Round.{floor, ceil}
use Rattle.arithmetic.specs.Root.{sqrt, sqrt_at}
use Rattle.arithmetic.specs.Modulo.{modulo}
use Rattle.arithmetic.specs.Extremum.{extremum, hold, below, above}

abbrev f : ℕ → Float
f bits = of_bits binary64 bits

-- the f64 nearest to 10^300, in full
abbrev pub 1e300 : ℕ
1e300 = 1000000000000000052504760255204420248704468581108159154915854115511802457988908195786371375080447864043704443832883878176942523235360430575644792184786706982848387200926575803737830233794788090059368953234970799945081119038967640880074652742780142494579258788820056842838115669472196386865459400540160

-- -1 modulo 3 is 2; -1e-20 modulo 3 is 0.0, as the rounded sum reaches 3; -3 modulo 3 is -0.0; 1e308 modulo the least value is 0.0
pub modulo_corners :
    (modulo binary64 (f 0xbff0000000000000) (f 0x4008000000000000) ≡ f 0x4000000000000000)
    × (modulo binary64 (f 0xbbc79ca10c924223) (f 0x4008000000000000) ≡ f 0)
    × (modulo binary64 (f 0xc008000000000000) (f 0x4008000000000000) ≡ f 0x8000000000000000)
    × (modulo binary64 (f 0x7fe1ccf385ebc8a0) (f 1) ≡ f 0)
    × (modulo binary64 (f 0xbff0000000000000) (f 0x7ff0000000000000) ≡ f 0)
unfolding of_bits rem add sub mul div floor lt le eq neg round
modulo_corners = (refl, refl, refl, refl, refl)

-- Sqrt 2; of -0 it is -0; of the least subnormal; below zero NaN
pub sqrt_corners :
    (sqrt binary64 (f 0x4000000000000000) ≡ f 0x3ff6a09e667f3bcd)
    × (sqrt binary64 (f 0x8000000000000000) ≡ f 0x8000000000000000)
    × (sqrt binary64 (f 1) ≡ f 0x1e60000000000000)
    × (sqrt binary64 (f 0xbff0000000000000) ≡ f 0x7ff8000000000000)
unfolding of_bits sqrt_at
sqrt_corners = (refl, refl, refl, refl)

-- Ceil -0.5 is -0.0; Floor -0.5 is -1; Floor -0 is -0
pub round_corners :
    (ceil binary64 (f 0xbfe0000000000000) ≡ f 0x8000000000000000)
    × (floor binary64 (f 0xbfe0000000000000) ≡ f 0xbff0000000000000)
    × (floor binary64 (f 0x8000000000000000) ≡ f 0x8000000000000000)
unfolding of_bits floor ceil
round_corners = (refl, refl, refl)

-- the four pairs of zeros: Min gives -0 where there is one, Max gives +0 where there is one
pub minimum_zeros :
    (extremum below (f 0 ∷ f 0 ∷ []) ≡ f 0)
    × (extremum below (f 0 ∷ f 0x8000000000000000 ∷ []) ≡ f 0x8000000000000000)
    × (extremum below (f 0x8000000000000000 ∷ f 0 ∷ []) ≡ f 0x8000000000000000)
    × (extremum below (f 0x8000000000000000 ∷ f 0x8000000000000000 ∷ []) ≡ f 0x8000000000000000)
unfolding of_bits hold lt
minimum_zeros = (refl, refl, refl, refl)

pub maximum_zeros :
    (extremum above (f 0 ∷ f 0 ∷ []) ≡ f 0)
    × (extremum above (f 0 ∷ f 0x8000000000000000 ∷ []) ≡ f 0)
    × (extremum above (f 0x8000000000000000 ∷ f 0 ∷ []) ≡ f 0)
    × (extremum above (f 0x8000000000000000 ∷ f 0x8000000000000000 ∷ []) ≡ f 0x8000000000000000)
unfolding of_bits hold lt
maximum_zeros = (refl, refl, refl, refl)

-- Min(1, +0, -0, 2), Max(-1, -0, +0); +0, -0, +0 of each; beside other numbers a zero's sign is nothing: Min(-0, -1), Max(+0, 1)
pub more_zeros :
    (extremum below (f 0x3ff0000000000000 ∷ f 0 ∷ f 0x8000000000000000 ∷ f 0x4000000000000000 ∷ []) ≡ f 0x8000000000000000)
    × (extremum above (f 0xbff0000000000000 ∷ f 0x8000000000000000 ∷ f 0 ∷ []) ≡ f 0)
    × (extremum below (f 0 ∷ f 0x8000000000000000 ∷ f 0 ∷ []) ≡ f 0x8000000000000000)
    × (extremum above (f 0 ∷ f 0x8000000000000000 ∷ f 0 ∷ []) ≡ f 0)
    × (extremum below (f 0x8000000000000000 ∷ f 0xbff0000000000000 ∷ []) ≡ f 0xbff0000000000000)
    × (extremum above (f 0 ∷ f 0x3ff0000000000000 ∷ []) ≡ f 0x3ff0000000000000)
unfolding of_bits hold lt
more_zeros = (refl, refl, refl, refl, refl, refl)

-- a NaN first stays, a NaN later is passed over, also between two zeros; of none it is a NaN
pub extremum_nans :
    (extremum below (f 0x7ff8000000000000 ∷ f 0 ∷ []) ≡ f 0x7ff8000000000000)
    × (extremum below (f 0x7ff8000000000000 ∷ f 0x8000000000000000 ∷ []) ≡ f 0x7ff8000000000000)
    × (extremum above (f 0x7ff8000000000000 ∷ f 0 ∷ []) ≡ f 0x7ff8000000000000)
    × (extremum below (f 0 ∷ f 0x7ff8000000000000 ∷ []) ≡ f 0)
    × (extremum above (f 0 ∷ f 0x7ff8000000000000 ∷ []) ≡ f 0)
    × (extremum below (f 0 ∷ f 0x7ff8000000000000 ∷ f 0x8000000000000000 ∷ []) ≡ f 0x8000000000000000)
    × (extremum below [] ≡ f 0x7ff8000000000000)
unfolding of_bits hold lt
extremum_nans = (refl, refl, refl, refl, refl, refl, refl)

-- 997 binary digits
pub 1e300-digits : (ltb 1e300 (2 ^ 996) ≡ false) × (ltb 1e300 (2 ^ 997) ≡ true)
1e300-digits = (refl, refl)

-- Values that are whole numbers: the zeros, 1, -3, 2^53, 1e300 with either sign, the largest f64; and 0.5, the least value, the infinity and the NaN, which are none
pub integers :
    (integer_of (f 0) ≡ some (pos 0))
    × (integer_of (f 0x8000000000000000) ≡ some (pos 0))
    × (integer_of (f 0x3ff0000000000000) ≡ some (pos 1))
    × (integer_of (f 0xc008000000000000) ≡ some (negsuc 2))
    × (integer_of (f 0x4340000000000000) ≡ some (pos 9007199254740992))
    × (integer_of (f 0x7e37e43c8800759c) ≡ some (pos 1e300))
    × (integer_of (f 0xfe37e43c8800759c) ≡ some (neg_ℤ (pos 1e300)))
    × (integer_of (f 0x7fefffffffffffff) ≡ some (pos ((2 ^ 53 - 1) * 2 ^ 971)))
    × (integer_of (f 0x3fe0000000000000) ≡ none)
    × (integer_of (f 1) ≡ none)
    × (integer_of (f 0x7ff0000000000000) ≡ none)
    × (integer_of (f 0x7ff8000000000000) ≡ none)
unfolding of_bits whole integer_of
integers = (refl, refl, refl, refl, refl, refl, refl, refl, refl, refl, refl, refl)
