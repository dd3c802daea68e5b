-- "Sqrt is the nearest f64 to the exact root, proved over whole numbers; of -0 it is -0, and below zero Domain": for every width.
use Rattle.std.specs.Prelude.{ℕ, ◌+◌, ◌*◌, ◌^◌, ◌<◌, false, Float}
use Rattle.arithmetic.specs.Width.{Width, least}
use Rattle.rounding.specs.Rounding.{Size, Counts}

-- The radicand a / c is `squared_units W a / c` squares of a unit.
abbrev pub squared_units : Width → ℕ → ℕ
squared_units W a = a * 2 ^ least W * 2 ^ least W

-- v units are nearer than j units to the root of a / c: the root lies on v's side of (v + j) / 2, half way between them
abbrev pub NearerRoot : Width → ℕ → ℕ → ℕ → ℕ → Type 0
NearerRoot W a c v j = (v < j → 4 * squared_units W a < (v + j) * (v + j) * c) × (j < v → (v + j) * (v + j) * c < 4 * squared_units W a)

-- y is a number of the width that is not negative, and it is nearer to the root of a / c than any other
pub record IsNearestRoot (W : Width) (a c : ℕ) (y : Float) : Type 0 where
  pub units : ℕ
  pub counts : Counts W y false units
  pub number : Size W units
  pub nearer : (j : ℕ) → Size W j → NearerRoot W a c units j
