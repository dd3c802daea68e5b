-- Floor and Ceil of a number x of a width, for every width with a power of at least its fraction: the largest whole number that is not above x and the least that
-- is not below it, in the width's range and with x's sign, also where it is zero. Every whole number is a `Float`, of whatever width, so the numbers that they are
-- held against are all whole numbers, not only those of the width.
use Rattle.std.specs.Prelude.{◌≡◌, true, ℕ, T, Float}
use Rattle.std.specs.Float.Ieee.{le}
use Rattle.arithmetic.specs.Width.{Width}
use Rattle.arithmetic.specs.Value.{whole}
use Rattle.arithmetic.specs.Round.{floor_by, ceil_by}
use Rattle.rounding.specs.Rounding.{Size, Counts, round_at}
use Rattle.rounding.specs.Exact.{sign}

pub record IsFloor (W : Width) (x y : Float) : Type 0 where
  pub units : ℕ
  pub counts : Counts W y (sign x) units
  pub number : Size W units
  pub is_whole : whole y ≡ true
  pub not_above : T (le y x)
  pub largest : (z : Float) → whole z ≡ true → T (le z x) → T (le z y)

pub record IsCeil (W : Width) (x y : Float) : Type 0 where
  pub units : ℕ
  pub counts : Counts W y (sign x) units
  pub number : Size W units
  pub is_whole : whole y ≡ true
  pub not_below : T (le x y)
  pub least : (z : Float) → whole z ≡ true → T (le x z) → T (le y z)

abbrev pub floor_at : Width → Float → Float
floor_at W x = floor_by (round_at W) x

abbrev pub ceil_at : Width → Float → Float
ceil_at W x = ceil_by (round_at W) x
