-- "Modulo takes the exact remainder r, adds b once if r < 0, and gives 0.0 if that sum reached b": of numbers a and b of a width, b above 0.
-- Over their common denominator `den a * den b` a is ±(num a * den b) and b is num b * den a.
use Rattle.std.specs.Prelude.{◌≡◌, ◌⊎◌, true, false, ◌&&◌, ℕ, ◌+◌, ◌-◌, ◌*◌, ◌%◌, ◌^◌, ◌<◌, T, ◌+ℤ◌, nat_abs, Float}
use Rattle.std.specs.Float.Ieee.{le, lt}
use Rattle.std.specs.Float.Ieee.Positive.{num, den}
use Rattle.arithmetic.specs.Width.{Width, least}
use Rattle.arithmetic.specs.Value.{0f}
use Rattle.arithmetic.specs.Modulo.{wrapped, modulo_by}
use Rattle.rounding.specs.Rounding.{Size, Counts, IsRounded, round_at}
use Rattle.rounding.specs.Exact.{sign, signed, sign_of}

-- y is a modulo b
pub record IsModulo (W : Width) (a b y : Float) : Type 0 where
  -- a = ±(n b + |r|) exactly, with |r| < b. r has a's sign, and it is a number of the width
  pub n : ℕ
  pub r : ℕ
  pub exact : num a * den b ≡ n * (num b * den a) + r
  pub less : r < num b * den a
  pub units : ℕ
  pub same : r * 2 ^ least W ≡ units * (den a * den b)
  pub number : Size W units
  -- where r is not below 0, or a negative zero, it is the result
  pub kept : (sign a ≡ false) ⊎ (r ≡ 0) → Counts W y (sign a) units
  -- where it is below 0, r + b rounded once, which is at most b; where it reached b, 0.0
  pub moved : sign a ≡ true → 0 < r → (sum : Float) × IsRounded W false (num b * den a - r) (den a * den b) sum × T (le sum b) × (y ≡ wrapped b sum)
  -- from 0 up to b
  pub not_below : T (le 0f y)
  pub below : T (lt y b)

-- the remainder and the sum of finite values, exact and then rounded once
abbrev pub rem_at : Width → Float → Float → Float
rem_at W a b = round_at W (sign a) (num a * den b % (num b * den a)) (den a * den b)

abbrev pub add_at : Width → Float → Float → Float
add_at W x y =
    let n = signed (sign x) (num x * den y) +ℤ signed (sign y) (num y * den x) in
    round_at W (sign_of (sign x && sign y) n) (nat_abs n) (den x * den y)

abbrev pub modulo_at : Width → Float → Float → Float
modulo_at W a b = modulo_by (rem_at W) (add_at W) a b
