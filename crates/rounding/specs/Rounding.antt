-- What rounding to a width means, by IEEE 754's roundTiesToEven: the number that is nearest to the exact result, and of two that are equally near the one with an
-- even last digit. An infinity counts as 2 ^ (power + 1), so it is the result exactly from half way between the largest number and that on.
-- Sizes are whole numbers of units (the least positive value). A fraction a / c is a * 2 ^ least W / c units; what is compared is times c, so whole too.
use Rattle.std.specs.Prelude.{◌≡◌, Bool, ℤ, Float}
use Prim.Native.Nat.{ℕ, suc, ◌+◌, ◌-◌, ◌*◌, ◌/◌, ◌^◌, ◌≤◌, ◌<◌, compare}
use Rattle.std.specs.Float.{nan, inf, fin}
use Rattle.std.specs.Float.Ieee.{up, down, size, nearest}
use Rattle.arithmetic.specs.Width.{Width, digits, least, past, of_units}

-- at most p binary digits, and zeros after them
pub record Short (p j : ℕ) : Type 0 where
  pub digits : ℕ
  pub zeros : ℕ
  pub few : digits < 2 ^ p
  pub same : j ≡ digits * 2 ^ zeros

-- m * 2 ^ e is a number of the width: m has so many digits at most, and it is a whole number of units and below 2 ^ (power + 1)
pub record Held (W : Width) (m : ℕ) (e : ℤ) : Type 0 where
  pub few : m < 2 ^ digits W
  pub fine : down e ≤ 2 ^ least W
  pub range : m * up e < 2 ^ suc W.power * down e

-- In units: j is the size of a number of the width, or 2 ^ (power + 1)
pub record Size (W : Width) (j : ℕ) : Type 0 where
  pub short : Short (digits W) j
  pub within : j ≤ past W

-- the largest number: all digits ones
abbrev pub largest : Width → ℕ
largest W = (2 ^ digits W - 1) * 2 ^ (least W + W.power - W.fraction)

-- y has the sign s, and is j units in size
abbrev pub Counts : Width → Float → Bool → ℕ → Type 0
Counts W nan s j = ⊥
Counts W (inf t) s j = (t ≡ s) × (j ≡ past W)
Counts W (fin t m e) s j = (t ≡ s) × (m * up e * 2 ^ least W ≡ j * down e) × (j < past W)

-- |a - b|
abbrev pub distance : ℕ → ℕ → ℕ
distance a b = (a - b) + (b - a)

-- c times how far j units are from a / c
abbrev pub off : Width → ℕ → ℕ → ℕ → ℕ
off W a c j = distance (j * c) (a * 2 ^ least W)

-- y is ±a / c, rounded once: it has the sign, a zero too, no number is nearer, and of two that are equally near it is the even one. Two that are equally near
-- are neighbours, and the even one is an even number of times the gap between them; that its last digit is 0 is `last_digit` in `Widths`.
pub record IsRounded (W : Width) (s : Bool) (a c : ℕ) (y : Float) : Type 0 where
  pub units : ℕ
  pub counts : Counts W y s units
  pub number : Size W units
  pub closest : (j : ℕ) → Size W j → off W a c units ≤ off W a c j
  pub even : (j : ℕ) → Size W j → (j ≡ units → ⊥) → off W a c units ≡ off W a c j → (half : ℕ) × (units ≡ 2 * half * distance units j)

-- twice n, and twice what is half way between q and q + 1 times u
abbrev pub twice : ℕ → ℕ
twice n = 2 * n

abbrev pub half_way : ℕ → ℕ → ℕ
half_way u q = (2 * q + 1) * u

-- of q and q + 1 times u the nearer to n; half way between the two, the even one
abbrev pub nearer : ℕ → ℕ → ℕ → ℕ
nearer n u q = nearest q (compare (twice n) (half_way u q))

-- One that is: there are n / c units. Numbers near that are multiples of 2 ^ k units, and it lies from q to q + 1 such multiples; the nearer one is kept.
unfoldable pub round_at : Width → Bool → ℕ → ℕ → Float
unfolding size of_units
round_at W s a c =
    let n = a * 2 ^ least W in
    let k = size (n / c) - digits W in
    let u = c * 2 ^ k in
    of_units W s (nearer n u (n / u)) k
