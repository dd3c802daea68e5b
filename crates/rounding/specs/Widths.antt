-- What holds for every width with a fraction of at least one digit and a power above the fraction's number of digits, on one page (`proofs/Widths`).
use Rattle.std.specs.Prelude.{◌≡◌, ◌⊎◌, ◌↔◌, Bool, false, ℕ, suc, ◌+◌, ◌*◌, ◌%◌, ◌^◌, ◌≤◌, ◌<◌, ℤ, Float}
use Rattle.std.specs.Float.{inf, fin}
use Rattle.std.specs.Float.Ieee.{up, down}
use Rattle.arithmetic.specs.Width.{Width, digits, least, past}
use Rattle.arithmetic.specs.Root.{sqrt_at}
use Rattle.rounding.specs.Rounding.{Held, Size, largest, off, IsRounded, round_at}
use Rattle.rounding.specs.Exact.{off±}
use Rattle.rounding.specs.Whole.{IsFloor, IsCeil, floor_at, ceil_at}
use Rattle.rounding.specs.NearestRoot.{IsNearestRoot}
use Rattle.rounding.specs.Modulo.{IsModulo, modulo_at}

pub record Sound (W : Width) : Type 0 where
  -- every fraction rounds, and to one size only
  pub rounding : (s : Bool) (a c : ℕ) → 0 < c → IsRounded W s a c (round_at W s a c)
  pub single : (s t : Bool) (a c : ℕ) (y z : Float) (r : IsRounded W s a c y) (q : IsRounded W t a c z) → r.units ≡ q.units
  -- no number of either sign is nearer
  pub nearest : (s : Bool) (a c : ℕ) (y : Float) (r : IsRounded W s a c y) (t : Bool) (j : ℕ) → Size W j → off± W s a c s r.units ≤ off± W s a c t j
  -- where another number is as near, the last digit is even: d has all the digits of the width, or the size is subnormal (k is 0)
  pub last_digit : (s : Bool) (a c : ℕ) (y : Float) → 0 < c → (r : IsRounded W s a c y) (j : ℕ) → Size W j → (j ≡ r.units → ⊥) → off W a c r.units ≡ off W a c j
      → (d k : ℕ) → d < 2 ^ digits W → r.units ≡ d * 2 ^ k → (k ≡ 0) ⊎ (2 ^ W.fraction ≤ d) → d % 2 ≡ 0
  -- a number rounds to itself
  pub itself : (s : Bool) (a c j : ℕ) (y : Float) (r : IsRounded W s a c y) → 0 < c → Size W j → a * 2 ^ least W ≡ j * c → r.units ≡ j
  -- the result is infinite exactly from half way between the largest number and 2 ^ (power + 1) on
  pub infinite : (s : Bool) (a c : ℕ) (y : Float) → 0 < c → IsRounded W s a c y → (y ≡ inf s) ↔ ((largest W + past W) * c ≤ 2 * (a * 2 ^ least W))
  -- of numbers of the width
  pub floors : (s : Bool) (m : ℕ) (e : ℤ) → Held W m e → IsFloor W (fin s m e) (floor_at W (fin s m e))
  pub ceils : (s : Bool) (m : ℕ) (e : ℤ) → Held W m e → IsCeil W (fin s m e) (ceil_at W (fin s m e))
  pub roots : (m : ℕ) (e : ℤ) → Held W (suc m) e → IsNearestRoot W (suc m * up e) (down e) (sqrt_at W (fin false (suc m) e))
  pub modulos : (s : Bool) (m : ℕ) (e : ℤ) (n : ℕ) (d : ℤ) → Held W m e → Held W (suc n) d → IsModulo W (fin s m e) (fin false (suc n) d) (modulo_at W (fin s m e) (fin false (suc n) d))
