-- "Modulo takes the exact remainder r, adds b once if r < 0, and gives 0.0 if that sum reached b."
use Rattle.std.specs.Prelude.{cond, Float}
use Rattle.std.specs.Float.{Format}
use Rattle.std.specs.Float.Ieee.{add, rem, lt, le}
use Rattle.arithmetic.specs.Value.{0f}

-- a sum that was to stay below b
abbrev pub wrapped : Float → Float → Float
wrapped b sum = cond (le b sum) 0f sum

-- of any remainder and any sum
abbrev pub modulo_by : (Float → Float → Float) → (Float → Float → Float) → Float → Float → Float
modulo_by remainder plus a b = cond (lt (remainder a b) 0f) (wrapped b (plus (remainder a b) b)) (remainder a b)

-- a modulo a b above 0; `rem` has a's sign and is exact
abbrev pub modulo : Format → Float → Float → Float
modulo F a b = modulo_by (rem F) (add F) a b
