-- Only the chosen arm is read: neither the questions nor the Domain of the other show.
use mathlib.Core.Path.{◌≡◌}
use mathlib.Core.List.{List}
use mathlib.Core.Bool.{true, false}
use lib.Ieee.{Float, Format}
use Rattle.arithmetic.specs.Value.{is_one}
use Rattle.formula.specs.Path.{Path, ◌▸◌, condition, else_arm, then_arm}
use Rattle.formula.specs.Term.{Term, branch}
use Rattle.meaning.specs.Reading.{reading, value}

module _ (F : Format) (inputs : List Float) (c y e : Term) (p : Path) (s s' : List Float) (b : Float)
    (read : reading F inputs c (p ▸ condition) s ≡ value b s') where
  pub then_only : is_one b ≡ true → reading F inputs (branch c y e) p s ≡ reading F inputs y (p ▸ then_arm) s'
  then_only h = rw (read, h)

  pub else_only : is_one b ≡ false → reading F inputs (branch c y e) p s ≡ reading F inputs e (p ▸ else_arm) s'
  else_only h = rw (read, h)
