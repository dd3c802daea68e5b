-- "Min and Max hold the earlier value unless the next is strictly beyond it."
use Rattle.std.specs.Prelude.{Bool, true, false, ◌&&◌, ◌||◌, cond, List, [], ◌∷◌, eqb, Float}
use Rattle.std.specs.Bool.{beq}
use Rattle.std.specs.Float.{nan, inf, fin}
use Rattle.std.specs.Float.Ieee.{lt}

abbrev pub held : (Float → Float → Bool) → Float → Float → Float
held beyond earlier next = cond (beyond next earlier) next earlier

-- from the left
unfoldable pub hold : (Float → Float → Bool) → Float → List Float → Float
hold beyond earlier [] = earlier
hold beyond earlier (x ∷ xs) = hold beyond (held beyond earlier x) xs

-- the zero with the sign s: -0 where s is true
abbrev pub zero_of : Bool → Float → Bool
zero_of s nan = false
zero_of s (inf t) = false
zero_of s (fin t m e) = beq s t && eqb m 0

-- "IEEE 754-2019 puts -0 below +0 for minimum and maximum."
abbrev pub below : Float → Float → Bool
below x y = lt x y || (zero_of true x && zero_of false y)

abbrev pub above : Float → Float → Bool
above x y = below y x

-- of a list that has a first value; no Min or Max of none is made
abbrev pub extremum : (Float → Float → Bool) → List Float → Float
extremum beyond [] = nan
extremum beyond (x ∷ xs) = hold beyond x xs
