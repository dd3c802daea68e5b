-- The worked flights' name line and first line of values.
use mathlib.Core.Path.{◌≡◌, refl}
use mathlib.Core.List.{[], ◌∷◌}
use mathlib.Core.Option.{none, some, map}
use Rattle.formula.specs.Text.{ascii}
use Rattle.formula.specs.Names.{Parameter, Input, symbols_of, kinds}
use Rattle.formula.specs.Values.{values_of, hex}

pub names_read : map kinds (symbols_of (ascii "climb:p,burn:p,distance:i,tas:i,wind:i"))
    ≡ some (Parameter ∷ Parameter ∷ Input ∷ Input ∷ Input ∷ [])
unfolding symbols_of
names_read = refl

pub values_read : values_of (ascii "4056800000000000,4072c00000000000,4079000000000000,4069000000000000,0000000000000000")
    ≡ some (0x4056800000000000 ∷ 0x4072c00000000000 ∷ 0x4079000000000000 ∷ 0x4069000000000000 ∷ 0 ∷ [])
unfolding values_of
values_read = refl

pub value_written : hex 0x4085900000000000 ≡ ascii "4085900000000000"
value_written = refl

pub upper_case_refused : values_of (ascii "405680000000000A") ≡ none
unfolding values_of
upper_case_refused = refl

pub repeated_refused : symbols_of (ascii "a:p,b:s,a:i") ≡ none
unfolding symbols_of
repeated_refused = refl
