use Rattle.std.proofs.Common.{◌≡◌, true, sym, refl, ◌∙◌}
use lib.Ieee.{Float, nan, inf, fin, binary64, to_bits, is_nan}
use Rattle.floats.proofs.value.bits_of.Goals as goal

at_nan : (x : Float) → is_nan x ≡ true → 9221120237041090560 ≡ to_bits binary64 x
unfolding is_nan to_bits
at_nan nan h = refl
at_nan (inf s) h = cc
at_nan (fin s m e) h = cc

pub returns-then-is_nan : goal.returns-then-is_nan
returns-then-is_nan c = at_nan c.args.x (sym c.is_nan.ensures.value ∙ c.if-is_nan.true)
