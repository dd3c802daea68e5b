-- The widths of f64 and f32 are sound.
use lib.Dec.{lit≤, lit<}
use lib.Ieee.{binary32, binary64}
use Rattle.arithmetic.specs.Width.{width}
use Rattle.rounding.specs.Widths.{Sound}
use Rattle.rounding.proofs.Widths.{sound}

pub f64_sound : Sound (width binary64)
f64_sound = sound (width binary64) (lit≤ tt) (lit< tt)

pub f32_sound : Sound (width binary32)
f32_sound = sound (width binary32) (lit≤ tt) (lit< tt)
