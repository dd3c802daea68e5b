-- Every width is sound.
use Prim.Native.Nat.{◌≤◌, ◌<◌}
use native.Mathlib.Omega.{arith}
use Rattle.arithmetic.specs.Width.{Width}
use Rattle.rounding.specs.Widths.{Sound}
use Rattle.rounding.proofs.Nearest.{round_at_rounded}
use Rattle.rounding.proofs.LastDigit.{last_digit}
use Rattle.rounding.proofs.Once.{no_nearer}
use Rattle.rounding.proofs.Rounded.{rounded_once, rounded_number, infinite_from}
use Rattle.rounding.proofs.Whole.{floor_at_is, ceil_at_is}
use Rattle.rounding.proofs.NearestRoot.{sqrt_at_nearest}
use Rattle.rounding.proofs.Remainder.{modulo_at_is}

pub sound : (W : Width) → 1 ≤ W.fraction → W.fraction < W.power → Sound W
sound W some wide =
    let reach : W.fraction ≤ W.power = omega arith in
    let above : 1 ≤ W.power = omega arith in
    record {
      rounding = round_at_rounded W;
      single = rounded_once W;
      nearest = no_nearer W;
      last_digit = last_digit W some;
      itself = rounded_number W;
      infinite = λ s a c y C. infinite_from W s a c y C above;
      floors = floor_at_is W reach;
      ceils = ceil_at_is W reach;
      roots = sqrt_at_nearest W above;
      modulos = modulo_at_is W;
    }
