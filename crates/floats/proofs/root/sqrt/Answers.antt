use Rattle.std.proofs.Common.{ap, ◌∙◌}
use lib.Ieee.{binary64, fits, of_bits, div}
use lib.Ieee.Bits.{of_bits-to_bits}
use Rattle.arithmetic.specs.Root.{sqrt}
use Rattle.floats.proofs.Zero.{held, above, below, still}
use Rattle.floats.proofs.RootSteps.{positive_number, no_nan, bits_below, bits_above, no_nan_bits, sqrt_infinity, sqrt_below, sqrt_still}
use Rattle.floats.proofs.root.sqrt.Goals as goal
use Rattle.floats.proofs.root.sqrt.Goals.{else-x-2-via-then-x-2+else-x-3, else-x-2-via-else-x-2}

pub float_to_bits-x : goal.float_to_bits-x
unfolding of_bits
float_to_bits-x c = no_nan c.args.x (positive_number (above c.args.x c.if-x-2.true) c.if-x-3.true)

pub root_bits-requires : goal.root_bits-requires
unfolding of_bits
root_bits-requires c =
    let x = c.args.x in
    let p = positive_number (above x c.if-x-2.true) c.if-x-3.true in
    let t = held (fits binary64 x) c.well_formed.0.1 in
    (bits_above x p t, bits_below x p t)

pub float_from_bits-result : goal.float_from_bits-result
float_from_bits-result c = no_nan_bits c.root_bits.result c.root_bits.ensures.0

pub returns-then-x : goal.returns-then-x
unfolding of_bits div
returns-then-x c = sqrt_below (below c.args.x c.if-x.true)

pub returns-then-x-3 : goal.returns-then-x-3
returns-then-x-3 c = c.root_bits.ensures.1 ∙ ap (sqrt binary64) (of_bits-to_bits binary64 c.args.x (held (fits binary64 c.args.x) c.well_formed.0.1))

pub returns-else-x-2 : goal.returns-else-x-2
unfolding of_bits
returns-else-x-2 c = elim c.else-x-2.branch [
  | else-x-2-via-then-x-2+else-x-3 w ↦ sqrt_infinity (above c.args.x w.if-x-2.true) w.if-x-3.false
  | else-x-2-via-else-x-2 w ↦ sqrt_still (still binary64 c.args.x (held (fits binary64 c.args.x) c.well_formed.0.1) w.if-x-2.false c.if-x.false)
]
