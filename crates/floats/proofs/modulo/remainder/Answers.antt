-- The bits of both values without their signs decide.
use Rattle.std.proofs.Common.{ap, ap₂, ◌∙◌, sym, arith}
use lib.Ieee.{binary64, fits, of_bits, to_bits, neg}
use Rattle.floats.specs.Fields.{magnitude}
use Prim.Native.Nat.{◌%◌}
use Rattle.floats.proofs.Zero.{held}
use Rattle.floats.proofs.Remainders.{no_left, no_right, by_infinity, by_zero, plus_left, minus_left}
use Rattle.floats.proofs.modulo.remainder.Goals as goal
use Rattle.floats.proofs.modulo.remainder.Goals.{then-x-ge-INFINITY_BITS-via-then-x-ge-INFINITY_BITS, then-x-ge-INFINITY_BITS-via-else-x-ge-INFINITY_BITS+then-y-gt-INFINITY_BITS, then-x-ge-INFINITY_BITS-via-else-x-ge-INFINITY_BITS+else-y-gt-INFINITY_BITS+then-y-eq0}

pub returns-then-x-ge-INFINITY_BITS : goal.returns-then-x-ge-INFINITY_BITS
unfolding of_bits lib.Ieee.div
returns-then-x-ge-INFINITY_BITS c =
    let x = c.bits_of-x.ensures ∙ ap (to_bits binary64) c.abs.ensures in
    let y = c.bits_of-y.ensures ∙ ap (to_bits binary64) c.abs-2.ensures in
    let b = held (fits binary64 c.args.b) c.well_formed.1.0.1 in
    elim c.then-x-ge-INFINITY_BITS.branch [
      | then-x-ge-INFINITY_BITS-via-then-x-ge-INFINITY_BITS w ↦
          no_left c.args.a c.args.b (held (fits binary64 c.args.a) c.well_formed.0.1) (omega (arith, x, w.if-x-ge-INFINITY_BITS.true))
      | then-x-ge-INFINITY_BITS-via-else-x-ge-INFINITY_BITS+then-y-gt-INFINITY_BITS w ↦
          no_right c.args.a c.args.b b (omega (arith, x, w.if-x-ge-INFINITY_BITS.false)) (omega (arith, y, w.if-y-gt-INFINITY_BITS.true))
      | then-x-ge-INFINITY_BITS-via-else-x-ge-INFINITY_BITS+else-y-gt-INFINITY_BITS+then-y-eq0 w ↦
          by_zero c.args.a c.args.b b (omega (arith, x, w.if-x-ge-INFINITY_BITS.false)) (sym y ∙ w.if-y-eq0.true)
    ]

pub returns-then-y-eq-INFINITY_BITS : goal.returns-then-y-eq-INFINITY_BITS
returns-then-y-eq-INFINITY_BITS c =
    let x = c.bits_of-x.ensures ∙ ap (to_bits binary64) c.abs.ensures in
    let y = c.bits_of-y.ensures ∙ ap (to_bits binary64) c.abs-2.ensures in
    by_infinity c.args.a c.args.b (held (fits binary64 c.args.b) c.well_formed.1.0.1) (omega (arith, x, c.if-x-ge-INFINITY_BITS.false)) (sym y ∙ c.if-y-eq-INFINITY_BITS.true)

pub returns-then-bits_of-lt-MINUS_BIT : goal.returns-then-bits_of-lt-MINUS_BIT
returns-then-bits_of-lt-MINUS_BIT c =
    let x = c.bits_of-x.ensures ∙ ap (to_bits binary64) c.abs.ensures in
    let y = c.bits_of-y.ensures ∙ ap (to_bits binary64) c.abs-2.ensures in
    let l = c.left_over.ensures in
    c.of_bits-r.ensures ∙ plus_left c.args.a c.args.b (held (fits binary64 c.args.a) c.well_formed.0.1) (held (fits binary64 c.args.b) c.well_formed.1.0.1) c.left_over.result l.0 (
      omega (arith, x, c.if-x-ge-INFINITY_BITS.false),
      omega (arith, y, c.if-y-gt-INFINITY_BITS.false, c.if-y-eq-INFINITY_BITS.false),
      omega (arith, y, c.if-y-eq0.false),
      l.1 ∙ ap₂ (λ p q. magnitude p % magnitude q) x y,
    )
    (omega (arith, c.bits_of.ensures, c.if-bits_of-lt-MINUS_BIT.true))

pub returns-else-bits_of-lt-MINUS_BIT : goal.returns-else-bits_of-lt-MINUS_BIT
returns-else-bits_of-lt-MINUS_BIT c =
    let x = c.bits_of-x.ensures ∙ ap (to_bits binary64) c.abs.ensures in
    let y = c.bits_of-y.ensures ∙ ap (to_bits binary64) c.abs-2.ensures in
    let l = c.left_over.ensures in
    ap neg c.of_bits-r.ensures ∙ minus_left c.args.a c.args.b (held (fits binary64 c.args.a) c.well_formed.0.1) (held (fits binary64 c.args.b) c.well_formed.1.0.1) c.left_over.result l.0 (
      omega (arith, x, c.if-x-ge-INFINITY_BITS.false),
      omega (arith, y, c.if-y-gt-INFINITY_BITS.false, c.if-y-eq-INFINITY_BITS.false),
      omega (arith, y, c.if-y-eq0.false),
      l.1 ∙ ap₂ (λ p q. magnitude p % magnitude q) x y,
    )
    (omega (arith, c.bits_of.ensures, c.if-bits_of-lt-MINUS_BIT.false))
