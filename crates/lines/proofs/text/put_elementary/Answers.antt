use Rattle.lines.proofs.Texts.{decimal_byte, elementary_wrote, wrote}
use Rattle.listing.specs.Legs.{colon}
use Rattle.formula.specs.Text.{ascii, decimal}
use Rattle.std.proofs.Common.{arith}
use Rattle.lines.proofs.text.put_elementary.Goals as goal

pub put_decimal-colon-requires : goal.put_decimal-colon-requires
put_decimal-colon-requires c = omega (arith, decimal_byte c.args.f c.ranges.f.fits, c.put_bytes-function.ensures.0, c.put_bytes-function.auto.out, c.requires)

pub put_bytes-bits-requires : goal.put_bytes-bits-requires
put_bytes-bits-requires c =
    let args = c.args in
    let fits = c.ranges in
    let pre = c.requires in
    let put_bytes = c.put_bytes-function in
    let put_decimal = c.put_decimal-colon in
    omega (arith, decimal_byte args.f fits.f.fits, put_bytes.ensures.0, put_bytes.auto.out, put_decimal.ensures.0, put_decimal.auto.out, pre)

pub put_bits-requires : goal.put_bits-requires
put_bits-requires c =
    let args = c.args in
    let fits = c.ranges in
    let pre = c.requires in
    let put_bytes = c.put_bytes-function in
    let put_decimal = c.put_decimal-colon in
    let put_bytes2 = c.put_bytes-bits in
    omega (
      arith,
      decimal_byte args.f fits.f.fits,
      put_bytes.ensures.0,
      put_bytes.auto.out,
      put_decimal.ensures.0,
      put_decimal.auto.out,
      put_bytes2.ensures.0,
      put_bytes2.auto.out,
      pre,
    )

pub returns : goal.returns
returns c =
    let args = c.args in
    let fits = c.ranges in
    let pre = c.requires in
    let put_bytes = c.put_bytes-function in
    let put_decimal = c.put_decimal-colon in
    let put_bytes2 = c.put_bytes-bits in
    let put_bits = c.put_bits in
    let d = decimal_byte args.f fits.f.fits in
    let e1 = put_bytes.ensures.0 in
    let e2 = put_decimal.ensures.0 in
    let e3 = put_bytes2.ensures.0 in
    let w =
    elementary_wrote args.out.now args.at args.f args.x put_bytes.new.out put_decimal.new.out put_bytes2.new.out put_bits.new.out
    put_bytes.result put_decimal.result put_bytes2.result put_bits.result (omega (arith, pre)) (omega (arith, pre)) (omega (arith, pre))
    (wrote args.out.now args.at (ascii "ask,") put_bytes.new.out put_bytes.result put_bytes.ensures)
    (wrote put_bytes.new.out put_bytes.result (decimal args.f) put_decimal.new.out put_decimal.result put_decimal.ensures)
    (wrote put_decimal.new.out put_decimal.result colon put_bytes2.new.out put_bytes2.result put_bytes2.ensures) put_bits.ensures in record {
      wrote = w;
      room = let e4 = put_bits.ensures.ends in omega arith;
    }
