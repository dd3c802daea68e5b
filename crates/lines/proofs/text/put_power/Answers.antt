use Rattle.lines.proofs.Texts.{power_wrote, wrote}
use Rattle.listing.specs.Legs.{colon}
use Rattle.formula.specs.Text.{ascii}
use Rattle.std.proofs.Common.{arith}
use Rattle.lines.proofs.text.put_power.Goals as goal

pub put_bits-colon-requires : goal.put_bits-colon-requires
put_bits-colon-requires c = omega (arith, c.put_bytes-base.ensures.0, c.put_bytes-base.auto.out, c.requires)

pub put_bytes-exponent-requires : goal.put_bytes-exponent-requires
put_bytes-exponent-requires c =
    let pre = c.requires in
    let put_bytes = c.put_bytes-base in
    let put_bits = c.put_bits-colon in
    omega (arith, put_bytes.ensures.0, put_bytes.auto.out, put_bits.ensures.ends, put_bits.auto.out, pre)

pub put_bits-requires : goal.put_bits-requires
put_bits-requires c =
    let pre = c.requires in
    let put_bytes = c.put_bytes-base in
    let put_bits = c.put_bits-colon in
    let put_bytes2 = c.put_bytes-exponent in
    omega (arith, put_bytes.ensures.0, put_bytes.auto.out, put_bits.ensures.ends, put_bits.auto.out, put_bytes2.ensures.0, put_bytes2.auto.out, pre)

pub returns : goal.returns
returns c =
    let args = c.args in
    let pre = c.requires in
    let put_bytes = c.put_bytes-base in
    let put_bits = c.put_bits-colon in
    let put_bytes2 = c.put_bytes-exponent in
    let put_bits2 = c.put_bits in
    power_wrote args.out.now args.at args.x args.y put_bytes.new.out put_bits.new.out put_bytes2.new.out put_bits2.new.out
    put_bytes.result put_bits.result put_bytes2.result put_bits2.result (omega (arith, put_bytes.ensures.0, pre))
    (omega (arith, put_bytes.ensures.0, put_bits.ensures.ends, pre))
    (omega (arith, put_bytes.ensures.0, put_bits.ensures.ends, put_bytes2.ensures.0, pre))
    (wrote args.out.now args.at (ascii "ask,16:") put_bytes.new.out put_bytes.result put_bytes.ensures) put_bits.ensures
    (wrote put_bits.new.out put_bits.result colon put_bytes2.new.out put_bytes2.result put_bytes2.ensures) put_bits2.ensures
