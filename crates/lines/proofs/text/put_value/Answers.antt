use Rattle.lines.proofs.Texts.{wrote, wrote_then}
use Rattle.listing.specs.Legs.{bits_text}
use Rattle.formula.specs.Text.{ascii}
use Rattle.std.proofs.Common.{arith}
use Rattle.lines.proofs.text.put_value.Goals as goal

pub returns : goal.returns
returns c =
    let args = c.args in
    let pre = c.requires in
    let put_bytes = c.put_bytes-end in
    let put_bits = c.put_bits in
    wrote_then args.out.now args.at (ascii "value,") put_bytes.new.out put_bytes.result (bits_text args.x) put_bits.new.out
    put_bits.result (omega (arith, put_bytes.ensures.0, pre))
    (wrote args.out.now args.at (ascii "value,") put_bytes.new.out put_bytes.result put_bytes.ensures) put_bits.ensures
