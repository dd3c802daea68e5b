use Rattle.lines.proofs.Texts.{bits_wrote}
use Rattle.lines.proofs.text.put_bits.Goals as goal

pub returns : goal.returns
returns c =
    let args = c.args in
    let pre = c.requires in
    let bits_of = c.bits_of-n in
    let write_eight = c.write_eight in
    let put_long = c.put_long in
    let write_eight2 = c.write_eight-2 in
    let put_long2 = c.put_long-2 in
    bits_wrote args.out.now args.at bits_of.result args.x write_eight.result write_eight2.result put_long.new.p
    put_long2.new.p pre write_eight.ensures write_eight2.ensures bits_of.ensures put_long.ensures put_long2.ensures
