use Rattle.lines.proofs.Texts.{total_wrote, wrote}
use Rattle.lines.specs.Sums.{totals_of}
use Rattle.formula.specs.Text.{ascii}
use Rattle.std.proofs.Common.{arith}
use Rattle.lines.proofs.text.put_total.Goals as goal

pub returns : goal.returns
returns c =
    let a = c.args in
    let w1 = c.put_bytes-values in
    let w2 = c.put_count-domains in
    let w3 = c.put_count-asks in
    let w4 = c.put_count-bads in
    let w5 = c.put_count-steps in
    let w6 = c.put_count in
    let e = w1.ensures.0 in
    let h2 = w2.ensures.room in
    let h3 = w3.ensures.room in
    let h4 = w4.ensures.room in
    let h5 = w5.ensures.room in
    let h6 = w6.ensures.room in record {
      wrote = total_wrote a.out.now a.at (totals_of a.t) w1.new.out w2.new.out w3.new.out w4.new.out w5.new.out w6.new.out
          w1.result w2.result w3.result w4.result w5.result w6.result (omega arith) (omega arith) (omega arith) (omega arith) (omega arith)
          (wrote a.out.now a.at (ascii "total,") w1.new.out w1.result w1.ensures) w2.ensures.wrote w3.ensures.wrote w4.ensures.wrote w5.ensures.wrote w6.ensures.wrote;
      room = omega arith;
    }
