use Rattle.lines.proofs.Texts.{decimal_long, line_wrote, wrote}
use Rattle.run.specs.Views.{answer_of}
use Rattle.listing.specs.Legs.{comma}
use Rattle.formula.specs.Text.{ascii, decimal}
use Rattle.std.proofs.Common.{arith}
use Rattle.lines.proofs.text.put_line.Goals as goal

pub put_decimal-comma-requires : goal.put_decimal-comma-requires
put_decimal-comma-requires c = omega (arith, decimal_long c.args.number c.ranges.number.fits, c.requires.1)

pub put_bytes-first-requires : goal.put_bytes-first-requires
put_bytes-first-requires c =
    let args = c.args in
    let fits = c.ranges in
    let pre = c.requires in
    let put_decimal = c.put_decimal-comma in
    omega (arith, decimal_long args.number fits.number.fits, put_decimal.ensures.0, put_decimal.auto.out, pre.1)

pub put_answer-end-requires : goal.put_answer-end-requires
put_answer-end-requires c =
    let args = c.args in
    let fits = c.ranges in
    let pre = c.requires in
    let put_decimal = c.put_decimal-comma in
    let put_bytes = c.put_bytes-first in (
      pre.0,
      omega (
        arith,
        decimal_long args.number fits.number.fits,
        put_decimal.ensures.0,
        put_decimal.auto.out,
        put_bytes.ensures.0,
        put_bytes.auto.out,
        pre.1,
      ),
    )

pub put_bytes-last-requires : goal.put_bytes-last-requires
put_bytes-last-requires c =
    let args = c.args in
    let fits = c.ranges in
    let pre = c.requires in
    let put_decimal = c.put_decimal-comma in
    let put_bytes = c.put_bytes-first in
    let put_answer = c.put_answer-end in
    omega (
      arith,
      decimal_long args.number fits.number.fits,
      put_decimal.ensures.0,
      put_decimal.auto.out,
      put_bytes.ensures.0,
      put_bytes.auto.out,
      put_answer.ensures.room,
      put_answer.auto.out,
      pre.1,
    )

pub put_decimal-newline-requires : goal.put_decimal-newline-requires
put_decimal-newline-requires c =
    let args = c.args in
    let fits = c.ranges in
    let pre = c.requires in
    let put_decimal = c.put_decimal-comma in
    let put_bytes = c.put_bytes-first in
    let put_answer = c.put_answer-end in
    let put_bytes2 = c.put_bytes-last in
    omega (
      arith,
      decimal_long args.number fits.number.fits,
      put_decimal.ensures.0,
      put_decimal.auto.out,
      put_bytes.ensures.0,
      put_bytes.auto.out,
      put_answer.ensures.room,
      put_answer.auto.out,
      put_bytes2.ensures.0,
      put_bytes2.auto.out,
      decimal_long c.steps_of.result c.steps_of.type_inv,
      pre.1,
    )

pub put_bytes-requires : goal.put_bytes-requires
put_bytes-requires c =
    let args = c.args in
    let fits = c.ranges in
    let pre = c.requires in
    let put_decimal = c.put_decimal-comma in
    let put_bytes = c.put_bytes-first in
    let put_answer = c.put_answer-end in
    let put_bytes2 = c.put_bytes-last in
    let steps_of = c.steps_of in
    let put_decimal2 = c.put_decimal-newline in
    omega (
      arith,
      decimal_long args.number fits.number.fits,
      put_decimal.ensures.0,
      put_decimal.auto.out,
      put_bytes.ensures.0,
      put_bytes.auto.out,
      put_answer.ensures.room,
      put_answer.auto.out,
      put_bytes2.ensures.0,
      put_bytes2.auto.out,
      decimal_long steps_of.result steps_of.type_inv,
      put_decimal2.ensures.0,
      put_decimal2.auto.out,
      pre.1,
    )

pub returns : goal.returns
returns c =
    let args = c.args in
    let fits = c.ranges in
    let pre = c.requires in
    let put_decimal = c.put_decimal-comma in
    let put_bytes = c.put_bytes-first in
    let put_answer = c.put_answer-end in
    let put_bytes2 = c.put_bytes-last in
    let steps_of = c.steps_of in
    let put_decimal2 = c.put_decimal-newline in
    let put_bytes3 = c.put_bytes in record {
      wrote = line_wrote args.out.now args.at args.number args.outcome.count steps_of.result (answer_of args.p.bytes.now args.outcome.answer)
          put_decimal.new.out put_bytes.new.out put_answer.new.out put_bytes2.new.out put_decimal2.new.out put_bytes3.new.out
          put_decimal.result put_bytes.result put_answer.result put_bytes2.result put_decimal2.result put_bytes3.result
          (steps_of.ensures args.p.bytes.now)
          (omega (arith, decimal_long args.number fits.number.fits, put_decimal.ensures.0, put_decimal.auto.out, pre.1))
          (omega (
            arith,
            decimal_long args.number fits.number.fits,
            put_decimal.ensures.0,
            put_decimal.auto.out,
            put_bytes.ensures.0,
            put_bytes.auto.out,
            pre.1,
          ))
          (omega (
            arith,
            decimal_long args.number fits.number.fits,
            put_decimal.ensures.0,
            put_decimal.auto.out,
            put_bytes.ensures.0,
            put_bytes.auto.out,
            put_answer.ensures.room,
            put_answer.auto.out,
            pre.1,
          ))
          (omega (
            arith,
            decimal_long args.number fits.number.fits,
            put_decimal.ensures.0,
            put_decimal.auto.out,
            put_bytes.ensures.0,
            put_bytes.auto.out,
            put_answer.ensures.room,
            put_answer.auto.out,
            put_bytes2.ensures.0,
            put_bytes2.auto.out,
            pre.1,
          ))
          (omega (
            arith,
            decimal_long args.number fits.number.fits,
            put_decimal.ensures.0,
            put_decimal.auto.out,
            put_bytes.ensures.0,
            put_bytes.auto.out,
            put_answer.ensures.room,
            put_answer.auto.out,
            put_bytes2.ensures.0,
            put_bytes2.auto.out,
            decimal_long steps_of.result steps_of.type_inv,
            put_decimal2.ensures.0,
            put_decimal2.auto.out,
            pre.1,
          ))
          (wrote args.out.now args.at (decimal args.number) put_decimal.new.out put_decimal.result put_decimal.ensures)
          (wrote put_decimal.new.out put_decimal.result (comma) put_bytes.new.out put_bytes.result put_bytes.ensures) put_answer.ensures.wrote
          (wrote put_answer.new.out put_answer.result (comma) put_bytes2.new.out put_bytes2.result put_bytes2.ensures)
          (wrote put_bytes2.new.out put_bytes2.result (decimal steps_of.result) put_decimal2.new.out put_decimal2.result put_decimal2.ensures)
          (wrote put_decimal2.new.out put_decimal2.result (ascii "\n") put_bytes3.new.out put_bytes3.result put_bytes3.ensures);
      room = omega (
        arith,
        decimal_long args.number fits.number.fits,
        put_decimal.ensures.0,
        put_decimal.auto.out,
        put_bytes.ensures.0,
        put_bytes.auto.out,
        put_answer.ensures.room,
        put_answer.auto.out,
        put_bytes2.ensures.0,
        put_bytes2.auto.out,
        decimal_long steps_of.result steps_of.type_inv,
        put_decimal2.ensures.0,
        put_decimal2.auto.out,
        put_bytes3.ensures.0,
        pre.1,
      );
    }
