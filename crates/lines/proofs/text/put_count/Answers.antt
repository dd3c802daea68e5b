use Rattle.lines.proofs.Texts.{decimal_long, wrote, wrote_then}
use Rattle.formula.specs.Text.{decimal}
use Rattle.std.proofs.Common.{arith}
use Rattle.lines.proofs.text.put_count.Goals as goal

pub put_decimal-end-requires : goal.put_decimal-end-requires
put_decimal-end-requires c = omega (arith, decimal_long c.args.n c.ranges.n.fits, c.requires.0)

pub put_bytes-requires : goal.put_bytes-requires
put_bytes-requires c =
    let args = c.args in
    let fits = c.ranges in
    let pre = c.requires in
    let put_decimal = c.put_decimal-end in
    omega (arith, decimal_long args.n fits.n.fits, put_decimal.ensures.0, put_decimal.auto.out, pre.0, pre.1)

pub returns : goal.returns
returns c =
    let a = c.args in
    let fits = c.ranges in
    let pre = c.requires in
    let w = c.put_decimal-end in
    let v = c.put_bytes in
    let l = decimal_long a.n fits.n.fits in record {
      wrote = wrote_then a.out.now a.at (decimal a.n) w.new.out w.result a.after.now v.new.out v.result
          (omega (arith, w.ensures.0, pre.0)) (wrote a.out.now a.at (decimal a.n) w.new.out w.result w.ensures)
          (wrote w.new.out w.result a.after.now v.new.out v.result v.ensures);
      room = omega (arith, w.ensures.0, v.ensures.0, pre.1);
    }
