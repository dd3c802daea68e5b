use Rattle.std.proofs.Common.{sym, arith, length-take-le}
use Rattle.formula.specs.Text.{zeros}
use Rattle.refusals.specs.Refusals.{number_of}
use Rattle.lines.proofs.Texts.{decimal_long}
use Rattle.lines.proofs.Newlines.{node_wrote}
use Rattle.lines.proofs.text.put_node_refusal.Goals as goal

pub put_decimal-end-requires : goal.put_decimal-end-requires
put_decimal-end-requires c = omega (arith, decimal_long c.args.node c.ranges.node.fits)

pub slice_bounds-digits-end : goal.slice_bounds-digits-end
slice_bounds-digits-end c = omega (arith, c.put_decimal-end.ensures.0, c.put_decimal-end.auto.out, decimal_long c.args.node c.ranges.node.fits)

pub slice_bounds-put_refusal-end : goal.slice_bounds-put_refusal-end
slice_bounds-put_refusal-end c =
    let digits = c.put_decimal-end in
    sym (length-take-le digits.result digits.new.out (omega (arith, digits.ensures.0, digits.auto.out, decimal_long c.args.node c.ranges.node.fits)))

pub returns : goal.returns
returns c =
    let args = c.args in
    let digits = c.put_decimal-end in
    let put = c.put_refusal in
    let r =
    node_wrote args.out.now args.at (number_of args.refusal) args.node (zeros 20) digits.new.out digits.result put.new.out put.result digits.ensures
    (decimal_long args.node c.ranges.node.fits) (put.ensures.wrote, put.ensures.room) in record {
      wrote = r.0;
      room = r.1;
    }
