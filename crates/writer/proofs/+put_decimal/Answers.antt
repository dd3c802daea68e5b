use mathlib.Core.Path.{◌∙◌}
use native.Mathlib.Omega.{arith}
use lib.ListN.{length-set}
use Rattle.writer.proofs.Decimal.{put_small, put_more, length_small, length_large}
use Rattle.writer.proofs.+put_decimal.Goals as goal

pub overflow_cast-out : goal.overflow_cast-out
overflow_cast-out t c = omega (arith, c.if-n-lt10.true)

pub overflow_add-out : goal.overflow_add-out
overflow_add-out t c = omega (arith, c.if-n-lt10.true)

pub bounds-out-at : goal.bounds-out-at
bounds-out-at t c = omega (arith, c.requires, length_small c.args.n c.if-n-lt10.true)

pub overflow_add-result : goal.overflow_add-result
overflow_add-result t c = omega (arith, c.requires, length_small c.args.n c.if-n-lt10.true)

pub shape_of-out-then-n-lt10 : goal.shape_of-out-then-n-lt10
shape_of-out-then-n-lt10 t c = length-set c.args.out.now c.args.at _

pub returns-then-n-lt10 : goal.returns-then-n-lt10
returns-then-n-lt10 t c = put_small c.args.out.now c.args.at c.args.n c.if-n-lt10.true c.requires

pub put_decimal-end-requires : goal.put_decimal-end-requires
put_decimal-end-requires t c =
    let args = c.args in
    let pre = c.requires in
    let if1 = c.if-n-lt10 in
    (omega (arith, if1.false), omega (arith, pre, length_large args.n if1.false))

pub bounds-out-end : goal.bounds-out-end
bounds-out-end t c =
    let args = c.args in
    let pre = c.requires in
    let if1 = c.if-n-lt10 in
    let put_decimal = c.put_decimal-end in
    omega (arith, pre, length_large args.n if1.false, put_decimal.ensures.0, put_decimal.auto.out)

pub overflow_add-result-2 : goal.overflow_add-result-2
overflow_add-result-2 t c =
    let args = c.args in
    let pre = c.requires in
    let if1 = c.if-n-lt10 in
    let put_decimal = c.put_decimal-end in
    omega (arith, pre, length_large args.n if1.false, put_decimal.ensures.0)

pub shape_of-out : goal.shape_of-out
shape_of-out t c = length-set c.put_decimal-end.new.out c.put_decimal-end.result _ ∙ c.put_decimal-end.auto.out

pub returns : goal.returns
returns t c =
    let args = c.args in
    let pre = c.requires in
    let if1 = c.if-n-lt10 in
    let put_decimal = c.put_decimal-end in
    put_more args.out.now put_decimal.new.out args.at put_decimal.result args.n if1.false pre put_decimal.ensures.0
    put_decimal.ensures.1
