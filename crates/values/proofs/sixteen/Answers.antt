use Rattle.std.proofs.Common.{arith}
use Rattle.values.proofs.Parts.{two_words}
use Rattle.names.specs.Lines.{cap}
use Rattle.values.proofs.sixteen.Goals as goal

pub overflow_mul-result : goal.overflow_mul-result
unfolding cap
overflow_mul-result c = omega (arith, c.in_ok-high.ensures.1)

pub overflow_add-result : goal.overflow_add-result
unfolding cap
overflow_add-result c = omega (arith, c.in_ok-high.ensures.1, c.in_ok-low.ensures.1)

pub returns : goal.returns
returns c =
    two_words c.args.input.now (λ i. omega (arith, c.type_inv.input i)) c.args.at c.requires c.in_ok-high.high c.in_ok-low.low
    (rw c.long-a.ensures at c.in_ok-high.ensures) (rw c.long-b.ensures at c.in_ok-low.ensures)
