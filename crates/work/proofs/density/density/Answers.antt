use lib.Ieee.{of_bits}
use lib.ListN.{drop}
use Rattle.meaning.specs.Work.{density_work}
use Rattle.work.specs.View.{kept_values}
use Rattle.work.proofs.Answers.{given}
use Rattle.work.proofs.density.density.Goals as goal

pub returns-in_default-get-3 : goal.returns-in_default-get-3
unfolding density_work of_bits
returns-in_default-get-3 c =
    rw (c.if-mean.false, c.if-shape.false, c.if-x.false, c.in-Some.ensures, c.in-Some-get.ensures, c.in-Some-get-2.ensures, c.if-x-mean.true, c.in_default-get-3.ensures, c.asking-in_default-get-3.ensures)

pub returns-then-x-mean : goal.returns-then-x-mean
unfolding density_work of_bits
returns-then-x-mean c =
    rw (c.if-mean.false, c.if-shape.false, c.if-x.false, c.in-Some.ensures, c.in-Some-get.ensures, c.in-Some-get-2.ensures, c.if-x-mean.true, c.in-Some-get-3.ensures)
    (given _ (drop 4 (kept_values c.args.kept)))

pub returns : goal.returns
unfolding density_work of_bits
returns c = rw (c.if-mean.false, c.if-shape.false, c.if-x.false, c.in-Some.ensures, c.in-Some-get.ensures, c.in-Some-get-2.ensures, c.if-x-mean.false) c.with_cost.ensures
