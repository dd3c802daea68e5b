use lib.Ieee.{of_bits}
use lib.ListN.{drop}
use Rattle.meaning.specs.Work.{hill_work}
use Rattle.work.specs.View.{kept_values}
use Rattle.work.proofs.Answers.{given}
use Rattle.work.proofs.hill.hill.Goals as goal

pub returns-then-z : goal.returns-then-z
unfolding hill_work of_bits lib.Ieee.div lib.Ieee.le lib.Ieee.add lib.Ieee.mul
returns-then-z c =
    rw (c.if-n.false, c.if-k.false, c.if-x.false, c.in-Some.ensures, c.in-Some-get.ensures, c.if-z.true, c.in-Some-get-2.ensures)
    (given _ (drop 3 (kept_values c.args.kept)))

pub returns : goal.returns
unfolding hill_work of_bits lib.Ieee.div lib.Ieee.le lib.Ieee.add lib.Ieee.mul
returns c =
    rw (c.if-n.false, c.if-k.false, c.if-x.false, c.in-Some.ensures, c.in-Some-get.ensures, c.if-z.false, c.in-Some-get-3.ensures)
    (given _ (drop 3 (kept_values c.args.kept)))
