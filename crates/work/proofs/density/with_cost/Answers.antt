use lib.Ieee.{of_bits}
use Rattle.meaning.specs.Work.{density_cost}
use Rattle.work.proofs.density.with_cost.Goals as goal

pub returns-in_default-get-4 : goal.returns-in_default-get-4
unfolding density_cost of_bits
returns-in_default-get-4 c = rw (c.in-Some.ensures, c.in-Some-get.ensures, c.in-Some-get-2.ensures, c.in-Some-get-3.ensures, c.in_default-get-4.ensures, c.asking-in_default-get-4.ensures, c.ln_two.ensures)
