use lib.Ieee.{of_bits}
use Rattle.floats.proofs.modulo.modulo.Goals as goal

pub returns-then-sum-b : goal.returns-then-sum-b
unfolding of_bits
returns-then-sum-b c = rw (← c.remainder-r.ensures, c.if-r.true, c.if-sum-b.true)

pub returns-else-sum-b : goal.returns-else-sum-b
unfolding of_bits
returns-else-sum-b c = rw (← c.remainder-r.ensures, c.if-r.true, c.if-sum-b.false)

pub returns-else-r : goal.returns-else-r
unfolding of_bits
returns-else-r c = rw (← c.remainder-r.ensures, c.if-r.false)
