use lib.Ieee.{of_bits}
use Rattle.instruction.proofs.longer.remainder.Goals as goal

pub returns-else-b : goal.returns-else-b
unfolding of_bits
returns-else-b c = rw c.if-b.false
