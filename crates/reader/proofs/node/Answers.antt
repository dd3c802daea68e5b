use native.Mathlib.Omega.{arith}
use Rattle.formula.specs.Node.{fields_at}
use Rattle.reader.proofs.node.Goals as goal

pub returns : goal.returns
unfolding fields_at
returns c = (cc, omega arith)
