use Prim.Native.Nat.{◌+◌, ◌*◌}
use Rattle.lower.proofs.Source.+lowering.Given as goal

abbrev pub decreases-branch : goal.decreases-branch
decreases-branch l = 1048576 * l.levels + 4 * l.choice.yes.left + 4 * l.choice.no.left + 2

abbrev pub decreases-link : goal.decreases-link
decreases-link l = 1048576 * l.levels + 4 * l.chain.left

abbrev pub decreases-lower : goal.decreases-lower
decreases-lower l = 1048576 * l.levels + 4 * l.chain.left + 1

abbrev pub decreases-node : goal.decreases-node
decreases-node l = 1048576 * l.levels

abbrev pub decreases-operand : goal.decreases-operand
decreases-operand l = 1048576 * l.levels + 4 * l.o.left + 5

abbrev pub decreases-operands : goal.decreases-operands
decreases-operands l = 1048576 * l.levels + 4 * l.o.left + 6
