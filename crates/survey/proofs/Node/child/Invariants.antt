use Prim.Native.Nat.{◌+◌, ◌-◌, ◌*◌}
use Rattle.formula.specs.Text.{half_at}
use Rattle.formula.specs.Node.{node_size}
use Rattle.survey.proofs.Trees.{Walk}
use Rattle.survey.proofs.Node.child.Given as goal

abbrev pub invariant-loop-passed : goal.invariant-loop-passed
invariant-loop-passed l =
    let left = l.i - l._passed in
    Walk l.self.formula.now l.self.number l.i (left + (half_at l.self.formula.now (node_size * l.self.number + 2) - l.i)) left l.number
