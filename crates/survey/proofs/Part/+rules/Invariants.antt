use Prim.Native.Nat.{◌+◌, ◌-◌, ◌*◌}
use Rattle.survey.specs.Table.{tree}
use Rattle.survey.proofs.Steps.{Summing}
use Rattle.survey.proofs.Part.+rules.Given as goal

abbrev pub decreases-rule_attributes : goal.decreases-rule_attributes
decreases-rule_attributes l = 8 * l.here.levels

abbrev pub decreases-node_attributes : goal.decreases-node_attributes
decreases-node_attributes l = 8 * l.first.levels + 1

abbrev pub invariant-node_attributes-loop-part : goal.invariant-node_attributes-loop-part
invariant-node_attributes-loop-part l =
    Summing l.self.by.symbol l.self.by.state (tree l.self.node.formula.now l.self.node.number) l.first.levels l.first.rule l.fn.head.children l.first.start
    (l.fn.head.children - l._part) l.start l.sum
