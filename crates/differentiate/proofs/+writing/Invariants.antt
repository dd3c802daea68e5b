use Prim.Native.Nat.{ℕ, ◌+◌, ◌-◌, ◌*◌}
use mathlib.Core.List.{◌++◌}
use Rattle.survey.specs.Table.{tree}
use Rattle.differentiate.specs.Written.{arm_node, parts_bytes, extremum_bytes}
use Rattle.differentiate.proofs.Lists.{Begun}
use Rattle.differentiate.proofs.+writing.Given as goal

abbrev pub decreases-differentiate : goal.decreases-differentiate
decreases-differentiate g l = 100000 * l.depth + 2000

abbrev pub decreases-write_diff : goal.decreases-write_diff
decreases-write_diff g l = 100000 * (l.depth - 1) + 3000

abbrev pub decreases-write_extremum : goal.decreases-write_extremum
decreases-write_extremum g l = 100000 * (l.depth - 1) + 80000

abbrev pub decreases-write_node : goal.decreases-write_node
decreases-write_node g l = 100000 * l.depth + 16 * l.first.levels + 8

abbrev pub decreases-write_product : goal.decreases-write_product
decreases-write_product g l = 100000 * l.depth + 16 * l.first.levels + 10

abbrev pub decreases-write_rule : goal.decreases-write_rule
decreases-write_rule g l = 100000 * l.depth + 16 * l.here.levels

abbrev pub decreases-write_sum : goal.decreases-write_sum
decreases-write_sum g l = 100000 * l.depth + 16 * l.first.levels + 10

abbrev pub invariant-write_node-loop-part : goal.invariant-write_node-loop-part
invariant-write_node-loop-part g l =
    let part = l.fn.part in
    let tree2 = tree part.node.formula.now part.node.number in
    let m = g.F.Form.records in
    let head = l.fn.head in
    let first = l.fn.first in
    let text = λ (left i : ℕ). parts_bytes m part.by.symbol part.by.state part.node.number tree2 first.levels first.rule left i in
    Begun (arm_node m part.node.number tree2 head.kind head.operator head.children ++ text head.children first.start) (text (head.children - l._part) l.start)
    l.fn.out l.out l.n

abbrev pub invariant-write_extremum-loop-i : goal.invariant-write_extremum-loop-i
invariant-write_extremum-loop-i g l =
    let part = l.fn.part in
    let tree2 = tree part.node.formula.now part.node.number in
    let text = λ (i left : ℕ). extremum_bytes g.F.Form.records part.by.symbol part.by.state part.node.number tree2 i left in
    Begun (text 0 l.last) (text l.i (l.last - l.i)) l.fn.out l.out l.n
