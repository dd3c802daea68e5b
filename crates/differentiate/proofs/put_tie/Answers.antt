use native.Mathlib.Omega.{arith}
use mathlib.Core.List.{◌++◌}
use Rattle.formula.specs.Node.{inner_fields}
use Rattle.derivative.specs.Records.{by_rule, copy}
use Rattle.survey.specs.Table.{tree}
use Rattle.differentiate.specs.Written.{bytes, arm_of, arm_node, copy_of}
use Rattle.differentiate.proofs.Lists.{front, behind_room, behind_writes}
use Rattle.differentiate.proofs.Leaves.{start_length}
use Rattle.differentiate.proofs.put_tie.Goals as goal

pub put_head-a-requires : goal.put_head-a-requires
put_head-a-requires g c =
    let node = c.args.node.now in
    let t = tree node.formula.now node.number in
    let m = g.F.Form.records in
    let a = arm_node m node.number t 8 0 3 in
    let b = arm_node m node.number t 5 4 2 in
    let third = bytes m (copy_of node.number t c.args.i) in
    let last = bytes m (copy node.number t) in
    let three = front ((a ++ b) ++ third) last c.args.out.now c.requires in
    let two = front (a ++ b) third c.args.out.now three in
    omega (arith, front a b c.args.out.now two, start_length m (by_rule (arm_of t) node.number) (inner_fields 8 0 3))

pub put_head-requires : goal.put_head-requires
put_head-requires g c =
    let node = c.args.node.now in
    let t = tree node.formula.now node.number in
    let m = g.F.Form.records in
    let a = arm_node m node.number t 8 0 3 in
    let b = arm_node m node.number t 5 4 2 in
    let third = bytes m (copy_of node.number t c.args.i) in
    let last = bytes m (copy node.number t) in
    let three = front ((a ++ b) ++ third) last c.args.out.now c.requires in
    let two = front (a ++ b) third c.args.out.now three in
    omega (arith, behind_room c.put_head-a.ensures b two, start_length m (by_rule (arm_of t) node.number) (inner_fields 5 4 2))

pub put_child-requires : goal.put_child-requires
put_child-requires g c =
    let node = c.args.node.now in
    let t = tree node.formula.now node.number in
    let m = g.F.Form.records in
    let a = arm_node m node.number t 8 0 3 in
    let b = arm_node m node.number t 5 4 2 in
    let third = bytes m (copy_of node.number t c.args.i) in
    let last = bytes m (copy node.number t) in
    let three = front ((a ++ b) ++ third) last c.args.out.now c.requires in
    let two = front (a ++ b) third c.args.out.now three in
    let second = behind_writes c.put_head-a.ensures b two c.put_head.ensures in
    behind_room second third three

pub put_copy-requires : goal.put_copy-requires
put_copy-requires g c =
    let node = c.args.node.now in
    let t = tree node.formula.now node.number in
    let m = g.F.Form.records in
    let a = arm_node m node.number t 8 0 3 in
    let b = arm_node m node.number t 5 4 2 in
    let third = bytes m (copy_of node.number t c.args.i) in
    let last = bytes m (copy node.number t) in
    let three = front ((a ++ b) ++ third) last c.args.out.now c.requires in
    let two = front (a ++ b) third c.args.out.now three in
    let second = behind_writes c.put_head-a.ensures b two c.put_head.ensures in
    let done = behind_writes second third three c.put_child.ensures in
    behind_room done last c.requires

pub returns : goal.returns
returns g c =
    let node = c.args.node.now in
    let t = tree node.formula.now node.number in
    let m = g.F.Form.records in
    let a = arm_node m node.number t 8 0 3 in
    let b = arm_node m node.number t 5 4 2 in
    let third = bytes m (copy_of node.number t c.args.i) in
    let last = bytes m (copy node.number t) in
    let three = front ((a ++ b) ++ third) last c.args.out.now c.requires in
    let two = front (a ++ b) third c.args.out.now three in
    let second = behind_writes c.put_head-a.ensures b two c.put_head.ensures in
    let done = behind_writes second third three c.put_child.ensures in
    behind_writes done last c.requires c.put_copy.ensures
