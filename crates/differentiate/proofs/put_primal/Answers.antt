use native.Mathlib.Omega.{arith}
use mathlib.Core.List.{◌++◌}
use Rattle.formula.specs.Node.{inner_fields}
use Rattle.derivative.specs.Records.{by_rule, copy, outer, recorded_literal}
use Rattle.survey.specs.Table.{tree}
use Rattle.differentiate.specs.Written.{bytes, outer_node}
use Rattle.differentiate.proofs.Lists.{front, behind_room, behind_writes}
use Rattle.differentiate.proofs.Leaves.{start_length}
use Rattle.differentiate.proofs.Recorded.{bytes_length}
use Rattle.differentiate.proofs.put_primal.Goals as goal

pub put_head-a-requires : goal.put_head-a-requires
put_head-a-requires g c =
    let node = c.args.whole.now in
    let t = tree node.formula.now node.number in
    let m = g.F.Form.records in
    let a = outer_node m node.number 4 0 2 in
    let b = outer_node m node.number 4 2 2 in
    let third = bytes m (recorded_literal outer node.number 0) in
    let last = bytes m (copy node.number t) in
    let three = front ((a ++ b) ++ third) last c.args.out.now c.requires in
    let two = front (a ++ b) third c.args.out.now three in
    omega (arith, front a b c.args.out.now two, start_length m (by_rule outer node.number) (inner_fields 4 0 2))

pub put_head-requires : goal.put_head-requires
put_head-requires g c =
    let node = c.args.whole.now in
    let t = tree node.formula.now node.number in
    let m = g.F.Form.records in
    let a = outer_node m node.number 4 0 2 in
    let b = outer_node m node.number 4 2 2 in
    let third = bytes m (recorded_literal outer node.number 0) in
    let last = bytes m (copy node.number t) in
    let three = front ((a ++ b) ++ third) last c.args.out.now c.requires in
    let two = front (a ++ b) third c.args.out.now three in
    omega (arith, behind_room c.put_head-a.ensures b two, start_length m (by_rule outer node.number) (inner_fields 4 2 2))

pub put_literal-requires : goal.put_literal-requires
put_literal-requires g c =
    let node = c.args.whole.now in
    let t = tree node.formula.now node.number in
    let m = g.F.Form.records in
    let a = outer_node m node.number 4 0 2 in
    let b = outer_node m node.number 4 2 2 in
    let third = bytes m (recorded_literal outer node.number 0) in
    let last = bytes m (copy node.number t) in
    let three = front ((a ++ b) ++ third) last c.args.out.now c.requires in
    let two = front (a ++ b) third c.args.out.now three in
    let second = behind_writes c.put_head-a.ensures b two c.put_head.ensures in
    omega (arith, behind_room second third three, bytes_length m (recorded_literal outer node.number 0))

pub put_copy-requires : goal.put_copy-requires
put_copy-requires g c =
    let node = c.args.whole.now in
    let t = tree node.formula.now node.number in
    let m = g.F.Form.records in
    let a = outer_node m node.number 4 0 2 in
    let b = outer_node m node.number 4 2 2 in
    let third = bytes m (recorded_literal outer node.number 0) in
    let last = bytes m (copy node.number t) in
    let three = front ((a ++ b) ++ third) last c.args.out.now c.requires in
    let two = front (a ++ b) third c.args.out.now three in
    let second = behind_writes c.put_head-a.ensures b two c.put_head.ensures in
    let done = behind_writes second third three c.put_literal.ensures in
    behind_room done last c.requires

pub returns : goal.returns
returns g c =
    let node = c.args.whole.now in
    let t = tree node.formula.now node.number in
    let m = g.F.Form.records in
    let a = outer_node m node.number 4 0 2 in
    let b = outer_node m node.number 4 2 2 in
    let third = bytes m (recorded_literal outer node.number 0) in
    let last = bytes m (copy node.number t) in
    let three = front ((a ++ b) ++ third) last c.args.out.now c.requires in
    let two = front (a ++ b) third c.args.out.now three in
    let second = behind_writes c.put_head-a.ensures b two c.put_head.ensures in
    let done = behind_writes second third three c.put_literal.ensures in
    behind_writes done last c.requires c.put_copy.ensures
