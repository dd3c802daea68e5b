use Prim.Native.Nat.{ℕ}
use mathlib.Core.Path.{◌≡◌, refl, ap, ◌∙◌}
use Rattle.std.specs.Prelude.{Ok}
use mathlib.Core.List.{List}
use native.Mathlib.Omega.{arith}
use lib.ListN.{length}
use Rattle.machine.specs.Compile.{filled}
use Rattle.derivative.specs.Records.{Record, derivative_records, list_bytes}
use Rattle.reader.proofs.Bytes.{Bytes}
use Rattle.survey.specs.Table.{tree}
use Rattle.derive.proofs.Writing.{accepted, counted, derives_records, derives_tree, filled_with, fits, inside, inside_first, nodes, records_room, tree_filled, written_inside, wrote}
use Rattle.derive.proofs.write_all.Goals as goal

pub zero_from-requires : goal.zero_from-requires
zero_from-requires c =
    let args = c.args in
    let pre = c.requires in
    let derives_tree2 = derives_tree args.given.now.formula.now args.given.now.kinds.now args.by.symbol args.by.state (length args.program.now) pre.3.0 pre.3.1 pre.3.2 pre.3.3 in
    inside_first args.given.now.formula.now args.given.now.kinds.now args.by.symbol args.by.state (length args.program.now) pre.3.0 pre.3.1 pre.3.2 pre.3.3 args.given.now.bytes args.tree.now c.write_derivative-n.new.out _ c.write_derivative-n.result (pre.1.room pre.3.2 derives_tree2) (c.write_derivative-n.ensures pre.3.2 derives_tree2) refl

pub zero_from-requires-2 : goal.zero_from-requires-2
zero_from-requires-2 c =
    let args = c.args in
    let pre = c.requires in
    let derives_tree2 = derives_tree args.given.now.formula.now args.given.now.kinds.now args.by.symbol args.by.state (length args.program.now) pre.3.0 pre.3.1 pre.3.2 pre.3.3 in
    written_inside (list_bytes (derivative_records args.by.symbol args.by.state (tree args.given.now.formula.now 0))) args.list.now c.write_derivative-m.new.out _
    c.write_derivative-m.result (records_room args.given.now.formula.now args.given.now.kinds.now args.by.symbol args.by.state (length args.program.now) pre.3.0 pre.3.1 pre.3.2 pre.3.3 _ (pre.2.room pre.3.2 derives_tree2)) (c.write_derivative-m.ensures pre.3.2 derives_tree2) refl

pub slice_bounds-write-end : goal.slice_bounds-write-end
slice_bounds-write-end c =
    let args = c.args in
    let pre = c.requires in
    let derives_tree2 = derives_tree args.given.now.formula.now args.given.now.kinds.now args.by.symbol args.by.state (length args.program.now) pre.3.0 pre.3.1 pre.3.2 pre.3.3 in
    inside args.given.now.formula.now args.given.now.kinds.now args.by.symbol args.by.state (length args.program.now) pre.3.0 pre.3.1 pre.3.2 pre.3.3 args.given.now.bytes args.tree.now c.write_derivative-n.new.out c.zero_from.new.out c.write_derivative-n.result (pre.1.room pre.3.2 derives_tree2) (c.write_derivative-n.ensures pre.3.2 derives_tree2) c.zero_from.ensures

pub slice_bounds-write-end-2 : goal.slice_bounds-write-end-2
slice_bounds-write-end-2 c =
    let args = c.args in
    let pre = c.requires in
    let derives_tree2 = derives_tree args.given.now.formula.now args.given.now.kinds.now args.by.symbol args.by.state (length args.program.now) pre.3.0 pre.3.1 pre.3.2 pre.3.3 in
    counted args.given.now.formula.now args.given.now.kinds.now args.by.symbol args.by.state (length args.program.now) pre.3.0 pre.3.1 pre.3.2 pre.3.3 args.given.now.bytes args.tree.now c.write_derivative-n.new.out c.zero_from.new.out c.write_derivative-n.result (pre.1.room pre.3.2 derives_tree2) (c.write_derivative-n.ensures pre.3.2 derives_tree2) c.zero_from.ensures

pub write-requires : goal.write-requires
write-requires c =
    let args = c.args in
    let pre = c.requires in
    let derives_tree2 = derives_tree args.given.now.formula.now args.given.now.kinds.now args.by.symbol args.by.state (length args.program.now) pre.3.0 pre.3.1 pre.3.2 pre.3.3 in
    fits args.given.now.formula.now args.given.now.kinds.now args.by.symbol args.by.state (length args.program.now) pre.3.0 pre.3.1 pre.3.2 pre.3.3 args.given.now.bytes args.tree.now c.write_derivative-n.new.out c.zero_from.new.out c.write_derivative-n.result (pre.1.room pre.3.2 derives_tree2) (c.write_derivative-n.ensures pre.3.2 derives_tree2) c.zero_from.ensures _ pre.0

pub returns-in_err-write : goal.returns-in_err-write
returns-in_err-write c =
    let args = c.args in
    let pre = c.requires in
    λ f ss d D.
    let e = derives_tree args.given.now.formula.now args.given.now.kinds.now args.by.symbol args.by.state (length args.program.now) f ss d D in
    let fine = accepted args.given.now.formula.now args.given.now.kinds.now args.by.symbol args.by.state (length args.program.now) f ss d D args.given.now.bytes args.tree.now
    c.write_derivative-n.new.out c.zero_from.new.out c.write_derivative-n.result (pre.1.room d e) (c.write_derivative-n.ensures d e) c.zero_from.ensures _
    c.in_err-write.ensures.0 in
    absurd (let z : ◌≡◌ {A = ℕ} 0 1 = cc in omega arith)

pub returns : goal.returns
returns c =
    let args = c.args in
    let pre = c.requires in
    let write_derivative = c.write_derivative-n in
    let write_derivative2 = c.write_derivative-m in
    let zero_from = c.zero_from in
    let zero_from2 = c.zero_from-2 in
    let tree_slice = args.tree.now in
    let state = args.by.state in
    let symbol = args.by.symbol in
    let kinds = args.given.now.kinds.now in
    let formula = args.given.now.formula.now in
    let long = length args.program.now in
    let last = write_derivative.new.out in
    λ f ss d D.
    let e = derives_tree formula kinds symbol state long f ss d D in
    let b : Bytes formula = args.given.now.bytes in
    let W = write_derivative.ensures d e in
    let R = wrote formula kinds symbol state long f ss d D b tree_slice last zero_from.new.out write_derivative.result (pre.1.room d e) W zero_from.ensures
    args.path.now c.write.new.path args.program.now c.write.new.p c.in_ok-write.ensures.1 c.in_ok-write.ensures.2 in (
      ap (λ (x : ℕ). Ok x) (nodes formula kinds symbol state long f ss d D b tree_slice last zero_from.new.out write_derivative.result (pre.1.room d e) W zero_from.ensures),
      R.0,
      tree_filled formula kinds symbol state long f ss d D b tree_slice last zero_from.new.out write_derivative.result (pre.1.room d e) W zero_from.ensures,
      filled_with (list_bytes (derivative_records symbol state (tree formula 0))) args.list.now write_derivative2.new.out zero_from2.new.out
          write_derivative2.result (records_room formula kinds symbol state long f ss d D _ (pre.2.room d e)) (write_derivative2.ensures d e) zero_from2.ensures
          ∙ ap (λ (rs : List Record). filled (list_bytes rs) args.list.now) (derives_records formula kinds symbol state long f ss d D),
      R.1,
    )
