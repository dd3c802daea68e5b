use Prim.Native.Nat.{ℕ, ◌+◌, ◌*◌}
use native.Mathlib.Omega.{arith}
use lib.ListN.{length}
use mathlib.Core.Bool.{true}
use mathlib.Core.List.{List}
use mathlib.Core.Path.{◌≡◌, refl, sym, ap, ◌∙◌}
use Rattle.derivative.specs.Records.{by_rule, copied, list_bytes, record_bytes, record_size}
use Rattle.derivative.specs.Provenance.{numbered}
use Rattle.writer.specs.Over.{over}
use Rattle.writer.proofs.Over.{over_length, over_nil, next_over}
use Rattle.survey.specs.Table.{row_in}
use Rattle.survey.specs.declared.Row.{Row}
use Rattle.survey.proofs.Rows.{own_row}
use Rattle.differentiate.proofs.Lists.{as_text, written_over}
use Rattle.differentiate.proofs.Leaves.{tree_room, copy_length, copy_record}
use Rattle.differentiate.proofs.Recorded.{numbered_length, numbered_next}
use Rattle.differentiate.proofs.RecordsForm.put_copy.Goals as goal

pub loop-i-init : goal.loop-i-init
unfolding list_bytes
loop-i-init c = sym (over_nil c.args.out.now 0)

pub overflow_add-node : goal.overflow_add-node
overflow_add-node c =
    let node = c.args.node.now in
    omega (arith, ap (λ (r : Row). r.nodes) c.row-count.ensures, tree_room node.formula.now node.rows.now node.number node.owned, c.loop-i-test.true)

pub overflow_mul-i : goal.overflow_mul-i
overflow_mul-i c =
    let node = c.args.node.now in
    let size = ap (λ (r : Row). r.nodes) c.row-count.ensures ∙ (own_row node.formula.now node.rows.now node.number node.owned).nodes in
    let room = copy_length node.formula.now node.number true refl in
    omega (arith, size, room, c.requires, c.loop-i-test.true)

pub put_origin-requires : goal.put_origin-requires
put_origin-requires c =
    let node = c.args.node.now in
    let size = ap (λ (r : Row). r.nodes) c.row-count.ensures ∙ (own_row node.formula.now node.rows.now node.number node.owned).nodes in
    let room = copy_length node.formula.now node.number true refl in
    let long = ap length c.loop-i.invariant ∙ over_length c.args.out.now 0 (list_bytes (numbered node.number c.loop-i.i))
    (omega (arith, numbered_length node.number c.loop-i.i, c.loop-i-test.true, size, room, c.requires)) in
    omega (arith, long, size, room, c.requires, c.loop-i-test.true)

pub loop-i-preserved : goal.loop-i-preserved
loop-i-preserved c =
    let node = c.args.node.now in
    let size = ap (λ (r : Row). r.nodes) c.row-count.ensures ∙ (own_row node.formula.now node.rows.now node.number node.owned).nodes in
    let room = copy_length node.formula.now node.number true refl in
    let done = numbered_length node.number c.loop-i.i in
    next_over c.args.out.now _ _ 0 (record_size * c.loop-i.i) (list_bytes (numbered node.number c.loop-i.i))
    (record_bytes (by_rule copied (node.number + c.loop-i.i))) c.loop-i.invariant c.put_origin.ensures (omega (arith, done))
    (omega (arith, done, size, room, c.requires, c.loop-i-test.true))
    ∙ ap (λ (x : List ℕ). over c.args.out.now 0 x) (sym (numbered_next node.number c.loop-i.i))

pub overflow_mul-result : goal.overflow_mul-result
overflow_mul-result c =
    let node = c.args.node.now in
    let size = ap (λ (r : Row). r.nodes) c.row-count.ensures ∙ (own_row node.formula.now node.rows.now node.number node.owned).nodes in
    let room = copy_length node.formula.now node.number true refl in
    omega (arith, size, room, c.requires)

pub returns : goal.returns
returns c =
    let node = c.args.node.now in
    let size = ap (λ (r : Row). r.nodes) c.row-count.ensures ∙ (own_row node.formula.now node.rows.now node.number node.owned).nodes in
    let room = copy_length node.formula.now node.number true refl in
    let count = (row_in node.rows.now node.number).nodes in
    let same : c.row-count.result.nodes ≡ count = ap (λ (r : Row). r.nodes) c.row-count.ensures in
    let all : c.loop-i.i ≡ c.row-count.result.nodes = omega (arith, c.loop-i-test.false, c.loop-i.auto.i-end) in
    as_text _ _ _ _ _ (copy_record node.formula.now node.rows.now node.number node.owned true refl)
    (written_over (list_bytes (numbered node.number count)) c.args.out.now _ _ (omega (arith, same, numbered_length node.number count))
    (c.loop-i.invariant ∙ ap (λ (x : ℕ). over c.args.out.now 0 (list_bytes (numbered node.number x))) (all ∙ same)))
