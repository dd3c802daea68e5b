-- A value more at each turn, and the whole is the state's row.
use Rattle.std.proofs.Common.{ap, get_or, ◌∷◌, [], ◌++◌, ◌∙◌, length, drop, refl, List, ℕ, arith}
use lib.Ieee.{nan}
use lib.ListN.{length-set, take}
use lib.Seq.{take_all}
use mathlib.Core.List.{append_assoc}
use Rattle.machine.specs.Machine.{State}
use Rattle.run.specs.Views.{pending_of}
use Rattle.vebrostin.specs.Cells.{state_cells, state_in}
use Rattle.vebrostin.proofs.Crossing.{held_more, state_back}
use Rattle.vebrostin.proofs.Written.{copied, row_length, row_more, row_over, row_whole, value_at}
use Rattle.vebrostin.proofs.put.Goals as goal

pub loop-i-preserved : goal.loop-i-preserved
loop-i-preserved c =
    let a = c.args in
    let vs = a.values.now in
    let i = c.loop-i.i in
    let q = c.question_cells.result in
    let l = c.loop-i-test.true in
    let w = value_at vs i nan c.value_bits.ensures (omega arith) in (
      rw c.loop-i.invariant.0
          (row_more a.position (length vs) vs i nan (get_or q 0 0 ∷ get_or q 1 0 ∷ get_or q 2 0 ∷ a.count ∷ a.value ∷ []) (omega (arith, c.requires.1)) l w.0),
      held_more vs i nan l c.loop-i.invariant.1 w.1,
    )

pub loop-place-preserved : goal.loop-place-preserved
loop-place-preserved c =
    let a = c.args in
    let row = c.loop-i.row in
    let e = row_length a.position (length a.values.now) (take c.loop-i.i a.values.now) _ refl c.loop-i.invariant.0 in (
      length-set c.loop-place.cells c.loop-place.place _ ∙ c.loop-place.invariant.0,
      rw c.loop-place.invariant.1 (copied row a.cells.now c.loop-place.place (omega (arith, e, c.loop-place-test.true)) (omega (arith, e, c.requires.0))),
    )

pub returns-clause-cells : goal.returns-clause-cells
returns-clause-cells c =
    let a = c.args in
    let i = c.loop-i in
    let place = c.loop-place in
    let e = row_length a.position (length a.values.now) (take i.i a.values.now) _ refl i.invariant.0 in
    row_over i.row a.cells.now e c.loop-place-test.false place.auto.place-end place.invariant.1
    ∙ ap (λ (x : List ℕ). x ++ drop 16 a.cells.now)
    (row_whole a.position a.values.now (pending_of a.pending) a.count a.value i.i c.loop-i-test.false c.question_cells.ensures.0 i.invariant.0)

pub returns-clause-state : goal.returns-clause-state
returns-clause-state c =
    let a = c.args in
    let i = c.loop-i in
    let place = c.loop-place in
    let o = pending_of a.pending in
    let e = row_length a.position (length a.values.now) (take i.i a.values.now) _ refl i.invariant.0 in
    let w = row_whole a.position a.values.now o a.count a.value i.i c.loop-i-test.false c.question_cells.ensures.0 i.invariant.0 in
    let held = rw (take_all i.i a.values.now c.loop-i-test.false) at i.invariant.1 in
    let s : State = record { position = a.position; kept = a.values.now; pending = o } in
    λ k.
    ap state_in (row_over i.row a.cells.now e c.loop-place-test.false place.auto.place-end place.invariant.1)
    ∙ ap (λ (x : List ℕ). state_in (x ++ drop 16 a.cells.now)) w
    ∙ ap state_in (append_assoc (state_cells s) (a.count ∷ a.value ∷ []) (drop 16 a.cells.now))
    ∙ state_back s c.requires.1 held k c.question_cells.ensures.1 _
