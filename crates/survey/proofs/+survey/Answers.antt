use Prim.Native.Nat.{ℕ, ◌+◌, ◌-◌}
use native.Mathlib.Omega.{arith}
use mathlib.Core.Bool.{true, false}
use mathlib.Core.Path.{◌≡◌, refl, ◌∙◌, subst, ap}
use Rattle.reader.proofs.Trees.{size_pos}
use Rattle.survey.specs.Table.{reading, tree, empty_row}
use Rattle.survey.proofs.Filling.{Going, going_start, child_room, row_there, going_on, symbol_is, all_fine, ready, filled, fine_is, given_some, given_right, larger_is}
use Rattle.survey.proofs.+survey.Goals as goal

pub loop-child-init : goal.loop-child-init
loop-child-init t c =
    let args = c.args in
    let pre = c.requires in
    let count = c.half-children.result in
    let same : count ≡ count - 0 = omega arith in (
      pre,
      subst (λ (m : ℕ). Going args.by.symbol args.by.state args.f.now args.rows.now args.k args.depth pre args.rows.now c.is_symbol-has.result true 0 (args.k + 1) m) same
          (going_start args.by.symbol args.by.state args.f.now args.rows.now args.k args.depth pre c.is_symbol-has.result count
          c.is_symbol-has.ensures c.half-children.ensures.0),
    )

pub survey-requires : goal.survey-requires
survey-requires t c =
    let args = c.args in
    let loop = c.loop-child in
    let room = child_room args.by.symbol args.by.state args.f.now args.rows.now args.k args.depth loop.invariant.0 loop.rows loop.has loop.fine loop.levels
    loop.next (c.half-children.result - loop._child) loop.invariant.1 (λ e. omega (arith, c.loop-child-test.true)) in
    (omega (arith, loop.invariant.0.deep, loop.invariant.1.deep), room)

pub slice_copy_out-row : goal.slice_copy_out-row
slice_copy_out-row t c =
    let args = c.args in
    let loop = c.loop-child in
    let there = row_there args.by.symbol args.by.state args.f.now args.rows.now args.k args.depth loop.invariant.0 loop.rows loop.has loop.fine loop.levels
    loop.next (c.half-children.result - loop._child) loop.invariant.1 (λ e. omega (arith, c.loop-child-test.true)) in
    omega (arith, there, c.survey.auto.rows)

pub overflow_add-next-in-loop-child : goal.overflow_add-next-in-loop-child
overflow_add-next-in-loop-child t c =
    let args = c.args in
    let loop = c.loop-child in
    let room = child_room args.by.symbol args.by.state args.f.now args.rows.now args.k args.depth loop.invariant.0 loop.rows loop.has loop.fine loop.levels
    loop.next (c.half-children.result - loop._child) loop.invariant.1 (λ e. omega (arith, c.loop-child-test.true)) in
    let size = (c.survey.ensures.own loop.next (omega arith) (omega (arith, size_pos (tree args.f.now loop.next)))).nodes in
    omega (arith, room.long, size, loop.invariant.1.same_length)

pub loop-child-preserved : goal.loop-child-preserved
loop-child-preserved t c =
    let args = c.args in
    let loop = c.loop-child in (
      loop.invariant.0,
      going_on args.by.symbol args.by.state args.f.now args.rows.now args.k args.depth loop.invariant.0 loop.rows loop.has loop.fine loop.levels
          loop.next (c.half-children.result - loop._child) loop.invariant.1
          (λ e. omega (arith, c.loop-child-test.true)) c.survey.new.rows c.survey.auto.rows c.survey.ensures _ _ c.max-levels.result _ _ refl refl
          (c.max-levels.ensures ∙ larger_is _ _) refl (omega arith),
    )

pub invariant_of-node : goal.invariant_of-node
invariant_of-node t c =
    let args = c.args in
    let loop = c.loop-child in
    let now = ready args.by.symbol args.by.state args.f.now args.rows.now args.k args.depth loop.invariant.0 loop.rows loop.has loop.fine loop.levels
    loop.next (c.half-children.result - loop._child) loop.invariant.1 (omega (arith, c.loop-child.auto._child-end, c.loop-child-test.false))
    (record { nodes = loop.next - args.k; levels = loop.levels + 1; has = loop.has; fine = false; diff = empty_row.diff }) refl refl in
    record { owned = now.owned }

pub invariant_of-part : goal.invariant_of-part
invariant_of-part t c =
    let args = c.args in
    let loop = c.loop-child in
    record {
      ready =
          ready args.by.symbol args.by.state args.f.now args.rows.now args.k args.depth loop.invariant.0 loop.rows loop.has loop.fine loop.levels
          loop.next (c.half-children.result - loop._child) loop.invariant.1 (omega (arith, c.loop-child.auto._child-end, c.loop-child-test.false))
          (record { nodes = loop.next - args.k; levels = loop.levels + 1; has = loop.has; fine = false; diff = empty_row.diff }) refl refl;
    }

pub diff-diff-requires : goal.diff-diff-requires
diff-diff-requires t c =
    let args = c.args in
    let loop = c.loop-child in
    symbol_is args.by.symbol args.by.state args.f.now args.rows.now args.k args.depth loop.invariant.0 loop.rows loop.has loop.fine loop.levels
    loop.next (c.half-children.result - loop._child) loop.invariant.1 (omega (arith, c.loop-child.auto._child-end, c.loop-child-test.false))

pub returns : goal.returns
returns t c =
    let args = c.args in
    let loop = c.loop-child in
    filled args.by.symbol args.by.state args.f.now args.rows.now args.k args.depth loop.invariant.0 loop.rows loop.has loop.fine loop.levels
    loop.next (c.half-children.result - loop._child) loop.invariant.1 (omega (arith, c.loop-child.auto._child-end, c.loop-child-test.false))
    (record { nodes = loop.next - args.k; levels = loop.levels + 1; has = loop.has; fine = false; diff = empty_row.diff }) refl refl _ refl refl (symbol_is args.by.symbol args.by.state args.f.now args.rows.now args.k args.depth loop.invariant.0 loop.rows loop.has loop.fine loop.levels
    loop.next (c.half-children.result - loop._child) loop.invariant.1 (omega (arith, c.loop-child.auto._child-end, c.loop-child-test.false)))
    (fine_is args.by.symbol args.by.state (tree args.f.now args.k) loop.has loop.fine c.is_some.result _ _
    (symbol_is args.by.symbol args.by.state args.f.now args.rows.now args.k args.depth loop.invariant.0 loop.rows loop.has loop.fine loop.levels
    loop.next (c.half-children.result - loop._child) loop.invariant.1 (omega (arith, c.loop-child.auto._child-end, c.loop-child-test.false)))
    (all_fine args.by.symbol args.by.state args.f.now args.rows.now args.k args.depth loop.invariant.0 loop.rows loop.has loop.fine loop.levels
    loop.next (c.half-children.result - loop._child) loop.invariant.1 (omega (arith, c.loop-child.auto._child-end, c.loop-child-test.false)))
    (c.is_some.ensures ∙ given_some c.diff-diff.result ∙ c.diff-diff.ensures.0) refl refl)
    (ap reading c.unwrap_or-row.ensures ∙ given_right c.diff-diff.result c.of_literal.result c.of_literal.ensures ∙ c.diff-diff.ensures.1)
