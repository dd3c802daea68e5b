use Prim.Native.Nat.{ℕ, ◌+◌, ◌-◌, ◌*◌, ◌<◌}
use native.Mathlib.Omega.{arith}
use mathlib.Core.Path.{◌≡◌, refl, subst}
use Rattle.formula.specs.Text.{half_at}
use Rattle.formula.specs.Node.{node_size}
use Rattle.survey.specs.Table.{row_in}
use Rattle.survey.proofs.Trees.{Walk, walk_start, walk_done}
use Rattle.survey.proofs.Rows.{stands, step_size, walk_again, owned_child}
use Rattle.survey.proofs.Node.child.Goals as goal

pub loop-passed-init : goal.loop-passed-init
loop-passed-init c =
    let node = c.args.self.now in
    let count = half_at node.formula.now (node_size * node.number + 2) in
    let inside : c.args.i < count = omega (arith, c.children.ensures.0, c.if-i-children.false) in
    let same : c.args.i ≡ c.args.i - 0 = omega arith in
    subst (λ (m : ℕ). Walk node.formula.now node.number c.args.i (m + (count - c.args.i)) m (node.number + 1)) same
    (subst (λ (m : ℕ). Walk node.formula.now node.number c.args.i m c.args.i (node.number + 1)) (omega (arith, inside))
    (walk_start node.formula.now node.number c.args.i count node.owned.formed refl inside))

pub offset_bounds-self-number : goal.offset_bounds-self-number
offset_bounds-self-number c =
    let node = c.args.self.now in
    let s = stands node.formula.now node.rows.now node.number c.args.i node.owned (omega (arith, c.children.ensures.0, c.if-i-children.false))
    (c.args.i - c.loop-passed._passed) c.loop-passed.number c.loop-passed.invariant in
    omega (arith, s.ends, s.one, node.owned.long)

pub bounds-self-number : goal.bounds-self-number
bounds-self-number c =
    let node = c.args.self.now in
    let s = stands node.formula.now node.rows.now node.number c.args.i node.owned (omega (arith, c.children.ensures.0, c.if-i-children.false))
    (c.args.i - c.loop-passed._passed) c.loop-passed.number c.loop-passed.invariant in
    omega (arith, s.ends, s.one, node.owned.long)

pub overflow_add-number-in-loop-passed : goal.overflow_add-number-in-loop-passed
overflow_add-number-in-loop-passed c =
    let node = c.args.self.now in
    let inside : c.args.i < half_at node.formula.now (node_size * node.number + 2) = omega (arith, c.children.ensures.0, c.if-i-children.false) in
    let left = c.args.i - c.loop-passed._passed in
    let s = stands node.formula.now node.rows.now node.number c.args.i node.owned inside left c.loop-passed.number c.loop-passed.invariant in
    let z = step_size node.formula.now node.rows.now node.number c.args.i node.owned inside left c.loop-passed.number c.loop-passed.invariant in
    omega (arith, s.ends, z, node.owned.long)

pub loop-passed-preserved : goal.loop-passed-preserved
loop-passed-preserved c =
    let node = c.args.self.now in
    let inside : c.args.i < half_at node.formula.now (node_size * node.number + 2) = omega (arith, c.children.ensures.0, c.if-i-children.false) in
    let rest = half_at node.formula.now (node_size * node.number + 2) - c.args.i in
    let next = c.loop-passed.number + (row_in node.rows.now c.loop-passed.number).nodes in
    subst (λ (m : ℕ). Walk node.formula.now node.number c.args.i (m + rest) m next) (omega arith)
    (walk_again node.formula.now node.rows.now node.number c.args.i node.owned inside (c.args.i - c.loop-passed._passed) c.loop-passed.number
    c.loop-passed.invariant (λ e. omega (arith, c.loop-passed-test.true)))

pub invariant_of-result : goal.invariant_of-result
invariant_of-result c =
    let node = c.args.self.now in
    record {
      owned =
          owned_child node.formula.now node.rows.now node.number c.args.i c.loop-passed.number node.owned
          (walk_done node.formula.now node.number c.args.i _ _ c.loop-passed.number c.loop-passed.invariant (omega (arith, c.loop-passed-test.false)));
    }

pub returns : goal.returns
returns c =
    let node = c.args.self.now in (
      refl,
      refl,
      walk_done node.formula.now node.number c.args.i _ _ c.loop-passed.number c.loop-passed.invariant (omega (arith, c.loop-passed-test.false)),
    )
