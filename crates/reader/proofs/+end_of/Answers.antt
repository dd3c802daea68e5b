use mathlib.Core.Path.{◌∙◌}
use native.Mathlib.Omega.{arith}
use Prim.Native.Nat.{◌+◌, ◌-◌}
use Rattle.reader.proofs.Extents.{no_levels, node_inside, level_start, level_end, first_child, level_deeper, level_next}
use Rattle.reader.proofs.+end_of.Goals as goal

pub returns-in_err-below : goal.returns-in_err-below
returns-in_err-below t c = c.from_residual.ensures ∙ no_levels c.args.b.now c.args.at c.args.levels c.requires (omega (arith, c.in_err-below.ensures))

pub overflow_add-at : goal.overflow_add-at
overflow_add-at t c = omega (arith, node_inside c.args.b.now c.args.at c.args.levels c.requires)

pub overflow_add-end : goal.overflow_add-end
overflow_add-end t c = omega (arith, node_inside c.args.b.now c.args.at c.args.levels c.requires)

pub loop-child-init : goal.loop-child-init
loop-child-init t c =
    level_start c.args.b.now c.args.at c.args.levels c.requires (c.known_half-children.result - 0) c.in_ok-below.below (omega (arith, c.known_half-children.ensures.0))
    (omega (arith, c.in_ok-below.ensures))

pub end_of-requires : goal.end_of-requires
end_of-requires t c =
    (omega (arith, c.in_ok-below.ensures), first_child _ _ _ _ _ _ c.loop-child.invariant (λ e. omega (arith, c.loop-child-test.true)))

pub returns-in_err-end : goal.returns-in_err-end
returns-in_err-end t c =
    c.from_residual-in_err-end.ensures
    ∙ level_deeper _ _ _ _ _ _ c.loop-child.invariant (λ e. omega (arith, c.loop-child-test.true)) c.in_err-end.ensures

pub loop-child-preserved : goal.loop-child-preserved
loop-child-preserved t c =
    let loop = c.loop-child in
    level_next _ _ _ _ _ _ loop.invariant (λ e. omega (arith, c.loop-child-test.true)) (c.known_half-children.result - (loop.child + 1)) c.in_ok-end.end (omega arith)
    c.in_ok-end.ensures

pub returns : goal.returns
returns t c = level_end _ _ _ _ _ _ c.loop-child.invariant (omega (arith, c.loop-child-test.false))

pub known_half-children-requires : goal.known_half-children-requires
known_half-children-requires t c = omega (arith, node_inside c.args.b.now c.args.at c.args.levels c.requires)
