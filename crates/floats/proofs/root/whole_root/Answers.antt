use Rattle.std.proofs.Common.{arith}
use Rattle.floats.proofs.RootSteps.{square_lt, next_square, some_root, root_below}
use Rattle.floats.proofs.root.whole_root.Goals as goal

pub overflow_mul-r : goal.overflow_mul-r
overflow_mul-r c = let h = square_lt c.loop-r.r c.loop-r.invariant in omega arith

pub overflow_sub-r : goal.overflow_sub-r
overflow_sub-r c = some_root c.args.m c.loop-r.r c.loop-r-test.true

pub loop-r-smaller : goal.loop-r-smaller
loop-r-smaller c = let h = some_root c.args.m c.loop-r.r c.loop-r-test.true in omega arith

pub loop-r-preserved : goal.loop-r-preserved
loop-r-preserved c = omega arith

pub loop-r-2-init : goal.loop-r-2-init
loop-r-2-init c = c.loop-r-test.false

pub overflow_add-r : goal.overflow_add-r
overflow_add-r c = let h = root_below c.args.m c.loop-r-2.r c.requires c.loop-r-2.invariant in omega arith

pub overflow_add-r-in-loop-r-2 : goal.overflow_add-r-in-loop-r-2
overflow_add-r-in-loop-r-2 c = let h = root_below c.args.m c.loop-r-2.r c.requires c.loop-r-2.invariant in omega arith

pub overflow_mul-r-in-loop-r-2 : goal.overflow_mul-r-in-loop-r-2
overflow_mul-r-in-loop-r-2 c = let h = next_square c.loop-r-2.r (root_below c.args.m c.loop-r-2.r c.requires c.loop-r-2.invariant) in omega arith

pub overflow_add-r-in-loop-r-2-2 : goal.overflow_add-r-in-loop-r-2-2
overflow_add-r-in-loop-r-2-2 c = let h = root_below c.args.m c.loop-r-2.r c.requires c.loop-r-2.invariant in omega arith

pub loop-r-2-smaller : goal.loop-r-2-smaller
loop-r-2-smaller c = let h = root_below c.args.m c.loop-r-2.r c.requires c.loop-r-2.invariant in omega arith

pub loop-r-2-preserved : goal.loop-r-2-preserved
loop-r-2-preserved c = c.loop-r-2-test.true

pub returns : goal.returns
returns c = (c.loop-r-2.invariant, c.loop-r-2-test.false)
