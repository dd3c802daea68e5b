use mathlib.Core.Path.{ap, refl, subst, sym}
use native.Mathlib.Omega.{arith}
use Prim.Native.Nat.{◌+◌, ◌-◌}
use Rattle.formula.specs.Node.{node_size}
use Rattle.lower.proofs.Kids.{one_well}
use Rattle.tally.specs.declared.Counts.{Counts}
use Rattle.tally.proofs.Flat.{Left, left_end, left_start, node_there, step, step_small}
use Rattle.tally.proofs.count.Goals as goal

pub loop-owed-init : goal.loop-owed-init
loop-owed-init c = left_start c.args.b.now c.args.d c.requires

pub node-f-requires : goal.node-f-requires
node-f-requires c =
    let loop = c.loop-owed in
    node_there c.args.b.now c.args.d loop.all.node loop.owed loop.all.code loop.all.paths loop.all.entries loop.invariant (λ z. omega (arith, z, c.loop-owed-test.true))

pub tally-requires : goal.tally-requires
tally-requires c = one_well c.args.b.now c.args.d 1 0 refl c.requires

pub grown-all-requires : goal.grown-all-requires
grown-all-requires c =
    let loop = c.loop-owed in
    let small = step_small c.args.b.now c.args.d loop.all.node loop.owed loop.all.code loop.all.paths loop.all.entries loop.invariant (λ z. omega (arith, z, c.loop-owed-test.true))
    c.node-f.result c.node-f.ensures.0 c.drops.result c.drops.ensures c.if-drops.false c.weigh-own.result c.weigh-own.ensures c.well_formed.0.0 c.requires in record {
      counted = (omega (arith, small.1), omega (arith, small.2), omega (arith, small.3));
      added = (omega (arith, small.1), omega (arith, small.2), omega (arith, small.3));
    }

pub overflow_add-owed : goal.overflow_add-owed
overflow_add-owed c =
    let loop = c.loop-owed in
    let small = step_small c.args.b.now c.args.d loop.all.node loop.owed loop.all.code loop.all.paths loop.all.entries loop.invariant (λ z. omega (arith, z, c.loop-owed-test.true))
    c.node-f.result c.node-f.ensures.0 c.drops.result c.drops.ensures c.if-drops.false c.weigh-own.result c.weigh-own.ensures c.well_formed.0.0 c.requires in
    omega (arith, small.0, c.well_formed.0.0)

pub loop-owed-smaller : goal.loop-owed-smaller
loop-owed-smaller c =
    let loop = c.loop-owed in
    let there = node_there c.args.b.now c.args.d loop.all.node loop.owed loop.all.code loop.all.paths loop.all.entries loop.invariant (λ z. omega (arith, z, c.loop-owed-test.true)) in
    omega (arith, there, ap (λ (x : Counts). x.node) c.grown-all.ensures)

pub loop-owed-preserved : goal.loop-owed-preserved
loop-owed-preserved c =
    let loop = c.loop-owed in
    subst (λ (x : Counts). Left c.args.b.now c.args.d (x.node + node_size) (loop.owed - 1 + c.node-f.result.children) x.code x.paths x.entries) (sym c.grown-all.ensures)
    (step c.args.b.now c.args.d loop.all.node loop.owed loop.all.code loop.all.paths loop.all.entries loop.invariant (λ z. omega (arith, z, c.loop-owed-test.true)) c.node-f.result
    c.node-f.ensures.0 c.drops.result c.drops.ensures c.if-drops.false c.weigh-own.result c.weigh-own.ensures)

pub returns : goal.returns
returns c =
    let loop = c.loop-owed in
    left_end c.args.b.now c.args.d loop.all.node loop.owed loop.all.code loop.all.paths loop.all.entries loop.invariant (omega (arith, c.loop-owed-test.false))
