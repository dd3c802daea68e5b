use native.Mathlib.Omega.{arith}
use Prim.Native.Nat.{◌+◌, ◌-◌}
use Rattle.formula.specs.Node.{node_size}
use Rattle.lower.proofs.Kids.{first_well, stands}
use Rattle.tally.proofs.Weights.{deep, first_is, here_well, inner_well, inside, node_small, passed_end, passed_small, passed_start, passed_step, small, some_left}
use Rattle.tally.proofs.+tally.Goals as goal

pub loop-init : goal.loop-init
loop-init t c = passed_start c.args.b.now c.args.d c.args.left c.args.at c.requires

pub node-f-requires : goal.node-f-requires
node-f-requires t c =
    let args = c.args in
    let loop = c.loop in
    let left = some_left args.b.now args.d args.left args.at loop.counter loop.all c.requires loop.invariant c.loop-test.true in
    (stands args.b.now args.d loop.all.node (first_well args.b.now args.d (args.left - loop.counter) loop.all.node left loop.invariant.well)).inside

pub overflow_sub-d : goal.overflow_sub-d
overflow_sub-d t c =
    let args = c.args in
    let loop = c.loop in
    let left = some_left args.b.now args.d args.left args.at loop.counter loop.all c.requires loop.invariant c.loop-test.true in
    omega (arith, deep args.b.now args.d (args.left - loop.counter) loop.all.node left loop.invariant.well c.node-f.result c.node-f.ensures.0)

pub overflow_add-all : goal.overflow_add-all
overflow_add-all t c =
    let args = c.args in
    let loop = c.loop in
    let left = some_left args.b.now args.d args.left args.at loop.counter loop.all c.requires loop.invariant c.loop-test.true in
    omega (arith, inside args.b.now args.d (args.left - loop.counter) loop.all.node left loop.invariant.well c.node-f.result c.node-f.ensures.0, c.well_formed.0.0)

pub tally-inner-requires : goal.tally-inner-requires
tally-inner-requires t c =
    let args = c.args in
    let loop = c.loop in
    let left = some_left args.b.now args.d args.left args.at loop.counter loop.all c.requires loop.invariant c.loop-test.true in (
      omega (arith, deep args.b.now args.d (args.left - loop.counter) loop.all.node left loop.invariant.well c.node-f.result c.node-f.ensures.0),
      inner_well args.b.now args.d (args.left - loop.counter) loop.all.node left loop.invariant.well c.node-f.result c.node-f.ensures.0,
    )

pub weigh-own-requires : goal.weigh-own-requires
weigh-own-requires t c =
    let args = c.args in
    let loop = c.loop in
    let f = c.node-f.result in
    let left = some_left args.b.now args.d args.left args.at loop.counter loop.all c.requires loop.invariant c.loop-test.true in
    let s = small args.b.now (args.d - 1) f.children (loop.all.node + node_size) c.tally-inner.result c.well_formed.0.0
    (inside args.b.now args.d (args.left - loop.counter) loop.all.node left loop.invariant.well f c.node-f.ensures.0)
    (inner_well args.b.now args.d (args.left - loop.counter) loop.all.node left loop.invariant.well f c.node-f.ensures.0) c.tally-inner.ensures in
    (s.0, s.1, s.2, c.node-f.ensures.1)

pub grown-all-requires : goal.grown-all-requires
grown-all-requires t c =
    let args = c.args in
    let loop = c.loop in
    let f = c.node-f.result in
    let own = c.weigh-own in
    let left = some_left args.b.now args.d args.left args.at loop.counter loop.all c.requires loop.invariant c.loop-test.true in record {
      counted = passed_small args.b.now args.d args.left args.at loop.counter loop.all c.requires loop.invariant c.loop-test.true c.well_formed.0.0;
      added = node_small args.b.now args.d loop.all.node own.result c.well_formed.0.0
          (here_well args.b.now args.d (args.left - loop.counter) loop.all.node left loop.invariant.well f c.node-f.ensures.0)
          (first_is args.b.now args.d (args.left - loop.counter) loop.all.node left loop.invariant.well f c.node-f.ensures.0 c.tally-inner.result c.tally-inner.ensures
          own.result own.ensures);
    }

pub loop-preserved : goal.loop-preserved
loop-preserved t c =
    let args = c.args in
    let loop = c.loop in
    passed_step args.b.now args.d args.left args.at loop.counter loop.all c.requires loop.invariant c.loop-test.true c.node-f.result c.node-f.ensures.0
    c.tally-inner.result c.tally-inner.ensures c.weigh-own.result c.weigh-own.ensures c.grown-all.result c.grown-all.ensures

pub returns : goal.returns
returns t c = passed_end c.args.b.now c.args.d c.args.left c.args.at c.loop.counter c.loop.all c.loop.invariant (omega (arith, c.loop-test.false))
