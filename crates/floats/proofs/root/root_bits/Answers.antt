use Rattle.std.proofs.Common.{arith}
use Rattle.floats.proofs.RootSteps.{long_below, root_pattern}
use Rattle.floats.proofs.root.root_bits.Goals as goal

pub overflow_add-result-2 : goal.overflow_add-result-2
overflow_add-result-2 c = let h = long_below c.evened.result c.long_root-r.result c.evened.ensures.1 c.long_root-r.ensures in omega arith

pub overflow_add-result-3 : goal.overflow_add-result-3
overflow_add-result-3 c = let h = long_below c.evened.result c.long_root-r.result c.evened.ensures.1 c.long_root-r.ensures in omega arith

pub returns : goal.returns
returns c =
    let s = c.normalised-s in
    let e = c.evened in (
      let h = long_below e.result c.long_root-r.result e.ensures.1 c.long_root-r.ensures in omega arith,
      root_pattern c.args.b s.result.digits s.result.exp e.result c.long_root-r.result c.requires.1
          s.ensures.3 s.ensures.0 s.ensures.2 e.ensures.2 e.ensures.0 e.ensures.1 c.long_root-r.ensures,
    )
