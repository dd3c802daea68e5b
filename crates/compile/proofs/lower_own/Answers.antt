use native.Mathlib.Omega.{arith}
use Rattle.compile.proofs.Own.{small}
use Rattle.compile.proofs.lower_own.Goals as goal

pub lower_into-requires-2 : goal.lower_into-requires-2
lower_into-requires-2 c =
    let args = c.args in
    let pre = c.requires in
    (omega (arith, small args.formula.now args.kinds.now pre.1.0 pre.1.1 pre.1.2), pre.0, pre.1)
