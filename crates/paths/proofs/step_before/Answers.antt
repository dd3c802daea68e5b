use native.Mathlib.Omega.{arith}
use Rattle.paths.proofs.Steps.{argument_written}
use Rattle.paths.proofs.step_before.Goals as goal

pub returns-in-None : goal.returns-in-None
returns-in-None c =
    let args = c.args in
    let close = c.copy_before-close.ensures in
    let number = c.number_before-number.ensures in
    let begin = c.copy_before-in-None.ensures in
    argument_written args.step args.out.now _ _ _ args.end _ _ _ c.in-None.ensures (omega arith) close.0 close.1
    number.0 number.1 begin.0 begin.1
