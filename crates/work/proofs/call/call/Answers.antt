use native.Mathlib.Omega.{arith}
use Rattle.work.specs.View.{kept_values}
use Rattle.work.proofs.Answers.{given}
use Rattle.work.proofs.Numbers.{past_last}
use Rattle.work.proofs.call.call.Goals as goal

pub returns-in_default-2 : goal.returns-in_default-2
returns-in_default-2 c = rw (past_last c.args.opcode (omega arith)) (given _ (kept_values c.args.kept))
