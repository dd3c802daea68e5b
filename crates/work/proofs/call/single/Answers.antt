use native.Mathlib.Omega.{arith}
use Rattle.work.proofs.Numbers.{asked_here}
use Rattle.work.proofs.call.single.Goals as goal

pub returns-in_default : goal.returns-in_default
returns-in_default c = rw (asked_here c.args.opcode c.args.x c.args.y c.args.z c.requires.0 (omega arith) (omega arith)) c.ask.ensures
