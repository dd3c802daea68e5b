use native.Mathlib.Omega.{arith}
use Rattle.paths.proofs.Steps.{digits_of}
use Rattle.paths.proofs.digits.Goals as goal

pub returns : goal.returns
returns c = let log = c.ilog10.ensures in (digits_of c.ilog10.result c.args.n _ c.max.ensures log.power_le log.next_power_gt, omega (arith, log.bound))
