use denote.Param.{number}
use Rattle.floats.specs.Extremum.{strictly}
use Rattle.instruction.specs.contracts.plain_extremum.{MOST-type}
use Rattle.instruction.proofs.Extremes.{Left}
use Rattle.instruction.proofs.plain_extremum.Given as goal

abbrev pub invariant-loop-i : goal.invariant-loop-i
invariant-loop-i g l = Left (strictly (MOST-type (number g.row.MOST))) l.p l.at l.count l.regs l.extreme l.i
