use denote.Param.{number}
use Rattle.floats.specs.Extremum.{beyond}
use Rattle.instruction.specs.contracts.extremum.{MOST-type}
use Rattle.instruction.proofs.Extremes.{Left}
use Rattle.instruction.proofs.extremum.Given as goal

abbrev pub invariant-loop-i : goal.invariant-loop-i
invariant-loop-i g l = Left (beyond (MOST-type (number g.row.MOST))) l.p l.at l.count l.regs l.extreme l.i
