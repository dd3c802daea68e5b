use Rattle.values.proofs.Parts.{ReadingOn}
use Rattle.std.proofs.Common.{◌-◌, length}
use Rattle.values.proofs.read_part.Given as goal

abbrev pub invariant-loop-reading : goal.invariant-loop-reading
invariant-loop-reading l = ReadingOn l.input l.from l.initial.reading l.initial.values l.at l.reading l.values

abbrev pub decreases-loop-reading : goal.decreases-loop-reading
decreases-loop-reading l = length l.input - l.at
