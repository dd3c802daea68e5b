use Rattle.std.proofs.Common.{◌-◌, length, Some}
use Rattle.values.proofs.Parts.{ReadingOn}
use Rattle.values.proofs.read_values.Given as goal

abbrev pub invariant-loop-at : goal.invariant-loop-at
invariant-loop-at l = ReadingOn l.input l.from (Some l.fn.s) l.initial.values l.at (Some (record { count = l.count; digits = 0; bits = 0 })) l.values

abbrev pub decreases-loop-at : goal.decreases-loop-at
decreases-loop-at l = length l.input - l.at
