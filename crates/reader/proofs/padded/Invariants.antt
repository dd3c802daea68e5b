use mathlib.Core.Path.{◌≡◌}
use mathlib.Core.List.{◌++◌}
use lib.ListN.{drop, take}
use Rattle.formula.specs.Text.{zeros}
use Rattle.reader.proofs.padded.Given as goal

abbrev pub invariant-loop-i : goal.invariant-loop-i
invariant-loop-i g l = l.bytes ≡ take l.i l.b ++ drop l.i (zeros g.row.N)
