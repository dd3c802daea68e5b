use mathlib.Core.Path.{◌≡◌}
use Rattle.derivative.specs.Records.{list_bytes}
use Rattle.derivative.specs.Provenance.{numbered}
use Rattle.writer.specs.Over.{over}
use Rattle.differentiate.proofs.RecordsForm.put_copy.Given as goal

abbrev pub invariant-loop-i : goal.invariant-loop-i
invariant-loop-i l = l.out ≡ over l.initial.out 0 (list_bytes (numbered l.node.number l.i))
