use Rattle.std.proofs.Common.{◌≡◌, drop}
use Rattle.std.proofs.Math.Option.{some}
use Rattle.cases.specs.Recorded.{hex_from}
use Rattle.cases.proofs.hex.Given as goal

abbrev pub invariant-loop-byte : goal.invariant-loop-byte
invariant-loop-byte l = hex_from (some l.value) (drop l.byte-index l.digits) ≡ hex_from (some 0) l.digits
