use mathlib.Core.Path.{◌≡◌}
use Prim.Native.Nat.{◌+◌, ◌*◌}
use Rattle.layout.specs.Decode.{path_total, records_ok}
use Rattle.program.proofs.Records.{records_left}
use Rattle.program.proofs.Image.records_ok.Given as goal

abbrev pub invariant-loop-k : goal.invariant-loop-k
invariant-loop-k l =
    record {
      place : l.at ≡ 32 + 24 * l.self.header.code + 12 * l.k;
      left : records_ok l.self.bytes.now (path_total l.self.bytes.now) 0 ≡ records_left l.self.bytes.now l.k;
    }
