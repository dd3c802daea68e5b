use mathlib.Core.Path.{◌≡◌}
use Prim.Native.Nat.{◌≤◌}
use Rattle.layout.specs.Decode.{code_count, slot_at}
use Rattle.program.specs.Check.{instructions_ok}
use Rattle.program.proofs.Pass.{code_left}
use Rattle.program.proofs.Image.instructions_ok.Given as goal

abbrev pub invariant-loop-number : goal.invariant-loop-number
invariant-loop-number l =
    record {
      place : l.slot ≡ slot_at l.number;
      fits : l.next ≤ l.self.header.entries;
      left : instructions_ok l.self.bytes.now (code_count l.self.bytes.now) 0 0 ≡ code_left l.self.bytes.now l.number l.next;
    }
