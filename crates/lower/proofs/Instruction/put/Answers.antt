use lib.ListN.{get_or}
use native.Mathlib.Omega.{arith}
use Prim.Native.Nat.{◌+◌, ◌*◌}
use Rattle.lower.proofs.Slots.{slot_stored}
use Rattle.lower.proofs.Instruction.put.Goals as goal

pub returns : goal.returns
returns c =
    let n = c.args.n in
    let self = c.args.self in
    slot_stored c.args.p.now _ _ _ _ _ _ _ (32 + 24 * n) self.opcode self.count self.destination (get_or self.operands 0 0) (get_or self.operands 1 0)
    (get_or self.operands 2 0) self.path (omega (arith, c.requires.0)) c.requires.1 c.put_half.ensures c.put_half-2.ensures c.put_word.ensures c.put_word-2.ensures
    c.put_word-3.ensures c.put_word-4.ensures c.put_word-5.ensures
