use native.Mathlib.Omega.{arith}
use Prim.Native.Nat.{◌+◌, ◌*◌}
use Rattle.lower.proofs.Slots.{constant_stored}
use Rattle.lower.proofs.put_constant.Goals as goal

pub returns : goal.returns
returns c =
    let args = c.args in
    constant_stored args.p.now _ _ _ _ _ _ (32 + 24 * args.n) args.bits args.destination args.path (omega (arith, c.requires)) c.put_half.ensures c.put_half-2.ensures
    c.put_word.ensures c.put_long.ensures c.put_word-2.ensures c.put_word-3.ensures
