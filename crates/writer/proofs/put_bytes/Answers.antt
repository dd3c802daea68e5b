use mathlib.Core.Path.{refl, ap, ◌∙◌}
use mathlib.Core.List.{List}
use Prim.Native.Nat.{ℕ, ◌+◌}
use native.Mathlib.Omega.{arith}
use lib.ListN.{length-set, set, get_or}
use Rattle.writer.proofs.Over.{paste_more, paste_over}
use Rattle.writer.proofs.put_bytes.Goals as goal

pub loop-i-preserved : goal.loop-i-preserved
loop-i-preserved c =
    let args = c.args in
    let loop = c.loop-i in (
      length-set loop.out (args.at + loop.i) _ ∙ loop.invariant.0,
      ap (λ (x : List ℕ). set x (args.at + loop.i) (get_or args.b.now loop.i 0)) loop.invariant.1
          ∙ paste_more args.out.now args.at args.b.now loop.i (omega (arith, c.loop-i-test.true)) (omega (arith, c.loop-i-test.true)),
    )

pub returns : goal.returns
returns c =
    let args = c.args in
    let loop = c.loop-i in
    (refl, loop.invariant.1 ∙ paste_over args.out.now args.at loop.i args.b.now (omega (arith, c.loop-i-test.false, loop.auto.i-end)))
