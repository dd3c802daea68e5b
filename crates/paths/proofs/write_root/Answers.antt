use mathlib.Core.Path.{◌≡◌, refl, ap, ◌∙◌}
use Prim.Native.Nat.{ℕ}
use native.Mathlib.Omega.{arith}
use Rattle.formula.specs.Text.{ascii}
use Rattle.writer.specs.Over.{over}
use Rattle.writer.proofs.Over.{text_zeroed}
use Rattle.paths.proofs.write_root.Goals as goal

pub returns : goal.returns
returns c =
    let args = c.args in
    let copy_before = c.copy_before in
    let zero_from = c.zero_from in
    let z : copy_before.result ≡ 0 = omega (arith, copy_before.ensures.0) in
    zero_from.ensures
    ∙ text_zeroed args.out.now _ (ascii "root") 4 refl (omega arith)
    (copy_before.ensures.1 ∙ ap (λ (x : ℕ). over args.out.now x (ascii "root")) z)
