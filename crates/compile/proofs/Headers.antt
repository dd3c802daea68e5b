-- The header, as it is stored.
use mathlib.Core.Path.{◌≡◌, refl}
use mathlib.Core.List.{List, ◌++◌}
use Prim.Native.Nat.{ℕ, ◌≤◌}
use native.Mathlib.Omega.{arith}
use lib.ListN.{length}
use Rattle.formula.specs.Text.{little_endian}
use Rattle.writer.specs.Over.{over}
use Rattle.writer.proofs.Over.{next_over}

pub header_stored : (p p₁ p₂ p₃ p₄ p₅ p₆ p₇ p₈ : List ℕ) (a b c d e f g h : ℕ) → 32 ≤ length p → p₁ ≡ over p 0 (little_endian 4 a) → p₂ ≡ over p₁ 4 (little_endian 4 b)
    → p₃ ≡ over p₂ 8 (little_endian 4 c) → p₄ ≡ over p₃ 12 (little_endian 4 d) → p₅ ≡ over p₄ 16 (little_endian 4 e) → p₆ ≡ over p₅ 20 (little_endian 4 f)
    → p₇ ≡ over p₆ 24 (little_endian 4 g) → p₈ ≡ over p₇ 28 (little_endian 4 h)
    → p₈
    ≡ over p 0 (little_endian 4 a ++ little_endian 4 b ++ little_endian 4 c ++ little_endian 4 d ++ little_endian 4 e ++ little_endian 4 f ++ little_endian 4 g ++ little_endian 4 h)
header_stored p p₁ p₂ p₃ p₄ p₅ p₆ p₇ p₈ a b c d e f g h room e₁ e₂ e₃ e₄ e₅ e₆ e₇ e₈ =
    let x₁ : List ℕ = little_endian 4 a in
    let x₂ : List ℕ = x₁ ++ little_endian 4 b in
    let x₃ : List ℕ = x₂ ++ little_endian 4 c in
    let x₄ : List ℕ = x₃ ++ little_endian 4 d in
    let x₅ : List ℕ = x₄ ++ little_endian 4 e in
    let x₆ : List ℕ = x₅ ++ little_endian 4 f in
    let x₇ : List ℕ = x₆ ++ little_endian 4 g in
    let f₂ = next_over p p₁ p₂ 0 4 x₁ (little_endian 4 b) e₁ e₂ refl (omega arith) in
    let f₃ = next_over p p₂ p₃ 0 8 x₂ (little_endian 4 c) f₂ e₃ refl (omega arith) in
    let f₄ = next_over p p₃ p₄ 0 12 x₃ (little_endian 4 d) f₃ e₄ refl (omega arith) in
    let f₅ = next_over p p₄ p₅ 0 16 x₄ (little_endian 4 e) f₄ e₅ refl (omega arith) in
    let f₆ = next_over p p₅ p₆ 0 20 x₅ (little_endian 4 f) f₅ e₆ refl (omega arith) in
    let f₇ = next_over p p₆ p₇ 0 24 x₆ (little_endian 4 g) f₆ e₇ refl (omega arith) in
    next_over p p₇ p₈ 0 28 x₇ (little_endian 4 h) f₇ e₈ refl (omega arith)
