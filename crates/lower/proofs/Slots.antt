-- Instructions and records as they are stored.
use mathlib.Core.Path.{◌≡◌, refl, ap₂, ◌∙◌}
use mathlib.Core.List.{List, ◌∷◌, ◌++◌}
use Prim.Native.Nat.{ℕ, ◌+◌, ◌/◌, ◌%◌, ◌≤◌, ◌<◌}
use native.Mathlib.Omega.{arith}
use lib.ListN.{length}
use Rattle.formula.specs.Text.{little_endian}
use Rattle.layout.specs.Image.{constant_slot, slot}
use Rattle.writer.specs.Over.{over}
use Rattle.writer.proofs.Over.{next_over}

pub record_stored : (p p₁ p₂ p₃ : List ℕ) (i a b c : ℕ) → i + 12 ≤ length p → p₁ ≡ over p i (little_endian 4 a) → p₂ ≡ over p₁ (i + 4) (little_endian 4 b)
    → p₃ ≡ over p₂ (i + 8) (little_endian 4 c) → p₃ ≡ over p i (little_endian 4 a ++ little_endian 4 b ++ little_endian 4 c)
record_stored p p₁ p₂ p₃ i a b c h e f g =
    let f₂ = next_over p p₁ p₂ i (i + 4) (little_endian 4 a) (little_endian 4 b) e f refl (omega arith) in
    next_over p p₂ p₃ i (i + 8) (little_endian 4 a ++ little_endian 4 b) (little_endian 4 c) f₂ g refl (omega arith)

low_byte : (x : ℕ) → x < 256 → x % 256 ≡ x
low_byte x h = omega arith

high_byte : (x : ℕ) → x < 256 → x / 256 % 256 ≡ 0
high_byte x h = omega arith

pub slot_stored : (p p₁ p₂ p₃ p₄ p₅ p₆ p₇ : List ℕ) (i o n d a b c k : ℕ) → i + 24 ≤ length p → o < 256 → p₁ ≡ over p i (little_endian 2 o)
    → p₂ ≡ over p₁ (i + 2) (little_endian 2 n) → p₃ ≡ over p₂ (i + 4) (little_endian 4 d) → p₄ ≡ over p₃ (i + 8) (little_endian 4 a)
    → p₅ ≡ over p₄ (i + 12) (little_endian 4 b) → p₆ ≡ over p₅ (i + 16) (little_endian 4 c) → p₇ ≡ over p₆ (i + 20) (little_endian 4 k)
    → p₇ ≡ over p i (slot o n d a b c k)
slot_stored p p₁ p₂ p₃ p₄ p₅ p₆ p₇ i o n d a b c k h s e₁ e₂ e₃ e₄ e₅ e₆ e₇ =
    let x₁ = little_endian 2 o in
    let x₂ : List ℕ = x₁ ++ little_endian 2 n in
    let x₃ : List ℕ = x₂ ++ little_endian 4 d in
    let x₄ : List ℕ = x₃ ++ little_endian 4 a in
    let x₅ : List ℕ = x₄ ++ little_endian 4 b in
    let x₆ : List ℕ = x₅ ++ little_endian 4 c in
    let f₂ = next_over p p₁ p₂ i (i + 2) x₁ (little_endian 2 n) e₁ e₂ refl (omega arith) in
    let f₃ = next_over p p₂ p₃ i (i + 4) x₂ (little_endian 4 d) f₂ e₃ refl (omega arith) in
    let f₄ = next_over p p₃ p₄ i (i + 8) x₃ (little_endian 4 a) f₃ e₄ refl (omega arith) in
    let f₅ = next_over p p₄ p₅ i (i + 12) x₄ (little_endian 4 b) f₄ e₅ refl (omega arith) in
    let f₆ = next_over p p₅ p₆ i (i + 16) x₅ (little_endian 4 c) f₅ e₆ refl (omega arith) in
    let f₇ = next_over p p₆ p₇ i (i + 20) x₆ (little_endian 4 k) f₆ e₇ refl (omega arith) in
    f₇
    ∙ ap₂ (λ (u v : ℕ). over p i (u ∷ v ∷ (little_endian 2 n ++ little_endian 4 d ++ little_endian 4 a ++ little_endian 4 b ++ little_endian 4 c ++ little_endian 4 k)))
    (low_byte o s) (high_byte o s)

pub constant_stored : (p p₁ p₂ p₃ p₄ p₅ p₆ : List ℕ) (i x d k : ℕ) → i + 24 ≤ length p → p₁ ≡ over p i (little_endian 2 0)
    → p₂ ≡ over p₁ (i + 2) (little_endian 2 0) → p₃ ≡ over p₂ (i + 4) (little_endian 4 d) → p₄ ≡ over p₃ (i + 8) (little_endian 8 x)
    → p₅ ≡ over p₄ (i + 16) (little_endian 4 0) → p₆ ≡ over p₅ (i + 20) (little_endian 4 k) → p₆ ≡ over p i (constant_slot x d k)
constant_stored p p₁ p₂ p₃ p₄ p₅ p₆ i x d k h e₁ e₂ e₃ e₄ e₅ e₆ =
    let x₁ = little_endian 2 0 in
    let x₂ : List ℕ = x₁ ++ little_endian 2 0 in
    let x₃ : List ℕ = x₂ ++ little_endian 4 d in
    let x₄ : List ℕ = x₃ ++ little_endian 8 x in
    let x₅ : List ℕ = x₄ ++ little_endian 4 0 in
    let f₂ = next_over p p₁ p₂ i (i + 2) x₁ (little_endian 2 0) e₁ e₂ refl (omega arith) in
    let f₃ = next_over p p₂ p₃ i (i + 4) x₂ (little_endian 4 d) f₂ e₃ refl (omega arith) in
    let f₄ = next_over p p₃ p₄ i (i + 8) x₃ (little_endian 8 x) f₃ e₄ refl (omega arith) in
    let f₅ = next_over p p₄ p₅ i (i + 16) x₄ (little_endian 4 0) f₄ e₅ refl (omega arith) in
    next_over p p₅ p₆ i (i + 20) x₅ (little_endian 4 k) f₅ e₆ refl (omega arith)
