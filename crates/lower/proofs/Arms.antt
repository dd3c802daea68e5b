-- The bytes of two arms with their jumps and copies.
use mathlib.Core.Path.{◌≡◌, refl, sym, ap, ◌∙◌}
use mathlib.Core.List.{List, ◌++◌, append_assoc}
use Prim.Native.Nat.{ℕ, ◌+◌, ◌≤◌}
use native.Mathlib.Omega.{arith}
use lib.ListN.{length, length-append}
use Rattle.writer.specs.Over.{over}
use Rattle.lower.specs.Bytes.{Chunk, laid}
use Rattle.lower.proofs.Laid.{Fits, chunk_path, joined, laid_after, laid_before, laid_length, laid_then}

six : (A B C D E F : List ℕ) → (A ++ B ++ C) ++ (D ++ E ++ F) ≡ A ++ B ++ C ++ D ++ E ++ F
six A B C D E F = simp append_assoc

module _ (p : List ℕ) (a b c : ℕ) (r₃ r₂ r₄ r₂' : List ℕ) (l₃ : length r₃ ≡ 24) (l₂ : length r₂ ≡ 24) (l₄ : length r₄ ≡ 24) (l₂' : length r₂' ≡ 24) (y z : Chunk)
    (hc : a + 96 + length y.code + length z.code ≤ b) (hr : b + length y.records + length z.records ≤ c)
    (hl : c + length y.lists + length z.lists ≤ length p) where
  -- after the first arm, its condition's jump and its copy
  abbrev first : Chunk
  first = record { code = r₃ ++ y.code ++ r₂; records = y.records; lists = y.lists }

  first_fits : Fits (length p) a b c first
  first_fits = record { code = omega (arith, length-append (r₃ ++ y.code) r₂, length-append r₃ y.code); records = omega arith; lists = omega arith }

  pub first_arm : (p₁ p₂ p₃ : List ℕ) → p₁ ≡ laid p (a + 24) b c y → p₂ ≡ over p₁ a r₃ → p₃ ≡ over p₂ (a + 24 + length y.code) r₂ → p₃ ≡ laid p a b c first
  first_arm p₁ p₂ p₃ e₁ e₂ e₃ =
      let w : Chunk = record { code = r₃ ++ y.code; records = y.records; lists = y.lists } in
      let s : laid p (a + 24) b c y ≡ laid p (a + length r₃) b c y = ap (λ (x : ℕ). laid p (a + x) b c y) (sym l₃) in
      let f : Fits (length p) (a + length r₃) b c y = record { code = omega arith; records = omega arith; lists = omega arith } in
      let g : p₂ ≡ laid p a b c w = e₂ ∙ ap (λ (x : List ℕ). over x a r₃) (e₁ ∙ s) ∙ laid_before p a b c r₃ y f in
      e₃ ∙ ap (λ (x : List ℕ). over x (a + 24 + length y.code) r₂) g
      ∙ laid_after p a b c r₂ w (a + 24 + length y.code) (omega (arith, length-append r₃ y.code)) first_fits

  pub both_arms : (p₃ p₄ p₅ p₆ : List ℕ) → p₃ ≡ laid p a b c first → p₄ ≡ laid p₃ (a + 72 + length y.code) (b + length y.records) (c + length y.lists) z
      → p₅ ≡ over p₄ (a + 48 + length y.code) r₄ → p₆ ≡ over p₅ (a + 72 + length y.code + length z.code) r₂'
      → p₆ ≡ laid p a b c (record { code = r₃ ++ y.code ++ r₂ ++ r₄ ++ z.code ++ r₂'; records = y.records ++ z.records; lists = y.lists ++ z.lists })
  both_arms p₃ p₄ p₅ p₆ e₃ e₄ e₅ e₆ =
      let a₅ = a + 48 + length y.code in
      let b' = b + length y.records in
      let c' = c + length y.lists in
      let n₃ : length p₃ ≡ length p = ap length e₃ ∙ laid_length p a b c first first_fits in
      let s : a + 72 + length y.code ≡ a₅ + length r₄ = omega arith in
      let f₄ : Fits (length p₃) (a₅ + length r₄) b' c' z = record { code = omega arith; records = omega arith; lists = omega arith } in
      let w : Chunk = record { code = r₄ ++ z.code; records = z.records; lists = z.lists } in
      let g₅ : p₅ ≡ laid p₃ a₅ b' c' w = e₅ ∙ ap (λ (x : List ℕ). over x a₅ r₄) (e₄ ∙ ap (λ (x : ℕ). laid p₃ x b' c' z) s) ∙ laid_before p₃ a₅ b' c' r₄ z f₄ in
      let w₆ : Chunk = record { code = r₄ ++ z.code ++ r₂'; records = z.records; lists = z.lists } in
      let f₆ : Fits (length p₃) a₅ b' c' w₆ =
      record { code = omega (arith, length-append (r₄ ++ z.code) r₂', length-append r₄ z.code); records = omega arith; lists = omega arith } in
      let g₆ : p₆ ≡ laid p₃ a₅ b' c' w₆ =
      e₆ ∙ ap (λ (x : List ℕ). over x (a + 72 + length y.code + length z.code) r₂') g₅
      ∙ laid_after p₃ a₅ b' c' r₂' w (a + 72 + length y.code + length z.code) (omega (arith, length-append r₄ z.code)) f₆ in
      let all : Chunk = record { code = r₃ ++ y.code ++ r₂ ++ r₄ ++ z.code ++ r₂'; records = y.records ++ z.records; lists = y.lists ++ z.lists } in
      let e : joined first w₆ ≡ all = chunk_path (joined first w₆) all (six r₃ y.code r₂ r₄ z.code r₂') refl refl in
      let fa : Fits (length p) a b c (joined first w₆) =
      record {
        code = omega (arith, length-append (r₃ ++ y.code ++ r₂) (r₄ ++ z.code ++ r₂'), length-append (r₃ ++ y.code) r₂, length-append r₃ y.code, length-append (r₄ ++ z.code) r₂', length-append r₄ z.code);
        records = omega (arith, length-append y.records z.records);
        lists = omega (arith, length-append y.lists z.lists);
      } in
      g₆ ∙ ap (λ (x : List ℕ). laid x a₅ b' c' w₆) e₃
      ∙ laid_then p a b c a₅ b' c' first w₆ (omega (arith, length-append (r₃ ++ y.code) r₂, length-append r₃ y.code)) refl refl fa
      ∙ ap (λ (x : Chunk). laid p a b c x) e
