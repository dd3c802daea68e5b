-- The path records, and the lengths that they store.
use mathlib.Core.Path.{◌≡◌, refl, sym, ap, ap₂, ◌∙◌}
use mathlib.Core.Bool.{Bool, true, cond, ◌&&◌}
use mathlib.Core.List.{List}
use Prim.Native.Nat.{ℕ, zero, suc, ◌+◌, ◌-◌, ◌*◌, ◌≤◌, ◌<◌}
use native.Mathlib.Numerals.{add-one}
use native.Mathlib.Omega.{arith}
use borrow.Author.Tests.{ne_eqb}
use lib.ListN.{length}
use lib.Dec.{eqb, ltb}
use Rattle.formula.specs.Text.{word_at}
use Rattle.formula.specs.Path.{Path, ◌▸◌, root, step_text, text}
use Rattle.machine.proofs.Laws.{and_r}
use Rattle.layout.specs.Opcode.{step_of}
use Rattle.layout.specs.Decode.{code_count, length_at, parent_at, path_in, path_of, path_total, record_at, record_ok, records_ok, step_at}
use Rattle.paths.specs.Table.{Linked, climbed, length_in, linked, parent_in, path_in_table, step_in}
use Rattle.paths.proofs.Climb.{path_length}
use Rattle.program.specs.declared.Header.{Header}
use Rattle.program.specs.Check.{Numbers}
use Rattle.layout.proofs.Frames.{record_is_ok}

module _ (b : List ℕ) where
  -- where the records begin
  abbrev pub records : ℕ
  records = 32 + 24 * code_count b

  pub record_place : (h : Header) (k : ℕ) → Numbers b h → 32 + 24 * h.code + 12 * k ≡ record_at b k
  unfolding record_at
  record_place h k e = omega arith

  -- ---- a record's test

  pub root_is : (at : ℕ) → at ≡ record_at b 0 → record_ok b 0 ≡ (eqb (word_at b at) 0 && eqb (word_at b (at + 4)) 0 && eqb (length_at b 0) 4)
  unfolding record_ok
  root_is at e = rw e

  pub record_is : (k at : ℕ) → 0 < k → at ≡ record_at b k
      → record_ok b k ≡ (ltb (word_at b at) k && eqb (word_at b (at + 8)) (length_at b (word_at b at) + length (step_text (step_of (word_at b (at + 4))))))
  unfolding record_ok parent_at step_at length_at
  record_is k at z e = rw (ne_eqb k 0 (λ y. omega arith), e)

  pub length_read : (k at : ℕ) {x : ℕ} → at ≡ record_at b k + 8 → x ≡ word_at b at → x ≡ length_at b k
  unfolding length_at
  length_read k at e f = f ∙ ap (word_at b) e

  -- ---- all of them

  unfoldable pub records_left : ℕ → Bool
  records_left k = records_ok b (path_total b - k) k

  pub records_start : 0 < path_total b → record_ok b 0 ≡ true → records_ok b (path_total b) 0 ≡ records_left 1
  unfolding records_left
  records_start h ok = let e : path_total b ≡ suc (path_total b - 1) = omega arith in ap (λ (x : ℕ). records_ok b x 0) e ∙ rw ok

  pub records_step : (k : ℕ) → k < path_total b → records_left k ≡ (record_ok b k && records_left (k + 1))
  unfolding records_left
  records_step k h =
      let e : path_total b - k ≡ suc (path_total b - (k + 1)) = omega arith in
      ap (λ x. records_ok b x k) e ∙ ap (λ (x : ℕ). record_ok b k && records_ok b (path_total b - (k + 1)) x) (sym (add-one k))

  pub records_end : (k : ℕ) → path_total b ≤ k → records_left k ≡ true
  unfolding records_left
  records_end k h = let e : path_total b - k ≡ 0 = omega arith in rw e

  -- ---- the table that the paths' text is written from

  parent_same : (k : ℕ) → parent_in b records k ≡ parent_at b k
  unfolding parent_in parent_at record_at
  parent_same k = refl

  step_same : (k : ℕ) → step_in b records k ≡ step_at b k
  unfolding step_in step_at record_at
  step_same k = refl

  pub length_same : (k : ℕ) → length_in b records k ≡ length_at b k
  unfolding length_in length_at record_at
  length_same k = refl

  climbed_same : (t k : ℕ) → climbed b records t k ≡ path_in b t k
  unfolding climbed path_in
  climbed_same zero k = refl
  climbed_same (suc t) k =
      ap₂ (λ p s. cond (eqb k 0) root (p ▸ s)) (ap (λ (j : ℕ). climbed b records t j) (parent_same k) ∙ climbed_same t (parent_at b k)) (step_same k)

  pub path_same : (k : ℕ) → path_in_table b records k ≡ path_of b k
  unfolding path_in_table path_of
  path_same k = climbed_same k k

  linked_is : (k : ℕ) → record_ok b k ≡ true → linked b records k ≡ true
  unfolding linked record_ok
  linked_is zero e = ap (λ (x : ℕ). eqb x 4) (length_same 0) ∙ and_r (eqb (word_at b (record_at b 0)) 0 && eqb (word_at b (record_at b 0 + 4)) 0) (eqb (length_at b 0) 4) e
  linked_is (suc k) e =
      rw (ne_eqb (suc k) 0 (λ z. omega arith), parent_same (suc k), step_same (suc k), length_same (suc k), length_same (parent_at b (suc k)))
      (rw (ne_eqb (suc k) 0 (λ z. omega arith)) at e)

  pub all_linked : records_ok b (path_total b) 0 ≡ true → (k : ℕ) → k < path_total b → Linked b records k
  all_linked ok k h = λ j i. linked_is j (record_is_ok b (path_total b) 0 j ok (omega arith) (omega arith))

  pub text_length : records_ok b (path_total b) 0 ≡ true → (k : ℕ) → k < path_total b → length (text (path_of b k)) ≡ length_at b k
  text_length ok k h = ap (λ (p : Path). length (text p)) (sym (path_same k)) ∙ path_length b records k (all_linked ok k h) ∙ length_same k
