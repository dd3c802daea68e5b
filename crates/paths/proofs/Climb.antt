-- From a record to the root.
use mathlib.Core.Path.{◌≡◌, refl, sym, ap, ap₂, ◌∙◌}
use mathlib.Core.Option.{some}
use mathlib.Core.Bool.{true}
use mathlib.Core.List.{List}
use Prim.Native.Nat.{ℕ, zero, suc, ◌+◌, ◌*◌, ◌≤◌, ◌<◌}
use native.Mathlib.Omega.{arith}
use borrow.Author.Tests.{ne_eqb, ltb-true}
use lib.ListN.{length, length-append}
use lib.Dec.{ltb, eqb→eq}
use Rattle.formula.specs.Text.{ascii, word_at}
use Rattle.formula.specs.Path.{Path, ◌▸◌, placed, root, step_text, text}
use Rattle.layout.specs.Opcode.{step_of}
use Rattle.machine.proofs.Laws.{and_l, and_r}
use Rattle.writer.specs.Over.{over, zeroed}
use Rattle.paths.specs.Table.{Linked, climbed, length_in, linked, parent_in, path_in_table, step_in}
use Rattle.writer.proofs.Over.{over_before, text_zeroed}

module _ (b : List ℕ) (base : ℕ) where
  root_length : linked b base 0 ≡ true → length_in b base 0 ≡ 4
  unfolding linked
  root_length e = eqb→eq (length_in b base 0) 4 (rw e tt)

  pub parent_less : (k : ℕ) → 0 < k → linked b base k ≡ true → parent_in b base k < k
  unfolding linked
  parent_less k h e = ltb-true _ _ (and_l (ltb (parent_in b base k) k) _ (rw (ne_eqb k 0 (λ z. omega arith)) at e))

  pub length_more : (k : ℕ) → 0 < k → linked b base k ≡ true → length_in b base k ≡ length_in b base (parent_in b base k) + length (step_text (step_in b base k))
  unfolding linked
  length_more k h e =
      eqb→eq (length_in b base k) (length_in b base (parent_in b base k) + length (step_text (step_in b base k)))
      (rw (and_r (ltb (parent_in b base k) k) _ (rw (ne_eqb k 0 (λ z. omega arith)) at e)) tt)

  -- more turns than the number make no difference
  pub climbed_enough : (t u k : ℕ) → Linked b base k → k ≤ t → k ≤ u → climbed b base t k ≡ climbed b base u k
  unfolding climbed
  climbed_enough zero zero k ok h l = refl
  climbed_enough zero (suc u) k ok h l = let z : k ≡ 0 = omega arith in rw z
  climbed_enough (suc t) zero k ok h l = let z : k ≡ 0 = omega arith in rw z
  climbed_enough (suc t) (suc u) zero ok h l = refl
  climbed_enough (suc t) (suc u) (suc k) ok h l =
      let p = parent_less (suc k) (omega arith) (ok (suc k) (omega arith)) in
      rw (ne_eqb (suc k) 0 (λ z. omega arith))
      (ap (λ (q : Path). q ▸ step_in b base (suc k)) (climbed_enough t u (parent_in b base (suc k)) (λ j i. ok j (omega arith)) (omega arith) (omega arith)))

  pub path_root : path_in_table b base 0 ≡ root
  unfolding path_in_table climbed
  path_root = refl

  pub path_parent : (k : ℕ) → 0 < k → Linked b base k → path_in_table b base k ≡ path_in_table b base (parent_in b base k) ▸ step_in b base k
  unfolding path_in_table climbed
  path_parent zero h ok = absurd (omega arith)
  path_parent (suc k) h ok =
      let p = parent_less (suc k) (omega arith) (ok (suc k) (omega arith)) in
      rw (ne_eqb (suc k) 0 (λ z. omega arith))
      (ap (λ (q : Path). q ▸ step_in b base (suc k))
      (climbed_enough k (parent_in b base (suc k)) (parent_in b base (suc k)) (λ j i. ok j (omega arith)) (omega arith) (omega arith)))

  pub parents : (k : ℕ) → 0 < k → Linked b base k → Linked b base (parent_in b base k)
  parents k h ok = let p = parent_less k h (ok k (omega arith)) in λ j i. ok j (omega arith)

  -- the stored length is the text's
  lengths : (t k : ℕ) → k ≤ t → Linked b base k → length (text (path_in_table b base k)) ≡ length_in b base k
  lengths zero zero h ok = ap (λ (q : Path). length (text q)) path_root ∙ sym (root_length (ok 0 (omega arith)))
  lengths zero (suc k) h ok = absurd (omega arith)
  lengths (suc t) zero h ok = ap (λ (q : Path). length (text q)) path_root ∙ sym (root_length (ok 0 (omega arith)))
  lengths (suc t) (suc k) h ok =
      let e = ok (suc k) (omega arith) in
      let p = parent_less (suc k) (omega arith) e in
      ap (λ (q : Path). length (text q)) (path_parent (suc k) (omega arith) ok)
      ∙ length-append (text (path_in_table b base (parent_in b base (suc k)))) (step_text (step_in b base (suc k)))
      ∙ ap (λ (n : ℕ). n + length (step_text (step_in b base (suc k)))) (lengths t (parent_in b base (suc k)) (omega arith) (parents (suc k) (omega arith) ok))
      ∙ sym (length_more (suc k) (omega arith) e)

  pub path_length : (k : ℕ) → Linked b base k → length (text (path_in_table b base k)) ≡ length_in b base k
  path_length k ok = lengths k k (omega arith) ok

  pub length_is : (k : ℕ) {n : ℕ} → n ≡ word_at b (base + 12 * k + 8) → n ≡ length_in b base k
  unfolding length_in
  length_is k e = e

  pub linked_below : (k at : ℕ) → at ≤ k → Linked b base k → Linked b base at
  linked_below k at h ok = λ j i. ok j (omega arith)

  pub step_fits : (k at w : ℕ) → 0 < at → at ≤ k → Linked b base k → w ≡ word_at b (base + 12 * at + 4) → length (step_text (step_of w)) ≤ length_in b base at
  unfolding step_in
  step_fits k at w h l ok e =
      let m = length_more at h (ok at l) in
      let n : length (step_text (step_of w)) ≡ length (step_text (step_in b base at)) = ap (λ (x : ℕ). length (step_text (step_of x))) e in
      omega arith

  pub parent_is : (k at parent : ℕ) → 0 < at → at ≤ k → Linked b base k → parent ≡ word_at b (base + 12 * at) → parent < at
  unfolding parent_in
  parent_is k at parent h l ok e = omega (arith, parent_less at h (ok at l))

  pub begin_is : (k at parent w begin : ℕ) → 0 < at → at ≤ k → Linked b base k → w ≡ word_at b (base + 12 * at + 4) → parent ≡ word_at b (base + 12 * at)
      → begin + length (step_text (step_of w)) ≡ length_in b base at → begin ≡ length_in b base parent
  unfolding step_in parent_in
  begin_is k at parent w begin h l ok e f g =
      let m = length_more at h (ok at l) in
      let n : length (step_text (step_of w)) ≡ length (step_text (step_in b base at)) = ap (λ (x : ℕ). length (step_text (step_of x))) e in
      let q : length_in b base parent ≡ length_in b base (parent_in b base at) = ap (λ (x : ℕ). length_in b base x) f in
      omega arith

  -- a step written before what stands: the text that is still to come is shorter by it
  pub step_written : (out out' whole : List ℕ) (k at parent w begin : ℕ) → 0 < at → at ≤ k → Linked b base k → length_in b base at ≤ length out
      → w ≡ word_at b (base + 12 * at + 4) → parent ≡ word_at b (base + 12 * at) → begin + length (step_text (step_of w)) ≡ length_in b base at
      → out' ≡ over out begin (step_text (step_of w)) → over out 0 (text (path_in_table b base at)) ≡ whole
      → over out' 0 (text (path_in_table b base parent)) ≡ whole
  unfolding step_in parent_in
  step_written out out' whole k at parent w begin h i ok l ew ep eb e z =
      let p = linked_below k at i ok in
      let t = text (path_in_table b base parent) in
      let s = step_text (step_of w) in
      let q = begin_is k at parent w begin h i ok ew ep eb in
      let j = parent_is k at parent h i ok ep in
      let n = path_length parent (linked_below k parent (omega arith) ok) in
      let y : begin ≡ 0 + length t = omega arith in
      ap (λ (o : List ℕ). over o 0 t) (e ∙ ap (λ (x : ℕ). over out x s) y) ∙ over_before out 0 t s (omega arith)
      ∙ ap₂ (λ (x y : ℕ). over out 0 (text (path_in_table b base x ▸ step_of y))) ep ew
      ∙ ap (λ (r : Path). over out 0 (text r)) (sym (path_parent at h p)) ∙ z

  pub root_begin : (k at begin : ℕ) → at ≤ 0 → Linked b base k → begin ≡ length_in b base at → begin ≡ 4
  root_begin k at begin h ok e =
      let z : at ≡ 0 = omega arith in
      e ∙ ap (λ (x : ℕ). length_in b base x) z ∙ root_length (ok 0 (omega arith))

  -- the root's text last, then zeros
  pub path_written : (out0 out o2 o3 : List ℕ) (k at n begin : ℕ) → at ≤ 0 → Linked b base k → n ≡ word_at b (base + 12 * k + 8) → n ≤ length out0
      → over out 0 (text (path_in_table b base at)) ≡ over out0 0 (text (path_in_table b base k)) → begin + 4 ≡ 4 → o2 ≡ over out begin (ascii "root") → o3 ≡ zeroed o2 n
      → o3 ≡ placed (some (path_in_table b base k)) out0
  unfolding length_in
  path_written out0 out o2 o3 k at n begin h ok en l e eb e2 e3 =
      let z : at ≡ 0 = omega arith in
      let y : begin ≡ 0 = omega arith in
      let t : text (path_in_table b base at) ≡ ascii "root" = ap (λ (x : ℕ). text (path_in_table b base x)) z ∙ ap text path_root in
      let m : o2 ≡ over out0 0 (text (path_in_table b base k)) =
      e2 ∙ ap (λ (x : ℕ). over out x (ascii "root")) y ∙ ap (λ (x : List ℕ). over out 0 x) (sym t) ∙ e in
      let q : n ≡ length (text (path_in_table b base k)) = en ∙ sym (path_length k ok) in
      e3 ∙ text_zeroed out0 o2 (text (path_in_table b base k)) n q l m
