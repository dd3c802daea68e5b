-- What path records stay while other parts are written, and a record that is written.
use mathlib.Core.Path.{◌≡◌, refl, sym, ap, ap₂, ◌∙◌}
use mathlib.Core.Bool.{Bool, true, false, cond}
use mathlib.Core.List.{List, ◌++◌}
use Prim.Native.Nat.{ℕ, zero, suc, ◌+◌, ◌-◌, ◌*◌, ◌≤◌, ◌<◌}
use native.Mathlib.Omega.{arith}
use lib.ListN.{length, get_or, length-append}
use lib.Dec.{eqb, ltb}
use borrow.Author.Tests.{eq-eqb, eqb-false, eqb-true, lt-ltb, ltb-false, ltb-true, ne_eqb}
use Rattle.formula.specs.Text.{half_at, little_endian, word_at}
use Rattle.formula.specs.Path.{Path, Step, ◌▸◌, argument, condition, else_arm, step_text, text, then_arm}
use Rattle.layout.specs.Opcode.{step_number, step_of}
use Rattle.layout.specs.Image.{path_record}
use Rattle.writer.specs.Over.{over}
use Rattle.paths.specs.Table.{climbed, length_in, linked, parent_in, path_in_table, step_in}
use Rattle.writer.proofs.Over.{over_length}
use Rattle.writer.proofs.Apart.{get_or_inside, word_above, word_below}
use Rattle.paths.proofs.Climb.{parent_less, path_length, path_parent}
use Rattle.lower.specs.Bytes.{Chunk, laid}
use Rattle.lower.proofs.Laid.{Fits}

-- the words of the first q records are the same
abbrev pub Same : ℕ → List ℕ → List ℕ → ℕ → Type 0
Same base p p' q = (i : ℕ) → base ≤ i → i + 4 ≤ base + 12 * q → word_at p' i ≡ word_at p i

module _ (base : ℕ) (p p' : List ℕ) (q : ℕ) (same : Same base p p' q) where
  same_parent : (k : ℕ) → k < q → parent_in p' base k ≡ parent_in p base k
  unfolding parent_in
  same_parent k h = same (base + 12 * k) (omega arith) (omega arith)

  same_step : (k : ℕ) → k < q → step_in p' base k ≡ step_in p base k
  unfolding step_in
  same_step k h = ap (λ (w : ℕ). step_of w) (same (base + 12 * k + 4) (omega arith) (omega arith))

  pub same_length : (k : ℕ) → k < q → length_in p' base k ≡ length_in p base k
  unfolding length_in
  same_length k h = same (base + 12 * k + 8) (omega arith) (omega arith)

  pub same_linked : (k : ℕ) → k < q → linked p base k ≡ true → linked p' base k ≡ true
  unfolding linked
  same_linked zero h e = rw (same_length 0 h) e
  same_linked (suc k) h e =
      let l = parent_less p base (suc k) (omega arith) e in
      rw (
        same_parent (suc k) h,
        same_length (suc k) h,
        same_step (suc k) h,
        same_length (parent_in p base (suc k)) (omega arith),
        ne_eqb (suc k) 0 (λ z. omega arith),
      )
      (rw (ne_eqb (suc k) 0 (λ z. omega arith)) at e)

  pub same_climbed : ((k : ℕ) → k < q → linked p base k ≡ true) → (t k : ℕ) → k < q → climbed p' base t k ≡ climbed p base t k
  unfolding climbed
  same_climbed ok zero k h = refl
  same_climbed ok (suc t) zero h = refl
  same_climbed ok (suc t) (suc k) h =
      let l = parent_less p base (suc k) (omega arith) (ok (suc k) h) in
      rw (ne_eqb (suc k) 0 (λ z. omega arith), same_parent (suc k) h, same_step (suc k) h, same_climbed ok t (parent_in p base (suc k)) (omega arith))

  pub same_path : ((k : ℕ) → k < q → linked p base k ≡ true) → (k : ℕ) → k < q → path_in_table p' base k ≡ path_in_table p base k
  unfolding path_in_table
  same_path ok k h = same_climbed ok k k h

-- ---- what is written elsewhere

pub same_above : (base : ℕ) (p : List ℕ) (a : ℕ) (xs : List ℕ) (q : ℕ) → a + length xs ≤ length p → base + 12 * q ≤ a → Same base p (over p a xs) q
same_above base p a xs q h l i b e = word_below p a xs h i (omega arith)

pub same_below : (base : ℕ) (p : List ℕ) (a : ℕ) (xs : List ℕ) (q : ℕ) → a + length xs ≤ length p → a + length xs ≤ base → Same base p (over p a xs) q
same_below base p a xs q h l i b e = word_above p a xs h i (omega arith)

pub same_then : (base : ℕ) (p p₁ p₂ : List ℕ) (q : ℕ) → Same base p p₁ q → Same base p₁ p₂ q → Same base p p₂ q
same_then base p p₁ p₂ q s t i b e = t i b e ∙ s i b e

pub same_laid : (base : ℕ) (p : List ℕ) (a b c : ℕ) (w : Chunk) (q : ℕ) → Fits (length p) a b c w → a + length w.code ≤ base → base + 12 * q ≤ b
    → Same base p (laid p a b c w) q
unfolding laid
same_laid base p a b c w q f h l =
    let p₁ = over p a w.code in
    let p₂ = over p₁ b w.records in
    let n₁ = over_length p a w.code (omega (arith, f.code, f.records, f.lists)) in
    let n₂ = over_length p₁ b w.records (omega (arith, n₁, f.records, f.lists)) in
    same_then base p p₁ (over p₂ c w.lists) q (same_below base p a w.code q (omega (arith, f.code, f.records, f.lists)) h)
    (same_then base p₁ p₂ (over p₂ c w.lists) q (same_above base p₁ b w.records q (omega (arith, n₁, f.records, f.lists)) l)
    (same_above base p₂ c w.lists q (omega (arith, n₁, n₂, f.lists)) (omega (arith, f.records))))

-- ---- a record that is written

pub number_back : (n : ℕ) → step_number (step_of n) ≡ n
number_back n = go (eqb n 0) (eqb n 1) (eqb n 2) refl refl refl
  where
    go : (a b c : Bool) → eqb n 0 ≡ a → eqb n 1 ≡ b → eqb n 2 ≡ c → step_number (cond a condition (cond b then_arm (cond c else_arm (argument (n - 3))))) ≡ n
    go true b c e f g = sym (eqb-true n 0 e)
    go false true c e f g = sym (eqb-true n 1 f)
    go false false true e f g = sym (eqb-true n 2 g)
    go false false false e f g =
        let x : n ≡ 0 → ⊥ = eqb-false n 0 e in
        let y : n ≡ 1 → ⊥ = eqb-false n 1 f in
        let z : n ≡ 2 → ⊥ = eqb-false n 2 g in
        omega arith

abbrev three : ℕ → ℕ → ℕ → List ℕ
three a b c = little_endian 4 a ++ little_endian 4 b ++ little_endian 4 c

module _ (p : List ℕ) (at a b c : ℕ) (h : at + 12 ≤ length p) (sa : a < 4294967296) (sb : b < 4294967296) (sc : c < 4294967296) where
  inside : (i : ℕ) → i < 12 → get_or (over p at (three a b c)) (at + i) 0 ≡ get_or (three a b c) i 0
  inside i l = get_or_inside p at (three a b c) h i l

  inside_at : (i j : ℕ) → j ≡ at + i → i < 12 → get_or (over p at (three a b c)) j 0 ≡ get_or (three a b c) i 0
  inside_at i j e l = rw e (inside i l)

  pub first_word : word_at (over p at (three a b c)) at ≡ a
  unfolding word_at half_at
  first_word =
      rw (inside_at 0 at (omega arith) (omega arith), inside_at 1 (at + 1) (omega arith) (omega arith), inside_at 2 (at + 2) (omega arith) (omega arith), inside_at 3 (at + 2 + 1) (omega arith) (omega arith))
      (omega arith)

  pub second_word : word_at (over p at (three a b c)) (at + 4) ≡ b
  unfolding word_at half_at
  second_word =
      rw (inside_at 4 (at + 4) (omega arith) (omega arith), inside_at 5 (at + 4 + 1) (omega arith) (omega arith), inside_at 6 (at + 4 + 2) (omega arith) (omega arith), inside_at 7 (at + 4 + 2 + 1) (omega arith) (omega arith))
      (omega arith)

  pub third_word : word_at (over p at (three a b c)) (at + 8) ≡ c
  unfolding word_at half_at
  third_word =
      rw (inside_at 8 (at + 8) (omega arith) (omega arith), inside_at 9 (at + 8 + 1) (omega arith) (omega arith), inside_at 10 (at + 8 + 2) (omega arith) (omega arith), inside_at 11 (at + 8 + 2 + 1) (omega arith) (omega arith))
      (omega arith)

-- the record q below the record k
module _ (base : ℕ) (p : List ℕ) (q k step long : ℕ) (h : base + 12 * q + 12 ≤ length p) (hk : k < q) (few : q < 4294967296) (ss : step < 4294967296)
    (sl : long < 4294967296) (ok : (j : ℕ) → j < q → linked p base j ≡ true) (el : long ≡ length_in p base k + length (step_text (step_of step))) where
  abbrev p₁ : List ℕ
  p₁ = over p (base + 12 * q) (three k step long)

  pub entered_same : Same base p p₁ q
  entered_same = same_above base p (base + 12 * q) (three k step long) q h (omega arith)

  is_parent : parent_in p₁ base q ≡ k
  unfolding parent_in
  is_parent = first_word p (base + 12 * q) k step long h (omega arith) ss sl

  is_step : step_in p₁ base q ≡ step_of step
  unfolding step_in
  is_step = ap (λ (w : ℕ). step_of w) (second_word p (base + 12 * q) k step long h (omega arith) ss sl)

  pub is_length : length_in p₁ base q ≡ long
  unfolding length_in
  is_length = third_word p (base + 12 * q) k step long h (omega arith) ss sl

  own_linked : linked p₁ base q ≡ true
  unfolding linked
  own_linked =
      rw (
        ne_eqb q 0 (λ z. omega arith),
        is_parent,
        is_step,
        is_length,
        same_length base p p₁ q entered_same k hk,
        lt-ltb k q hk,
        eq-eqb long (length_in p base k + length (step_text (step_of step))) el,
      )

  pub entered_linked : (j : ℕ) → j < suc q → linked p₁ base j ≡ true
  entered_linked j l = go (ltb j q) refl
    where
      go : (x : Bool) → ltb j q ≡ x → linked p₁ base j ≡ true
      go true e = same_linked base p p₁ q entered_same j (ltb-true j q e) (ok j (ltb-true j q e))
      go false e = let z : j ≡ q = omega (arith, ltb-false j q e) in rw z own_linked

  -- its path is one step longer
  pub entered_path : path_in_table p₁ base q ≡ path_in_table p base k ▸ step_of step
  entered_path =
      path_parent p₁ base q (omega arith) (λ j l. entered_linked j (omega arith))
      ∙ ap₂ (λ (x : Path) (s : Step). x ▸ s)
      (ap (λ (z : ℕ). path_in_table p₁ base z) is_parent ∙ same_path base p p₁ q entered_same ok k hk) is_step

  -- and it is the definition's record
  pub entered_record : path_record k (path_in_table p base k ▸ step_of step) ≡ three k step long
  entered_record =
      let e₁ = number_back step in
      let e₂ : length (text (path_in_table p base k ▸ step_of step)) ≡ long =
      length-append (text (path_in_table p base k)) (step_text (step_of step))
      ∙ ap (λ (z : ℕ). z + length (step_text (step_of step))) (path_length p base k (λ j l. ok j (omega arith)))
      ∙ sym el in
      ap₂ (λ (x y : ℕ). little_endian 4 k ++ little_endian 4 x ++ little_endian 4 y) e₁ e₂
