-- What stands before all that is next free, while something is written there.
use mathlib.Core.Path.{refl, ◌∙◌}
use mathlib.Core.List.{List}
use Prim.Native.Nat.{ℕ, ◌+◌, ◌*◌, ◌≤◌}
use native.Mathlib.Omega.{arith}
use lib.ListN.{length}
use Rattle.writer.specs.Over.{over}
use Rattle.writer.proofs.Over.{over_length}
use Rattle.writer.proofs.Apart.{get_or_above, get_or_below}
use Rattle.lower.specs.Bytes.{Chunk, laid, written}
use Rattle.lower.specs.Piece.{Kept}
use Rattle.lower.specs.declared.Layout.{Layout}
use Rattle.lower.specs.declared.Cursor.{Cursor}
use Rattle.lower.proofs.Laid.{Fits}

pub kept_here : (L : Layout) (c : Cursor) (p : List ℕ) → Kept L c p p
kept_here L c p = record { long = refl; code = λ i x. refl; records = λ i x y. refl; lists = λ i x y. refl }

-- one part after another
pub kept_then : {L : Layout} {c e : Cursor} {p p₁ p₂ : List ℕ} → Kept L c p p₁ → Kept L e p₁ p₂ → c.code ≤ e.code → c.path ≤ e.path → c.entry ≤ e.entry → Kept L c p p₂
kept_then A B x y z =
    record {
      long = B.long ∙ A.long;
      code = λ i l. B.code i (omega arith) ∙ A.code i l;
      records = λ i g l. B.records i g (omega arith) ∙ A.records i g l;
      lists = λ i g l. B.lists i g (omega arith) ∙ A.lists i g l;
    }

-- bytes behind the code so far, before the records
pub kept_code : (L : Layout) (c : Cursor) (p : List ℕ) (a : ℕ) (xs : List ℕ) → a + length xs ≤ length p → 32 + 24 * c.code ≤ a → a + length xs ≤ L.paths → L.paths ≤ L.lists
    → Kept L c p (over p a xs)
kept_code L c p a xs h from to below =
    record {
      long = over_length p a xs h;
      code = λ i l. get_or_below p a xs h i (omega arith);
      records = λ i g l. get_or_above p a xs h i (omega arith);
      lists = λ i g l. get_or_above p a xs h i (omega arith);
    }

-- bytes behind the records so far, before the lists
pub kept_record : (L : Layout) (c : Cursor) (p : List ℕ) (a : ℕ) (xs : List ℕ) → a + length xs ≤ length p → 32 + 24 * c.code ≤ a → L.paths + 12 * c.path ≤ a → a + length xs ≤ L.lists
    → Kept L c p (over p a xs)
kept_record L c p a xs h behind from to =
    record {
      long = over_length p a xs h;
      code = λ i l. get_or_below p a xs h i (omega arith);
      records = λ i g l. get_or_below p a xs h i (omega arith);
      lists = λ i g l. get_or_above p a xs h i (omega arith);
    }

-- bytes behind the lists so far
kept_list : (L : Layout) (c : Cursor) (p : List ℕ) (a : ℕ) (xs : List ℕ) → a + length xs ≤ length p → 32 + 24 * c.code ≤ a → L.paths + 12 * c.path ≤ a → L.lists + 4 * c.entry ≤ a
    → Kept L c p (over p a xs)
kept_list L c p a xs h behind past from =
    record {
      long = over_length p a xs h;
      code = λ i l. get_or_below p a xs h i (omega arith);
      records = λ i g l. get_or_below p a xs h i (omega arith);
      lists = λ i g l. get_or_below p a xs h i (omega arith);
    }

-- all three at once
pub kept_laid : (L : Layout) (c : Cursor) (p : List ℕ) (w : Chunk) → Fits (length p) (32 + 24 * c.code) (L.paths + 12 * c.path) (L.lists + 4 * c.entry) w
    → 32 + 24 * c.code + length w.code ≤ L.paths → L.paths + 12 * c.path + length w.records ≤ L.lists → Kept L c p (written L c p w)
unfolding laid
kept_laid L c p w f x y =
    let p₁ = over p (32 + 24 * c.code) w.code in
    let p₂ = over p₁ (L.paths + 12 * c.path) w.records in
    let h₁ : 32 + 24 * c.code + length w.code ≤ length p = omega (arith, f.code, f.records, f.lists) in
    let n₁ = over_length p (32 + 24 * c.code) w.code h₁ in
    let h₂ : L.paths + 12 * c.path + length w.records ≤ length p₁ = omega (arith, n₁, f.records, f.lists) in
    let n₂ = over_length p₁ (L.paths + 12 * c.path) w.records h₂ in
    let k₁ = kept_code L c p (32 + 24 * c.code) w.code h₁ (omega arith) x (omega arith) in
    let k₂ = kept_record L c p₁ (L.paths + 12 * c.path) w.records h₂ (omega arith) (omega arith) y in
    let k₃ = kept_list L c p₂ (L.lists + 4 * c.entry) w.lists (omega (arith, n₁, n₂, f.lists)) (omega arith) (omega arith) (omega arith) in
    kept_then (kept_then k₁ k₂ (omega arith) (omega arith) (omega arith)) k₃ (omega arith) (omega arith) (omega arith)
