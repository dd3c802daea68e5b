-- The loop over the registers of a list.
use mathlib.Core.Path.{◌≡◌, ap, sym, ◌∙◌}
use mathlib.Core.Bool.{Bool, true, false}
use mathlib.Core.List.{List}
use Prim.Native.Nat.{ℕ, suc, ◌+◌, ◌*◌, ◌-◌, ◌≤◌, ◌<◌}
use native.Mathlib.Omega.{arith}
use lib.ListN.{get_or}
use lib.Ieee.{Float, nan}
use Rattle.arithmetic.specs.Value.{0f}
use Rattle.arithmetic.specs.Extremum.{extremum, held, hold}
use Rattle.formula.specs.Text.{word_at}
use Rattle.machine.specs.Machine.{read_all}
use Rattle.layout.specs.Decode.{code_count, entries_from, entry_at, path_total}

pub list_place : (b : List ℕ) (code paths j : ℕ) → code ≡ word_at b 4 → paths ≡ word_at b 24 → 32 + 24 * code + 12 * paths + 4 * j ≡ entry_at b j
unfolding entry_at code_count path_total
list_place b code paths j e f = omega arith

-- ---- by any test, as `beyond most`
module _ (over : Float → Float → Bool) (b : List ℕ) (count a : ℕ) (regs : List Float) where
  unfoldable pub extreme_left : Float → ℕ → Float
  extreme_left e i = hold over e (read_all regs (entries_from b (count - i) (a + i)))

  pub extreme_none : count ≡ 0 → nan ≡ extremum over (read_all regs (entries_from b count a))
  extreme_none z = rw z

  pub extreme_start : (x : Float) → (count ≡ 0 → ⊥) → x ≡ get_or regs (word_at b (entry_at b a)) 0f → extremum over (read_all regs (entries_from b count a)) ≡ extreme_left x 1
  unfolding extreme_left
  extreme_start x z ex =
      let e : count ≡ suc (count - 1) = omega arith in
      let f : suc a ≡ a + 1 = omega arith in
      ap (λ (k : ℕ). extremum over (read_all regs (entries_from b k a))) e
      ∙ ap (λ (k : ℕ). hold over (get_or regs (word_at b (entry_at b a)) 0f) (read_all regs (entries_from b (count - 1) k))) f
      ∙ ap (λ (y : Float). hold over y (read_all regs (entries_from b (count - 1) (a + 1)))) (sym ex)

  pub extreme_step : (e x : Float) (i : ℕ) → i < count → x ≡ get_or regs (word_at b (entry_at b (a + i))) 0f → extreme_left e i ≡ extreme_left (held over e x) (i + 1)
  unfolding extreme_left hold
  extreme_step e x i h ex =
      let f : count - i ≡ suc (count - (i + 1)) = omega arith in
      let g : suc (a + i) ≡ a + (i + 1) = omega arith in
      ap (λ (k : ℕ). hold over e (read_all regs (entries_from b k (a + i)))) f
      ∙ ap (λ (k : ℕ). hold over (held over e (get_or regs (word_at b (entry_at b (a + i))) 0f)) (read_all regs (entries_from b (count - (i + 1)) k))) g
      ∙ ap (λ (y : Float). hold over (held over e y) (read_all regs (entries_from b (count - (i + 1)) (a + (i + 1))))) (sym ex)

  pub extreme_end : (e : Float) (i : ℕ) → count ≤ i → extreme_left e i ≡ e
  unfolding extreme_left hold
  extreme_end e i h = let z : count - i ≡ 0 = omega arith in rw z

-- ---- the same, for a list that begins at a byte
module _ (over : Float → Float → Bool) (b : List ℕ) (at count : ℕ) (regs : List Float) where
  abbrev pub Left : Float → ℕ → Type 0
  Left e i = (a : ℕ) → at ≡ entry_at b a → extremum over (read_all regs (entries_from b count a)) ≡ extreme_left over b count a regs e i

  place_after : (a i : ℕ) → at ≡ entry_at b a → at + 4 * i ≡ entry_at b (a + i)
  unfolding entry_at
  place_after a i e = omega arith

  pub left_start : (x : Float) → 0 < count → x ≡ get_or regs (word_at b at) 0f → Left x 1
  left_start x h ex a e = extreme_start over b count a regs x (λ z. omega arith) (ex ∙ ap (λ (k : ℕ). get_or regs (word_at b k) 0f) e)

  pub left_step : (e x y : Float) (i : ℕ) → Left e i → i < count → x ≡ get_or regs (word_at b (at + 4 * i)) 0f → y ≡ held over e x → Left y (i + 1)
  left_step e x y i l h ex ey a f =
      l a f ∙ extreme_step over b count a regs e x i h (ex ∙ ap (λ (k : ℕ). get_or regs (word_at b k) 0f) (place_after a i f)) ∙ ap (λ (z : Float). extreme_left over b count a regs z (i + 1)) (sym ey)

  -- the next is beyond what is held, or not
  pub left_take : (e x y : Float) (i : ℕ) → Left e i → i < count → x ≡ get_or regs (word_at b (at + 4 * i)) 0f → over x e ≡ true → y ≡ x → Left y (i + 1)
  left_take e x y i l h ex t ey = left_step e x y i l h ex (ey ∙ rw t)

  pub left_keep : (e x y : Float) (i : ℕ) → Left e i → i < count → x ≡ get_or regs (word_at b (at + 4 * i)) 0f → over x e ≡ false → y ≡ e → Left y (i + 1)
  left_keep e x y i l h ex t ey = left_step e x y i l h ex (ey ∙ rw t)

  pub left_end : (e : Float) (i : ℕ) → Left e i → count ≤ i → (a : ℕ) → at ≡ entry_at b a → e ≡ extremum over (read_all regs (entries_from b count a))
  left_end e i l h a f = sym (l a f ∙ extreme_end over b count a regs e i h)
