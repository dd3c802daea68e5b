-- The registers of a list, looked at one after another.
use Rattle.std.proofs.Common.{Bool, ◌≡◌, List, ℕ, zero, suc, ◌+◌, ◌&&◌, ltb, refl, ap, ◌∙◌, arith}
use Rattle.std.specs.List.{list_all, range_with_len}
use Rattle.formula.specs.Text.{word_at}
use Rattle.machine.specs.Program.{all_below}
use Rattle.layout.specs.Decode.{entries_from, entry_at}

module _ (b : List ℕ) (registers a : ℕ) where
  -- whether entry i of the list from a on names a register
  abbrev pub listed : ℕ → Bool
  listed i = ltb (word_at b (entry_at b (a + i))) registers

  all_from : (count k : ℕ) → list_all listed (range_with_len k count) ≡ all_below registers (entries_from b count (a + k))
  all_from zero k = refl
  all_from (suc n) k =
      let e : a + (k + 1) ≡ suc (a + k) = omega arith in
      ap (λ x. listed k && x) (all_from n (k + 1) ∙ ap (λ (x : ℕ). all_below registers (entries_from b n x)) e)

  pub all_listed : (count : ℕ) → list_all listed (range_with_len 0 count) ≡ all_below registers (entries_from b count a)
  all_listed count = let e : a + 0 ≡ a = omega arith in all_from count 0 ∙ ap (λ (x : ℕ). all_below registers (entries_from b count x)) e
