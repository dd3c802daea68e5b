-- The path records that are right, one by one.
use mathlib.Core.Path.{◌≡◌, ap, sym, ◌∙◌}
use mathlib.Core.List.{List}
use mathlib.Core.Bool.{true}
use mathlib.Core.Logic.{⊎_elim}
use Prim.Native.Nat.{ℕ, zero, suc, ◌+◌, ◌≤◌, ◌<◌}
use native.Mathlib.Nat.{eq-or-lt_of_le}
use native.Mathlib.Omega.{arith}
use Rattle.machine.proofs.Laws.{and_l, and_r}
use Rattle.layout.specs.Decode.{record_ok, records_ok}

module _ (b : List ℕ) where
  pub record_is_ok : (n q j : ℕ) → records_ok b n q ≡ true → q ≤ j → j < q + n → record_ok b j ≡ true
  record_is_ok zero q j ok l h = absurd (omega arith)
  record_is_ok (suc n) q j ok l h =
      ⊎_elim (λ e. ap (record_ok b) (sym e) ∙ and_l _ _ ok) (λ m. record_is_ok n (suc q) j (and_r (record_ok b q) _ ok) m (omega arith)) (eq-or-lt_of_le l)
