-- Reads past the end.
use mathlib.Core.Path.{◌≡◌, refl}
use mathlib.Core.List.{List, [], ◌∷◌}
use Prim.Native.Nat.{ℕ, zero, suc, ◌≤◌, ◌<◌}
use native.Mathlib.Omega.{arith}
use lib.ListN.{length, get_or}
use lib.Ieee.{Float}

-- inside, what stands for a value past the end makes no difference
pub get_d_any : (xs : List Float) (i : ℕ) (a b : Float) → i < length xs → get_or xs i a ≡ get_or xs i b
get_d_any [] i a b h = absurd (omega arith)
get_d_any (x ∷ xs) zero a b h = refl
get_d_any (x ∷ xs) (suc i) a b h = get_d_any xs i a b (omega arith)

pub get_d_past : {A : Type 0} (xs : List A) (i : ℕ) (a : A) → length xs ≤ i → get_or xs i a ≡ a
get_d_past [] i a h = refl
get_d_past (x ∷ xs) zero a h = absurd (omega arith)
get_d_past (x ∷ xs) (suc i) a h = get_d_past xs i a (omega arith)
