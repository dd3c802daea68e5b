-- The code's option and the definitions'.
use mathlib.Core.Path.{◌≡◌, refl}
use mathlib.Core.Option.{Option, none, some}
use Prim.Native.Nat.{ℕ}
use native.Mathlib.Omega.{arith}
use Rattle.std.specs.Prelude.{Some, None}
use Rattle.formula.specs.Optional.{given}

pub option_some : {A : Type 0} → (o : Option A) (a : A) → Some a ≡ given o → o ≡ some a
option_some none a e = let z : ◌≡◌ {A = ℕ} 0 1 = cc in absurd (omega arith)
option_some (some b) a e = cc

pub option_none : {A : Type 0} → (o : Option A) → None ≡ given o → o ≡ none
option_none none e = refl
option_none (some b) e = let z : ◌≡◌ {A = ℕ} 0 1 = cc in absurd (omega arith)
