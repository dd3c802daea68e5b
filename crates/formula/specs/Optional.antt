-- The code's Option and the definitions' own, which stand for each other.
use Rattle.std.specs.Prelude as Code
use Rattle.std.specs.Prelude.{Some, None}
use Rattle.std.proofs.Math.Option.{Option, none, some}

-- the code's, as the definitions have it, with what stands in it read by f
abbrev pub option_by : {A B : Type 0} → (A → B) → Code.Option A → Option B
option_by f None = none
option_by f (Some x) = some (f x)

-- the code's, as the definitions have it
abbrev pub option_of : {A : Type 0} → Code.Option A → Option A
option_of None = none
option_of (Some x) = some x

-- the definitions', as the code has it
abbrev pub given : {A : Type 0} → Option A → Code.Option A
given none = None
given (some x) = Some x
