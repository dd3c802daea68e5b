-- What lowering a part answers: its value and what is next free, or a refusal and the number of its path's record.
use Rattle.refusals.specs.declared.Refusal.{Refusal}
use Rattle.std.specs.Prelude.{ℕ, Result, Ok, Err}
use Rattle.lower.specs.declared.Cursor.{Cursor}
use Rattle.lower.specs.declared.Fault.{Fault}
use Rattle.lower.specs.declared.Value.{Value}

pub data Low : Type 0 where
  Done : Value → Cursor → Low
  Faulty : Refusal → ℕ → Low

-- what a part returns, beside the cursor that it leaves
abbrev pub low_of : Result Value Fault → Cursor → Low
low_of (Ok v) c = Done v c
low_of (Err x) c = Faulty x.refusal x.path
