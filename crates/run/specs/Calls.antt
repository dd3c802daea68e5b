-- The machine's calls on the program that the bytes are, and the parts of them.
use Rattle.std.specs.Prelude.{◌≡◌, Bool, true, false, not, ◌||◌, List, [], ◌∷◌, ◌++◌, ◌⊎◌, ℕ, ◌+◌, ◌-◌, ◌≤◌, ◌<◌, take, eqb, Float}
use Rattle.std.proofs.Math.Option.{Option, none, some}
use Rattle.std.specs.Float.{binary64}
use Rattle.arithmetic.specs.Value.{finite}
use Rattle.formula.specs.Text.{byte_at}
use Rattle.formula.specs.Path.{path_room}
use Rattle.meaning.specs.Work as Meaning
use Rattle.meaning.specs.Work.{elementary, power, same_question}
use Rattle.machine.specs.Program.{valid}
use Rattle.machine.specs.Machine as Machine
use Rattle.layout.specs.Decode.{code_count, path_number, program_at, raw_program, slot_at}
use Rattle.work.specs.View.{question_of}
use Rattle.work.specs.declared.Outcome.TheVariants as Outcome
use Rattle.instruction.specs.declared.Effect.{Effect}
use Rattle.instruction.specs.declared.Effect.TheVariants.{Jump, Work}
use Rattle.run.specs.declared.Answer.{Answer}

-- ---- the calls

unfoldable pub run_at : List Float → List ℕ → ℕ → ℕ → List Float → Machine.Reply
run_at inputs b room budget regs = Machine.run binary64 inputs (program_at b) (record { room = room; budget = budget; given = none }) regs

unfoldable pub resume_at : List Float → List ℕ → ℕ → ℕ → Option Float → Machine.State → List Float → Machine.Reply
resume_at inputs b room budget given st regs =
    Machine.resume binary64 inputs (program_at b) (record { room = room; budget = budget; given = given }) st regs

-- a call without the check of the bytes is settled where they are a program, or where "1, path slice too short" comes before they matter
abbrev pub Settled : List ℕ → ℕ → Type 0
Settled b room = (valid (program_at b) ≡ true) ⊎ (room < path_room)

-- so with every path slice that is long enough
abbrev pub LongEnough : (ℕ → Type 0) → Type 0
LongEnough C = (room : ℕ) → path_room ≤ room → C room

-- ---- their parts, on the bytes as they stand

unfoldable pub steps_at : List Float → List ℕ → ℕ → ℕ → List Float → List Float → Machine.Reply
steps_at inputs b budget at kept regs = Machine.steps binary64 inputs (raw_program b) budget at kept regs

-- a reply after d more instructions
unfoldable pub after : ℕ → Machine.Reply → Machine.Reply
after d r = record { answer = r.answer; count = d + r.count; state = r.state; registers = r.registers }

-- a call came so far: what is left of its budget, from there on, is the rest of it
pub record Reaches (inputs : List Float) (b : List ℕ) (budget position : ℕ) (kept regs : List Float) (left at : ℕ) (kept' regs' : List Float) : Type 0 where
  pub within : left ≤ budget
  pub rest : after (budget - left) (steps_at inputs b left at kept' regs') ≡ steps_at inputs b budget position kept regs

unfoldable pub unfit_at : List Float → List ℕ → List Float → ℕ → Bool
unfit_at inputs b regs budget = Machine.unfit binary64 inputs (raw_program b) regs budget

unfoldable pub stale_at : List Float → List ℕ → List Float → ℕ → List Float → Option Meaning.Question → Option Float → Bool
stale_at inputs b regs at kept pending given =
    Machine.stale binary64 inputs (raw_program b) (record { position = at; kept = kept; pending = pending }) regs given

-- does the effect put this question?
abbrev pub putting : Meaning.Question → Effect → Bool
putting q (Work (Outcome.Value v)) = false
putting q (Work Outcome.Undefined) = false
putting q (Work (Outcome.Question r)) = same_question binary64 q (question_of r)
putting q (Jump to) = false

-- ---- replies as the code makes them

-- nothing kept or pending
abbrev pub bare : ℕ → Machine.State
bare position = record { position = position; kept = []; pending = none }

-- the record of a Domain is that of an instruction's path
abbrev pub KnownPlace : List ℕ → Answer → Type 0
KnownPlace b a = (k : ℕ) → a ≡ Answer.Domain k → (n : ℕ) × (n < code_count b) × (k ≡ path_number b n)

-- a first question, of whose instruction no other can come: Hill and density begin with a Log
abbrev pub log_opcode : ℕ
log_opcode = 21

abbrev pub single : List ℕ → ℕ → Option Meaning.Question → Bool
single b n none = false
single b n (some (elementary f x)) = not (eqb f 1) || eqb (byte_at b (slot_at n)) log_opcode
single b n (some (power x y)) = true

-- the value supplied is the instruction's result
pub record Results (b : List ℕ) (at : ℕ) (kept : List Float) (pending : Option Meaning.Question) (given : Option Float) (v : Float) : Type 0 where
  pub given_is : given ≡ some v
  pub is_finite : finite v ≡ true
  pub none_kept : kept ≡ []
  pub is_single : single b at pending ≡ true

-- one value more, of nine at most
abbrev pub supplying : List Float → Option Float → List Float
supplying kept none = kept
supplying kept (some x) = take 9 (kept ++ x ∷ [])
