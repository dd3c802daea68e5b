-- A list of calls, a run and then resumes, and the machine's replies to it.
use Rattle.std.specs.Prelude.{List, [], ◌∷◌, ◌++◌, ℕ, map, min, drop, length, take, Float}
use Rattle.std.proofs.Math.Option.{none}
use Rattle.std.specs.Float.{binary64}
use Rattle.formula.specs.Path.{placed}
use Rattle.machine.specs.Program.{Program}
use Rattle.machine.specs.Machine.{Reply, place_of, resume, run}
use Rattle.machine.specs.Machine as Machine
use Rattle.layout.specs.Decode.{program_at}
use Rattle.run.specs.Views.{supplied_of}
use Rattle.demand.specs.declared.calls.Call.{Call}

-- "Each call has any budget and path slice": so many bytes of the n that the path slice has, or all
abbrev pub call_of : ℕ → Call → Machine.Call
call_of n c = record { room = min c.room n; budget = c.budget; given = supplied_of c.supplied }

-- the run; of a list without a call, one with no room and no budget
abbrev pub first_call : ℕ → List Call → Machine.Call
first_call n [] = record { room = 0; budget = 0; given = none }
first_call n (c ∷ cs) = record { room = min c.room n; budget = c.budget; given = none }

-- the resumes after it
abbrev pub later_calls : ℕ → List Call → List Machine.Call
later_calls n [] = []
later_calls n (c ∷ cs) = map (call_of n) cs

-- a reply and the path slice after it
pub record Played : Type 0 where
  pub reply : Reply
  pub path : List ℕ

-- a call writes to the part that it was lent
abbrev pub noted : ℕ → Reply → List ℕ → Played
noted room r path = record { reply = r; path = placed (place_of r.answer) (take room path) ++ drop room path }

-- each resume takes the state and the registers of the reply before
abbrev pub playing : List Float → Program → Played → List Machine.Call → Played
playing inputs P x [] = x
playing inputs P x (c ∷ cs) = playing inputs P (noted c.room (resume binary64 inputs P c x.reply.state x.reply.registers) x.path) cs

-- the last reply of the list, and the path slice after it
unfoldable pub play_at : List Float → List ℕ → List ℕ → List Call → List Float → Played
play_at inputs b path calls regs =
    let c = first_call (length path) calls in
    playing inputs (program_at b) (noted c.room (run binary64 inputs (program_at b) c regs) path) (later_calls (length path) calls)
