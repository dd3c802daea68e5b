-- Answers, states and replies of the code, as the machine's.
use Rattle.std.specs.Prelude as Code
use Rattle.std.specs.Prelude.{◌≡◌, Some, None, List, [], ℕ, ◌<◌, ◌≤◌, Float}
use Rattle.std.proofs.Math.Option.{Option, none, some}
use Rattle.refusals.specs.Numbers.{outside_domain}
use Rattle.refusals.specs.Refusals.{number_of}
use Rattle.refusals.specs.declared.Refusal.{Refusal}
use Rattle.refusals.specs.declared.Refusal.TheVariants.{InvalidInput}
use Rattle.formula.specs.Optional.{option_by, option_of}
use Rattle.meaning.specs.Work as Meaning
use Rattle.machine.specs.Machine as Machine
use Rattle.machine.specs.Machine.{asks, gives, outside, refused, spent}
use Rattle.layout.specs.Decode.{length_at, path_of, path_total}
use Rattle.work.specs.View.{kept_values, question_of}
use Rattle.work.specs.declared.Question.{Question}
use Rattle.run.specs.declared.State.{State}
use Rattle.run.specs.declared.Answer.{Answer}
use Rattle.run.specs.declared.Reply.{Reply}

abbrev pub pending_of : Code.Option Question → Option Meaning.Question
pending_of o = option_by question_of o

abbrev pub supplied_of : Code.Option Float → Option Float
supplied_of o = option_of o

abbrev pub state_of : State → Machine.State
state_of s = record { position = s.position; kept = kept_values s.kept; pending = pending_of s.pending }

-- "Where an answer is an enum, a definition sets out this paper's number and values for each of its cases": the values
abbrev pub answer_of : List ℕ → Answer → Machine.Answer
answer_of b (Answer.Value v) = gives v
answer_of b (Answer.Question q) = asks (question_of q)
answer_of b Answer.Spent = spent
answer_of b (Answer.Domain k) = outside (path_of b k)
answer_of b (Answer.Refused r) = refused (number_of r)

-- and the number of a refusal: Domain is 9
abbrev pub refusal_number : Answer → Option ℕ
refusal_number (Answer.Value v) = none
refusal_number (Answer.Question q) = none
refusal_number Answer.Spent = none
refusal_number (Answer.Domain k) = some outside_domain
refusal_number (Answer.Refused r) = some (number_of r)

-- a reply, with the registers after it
abbrev pub reply_of : List ℕ → Reply → List Float → Machine.Reply
reply_of b r regs = record { answer = answer_of b r.answer; count = r.count; state = state_of r.state; registers = regs }

-- an answer's place can be written into a slice of so many bytes
abbrev pub Writable : List ℕ → ℕ → Answer → Type 0
Writable b room (Answer.Value v) = Unit {0}
Writable b room (Answer.Question q) = Unit {0}
Writable b room Answer.Spent = Unit {0}
Writable b room (Answer.Domain k) = (k < path_total b) × (length_at b k ≤ room)
Writable b room (Answer.Refused r) = r ≡ InvalidInput → 4 ≤ room

-- "hand the state back unaltered": the very state, bit for bit
abbrev pub HandsBack : State → Reply → Type 0
HandsBack s r = (refusal : Refusal) → r.answer ≡ Answer.Refused refusal → r.state ≡ s
