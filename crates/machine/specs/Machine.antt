-- Run and resume: budget, count, run state, registers and every refusal.
use Rattle.std.specs.Prelude.{List, [], ◌∷◌, ◌++◌, Bool, true, false, not, cond, ◌&&◌, ℕ, zero, suc, length, get_or, set, leb, ltb, eqb, Float}
use Rattle.std.proofs.Math.Option.{Option, none, some}
use Rattle.std.proofs.Math.ListN.{get_elem?}
use Rattle.std.specs.Float.{Format}
use Rattle.refusals.specs.Numbers.{invalid_input, no_program, outside_domain, slice_too_short, stale_state}
use Rattle.arithmetic.specs.Value.{finite, is_zero, 0f}
use Rattle.formula.specs.Text.{all}
use Rattle.formula.specs.Path.{Path, root, path_room}
use Rattle.meaning.specs.Work.{Interaction, Question, advance, ask, give, same_question, undefined, work}
use Rattle.machine.specs.Program.{Instruction, Op, Program, constant, copy, instruction, jump, jump_if_false, load, perform, valid}

-- ---- one instruction

-- what an instruction does: go on at a place with these registers, Domain, or a question
pub data Effect : Type 0 where
  goes : ℕ → List Float → Effect
  fails : Path → Effect
  wants : Question → Effect

abbrev pub read_all : List Float → List ℕ → List Float
read_all regs [] = []
read_all regs (i ∷ is) = get_or regs i 0f ∷ read_all regs is

abbrev pub stored : Path → ℕ → ℕ → List Float → Float → Effect
stored p at d regs v = cond (finite v) (goes (suc at) (set regs d v)) (fails p)

abbrev pub worked : Path → ℕ → ℕ → List Float → Interaction → Effect
worked p at d regs (give v) = stored p at d regs v
worked p at d regs undefined = fails p
worked p at d regs (ask q k) = wants q

-- ---- calls

-- "Run state: made by the run, read by the next call": position, the values kept for a half-done Hill or density, and what pends
pub record State : Type 0 where
  pub position : ℕ
  pub kept : List Float
  pub pending : Option Question

-- "A fresh state is at the first instruction, nothing kept or pending"
abbrev pub fresh : State
fresh = record { position = 0; kept = []; pending = none }

-- "Otherwise: a value, a question, spent, or 9 at the instruction's path"; `outside` is that 9, `refused` any other refusal
pub data Answer : Type 0 where
  gives : Float → Answer
  asks : Question → Answer
  spent : Answer
  outside : Path → Answer
  refused : ℕ → Answer

-- the number of an answer that is a refusal
abbrev pub number_of : Answer → Option ℕ
number_of (gives v) = none
number_of (asks q) = none
number_of spent = none
number_of (outside p) = some outside_domain
number_of (refused n) = some n

-- the place of a refusal: 9 has the instruction's, 5 has `root`, "Refusals 1, 2, 3, 10 and 11 have no place."
abbrev pub place_of : Answer → Option Path
place_of (gives v) = none
place_of (asks q) = none
place_of spent = none
place_of (outside p) = some p
place_of (refused n) = cond (eqb n invalid_input) (some root) none

pub record Reply : Type 0 where
  pub answer : Answer
  pub count : ℕ
  pub state : State
  pub registers : List Float

-- what a call brings besides program, inputs, state and registers: the path slice's length, the budget, a value or none
pub record Call : Type 0 where
  pub room : ℕ
  pub budget : ℕ
  pub given : Option Float

-- "These change no register and hand the state back unaltered."
abbrev pub refuse : ℕ → State → List Float → Reply
refuse n st regs = record { answer = refused n; count = 0; state = st; registers = regs }

-- the values supplied, and one more
abbrev pub more : List Float → Option Float → List Float
more s none = s
more s (some x) = s ++ x ∷ []

module _ (F : Format) (inputs : List Float) (P : Program) where
  -- the instruction at a place, with the values kept for it
  abbrev pub effect : Op → ℕ → Path → ℕ → List Float → List Float → Effect
  effect (constant v) d p at kept regs = stored p at d regs v
  effect (load i) d p at kept regs = stored p at d regs (get_or inputs i 0f)
  effect (perform o is) d p at kept regs = worked p at d regs (advance (work F o (read_all regs is)) kept)
  effect (copy i) d p at kept regs = stored p at d regs (get_or regs i 0f)
  effect (jump_if_false i t) d p at kept regs = goes (cond (is_zero (get_or regs i 0f)) t (suc at)) regs
  effect (jump t) d p at kept regs = goes t regs

  -- "After a value or 9 the position is the code's end."
  abbrev pub ended : State
  ended = record { position = length P.code; kept = []; pending = none }

  abbrev pub counted : Reply → Reply
  counted r = record { answer = r.answer; count = suc r.count; state = r.state; registers = r.registers }

  abbrev pub finished : List Float → Reply
  finished regs = record { answer = gives (get_or regs P.result 0f); count = 0; state = ended; registers = regs }

  -- no budget is left: "Spent means that the whole budget was completed and code remains, also where the next instruction would ask or be Domain; a
  -- run that ends just then gives its value."
  abbrev pub out_of_budget : ℕ → List Float → List Float → Option Instruction → Reply
  out_of_budget at kept regs none = finished regs
  out_of_budget at kept regs (some i) =
      record { answer = spent; count = 0; state = record { position = at; kept = kept; pending = none }; registers = regs }

  abbrev pub followed : (ℕ → List Float → Reply) → ℕ → List Float → List Float → Effect → Reply
  followed rest at kept regs (goes to regs') = counted (rest to regs')
  followed rest at kept regs (fails p) = record { answer = outside p; count = 0; state = ended; registers = regs }
  followed rest at kept regs (wants q) =
      record { answer = asks q; count = 0; state = record { position = at; kept = kept; pending = some q }; registers = regs }

  abbrev pub next : (ℕ → List Float → Reply) → ℕ → List Float → List Float → Option Instruction → Reply
  next rest at kept regs none = finished regs
  next rest at kept regs (some (instruction o d p)) = followed rest at kept regs (effect o d p at kept regs)

  -- at most that many instructions from a place on: the code's end is looked at first, then the budget, then the instruction
  abbrev pub steps : ℕ → ℕ → List Float → List Float → Reply
  steps zero at kept regs = out_of_budget at kept regs (get_elem? P.code at)
  steps (suc budget) at kept regs = next (λ to regs'. steps budget to [] regs') at kept regs (get_elem? P.code at)

  -- "5 at `root`, input count wrong, too few registers, an input not finite, or budget 0"
  abbrev pub unfit : List Float → ℕ → Bool
  unfit regs budget =
      not (eqb (length inputs) P.inputs && leb P.registers (length regs) && all finite inputs && not (eqb budget 0))

  abbrev pub puts : Question → Effect → Bool
  puts q (goes to regs) = false
  puts q (fails p) = false
  puts q (wants q') = same_question F q q'

  -- "11 (resume), position not at an instruction, a pending question that this instruction, with these registers and kept values, doesn't put, or a
  -- value supplied while no question shown for that instruction is pending"
  abbrev pub stale_at : State → List Float → Option Float → Option Instruction → Option Question → Bool
  stale_at st regs given none pending = true
  stale_at st regs none (some (instruction o d p)) none = false
  stale_at st regs (some x) (some (instruction o d p)) none = true
  stale_at st regs given (some (instruction o d p)) (some q) = not (puts q (effect o d p st.position st.kept regs))

  abbrev pub stale : State → List Float → Option Float → Bool
  stale st regs given = stale_at st regs given (get_elem? P.code st.position) st.pending

  -- "In order: 1, path slice too short; 10, not a program; 5; 11 (resume)."
  abbrev pub checked : Call → State → List Float → Reply → Reply
  checked c st regs r =
      cond (ltb c.room path_room) (refuse slice_too_short st regs)
      (cond (not (valid P)) (refuse no_program st regs) (cond (unfit regs c.budget) (refuse invalid_input st regs) r))

  abbrev pub run : Call → List Float → Reply
  run c regs = checked c fresh regs (steps c.budget 0 [] regs)

  abbrev pub resume : Call → State → List Float → Reply
  resume c st regs =
      checked c st regs
      (cond (stale st regs c.given) (refuse stale_state st regs) (steps c.budget st.position (more st.kept c.given) regs))
