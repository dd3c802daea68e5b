-- What document 01 says of every call besides its answer, whatever the program, the inputs, the state and the registers: that it goes on, that it keeps
-- to its budget, and the state that it leaves. A call is a resume; a run is one from the fresh state, without a value.
use Rattle.std.specs.Prelude.{◌≡◌, List, [], ◌∷◌, ◌++◌, true, ℕ, ◌+◌, ◌≤◌, ◌<◌, length, Float}
use Rattle.std.proofs.Math.Option.{Option, none, some}
use Rattle.std.proofs.Math.ListN.{get_elem?}
use Rattle.std.specs.Float.{Format}
use Rattle.formula.specs.Path.{Path}
use Rattle.meaning.specs.Work.{Question, same_question}
use Rattle.machine.specs.Program.{Instruction, Program, instruction}
use Rattle.machine.specs.Machine.{Answer, Effect, Reply, State, asks, effect, ended, fails, gives, goes, more, outside, refuse, refused, spent, wants}

module _ (F : Format) (inputs : List Float) (P : Program) where
  -- what the instruction at a place does, with these values kept for it; none where no instruction is
  abbrev pub effect_of : Option Instruction → ℕ → List Float → List Float → Option Effect
  effect_of none at kept regs = none
  effect_of (some (instruction o d p)) at kept regs = some (effect F inputs P o d p at kept regs)

  abbrev pub effect_at : ℕ → List Float → List Float → Option Effect
  effect_at at kept regs = effect_of (get_elem? P.code at) at kept regs

  -- a value that is given answers the question that pends, which the instruction puts with what is kept
  abbrev pub Answers : Option Float → State → List Float → Type 0
  Answers none st regs = Unit {0}
  Answers (some x) st regs =
      (q : Question) × (q' : Question) × (st.pending ≡ some q) × (effect_at st.position st.kept regs ≡ some (wants q')) × (same_question F q q' ≡ true)

  -- "A call completes an instruction or consumes a supplied value, unless it is refused, or the instruction at which it starts is Domain or asks and no
  -- value was given." A value that is not refused is taken by that instruction: it is completed with the value, is Domain with it, or puts its next
  -- question and keeps it.
  pub data Progress (given : Option Float) (st : State) (regs : List Float) (r : Reply) : Type 0 where
    completes : (to : ℕ) (regs' : List Float) → Answers given st regs → effect_at st.position (more st.kept given) regs ≡ some (goes to regs') → 0 < r.count
        → Progress given st regs r
    consumes : (x : Float) (q : Question) → given ≡ some x → Answers given st regs → r.answer ≡ asks q
        → r.state ≡ record { position = st.position; kept = st.kept ++ x ∷ []; pending = some q } → Progress given st regs r
    is_refused : (n : ℕ) → r ≡ refuse n st regs → Progress given st regs r
    is_domain : (p : Path) → Answers given st regs → effect_at st.position (more st.kept given) regs ≡ some (fails p) → r.answer ≡ outside p
        → Progress given st regs r
    only_asks : (q : Question) → given ≡ none → effect_at st.position st.kept regs ≡ some (wants q) → r.answer ≡ asks q → Progress given st regs r

  -- the state after an answer: "After a value or 9 the position is the code's end." Then, and after spent, nothing is kept and nothing pends.
  abbrev pub Leaves : State → Answer → State → Type 0
  Leaves before (gives v) st = st ≡ ended F inputs P
  Leaves before (asks q) st = st.pending ≡ some q
  Leaves before spent st = (st.kept ≡ []) × (st.pending ≡ none)
  Leaves before (outside p) st = st ≡ ended F inputs P
  Leaves before (refused n) st = st ≡ before

  -- all of it, of the reply to a call with a budget and perhaps a value, made at a state with registers
  pub record Lawful (budget : ℕ) (given : Option Float) (st : State) (regs : List Float) (r : Reply) : Type 0 where
    pub progress : Progress given st regs r
    -- "No call completes more instructions than its budget."
    pub within : r.count ≤ budget
    -- "Spent means that the whole budget was completed and code remains"
    pub spends : r.answer ≡ spent → (r.count ≡ budget) × (r.state.position < length P.code)
    -- every jump goes forward, so a budget of what is left of the code is never spent
    pub enough : length P.code ≤ st.position + budget → r.answer ≡ spent → ⊥
    pub leaves : Leaves st r.answer r.state
