-- Demand 3: what every list of calls gives, a run from a fresh state and then resumes, each with program, inputs, state and registers as the last call
-- left them.
use Rattle.std.specs.Prelude.{◌≡◌, List, [], ◌∷◌, true, cond, ◌&&◌, ℕ, ◌+◌, ◌≤◌, length, ltb, eqb, Float}
use Rattle.std.proofs.Math.Option.{Option, none, some}
use Rattle.std.specs.Float.{Format, binary64}
use Rattle.refusals.specs.Numbers.{invalid_input, slice_too_short, stale_state}
use Rattle.arithmetic.specs.Value.{finite}
use Rattle.formula.specs.Text.{all}
use Rattle.formula.specs.Formula.{Formula}
use Rattle.formula.specs.Names.{Symbol}
use Rattle.formula.specs.Path.{root, path_room}
use Rattle.formula.specs.Term.{Term, term}
use Rattle.meaning.specs.Reading.{Outcome, domain, question, reading, value}
use Rattle.machine.specs.Check.{Context}
use Rattle.machine.specs.Lower.{program}
use Rattle.machine.specs.Machine.{Answer, Call, Reply, State, asks, fresh, gives, more, outside, refuse, refused, resume, run, spent}
use Rattle.machine.specs.Compile.{accepted, compile, own_context}
use Rattle.derivative.specs.Records.{Record}
use Rattle.derivative.specs.Derive.{Lengths, derive, derived, generated_context}

-- ---- what an outsider knows after some calls

-- from the last answer that was no refusal: code remains and nothing pends, a question pends, or a value or Domain was given
pub data Stage : Type 0 where
  ready waiting over : Stage

abbrev pub stage_after : Answer → Stage
stage_after (gives v) = over
stage_after (asks q) = waiting
stage_after spent = ready
stage_after (outside p) = over
stage_after (refused n) = ready

-- the values supplied so far by calls not refused, the counts' sum, and state and registers as the last call left them
pub record History : Type 0 where
  pub stage : Stage
  pub supplied : List Float
  pub total : ℕ
  pub state : State
  pub registers : List Float

abbrev pub start : List Float → History
start regs = record { stage = ready; supplied = []; total = 0; state = fresh; registers = regs }

-- a call that was not refused
abbrev pub accepted_call : History → Call → Reply → History
accepted_call h c r =
    record {
      stage = stage_after r.answer;
      supplied = more h.supplied c.given;
      total = h.total + r.count;
      state = r.state;
      registers = r.registers;
    }

abbrev pub noted : History → Call → Reply → Answer → History
noted h c r (gives v) = accepted_call h c r
noted h c r (asks q) = accepted_call h c r
noted h c r spent = accepted_call h c r
noted h c r (outside p) = accepted_call h c r
noted h c r (refused n) =
    record { stage = h.stage; supplied = h.supplied; total = h.total + r.count; state = r.state; registers = r.registers }

abbrev pub after : History → Call → Reply → History
after h c r = noted h c r r.answer

-- ---- what one call owes

-- "a call is refused just where 01 gives 1, 5 or 11, never by 10": the number, from the history alone
abbrev pub out_of_turn : Stage → Option Float → Option ℕ
out_of_turn ready none = none
out_of_turn ready (some x) = some stale_state
out_of_turn waiting given = none
out_of_turn over given = some stale_state

abbrev pub refusal : Stage → Call → Option ℕ
refusal s c = cond (ltb c.room path_room) (some slice_too_short) (cond (eqb c.budget 0) (some invalid_input) (out_of_turn s c.given))

-- "that value, Domain at that path, or that next question"
abbrev pub shown : Outcome Float → Answer
shown (value v s) = gives v
shown (domain p) = outside p
shown (question q) = asks q

module _ (F : Format) (C : Context) (inputs : List Float) (t : Term) where
  -- "Any other call answers spent exactly when it completed its whole budget and code remains. Otherwise it gives bit for bit what 01's tree reading of
  -- that formula or derivative gives ... on the inputs and, in order, the values supplied so far by resumes not refused, its own included"
  abbrev pub Fulfils : History → Call → Reply → Option ℕ → Type 0
  Fulfils h c r (some n) = r ≡ refuse n h.state h.registers
  Fulfils h c r none =
      (r.answer
      ≡ cond (eqb r.count c.budget && ltb r.state.position (length (program C t).code)) spent
      (shown (reading F inputs t root (more h.supplied c.given))))
      × (r.count ≤ c.budget)

  -- ---- whole lists

  -- the resumes of a list, after the calls of a history; "The counts of the whole list add up to at most the instructions that the code holds."
  abbrev pub Resumes : History → List Call → Type 0
  Resumes h [] = h.total ≤ length (program C t).code
  Resumes h (c ∷ cs) =
      let r = resume F inputs (program C t) c h.state h.registers in
      Fulfils h c r (refusal h.stage c) × Resumes (after h c r) cs

  -- a run, then resumes
  abbrev pub Calls : List Float → ℕ → ℕ → List Call → Type 0
  Calls regs room budget cs =
      let c : Call = record { room = room; budget = budget; given = none } in
      let r = run F inputs (program C t) c regs in
      Fulfils (start regs) c r (refusal ready c) × Resumes (after (start regs) c r) cs

-- "finite inputs of the declared count and the registers that 01 asks for", and any list of calls
abbrev pub Lists : Format → Context → Term → Type 0
Lists F C t =
    (inputs : List Float) → length inputs ≡ (program C t).inputs → all finite inputs ≡ true
    → (regs : List Float) → (program C t).registers ≤ length regs
    → (room budget : ℕ) (cs : List Call) → Calls F C inputs t regs room budget cs

-- ---- the demand

-- "Take a formula that compiles": the bytes of a formula and a name line, with slices of any length that compile takes
abbrev pub FormulaDemand : Type 0
FormulaDemand =
    (formula names : List ℕ) (path_length program_length : ℕ) (f : Formula) (symbols : List Symbol)
    → compile formula names path_length program_length ≡ accepted f symbols
    → Lists binary64 (own_context symbols) (term f)

-- "or its derivative by a named symbol where one is given"
abbrev pub DerivativeDemand : Type 0
DerivativeDemand =
    (formula names : List ℕ) (s path_length : ℕ) (l : Lengths) (d : Formula) (rs : List Record) (symbols : List Symbol)
    → derive formula names s path_length l ≡ derived d rs symbols
    → Lists binary64 (generated_context symbols) (term d)

abbrev pub Demand3 : Type 0
Demand3 = FormulaDemand × DerivativeDemand
