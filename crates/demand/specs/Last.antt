-- Demand 3 for the last reply of a list of calls. Every beginning of a list is a list, so it is demand 3 for every reply.
use Rattle.std.specs.Prelude.{◌≡◌, true, List, [], ◌∷◌, ℕ, ◌≤◌, length, Float}
use Rattle.std.specs.Float.{binary64}
use Rattle.arithmetic.specs.Value.{finite}
use Rattle.formula.specs.Text.{all}
use Rattle.formula.specs.Formula.{Formula}
use Rattle.formula.specs.Names.{Symbol}
use Rattle.formula.specs.Term.{Term, term}
use Rattle.machine.specs.Check.{Context}
use Rattle.machine.specs.Lower.{program}
use Rattle.machine.specs.Machine.{Call, Reply, resume, run}
use Rattle.machine.specs.Compile.{accepted, compile, own_context}
use Rattle.derivative.specs.Records.{Record}
use Rattle.derivative.specs.Derive.{Lengths, derive, derived, generated_context}
use Rattle.layout.specs.Decode.{program_at}
use Rattle.claim.specs.Claim.{Fulfils, History, after, ready, refusal, start}
use Rattle.demand.specs.Listed.{first_call, later_calls}
use Rattle.demand.specs.declared.calls.Call as Code

-- "Take a formula that compiles, or its derivative by a named symbol where one is given": its context and its term
pub data Source : Context → Term → Type 0 where
  compiled : (formula names : List ℕ) (path_length program_length : ℕ) (f : Formula) (symbols : List Symbol)
      → compile formula names path_length program_length ≡ accepted f symbols → Source (own_context symbols) (term f)
  differentiated : (formula names : List ℕ) (s path_length : ℕ) (l : Lengths) (d : Formula) (rs : List Record) (symbols : List Symbol)
      → derive formula names s path_length l ≡ derived d rs symbols → Source (generated_context symbols) (term d)

module _ (C : Context) (inputs : List Float) (t : Term) where
  -- what is known after the run, and after some resumes more
  abbrev pub begun : Call → List Float → History
  begun c regs = after (start regs) c (run binary64 inputs (program C t) c regs)

  abbrev pub resumed : History → List Call → History
  resumed h [] = h
  resumed h (c ∷ cs) = resumed (after h c (resume binary64 inputs (program C t) c h.state h.registers)) cs

  -- what the reply to the last of some resumes owes, the first of which comes after what is known
  abbrev pub LastResume : History → Call → List Call → Reply → Type 0
  LastResume h c [] reply = Fulfils binary64 C inputs t h c reply (refusal h.stage c)
  LastResume h c (d ∷ ds) reply = LastResume (after h c (resume binary64 inputs (program C t) c h.state h.registers)) d ds reply

  -- what the reply to the last call owes, of a run and then resumes
  abbrev pub Last : List Float → Call → List Call → Reply → Type 0
  Last regs c [] reply = Fulfils binary64 C inputs t (start regs) c reply (refusal ready c)
  Last regs c (d ∷ ds) reply = LastResume (begun c regs) d ds reply

  -- "The counts of the whole list add up to at most the instructions that the code holds."
  abbrev pub Within : List Float → Call → List Call → Type 0
  Within regs c cs = (resumed (begun c regs) cs).total ≤ length (program C t).code

-- the bytes are the program of a source, "finite inputs of the declared count and the registers that 01 asks for"
abbrev pub Demand : List Float → List ℕ → ℕ → List Code.Call → List Float → Reply → Type 0
Demand inputs b n calls regs reply =
    (C : Context) (t : Term) → Source C t → program_at b ≡ program C t → length inputs ≡ (program C t).inputs → all finite inputs ≡ true
    → (program C t).registers ≤ length regs
    → Last C inputs t regs (first_call n calls) (later_calls n calls) reply × Within C inputs t regs (first_call n calls) (later_calls n calls)
