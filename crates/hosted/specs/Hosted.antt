-- A host's calls of the library's functions: a program is made, then come a run and resumes, each with cells, registers, path slice and report as the last call left them.
use Rattle.std.specs.Prelude.{List, [], ◌∷◌, ◌++◌, ℕ, drop, length, take, Float}
use Rattle.std.proofs.Math.Option.{none}
use Rattle.refusals.specs.Numbers.{slice_too_short}
use Rattle.machine.specs.Machine.{Call}
use Rattle.demand.specs.Listed.{first_call, later_calls}
use Rattle.demand.specs.declared.calls.Call as Code
use Rattle.demand.specs.Made.{Made, made, refused, refused_at}
use Rattle.vebrostin.specs.Calls.{Outcome, report_short, resume_outcome, run_outcome, with_room}

-- ---- the program

-- both refuse a short report with 1
abbrev pub asked : List ℕ → Made → Made
asked report X = with_room (report_short report) (refused slice_too_short none) X

-- 0 for a program, else the refusal
abbrev pub made_number : Made → ℕ
made_number (refused n place) = n
made_number (refused_at n k) = n
made_number (made C f) = 0

-- the node that the report has then
abbrev pub made_node : Made → ℕ
made_node (refused n place) = 0
made_node (refused_at n k) = k
made_node (made C f) = 0

-- ---- the calls

-- a call writes to the part of the path slice that it was lent
abbrev pub lent : ℕ → Outcome → List ℕ → Outcome
lent room o path = record { number = o.number; cells = o.cells; registers = o.registers; path = o.path ++ drop room path; report = o.report }

module _ (inputs : List Float) (b : List ℕ) where
  -- `vebrostin_resume`, or `vebrostin_answer` where a value is given
  abbrev pub resumed : Outcome → Call → Outcome
  resumed x c = lent c.room (resume_outcome inputs b c.budget c.given x.registers x.cells (take c.room x.path) x.report) x.path

  abbrev pub hosting : Outcome → List Call → Outcome
  hosting x [] = x
  hosting x (c ∷ cs) = hosting (resumed x c) cs

  -- the number of the last call of the list, and cells, registers, path slice and report after it
  unfoldable pub host_at : List ℕ → List ℕ → List ℕ → List Code.Call → List Float → Outcome
  host_at cells path report calls regs =
      let c = first_call (length path) calls in
      hosting (lent c.room (run_outcome inputs b c.budget regs cells (take c.room path) report) path) (later_calls (length path) calls)
