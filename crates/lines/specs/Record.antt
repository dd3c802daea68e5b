-- A line of values, and the record that the run of its values gives.
use Rattle.std.specs.Prelude.{◌≡◌, ℕ, ◌≤◌, true, List, take, Float, Result, Ok, Err}
use Rattle.refusals.specs.Refusals.{number_of}
use Rattle.refusals.specs.declared.Refusal.{Refusal}
use Rattle.formula.specs.Values.{values_of}
use Rattle.machine.specs.Program.{Program, valid}
use Rattle.layout.specs.Decode.{input_count, program_at, register_total}
use Rattle.run.specs.Views.{answer_of}
use Rattle.listing.specs.Legs.{Line, bad, line_of, printed, record_text, run_line, value_record}
use Rattle.listing.specs.Totals.{counted, plus}
use Rattle.lines.specs.declared.record.Outcome.{Outcome}
use Rattle.lines.specs.declared.record.Recorded.{Recorded}
use Rattle.lines.specs.declared.sums.Totals.{Totals}
use Rattle.values.specs.Reading.{Reading, Reads}
use Rattle.lines.specs.Text.{Wrote}
use Rattle.lines.specs.Sums.{totals_of, wrapped}

-- bytes that are a program, with as many places for values and registers as it needs
pub record Ready (p : List ℕ) (values regs : ℕ) : Type 0 where
  pub sound : valid (program_at p) ≡ true
  pub registers : register_total p ≤ regs
  pub inputs : input_count p ≤ values

-- the outcome of running these inputs
abbrev pub Runs : List ℕ → List Float → Outcome → Type 0
Runs p inputs o = line_of (answer_of p o.answer) o.count ≡ run_line (program_at p) inputs

-- "A value line that isn't hex digits and commas as said shows `bad` with 3; otherwise a wrong count of values or a value that isn't finite shows 5":
-- the number or the values of each case. More values than the slice has places are a wrong count, which a run shows of any other.
abbrev pub found_line : Program → Result ℕ Refusal → List Float → Line
found_line P (Err refusal) values = bad (number_of refusal)
found_line P (Ok n) values = run_line P (take n values)

-- the outcome of what a line was found to be
abbrev pub Answers : List ℕ → Result ℕ Refusal → List Float → Outcome → Type 0
Answers p found values o = line_of (answer_of p o.answer) o.count ≡ found_line (program_at p) found values

-- a record stands in the output, and the totals have what it adds
pub record Entered (number : ℕ) (l : Line) (t : Totals) (out : List ℕ) (at : ℕ) (out' : List ℕ) (r : Recorded) : Type 0 where
  pub wrote : Wrote out at (printed number l) out' r.end
  pub adds : totals_of r.totals ≡ wrapped (plus (totals_of t) (counted (record_text number l)))

-- the record of a line whose bytes are `seen`
abbrev pub Records : List ℕ → Reading → List Float → ℕ → Totals → List ℕ → ℕ → List ℕ → Recorded → Type 0
Records p s values number t out at out' r =
    (seen : List ℕ) → Reads seen s values → Entered number (value_record (program_at p) (values_of seen)) t out at out' r
