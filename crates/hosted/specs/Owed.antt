-- What a host is owed: demand 3 by the number and the cells of the last call. Every beginning of a list is a list, so each call of it owes this.
use Rattle.std.specs.Prelude.{◌≡◌, true, false, List, ℕ, ◌≤◌, ◌<◌, drop, get_or, length, take, Float}
use Rattle.refusals.specs.Numbers.{slice_too_short}
use Rattle.arithmetic.specs.Value.{finite}
use Rattle.formula.specs.Text.{all}
use Rattle.formula.specs.Path.{placed}
use Rattle.formula.specs.Term.{term}
use Rattle.machine.specs.Lower.{register_count}
use Rattle.machine.specs.Machine.{Reply}
use Rattle.demand.specs.Listed.{Played, first_call, later_calls, play_at}
use Rattle.demand.specs.declared.calls.Call as Code
use Rattle.demand.specs.Last.{Last, Within}
use Rattle.demand.specs.Made.{Made, made, place_of, refused, refused_at}
use Rattle.vebrostin.specs.Cells.{number_of, question_cells, question_of, state_in, value_cell}
use Rattle.vebrostin.specs.Calls.{Leaves, is_refused, reported}
use Rattle.hosted.specs.Hosted.{host_at, made_number}

-- a reply as a host has it: its number, and in the cells the state that the next call reads; unless the call was refused, also the value's bits, the
-- question and the count
pub record Shows (r : Reply) (number : ℕ) (cells : List ℕ) : Type 0 where
  pub number_shown : number ≡ number_of r.answer
  pub state_shown : state_in cells ≡ r.state
  pub value_shown : is_refused r.answer ≡ false → get_or cells 15 0 ≡ value_cell r.answer
  pub question_shown : is_refused r.answer ≡ false → take 3 (drop 11 cells) ≡ question_cells (question_of r.answer)
  pub count_shown : is_refused r.answer ≡ false → get_or cells 14 0 ≡ r.count

-- a reply of the machine, with registers and path slice after it, as a host has it
pub record Follows (x : Played) (number : ℕ) (cells : List ℕ) (regs : List Float) (path : List ℕ) : Type 0 where
  pub shows : Shows x.reply number cells
  pub registers_are : regs ≡ x.reply.registers
  pub path_is : path ≡ x.path

-- the number that the making of a program answers, and the path slice after it
abbrev pub Makes : Made → ℕ → List ℕ → List ℕ → Type 0
Makes X number path path' = (number ≡ made_number X) × (path' ≡ placed (place_of X) path)

-- A refusal of compile or derive, which with a short report is 1: its number, its place or its node, and registers and cells as they were. Else number, cells,
-- registers, path slice and report are those of the definitions of the library's functions. With fewer than sixteen cells that is 1, and no call writes. With sixteen it is
-- the machine's last reply; and "finite inputs of the declared count and the registers that 01 asks for" given, that reply owes what the tree reading gives, and
-- the counts add up to at most the instructions that the code holds.
abbrev pub Owes : Made → List ℕ → List Float → List Code.Call → List Float → List Float → List ℕ → List ℕ → List ℕ → List ℕ → List ℕ → List ℕ → ℕ → Type 0
Owes (refused n place) program inputs calls regs regs' path path' cells cells' report report' number =
    (number ≡ n) × (path' ≡ placed place path) × (regs' ≡ regs) × (cells' ≡ cells) × (report' ≡ reported 0 report)
Owes (refused_at n k) program inputs calls regs regs' path path' cells cells' report report' number =
    (number ≡ n) × (path' ≡ path) × (regs' ≡ regs) × (cells' ≡ cells) × (report' ≡ reported k report)
Owes (made C f) program inputs calls regs regs' path path' cells cells' report report' number =
    let last = play_at inputs program path calls regs in
    let told = reported 0 report in
    Leaves (host_at inputs program cells path told calls regs) number cells' regs' path' report'
    × (length cells < 16 → (number ≡ slice_too_short) × (cells' ≡ cells) × (regs' ≡ regs) × (path' ≡ path) × (report' ≡ told))
    × (16 ≤ length cells → Follows last number cells' regs' path'
    × (length inputs ≡ length C.symbols → all finite inputs ≡ true → register_count (term f) ≤ length regs
    → Last C inputs (term f) regs (first_call (length path) calls) (later_calls (length path) calls) last.reply
    × Within C inputs (term f) regs (first_call (length path) calls) (later_calls (length path) calls)))
