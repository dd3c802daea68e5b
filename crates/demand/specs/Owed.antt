-- What compile or derive and a list of calls after it owe.
use Rattle.std.specs.Prelude.{◌≡◌, true, List, ℕ, ◌≤◌, length, Float, Option, Some, None, Result, Ok, Err}
use Rattle.refusals.specs.Refusals.{node_of, number_of}
use Rattle.refusals.specs.declared.Refusal.{Refusal}
use Rattle.arithmetic.specs.Value.{finite}
use Rattle.formula.specs.Text.{all}
use Rattle.formula.specs.Path.{placed}
use Rattle.formula.specs.Term.{term}
use Rattle.machine.specs.Lower.{register_count}
use Rattle.run.specs.Views.{reply_of}
use Rattle.run.specs.declared.Reply as Declared
use Rattle.demand.specs.Listed.{first_call, later_calls, play_at}
use Rattle.demand.specs.declared.calls.Call.{Call}
use Rattle.demand.specs.Last.{Last, Within}
use Rattle.demand.specs.Made.{Made, made, refused, refused_at}

-- a refusal of this number, at this node where it names one
abbrev pub Refuses : Result Declared.Reply Refusal → ℕ → Option ℕ → Type 0
Refuses r n node = (x : Refusal) × (r ≡ Err x) × (number_of x ≡ n) × (node_of x ≡ node)

-- A refusal: its number, its place or its node, and registers as they were; without a place the path slice is as it was too. Else the last reply of the
-- list, with registers and path slice after it, is the machine's; and "finite inputs of the declared count and the registers that 01 asks for" given, it
-- owes what the tree reading gives, and the counts add up to at most the instructions that the code holds. Every beginning of a list is a list, so each
-- reply of it does.
abbrev pub Owes : Made → List ℕ → List Float → List Call → List Float → List Float → List ℕ → List ℕ → Result Declared.Reply Refusal → Type 0
Owes (refused n place) program inputs calls regs regs' path path' r = Refuses r n None × (path' ≡ placed place path) × (regs' ≡ regs)
Owes (refused_at n k) program inputs calls regs regs' path path' r = Refuses r n (Some k) × (path' ≡ path) × (regs' ≡ regs)
Owes (made C f) program inputs calls regs regs' path path' r =
    (reply : Declared.Reply)
    × (r ≡ Ok reply)
    × (reply_of program reply regs' ≡ (play_at inputs program path calls regs).reply)
    × (path' ≡ (play_at inputs program path calls regs).path)
    × (length inputs ≡ length C.symbols → all finite inputs ≡ true → register_count (term f) ≤ length regs
    → Last C inputs (term f) regs (first_call (length path) calls) (later_calls (length path) calls) (reply_of program reply regs')
    × Within C inputs (term f) regs (first_call (length path) calls) (later_calls (length path) calls))
