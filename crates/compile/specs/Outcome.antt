-- What writing a formula's program leaves, by the formula's first fault.
use Rattle.std.specs.Prelude.{◌≡◌, Bool, true, List, ℕ, ◌*◌, ◌≤◌, length, Result, Ok, Err}
use Rattle.std.proofs.Math.Option.{Option, none, some}
use Rattle.formula.specs.Text.{zeros}
use Rattle.formula.specs.Operator.{Boolean, same_kind}
use Rattle.formula.specs.Path.{Path}
use Rattle.formula.specs.Formula.{Formula, size, well_formed}
use Rattle.formula.specs.Node.{tree_in}
use Rattle.formula.specs.Term.{term}
use Rattle.machine.specs.Check.{Context, Fault, kind}
use Rattle.machine.specs.Compile.{filled}
use Rattle.machine.specs.Paths.{longest_path}
use Rattle.layout.specs.Image.{image}
use Rattle.refusals.specs.Refusals.{refusal_of}
use Rattle.refusals.specs.declared.Refusal.{Refusal}

abbrev pub answer_to : Option Fault → Result Unit Refusal
answer_to none = Ok tt
answer_to (some x) = Err (refusal_of x.number)

-- whether the formula is Boolean, where it has no fault
abbrev pub lowered_to : Formula → Option Fault → Result Bool Refusal
lowered_to f none = Ok (same_kind (kind (term f)) Boolean)
lowered_to f (some x) = Err (refusal_of x.number)

abbrev pub fault_place : Option Fault → Option Path
fault_place none = none
fault_place (some x) = some x.place

-- "5 to 9 leave the slice all zero"; "After a program its slice is zero."
abbrev pub slice_after : Context → Formula → Option Fault → List ℕ → List ℕ
slice_after C f none p = filled (image C f) p
slice_after C f (some x) p = zeros (length p)

-- a formula of at most d levels that has room in slices of these lengths
pub record Fits (b : List ℕ) (d program path : ℕ) : Type 0 where
  pub well : well_formed (tree_in d b 0) ≡ true
  pub few : size (tree_in d b 0) ≤ 16384
  pub room : 240 * size (tree_in d b 0) ≤ program
  pub places : 8192 ≤ path
  pub short : 17 * longest_path (term (tree_in d b 0)) ≤ 8188
