-- Derive (reference `derivative_prepared`): "Compile's refusals for the formula itself come first, then 7 at `root` if it is Boolean (added), 6 at `root`
-- for a symbol number not in the table, 8 at `root` from the rules, 4 at `root` if the finished tree is too large, 1 if the tree slice, then the program
-- slice, is too short for it." "The list slice holds 8 bytes a node, and one too short is refused 1 as the tree slice is; it is zero or unchanged wherever that
-- is."
use Rattle.std.specs.Prelude.{List, Bool, true, cond, ◌||◌, ℕ, ◌*◌, length, get_or, ltb}
use Rattle.std.proofs.Math.Option.{Option, none, some}
use Rattle.refusals.specs.Numbers.{expression_limit, slice_too_short, unknown_symbol, unsupported, wrong_type}
use Rattle.formula.specs.Operator.{Boolean, same_kind}
use Rattle.formula.specs.Text.{zeros}
use Rattle.formula.specs.Formula.{Formula, size, derivative_limit}
use Rattle.formula.specs.Node.{encode, node_size}
use Rattle.formula.specs.Names.{Symbol, Parameter, kinds, is_state}
use Rattle.formula.specs.Path.{Path, root, placed}
use Rattle.formula.specs.Term.{term}
use Rattle.machine.specs.Check.{Context, kind}
use Rattle.machine.specs.Compile.{Compiled, compile, accepted, program_room, filled}
use Rattle.machine.specs.Compile as Compile
use Rattle.derivative.specs.Differentiate.{derivative}
use Rattle.derivative.specs.Records.{Record, derivative_records, list_bytes, record_size}

-- compile's refusal of the formula itself, with a place or a node; a later one; or the derivative tree and its records
pub data Derived : Type 0 where
  formula_refused : ℕ → Option Path → Derived
  formula_refused_at : ℕ → ℕ → Derived
  refused : ℕ → Option Path → Derived
  derived : Formula → List Record → List Symbol → Derived

abbrev pub generated_context : List Symbol → Context
generated_context symbols = record { symbols = kinds symbols; generated = true }

abbrev pub by_state : List Symbol → ℕ → Bool
by_state symbols s = is_state (get_or (kinds symbols) s Parameter)

-- the bytes that a tree of n nodes takes, and its records
abbrev pub tree_room : ℕ → ℕ
tree_room n = node_size * n

abbrev pub list_room : ℕ → ℕ
list_room n = record_size * n

-- the lengths of the slices for the tree, the list of records and the program
pub record Lengths : Type 0 where
  pub tree : ℕ
  pub list : ℕ
  pub program : ℕ

-- whether one of them is for a tree of n nodes
abbrev pub too_short : Lengths → ℕ → Bool
too_short l n = ltb l.tree (tree_room n) || ltb l.list (list_room n) || ltb l.program (program_room (tree_room n))

abbrev pub fitted : Lengths → List Symbol → List Record → Option Formula → Derived
fitted l symbols rs none = refused unsupported (some root)
fitted l symbols rs (some d) =
    cond (derivative_limit d) (cond (too_short l (size d)) (refused slice_too_short none) (derived d rs symbols)) (refused expression_limit (some root))

abbrev pub continued : Lengths → ℕ → Compiled → Derived
continued l s (Compile.refused n place) = formula_refused n place
continued l s (Compile.refused_at n k) = formula_refused_at n k
continued l s (accepted f symbols) =
    cond (same_kind (kind (term f)) Boolean) (refused wrong_type (some root))
    (cond (ltb s (length symbols))
    (fitted l symbols (derivative_records s (by_state symbols s) f) (derivative s (by_state symbols s) f))
    (refused unknown_symbol (some root)))

-- of formula bytes, a name line and a symbol number, with slices of these lengths
unfoldable pub derive : List ℕ → List ℕ → ℕ → ℕ → Lengths → Derived
derive formula names s path_length l = continued l s (compile formula names path_length l.program)

-- ---- what the slices hold after

abbrev pub place_of : Derived → Option Path
place_of (formula_refused n place) = place
place_of (formula_refused_at n k) = none
place_of (refused n place) = place
place_of (derived d rs symbols) = none

abbrev pub path_after : Derived → List ℕ → List ℕ
path_after o slice = placed (place_of o) slice

-- "Compile's refusals leave the tree slice unchanged; the later ones leave it all zero. On success the tree slice is zero after the tree."
abbrev pub tree_after : Derived → List ℕ → List ℕ
tree_after (formula_refused n place) slice = slice
tree_after (formula_refused_at n k) slice = slice
tree_after (refused n place) slice = zeros (length slice)
tree_after (derived d rs symbols) slice = filled (encode d) slice

-- "it is zero or unchanged wherever that is"
abbrev pub list_after : Derived → List ℕ → List ℕ
list_after (formula_refused n place) slice = slice
list_after (formula_refused_at n k) slice = slice
list_after (refused n place) slice = zeros (length slice)
list_after (derived d rs symbols) slice = filled (list_bytes rs) slice

-- "Every refusal leaves the program slice unchanged."
abbrev pub program_after : (Context → Formula → List ℕ) → Derived → List ℕ → List ℕ
program_after layout (formula_refused n place) slice = slice
program_after layout (formula_refused_at n k) slice = slice
program_after layout (refused n place) slice = slice
program_after layout (derived d rs symbols) slice = filled (layout (generated_context symbols) d) slice
