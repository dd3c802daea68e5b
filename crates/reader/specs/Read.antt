-- What the readers answer, in the words of the formula's definitions.
use Rattle.std.specs.Prelude.{List, Bool, true, false, ℕ, ◌+◌, ◌*◌, leb, Result, Ok, Err, Some, None}
use Rattle.std.specs.Prelude as Std
use Rattle.std.proofs.Math.Option.{Option, none, some}
use Rattle.formula.specs.Formula.{Formula, size, depth, within}
use Rattle.formula.specs.Node.{node_size, tree_at}
use Rattle.formula.specs.Node as Node
use Rattle.formula.specs.Transfer.{Transfer, whole, ended_early, wrong_field, left_over}
use Rattle.reader.specs.declared.Fields.{Fields}
use Rattle.reader.specs.declared.Malformed.{Malformed}
use Rattle.reader.specs.declared.Malformed.TheVariants.{EndedEarly, WrongField, LeftOver}
use Rattle.refusals.specs.declared.Refusal.{Refusal}
use Rattle.refusals.specs.declared.Refusal.TheVariants as Refusals

abbrev pub is_some : {A : Type 0} → Option A → Bool
is_some none = false
is_some (some a) = true

-- the fields that a node's bytes hold
abbrev pub written : Fields → Node.Fields
written f = record { kind = f.kind; operator = f.operator; children = f.children; symbol_number = f.symbol; value = f.value }

-- a formula without its tree, or the fault
abbrev pub told : Transfer → Result Unit Malformed
told (whole f) = Ok tt
told (ended_early k) = Err (EndedEarly k)
told (wrong_field k) = Err (WrongField k)
told (left_over k) = Err (LeftOver k)

-- the refusal of bytes that are malformed
abbrev pub refused : Malformed → Refusal
refused (EndedEarly k) = Refusals.EndedEarly k
refused (WrongField k) = Refusals.WrongField k
refused (LeftOver k) = Refusals.LeftOver k

abbrev pub when : Bool → ℕ → Std.Option ℕ
when true end = Some end
when false end = None

-- the byte after the tree at a byte, where its depth is within the limit
unfoldable pub end_at : List ℕ → ℕ → ℕ → Std.Option ℕ
end_at b at levels = when (leb (depth (tree_at b at)) levels) (at + node_size * size (tree_at b at))

-- "At most 256 nodes at depth 32 (root is 1); a derivative, 16,384 at depth 128."
abbrev pub limited : ℕ → ℕ → Option Formula → Bool
limited nodes levels none = false
limited nodes levels (some f) = within nodes levels f
