-- Compile (reference `compile_prepared`, limit 256, not generated): its refusals in order, and what each slice then holds.
use Rattle.std.specs.Prelude.{List, ◌++◌, false, cond, ◌||◌, ℕ, ◌+◌, ◌-◌, ◌*◌, ◌/◌, length, ltb}
use Rattle.std.proofs.Math.Option.{Option, none, some}
use Rattle.refusals.specs.Numbers.{ended_early, expression_limit, invalid_input, left_over, malformed_line, slice_too_short, wrong_field}
use Rattle.formula.specs.Text.{zeros}
use Rattle.formula.specs.Formula.{Formula, formula_limit}
use Rattle.formula.specs.Node.{node_size}
use Rattle.formula.specs.Transfer.{Transfer, transfer_of}
use Rattle.formula.specs.Names.{Symbol, symbols_of, kinds}
use Rattle.formula.specs.Path.{Path, root, path_room, placed}
use Rattle.formula.specs.Term.{term}
use Rattle.machine.specs.Check.{Context, Fault, fault}

-- "Its slice needs 240 bytes for each 16 bytes of formula, a last part counted as 16"
abbrev pub node_room : ℕ
node_room = 240

abbrev pub program_room : ℕ → ℕ
program_room formula_bytes = node_room * ((formula_bytes + (node_size - 1)) / node_size)

abbrev pub own_context : List Symbol → Context
own_context symbols = record { symbols = kinds symbols; generated = false }

-- a refusal with its number and its place; one with its number and its node, from 0; or a formula that compiles over the symbols
pub data Compiled : Type 0 where
  refused : ℕ → Option Path → Compiled
  refused_at : ℕ → ℕ → Compiled
  accepted : Formula → List Symbol → Compiled

abbrev pub lowered_or : Formula → List Symbol → Option Fault → Compiled
lowered_or f symbols none = accepted f symbols
lowered_or f symbols (some x) = refused x.number (some x.place)

-- "4 `ExpressionLimit` at `root`; then the first fault in `lower`'s order"
abbrev pub sized : Formula → List Symbol → Compiled
sized f symbols = cond (formula_limit f) (lowered_or f symbols (fault (own_context symbols) (term f) root)) (refused expression_limit (some root))

-- "2, formula bytes not as above (size and depth apart)", of which "2 now means a wrong field; new 12, ended early, and 13, bytes left over, both in
-- 2's place"; "3, name line not as above"; and what comes after these
abbrev pub read : (Formula → List Symbol → Compiled) → Transfer → Option (List Symbol) → Compiled
read after (Transfer.ended_early k) symbols = refused_at ended_early k
read after (Transfer.wrong_field k) symbols = refused_at wrong_field k
read after (Transfer.left_over k) symbols = refused_at left_over k
read after (Transfer.whole f) none = refused malformed_line none
read after (Transfer.whole f) (some symbols) = after f symbols

-- of formula bytes and a name line, with slices of these lengths: "1, path slice or program slice too short", then 2 and 3
abbrev pub prepared : (Formula → List Symbol → Compiled) → List ℕ → List ℕ → ℕ → ℕ → Compiled
prepared after formula names path_length program_length =
    cond (ltb path_length path_room || ltb program_length (program_room (length formula))) (refused slice_too_short none)
    (read after (transfer_of formula) (symbols_of names))

unfoldable pub compile : List ℕ → List ℕ → ℕ → ℕ → Compiled
compile formula names path_length program_length = prepared sized formula names path_length program_length

-- ---- what the slices hold after

abbrev pub place_of : Compiled → Option Path
place_of (refused n place) = place
place_of (refused_at n k) = none
place_of (accepted f symbols) = none

abbrev pub path_after : Compiled → List ℕ → List ℕ
path_after c slice = placed (place_of c) slice

-- "After a program its slice is zero."
abbrev pub filled : List ℕ → List ℕ → List ℕ
filled image slice = image ++ zeros (length slice - length image)

-- "Refusals 1 to 4 change no program byte; 5 to 9 leave the slice all zero." One with a node changes none, as 2 did. The layout gives the bytes of a
-- program.
abbrev pub program_after : (Context → Formula → List ℕ) → Compiled → List ℕ → List ℕ
program_after layout (refused n place) slice = cond (ltb n invalid_input) slice (zeros (length slice))
program_after layout (refused_at n k) slice = slice
program_after layout (accepted f symbols) slice = filled (layout (own_context symbols) f) slice
