-- A whole listing, put together from what `start`, `advance` and `finish` wrote.
use Rattle.std.specs.Prelude.{Option, Some, None, ◌≡◌, List, ◌++◌, ℕ, ◌+◌, ◌≤◌, ◌<◌, length}
use Rattle.std.proofs.Math.Option as Math
use Rattle.listing.specs.Legs.{legs}
use Rattle.lines.specs.declared.Stage.{Stage}
use Rattle.lines.specs.Text.{Wrote}
use Rattle.lines.specs.Owed.{Advances, Memory, Owed}
use Rattle.legs_cases.specs.declared.Fed.{Fed}

-- all of a text stands in the slice from a place on
pub record Fits (all : List ℕ) (from : ℕ) (text all' : List ℕ) (end : ℕ) : Type 0 where
  pub wrote : Wrote all from text all' end
  pub room : end ≤ length all

-- a text is longer than the slice has places from there on; some beginning of it stands there, and all else is as it was
pub record TooLong (all : List ℕ) (from : ℕ) (text all' : List ℕ) : Type 0 where
  pub longer : length all < from + length text
  pub first : List ℕ
  pub rest : List ℕ
  pub parts : text ≡ first ++ rest
  pub wrote : Wrote all from first all' (from + length first)

abbrev pub Copies : List ℕ → ℕ → List ℕ → Option ℕ → List ℕ → Type 0
Copies all at text (Some m) all' = Fits all at text all' m
Copies all at text None all' = (all' ≡ all) × (length all < at + length text)

-- what came of all of the input stands in the whole output from a place on; or what is owed for it is too long
abbrev pub FeedsAll : List ℕ → Memory → Stage → List ℕ → Memory → List ℕ → ℕ → Option Fed → List ℕ → Type 0
FeedsAll formula m s input m' all from (Some f) all' = (text : List ℕ) × Advances formula m s input m' f.stage text × Fits all from text all' f.length
FeedsAll formula m s input m' all from None all' = (g : List ℕ → List ℕ) → Owed formula m s g → TooLong all from (g input) all'

-- the whole output is the definition's, just where it fits
abbrev pub Lists : Math.Option (List ℕ) → List ℕ → List ℕ → Option ℕ → List ℕ → Type 0
Lists file input all (Some n) all' = Fits all 0 (legs file input) all' n
Lists file input all None all' = TooLong all 0 (legs file input) all'
