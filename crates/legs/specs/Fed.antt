-- What the functions of `legs` ask of the memory that they are lent, and what comes of the input that they hand on.
use Rattle.std.specs.Prelude.{Result, Ok, Err, List, ℕ, ◌≤◌, length}
use Rattle.lines.specs.declared.Stage.{Stage}
use Rattle.lines.specs.Owed.{Advances, Memory, Roomy, Stands, output_room}
use Rattle.legs.specs.declared.Stop.{Stop}
use Rattle.legs.specs.declared.Stop.TheVariants.{Closed, TooLong}

-- ---- what is asked

-- the arrays of `main`
pub record Lent (block : List ℕ) (m : Memory) (out : List ℕ) : Type 0 where
  pub roomy : Roomy m
  pub room : output_room ≤ length out
  pub some : 1 ≤ length block

-- the same with a stage that stands
pub record FeedableAll (formula block : List ℕ) (m : Memory) (s : Stage) (out : List ℕ) : Type 0 where
  pub stands : Stands formula m s
  pub room : output_room ≤ length out
  pub some : 1 ≤ length block

-- ---- what comes of it

-- All of a block was used, in parts, and some text came of it. Otherwise a write failed; what it wrote no contract can say.
abbrev pub Feeds : List ℕ → Memory → Stage → List ℕ → Memory → Result Stage Stop → Type 0
Feeds formula m s input m' (Ok s') = (text : List ℕ) × Advances formula m s input m' s' text
Feeds formula m s input m' (Err Closed) = Unit {0}
Feeds formula m s input m' (Err TooLong) = ⊥

-- The same of all blocks that were read. What was read no contract can say either.
abbrev pub FeedsAll : List ℕ → Memory → Stage → Memory → Result Stage Stop → Type 0
FeedsAll formula m s m' (Ok s') = (input text : List ℕ) × Advances formula m s input m' s' text
FeedsAll formula m s m' (Err Closed) = Unit {0}
FeedsAll formula m s m' (Err TooLong) = Unit {0}
