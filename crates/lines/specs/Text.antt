-- Texts written into the output, and the parts of an output line.
use Rattle.std.specs.Prelude.{◌≡◌, ℕ, ◌+◌, ◌≤◌, List, ◌++◌, length, drop}
use Rattle.writer.specs.Over.{over}
use Rattle.run.specs.Views.{answer_of}
use Rattle.listing.specs.Legs.{Line, comma, line_of}
use Rattle.lines.specs.declared.record.Outcome.{Outcome}

-- a text stands over a part of the slice, whose other bytes are as they were; the end is given
pub record Wrote (out : List ℕ) (at : ℕ) (xs out' : List ℕ) (end : ℕ) : Type 0 where
  pub ends : end ≡ at + length xs
  pub stands : out' ≡ over out at xs

-- some text stands there, and what follows it is as it was
pub record WroteSome (out : List ℕ) (at : ℕ) (out' : List ℕ) (end : ℕ) : Type 0 where
  pub from : at ≤ end
  pub beyond : drop end out' ≡ drop end out

-- the answer and its detail
abbrev pub shown : Line → List ℕ
shown l = l.answer ++ comma ++ l.detail

-- the instructions that a line shows
abbrev pub StepsOf : Outcome → ℕ → Type 0
StepsOf o r = (b : List ℕ) → (line_of (answer_of b o.answer) o.count).steps ≡ r
