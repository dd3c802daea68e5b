-- Paths: "Text from `root` with `.arguments[i]`, `.condition`, `.then`, `.else`, as in `lower`."
use Rattle.std.specs.Prelude.{List, ◌++◌, ℕ, ◌-◌, length}
use Rattle.std.proofs.Math.Option.{Option, none, some}
use Rattle.formula.specs.Text.{ascii, decimal, zeros}

pub data Step : Type 0 where
  argument : ℕ → Step
  condition then_arm else_arm : Step

pub data Path : Type 0 where
  root : Path
  ◌▸◌ : Path → Step → Path

infixl 60 ◌▸◌
abbrev pub step_text : Step → List ℕ
step_text (argument i) = ascii ".arguments[" ++ decimal i ++ ascii "]"
step_text condition = ascii ".condition"
step_text then_arm = ascii ".then"
step_text else_arm = ascii ".else"

abbrev pub text : Path → List ℕ
text root = ascii "root"
text (p ▸ s) = text p ++ step_text s

-- "A path slice has 8,192 bytes or more."
abbrev pub path_room : ℕ
path_room = 8192

-- "A refusal with a place writes the text, then zeros to the slice's end. Otherwise it isn't written."
abbrev pub placed : Option Path → List ℕ → List ℕ
placed none slice = slice
placed (some p) slice = text p ++ zeros (length slice - length (text p))
