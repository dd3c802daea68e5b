-- What each answer about a formula file says, in words about formulas: which beginnings of its bytes are formulas, and which can become one.
use Rattle.std.specs.Prelude.{◌≡◌, List, [], ◌++◌, ℕ, suc, ◌*◌, ◌/◌, ◌≤◌, ◌<◌, length, take}
use Rattle.std.proofs.Math.Option.{none, some}
use Rattle.formula.specs.Formula.{Formula}
use Rattle.formula.specs.Node.{formula_of, node_size}
use Rattle.formula.specs.Transfer.{Transfer, whole, ended_early, wrong_field, left_over}

abbrev pub IsFormula : List ℕ → Type 0
IsFormula b = (f : Formula) × (formula_of b ≡ some f)

-- followed by some others, one at least, they are a formula
abbrev pub Unfinished : List ℕ → Type 0
Unfinished b = (more : List ℕ) × (more ≡ [] → ⊥) × IsFormula (b ++ more)

-- they are none, and are none with any others after them
abbrev pub Spoilt : List ℕ → Type 0
Spoilt b = (more : List ℕ) → formula_of (b ++ more) ≡ none

-- the first so many nodes
abbrev pub nodes : ℕ → List ℕ → List ℕ
nodes k b = take (node_size * k) b

abbrev pub Says : List ℕ → Transfer → Type 0
Says b (whole f) = formula_of b ≡ some f
Says b (left_over k) = IsFormula (nodes k b) × (node_size * k < length b)
Says b (ended_early k) = (k ≡ length b / 16) × Unfinished (nodes k b)
Says b (wrong_field k) = (node_size * suc k ≤ length b) × Unfinished (nodes k b) × Spoilt (nodes (suc k) b)
