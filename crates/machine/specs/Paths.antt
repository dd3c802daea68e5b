-- How deep the paths of a term go.
use Rattle.std.specs.Prelude.{ℕ, suc, max}
use Rattle.formula.specs.Term.{Term, Terms, ◌and◌, apply, branch, end, literal, miscounted, symbol, truth}

-- the steps of the longest path
abbrev mutual
  pub longest_path : Term → ℕ
  longest_path (literal b) = 0
  longest_path (truth b) = 0
  longest_path (symbol i) = 0
  longest_path (apply o ts) = longest_paths ts
  longest_path (branch c y e) = suc (max (longest_path c) (max (longest_path y) (longest_path e)))
  longest_path miscounted = 0

  pub longest_paths : Terms → ℕ
  longest_paths end = 0
  longest_paths (t and ts) = max (suc (longest_path t)) (longest_paths ts)
