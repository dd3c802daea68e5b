-- The formula as it is written: a node is its head and its children.
use Rattle.std.specs.Prelude.{Bool, true, false, ◌&&◌, ◌||◌, List, [], ◌∷◌, ℕ, suc, ◌+◌, max, eqb, leb}
use Rattle.formula.specs.Operator.{Operation, Junction}

pub data Head : Type 0 where
  -- a literal is kept as the bits of its f64
  number : ℕ → Head
  truth : Bool → Head
  symbol : ℕ → Head
  operation : Operation → Head
  junction : Junction → Head
  ifelse : Head
  conditional : Head
  -- bytes that are no node
  malformed : Head

mutual
  pub data Formula : Type 0 where
    node : Head → Formulas → Formula

  pub data Formulas : Type 0 where
    last : Formulas
    next : Formula → Formulas → Formulas

abbrev pub of_list : List Formula → Formulas
of_list [] = last
of_list (t ∷ ts) = next t (of_list ts)

abbrev pub to_list : Formulas → List Formula
to_list last = []
to_list (next t ts) = t ∷ to_list ts

abbrev pub count : Formulas → ℕ
count last = 0
count (next t ts) = suc (count ts)

-- how many nodes
abbrev mutual
  pub size : Formula → ℕ
  size (node h ts) = suc (sizes ts)

  pub sizes : Formulas → ℕ
  sizes last = 0
  sizes (next t ts) = size t + sizes ts

-- how many levels: "root is 1"
abbrev mutual
  pub depth : Formula → ℕ
  depth (node h ts) = suc (depths ts)

  pub depths : Formulas → ℕ
  depths last = 0
  depths (next t ts) = max (depth t) (depths ts)

abbrev pub within : ℕ → ℕ → Formula → Bool
within nodes levels f = leb (size f) nodes && leb (depth f) levels

-- "At most 256 nodes at depth 32 (root is 1); a derivative, 16,384 at depth 128."
abbrev pub formula_limit : Formula → Bool
formula_limit f = within 256 32 f

abbrev pub derivative_limit : Formula → Bool
derivative_limit f = within 16384 128 f

abbrev pub is_node : Head → Bool
is_node (number b) = true
is_node (truth b) = true
is_node (symbol i) = true
is_node (operation o) = true
is_node (junction j) = true
is_node ifelse = true
is_node conditional = true
is_node malformed = false

abbrev mutual
  pub well_formed : Formula → Bool
  well_formed (node h ts) = is_node h && all_well_formed ts

  pub all_well_formed : Formulas → Bool
  all_well_formed last = true
  all_well_formed (next t ts) = well_formed t && all_well_formed ts

abbrev pub is_symbol : ℕ → Head → Bool
is_symbol s (number b) = false
is_symbol s (truth b) = false
is_symbol s (symbol i) = eqb i s
is_symbol s (operation o) = false
is_symbol s (junction j) = false
is_symbol s ifelse = false
is_symbol s conditional = false
is_symbol s malformed = false

-- whether the symbol s stands in it
abbrev mutual
  pub depends : ℕ → Formula → Bool
  depends s (node h ts) = is_symbol s h || any_depends s ts

  pub any_depends : ℕ → Formulas → Bool
  any_depends s last = false
  any_depends s (next t ts) = depends s t || any_depends s ts
