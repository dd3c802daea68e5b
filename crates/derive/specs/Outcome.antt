-- What derive answers and leaves.
use Rattle.std.specs.Prelude.{◌≡◌, Bool, true, List, ℕ, ◌*◌, ◌≤◌, ◌<◌, length, Result, Ok, Err}
use Rattle.std.proofs.Math.Option.{none, some}
use Rattle.formula.specs.Operator.{Number}
use Rattle.formula.specs.Formula.{Formula, derivative_limit, size}
use Rattle.formula.specs.Names.{Symbol}
use Rattle.formula.specs.Path.{root}
use Rattle.formula.specs.Term.{term}
use Rattle.machine.specs.Check.{fault, kind}
use Rattle.machine.specs.Compile.{own_context}
use Rattle.layout.specs.Image.{image}
use Rattle.derivative.specs.Differentiate.{derivative}
use Rattle.derivative.specs.Derive.{Derived, Lengths, by_state, derived, formula_refused, formula_refused_at, list_after, path_after, program_after, refused, tree_after}
use Rattle.compile.specs.Preparation.{Formed}
use Rattle.names.specs.declared.Kind.{Kind}
use Rattle.refusals.specs.Refusals.{refusal_at, refusal_of}
use Rattle.refusals.specs.declared.Refusal.{Refusal}

abbrev pub answer : Derived → Result ℕ Refusal
answer (formula_refused n place) = Err (refusal_of n)
answer (formula_refused_at n k) = Err (refusal_at n k)
answer (refused n place) = Err (refusal_of n)
answer (derived d rs symbols) = Ok (size d)

-- the lengths of the tree, list and program slices
abbrev pub lengths : List ℕ → List ℕ → List ℕ → Lengths
lengths t l p = record { tree = length t; list = length l; program = length p }

-- the answer, and the path, tree, list and program slices before and after
abbrev pub Leaves : Derived → Result ℕ Refusal → List ℕ → List ℕ → List ℕ → List ℕ → List ℕ → List ℕ → List ℕ → List ℕ → Type 0
Leaves X r q q' t t' l l' p p' =
    (r ≡ answer X) × (q' ≡ path_after X q) × (t' ≡ tree_after X t) × (l' ≡ list_after X l) × (p' ≡ program_after image X p)

-- ---- what the parts are given

-- a formula within the limits that compiles to a Number, and a symbol that is one of its symbols
pub record Derivable (b : List ℕ) (K : List Kind) (s : ℕ) (state : Bool) (f : Formula) (ss : List Symbol) : Type 0 where
  pub given : Formed b K f ss
  pub faultless : fault (own_context ss) (term f) root ≡ none
  pub number : kind (term f) ≡ Number
  pub known : s < length ss
  pub is_state : state ≡ by_state ss s

-- and its derivative is within the limit, and there is room for it
pub record Derives (b : List ℕ) (K : List Kind) (s : ℕ) (state : Bool) (program : ℕ) (f : Formula) (ss : List Symbol) (d : Formula) : Type 0 where
  pub given : Derivable b K s state f ss
  pub derives : derivative s (by_state ss s) f ≡ some d
  pub limit : derivative_limit d ≡ true
  pub room : 240 * size d ≤ program
