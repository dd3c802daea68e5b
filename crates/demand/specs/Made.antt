-- What compile or derive makes of a formula: "Take a formula that compiles, or its derivative by a named symbol where one is given".
use Rattle.std.specs.Prelude.{List, ℕ, Result, Ok, Err}
use Rattle.std.proofs.Math.Option.{Option, none}
use Rattle.refusals.specs.Refusals.{refusal_at, refusal_of}
use Rattle.refusals.specs.declared.Refusal.{Refusal}
use Rattle.formula.specs.Formula as Tree
use Rattle.formula.specs.Path.{Path}
use Rattle.machine.specs.Check.{Context}
use Rattle.machine.specs.Compile.{Compiled, accepted, compile, own_context}
use Rattle.machine.specs.Compile as Compile
use Rattle.layout.specs.Image.{image}
use Rattle.derivative.specs.Derive.{Derived, Lengths, derive, derived, formula_refused, formula_refused_at, generated_context, list_after, tree_after}
use Rattle.derivative.specs.Derive as Derive
use Rattle.demand.specs.declared.Wanted.{Wanted}
use Rattle.demand.specs.declared.Wanted.TheVariants.{Derivative, Formula}

-- a refusal with its place, or with its node; or the program of a formula or of a derivative tree
pub data Made : Type 0 where
  refused : ℕ → Option Path → Made
  refused_at : ℕ → ℕ → Made
  made : Context → Tree.Formula → Made

abbrev pub of_compiled : Compiled → Made
of_compiled (Compile.refused n place) = refused n place
of_compiled (Compile.refused_at n k) = refused_at n k
of_compiled (accepted f symbols) = made (own_context symbols) f

abbrev pub of_derived : Derived → Made
of_derived (formula_refused n place) = refused n place
of_derived (formula_refused_at n k) = refused_at n k
of_derived (Derive.refused n place) = refused n place
of_derived (derived d rs symbols) = made (generated_context symbols) d

abbrev pub answer_of : Made → Result Unit Refusal
answer_of (refused n place) = Err (refusal_of n)
answer_of (refused_at n k) = Err (refusal_at n k)
answer_of (made C f) = Ok tt

abbrev pub place_of : Made → Option Path
place_of (refused n place) = place
place_of (refused_at n k) = none
place_of (made C f) = none

-- of formula bytes and a name line, with slices of these lengths
module _ (formula names : List ℕ) where
  abbrev pub make : Wanted ℕ → ℕ → Lengths → Made
  make Formula path l = of_compiled (compile formula names path l.program)
  make (Derivative s) path l = of_derived (derive formula names s path l)

  -- ---- what the slices hold after

  abbrev pub tree_left : Wanted ℕ → ℕ → Lengths → List ℕ → List ℕ
  tree_left Formula path l tree = tree
  tree_left (Derivative s) path l tree = tree_after (derive formula names s path l) tree

  abbrev pub list_left : Wanted ℕ → ℕ → Lengths → List ℕ → List ℕ
  list_left Formula path l list = list
  list_left (Derivative s) path l list = list_after (derive formula names s path l) list

  abbrev pub program_left : Wanted ℕ → ℕ → Lengths → List ℕ → List ℕ
  program_left Formula path l program = Compile.program_after image (compile formula names path l.program) program
  program_left (Derivative s) path l program = Derive.program_after image (derive formula names s path l) program
