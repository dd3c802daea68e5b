-- What comes before a formula is gone into.
use Rattle.std.specs.Prelude.{◌≡◌, Bool, true, false, List, map, ℕ, Result, Ok, Err}
use Rattle.std.proofs.Math.Option.{some}
use Rattle.refusals.specs.Refusals.{refusal_at, refusal_of}
use Rattle.refusals.specs.declared.Refusal.{Refusal}
use Rattle.refusals.specs.declared.Refusal.TheVariants.{ExpressionLimit}
use Rattle.formula.specs.Formula.{Formula, within}
use Rattle.formula.specs.Names.{Symbol, kinds}
use Rattle.formula.specs.Node.{formula_of}
use Rattle.machine.specs.Compile.{Compiled, accepted, prepared, refused, refused_at}
use Rattle.names.specs.Lines.{kind_as, table_of}
use Rattle.names.specs.declared.Kind.{Kind}
use Rattle.names.specs.declared.Names.{Names}

-- the table of the symbols, or a refusal
abbrev pub prepared_as : Compiled → Result Names Refusal
prepared_as (refused n place) = Err (refusal_of n)
prepared_as (refused_at n k) = Err (refusal_at n k)
prepared_as (accepted f symbols) = Ok (table_of symbols)

-- "1, path slice or program slice too short; 2, formula bytes not as above (size and depth apart)", or 12 or 13 in its place; "3, name line not as above"
unfoldable pub preparation : List ℕ → List ℕ → ℕ → ℕ → Result Names Refusal
preparation formula names path program = prepared_as (prepared accepted formula names path program)

-- "4 `ExpressionLimit`", of whether a formula is within the limits
abbrev pub size_answer : Bool → Result Unit Refusal
size_answer true = Ok tt
size_answer false = Err ExpressionLimit

-- formula bytes within the limits, and the kinds of its symbols
pub record Formed (b : List ℕ) (K : List Kind) (f : Formula) (ss : List Symbol) : Type 0 where
  pub formed : formula_of b ≡ some f
  pub limit : within 256 32 f ≡ true
  pub listed : K ≡ map kind_as (kinds ss)
