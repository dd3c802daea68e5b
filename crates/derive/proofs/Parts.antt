-- The parts of derive: the formula itself, what its survey found, and what is written.
use mathlib.Core.Path.{◌≡◌, refl, sym, ap, ◌∙◌, subst}
use mathlib.Core.Bool.{Bool, true, false, ◌&&◌}
use mathlib.Core.List.{List}
use mathlib.Core.Option.{Option, none, some}
use Prim.Native.Nat.{ℕ, ◌*◌, ◌≤◌, ◌<◌, min}
use native.Mathlib.Omega.{arith}
use lib.ListN.{length}
use lib.Dec.{leb}
use borrow.Author.Tests.{le-leb, lt-leb}
use Rattle.formula.specs.Formula.{Formula, depth, derivative_limit, size, within}
use Rattle.formula.specs.Node.{formula_of, tree_at}
use Rattle.reader.specs.Read.{is_some}
use Rattle.reader.proofs.Scan.{whole}
use Rattle.compile.proofs.Entries.{low}
use Rattle.derivative.specs.Attributes.{Attributes, attributes_of, derivative_attributes, primal_attributes, survey}
use Rattle.derivative.specs.Differentiate.{and_then, derivative}
use Rattle.derivative.specs.Derive.{Derived}
use Rattle.derivative.proofs.Attributes.{derivative_right, map_option}
use Rattle.survey.specs.Table.{Room, found, reading, readings, tree}
use Rattle.survey.specs.declared.Attributes as Declared
use Rattle.survey.specs.declared.Found.{Found}
use Rattle.derive.specs.Outcome.{Leaves}
use Rattle.std.specs.Prelude.{Result, Some, None}
use Rattle.std.specs.Prelude.{Option as Given}
use Rattle.refusals.specs.declared.Refusal.{Refusal}
use Rattle.survey.specs.declared.Row.{Row}

pub leaves : (X Y : Derived) (r : Result ℕ Refusal) (q q' t t' l l' p p' : List ℕ) → X ≡ Y → Leaves Y r q q' t t' l l' p p' → Leaves X r q q' t t' l l' p p'
leaves X Y r q q' t t' l l' p p' e L = subst (λ (Z : Derived). Leaves Z r q q' t t' l l' p p') (sym e) L

-- ---- what the survey found

module _ (b : List ℕ) (f : Formula) (formed : formula_of b ≡ some f) (limit : within 256 32 f ≡ true) where
  pub tree_is : tree b 0 ≡ f
  unfolding tree
  tree_is = same (sym (whole b (ap (λ (o : Option Formula). is_some o) formed)).2 ∙ formed)
    where
      same : {x y : Formula} → ◌≡◌ {A = Option Formula} (some x) (some y) → x ≡ y
      same h = cc

  tree_at_is : tree_at b 0 ≡ f
  unfolding tree
  tree_at_is = tree_is

  pub surveyed_room : (T : List Row) → length b ≤ 16 * length T → Room b T 0 32
  unfolding tree
  surveyed_room T l =
      let h = whole b (ap (λ (o : Option Formula). is_some o) formed) in
      record { formed = h.0; deep = omega (arith, ap depth tree_at_is, low b f formed limit); long = omega (arith, h.1) }

  module _ (s : ℕ) (st : Bool) (r : Found) (e : found r ≡ survey s st (tree b 0)) where
    surveys : found r ≡ survey s st f
    surveys = e ∙ ap (survey s st) tree_is

    attributes : and_then (readings r.diff) (λ d. some (primal_attributes (reading r.own) d)) ≡ map_option attributes_of (derivative s st f)
    attributes = ap derivative_attributes surveys ∙ derivative_right s st f

    none_of : (o : Option Formula) → none ≡ map_option attributes_of o → o ≡ none
    none_of none h = refl
    none_of (some d) h = let y : ◌≡◌ {A = ℕ} 0 1 = cc in absurd (omega arith)

    -- "8 at `root` from the rules"
    pub no_derivative : r.diff ≡ None → derivative s st f ≡ none
    no_derivative h =
        none_of (derivative s st f)
        (sym (ap (λ (x : Given Declared.Attributes). and_then (readings x) (λ d. some (primal_attributes (reading r.own) d))) h) ∙ attributes)

    some_of : (a : Attributes) (o : Option Formula) → some a ≡ map_option attributes_of o → (d : Formula) × (o ≡ some d) × (a ≡ attributes_of d)
    some_of a none h = let y : ◌≡◌ {A = ℕ} 0 1 = cc in absurd (omega arith)
    some_of a (some d) h = (d, refl, cc)

    -- a derivative, and its attributes
    pub has_derivative : (w diff : Declared.Attributes) → r.diff ≡ Some diff → reading w ≡ primal_attributes (reading r.own) (reading diff)
        → (d : Formula) × (derivative s st f ≡ some d) × (reading w ≡ attributes_of d)
    has_derivative w diff h p =
        let g = some_of (primal_attributes (reading r.own) (reading diff)) (derivative s st f)
        (sym (ap (λ (x : Given Declared.Attributes). and_then (readings x) (λ d. some (primal_attributes (reading r.own) d))) h) ∙ attributes) in
        (g.0, g.1, p ∙ g.2)

-- the capped numbers decide
module _ (w : Declared.Attributes) (d : Formula) (e : reading w ≡ attributes_of d) where
  nodes_are : w.nodes ≡ min 16385 (size d)
  nodes_are = ap (λ (a : Attributes). a.nodes) e

  levels_are : w.levels ≡ min 129 (depth d)
  levels_are = ap (λ (a : Attributes). a.levels) e

  pub within_limit : w.nodes ≤ 16384 → w.levels ≤ 128 → derivative_limit d ≡ true
  within_limit h k = rw (le-leb (size d) 16384 (omega (arith, nodes_are)), le-leb (depth d) 128 (omega (arith, levels_are)))

  pub too_many : 16384 < w.nodes → derivative_limit d ≡ false
  too_many h = rw (lt-leb (size d) 16384 (omega (arith, nodes_are)))

  pub too_deep : 128 < w.levels → derivative_limit d ≡ false
  too_deep h = go (leb (size d) 16384)
    where
      go : (c : Bool) → (c && leb (depth d) 128) ≡ false
      go true = lt-leb (depth d) 128 (omega (arith, levels_are))
      go false = refl

  pub nodes_exact : w.nodes ≤ 16384 → w.nodes ≡ size d
  nodes_exact h = omega (arith, nodes_are)
