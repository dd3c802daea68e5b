-- The derivative of a part is the definition's, where there is one; and the survey is the definition's.
use mathlib.Core.Path.{◌≡◌, refl, sym, ap, ◌∙◌}
use mathlib.Core.Bool.{Bool, true, false, cond}
use mathlib.Core.List.{List, [], ◌∷◌}
use mathlib.Core.Option.{Option, none, some}
use Prim.Native.Nat.{ℕ}
use native.Mathlib.Omega.{arith}
use Rattle.formula.specs.Formula.{Formula, Formulas, node, last, next, to_list, depends}
use Rattle.derivative.specs.Rules.{Algebra, Rule, instance}
use Rattle.derivative.specs.Differentiate.{formulas, the_rule, differentiate, differentiate_all, and_then, applied}
use Rattle.derivative.specs.Attributes.{Attributes, Survey, attributes_of, survey}
use Rattle.derivative.proofs.Attributes.{survey_right, map_option}
use Rattle.reader.specs.Read.{is_some}
use Rattle.survey.specs.Derived.{derived, derived_all, or_else, zero_literal}
use Rattle.survey.specs.Table.{reading, readings}
use Rattle.survey.specs.declared.Attributes as Declared
use Rattle.std.specs.Bool.{then_some}

pub some_of : {A : Type 0} (a b : A) → ◌≡◌ {A = Option A} (some a) (some b) → a ≡ b
some_of a b e = cc

-- what is made of formulas or of trees with records: a node's, where its children's are there
pub node_right : {A : Type 0} (G : Algebra A) (z : A) (c : Bool) (as' : Option (List A)) (DA : List A) (r : Option Rule) (own : A) (cs : List A) (d : A)
    → ((ds : List A) → as' ≡ some ds → DA ≡ ds) → cond c (and_then as' (λ ds. applied G r own cs ds)) (some z) ≡ some d
    → cond c (or_else G z r (record { own = own; children = cs; diffs = DA })) z ≡ d
node_right G z false as' DA r own cs d h e = some_of z d e
node_right G z true none DA r own cs d h e = let y : ◌≡◌ {A = ℕ} 0 1 = cc in absurd (omega arith)
node_right G z true (some ds) DA none own cs d h e = let y : ◌≡◌ {A = ℕ} 0 1 = cc in absurd (omega arith)
node_right {A} G z true (some ds) DA (some r) own cs d h e =
    ap (λ (x : List A). instance G (record { own = own; children = cs; diffs = x }) r) (h ds refl)
    ∙ some_of (instance G (record { own = own; children = cs; diffs = ds }) r) d e

pub next_right : {A : Type 0} (o : Option A) (os : Option (List A)) (x : A) (xs ds : List A) → ((d : A) → o ≡ some d → x ≡ d)
    → ((es : List A) → os ≡ some es → xs ≡ es) → and_then o (λ d. and_then os (λ es. some (d ∷ es))) ≡ some ds → x ∷ xs ≡ ds
next_right none os x xs ds h g e = let z : ◌≡◌ {A = ℕ} 0 1 = cc in absurd (omega arith)
next_right (some d) none x xs ds h g e = let z : ◌≡◌ {A = ℕ} 0 1 = cc in absurd (omega arith)
next_right {A} (some d) (some es) x xs ds h g e =
    ap (λ (y : A). y ∷ xs) (h d refl) ∙ ap (λ (ys : List A). d ∷ ys) (g es refl) ∙ some_of (d ∷ es) ds e

module _ (s : ℕ) (b : Bool) where
  mutual
    pub derived_right : (t d : Formula) → differentiate s b t ≡ some d → derived s b t ≡ d
    derived_right (node h ts) d e =
        node_right formulas zero_literal (depends s (node h ts)) (differentiate_all s b ts) (derived_all s b ts) (the_rule s b h ts) (node h ts) (to_list ts) d (λ ds p. derived_all_right ts ds p) e

    derived_all_right : (ts : Formulas) (ds : List Formula) → differentiate_all s b ts ≡ some ds → derived_all s b ts ≡ ds
    derived_all_right last ds e = some_of [] ds e
    derived_all_right (next t ts) ds e =
        next_right (differentiate s b t) (differentiate_all s b ts) (derived s b t) (derived_all s b ts) ds (λ d p. derived_right t d p) (λ es p. derived_all_right ts es p) e

  known : (o : Option Formula) (x : Formula) → ((d : Formula) → o ≡ some d → x ≡ d) → cond (is_some o) (some (attributes_of x)) none ≡ map_option attributes_of o
  known none x h = refl
  known (some d) x h = ap (λ (y : Formula). some (attributes_of y)) (h d refl)

  survey_path : (a o : Attributes) (h k : Bool) (x y : Option Attributes) → a ≡ o → h ≡ k → x ≡ y
      → ◌≡◌ {A = Survey} (record { own = a; has_symbol = h; diff = x }) (record { own = o; has_symbol = k; diff = y })
  survey_path a o h k x y p q r = cc

  -- what the table says of a tree is its survey
  pub survey_is : (t : Formula) (a d : Attributes) (has fine : Bool) → a ≡ attributes_of t → has ≡ depends s t → fine ≡ is_some (differentiate s b t) → d ≡ attributes_of (derived s b t)
      → record { own = a; has_symbol = has; diff = cond fine (some d) none } ≡ survey s b t
  survey_is t a d has fine pa ph pf pd =
      survey_path a (attributes_of t) has (depends s t) (cond fine (some d) none) (map_option attributes_of (differentiate s b t)) pa ph
      (ap (λ (x : Bool). cond x (some d) none) pf ∙ ap (λ (x : Attributes). cond (is_some (differentiate s b t)) (some x) none) pd
      ∙ known (differentiate s b t) (derived s b t) (λ e p. derived_right t e p))
      ∙ sym (survey_right s b t)

-- where a derivative is, it is the part's
pub fine_some : (s : ℕ) (b : Bool) (t : Formula) → is_some (differentiate s b t) ≡ true → differentiate s b t ≡ some (derived s b t)
fine_some s b t e = go (differentiate s b t) refl e
  where
    go : (o : Option Formula) → differentiate s b t ≡ o → is_some o ≡ true → o ≡ some (derived s b t)
    go none p q = let z : ◌≡◌ {A = ℕ} 0 1 = cc in absurd (omega arith)
    go (some d) p q = ap some (sym (derived_right s b t d p))

pub readings_then : (b : Bool) (a : Declared.Attributes) → readings (then_some b a) ≡ cond b (some (reading a)) none
readings_then true a = refl
readings_then false a = refl
