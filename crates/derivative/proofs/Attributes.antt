-- The survey of a formula has the attributes of its derivative.
use mathlib.Core.Path.{◌≡◌, refl, sym, ap, ◌∙◌}
use mathlib.Core.Bool.{Bool, true, false, cond}
use mathlib.Core.List.{List, [], ◌∷◌, map}
use mathlib.Core.Option.{Option, none, some}
use Prim.Native.Nat.{ℕ, suc, min, max}
use native.Mathlib.Omega.{arith}
use lib.ListN.{length}
use lib.Dec.{leb}
use borrow.Author.Tests.{leb-true, leb-false, le-leb, lt-leb}
use Rattle.formula.specs.Operator.{binary, Add, Multiply}
use Rattle.formula.specs.Formula.{Head, number, operation, Formula, Formulas, node, last, next, of_list, to_list, count, size, sizes, depth, depths, depends, any_depends, derivative_limit}
use Rattle.derivative.specs.Rules.{Parts, Rule, instance}
use Rattle.derivative.specs.Differentiate.{literal_head, formulas, first_depends, first_literal, second_literal, and_then, applied, the_rule, differentiate, differentiate_all, binary_node, with_primal, derivative}
use Rattle.derivative.specs.Attributes.{Attributes, Survey, attribute_algebra, attributes_of, total_nodes, most_levels, any_symbol, owns, diffs, first_symbol, first_bits, second_bits, surveyed, survey, survey_all, primal_attributes, derivative_attributes, within_limit}
use Rattle.derivative.proofs.Homomorphism.{homomorphism, mapped}

-- ---- the attributes of a formula are a homomorphism

total_right : (ts : List Formula) → min 16385 (suc (sizes (of_list ts))) ≡ min 16385 (suc (total_nodes (map attributes_of ts)))
total_right [] = refl
total_right (t ∷ ts) = omega (arith, total_right ts)

capped : (a b : ℕ) → min 129 (suc (max a b)) ≡ min 129 (suc (max (min 129 a) b))
capped a b = omega arith

replaced : (x b c : ℕ) → min 129 (suc b) ≡ min 129 (suc c) → min 129 (suc (max x b)) ≡ min 129 (suc (max x c))
replaced x b c h = omega arith

levels_right : (ts : List Formula) → min 129 (suc (depths (of_list ts))) ≡ min 129 (suc (most_levels (map attributes_of ts)))
levels_right [] = refl
levels_right (t ∷ ts) =
    capped (depth t) (depths (of_list ts))
    ∙ replaced (min 129 (depth t)) (depths (of_list ts)) (most_levels (map attributes_of ts)) (levels_right ts)

attributes_path : (n m d c : ℕ) (b : Option ℕ) → n ≡ m → d ≡ c
    → ◌≡◌ {A = Attributes} (record { nodes = n; levels = d; bits = b }) (record { nodes = m; levels = c; bits = b })
attributes_path n m d c b p q = cc

node_right : (h : Head) (ts : List Formula) → attributes_of (node h (of_list ts)) ≡ attribute_algebra.node h (map attributes_of ts)
node_right h ts = attributes_path _ _ _ _ (literal_head h) (total_right ts) (levels_right ts)

pub instance_right : (e : Parts Formula) (r : Rule) → attributes_of (instance formulas e r) ≡ instance attribute_algebra (mapped attributes_of e) r
instance_right e r = homomorphism formulas attribute_algebra attributes_of node_right refl refl (λ a. refl) (λ a. refl) e r

-- ---- the survey

abbrev pub map_option : {A B : Type 0} → (A → B) → Option A → Option B
map_option f none = none
map_option f (some a) = some (f a)

-- what a survey is to be
abbrev pub survey_of : ℕ → Bool → Formula → Survey
survey_of s by_state f =
    record { own = attributes_of f; has_symbol = depends s f; diff = map_option attributes_of (differentiate s by_state f) }

module _ (s : ℕ) (by_state : Bool) where
  abbrev surveys_of : Formulas → List Survey
  surveys_of last = []
  surveys_of (next t ts) = survey_of s by_state t ∷ surveys_of ts

  owns_right : (ts : Formulas) → owns (surveys_of ts) ≡ map attributes_of (to_list ts)
  owns_right last = refl
  owns_right (next t ts) = rw (owns_right ts)

  symbol_right : (ts : Formulas) → any_symbol (surveys_of ts) ≡ any_depends s ts
  symbol_right last = refl
  symbol_right (next t ts) = rw (symbol_right ts)

  count_right : (ts : Formulas) → length (surveys_of ts) ≡ count ts
  count_right last = refl
  count_right (next t ts) = rw (count_right ts)

  first_right : (ts : Formulas) → first_symbol (surveys_of ts) ≡ first_depends s ts
  first_right last = refl
  first_right (next t ts) = refl

  literal_right : (ts : Formulas) → first_bits (surveys_of ts) ≡ first_literal ts
  literal_right last = refl
  literal_right (next t ts) = refl

  second_right : (ts : Formulas) → second_bits (surveys_of ts) ≡ second_literal ts
  second_right last = refl
  second_right (next t ts) = literal_right ts

  joined_right : (o : Option Formula) (os : Option (List Formula))
      → and_then (map_option attributes_of o) (λ d. and_then (map_option (map attributes_of) os) (λ ds. some (d ∷ ds)))
      ≡ map_option (map attributes_of) (and_then o (λ d. and_then os (λ ds. some (d ∷ ds))))
  joined_right none os = refl
  joined_right (some d) none = refl
  joined_right (some d) (some ds) = refl

  diffs_right : (ts : Formulas) → diffs (surveys_of ts) ≡ map_option (map attributes_of) (differentiate_all s by_state ts)
  diffs_right last = refl
  diffs_right (next t ts) = rw (diffs_right ts, joined_right (differentiate s by_state t) (differentiate_all s by_state ts))

  applied_right : (r : Option Rule) (t : Formula) (ts : List Formula) (os : Option (List Formula))
      → and_then (map_option (map attributes_of) os) (λ ds. applied attribute_algebra r (attributes_of t) (map attributes_of ts) ds)
      ≡ map_option attributes_of (and_then os (λ ds. applied formulas r t ts ds))
  applied_right r t ts none = refl
  applied_right none t ts (some ds) = refl
  applied_right (some r) t ts (some ds) = ap some (sym (instance_right (record { own = t; children = ts; diffs = ds }) r))

  cond_right : (c : Bool) (o : Option Attributes) (p : Option Formula) (q : Formula) → o ≡ map_option attributes_of p
      → cond c o (some (attributes_of q)) ≡ map_option attributes_of (cond c p (some q))
  cond_right true o p q e = e
  cond_right false o p q e = refl

  -- a node's survey by its own attributes and its children's
  abbrev from : Head → Formulas → Attributes → Survey
  from h ts own =
      record {
        own = own;
        has_symbol = depends s (node h ts);
        diff =
            cond (depends s (node h ts))
            (and_then (map_option (map attributes_of) (differentiate_all s by_state ts))
            (λ ds. applied attribute_algebra (the_rule s by_state h ts) own (map attributes_of (to_list ts)) ds))
            (some (attribute_algebra.node (number 0) []));
      }

  from_right : (h : Head) (ts : Formulas) → from h ts (attributes_of (node h ts)) ≡ survey_of s by_state (node h ts)
  from_right h ts =
      ap (λ (z : Option Attributes). record { own = attributes_of (node h ts); has_symbol = depends s (node h ts); diff = z })
      (cond_right (depends s (node h ts)) _ _ (node (number 0) last)
      (applied_right (the_rule s by_state h ts) (node h ts) (to_list ts) (differentiate_all s by_state ts)))

  of_to_list : (ts : Formulas) → of_list (to_list ts) ≡ ts
  of_to_list last = refl
  of_to_list (next t ts) = rw (of_to_list ts)

  surveyed_right : (h : Head) (ts : Formulas) → surveyed s by_state h (surveys_of ts) ≡ survey_of s by_state (node h ts)
  surveyed_right h ts =
      let e : attribute_algebra.node h (map attributes_of (to_list ts)) ≡ attributes_of (node h ts) =
      sym (node_right h (to_list ts)) ∙ ap (λ (us : Formulas). attributes_of (node h us)) (of_to_list ts) in
      rw (symbol_right ts, diffs_right ts, first_right ts, count_right ts, second_right ts, owns_right ts) (ap (from h ts) e ∙ from_right h ts)

  mutual
    pub survey_right : (f : Formula) → survey s by_state f ≡ survey_of s by_state f
    survey_right (node h ts) = rw (survey_all_right ts, surveyed_right h ts)

    survey_all_right : (ts : Formulas) → survey_all s by_state ts ≡ surveys_of ts
    survey_all_right last = refl
    survey_all_right (next t ts) = rw (survey_right t, survey_all_right ts)

  primal_right : (f : Formula) (o : Option Formula)
      → and_then (map_option attributes_of o) (λ d. some (primal_attributes (attributes_of f) d))
      ≡ map_option attributes_of (and_then o (λ d. some (with_primal f d)))
  primal_right f none = refl
  primal_right f (some d) =
      let G = attribute_algebra in
      let product = binary_node (operation (binary Multiply)) (node (number 0) last) f in
      ap some
      (ap (λ (a : Attributes). G.node (operation (binary Add)) (a ∷ attributes_of d ∷ []))
      (sym (node_right (operation (binary Multiply)) (node (number 0) last ∷ f ∷ [])))
      ∙ sym (node_right (operation (binary Add)) (product ∷ d ∷ [])))

  -- of 0 × formula + derivative
  pub derivative_right : (f : Formula) → derivative_attributes (survey s by_state f) ≡ map_option attributes_of (derivative s by_state f)
  derivative_right f = rw (survey_right f) (primal_right f (differentiate s by_state f))

-- the capped numbers decide the limit
leb_capped : (c n : ℕ) → leb (min (suc c) n) c ≡ leb n c
leb_capped c n = go (leb n c) refl
  where
    go : (b : Bool) → leb n c ≡ b → leb (min (suc c) n) c ≡ b
    go true e = le-leb (min (suc c) n) c (omega (arith, leb-true n c e))
    go false e = lt-leb (min (suc c) n) c (omega (arith, leb-false n c e))

pub limit_right : (d : Formula) → within_limit (attributes_of d) ≡ derivative_limit d
limit_right d = rw (leb_capped 16384 (size d), leb_capped 128 (depth d))
