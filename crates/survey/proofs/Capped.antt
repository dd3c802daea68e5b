-- Attributes of trees are within the caps.
use mathlib.Core.Path.{◌≡◌, ap, ◌∙◌}
use mathlib.Core.Bool.{Bool}
use mathlib.Core.List.{List, [], ◌∷◌}
use Prim.Native.Nat.{ℕ, ◌-◌, ◌<◌}
use native.Mathlib.Omega.{arith}
use Rattle.formula.specs.Formula.{Formula}
use Rattle.derivative.specs.Rules.{Rule, instance, extremum_from}
use Rattle.derivative.specs.Attributes.{Attributes, attribute_algebra, attributes_of}
use Rattle.survey.specs.Derived.{child_of, derived_of}
use Rattle.survey.specs.Table.{reading}
use Rattle.survey.specs.Worked.{attribute_parts, worked, inner, Capped}
use Rattle.survey.specs.declared.Attributes as Declared
use Rattle.survey.proofs.Worked.{instance_capped, worked_capped, extremum_step}

pub capped_tree : (a : Declared.Attributes) (t : Formula) → reading a ≡ attributes_of t → Capped a
capped_tree a t e = (omega (arith, ap (λ (x : Attributes). x.nodes) e), omega (arith, ap (λ (x : Attributes). x.levels) e))

pub capped_inner : (a : Declared.Attributes) (xs : List Attributes) → reading a ≡ inner xs → Capped a
capped_inner a xs e = (omega (arith, ap (λ (x : Attributes). x.nodes) e), omega (arith, ap (λ (x : Attributes). x.levels) e))

pub capped_of : (s : ℕ) (b : Bool) (t : Formula) (r : Rule) (a : Declared.Attributes) → reading a ≡ instance attribute_algebra (attribute_parts s b t) r → Capped a
capped_of s b t r a e =
    let h = instance_capped s b t r in
    (omega (arith, ap (λ (x : Attributes). x.nodes) e, h.0), omega (arith, ap (λ (x : Attributes). x.levels) e, h.1))

pub capped_worked : (s : ℕ) (b : Bool) (t : Formula) (d q i : ℕ) (a : Declared.Attributes) → reading a ≡ worked s b t d q i → Capped a
capped_worked s b t d q i a e =
    let h = worked_capped s b t d q i in
    (omega (arith, ap (λ (x : Attributes). x.nodes) e, h.0), omega (arith, ap (λ (x : Attributes). x.levels) e, h.1))

-- one turn of the loop of Min and Max
module _ (s : ℕ) (b : Bool) (t : Formula) (n i : ℕ) (z : i ≡ 0 → ⊥) (h : i < n) (w e x d : Declared.Attributes)
    (pw : reading w ≡ attributes_of t) (px : reading x ≡ attributes_of (child_of t (i - 1))) (pe : reading e ≡ inner (reading x ∷ reading w ∷ []))
    (pd : reading d ≡ attributes_of (derived_of s b t (i - 1))) where
  pub selected_next : (y r : Declared.Attributes) → reading y ≡ instance attribute_algebra (attribute_parts s b t) (extremum_from i (n - 1 - i))
      → reading r ≡ inner (reading e ∷ reading d ∷ reading y ∷ []) → reading r ≡ instance attribute_algebra (attribute_parts s b t) (extremum_from (i - 1) (n - 1 - (i - 1)))
  selected_next y r py pr =
      let Y = instance attribute_algebra (attribute_parts s b t) (extremum_from i (n - 1 - i)) in
      let X = attributes_of (child_of t (i - 1)) in
      let D = attributes_of (derived_of s b t (i - 1)) in
      pr
      ∙ ap (λ (v : Attributes). inner (v ∷ reading d ∷ reading y ∷ [])) (pe ∙ ap (λ (v : Attributes). inner (v ∷ reading w ∷ [])) px ∙ ap (λ (v : Attributes). inner (X ∷ v ∷ [])) pw)
      ∙ ap (λ (v : Attributes). inner (inner (X ∷ attributes_of t ∷ []) ∷ v ∷ reading y ∷ [])) pd
      ∙ ap (λ (v : Attributes). inner (inner (X ∷ attributes_of t ∷ []) ∷ D ∷ v ∷ [])) py
      ∙ extremum_step s b t n i z h
