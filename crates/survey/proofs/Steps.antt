-- The steps of the reading of a rule over attributes.
use mathlib.Core.Path.{◌≡◌, sym, ap, ◌∙◌, subst}
use mathlib.Core.Bool.{Bool}
use Prim.Native.Nat.{ℕ, ◌+◌, ◌-◌, ◌/◌, ◌%◌, ◌≤◌, ◌<◌, max}
use native.Mathlib.Omega.{arith}
use Rattle.formula.specs.Formula.{Formula}
use Rattle.derivative.specs.Rules.{Algebra, add_of, mul_of}
use Rattle.derivative.specs.Attributes.{Attributes, attribute_algebra, attributes_of, total_nodes, most_levels}
use Rattle.rules.specs.Notation.{end_at, code_at, parts}
use Rattle.rules.specs.declared.RulePart.{RulePart}
use Rattle.survey.specs.Table.{reading}
use Rattle.survey.specs.Worked.{worked, worked_all, inner, over_sum}
use Rattle.survey.specs.declared.Attributes as Declared
use Rattle.survey.specs.declared.Sum.{Sum}
use Rattle.survey.proofs.Worked.{worked_add, worked_mul, worked_node, Writing, all_none, all_next, all_nodes, all_levels}

abbrev G : Algebra Attributes
G = attribute_algebra

pub tested : (r : Bool) (a : Declared.Attributes) (t : Formula) (v : Bool) → r ≡ G.is_zero (reading a) → reading a ≡ attributes_of t → r ≡ v → G.is_zero (attributes_of t) ≡ v
tested r a t v e p q = sym (ap (λ (x : Attributes). G.is_zero x) p) ∙ sym e ∙ q

module _ (s : ℕ) (b : Bool) (t : Formula) where
  module _ (d q i c : ℕ) (nz : d ≡ 0 → ⊥) (lt : i < 128) (e : c ≡ code_at q i) where
    -- the first part after the code, and the part after that
    module _ (first : RulePart) (is : first ≡ record { rule = q; start = i + 1; levels = d - 1 }) where
      at_first : worked s b t first.levels first.rule first.start ≡ worked s b t (d - 1) q (i + 1)
      at_first = ap (λ (x : RulePart). worked s b t x.levels x.rule x.start) is

      pub followed : (r : Attributes) → r ≡ worked s b t first.levels first.rule first.start → r ≡ worked s b t (d - 1) q (i + 1)
      followed r p = p ∙ at_first

      pub noded : Writing (c / 16) → (r : Attributes) (left : ℕ) → left ≡ parts (c / 16) (c % 16) → r ≡ inner (worked_all s b t first.levels first.rule left first.start) → r ≡ worked s b t d q i
      noded w r left pl pr =
          pr ∙ ap (λ (x : RulePart). inner (worked_all s b t x.levels x.rule left x.start)) is
          ∙ ap (λ (n : ℕ). inner (worked_all s b t (d - 1) q n (i + 1))) pl ∙ worked_node s b t d q i c nz lt e w

      module _ (next : RulePart) (after : next ≡ record { rule = first.rule; start = end_at first.levels first.rule first.start; levels = first.levels }) where
        at_next : worked s b t next.levels next.rule next.start ≡ worked s b t (d - 1) q (end_at (d - 1) q (i + 1))
        at_next =
            ap (λ (x : RulePart). worked s b t x.levels x.rule x.start) after
            ∙ ap (λ (x : RulePart). worked s b t x.levels x.rule (end_at x.levels x.rule x.start)) is

        pub added : c / 16 ≡ 9 → (x y r : Attributes) → x ≡ worked s b t first.levels first.rule first.start → y ≡ worked s b t next.levels next.rule next.start
            → r ≡ add_of G x y → r ≡ worked s b t d q i
        added p x y r px py pr =
            pr
            ∙ ap (λ (v : Attributes). add_of G v y) (px ∙ at_first)
            ∙ ap (λ (v : Attributes). add_of G (worked s b t (d - 1) q (i + 1)) v) (py ∙ at_next)
            ∙ worked_add s b t d q i c nz lt e p

        pub multiplied : c / 16 ≡ 10 → (x y r : Attributes) → x ≡ worked s b t first.levels first.rule first.start → y ≡ worked s b t next.levels next.rule next.start
            → r ≡ mul_of G x y → r ≡ worked s b t d q i
        multiplied p x y r px py pr =
            pr
            ∙ ap (λ (v : Attributes). mul_of G v y) (px ∙ at_first)
            ∙ ap (λ (v : Attributes). mul_of G (worked s b t (d - 1) q (i + 1)) v) (py ∙ at_next)
            ∙ worked_mul s b t d q i c nz lt e p

  -- of the parts from i on, all but those from j on are summed
  pub record Summing (d q all i left j : ℕ) (S : Sum) : Type 0 where
    pub nodes : S.nodes + total_nodes (worked_all s b t d q left j) ≡ total_nodes (worked_all s b t d q all i)
    pub levels : max S.levels (most_levels (worked_all s b t d q left j)) ≡ most_levels (worked_all s b t d q all i)

  pub sum_start : (d q left i : ℕ) → Summing d q left i left i (record { nodes = 0; levels = 0 })
  sum_start d q left i = record { nodes = omega arith; levels = omega arith }

  module _ (d q all i left j : ℕ) (S : Sum) (w : Summing d q all i left j S) where
    pub sum_fits : all ≤ 3 → (S.nodes ≤ 49155) × (S.levels ≤ 129)
    sum_fits h = (omega (arith, w.nodes, all_nodes s b t d q all i), omega (arith, w.levels, all_levels s b t d q all i))

    module _ (z : left ≡ 0 → ⊥) (a : Declared.Attributes) (e : reading a ≡ worked s b t d q j) where
      opened_nodes : a.nodes + total_nodes (worked_all s b t d q (left - 1) (end_at d q j)) ≡ total_nodes (worked_all s b t d q left j)
      opened_nodes = ap (λ (x : Attributes). x.nodes + total_nodes (worked_all s b t d q (left - 1) (end_at d q j))) e ∙ sym (ap total_nodes (all_next s b t d q left j z))

      opened_levels : max a.levels (most_levels (worked_all s b t d q (left - 1) (end_at d q j))) ≡ most_levels (worked_all s b t d q left j)
      opened_levels = ap (λ (x : Attributes). max x.levels (most_levels (worked_all s b t d q (left - 1) (end_at d q j)))) e ∙ sym (ap most_levels (all_next s b t d q left j z))

      pub sum_room : all ≤ 3 → S.nodes + a.nodes ≤ 49155
      sum_room h = omega (arith, w.nodes, opened_nodes, all_nodes s b t d q all i)

      pub sum_next : (k l : ℕ) → k ≡ end_at d q j → l ≡ max S.levels a.levels → Summing d q all i (left - 1) k (record { nodes = S.nodes + a.nodes; levels = l })
      sum_next k l p m =
          subst (λ (x : ℕ). Summing d q all i (left - 1) x (record { nodes = S.nodes + a.nodes; levels = l })) (sym p)
          (record { nodes = omega (arith, w.nodes, opened_nodes); levels = omega (arith, w.levels, opened_levels, m) })

    pub sum_done : left ≡ 0 → over_sum S.nodes S.levels ≡ inner (worked_all s b t d q all i)
    sum_done z =
        let none = all_none s b t d q left j z in
        let n : S.nodes ≡ total_nodes (worked_all s b t d q all i) = omega (arith, w.nodes, ap total_nodes none) in
        let l : S.levels ≡ most_levels (worked_all s b t d q all i) = omega (arith, w.levels, ap most_levels none) in
        ap (λ (x : ℕ). over_sum x S.levels) n ∙ ap (λ (x : ℕ). over_sum (total_nodes (worked_all s b t d q all i)) x) l
