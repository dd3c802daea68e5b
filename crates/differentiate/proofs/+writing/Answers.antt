use mathlib.Core.Logic.{⊎_elim}
use Prim.Native.Nat.{ℕ, ◌+◌, ◌-◌, ◌%◌}
use native.Mathlib.Omega.{arith}
use mathlib.Core.Path.{◌≡◌, refl, ◌∙◌, sym, ap, subst}
use mathlib.Core.List.{[], ◌++◌, append_assoc, append-nil}
use Rattle.formula.specs.Node.{inner_fields}
use Rattle.derivative.specs.Records.{by_rule as record_of}
use Rattle.derivative.specs.Attributes.{attributes_of}
use Rattle.reader.proofs.Trees.{depth_pos}
use Rattle.rules.specs.Notation.{code_at, end_at}
use Rattle.rules.specs.declared.RulePart.{RulePart}
use Rattle.survey.specs.Derived.{derived_of}
use Rattle.survey.specs.Table.{tree, number_of}
use Rattle.survey.specs.declared.Row.{Row}
use Rattle.survey.proofs.Trees.{count_is}
use Rattle.survey.proofs.Worked.{writing}
use Rattle.survey.proofs.Steps.{tested}
use Rattle.differentiate.specs.Written.{bytes, arm_of, arm_node, copy_of, literal_part, recorded_of, part as part_of, parts_bytes, extremum_bytes, tie_bytes}
use Rattle.differentiate.proofs.Lists.{as_text, room_as, front, Begun, begun_none, begun_head, begun_room, begun_next, begun_last, begun_done}
use Rattle.differentiate.proofs.Leaves.{bytes_room, start_length}
use Rattle.differentiate.proofs.Texts.{text_none, text_long, text_zero, text_child, text_diff, text_whole, text_extremum, text_literal, text_unless_yes, text_unless_no, text_sum, text_product, text_head}
use Rattle.differentiate.proofs.Texts.{none_left, next_part, zero_test, one_test, sum_left, sum_right, sum_kept, product_left, product_right, one_left, one_right, product_kept, last_tie, next_tie, no_ties, all_ties, has_not, without_rule, by_rule, no_diff, task_as, diff_given, task_given}
use Rattle.differentiate.proofs.+writing.Goals as goal
use Rattle.differentiate.proofs.+writing.Goals.{write_product-then-is_zero-via-then-is_zero, write_product-then-is_zero-via-else-is_zero+then-is_zero-2}

pub differentiate-put_literal-requires : goal.differentiate-put_literal-requires
differentiate-put_literal-requires g t c =
    let part = c.args.part.now in
    let tree2 = tree part.node.formula.now part.node.number in
    bytes_room g.F.Form.records _ _ _
    (has_not g.F.Form.records part.by.symbol part.by.state part.node.formula.now part.node.rows.now part.node.number c.requires.known (ap (λ (r : Row). r.has) (sym c.row-has.ensures) ∙ c.if-not-has.true))
    c.requires.room

pub differentiate-returns-then-not-has : goal.differentiate-returns-then-not-has
differentiate-returns-then-not-has g t c =
    let part = c.args.part.now in
    let tree2 = tree part.node.formula.now part.node.number in
    as_text _ _ _ _ _
    (has_not g.F.Form.records part.by.symbol part.by.state part.node.formula.now part.node.rows.now part.node.number c.requires.known (ap (λ (r : Row). r.has) (sym c.row-has.ensures) ∙ c.if-not-has.true))
    c.put_literal.ensures

pub differentiate-write_rule-requires : goal.differentiate-write_rule-requires
differentiate-write_rule-requires g t c =
    let part = c.args.part.now in
    let tree2 = tree part.node.formula.now part.node.number in
    let levels = ap (λ (x : RulePart). x.levels) c.in-Some.ensures.0 in
    λ lives outlives. (
      omega (arith, levels),
      (
        outlives,
        (task_as part.by.symbol part.by.state part.node.formula.now part.node.rows.now part.node.number c.args.depth _ _ c.args.out.now
            (ap (λ (x : RulePart). bytes g.F.Form.records (part_of part.by.symbol part.by.state part.node.number tree2 x.levels x.rule x.start)) c.in-Some.ensures.0
            ∙ by_rule g.F.Form.records part.by.symbol part.by.state part.node.formula.now part.node.rows.now part.node.number c.requires.known (ap (λ (r : Row). r.has) (sym c.row-has.ensures) ∙ c.if-not-has.false) (number_of part.by.symbol part.by.state part.node.formula.now part.node.number) refl c.in-Some.ensures.1)
            c.requires),
      ),
    )

pub differentiate-returns-in-Some : goal.differentiate-returns-in-Some
differentiate-returns-in-Some g t c =
    let part = c.args.part.now in
    let tree2 = tree part.node.formula.now part.node.number in
    as_text _ _ _ _ _
    (ap (λ (x : RulePart). bytes g.F.Form.records (part_of part.by.symbol part.by.state part.node.number tree2 x.levels x.rule x.start)) c.in-Some.ensures.0
    ∙ by_rule g.F.Form.records part.by.symbol part.by.state part.node.formula.now part.node.rows.now part.node.number c.requires.known (ap (λ (r : Row). r.has) (sym c.row-has.ensures) ∙ c.if-not-has.false) (number_of part.by.symbol part.by.state part.node.formula.now part.node.number) refl c.in-Some.ensures.1)
    c.write_rule.ensures

pub differentiate-put_literal-requires-in-None : goal.differentiate-put_literal-requires-in-None
differentiate-put_literal-requires-in-None g t c =
    let part = c.args.part.now in
    let tree2 = tree part.node.formula.now part.node.number in
    bytes_room g.F.Form.records _ _ _
    (without_rule g.F.Form.records part.by.symbol part.by.state part.node.formula.now part.node.rows.now part.node.number c.requires.known (ap (λ (r : Row). r.has) (sym c.row-has.ensures) ∙ c.if-not-has.false) (number_of part.by.symbol part.by.state part.node.formula.now part.node.number) refl c.in-None.ensures)
    c.requires.room

pub differentiate-returns-in-None : goal.differentiate-returns-in-None
differentiate-returns-in-None g t c =
    let part = c.args.part.now in
    let tree2 = tree part.node.formula.now part.node.number in
    as_text _ _ _ _ _
    (without_rule g.F.Form.records part.by.symbol part.by.state part.node.formula.now part.node.rows.now part.node.number c.requires.known (ap (λ (r : Row). r.has) (sym c.row-has.ensures) ∙ c.if-not-has.false) (number_of part.by.symbol part.by.state part.node.formula.now part.node.number) refl c.in-None.ensures)
    c.put_literal-in-None.ensures

pub write_diff-overflow_sub-depth : goal.write_diff-overflow_sub-depth
write_diff-overflow_sub-depth g t c =
    let part = c.args.part.now in
    let tree2 = tree part.node.formula.now part.node.number in
    omega (arith, depth_pos tree2, c.requires.deep)

pub write_diff-differentiate-requires : goal.write_diff-differentiate-requires
write_diff-differentiate-requires g t c =
    let part = c.args.part.now in
    let tree2 = tree part.node.formula.now part.node.number in
    λ lives outlives. (omega arith, (outlives, task_given g.F.Form.records part.by.symbol part.by.state part.node.formula.now part.node.rows.now part.node.number c.args.i c.in-Some.node.formula.now c.in-Some.node.rows.now c.in-Some.node.number c.in-Some.ensures c.args.depth c.args.out.now c.requires))

pub write_diff-returns-in-Some : goal.write_diff-returns-in-Some
write_diff-returns-in-Some g t c =
    let part = c.args.part.now in
    let tree2 = tree part.node.formula.now part.node.number in
    as_text _ _ _ _ _
    (diff_given g.F.Form.records part.by.symbol part.by.state part.node.formula.now part.node.rows.now part.node.number c.args.i c.in-Some.node.formula.now c.in-Some.node.rows.now c.in-Some.node.number c.in-Some.ensures)
    c.differentiate.ensures

pub write_diff-put_literal-requires : goal.write_diff-put_literal-requires
write_diff-put_literal-requires g t c =
    let part = c.args.part.now in
    let tree2 = tree part.node.formula.now part.node.number in
    bytes_room g.F.Form.records _ _ _
    (no_diff g.F.Form.records part.by.symbol part.by.state part.node.formula.now part.node.number c.args.i part.node.owned.formed c.in-None.ensures)
    c.requires.room

pub write_diff-returns-in-None : goal.write_diff-returns-in-None
write_diff-returns-in-None g t c =
    let part = c.args.part.now in
    let tree2 = tree part.node.formula.now part.node.number in
    as_text _ _ _ _ _
    (no_diff g.F.Form.records part.by.symbol part.by.state part.node.formula.now part.node.number c.args.i part.node.owned.formed c.in-None.ensures)
    c.put_literal.ensures

pub write_extremum-put_literal-requires : goal.write_extremum-put_literal-requires
write_extremum-put_literal-requires g t c =
    let part = c.args.part.now in
    let tree2 = tree part.node.formula.now part.node.number in
    bytes_room g.F.Form.records _ _ _
    (no_ties g.F.Form.records part.by.symbol part.by.state part.node.number tree2 c.children-children.result
    (c.children-children.ensures.0 ∙ sym (count_is part.node.formula.now part.node.number part.node.owned.formed)) c.if-children-eq0.true)
    c.requires.room

pub write_extremum-returns-then-children-eq0 : goal.write_extremum-returns-then-children-eq0
write_extremum-returns-then-children-eq0 g t c =
    let part = c.args.part.now in
    let tree2 = tree part.node.formula.now part.node.number in
    as_text _ _ _ _ _
    (no_ties g.F.Form.records part.by.symbol part.by.state part.node.number tree2 c.children-children.result
    (c.children-children.ensures.0 ∙ sym (count_is part.node.formula.now part.node.number part.node.owned.formed)) c.if-children-eq0.true)
    c.put_literal.ensures

pub write_node-put_head-n-requires : goal.write_node-put_head-n-requires
write_node-put_head-n-requires g t c =
    let part = c.args.part.now in
    let tree2 = tree part.node.formula.now part.node.number in
    let head = c.args.head in
    let first = c.args.first in
    let rest = parts_bytes g.F.Form.records part.by.symbol part.by.state part.node.number tree2 first.levels first.rule head.children first.start in
    omega (
      arith,
      front (arm_node g.F.Form.records part.node.number tree2 head.kind head.operator head.children) rest c.args.out.now c.requires.room,
      start_length g.F.Form.records (record_of (arm_of tree2) part.node.number) (inner_fields head.kind head.operator head.children),
    )

pub write_sum-write_rule-requires : goal.write_sum-write_rule-requires
write_sum-write_rule-requires g t c =
    let part = c.args.part.now in
    let tree2 = tree part.node.formula.now part.node.number in
    let first = c.args.first in
    λ lives outlives. (
      omega (arith, ap (λ (x : RulePart). x.levels) c.next-second.ensures),
      (
        outlives,
        (task_as part.by.symbol part.by.state part.node.formula.now part.node.rows.now part.node.number c.args.depth _ _ c.args.out.now
            (sum_left g.F.Form.records part.by.symbol part.by.state part.node.number tree2 first.levels first.rule first.start c.next-second.result c.next-second.ensures (zero_test g.F.Form.records part.by.symbol part.by.state part.node.number tree2 first.levels first.rule first.start c.is_zero.result c.rule_attributes.result _ c.is_zero.ensures c.rule_attributes.ensures c.if-is_zero.true))
            c.requires),
      ),
    )

pub write_sum-returns-then-is_zero : goal.write_sum-returns-then-is_zero
write_sum-returns-then-is_zero g t c =
    let part = c.args.part.now in
    let tree2 = tree part.node.formula.now part.node.number in
    let first = c.args.first in
    as_text _ _ _ _ _
    (sum_left g.F.Form.records part.by.symbol part.by.state part.node.number tree2 first.levels first.rule first.start c.next-second.result c.next-second.ensures (zero_test g.F.Form.records part.by.symbol part.by.state part.node.number tree2 first.levels first.rule first.start c.is_zero.result c.rule_attributes.result _ c.is_zero.ensures c.rule_attributes.ensures c.if-is_zero.true))
    c.write_rule.ensures

pub write_sum-write_rule-requires-then-is_zero-2 : goal.write_sum-write_rule-requires-then-is_zero-2
write_sum-write_rule-requires-then-is_zero-2 g t c =
    let part = c.args.part.now in
    let tree2 = tree part.node.formula.now part.node.number in
    let first = c.args.first in
    λ lives outlives. (
      omega (arith, ap (λ (x : RulePart). x.levels) c.next-second.ensures),
      (
        outlives,
        (task_as part.by.symbol part.by.state part.node.formula.now part.node.rows.now part.node.number c.args.depth _ _ c.args.out.now
            (sum_right g.F.Form.records part.by.symbol part.by.state part.node.number tree2 first.levels first.rule first.start c.next-second.result c.next-second.ensures (zero_test g.F.Form.records part.by.symbol part.by.state part.node.number tree2 first.levels first.rule first.start c.is_zero.result c.rule_attributes.result _ c.is_zero.ensures c.rule_attributes.ensures c.if-is_zero.false) (zero_test g.F.Form.records part.by.symbol part.by.state part.node.number tree2 c.next-second.result.levels c.next-second.result.rule c.next-second.result.start c.is_zero-2.result c.rule_attributes-2.result _ c.is_zero-2.ensures c.rule_attributes-2.ensures c.if-is_zero-2.true))
            c.requires),
      ),
    )

pub write_sum-returns-then-is_zero-2 : goal.write_sum-returns-then-is_zero-2
write_sum-returns-then-is_zero-2 g t c =
    let part = c.args.part.now in
    let tree2 = tree part.node.formula.now part.node.number in
    let first = c.args.first in
    as_text _ _ _ _ _
    (sum_right g.F.Form.records part.by.symbol part.by.state part.node.number tree2 first.levels first.rule first.start c.next-second.result c.next-second.ensures (zero_test g.F.Form.records part.by.symbol part.by.state part.node.number tree2 first.levels first.rule first.start c.is_zero.result c.rule_attributes.result _ c.is_zero.ensures c.rule_attributes.ensures c.if-is_zero.false) (zero_test g.F.Form.records part.by.symbol part.by.state part.node.number tree2 c.next-second.result.levels c.next-second.result.rule c.next-second.result.start c.is_zero-2.result c.rule_attributes-2.result _ c.is_zero-2.ensures c.rule_attributes-2.ensures c.if-is_zero-2.true))
    c.write_rule-then-is_zero-2.ensures

pub write_sum-write_node-requires : goal.write_sum-write_node-requires
write_sum-write_node-requires g t c =
    let part = c.args.part.now in
    let tree2 = tree part.node.formula.now part.node.number in
    let first = c.args.first in
    λ lives outlives. (
      omega arith,
      (
        outlives,
        (task_as part.by.symbol part.by.state part.node.formula.now part.node.rows.now part.node.number c.args.depth _ _ c.args.out.now
            (sum_kept g.F.Form.records part.by.symbol part.by.state part.node.number tree2 first.levels first.rule first.start c.next-second.result c.next-second.ensures (zero_test g.F.Form.records part.by.symbol part.by.state part.node.number tree2 first.levels first.rule first.start c.is_zero.result c.rule_attributes.result _ c.is_zero.ensures c.rule_attributes.ensures c.if-is_zero.false) (zero_test g.F.Form.records part.by.symbol part.by.state part.node.number tree2 c.next-second.result.levels c.next-second.result.rule c.next-second.result.start c.is_zero-2.result c.rule_attributes-2.result _ c.is_zero-2.ensures c.rule_attributes-2.ensures c.if-is_zero-2.false))
            c.requires),
      ),
    )

pub write_sum-returns : goal.write_sum-returns
write_sum-returns g t c =
    let part = c.args.part.now in
    let tree2 = tree part.node.formula.now part.node.number in
    let first = c.args.first in
    as_text _ _ _ _ _
    (sum_kept g.F.Form.records part.by.symbol part.by.state part.node.number tree2 first.levels first.rule first.start c.next-second.result c.next-second.ensures (zero_test g.F.Form.records part.by.symbol part.by.state part.node.number tree2 first.levels first.rule first.start c.is_zero.result c.rule_attributes.result _ c.is_zero.ensures c.rule_attributes.ensures c.if-is_zero.false) (zero_test g.F.Form.records part.by.symbol part.by.state part.node.number tree2 c.next-second.result.levels c.next-second.result.rule c.next-second.result.start c.is_zero-2.result c.rule_attributes-2.result _ c.is_zero-2.ensures c.rule_attributes-2.ensures c.if-is_zero-2.false))
    c.write_node.ensures

pub write_product-put_literal-requires : goal.write_product-put_literal-requires
write_product-put_literal-requires g t c =
    let part = c.args.part.now in
    let tree2 = tree part.node.formula.now part.node.number in
    let first = c.args.first in
    bytes_room g.F.Form.records _ _ _
    (elim c.then-is_zero.branch [
      | write_product-then-is_zero-via-then-is_zero w ↦
          product_left g.F.Form.records part.by.symbol part.by.state part.node.number tree2 first.levels first.rule first.start c.next-second.result c.next-second.ensures
          (zero_test g.F.Form.records part.by.symbol part.by.state part.node.number tree2 first.levels first.rule first.start c.is_zero.result c.rule_attributes-a.result _ c.is_zero.ensures c.rule_attributes-a.ensures w.if-is_zero.true)
      | write_product-then-is_zero-via-else-is_zero+then-is_zero-2 w ↦
          product_right g.F.Form.records part.by.symbol part.by.state part.node.number tree2 first.levels first.rule first.start c.next-second.result c.next-second.ensures
          (zero_test g.F.Form.records part.by.symbol part.by.state part.node.number tree2 first.levels first.rule first.start c.is_zero.result c.rule_attributes-a.result _ c.is_zero.ensures c.rule_attributes-a.ensures w.if-is_zero.false)
          (zero_test g.F.Form.records part.by.symbol part.by.state part.node.number tree2 c.next-second.result.levels c.next-second.result.rule c.next-second.result.start w.is_zero-else-is_zero.result c.rule_attributes-b.result _ w.is_zero-else-is_zero.ensures c.rule_attributes-b.ensures w.if-is_zero-2.true)
    ])
    c.requires.room

pub write_product-returns-then-is_zero : goal.write_product-returns-then-is_zero
write_product-returns-then-is_zero g t c =
    let part = c.args.part.now in
    let tree2 = tree part.node.formula.now part.node.number in
    let first = c.args.first in
    as_text _ _ _ _ _
    (elim c.then-is_zero.branch [
      | write_product-then-is_zero-via-then-is_zero w ↦
          product_left g.F.Form.records part.by.symbol part.by.state part.node.number tree2 first.levels first.rule first.start c.next-second.result c.next-second.ensures
          (zero_test g.F.Form.records part.by.symbol part.by.state part.node.number tree2 first.levels first.rule first.start c.is_zero.result c.rule_attributes-a.result _ c.is_zero.ensures c.rule_attributes-a.ensures w.if-is_zero.true)
      | write_product-then-is_zero-via-else-is_zero+then-is_zero-2 w ↦
          product_right g.F.Form.records part.by.symbol part.by.state part.node.number tree2 first.levels first.rule first.start c.next-second.result c.next-second.ensures
          (zero_test g.F.Form.records part.by.symbol part.by.state part.node.number tree2 first.levels first.rule first.start c.is_zero.result c.rule_attributes-a.result _ c.is_zero.ensures c.rule_attributes-a.ensures w.if-is_zero.false)
          (zero_test g.F.Form.records part.by.symbol part.by.state part.node.number tree2 c.next-second.result.levels c.next-second.result.rule c.next-second.result.start w.is_zero-else-is_zero.result c.rule_attributes-b.result _ w.is_zero-else-is_zero.ensures c.rule_attributes-b.ensures w.if-is_zero-2.true)
    ])
    c.put_literal.ensures

pub write_product-write_rule-requires : goal.write_product-write_rule-requires
write_product-write_rule-requires g t c =
    let part = c.args.part.now in
    let tree2 = tree part.node.formula.now part.node.number in
    let first = c.args.first in
    λ lives outlives. (
      omega (arith, ap (λ (x : RulePart). x.levels) c.next-second.ensures),
      (
        outlives,
        (task_as part.by.symbol part.by.state part.node.formula.now part.node.rows.now part.node.number c.args.depth _ _ c.args.out.now
            (one_left g.F.Form.records part.by.symbol part.by.state part.node.number tree2 first.levels first.rule first.start c.next-second.result c.next-second.ensures (zero_test g.F.Form.records part.by.symbol part.by.state part.node.number tree2 first.levels first.rule first.start c.is_zero.result c.rule_attributes-a.result _ c.is_zero.ensures c.rule_attributes-a.ensures c.if-is_zero.false) (zero_test g.F.Form.records part.by.symbol part.by.state part.node.number tree2 c.next-second.result.levels c.next-second.result.rule c.next-second.result.start c.is_zero-else-is_zero.result c.rule_attributes-b.result _ c.is_zero-else-is_zero.ensures c.rule_attributes-b.ensures c.if-is_zero-2.false) (one_test g.F.Form.records part.by.symbol part.by.state part.node.number tree2 first.levels first.rule first.start c.is_one.result c.rule_attributes-a.result _ c.is_one.ensures c.rule_attributes-a.ensures c.if-is_one.true))
            c.requires),
      ),
    )

pub write_product-returns-then-is_one : goal.write_product-returns-then-is_one
write_product-returns-then-is_one g t c =
    let part = c.args.part.now in
    let tree2 = tree part.node.formula.now part.node.number in
    let first = c.args.first in
    as_text _ _ _ _ _
    (one_left g.F.Form.records part.by.symbol part.by.state part.node.number tree2 first.levels first.rule first.start c.next-second.result c.next-second.ensures (zero_test g.F.Form.records part.by.symbol part.by.state part.node.number tree2 first.levels first.rule first.start c.is_zero.result c.rule_attributes-a.result _ c.is_zero.ensures c.rule_attributes-a.ensures c.if-is_zero.false) (zero_test g.F.Form.records part.by.symbol part.by.state part.node.number tree2 c.next-second.result.levels c.next-second.result.rule c.next-second.result.start c.is_zero-else-is_zero.result c.rule_attributes-b.result _ c.is_zero-else-is_zero.ensures c.rule_attributes-b.ensures c.if-is_zero-2.false) (one_test g.F.Form.records part.by.symbol part.by.state part.node.number tree2 first.levels first.rule first.start c.is_one.result c.rule_attributes-a.result _ c.is_one.ensures c.rule_attributes-a.ensures c.if-is_one.true))
    c.write_rule.ensures

pub write_product-write_rule-requires-then-is_one-2 : goal.write_product-write_rule-requires-then-is_one-2
write_product-write_rule-requires-then-is_one-2 g t c =
    let part = c.args.part.now in
    let tree2 = tree part.node.formula.now part.node.number in
    let first = c.args.first in
    λ lives outlives. (
      omega (arith, ap (λ (x : RulePart). x.levels) c.next-second.ensures),
      (
        outlives,
        (task_as part.by.symbol part.by.state part.node.formula.now part.node.rows.now part.node.number c.args.depth _ _ c.args.out.now
            (one_right g.F.Form.records part.by.symbol part.by.state part.node.number tree2 first.levels first.rule first.start c.next-second.result c.next-second.ensures (zero_test g.F.Form.records part.by.symbol part.by.state part.node.number tree2 first.levels first.rule first.start c.is_zero.result c.rule_attributes-a.result _ c.is_zero.ensures c.rule_attributes-a.ensures c.if-is_zero.false) (zero_test g.F.Form.records part.by.symbol part.by.state part.node.number tree2 c.next-second.result.levels c.next-second.result.rule c.next-second.result.start c.is_zero-else-is_zero.result c.rule_attributes-b.result _ c.is_zero-else-is_zero.ensures c.rule_attributes-b.ensures c.if-is_zero-2.false) (one_test g.F.Form.records part.by.symbol part.by.state part.node.number tree2 first.levels first.rule first.start c.is_one.result c.rule_attributes-a.result _ c.is_one.ensures c.rule_attributes-a.ensures c.if-is_one.false) (one_test g.F.Form.records part.by.symbol part.by.state part.node.number tree2 c.next-second.result.levels c.next-second.result.rule c.next-second.result.start c.is_one-2.result c.rule_attributes-b.result _ c.is_one-2.ensures c.rule_attributes-b.ensures c.if-is_one-2.true))
            c.requires),
      ),
    )

pub write_product-returns-then-is_one-2 : goal.write_product-returns-then-is_one-2
write_product-returns-then-is_one-2 g t c =
    let part = c.args.part.now in
    let tree2 = tree part.node.formula.now part.node.number in
    let first = c.args.first in
    as_text _ _ _ _ _
    (one_right g.F.Form.records part.by.symbol part.by.state part.node.number tree2 first.levels first.rule first.start c.next-second.result c.next-second.ensures (zero_test g.F.Form.records part.by.symbol part.by.state part.node.number tree2 first.levels first.rule first.start c.is_zero.result c.rule_attributes-a.result _ c.is_zero.ensures c.rule_attributes-a.ensures c.if-is_zero.false) (zero_test g.F.Form.records part.by.symbol part.by.state part.node.number tree2 c.next-second.result.levels c.next-second.result.rule c.next-second.result.start c.is_zero-else-is_zero.result c.rule_attributes-b.result _ c.is_zero-else-is_zero.ensures c.rule_attributes-b.ensures c.if-is_zero-2.false) (one_test g.F.Form.records part.by.symbol part.by.state part.node.number tree2 first.levels first.rule first.start c.is_one.result c.rule_attributes-a.result _ c.is_one.ensures c.rule_attributes-a.ensures c.if-is_one.false) (one_test g.F.Form.records part.by.symbol part.by.state part.node.number tree2 c.next-second.result.levels c.next-second.result.rule c.next-second.result.start c.is_one-2.result c.rule_attributes-b.result _ c.is_one-2.ensures c.rule_attributes-b.ensures c.if-is_one-2.true))
    c.write_rule-then-is_one-2.ensures

pub write_product-write_node-requires : goal.write_product-write_node-requires
write_product-write_node-requires g t c =
    let part = c.args.part.now in
    let tree2 = tree part.node.formula.now part.node.number in
    let first = c.args.first in
    λ lives outlives. (
      omega arith,
      (
        outlives,
        (task_as part.by.symbol part.by.state part.node.formula.now part.node.rows.now part.node.number c.args.depth _ _ c.args.out.now
            (product_kept g.F.Form.records part.by.symbol part.by.state part.node.number tree2 first.levels first.rule first.start c.next-second.result c.next-second.ensures (zero_test g.F.Form.records part.by.symbol part.by.state part.node.number tree2 first.levels first.rule first.start c.is_zero.result c.rule_attributes-a.result _ c.is_zero.ensures c.rule_attributes-a.ensures c.if-is_zero.false) (zero_test g.F.Form.records part.by.symbol part.by.state part.node.number tree2 c.next-second.result.levels c.next-second.result.rule c.next-second.result.start c.is_zero-else-is_zero.result c.rule_attributes-b.result _ c.is_zero-else-is_zero.ensures c.rule_attributes-b.ensures c.if-is_zero-2.false) (one_test g.F.Form.records part.by.symbol part.by.state part.node.number tree2 first.levels first.rule first.start c.is_one.result c.rule_attributes-a.result _ c.is_one.ensures c.rule_attributes-a.ensures c.if-is_one.false) (one_test g.F.Form.records part.by.symbol part.by.state part.node.number tree2 c.next-second.result.levels c.next-second.result.rule c.next-second.result.start c.is_one-2.result c.rule_attributes-b.result _ c.is_one-2.ensures c.rule_attributes-b.ensures c.if-is_one-2.false))
            c.requires),
      ),
    )

pub write_product-returns : goal.write_product-returns
write_product-returns g t c =
    let part = c.args.part.now in
    let tree2 = tree part.node.formula.now part.node.number in
    let first = c.args.first in
    as_text _ _ _ _ _
    (product_kept g.F.Form.records part.by.symbol part.by.state part.node.number tree2 first.levels first.rule first.start c.next-second.result c.next-second.ensures (zero_test g.F.Form.records part.by.symbol part.by.state part.node.number tree2 first.levels first.rule first.start c.is_zero.result c.rule_attributes-a.result _ c.is_zero.ensures c.rule_attributes-a.ensures c.if-is_zero.false) (zero_test g.F.Form.records part.by.symbol part.by.state part.node.number tree2 c.next-second.result.levels c.next-second.result.rule c.next-second.result.start c.is_zero-else-is_zero.result c.rule_attributes-b.result _ c.is_zero-else-is_zero.ensures c.rule_attributes-b.ensures c.if-is_zero-2.false) (one_test g.F.Form.records part.by.symbol part.by.state part.node.number tree2 first.levels first.rule first.start c.is_one.result c.rule_attributes-a.result _ c.is_one.ensures c.rule_attributes-a.ensures c.if-is_one.false) (one_test g.F.Form.records part.by.symbol part.by.state part.node.number tree2 c.next-second.result.levels c.next-second.result.rule c.next-second.result.start c.is_one-2.result c.rule_attributes-b.result _ c.is_one-2.ensures c.rule_attributes-b.ensures c.if-is_one-2.false))
    c.write_node.ensures

pub write_rule-put_literal-requires : goal.write_rule-put_literal-requires
write_rule-put_literal-requires g t c =
    let part = c.args.part.now in
    let tree2 = tree part.node.formula.now part.node.number in
    let here = c.args.here in
    let number = code_at here.rule here.start in
    bytes_room g.F.Form.records _ _ _
    (⊎_elim (λ w. text_none g.F.Form.records part.by.symbol part.by.state part.node.number tree2 here.levels here.rule here.start w)
    (λ w. text_long g.F.Form.records part.by.symbol part.by.state part.node.number tree2 here.levels here.rule here.start w.1) c.then-here-eq0.either)
    c.requires.room

pub write_rule-returns-then-here-eq0 : goal.write_rule-returns-then-here-eq0
write_rule-returns-then-here-eq0 g t c =
    let part = c.args.part.now in
    let tree2 = tree part.node.formula.now part.node.number in
    let here = c.args.here in
    let number = code_at here.rule here.start in
    as_text _ _ _ _ _
    (⊎_elim (λ w. text_none g.F.Form.records part.by.symbol part.by.state part.node.number tree2 here.levels here.rule here.start w)
    (λ w. text_long g.F.Form.records part.by.symbol part.by.state part.node.number tree2 here.levels here.rule here.start w.1) c.then-here-eq0.either)
    c.put_literal.ensures

pub write_rule-put_literal-requires-in-Nothing : goal.write_rule-put_literal-requires-in-Nothing
write_rule-put_literal-requires-in-Nothing g t c =
    let part = c.args.part.now in
    let tree2 = tree part.node.formula.now part.node.number in
    let here = c.args.here in
    let number = code_at here.rule here.start in
    bytes_room g.F.Form.records _ _ _
    (text_zero g.F.Form.records part.by.symbol part.by.state part.node.number tree2 here.levels here.rule here.start number c.if-here-eq0.false c.if-here-ge128.false refl (sym c.in-Nothing.ensures.kind))
    c.requires.room

pub write_rule-returns-in-Nothing : goal.write_rule-returns-in-Nothing
write_rule-returns-in-Nothing g t c =
    let part = c.args.part.now in
    let tree2 = tree part.node.formula.now part.node.number in
    let here = c.args.here in
    let number = code_at here.rule here.start in
    as_text _ _ _ _ _
    (text_zero g.F.Form.records part.by.symbol part.by.state part.node.number tree2 here.levels here.rule here.start number c.if-here-eq0.false c.if-here-ge128.false refl (sym c.in-Nothing.ensures.kind))
    c.put_literal-in-Nothing.ensures

pub write_rule-put_child-requires : goal.write_rule-put_child-requires
write_rule-put_child-requires g t c =
    let part = c.args.part.now in
    let tree2 = tree part.node.formula.now part.node.number in
    let here = c.args.here in
    let number = code_at here.rule here.start in
    room_as _ _ _
    (ap (λ (x : ℕ). bytes g.F.Form.records (copy_of part.node.number tree2 x)) c.in-Child.ensures.which ∙ text_child g.F.Form.records part.by.symbol part.by.state part.node.number tree2 here.levels here.rule here.start number c.if-here-eq0.false c.if-here-ge128.false refl (sym c.in-Child.ensures.kind))
    c.requires.room

pub write_rule-returns-in-Child : goal.write_rule-returns-in-Child
write_rule-returns-in-Child g t c =
    let part = c.args.part.now in
    let tree2 = tree part.node.formula.now part.node.number in
    let here = c.args.here in
    let number = code_at here.rule here.start in
    as_text _ _ _ _ _
    (ap (λ (x : ℕ). bytes g.F.Form.records (copy_of part.node.number tree2 x)) c.in-Child.ensures.which ∙ text_child g.F.Form.records part.by.symbol part.by.state part.node.number tree2 here.levels here.rule here.start number c.if-here-eq0.false c.if-here-ge128.false refl (sym c.in-Child.ensures.kind))
    c.put_child.ensures

pub write_rule-put_copy-requires : goal.write_rule-put_copy-requires
write_rule-put_copy-requires g t c =
    let part = c.args.part.now in
    let tree2 = tree part.node.formula.now part.node.number in
    let here = c.args.here in
    let number = code_at here.rule here.start in
    room_as _ _ _
    (text_whole g.F.Form.records part.by.symbol part.by.state part.node.number tree2 here.levels here.rule here.start number c.if-here-eq0.false c.if-here-ge128.false refl (sym c.in-Whole.ensures.kind))
    c.requires.room

pub write_rule-returns-in-Whole : goal.write_rule-returns-in-Whole
write_rule-returns-in-Whole g t c =
    let part = c.args.part.now in
    let tree2 = tree part.node.formula.now part.node.number in
    let here = c.args.here in
    let number = code_at here.rule here.start in
    as_text _ _ _ _ _
    (text_whole g.F.Form.records part.by.symbol part.by.state part.node.number tree2 here.levels here.rule here.start number c.if-here-eq0.false c.if-here-ge128.false refl (sym c.in-Whole.ensures.kind))
    c.put_copy.ensures

pub write_rule-put_rule_literal-requires : goal.write_rule-put_rule_literal-requires
write_rule-put_rule_literal-requires g t c =
    let part = c.args.part.now in
    let tree2 = tree part.node.formula.now part.node.number in
    let here = c.args.here in
    let number = code_at here.rule here.start in
    bytes_room g.F.Form.records _ _ _
    (ap (λ (x : ℕ). bytes g.F.Form.records (literal_part part.node.number tree2 x)) c.in-Literal.ensures.which ∙ text_literal g.F.Form.records part.by.symbol part.by.state part.node.number tree2 here.levels here.rule here.start number c.if-here-eq0.false c.if-here-ge128.false refl (omega (arith, c.in-Literal.ensures.kind)))
    c.requires.room

pub write_rule-returns-in-Literal : goal.write_rule-returns-in-Literal
write_rule-returns-in-Literal g t c =
    let part = c.args.part.now in
    let tree2 = tree part.node.formula.now part.node.number in
    let here = c.args.here in
    let number = code_at here.rule here.start in
    as_text _ _ _ _ _
    (ap (λ (x : ℕ). bytes g.F.Form.records (literal_part part.node.number tree2 x)) c.in-Literal.ensures.which ∙ text_literal g.F.Form.records part.by.symbol part.by.state part.node.number tree2 here.levels here.rule here.start number c.if-here-eq0.false c.if-here-ge128.false refl (omega (arith, c.in-Literal.ensures.kind)))
    c.put_rule_literal.ensures

pub write_rule-write_diff-requires : goal.write_rule-write_diff-requires
write_rule-write_diff-requires g t c =
    let part = c.args.part.now in
    let tree2 = tree part.node.formula.now part.node.number in
    let here = c.args.here in
    let number = code_at here.rule here.start in
    λ lives outlives. (
      omega (arith, c.if-here-eq0.false, depth_pos tree2, c.requires.deep),
      (
        outlives,
        (task_as part.by.symbol part.by.state part.node.formula.now part.node.rows.now part.node.number c.args.depth _ _ c.args.out.now
            (ap (λ (x : ℕ). bytes g.F.Form.records (recorded_of part.by.symbol part.by.state part.node.number tree2 x)) c.in-Derivative.ensures.which ∙ text_diff g.F.Form.records part.by.symbol part.by.state part.node.number tree2 here.levels here.rule here.start number c.if-here-eq0.false c.if-here-ge128.false refl (sym c.in-Derivative.ensures.kind))
            c.requires),
      ),
    )

pub write_rule-returns-in-Derivative : goal.write_rule-returns-in-Derivative
write_rule-returns-in-Derivative g t c =
    let part = c.args.part.now in
    let tree2 = tree part.node.formula.now part.node.number in
    let here = c.args.here in
    let number = code_at here.rule here.start in
    as_text _ _ _ _ _
    (ap (λ (x : ℕ). bytes g.F.Form.records (recorded_of part.by.symbol part.by.state part.node.number tree2 x)) c.in-Derivative.ensures.which ∙ text_diff g.F.Form.records part.by.symbol part.by.state part.node.number tree2 here.levels here.rule here.start number c.if-here-eq0.false c.if-here-ge128.false refl (sym c.in-Derivative.ensures.kind))
    c.write_diff.ensures

pub write_rule-write_sum-requires : goal.write_rule-write_sum-requires
write_rule-write_sum-requires g t c =
    let part = c.args.part.now in
    let tree2 = tree part.node.formula.now part.node.number in
    let here = c.args.here in
    let number = code_at here.rule here.start in
    λ lives outlives. (
      omega (arith, ap (λ (x : RulePart). x.levels) c.first-first.ensures, c.if-here-eq0.false, depth_pos tree2, c.requires.deep),
      (
        outlives,
        (task_as part.by.symbol part.by.state part.node.formula.now part.node.rows.now part.node.number c.args.depth _ _ c.args.out.now
            (text_sum g.F.Form.records part.by.symbol part.by.state part.node.number tree2 here.levels here.rule here.start number c.if-here-eq0.false c.if-here-ge128.false refl c.first-first.result c.first-first.ensures (sym c.in-Add.ensures.kind))
            c.requires),
      ),
    )

pub write_rule-returns-in-Add : goal.write_rule-returns-in-Add
write_rule-returns-in-Add g t c =
    let part = c.args.part.now in
    let tree2 = tree part.node.formula.now part.node.number in
    let here = c.args.here in
    let number = code_at here.rule here.start in
    as_text _ _ _ _ _
    (text_sum g.F.Form.records part.by.symbol part.by.state part.node.number tree2 here.levels here.rule here.start number c.if-here-eq0.false c.if-here-ge128.false refl c.first-first.result c.first-first.ensures (sym c.in-Add.ensures.kind))
    c.write_sum.ensures

pub write_rule-write_product-requires : goal.write_rule-write_product-requires
write_rule-write_product-requires g t c =
    let part = c.args.part.now in
    let tree2 = tree part.node.formula.now part.node.number in
    let here = c.args.here in
    let number = code_at here.rule here.start in
    λ lives outlives. (
      omega (arith, ap (λ (x : RulePart). x.levels) c.first-first.ensures, c.if-here-eq0.false, depth_pos tree2, c.requires.deep),
      (
        outlives,
        (task_as part.by.symbol part.by.state part.node.formula.now part.node.rows.now part.node.number c.args.depth _ _ c.args.out.now
            (text_product g.F.Form.records part.by.symbol part.by.state part.node.number tree2 here.levels here.rule here.start number c.if-here-eq0.false c.if-here-ge128.false refl c.first-first.result c.first-first.ensures (sym c.in-Multiply.ensures.kind))
            c.requires),
      ),
    )

pub write_rule-returns-in-Multiply : goal.write_rule-returns-in-Multiply
write_rule-returns-in-Multiply g t c =
    let part = c.args.part.now in
    let tree2 = tree part.node.formula.now part.node.number in
    let here = c.args.here in
    let number = code_at here.rule here.start in
    as_text _ _ _ _ _
    (text_product g.F.Form.records part.by.symbol part.by.state part.node.number tree2 here.levels here.rule here.start number c.if-here-eq0.false c.if-here-ge128.false refl c.first-first.result c.first-first.ensures (sym c.in-Multiply.ensures.kind))
    c.write_product.ensures

pub write_rule-write_extremum-requires : goal.write_rule-write_extremum-requires
write_rule-write_extremum-requires g t c =
    let part = c.args.part.now in
    let tree2 = tree part.node.formula.now part.node.number in
    let here = c.args.here in
    let number = code_at here.rule here.start in
    λ lives outlives. (
      omega (arith, c.if-here-eq0.false, depth_pos tree2, c.requires.deep),
      (
        outlives,
        (task_as part.by.symbol part.by.state part.node.formula.now part.node.rows.now part.node.number c.args.depth _ _ c.args.out.now
            (text_extremum g.F.Form.records part.by.symbol part.by.state part.node.number tree2 here.levels here.rule here.start number c.if-here-eq0.false c.if-here-ge128.false refl (sym c.in-Extremum.ensures.kind))
            c.requires),
      ),
    )

pub write_rule-returns-in-Extremum : goal.write_rule-returns-in-Extremum
write_rule-returns-in-Extremum g t c =
    let part = c.args.part.now in
    let tree2 = tree part.node.formula.now part.node.number in
    let here = c.args.here in
    let number = code_at here.rule here.start in
    as_text _ _ _ _ _
    (text_extremum g.F.Form.records part.by.symbol part.by.state part.node.number tree2 here.levels here.rule here.start number c.if-here-eq0.false c.if-here-ge128.false refl (sym c.in-Extremum.ensures.kind))
    c.write_extremum.ensures

pub write_rule-write_node-requires : goal.write_rule-write_node-requires
write_rule-write_node-requires g t c =
    let part = c.args.part.now in
    let tree2 = tree part.node.formula.now part.node.number in
    let here = c.args.here in
    let number = code_at here.rule here.start in
    λ lives outlives. (
      omega (arith, ap (λ (x : RulePart). x.levels) c.first-first.ensures, c.if-here-eq0.false),
      (
        outlives,
        (task_as part.by.symbol part.by.state part.node.formula.now part.node.rows.now part.node.number c.args.depth _ _ c.args.out.now
            (text_head g.F.Form.records part.by.symbol part.by.state part.node.number tree2 here.levels here.rule here.start number c.if-here-eq0.false c.if-here-ge128.false refl c.first-first.result c.first-first.ensures c.in-Node.head.kind c.in-Node.head.operator c.in-Node.head.children c.in-Node.ensures.kind c.in-Node.ensures.which
            c.in-Node.ensures.parts_follow (writing number (sym c.in-Node.ensures.node)))
            c.requires),
      ),
    )

pub write_rule-returns-in-Node : goal.write_rule-returns-in-Node
write_rule-returns-in-Node g t c =
    let part = c.args.part.now in
    let tree2 = tree part.node.formula.now part.node.number in
    let here = c.args.here in
    let number = code_at here.rule here.start in
    as_text _ _ _ _ _
    (text_head g.F.Form.records part.by.symbol part.by.state part.node.number tree2 here.levels here.rule here.start number c.if-here-eq0.false c.if-here-ge128.false refl c.first-first.result c.first-first.ensures c.in-Node.head.kind c.in-Node.head.operator c.in-Node.head.children c.in-Node.ensures.kind c.in-Node.ensures.which
    c.in-Node.ensures.parts_follow (writing number (sym c.in-Node.ensures.node)))
    c.write_node.ensures

pub write_rule-put_literal-requires-then-is_zero : goal.write_rule-put_literal-requires-then-is_zero
write_rule-put_literal-requires-then-is_zero g t c =
    let part = c.args.part.now in
    let tree2 = tree part.node.formula.now part.node.number in
    let here = c.args.here in
    let number = code_at here.rule here.start in
    bytes_room g.F.Form.records _ _ _
    (text_unless_yes g.F.Form.records part.by.symbol part.by.state part.node.number tree2 here.levels here.rule here.start number c.if-here-eq0.false c.if-here-ge128.false refl (sym c.in-Unless.ensures.kind)
    (tested c.is_zero.result c.diff_attributes.result (derived_of part.by.symbol part.by.state tree2 (number % 16)) _ c.is_zero.ensures
    (c.diff_attributes.ensures ∙ ap (λ (x : ℕ). attributes_of (derived_of part.by.symbol part.by.state tree2 x)) c.in-Unless.ensures.which) c.if-is_zero.true))
    c.requires.room

pub write_rule-returns-then-is_zero : goal.write_rule-returns-then-is_zero
write_rule-returns-then-is_zero g t c =
    let part = c.args.part.now in
    let tree2 = tree part.node.formula.now part.node.number in
    let here = c.args.here in
    let number = code_at here.rule here.start in
    as_text _ _ _ _ _
    (text_unless_yes g.F.Form.records part.by.symbol part.by.state part.node.number tree2 here.levels here.rule here.start number c.if-here-eq0.false c.if-here-ge128.false refl (sym c.in-Unless.ensures.kind)
    (tested c.is_zero.result c.diff_attributes.result (derived_of part.by.symbol part.by.state tree2 (number % 16)) _ c.is_zero.ensures
    (c.diff_attributes.ensures ∙ ap (λ (x : ℕ). attributes_of (derived_of part.by.symbol part.by.state tree2 x)) c.in-Unless.ensures.which) c.if-is_zero.true))
    c.put_literal-then-is_zero.ensures

pub write_rule-write_rule-requires : goal.write_rule-write_rule-requires
write_rule-write_rule-requires g t c =
    let part = c.args.part.now in
    let tree2 = tree part.node.formula.now part.node.number in
    let here = c.args.here in
    let number = code_at here.rule here.start in
    λ lives outlives. (
      omega (arith, ap (λ (x : RulePart). x.levels) c.first-first.ensures, c.if-here-eq0.false),
      (
        outlives,
        (task_as part.by.symbol part.by.state part.node.formula.now part.node.rows.now part.node.number c.args.depth _ _ c.args.out.now
            (text_unless_no g.F.Form.records part.by.symbol part.by.state part.node.number tree2 here.levels here.rule here.start number c.if-here-eq0.false c.if-here-ge128.false refl c.first-first.result c.first-first.ensures (sym c.in-Unless.ensures.kind)
            (tested c.is_zero.result c.diff_attributes.result (derived_of part.by.symbol part.by.state tree2 (number % 16)) _ c.is_zero.ensures
            (c.diff_attributes.ensures ∙ ap (λ (x : ℕ). attributes_of (derived_of part.by.symbol part.by.state tree2 x)) c.in-Unless.ensures.which) c.if-is_zero.false))
            c.requires),
      ),
    )

pub write_rule-returns-else-is_zero : goal.write_rule-returns-else-is_zero
write_rule-returns-else-is_zero g t c =
    let part = c.args.part.now in
    let tree2 = tree part.node.formula.now part.node.number in
    let here = c.args.here in
    let number = code_at here.rule here.start in
    as_text _ _ _ _ _
    (text_unless_no g.F.Form.records part.by.symbol part.by.state part.node.number tree2 here.levels here.rule here.start number c.if-here-eq0.false c.if-here-ge128.false refl c.first-first.result c.first-first.ensures (sym c.in-Unless.ensures.kind)
    (tested c.is_zero.result c.diff_attributes.result (derived_of part.by.symbol part.by.state tree2 (number % 16)) _ c.is_zero.ensures
    (c.diff_attributes.ensures ∙ ap (λ (x : ℕ). attributes_of (derived_of part.by.symbol part.by.state tree2 x)) c.in-Unless.ensures.which) c.if-is_zero.false))
    c.write_rule.ensures

pub write_node-loop-part-init : goal.write_node-loop-part-init
write_node-loop-part-init g t c =
    let part = c.args.part.now in
    let tree2 = tree part.node.formula.now part.node.number in
    let head = c.args.head in
    let first = c.args.first in
    let start = arm_node g.F.Form.records part.node.number tree2 head.kind head.operator head.children in
    let text = λ (left : ℕ). parts_bytes g.F.Form.records part.by.symbol part.by.state part.node.number tree2 first.levels first.rule left first.start in
    let same : head.children ≡ head.children - 0 = omega arith in
    subst (λ (left : ℕ). Begun (start ++ text head.children) (text left) c.args.out.now c.put_head-n.new.out c.put_head-n.result) same
    (begun_head start (text head.children) c.args.out.now c.put_head-n.new.out c.put_head-n.result c.requires.room c.put_head-n.ensures)

pub write_node-write_rule-n-requires : goal.write_node-write_rule-n-requires
write_node-write_rule-n-requires g t c =
    let part = c.args.part.now in
    let tree2 = tree part.node.formula.now part.node.number in
    let head = c.args.head in
    let first = c.args.first in
    let here = c.loop-part in
    let one = bytes g.F.Form.records (part_of part.by.symbol part.by.state part.node.number tree2 first.levels first.rule here.start) in
    let rest = parts_bytes g.F.Form.records part.by.symbol part.by.state part.node.number tree2 first.levels first.rule (head.children - here._part - 1) (end_at first.levels first.rule here.start) in
    let text = next_part g.F.Form.records part.by.symbol part.by.state part.node.number tree2 first.levels first.rule (head.children - here._part) here.start (end_at first.levels first.rule here.start) (λ e. omega (arith, c.loop-part-test.true)) refl in
    λ lives outlives. (omega arith, (outlives, record { known = c.requires.known; deep = c.requires.deep; room = begun_room here.invariant c.requires.room one rest text }))

pub write_node-loop-part-preserved : goal.write_node-loop-part-preserved
write_node-loop-part-preserved g t c =
    let part = c.args.part.now in
    let tree2 = tree part.node.formula.now part.node.number in
    let head = c.args.head in
    let first = c.args.first in
    let here = c.loop-part in
    let one = bytes g.F.Form.records (part_of part.by.symbol part.by.state part.node.number tree2 first.levels first.rule here.start) in
    let rest = parts_bytes g.F.Form.records part.by.symbol part.by.state part.node.number tree2 first.levels first.rule (head.children - here._part - 1) (end_at first.levels first.rule here.start) in
    let text = next_part g.F.Form.records part.by.symbol part.by.state part.node.number tree2 first.levels first.rule (head.children - here._part) here.start (end_at first.levels first.rule here.start) (λ e. omega (arith, c.loop-part-test.true)) refl in
    let next = λ (left i : ℕ). parts_bytes g.F.Form.records part.by.symbol part.by.state part.node.number tree2 first.levels first.rule left i in
    let fewer : head.children - (here._part + 1) ≡ head.children - here._part - 1 = omega arith in
    let same = ap (λ (x : ℕ). one ++ next x c.end-start.result) fewer ∙ ap (λ (x : ℕ). one ++ next (head.children - here._part - 1) x) c.end-start.ensures in
    begun_next here.invariant c.requires.room one (next (head.children - (here._part + 1)) c.end-start.result) (same ∙ text) c.write_rule-n.ensures

pub write_node-returns : goal.write_node-returns
write_node-returns g t c =
    let part = c.args.part.now in
    let tree2 = tree part.node.formula.now part.node.number in
    let head = c.args.head in
    let first = c.args.first in
    begun_done c.loop-part.invariant
    (none_left g.F.Form.records part.by.symbol part.by.state part.node.number tree2 first.levels first.rule (head.children - c.loop-part._part) c.loop-part.start
    (omega (arith, c.loop-part-test.false)))

pub write_extremum-loop-i-init : goal.write_extremum-loop-i-init
write_extremum-loop-i-init g t c =
    let part = c.args.part.now in
    let tree2 = tree part.node.formula.now part.node.number in
    let last = c.children-children.result - 1 in
    let text = λ (left : ℕ). extremum_bytes g.F.Form.records part.by.symbol part.by.state part.node.number tree2 0 left in
    let same : last ≡ last - 0 = omega arith in
    subst (λ (left : ℕ). Begun (text last) (text left) c.args.out.now c.args.out.now 0) same (begun_none (text last) c.args.out.now)

pub write_extremum-put_tie-n-requires : goal.write_extremum-put_tie-n-requires
write_extremum-put_tie-n-requires g t c =
    let part = c.args.part.now in
    let tree2 = tree part.node.formula.now part.node.number in
    let m = g.F.Form.records in
    let whole = all_ties m part.by.symbol part.by.state part.node.number tree2 c.children-children.result
    (c.children-children.ensures.0 ∙ sym (count_is part.node.formula.now part.node.number part.node.owned.formed)) c.if-children-eq0.false in
    let room = room_as _ _ _ whole c.requires.room in
    let last = c.children-children.result - 1 in
    let i = c.loop-i.i in
    let tie = tie_bytes m part.node.number tree2 i in
    let one = bytes m (recorded_of part.by.symbol part.by.state part.node.number tree2 i) in
    let rest = extremum_bytes m part.by.symbol part.by.state part.node.number tree2 (i + 1) (last - i - 1) in
    let text = sym (append_assoc tie one rest) ∙ next_tie m part.by.symbol part.by.state part.node.number tree2 i (last - i) (λ e. omega (arith, c.loop-i-test.true)) in
    begun_room c.loop-i.invariant room tie (one ++ rest) text

pub write_extremum-slice_bounds-write_diff-count : goal.write_extremum-slice_bounds-write_diff-count
write_extremum-slice_bounds-write_diff-count g t c =
    let part = c.args.part.now in
    let tree2 = tree part.node.formula.now part.node.number in
    let m = g.F.Form.records in
    let whole = all_ties m part.by.symbol part.by.state part.node.number tree2 c.children-children.result
    (c.children-children.ensures.0 ∙ sym (count_is part.node.formula.now part.node.number part.node.owned.formed)) c.if-children-eq0.false in
    let room = room_as _ _ _ whole c.requires.room in
    let last = c.children-children.result - 1 in
    let i = c.loop-i.i in
    let tie = tie_bytes m part.node.number tree2 i in
    let one = bytes m (recorded_of part.by.symbol part.by.state part.node.number tree2 i) in
    let rest = extremum_bytes m part.by.symbol part.by.state part.node.number tree2 (i + 1) (last - i - 1) in
    let text = sym (append_assoc tie one rest) ∙ next_tie m part.by.symbol part.by.state part.node.number tree2 i (last - i) (λ e. omega (arith, c.loop-i-test.true)) in
    (begun_next c.loop-i.invariant room tie (one ++ rest) text c.put_tie-n.ensures).inside

pub write_extremum-slice_bounds-write_diff-start : goal.write_extremum-slice_bounds-write_diff-start
write_extremum-slice_bounds-write_diff-start g t c =
    let part = c.args.part.now in
    let tree2 = tree part.node.formula.now part.node.number in
    let m = g.F.Form.records in
    let whole = all_ties m part.by.symbol part.by.state part.node.number tree2 c.children-children.result
    (c.children-children.ensures.0 ∙ sym (count_is part.node.formula.now part.node.number part.node.owned.formed)) c.if-children-eq0.false in
    let room = room_as _ _ _ whole c.requires.room in
    let last = c.children-children.result - 1 in
    let i = c.loop-i.i in
    let tie = tie_bytes m part.node.number tree2 i in
    let one = bytes m (recorded_of part.by.symbol part.by.state part.node.number tree2 i) in
    let rest = extremum_bytes m part.by.symbol part.by.state part.node.number tree2 (i + 1) (last - i - 1) in
    let text = sym (append_assoc tie one rest) ∙ next_tie m part.by.symbol part.by.state part.node.number tree2 i (last - i) (λ e. omega (arith, c.loop-i-test.true)) in
    omega (arith, (begun_next c.loop-i.invariant room tie (one ++ rest) text c.put_tie-n.ensures).inside)

pub write_extremum-write_diff-n-requires : goal.write_extremum-write_diff-n-requires
write_extremum-write_diff-n-requires g t c =
    let part = c.args.part.now in
    let tree2 = tree part.node.formula.now part.node.number in
    let m = g.F.Form.records in
    let whole = all_ties m part.by.symbol part.by.state part.node.number tree2 c.children-children.result
    (c.children-children.ensures.0 ∙ sym (count_is part.node.formula.now part.node.number part.node.owned.formed)) c.if-children-eq0.false in
    let room = room_as _ _ _ whole c.requires.room in
    let last = c.children-children.result - 1 in
    let i = c.loop-i.i in
    let tie = tie_bytes m part.node.number tree2 i in
    let one = bytes m (recorded_of part.by.symbol part.by.state part.node.number tree2 i) in
    let rest = extremum_bytes m part.by.symbol part.by.state part.node.number tree2 (i + 1) (last - i - 1) in
    let text = sym (append_assoc tie one rest) ∙ next_tie m part.by.symbol part.by.state part.node.number tree2 i (last - i) (λ e. omega (arith, c.loop-i-test.true)) in
    let next = begun_next c.loop-i.invariant room tie (one ++ rest) text c.put_tie-n.ensures in
    λ lives outlives. (omega arith, (outlives, record { known = c.requires.known; deep = c.requires.deep; room = begun_room next room one rest refl }))

pub write_extremum-loop-i-preserved : goal.write_extremum-loop-i-preserved
write_extremum-loop-i-preserved g t c =
    let part = c.args.part.now in
    let tree2 = tree part.node.formula.now part.node.number in
    let m = g.F.Form.records in
    let whole = all_ties m part.by.symbol part.by.state part.node.number tree2 c.children-children.result
    (c.children-children.ensures.0 ∙ sym (count_is part.node.formula.now part.node.number part.node.owned.formed)) c.if-children-eq0.false in
    let room = room_as _ _ _ whole c.requires.room in
    let last = c.children-children.result - 1 in
    let i = c.loop-i.i in
    let tie = tie_bytes m part.node.number tree2 i in
    let one = bytes m (recorded_of part.by.symbol part.by.state part.node.number tree2 i) in
    let rest = extremum_bytes m part.by.symbol part.by.state part.node.number tree2 (i + 1) (last - i - 1) in
    let text = sym (append_assoc tie one rest) ∙ next_tie m part.by.symbol part.by.state part.node.number tree2 i (last - i) (λ e. omega (arith, c.loop-i-test.true)) in
    let next = begun_next c.loop-i.invariant room tie (one ++ rest) text c.put_tie-n.ensures in
    let fewer : last - (i + 1) ≡ last - i - 1 = omega arith in
    begun_next next room one (extremum_bytes m part.by.symbol part.by.state part.node.number tree2 (i + 1) (last - (i + 1)))
    (ap (λ (x : ℕ). one ++ extremum_bytes m part.by.symbol part.by.state part.node.number tree2 (i + 1) x) fewer) c.write_diff-n.ensures

pub write_extremum-write_diff-requires : goal.write_extremum-write_diff-requires
write_extremum-write_diff-requires g t c =
    let part = c.args.part.now in
    let tree2 = tree part.node.formula.now part.node.number in
    let m = g.F.Form.records in
    let whole = all_ties m part.by.symbol part.by.state part.node.number tree2 c.children-children.result
    (c.children-children.ensures.0 ∙ sym (count_is part.node.formula.now part.node.number part.node.owned.formed)) c.if-children-eq0.false in
    let room = room_as _ _ _ whole c.requires.room in
    let last = c.children-children.result - 1 in
    let one = bytes m (recorded_of part.by.symbol part.by.state part.node.number tree2 last) in
    let reached : last ≡ c.loop-i.i = omega (arith, c.loop-i-test.false, c.loop-i.auto.i-end) in
    let text = ap (λ (x : ℕ). bytes m (recorded_of part.by.symbol part.by.state part.node.number tree2 x)) reached
    ∙ last_tie m part.by.symbol part.by.state part.node.number tree2 c.loop-i.i (last - c.loop-i.i) (omega (arith, reached)) in
    λ lives outlives. (omega arith, (outlives, record { known = c.requires.known; deep = c.requires.deep; room = begun_room c.loop-i.invariant room one [] (append-nil one ∙ text) }))

pub write_extremum-returns : goal.write_extremum-returns
write_extremum-returns g t c =
    let part = c.args.part.now in
    let tree2 = tree part.node.formula.now part.node.number in
    let m = g.F.Form.records in
    let whole = all_ties m part.by.symbol part.by.state part.node.number tree2 c.children-children.result
    (c.children-children.ensures.0 ∙ sym (count_is part.node.formula.now part.node.number part.node.owned.formed)) c.if-children-eq0.false in
    let room = room_as _ _ _ whole c.requires.room in
    let last = c.children-children.result - 1 in
    let one = bytes m (recorded_of part.by.symbol part.by.state part.node.number tree2 last) in
    let reached : last ≡ c.loop-i.i = omega (arith, c.loop-i-test.false, c.loop-i.auto.i-end) in
    let text = ap (λ (x : ℕ). bytes m (recorded_of part.by.symbol part.by.state part.node.number tree2 x)) reached
    ∙ last_tie m part.by.symbol part.by.state part.node.number tree2 c.loop-i.i (last - c.loop-i.i) (omega (arith, reached)) in
    as_text _ _ _ _ _ whole (begun_last c.loop-i.invariant room (as_text _ _ _ _ _ text c.write_diff.ensures))
