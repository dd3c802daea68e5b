use mathlib.Core.Logic.{⊎_elim}
use Prim.Native.Nat.{ℕ, ◌+◌, ◌-◌, ◌%◌}
use native.Mathlib.Omega.{arith}
use mathlib.Core.Path.{◌≡◌, ◌∙◌, ap, refl, sym, subst}
use Rattle.derivative.specs.Rules.{0·0}
use Rattle.derivative.specs.Differentiate.{second_literal}
use Rattle.derivative.specs.Attributes.{attributes_of}
use Rattle.rules.specs.Notation.{code_at, literal_code, or_zero}
use Rattle.survey.specs.Derived.{children_of, child_of, derived_of}
use Rattle.survey.specs.Table.{tree, reading}
use Rattle.survey.specs.Worked.{literal_attributes}
use Rattle.survey.proofs.Worked.{rule_none, rule_long, worked_by, worked_zero, worked_child, worked_diff, worked_whole, worked_extremum, worked_literal, unless_yes, unless_no, writing}
use Rattle.survey.proofs.Capped.{capped_worked}
use Rattle.survey.proofs.Steps.{tested, followed, added, multiplied, noded, Summing, sum_start, sum_fits, sum_room, sum_next, sum_done}
use Rattle.survey.proofs.Part.+rules.Goals as goal

pub rule_attributes-returns-then-here-eq0 : goal.rule_attributes-returns-then-here-eq0
rule_attributes-returns-then-here-eq0 measure c =
    let part = c.args.self.now in
    let here = c.args.here in
    let t = tree part.node.formula.now part.node.number in
    c.of_literal.ensures ∙ worked_by part.by.symbol part.by.state t here.levels here.rule here.start 0·0
    (⊎_elim (λ w. rule_none t here.levels here.rule here.start w) (λ w. rule_long t here.levels here.rule here.start w.1) c.then-here-eq0.either)

pub rule_attributes-returns-then-is_zero : goal.rule_attributes-returns-then-is_zero
rule_attributes-returns-then-is_zero measure c =
    let part = c.args.self.now in
    let here = c.args.here in
    let t = tree part.node.formula.now part.node.number in
    c.of_literal-then-is_zero.ensures ∙ unless_yes part.by.symbol part.by.state t here.levels here.rule here.start (code_at here.rule here.start) c.if-here-eq0.false c.if-here-ge128.false refl
    (sym c.in-Unless.ensures.kind)
    (tested c.is_zero.result c.diff_attributes-in-Unless.result (derived_of part.by.symbol part.by.state t (code_at here.rule here.start % 16)) _ c.is_zero.ensures
    (c.diff_attributes-in-Unless.ensures ∙ ap (λ (x : ℕ). attributes_of (derived_of part.by.symbol part.by.state t x)) c.in-Unless.ensures.which) c.if-is_zero.true)

pub rule_attributes-returns-else-is_zero : goal.rule_attributes-returns-else-is_zero
rule_attributes-returns-else-is_zero measure c =
    let part = c.args.self.now in
    let here = c.args.here in
    let t = tree part.node.formula.now part.node.number in
    followed part.by.symbol part.by.state t here.levels here.rule here.start (code_at here.rule here.start) c.if-here-eq0.false c.if-here-ge128.false refl
    c.first-first.result c.first-first.ensures (reading c.rule_attributes.result) c.rule_attributes.ensures
    ∙ unless_no part.by.symbol part.by.state t here.levels here.rule here.start (code_at here.rule here.start) c.if-here-eq0.false c.if-here-ge128.false refl
    (sym c.in-Unless.ensures.kind)
    (tested c.is_zero.result c.diff_attributes-in-Unless.result (derived_of part.by.symbol part.by.state t (code_at here.rule here.start % 16)) _ c.is_zero.ensures
    (c.diff_attributes-in-Unless.ensures ∙ ap (λ (x : ℕ). attributes_of (derived_of part.by.symbol part.by.state t x)) c.in-Unless.ensures.which) c.if-is_zero.false)

pub rule_attributes-add-requires : goal.rule_attributes-add-requires
rule_attributes-add-requires measure c =
    let part = c.args.self.now in
    let here = c.args.here in
    let t = tree part.node.formula.now part.node.number in (
      capped_worked part.by.symbol part.by.state t _ _ _ c.rule_attributes-a.result c.rule_attributes-a.ensures,
      capped_worked part.by.symbol part.by.state t _ _ _ c.rule_attributes-in-Add.result c.rule_attributes-in-Add.ensures,
    )

pub rule_attributes-returns-in-Add : goal.rule_attributes-returns-in-Add
rule_attributes-returns-in-Add measure c =
    let part = c.args.self.now in
    let here = c.args.here in
    let t = tree part.node.formula.now part.node.number in
    added part.by.symbol part.by.state t here.levels here.rule here.start (code_at here.rule here.start) c.if-here-eq0.false c.if-here-ge128.false refl
    c.first-first.result c.first-first.ensures c.next.result c.next.ensures (sym c.in-Add.ensures.kind) (reading c.rule_attributes-a.result) (reading c.rule_attributes-in-Add.result) (reading c.add.result)
    c.rule_attributes-a.ensures c.rule_attributes-in-Add.ensures c.add.ensures

pub rule_attributes-multiply-requires : goal.rule_attributes-multiply-requires
rule_attributes-multiply-requires measure c =
    let part = c.args.self.now in
    let here = c.args.here in
    let t = tree part.node.formula.now part.node.number in (
      capped_worked part.by.symbol part.by.state t _ _ _ c.rule_attributes-a-in-Multiply.result c.rule_attributes-a-in-Multiply.ensures,
      capped_worked part.by.symbol part.by.state t _ _ _ c.rule_attributes-in-Multiply.result c.rule_attributes-in-Multiply.ensures,
    )

pub rule_attributes-returns-in-Multiply : goal.rule_attributes-returns-in-Multiply
rule_attributes-returns-in-Multiply measure c =
    let part = c.args.self.now in
    let here = c.args.here in
    let t = tree part.node.formula.now part.node.number in
    multiplied part.by.symbol part.by.state t here.levels here.rule here.start (code_at here.rule here.start) c.if-here-eq0.false c.if-here-ge128.false refl
    c.first-first.result c.first-first.ensures c.next-in-Multiply.result c.next-in-Multiply.ensures (sym c.in-Multiply.ensures.kind) (reading c.rule_attributes-a-in-Multiply.result) (reading c.rule_attributes-in-Multiply.result) (reading c.multiply.result)
    c.rule_attributes-a-in-Multiply.ensures c.rule_attributes-in-Multiply.ensures c.multiply.ensures

pub rule_attributes-returns-in-Nothing : goal.rule_attributes-returns-in-Nothing
rule_attributes-returns-in-Nothing measure c =
    let part = c.args.self.now in
    let here = c.args.here in
    let t = tree part.node.formula.now part.node.number in
    c.of_literal-in-Nothing.ensures ∙ worked_zero part.by.symbol part.by.state t here.levels here.rule here.start (code_at here.rule here.start) c.if-here-eq0.false c.if-here-ge128.false refl
    (sym c.in-Nothing.ensures.kind)

pub rule_attributes-returns-in-Child : goal.rule_attributes-returns-in-Child
rule_attributes-returns-in-Child measure c =
    let part = c.args.self.now in
    let here = c.args.here in
    let t = tree part.node.formula.now part.node.number in
    c.child_attributes.ensures ∙ ap (λ (x : ℕ). attributes_of (child_of t x)) c.in-Child.ensures.which
    ∙ worked_child part.by.symbol part.by.state t here.levels here.rule here.start (code_at here.rule here.start) c.if-here-eq0.false c.if-here-ge128.false refl
    (sym c.in-Child.ensures.kind)

pub rule_attributes-returns-in-Derivative : goal.rule_attributes-returns-in-Derivative
rule_attributes-returns-in-Derivative measure c =
    let part = c.args.self.now in
    let here = c.args.here in
    let t = tree part.node.formula.now part.node.number in
    c.diff_attributes.ensures ∙ ap (λ (x : ℕ). attributes_of (derived_of part.by.symbol part.by.state t x)) c.in-Derivative.ensures.which
    ∙ worked_diff part.by.symbol part.by.state t here.levels here.rule here.start (code_at here.rule here.start) c.if-here-eq0.false c.if-here-ge128.false refl
    (sym c.in-Derivative.ensures.kind)

pub rule_attributes-returns-in-Whole : goal.rule_attributes-returns-in-Whole
rule_attributes-returns-in-Whole measure c =
    let part = c.args.self.now in
    let here = c.args.here in
    let t = tree part.node.formula.now part.node.number in
    c.attributes.ensures ∙ worked_whole part.by.symbol part.by.state t here.levels here.rule here.start (code_at here.rule here.start) c.if-here-eq0.false c.if-here-ge128.false refl
    (sym c.in-Whole.ensures.kind)

pub rule_attributes-returns-in-Extremum : goal.rule_attributes-returns-in-Extremum
rule_attributes-returns-in-Extremum measure c =
    let part = c.args.self.now in
    let here = c.args.here in
    let t = tree part.node.formula.now part.node.number in
    c.extremum.ensures ∙ worked_extremum part.by.symbol part.by.state t here.levels here.rule here.start (code_at here.rule here.start) c.if-here-eq0.false c.if-here-ge128.false refl
    (sym c.in-Extremum.ensures.kind)

pub rule_attributes-returns-in-Literal : goal.rule_attributes-returns-in-Literal
rule_attributes-returns-in-Literal measure c =
    let part = c.args.self.now in
    let here = c.args.here in
    let t = tree part.node.formula.now part.node.number in
    c.of_literal-in-Literal.ensures ∙ ap literal_attributes c.literal_bits.ensures
    ∙ ap (λ (x : ℕ). literal_attributes (literal_code (or_zero (second_literal (children_of t))) x)) c.in-Literal.ensures.which
    ∙ worked_literal part.by.symbol part.by.state t here.levels here.rule here.start (code_at here.rule here.start) c.if-here-eq0.false c.if-here-ge128.false refl
    (omega (arith, c.in-Literal.ensures.kind))

pub rule_attributes-returns-in-Node : goal.rule_attributes-returns-in-Node
rule_attributes-returns-in-Node measure c =
    let part = c.args.self.now in
    let here = c.args.here in
    let t = tree part.node.formula.now part.node.number in
    noded part.by.symbol part.by.state t here.levels here.rule here.start (code_at here.rule here.start) c.if-here-eq0.false c.if-here-ge128.false refl
    c.first-first.result c.first-first.ensures (writing (code_at here.rule here.start) (sym c.in-Node.ensures.node)) (reading c.node_attributes.result) c.in-Node.head.children
    c.in-Node.ensures.parts_follow c.node_attributes.ensures

pub node_attributes-loop-part-init : goal.node_attributes-loop-part-init
node_attributes-loop-part-init measure c =
    let part = c.args.self.now in
    let first = c.args.first in
    let t = tree part.node.formula.now part.node.number in
    let all = c.args.head.children in
    let same : all ≡ all - 0 = omega arith in
    subst (λ (left : ℕ). Summing part.by.symbol part.by.state t first.levels first.rule all first.start left first.start (record { nodes = 0; levels = 0 })) same
    (sum_start part.by.symbol part.by.state t first.levels first.rule all first.start)

pub node_attributes-overflow_add-sum : goal.node_attributes-overflow_add-sum
node_attributes-overflow_add-sum measure c =
    let part = c.args.self.now in
    let first = c.args.first in
    let t = tree part.node.formula.now part.node.number in
    let all = c.args.head.children in
    let room = sum_room part.by.symbol part.by.state t first.levels first.rule all first.start (all - c.loop-part._part) c.loop-part.start c.loop-part.sum
    c.loop-part.invariant (λ e. omega (arith, c.loop-part-test.true)) c.rule_attributes-part.result c.rule_attributes-part.ensures c.args.head.few in
    omega (arith, room)

pub node_attributes-loop-part-preserved : goal.node_attributes-loop-part-preserved
node_attributes-loop-part-preserved measure c =
    let part = c.args.self.now in
    let first = c.args.first in
    let t = tree part.node.formula.now part.node.number in
    let all = c.args.head.children in
    let fewer : all - c.loop-part._part - 1 ≡ all - (c.loop-part._part + 1) = omega arith in
    let next = sum_next part.by.symbol part.by.state t first.levels first.rule all first.start (all - c.loop-part._part) c.loop-part.start c.loop-part.sum
    c.loop-part.invariant (λ e. omega (arith, c.loop-part-test.true)) c.rule_attributes-part.result c.rule_attributes-part.ensures c.end-start.result c.max.result
    c.end-start.ensures c.max.ensures in
    subst (λ (left : ℕ). Summing part.by.symbol part.by.state t first.levels first.rule all first.start left c.end-start.result
    (record { nodes = c.loop-part.sum.nodes + c.rule_attributes-part.result.nodes; levels = c.max.result })) fewer next

pub node_attributes-above-requires : goal.node_attributes-above-requires
node_attributes-above-requires measure c =
    let part = c.args.self.now in
    let first = c.args.first in
    let t = tree part.node.formula.now part.node.number in
    let all = c.args.head.children in
    let sum = sum_fits part.by.symbol part.by.state t first.levels first.rule all first.start (all - c.loop-part._part) c.loop-part.start c.loop-part.sum
    c.loop-part.invariant c.args.head.few in
    (omega (arith, sum.0), sum.1)

pub node_attributes-returns : goal.node_attributes-returns
node_attributes-returns measure c =
    let part = c.args.self.now in
    let first = c.args.first in
    let t = tree part.node.formula.now part.node.number in
    let all = c.args.head.children in
    c.above.ensures
    ∙ sum_done part.by.symbol part.by.state t first.levels first.rule all first.start (all - c.loop-part._part) c.loop-part.start c.loop-part.sum
    c.loop-part.invariant (omega (arith, c.loop-part-test.false))
