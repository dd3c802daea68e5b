use Prim.Native.Nat.{◌-◌}
use native.Mathlib.Omega.{arith}
use mathlib.Core.Path.{refl, ◌∙◌, sym}
use mathlib.Core.List.{[], ◌∷◌}
use Rattle.derivative.specs.Rules.{extremum_from}
use Rattle.survey.specs.Table.{tree, reading}
use Rattle.survey.specs.Derived.{derived_of}
use Rattle.survey.proofs.Trees.{count_is}
use Rattle.survey.proofs.Worked.{extremum_last, extremum_done, extremum_none}
use Rattle.survey.proofs.Capped.{capped_of, capped_tree, capped_inner, selected_next}
use Rattle.survey.proofs.Part.extremum.Goals as goal

pub returns-then-children-eq0 : goal.returns-then-children-eq0
returns-then-children-eq0 c =
    let part = c.args.self.now in
    let node = part.node in
    c.of_literal.ensures
    ∙ extremum_none part.by.symbol part.by.state (tree node.formula.now node.number) c.children-children.result
    (c.children-children.ensures.0 ∙ sym (count_is node.formula.now node.number node.owned.formed)) c.if-children-eq0.true

pub loop-i-init : goal.loop-i-init
loop-i-init c =
    let part = c.args.self.now in
    c.diff_attributes-selected.ensures
    ∙ extremum_last part.by.symbol part.by.state (tree part.node.formula.now part.node.number) c.children-children.result (c.children-children.result - 1) refl

pub conditional-selected-requires : goal.conditional-selected-requires
conditional-selected-requires c =
    let part = c.args.self.now in
    let t = tree part.node.formula.now part.node.number in (
      capped_inner c.beside-equal.result (reading c.child_attributes.result ∷ reading c.attributes-whole.result ∷ []) c.beside-equal.ensures,
      capped_tree c.diff_attributes.result (derived_of part.by.symbol part.by.state t (c.loop-i.i - 1)) c.diff_attributes.ensures,
      capped_of part.by.symbol part.by.state t (extremum_from c.loop-i.i (c.children-children.result - 1 - c.loop-i.i)) c.loop-i.selected
          c.loop-i.invariant,
    )

pub loop-i-preserved : goal.loop-i-preserved
loop-i-preserved c =
    let part = c.args.self.now in
    selected_next part.by.symbol part.by.state (tree part.node.formula.now part.node.number) c.children-children.result c.loop-i.i
    (λ e. omega (arith, c.loop-i-test.true)) (omega (arith, c.loop-i.auto.i, c.if-children-eq0.false)) c.attributes-whole.result c.beside-equal.result
    c.child_attributes.result c.diff_attributes.result c.attributes-whole.ensures c.child_attributes.ensures c.beside-equal.ensures
    c.diff_attributes.ensures c.loop-i.selected c.conditional-selected.result c.loop-i.invariant c.conditional-selected.ensures

pub returns : goal.returns
returns c =
    let part = c.args.self.now in
    let node = part.node in
    c.loop-i.invariant
    ∙ extremum_done part.by.symbol part.by.state (tree node.formula.now node.number) c.children-children.result c.loop-i.i
    (c.children-children.ensures.0 ∙ sym (count_is node.formula.now node.number node.owned.formed)) c.if-children-eq0.false
    (omega (arith, c.loop-i-test.false))
