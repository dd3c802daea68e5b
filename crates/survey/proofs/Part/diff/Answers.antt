use mathlib.Core.Path.{◌∙◌, refl, sym, ap}
use mathlib.Core.Option.{none, some}
use Rattle.derivative.specs.Attributes.{attributes_of}
use Rattle.rules.specs.declared.RulePart.{RulePart}
use Rattle.survey.specs.Derived.{rule_for}
use Rattle.survey.specs.Table.{tree, number_of}
use Rattle.survey.specs.Worked.{worked}
use Rattle.survey.proofs.Chosen.{no_rule, some_rule, derived_without, derived_ruled, ruled_without, ruled_by, worked_derived}
use Rattle.survey.proofs.Part.diff.Goals as goal

pub returns-then-not-has : goal.returns-then-not-has
returns-then-not-has c =
    let part = c.args.self.now in
    let t = tree part.node.formula.now part.node.number in
    let without = sym c.requires ∙ c.if-not-has.true in (
      ruled_without part.by.symbol part.by.state t without,
      c.of_literal.ensures ∙ ap attributes_of (sym (derived_without part.by.symbol part.by.state t without)),
    )

pub returns-in_err-rule : goal.returns-in_err-rule
returns-in_err-rule c =
    let part = c.args.self.now in
    let node = part.node in
    let t = tree node.formula.now node.number in
    let with = sym c.requires ∙ c.if-not-has.false in
    let unruled = no_rule part.by.symbol part.by.state node.formula.now node.number node.owned.formed
    (number_of part.by.symbol part.by.state node.formula.now node.number) refl c.in_err-rule.ensures in (
      rw c.from_residual.ensures (ruled_by part.by.symbol part.by.state t none with unruled),
      rw c.from_residual.ensures (ap attributes_of (sym (derived_ruled part.by.symbol part.by.state t none with unruled))),
    )

pub returns : goal.returns
returns c =
    let part = c.args.self.now in
    let node = part.node in
    let t = tree node.formula.now node.number in
    let with = sym c.requires ∙ c.if-not-has.false in
    let number = number_of part.by.symbol part.by.state node.formula.now node.number in
    let chosen = some_rule part.by.symbol part.by.state node.formula.now node.number node.owned.formed number refl c.in_ok-rule.ensures.1 in (
      ruled_by part.by.symbol part.by.state t (some (rule_for t 16 number 0)) with chosen,
      c.rule_attributes.ensures
          ∙ ap (λ (x : RulePart). worked part.by.symbol part.by.state t x.levels x.rule x.start) c.in_ok-rule.ensures.0
          ∙ worked_derived part.by.symbol part.by.state t number with chosen,
    )
