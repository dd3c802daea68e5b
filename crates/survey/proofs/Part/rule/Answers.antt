use Prim.Native.Nat.{ℕ}
use native.Mathlib.Omega.{arith}
use mathlib.Core.Path.{◌≡◌, ◌∙◌, sym, ap}
use Rattle.rules.specs.Notation.{code_at}
use Rattle.rules.specs.declared.RulePart.{RulePart}
use Rattle.rules.proofs.Codes.{nothing_read}
use Rattle.survey.proofs.Part.rule.Goals as goal

pub returns-in-Nothing : goal.returns-in-Nothing
returns-in-Nothing c =
    let whole = c.whole-whole.result in
    let none : code_at whole.rule whole.start ≡ 0 = omega (arith, c.in-Nothing.ensures.kind, c.in-Nothing.ensures.which) in
    sym (ap (λ (x : RulePart). code_at x.rule x.start) c.whole-whole.ensures ∙ ap (λ (x : ℕ). code_at x 0) c.rule_number.ensures) ∙ none

pub returns-in_default : goal.returns-in_default
returns-in_default c = (
  c.whole-whole.ensures ∙ ap (λ (x : ℕ). record { rule = x; start = 0; levels = 16 }) c.rule_number.ensures,
  λ e.
      c.in_default.not-Nothing
      (nothing_read c.code.result (code_at c.whole-whole.result.rule c.whole-whole.result.start) c.code.ensures
      (ap (λ (x : RulePart). code_at x.rule x.start) c.whole-whole.ensures ∙ ap (λ (x : ℕ). code_at x 0) c.rule_number.ensures ∙ e)),
)
