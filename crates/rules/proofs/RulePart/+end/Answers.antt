use Prim.Native.Nat.{ℕ, ◌-◌, ◌+◌}
use mathlib.Core.Path.{◌≡◌, refl, sym, ◌∙◌, ap}
use mathlib.Core.Logic.{⊎_elim}
use native.Mathlib.Omega.{arith}
use Rattle.rules.specs.Notation.{code_at, end_at, past_all}
use Rattle.rules.proofs.Ends.{end_none, end_long, end_start, past_step, past_done}
use Rattle.rules.proofs.RulePart.+end.Goals as goal

pub returns-then-self-eq0 : goal.returns-then-self-eq0
returns-then-self-eq0 t c =
    let part = c.args.self in
    ⊎_elim (λ e. end_none part.levels part.rule part.start e) (λ w. end_long part.levels part.rule part.start w.1) c.then-self-eq0.either

pub loop-part-init : goal.loop-part-init
loop-part-init t c =
    let part = c.args.self in
    let left : c.parts-parts.result ≡ c.parts-parts.result - 0 = omega arith in
    end_start part.levels part.rule part.start (code_at part.rule part.start) c.parts-parts.result c.if-self-eq0.false c.if-self-ge128.false refl
    (c.parts-parts.ensures.0 ∙ c.code.ensures.parts_follow)
    ∙ ap (λ (x : ℕ). past_all (λ j. end_at (part.levels - 1) part.rule j) x (part.start + 1)) left

pub loop-part-preserved : goal.loop-part-preserved
loop-part-preserved t c =
    let part = c.args.self in
    let past = λ (j : ℕ). end_at (part.levels - 1) part.rule j in
    let left = c.parts-parts.result - c.loop-part._part in
    let fewer : left - 1 ≡ c.parts-parts.result - (c.loop-part._part + 1) = omega arith in
    c.loop-part.invariant
    ∙ past_step past left c.loop-part.end (λ e. omega (arith, c.loop-part-test.true))
    ∙ ap (λ (x : ℕ). past_all past x (past c.loop-part.end)) fewer
    ∙ ap (λ (x : ℕ). past_all past (c.parts-parts.result - (c.loop-part._part + 1)) x) (sym c.end-end.ensures)

pub returns : goal.returns
returns t c =
    let part = c.args.self in
    sym (c.loop-part.invariant ∙ past_done (λ j. end_at (part.levels - 1) part.rule j) (c.parts-parts.result - c.loop-part._part) c.loop-part.end (omega (arith, c.loop-part-test.false)))
