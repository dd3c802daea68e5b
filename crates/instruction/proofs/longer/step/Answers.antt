use mathlib.Core.Path.{sym, ◌∙◌}
use Rattle.instruction.proofs.Stores.{went_worked}
use Rattle.instruction.proofs.longer.step.Goals as goal

pub returns-then-is_finite : goal.returns-then-is_finite
returns-then-is_finite c = λ inputs.
    let to = c.known_word in
    went_worked inputs c.args.p.now c.args.n c.args.regs.now c.from-op.result to.result c.value-v.result c.from-op.ensures c.value-v.ensures
    (sym c.is_finite.ensures ∙ c.if-is_finite.true) to.ensures.0 c.store.ensures
