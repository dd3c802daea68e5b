-- Straight along from the answer.
use Rattle.std.proofs.Common.{arith, length, refl, sym, ◌∙◌}
use Rattle.std.proofs.Math.Option.{some}
use Rattle.layout.specs.Decode.{destination_at}
use Rattle.run.proofs.Single.{budget_left}
use Rattle.run.proofs.Whole.{settled_valid}
use Rattle.vebrostin.proofs.Outcomes.{apart, ends_as, placed_as, resume_ends, settled}
use Rattle.vebrostin.proofs.Straight.{answer_goes, answer_stands}
use Rattle.vebrostin.proofs.vebrostin_answer_unchecked.Goals as goal

pub overflow_sub-next : goal.overflow_sub-next
overflow_sub-next c =
    let a = c.args in
    omega (arith, budget_left a.inputs.now a.program.now a.registers.now a.budget (c.is_direct.ensures c.if-is_direct.true).1)

pub returns-then-is_direct : goal.returns-then-is_direct
unfolding destination_at
returns-then-is_direct c =
    let a = c.args in
    let b = a.program.now in
    let room = length a.path.now in
    let h = sym c.is_short.ensures ∙ c.if-is_short.false in
    let d = c.is_direct.ensures c.if-is_direct.true in
    let place = c.along-place.result in
    let ends = c.ends.ensures in
    let r =
    apart (settled b a.path.now a.cells.now a.report.now h)
    (λ s.
    let v = settled_valid b room d.0 s in
    let e =
    answer_goes a.inputs.now b a.registers.now a.cells.now a.value room a.budget d.2 d.0 d.1 c.word-to.result place.left place.at c.word-to.ensures.0 c.store.ensures
    c.along-place.ensures v in
    resume_ends a.inputs.now b a.budget (some a.value) a.registers.now a.cells.now a.path.now a.report.now _ _ _ _ h
    (ends_as e ends.reply)
    (answer_stands a.inputs.now b a.registers.now a.cells.now a.value room a.budget d.2 d.0 d.1 v) (placed_as a.path.now e (ends.place v)))
    refl in
    record { outcome = r.0; state = r.1.0; report = r.1.1 }
