-- Bytes that are no program.
use Rattle.std.proofs.Common.{length, refl, sym, ◌∙◌}
use Rattle.machine.specs.Machine.{fresh, refused}
use Rattle.run.proofs.Whole.{run_10, unsettled}
use Rattle.vebrostin.proofs.Outcomes.{placed_as, put_ends, run_ends}
use Rattle.vebrostin.proofs.vebrostin_run.Goals as goal

pub returns : goal.returns
returns c =
    let a = c.args in
    let u = unsettled a.program.now (length a.path.now) (sym c.goes_on.ensures ∙ c.if-goes_on.false) in
    let e = run_10 a.inputs.now a.program.now (length a.path.now) a.budget a.registers.now u.0 u.1 in
    let r =
    run_ends a.inputs.now a.program.now a.budget a.registers.now a.cells.now a.path.now a.report.now a.registers.now _ a.path.now _ (sym c.is_short.ensures ∙ c.if-is_short.false)
    (put_ends (refused 10) 0 fresh e c.number-2.ensures refl c.put.ensures.cells c.put.ensures.state) (placed_as a.path.now e refl) in
    record { outcome = r.0; state = r.1 }
