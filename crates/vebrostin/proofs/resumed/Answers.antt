-- Bytes that are no program.
use Rattle.std.proofs.Common.{length, sym, ◌∙◌}
use Rattle.run.specs.Views.{supplied_of}
use Rattle.run.proofs.Whole.{unsettled}
use Rattle.vebrostin.proofs.Outcomes.{resume_ten}
use Rattle.vebrostin.proofs.resumed.Goals as goal

pub returns-clause-state : goal.returns-clause-state
returns-clause-state c =
    let a = c.args in
    let u = unsettled a.program.now (length a.path.now) (sym c.goes_on.ensures ∙ c.if-goes_on.false) in
    (resume_ten a.inputs.now a.program.now a.budget (supplied_of a.supplied) a.registers.now a.cells.now a.path.now a.report.now (sym c.is_short.ensures ∙ c.if-is_short.false) u.0 u.1).1
