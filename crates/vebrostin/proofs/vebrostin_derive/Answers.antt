-- The number and the node that the code tells are the definition's.
use Rattle.vebrostin.proofs.Outcomes.{derive_leaves}
use Rattle.vebrostin.proofs.vebrostin_derive.Goals as goal

pub returns : goal.returns
returns c =
    let a = c.args in
    let given = c.derive-given in
    derive_leaves a.formula.now a.names.now a.symbol a.path.now a.tree.now a.list.now a.program.now a.report.now given.result c.if-report-lt-REPORT_LENGTH.false given.ensures
    c.told.ensures.number c.told.ensures.node
