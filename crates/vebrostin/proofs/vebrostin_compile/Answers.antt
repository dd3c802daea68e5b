-- The number and the node that the code tells are the definition's.
use Rattle.vebrostin.proofs.Outcomes.{compile_leaves}
use Rattle.vebrostin.proofs.vebrostin_compile.Goals as goal

pub returns : goal.returns
returns c =
    let a = c.args in
    let given = c.compile.ensures in
    compile_leaves a.formula.now a.names.now a.path.now a.program.now a.report.now c.compile.result c.if-report-lt-REPORT_LENGTH.false given.0 given.1 given.2 c.told.ensures.number
    c.told.ensures.node
