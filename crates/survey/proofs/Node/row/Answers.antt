use Rattle.survey.proofs.Rows.{row_inside}
use Rattle.survey.proofs.Node.row.Goals as goal

pub bounds-self-self : goal.bounds-self-self
bounds-self-self c = let node = c.args.self.now in row_inside node.formula.now node.rows.now node.number node.owned
