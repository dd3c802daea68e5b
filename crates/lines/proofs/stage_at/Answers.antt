use Rattle.lines.proofs.Totals.{ended_stage, listed_stage}
use Rattle.lines.proofs.stage_at.Goals as goal

pub returns-then-line-le-LINE_LIMIT : goal.returns-then-line-le-LINE_LIMIT
returns-then-line-le-LINE_LIMIT c = listed_stage c.args.line c.if-line-le-LINE_LIMIT.true

pub returns-else-line-le-LINE_LIMIT : goal.returns-else-line-le-LINE_LIMIT
returns-else-line-le-LINE_LIMIT c = ended_stage c.args.line c.if-line-le-LINE_LIMIT.false
