use Rattle.reader.proofs.Loads.{all_padded}
use Rattle.reader.proofs.bytes_from.Goals as goal

pub returns-then-at-b : goal.returns-then-at-b
returns-then-at-b g c = all_padded c.args.b.now c.args.at g.row.N c.if-at-b.true
