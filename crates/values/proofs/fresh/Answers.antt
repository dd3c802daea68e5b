use Rattle.values.proofs.Readings.{starts}
use Rattle.values.proofs.fresh.Goals as goal

pub returns : goal.returns
returns c = λ values. rw c.after.ensures (starts values)
