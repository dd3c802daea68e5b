use Rattle.reader.proofs.Steps.{Counted}
use Rattle.reader.proofs.receive.Given as goal

abbrev pub invariant-loop-k : goal.invariant-loop-k
invariant-loop-k l = Counted l.b l.k l.owed
