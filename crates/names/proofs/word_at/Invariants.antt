use Rattle.names.proofs.Letters.{Spelling}
use Rattle.names.proofs.word_at.Given as goal

abbrev pub invariant-loop-end : goal.invariant-loop-end
invariant-loop-end l = Spelling l.line l.at l.end l.mark
