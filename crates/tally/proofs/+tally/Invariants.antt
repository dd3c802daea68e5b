use Rattle.tally.proofs.Weights.{Passed}
use Rattle.tally.proofs.+tally.Given as goal

abbrev pub decreases-tally : goal.decreases-tally
decreases-tally l = l.d

abbrev pub invariant-loop : goal.invariant-loop
invariant-loop l = Passed l.b l.d l.left l.at l.counter l.all
