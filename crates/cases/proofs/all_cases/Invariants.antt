use Rattle.std.proofs.Common.{◌≡◌}
use Rattle.cases.proofs.all_cases.Given as goal

abbrev pub invariant-loop : goal.invariant-loop
invariant-loop g l = (goal.F-IsAlwaysCallable g l.case) × (l.tally.cases ≡ l.counter)
