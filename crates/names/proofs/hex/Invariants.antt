use Rattle.names.proofs.Digits.{Writing}
use Rattle.names.proofs.hex.Given as goal

abbrev pub invariant-loop-i : goal.invariant-loop-i
invariant-loop-i l = Writing l.n l.rest l.i l.out
