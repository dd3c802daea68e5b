use Rattle.std.proofs.Common.{◌≡◌, All, ◌≤◌, ◌-◌, length, take}
use Rattle.cases.specs.Recorded.{IsCell}
use Rattle.cases.proofs.take_rows.Given as goal

abbrev pub invariant-loop-done : goal.invariant-loop-done
invariant-loop-done g l = All (IsCell g.T.Cell.value_of) (take l.done l.out) × (l.done ≤ length l.out) × (length l.room ≡ 2048)

abbrev pub decreases-loop-done : goal.decreases-loop-done
decreases-loop-done g l = length l.out - l.done
