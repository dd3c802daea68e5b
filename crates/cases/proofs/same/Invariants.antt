use Rattle.std.proofs.Common.{◌≡◌, drop}
use Rattle.cases.specs.Recorded.{same_cells}
use Rattle.cases.proofs.same.Given as goal

abbrev pub invariant-loop-number : goal.invariant-loop-number
invariant-loop-number g l =
    same_cells g.T.Cell.cell_of (drop l.number-index l.numbers) l.record.rest.now ≡ same_cells g.T.Cell.cell_of l.numbers l.recorded
