use Rattle.std.proofs.Common.{◌≡◌, ◌*◌, take, drop}
use Rattle.cases.specs.Recorded.{cells_of}
use Rattle.cases.proofs.Record.cells.Given as goal

abbrev pub invariant-loop-place : goal.invariant-loop-place
invariant-loop-place g l =
    (l.self.rest.now ≡ drop (8 * l.place-index) l.initial.self.rest.now)
    × (take l.place-index l.out ≡ cells_of g.T.Cell.value_of l.place-index l.initial.self.rest.now)
