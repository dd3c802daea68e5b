use Rattle.std.proofs.Common.{◌∙◌, ap, rules, drop}
use Rattle.cases.proofs.Cells.{past-cell, cells-next}
use Rattle.cases.proofs.Record.cells.Goals as goal

pub loop-place-preserved : goal.loop-place-preserved
loop-place-preserved g c =
    let i = c.loop-place.place-index in
    let bytes = c.args.self.now.rest.now in
    let at = c.loop-place.invariant in (
      c.cell.ensures.rest ∙ ap (drop 8) at.0 ∙ past-cell i bytes,
      cells-next g.T.Cell.value_of i c.loop-place.out bytes c.loop-place.self.rest.now c.cell.result (search rules) at.0 c.cell.ensures.value at.1,
    )
