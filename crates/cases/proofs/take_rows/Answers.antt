use Rattle.std.proofs.Common.{rules}
use Rattle.cases.proofs.Cells.{row-next, rows-end}
use Rattle.cases.proofs.take_rows.Goals as goal

pub loop-done-preserved : goal.loop-done-preserved
loop-done-preserved g c =
    let l = c.loop-done in
    let n = c.min-n.result in (
      row-next g.T.Cell.value_of l.done n l.out c.cells.new.out c.new.result.rest.now (search rules) (search rules) (search rules) c.cells.ensures.values l.invariant.0,
      search rules,
      search rules,
    )

pub returns : goal.returns
returns g c = rows-end g.T.Cell.value_of c.loop-done.done c.loop-done.out (search rules) c.loop-done-test.false c.loop-done.invariant.0
