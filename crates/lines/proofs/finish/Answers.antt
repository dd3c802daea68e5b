use Rattle.lines.proofs.Calls.{finish_finished}
use Rattle.lines.specs.Calls.{held}
use Rattle.lines.proofs.finish.Goals as goal

pub returns-in-Values-clause-finishes : goal.returns-in-Values-clause-finishes
returns-in-Values-clause-finishes c = rw c.in-Values.is (c.finish_values.ensures.finishes c.args.formula.now c.args.names.now)

pub returns-in-Finished-clause-finishes : goal.returns-in-Finished-clause-finishes
returns-in-Finished-clause-finishes c =
    let m = c.args.memory.now in
    rw c.in-Finished.is
    (finish_finished c.args.formula.now (held c.args.names.now m) c.in-Finished.totals m.out.now c.put_total.new.out c.put_total.result c.if-memory-lt-OUTPUT_ROOM.false c.put_total.ensures.wrote
    c.put_total.ensures.room)
