use Rattle.lines.proofs.advance.Goals as goal

pub returns-in-Values-clause-advances : goal.returns-in-Values-clause-advances
returns-in-Values-clause-advances c = rw c.in-Values.is (c.advance_values.ensures.advances c.args.formula.now c.args.names.now)
