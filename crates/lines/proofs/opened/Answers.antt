use Rattle.std.proofs.Common.{ap}
use Rattle.lines.specs.Owed.{file_of}
use Rattle.lines.proofs.Stages.{opens_long, opens_names, opens_none}
use Rattle.lines.proofs.opened.Goals as goal
use Rattle.lines.proofs.opened.Goals.{in_default-via-in-Some+else-formula-le4096, in_default-via-in_default}

pub returns-in-Some-clause-opens : goal.returns-in-Some-clause-opens
returns-in-Some-clause-opens c =
    let args = c.args in
    let some = c.in-Some in
    opens_names (file_of args.file) some.formula.now args.out.now args.at (ap file_of some.is) c.if-formula-le4096.true

pub returns-in_default-clause-opens : goal.returns-in_default-clause-opens
returns-in_default-clause-opens c =
    let args = c.args in
    let file = file_of args.file in
    let put = c.put_missing in
    elim c.in_default.branch [
      | in_default-via-in-Some+else-formula-le4096 w ↦
          opens_long file w.in-Some.formula.now (ap file_of w.in-Some.is) w.if-formula-le4096.false put.result args.out.now args.at put.new.out put.ensures.ended
      | in_default-via-in_default w ↦ opens_none file (ap file_of w.in_default.is) put.result args.out.now args.at put.new.out put.ensures.ended
    ]
