use Rattle.lines.proofs.Calls.{values_advance}
use Rattle.lines.proofs.advance_values.Goals as goal

pub returns-clause-advances : goal.returns-clause-advances
returns-clause-advances c =
    let a = c.args in
    let m = a.memory.now in
    let l = c.list_values-listed in
    λ formula names.
    values_advance a.line m.program.now m.values.now m.regs.now m.out.now c.requires formula names m.path.now a.input.now
    l.new.values l.new.regs l.new.out l.result (c.is_ready.ensures.ready.0 c.if-not-is_ready.false) l.auto.values l.auto.regs l.ensures c.stage_at.result c.stage_at.ensures
