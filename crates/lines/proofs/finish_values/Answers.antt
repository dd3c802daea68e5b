use Rattle.lines.proofs.Calls.{values_last_line, values_last_none}
use Rattle.lines.proofs.finish_values.Goals as goal

pub returns-then-is_empty-clause-finishes : goal.returns-then-is_empty-clause-finishes
returns-then-is_empty-clause-finishes c =
    let a = c.args in
    let m = a.memory.now in
    let w = c.put_total in
    λ formula names.
    values_last_none a.line m.program.now m.values.now m.regs.now m.out.now c.requires formula names m.path.now c.is_empty.result
    c.is_empty.ensures c.if-is_empty.true (c.is_ready.ensures.ready.0 c.if-not-is_ready.false) w.new.out w.result w.ensures.wrote w.ensures.room

pub returns-clause-finishes : goal.returns-clause-finishes
returns-clause-finishes c =
    let a = c.args in
    let m = a.memory.now in
    let p = c.put_record-put in
    let w = c.put_total-2 in
    let ready = c.is_ready.ensures.ready.0 c.if-not-is_ready.false in
    λ formula names.
    values_last_line a.line m.program.now m.values.now m.regs.now m.out.now c.requires formula names m.path.now c.is_empty.result
    c.is_empty.ensures c.if-is_empty.false ready (c.is_ready.ensures.short c.if-not-is_ready.false) p.new.values p.new.regs
    p.new.out p.result p.ensures.room p.ensures.records p.ensures.beyond p.auto.out w.new.out
    w.result w.ensures.wrote w.ensures.room
