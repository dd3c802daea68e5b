use Rattle.lines.proofs.Calls.{names_ended, names_unended, names_unfit}
use Rattle.lines.proofs.Listings.{lt_of}
use Rattle.std.proofs.Common.{length}
use Rattle.lines.proofs.advance_names.Goals as goal

pub returns-then-names-k-clause-advances : goal.returns-then-names-k-clause-advances
returns-then-names-k-clause-advances c =
    let a = c.args in
    let m = a.memory.now in
    names_unfit a.formula.now a.input.now a.k a.names.now m.path.now m.program.now m.out.now c.requires m.values.now m.regs.now c.if-names-k.true
    c.stuck.result c.stuck.ensures

pub returns-then-kept-input-clause-advances : goal.returns-then-kept-input-clause-advances
returns-then-kept-input-clause-advances c =
    let a = c.args in
    let m = a.memory.now in
    let n = c.keep_names-kept in
    names_unended a.formula.now a.input.now a.k a.names.now m.path.now m.program.now m.out.now c.requires m.values.now m.regs.now c.if-names-k.false
    n.new.names n.result.end n.result.count n.ensures.place n.auto.names n.ensures.kept n.ensures.holds c.if-kept-input.true

pub returns-clause-advances : goal.returns-clause-advances
returns-clause-advances c =
    let a = c.args in
    let m = a.memory.now in
    let n = c.keep_names-kept in
    let b = c.begin-begun in
    let h = lt_of n.result.end (length a.input.now) n.ensures.place.0 c.if-kept-input.false in
    let ended =
    names_ended a.formula.now a.input.now a.k a.names.now m.path.now m.program.now m.out.now c.requires m.values.now m.regs.now c.if-names-k.false
    n.new.names n.result.end n.result.count n.ensures.place n.auto.names n.ensures.kept n.ensures.holds h b.new.memory.path.now
    b.new.memory.program.now b.new.memory.out.now b.result b.ensures.begins in
    rw (b.ensures.numbers.0, b.ensures.numbers.1) ended
