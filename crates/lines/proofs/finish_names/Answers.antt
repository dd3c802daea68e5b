use Rattle.lines.proofs.Calls.{names_last}
use Rattle.std.proofs.Common.{ap}
use Rattle.lines.specs.Sums.{totals_of}
use Rattle.lines.proofs.Totals.{default_is}
use Rattle.lines.proofs.finish_names.Goals as goal

pub returns-clause-finishes : goal.returns-clause-finishes
returns-clause-finishes c =
    let a = c.args in
    let m = a.memory.now in
    let b = c.begin-begun in
    let w = c.put_total in
    let last =
    names_last a.formula.now a.k a.names.now m.path.now m.program.now m.out.now c.requires m.values.now m.regs.now c.if-names-k.false b.new.memory.path.now
    b.new.memory.program.now b.new.memory.out.now b.result b.ensures.begins b.ensures.slices.out.1 c.default.result (ap totals_of (default_is c.default.result c.default.ensures)) w.new.out w.result
    w.ensures.wrote w.ensures.room in
    rw (b.ensures.numbers.0, b.ensures.numbers.1) last
