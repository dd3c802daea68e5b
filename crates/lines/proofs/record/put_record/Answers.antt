use Rattle.lines.proofs.Totals.{entered_as}
use Rattle.lines.proofs.Newlines.{wrote_some}
use Rattle.lines.proofs.Runs.{found_record, ready_same}
use Rattle.formula.specs.Values.{values_of}
use Rattle.std.proofs.Common.{length, refl, ◌∙◌, arith}
use Rattle.lines.proofs.record.put_record.Goals as goal

pub returns-clause-records : goal.returns-clause-records
returns-clause-records c =
    let a = c.args in
    let w = c.put_line-end in
    let o = c.answer_of-outcome in
    let f = c.finish-found in
    let ready = ready_same a.p.now (length a.values.now) (length a.regs.now) (length f.new.values) (length a.regs.now) f.auto.values refl c.requires.0 in
    λ seen r.
    entered_as a.line.number _ _ a.line.totals a.out.now a.at w.new.out _
    (o.ensures.answers ∙ found_record a.p.now f.new.values (length a.regs.now) ready (values_of seen) f.result (f.ensures.ends seen r))
    (record { wrote = w.ensures.wrote; adds = c.with_line.ensures a.p.now a.line.number })

pub returns-clause-beyond : goal.returns-clause-beyond
returns-clause-beyond c =
    let a = c.args in
    let w = c.put_line-end in
    wrote_some a.out.now a.at _ w.new.out w.result w.ensures.wrote (omega (arith, w.ensures.room, c.requires.1))
