use Rattle.values.proofs.Readings.{ends_empty, ends_none, ends_value, ends_within, found_more, found_values, still_reads}
use Rattle.formula.specs.Values.{values_of}
use Rattle.std.proofs.lemmas.Result.{err_from_is_err_and}
use Rattle.std.proofs.Common.{sym, ◌∙◌, arith}
use Rattle.values.proofs.finish.Goals as goal

pub returns-then-is_empty-clause-ends : goal.returns-then-is_empty-clause-ends
returns-then-is_empty-clause-ends c = λ seen r. ends_empty seen c.args.values.now ((c.is_empty.ensures seen c.args.values.now r).0 c.if-is_empty.true)

pub returns-in_err-line-clause-ends : goal.returns-in_err-line-clause-ends
returns-in_err-line-clause-ends c =
    let given = err_from_is_err_and c.from_residual.result c.from_residual.ensures.1 in
    λ seen r. rw (given.1, given.2) (ends_none c.args.s c.in_err-line.field-0.0 (sym c.ok_or.ensures.value ∙ c.in_err-line.was) seen c.args.values.now r)

pub returns-then-line-ne16-clause-ends : goal.returns-then-line-ne16-clause-ends
returns-then-line-ne16-clause-ends c =
    let e = still_reads c.args.s c.in_ok-line.line (sym c.ok_or.ensures.value ∙ c.in_ok-line.was) in
    λ seen r. ends_within seen c.in_ok-line.line c.args.values.now (rw e at r) c.if-line-ne16.true
    ((c.is_empty.ensures seen c.args.values.now r).1 c.if-is_empty.false)

pub returns-then-count-values-clause-ends : goal.returns-then-count-values-clause-ends
returns-then-count-values-clause-ends c =
    let k = c.keep-count in
    let e = still_reads c.args.s c.in_ok-line.line (sym c.ok_or.ensures.value ∙ c.in_ok-line.was) in
    λ seen r. found_more (values_of seen) k.result k.new.values
    (rw (k.ensures.0, k.ensures.1) (ends_value seen c.in_ok-line.line c.args.values.now (rw e at r) c.if-line-ne16.false)) (omega arith)

pub returns-clause-ends : goal.returns-clause-ends
returns-clause-ends c =
    let k = c.keep-count in
    let e = still_reads c.args.s c.in_ok-line.line (sym c.ok_or.ensures.value ∙ c.in_ok-line.was) in
    λ seen r. found_values (values_of seen) k.result k.new.values
    (rw (k.ensures.0, k.ensures.1) (ends_value seen c.in_ok-line.line c.args.values.now (rw e at r) c.if-line-ne16.false)) (omega arith)
