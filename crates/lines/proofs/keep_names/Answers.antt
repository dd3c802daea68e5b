use Rattle.std.proofs.Common.{take, ap, ◌∙◌, arith}
use Rattle.names.specs.Lines.{free}
use Rattle.lines.proofs.Keeping.{keeps_written}
use Rattle.lines.proofs.Newlines.{take_part}
use Rattle.lines.proofs.keep_names.Goals as goal

pub returns-clause-place : goal.returns-clause-place
returns-clause-place c =
    let p = c.line_end-end.ensures in
    (p.1, ap (free 10) (take_part c.args.input.now 0 c.line_end-end.result (omega arith)) ∙ p.2, p.3)

pub returns-clause-kept : goal.returns-clause-kept
returns-clause-kept c =
    let a = c.args in
    let w = c.put_bytes-count in
    (keeps_written a.names.now a.k (take c.line_end-end.result a.input.now) w.result w.new.out w.auto.out (rw c.min-n.ensures at w.ensures)).0
