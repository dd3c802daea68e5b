use Rattle.std.proofs.Common.{List, [], Some, length}
use lib.Ieee.{Float}
use Rattle.values.proofs.Parts.{ReadingOn, digit_run, reading_end, reading_start}
use Rattle.values.proofs.read_each.Goals as goal

pub loop-end-init : goal.loop-end-init
loop-end-init c = λ values. reading_start c.args.input.now c.args.from _ values c.requires

pub returns-in_default : goal.returns-in_default
returns-in_default c =
    let on = c.loop-end.invariant in record {
      place = ((on []).start, (on []).inside, (on []).no_newline);
      read = λ values. (on values).read;
    }

pub loop-end-preserved : goal.loop-end-preserved
loop-end-preserved c =
    let loop = c.loop-end in
    digit_run c.args.input.now c.args.from c.args.s loop.end loop.line loop.invariant c.loop-end-test.true c.in-Some.longer (rw c.in-Some.is at c.with_digit.ensures)

pub returns : goal.returns
returns c =
    let loop = c.loop-end in
    let on : (values : List Float) → ReadingOn c.args.input.now c.args.from (Some c.args.s) values (length c.args.input.now) (Some loop.line) values =
    λ values. reading_end c.args.input.now c.args.from _ values loop.end _ values (loop.invariant values) c.loop-end-test.false in record {
      place = ((on []).start, (on []).inside, (on []).no_newline);
      read = λ values. (on values).read;
    }
