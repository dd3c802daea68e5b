use Rattle.std.proofs.Common.{arith}
use Rattle.values.proofs.Parts.{malformed_run, reading_run, reading_start, reading_step}
use Rattle.values.proofs.read_part.Goals as goal
use Rattle.values.proofs.read_part.Goals.{then-end-input-via-then-end-input, then-end-input-via-else-end-input+then-input-end-eq10}

pub loop-reading-init : goal.loop-reading-init
loop-reading-init c = reading_start c.args.input.now c.args.from c.args.s c.args.values.now c.requires

pub returns-then-end-input : goal.returns-then-end-input
returns-then-end-input c =
    let args = c.args in
    let loop = c.loop-reading in
    let read = c.read_values-read in
    let on =
    reading_run args.input.now args.from args.s args.values.now loop.at _ loop.values (rw c.in-Some.is at loop.invariant) read.result.end
    read.result.reading read.new.values read.auto.values read.ensures.place read.ensures.read in record {
      place = (
        on.start,
        on.inside,
        on.no_newline,
        λ l. elim c.then-end-input.branch [
          | then-end-input-via-then-end-input w ↦ absurd (omega (arith, w.if-end-input.true))
          | then-end-input-via-else-end-input+then-input-end-eq10 w ↦ w.if-input-end-eq10.true
        ],
      );
      read = on.read;
    }

pub loop-reading-preserved : goal.loop-reading-preserved
loop-reading-preserved c =
    let args = c.args in
    let loop = c.loop-reading in
    let read = c.read_values-read in
    let byte = c.read_byte-reading in
    let on =
    reading_run args.input.now args.from args.s args.values.now loop.at _ loop.values (rw c.in-Some.is at loop.invariant) read.result.end
    read.result.reading read.new.values read.auto.values read.ensures.place read.ensures.read in
    reading_step args.input.now args.from args.s args.values.now read.result.end read.result.reading read.new.values on
    (omega (arith, read.ensures.place.1, c.if-end-input.false)) c.if-input-end-eq10.false byte.result byte.new.values byte.auto.values
    byte.ensures

pub returns : goal.returns
returns c =
    let args = c.args in
    let loop = c.loop-reading in
    let end = c.line_end.ensures in
    let on =
    malformed_run args.input.now args.from args.s args.values.now loop.at loop.values (rw c.in_default.is at loop.invariant) c.line_end.result
    (end.0, end.1, end.2) in record {
      place = (on.start, on.inside, on.no_newline, end.3);
      read = on.read;
    }
