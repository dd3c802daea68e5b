use Rattle.std.proofs.Common.{refl, arith}
use Rattle.values.proofs.Parts.{between_start, comma_run, each_run, value_run}
use Rattle.values.proofs.read_values.Goals as goal

pub returns-then-s-gt0 : goal.returns-then-s-gt0
returns-then-s-gt0 c = record { place = c.read_each.ensures.place; read = c.read_each.ensures.read c.args.values.now }

pub loop-at-init : goal.loop-at-init
loop-at-init c = between_start c.args.input.now c.args.from c.args.s c.args.values.now c.requires (omega (arith, c.if-s-gt0.false))

pub returns-then-input-at-ne44 : goal.returns-then-input-at-ne44
returns-then-input-at-ne44 c =
    let args = c.args in
    let loop = c.loop-at in
    let on =
    value_run args.input.now args.from args.s args.values.now loop.at _ loop.values loop.invariant refl (omega (arith, c.loop-at-test.true))
    c.in-Some.bits (rw c.in-Some.is at c.sixteen.ensures) in record {
      place = (on.start, on.inside, on.no_newline);
      read = on.read;
    }

pub loop-at-preserved : goal.loop-at-preserved
loop-at-preserved c =
    let args = c.args in
    let loop = c.loop-at in
    let keep = c.keep-count in
    comma_run args.input.now args.from args.s args.values.now loop.at _ loop.values loop.invariant refl (omega (arith, c.loop-at-test.true))
    c.in-Some.bits (rw c.in-Some.is at c.sixteen.ensures) (omega (arith, c.loop-at-test.true)) c.if-input-at-ne44.false keep.result keep.ensures.0 keep.new.values
    keep.ensures.1 keep.auto.values

pub returns : goal.returns
returns c =
    let args = c.args in
    let loop = c.loop-at in
    let read = c.read_each-2 in
    let on =
    each_run args.input.now args.from args.s args.values.now loop.at _ loop.values loop.invariant read.result.end read.result.reading
    read.ensures.place (rw c.after.ensures at read.ensures.read) in record {
      place = (on.start, on.inside, on.no_newline);
      read = on.read;
    }
