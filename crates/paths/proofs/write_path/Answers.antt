use mathlib.Core.Path.{refl, ◌∙◌}
use native.Mathlib.Omega.{arith}
use Rattle.paths.proofs.Climb.{begin_is, length_is, parent_is, path_written, root_begin, step_fits, step_written}
use Rattle.paths.proofs.write_path.Goals as goal
use Rattle.paths.proofs.write_path.Goals.{then-at-record-via-then-at-record, then-at-record-via-else-at-record+then-begin-step_length}

pub returns-then-out-end : goal.returns-then-out-end
returns-then-out-end c =
    let args = c.args in
    λ g. absurd (omega (arith, g.1, c.if-out-end.true, length_is args.b.now args.base args.k c.record_at-end.ensures.length))

pub loop-at-init : goal.loop-at-init
loop-at-init c =
    let args = c.args in
    (refl, omega arith, omega arith, λ g. (length_is args.b.now args.base args.k c.record_at-end.ensures.length, refl))

pub returns-then-at-record : goal.returns-then-at-record
returns-then-at-record c =
    let args = c.args in
    let loop = c.loop-at in
    let more = c.loop-at-test.true in
    let record_at = c.record_at-record in
    λ g. elim c.then-at-record.branch [
      | then-at-record-via-then-at-record w ↦ absurd (omega (
        arith,
        w.if-at-record.true,
        parent_is args.b.now args.base args.k loop.at record_at.result.parent more loop.invariant.1 g.0 record_at.ensures.parent,
      ))
      | then-at-record-via-else-at-record+then-begin-step_length w ↦ absurd (omega (
        arith,
        w.if-begin-step_length.true,
        w.step_length.ensures.0,
        (loop.invariant.3 g).0,
        step_fits args.b.now args.base args.k loop.at record_at.result.step more loop.invariant.1 g.0 record_at.ensures.step.0,
      ))
    ]

pub loop-at-preserved : goal.loop-at-preserved
loop-at-preserved c =
    let args = c.args in
    let loop = c.loop-at in
    let more = c.loop-at-test.true in
    let record_at = c.record_at-record in
    let word = record_at.ensures in
    let before = c.step_before-begin in (
      before.auto.out ∙ loop.invariant.0,
      omega (arith, loop.invariant.1, c.if-at-record.false),
      omega (arith, loop.invariant.2, before.ensures.0),
      λ g. let e = before.ensures.0 ∙ (loop.invariant.3 g).0 in (
        begin_is args.b.now args.base args.k loop.at record_at.result.parent record_at.result.step before.result more loop.invariant.1 g.0
            word.step.0 word.parent e,
        step_written args.b.now args.base loop.out _ _ args.k loop.at record_at.result.parent record_at.result.step before.result more
            loop.invariant.1 g.0 (omega (arith, loop.invariant.0, loop.invariant.2, (loop.invariant.3 g).0, c.if-out-end.false)) word.step.0 word.parent e
            before.ensures.1 (loop.invariant.3 g).1,
      ),
    )

pub returns-then-begin-lt4 : goal.returns-then-begin-lt4
returns-then-begin-lt4 c =
    let args = c.args in
    let loop = c.loop-at in
    let short = c.if-begin-lt4.true in
    let done = c.loop-at-test.false in
    λ g. absurd (omega (arith, short, root_begin args.b.now args.base args.k loop.at loop.begin (omega (arith, done)) g.0 (loop.invariant.3 g).0))

pub returns : goal.returns
returns c =
    let args = c.args in
    let loop = c.loop-at in
    let done = c.loop-at-test.false in
    let copy_before = c.copy_before in
    let end = c.record_at-end in
    let l = length_is args.b.now args.base args.k end.ensures.length in
    λ g. path_written args.b.now args.base args.out.now loop.out _ _ args.k loop.at end.result.length copy_before.result
    (omega (arith, done)) g.0 end.ensures.length (omega (arith, l, g.1)) (loop.invariant.3 g).1
    (copy_before.ensures.0 ∙ root_begin args.b.now args.base args.k loop.at loop.begin (omega (arith, done)) g.0 (loop.invariant.3 g).0)
    copy_before.ensures.1 c.zero_from.ensures
