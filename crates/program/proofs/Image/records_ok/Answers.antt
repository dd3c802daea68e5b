use mathlib.Core.Path.{sym, ◌∙◌}
use native.Mathlib.Omega.{arith}
use Rattle.program.proofs.Records.{records_end, records_start, records_step}
use Rattle.program.proofs.Image.records_ok.Goals as goal

pub loop-k-init : goal.loop-k-init
loop-k-init c =
    let image = c.args.self.now in
    record {
      place = omega arith;
      left = records_start image.bytes.now (omega (arith, c.if-self-eq0.false, image.whole.numbers.paths)) (sym c.root_ok.ensures ∙ c.if-not-root_ok.false);
    }

pub loop-k-preserved : goal.loop-k-preserved
loop-k-preserved c =
    let image = c.args.self.now in
    record {
      place = omega arith;
      left = c.loop-k.invariant.left
          ∙ records_step image.bytes.now c.loop-k.k (omega (arith, image.whole.numbers.paths))
          ∙ rw (sym c.record_ok.ensures ∙ c.if-not-record_ok.false);
    }

pub returns-then-not-record_ok : goal.returns-then-not-record_ok
returns-then-not-record_ok c =
    let image = c.args.self.now in
    sym (c.loop-k.invariant.left ∙ records_step image.bytes.now c.loop-k.k (omega (arith, image.whole.numbers.paths)) ∙ rw (sym c.record_ok.ensures ∙ c.if-not-record_ok.true))

pub returns : goal.returns
returns c =
    let image = c.args.self.now in
    sym (c.loop-k.invariant.left ∙ records_end image.bytes.now c.loop-k.k (omega (arith, image.whole.numbers.paths)))
