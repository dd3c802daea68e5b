use mathlib.Core.Path.{refl}
use native.Mathlib.Omega.{arith}
use Rattle.lower.proofs.Ends.{number_made, number_refused, truth_made, symbol_made}
use Rattle.lower.proofs.Results.{done_as, fault_as, says_as}
use Rattle.lower.proofs.Source.leaf.Goals as goal

pub returns-then-not-is_finite : goal.returns-then-not-is_finite
returns-then-not-is_finite c =
    let args = c.args in
    says_as _ _ _ _ _ (fault_as c.fault.ensures)
    (number_refused args.self.now.layout args.p.now args.s args.c.now 1 c.requires args.self.now.kinds.now (omega arith) args.f c.of_bits.result c.is_finite.result
    c.if-f-eq-NUMBER.true c.of_bits.ensures c.is_finite.ensures c.if-not-is_finite.true)

pub returns-then-f-eq-NUMBER : goal.returns-then-f-eq-NUMBER
returns-then-f-eq-NUMBER c =
    let args = c.args in
    number_made args.self.now.layout args.p.now args.s args.c.now 1 c.requires args.self.now.kinds.now (omega arith) args.f c.of_bits.result c.is_finite.result
    c.constant.new.p _ c.if-f-eq-NUMBER.true c.of_bits.ensures c.is_finite.ensures c.if-not-is_finite.false (done_as c.constant.ensures.0 c.constant.ensures.1) c.constant.ensures.2

pub returns-then-f-eq-TRUTH : goal.returns-then-f-eq-TRUTH
returns-then-f-eq-TRUTH c =
    let args = c.args in
    let constant = c.constant-then-f-eq-TRUTH in
    truth_made args.self.now.layout args.p.now args.s args.c.now 1 c.requires args.self.now.kinds.now (omega arith) args.f _ constant.new.p _
    c.if-f-eq-NUMBER.false c.if-f-eq-TRUTH.true refl (done_as constant.ensures.0 constant.ensures.1) (rw c.truth.ensures at constant.ensures.2)

pub returns : goal.returns
returns c =
    let args = c.args in
    symbol_made args.self.now.layout args.p.now args.s args.c.now 1 c.requires args.self.now.kinds.now (omega arith) args.f _ c.load.new.p _
    c.if-f-eq-NUMBER.false c.if-f-eq-TRUTH.false refl c.load.ensures
