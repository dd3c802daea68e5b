use mathlib.Core.Path.{refl}
use native.Mathlib.Omega.{arith}
use Rattle.lower.proofs.Ends.{not_false, not_true, wrong_arity, wrong_kind, wrong_step, listed_slot, plain_slot}
use Rattle.lower.proofs.Results.{done_as, fault_as, says_as}
use Rattle.lower.proofs.Source.operation.Goals as goal

pub returns-then-not-arity : goal.returns-then-not-arity
returns-then-not-arity c =
    let args = c.args in
    says_as _ _ _ _ _ (fault_as c.fault.ensures)
    (wrong_arity args.self.now.layout args.p.now args.s args.c.now 1 c.requires.0 args.f args.v c.arity.result c.arity.ensures c.if-not-arity.true)

pub returns-then-not-v : goal.returns-then-not-v
returns-then-not-v c =
    let args = c.args in
    says_as _ _ _ _ _ (fault_as c.fault-then-not-v.ensures)
    (wrong_kind args.self.now.layout args.p.now args.s args.c.now 1 c.requires.0 args.f args.v c.arity.result c.arity.ensures c.if-not-arity.false (not_true _ _ refl c.if-not-v.true))

pub returns-then-unsupported : goal.returns-then-unsupported
returns-then-unsupported c =
    let args = c.args in
    says_as _ _ _ _ _ (fault_as c.fault-then-unsupported.ensures)
    (wrong_step args.self.now.layout args.p.now args.s args.c.now 1 c.requires.0 args.f args.v c.arity.result c.arity.ensures c.if-not-arity.false (not_false _ _ refl c.if-not-v.false)
    c.stepped-jumps.result c.unsupported.result c.stepped-jumps.ensures c.unsupported.ensures c.if-unsupported.true)

pub returns-then-listing : goal.returns-then-listing
returns-then-listing c =
    let args = c.args in
    listed_slot args.self.now.layout args.p.now args.s args.c.now 1 c.requires.0 args.f args.v c.arity.result c.arity.ensures c.if-not-arity.false (not_false _ _ refl c.if-not-v.false)
    c.stepped-jumps.result c.unsupported.result c.stepped-jumps.ensures c.unsupported.ensures c.if-unsupported.false (omega arith) c.listing.result c.gives-boolean.result c.opcode-o.result
    c.listing.ensures c.opcode-o.ensures.0 c.gives-boolean.ensures c.put.new.p _ c.if-listing.true c.put.ensures (done_as c.store.ensures.0 c.store.ensures.1)

pub returns : goal.returns
returns c =
    let args = c.args in
    plain_slot args.self.now.layout args.p.now args.s args.c.now 1 c.requires.0 args.f args.v c.arity.result c.arity.ensures c.if-not-arity.false (not_false _ _ refl c.if-not-v.false)
    c.stepped-jumps.result c.unsupported.result c.stepped-jumps.ensures c.unsupported.ensures c.if-unsupported.false (omega arith) c.listing.result c.gives-boolean.result c.opcode-o.result
    c.listing.ensures c.opcode-o.ensures.0 c.gives-boolean.ensures c.put-2.new.p _ c.if-listing.false c.put-2.ensures (done_as c.store-2.ensures.0 c.store-2.ensures.1)
