use mathlib.Core.Path.{ap, ◌∙◌}
use Prim.Native.Nat.{ℕ}
use lib.Dec.{eqb}
use native.Mathlib.Omega.{arith}
use Rattle.std.proofs.Common.{rules}
use Rattle.program.proofs.Ops.{constant_slot, jump_if_slot, jump_slot, load_slot, one_slot, other_slot, pair_slot, triple_slot}
use Rattle.program.proofs.Instruction.operands_ok.Goals as goal

pub returns-in-0 : goal.returns-in-0
returns-in-0 c =
    let i = c.args.self.now in
    ap (λ (x : ℕ). eqb x 0) c.field.ensures.0 ∙ constant_slot i.image.bytes.now i.image.header i.number i.slot i.opcode i.count i.next i.is c.requires (omega arith) c.in-0.is

pub returns-in-1 : goal.returns-in-1
returns-in-1 c =
    let i = c.args.self.now in
    c.below.ensures ∙ load_slot i.image.bytes.now i.image.header i.number i.slot i.opcode i.count i.next i.is c.requires (omega arith) c.in-1.is

pub returns-in-3 : goal.returns-in-3
returns-in-3 c =
    let i = c.args.self.now in
    c.jump_ok.ensures ∙ jump_if_slot i.image.bytes.now i.image.header i.number i.slot i.opcode i.count i.next i.is c.requires (omega arith) c.in-3.is

pub returns-in-4 : goal.returns-in-4
returns-in-4 c =
    let i = c.args.self.now in
    c.jump_ok-in-4.ensures ∙ jump_slot i.image.bytes.now i.image.header i.number i.slot i.opcode i.count i.next i.is c.requires (omega arith) c.in-4.is

pub returns-in-8-to-19 : goal.returns-in-8-to-19
returns-in-8-to-19 c =
    let i = c.args.self.now in
    c.below-in-8-to-19.ensures ∙ pair_slot i.image.bytes.now i.image.header i.number i.slot i.opcode i.count i.next i.is c.requires (omega arith) (omega arith) (omega arith)

pub returns-in-33-to-34 : goal.returns-in-33-to-34
returns-in-33-to-34 c =
    let i = c.args.self.now in
    c.below-in-33-to-34.ensures ∙ triple_slot i.image.bytes.now i.image.header i.number i.slot i.opcode i.count i.next i.is c.requires (omega arith) (omega arith) (omega arith)

pub returns-in-2 : goal.returns-in-2
returns-in-2 c =
    let i = c.args.self.now in
    c.below-in-2.ensures ∙ one_slot i.image.bytes.now i.image.header i.number i.slot i.opcode i.count i.next i.is c.requires (omega arith) (search rules)

pub returns-in_default-2 : goal.returns-in_default-2
returns-in_default-2 c =
    let i = c.args.self.now in
    other_slot i.image.bytes.now i.image.header i.number i.slot i.opcode i.count i.next i.is c.requires (omega arith) (omega arith) (λ k. omega arith)

pub returns-in_default : goal.returns-in_default
returns-in_default c =
    let i = c.args.self.now in
    other_slot i.image.bytes.now i.image.header i.number i.slot i.opcode i.count i.next i.is c.requires (omega arith) (omega arith) (λ k. omega arith)
