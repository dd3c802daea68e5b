use Rattle.std.proofs.Common.{rules}
use Rattle.program.proofs.Ops.{listed_slot}
use Rattle.program.proofs.Instruction.list_ok.Goals as goal

pub returns-then-self : goal.returns-then-self
returns-then-self c =
    let i = c.args.self.now in
    rw (listed_slot i.image.bytes.now i.image.header i.number i.slot i.opcode i.count i.next i.is c.requires.1 c.requires.0) (search rules)

pub returns-else-self : goal.returns-else-self
returns-else-self c =
    let i = c.args.self.now in
    rw (listed_slot i.image.bytes.now i.image.header i.number i.slot i.opcode i.count i.next i.is c.requires.1 c.requires.0) (search rules)
