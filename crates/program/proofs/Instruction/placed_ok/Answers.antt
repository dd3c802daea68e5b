use Rattle.std.proofs.Common.{rules}
use Rattle.program.proofs.Pass.{placed_is}
use Rattle.program.proofs.Instruction.placed_ok.Goals as goal

pub returns-then-path-self : goal.returns-then-path-self
returns-then-path-self c =
    let i = c.args.self.now in
    rw (placed_is i.image.bytes.now i.image.header i.number i.slot _ _ i.image.whole.numbers i.is.place c.field.ensures.0 c.field-path.ensures.0) (search rules)

pub returns-else-path-self : goal.returns-else-path-self
returns-else-path-self c =
    let i = c.args.self.now in
    rw (placed_is i.image.bytes.now i.image.header i.number i.slot _ _ i.image.whole.numbers i.is.place c.field.ensures.0 c.field-path.ensures.0) (search rules)
