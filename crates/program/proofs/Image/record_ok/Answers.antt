use Rattle.std.proofs.Common.{◌∙◌, rules}
use Rattle.program.proofs.Records.{record_is, record_place}
use Rattle.program.proofs.Image.record_ok.Goals as goal

pub returns-then-parent-k : goal.returns-then-parent-k
returns-then-parent-k c =
    let image = c.args.self.now in
    let k = c.args.k in
    rw (record_is image.bytes.now k c.args.at c.requires.0 (c.requires.2 ∙ record_place image.bytes.now image.header k image.whole.numbers)) (search rules)

pub returns-else-parent-k : goal.returns-else-parent-k
returns-else-parent-k c =
    let image = c.args.self.now in
    let k = c.args.k in
    rw (record_is image.bytes.now k c.args.at c.requires.0 (c.requires.2 ∙ record_place image.bytes.now image.header k image.whole.numbers)) (search rules)
