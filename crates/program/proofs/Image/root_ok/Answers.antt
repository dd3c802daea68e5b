use Rattle.std.proofs.Common.{◌∙◌, rules}
use Rattle.program.proofs.Records.{record_place, root_is}
use Rattle.program.proofs.Image.root_ok.Goals as goal

pub returns-then-known_word-eq0-2 : goal.returns-then-known_word-eq0-2
returns-then-known_word-eq0-2 c =
    let image = c.args.self.now in
    rw (root_is image.bytes.now c.record-at.result (c.record-at.ensures ∙ record_place image.bytes.now image.header 0 image.whole.numbers)) (search rules)

pub returns-else-known_word-eq0-2 : goal.returns-else-known_word-eq0-2
returns-else-known_word-eq0-2 c =
    let image = c.args.self.now in
    rw (root_is image.bytes.now c.record-at.result (c.record-at.ensures ∙ record_place image.bytes.now image.header 0 image.whole.numbers)) (search rules)
