use mathlib.Core.Path.{ap, ◌∙◌}
use Prim.Native.Nat.{ℕ, ◌+◌}
use Rattle.program.proofs.Records.{length_read, record_place}
use Rattle.program.proofs.Image.path_length.Goals as goal

pub returns : goal.returns
returns c =
    let image = c.args.self.now in
    let place = c.record.ensures ∙ record_place image.bytes.now image.header c.args.k image.whole.numbers in
    (length_read image.bytes.now c.args.k _ (ap (λ (x : ℕ). x + 8) place) c.known_word.ensures.0, c.known_word.ensures.1)
