use Rattle.layout.specs.Decode.{code_count, entry_total, input_count, path_total, register_total}
use Rattle.program.proofs.Header.read.Goals as goal

pub returns : goal.returns
unfolding code_count register_total input_count path_total entry_total
returns c = (
  record { code = c.known_word.ensures.0; registers = c.known_word-2.ensures.0; inputs = c.known_word-3.ensures.0; paths = c.known_word-4.ensures.0; entries = c.known_word-5.ensures.0 },
  record { code = c.known_word.ensures.1; paths = c.known_word-4.ensures.1; entries = c.known_word-5.ensures.1 },
)
