use native.Mathlib.Omega.{arith}
use Rattle.reader.proofs.Loads.{loaded_known, word_loaded}
use Rattle.reader.proofs.known_word.Goals as goal

pub returns : goal.returns
returns c = let loaded = loaded_known c.args.b.now c.args.at 4 c.known_bytes.result c.known_bytes.ensures in (word_loaded _ _ _ _ loaded c.from_le_bytes.ensures, omega arith)
