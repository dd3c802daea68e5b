use native.Mathlib.Omega.{arith}
use Rattle.reader.proofs.Loads.{loaded_padded, word_loaded}
use Rattle.reader.proofs.word.Goals as goal

pub returns : goal.returns
returns c = let loaded = loaded_padded c.args.b.now c.args.at 4 4 c.bytes_from.result c.bytes_from.ensures in (word_loaded _ _ _ _ loaded c.from_le_bytes.ensures, omega arith)
