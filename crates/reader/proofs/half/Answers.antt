use mathlib.Core.Path.{◌∙◌}
use native.Mathlib.Omega.{arith}
use Rattle.reader.proofs.Loads.{loaded_padded, half_loaded}
use Rattle.reader.proofs.half.Goals as goal

pub returns : goal.returns
returns c = let loaded = loaded_padded c.args.b.now c.args.at 2 2 c.bytes_from.result c.bytes_from.ensures in (c.from.ensures ∙ half_loaded _ _ _ _ loaded c.from_le_bytes.ensures, omega arith)
