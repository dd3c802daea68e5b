use mathlib.Core.Path.{◌∙◌}
use native.Mathlib.Omega.{arith}
use Rattle.reader.proofs.Loads.{loaded_known, half_loaded}
use Rattle.reader.proofs.known_half.Goals as goal

pub returns : goal.returns
returns c = let loaded = loaded_known c.args.b.now c.args.at 2 c.known_bytes.result c.known_bytes.ensures in (c.from.ensures ∙ half_loaded _ _ _ _ loaded c.from_le_bytes.ensures, omega arith)
