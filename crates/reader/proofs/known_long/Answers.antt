use Rattle.reader.proofs.Loads.{loaded_known, long_loaded}
use Rattle.reader.proofs.known_long.Goals as goal

pub returns : goal.returns
returns c = let loaded = loaded_known c.args.b.now c.args.at 8 c.known_bytes.result c.known_bytes.ensures in long_loaded _ _ _ _ loaded c.from_le_bytes.ensures
