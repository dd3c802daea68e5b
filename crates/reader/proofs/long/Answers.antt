use Rattle.reader.proofs.Loads.{loaded_padded, long_loaded}
use Rattle.reader.proofs.long.Goals as goal

pub returns : goal.returns
returns c = let loaded = loaded_padded c.args.b.now c.args.at 8 8 c.bytes_from.result c.bytes_from.ensures in long_loaded _ _ _ _ loaded c.from_le_bytes.ensures
