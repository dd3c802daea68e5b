use native.Mathlib.Omega.{arith}
use Rattle.writer.proofs.Stored.{lowest_told}
use Rattle.writer.proofs.put.Goals as goal

pub returns : goal.returns
returns g c =
    let args = c.args in
    lowest_told args.p.now args.at g.row.N args.x c.requires.narrow c.copy_from_slice.ensures.after c.to_le_bytes.ensures (omega arith)
