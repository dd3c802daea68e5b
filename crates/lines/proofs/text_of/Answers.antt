use Rattle.std.proofs.Common.{◌≡◌, length, take, refl, length-take-le}
use Rattle.lines.specs.Owed.{TextLength}
use Rattle.lines.proofs.Places.{text_first}
use Rattle.lines.proofs.text_of.Goals as goal

pub returns : goal.returns
returns c =
    let path = c.args.path.now in
    let n = c.first_place-n.result in
    let e = c.first_place-n.ensures in
    let t : TextLength path n = text_first path c.min.result n c.min.ensures e.within e.before e.found in
    let l : length (take n path) ≡ n = length-take-le n path t.0 in record {
      long = rw l t;
      first = rw l refl;
    }
