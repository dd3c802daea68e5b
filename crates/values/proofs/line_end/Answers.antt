use Rattle.std.proofs.lemmas.List.{take_rest}
use Rattle.values.proofs.Parts.{line_ends}
use Rattle.values.proofs.line_end.Goals as goal

pub returns : goal.returns
returns c =
    let n = c.first_place.ensures in
    let e = take_rest c.args.input.now c.args.from in
    line_ends c.args.input.now c.args.from c.first_place.result c.requires (rw e at n.within) (rw e at n.before) (rw e at n.found)
