use Rattle.std.proofs.Common.{rules}
use Rattle.std.proofs.lemmas.Bool.Decides.{Decides-eqb}
use Rattle.std.proofs.lemmas.Slice.Eq.{slice_eq-Decides}
use Rattle.cases.proofs.Filled.{filled}
use Rattle.cases.proofs.is_filled.Goals as goal

pub returns-then-first-byte : goal.returns-then-first-byte
returns-then-first-byte c =
    filled c.args.byte c.in-Some.first.now c.in-Some.others.now c.args.bytes.now c.eq.result (search rules) c.if-first-byte.true (slice_eq-Decides Decides-eqb _ _ _ c.eq.ensures)
