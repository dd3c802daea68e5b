use mathlib.Core.Path.{refl}
use Rattle.lower.proofs.Results.{alike}
use Rattle.lower.proofs.Chosen.join.Goals as goal

pub returns : goal.returns
returns c = let chosen = c.args.self in rw (alike chosen.yes.boolean chosen.no.boolean c.if-self.false, c.put-2.ensures, c.put.ensures) (refl, refl)
