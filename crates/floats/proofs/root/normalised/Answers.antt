use Rattle.std.proofs.Common.{◌+◌, ◌*◌, ◌^◌, sym, ap, ◌∙◌, arith}
use Rattle.floats.proofs.Raised.{Raised, by_52, normal}
use Rattle.floats.proofs.root.normalised.Goals as goal

pub returns : goal.returns
returns c =
    let s = c.of-s.result in
    let e = c.raised.ensures in
    let r : Raised s.digits (s.exp + 52) c.raised.result.digits c.raised.result.exp = record { same = e.0; few = e.1; inside = e.2; full = e.3 } in (
      normal s.digits s.exp c.raised.result.digits c.raised.result.exp (c.of-s.ensures.3 c.requires.0) r,
      e.1,
      omega arith,
      e.0 ∙ by_52 s.digits s.exp ∙ ap (λ x. x * 2 ^ 52) (sym c.of-s.ensures.2),
    )
