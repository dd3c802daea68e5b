use mathlib.Core.Path.{◌≡◌, ap, ◌∙◌}
use mathlib.Core.Option.{some}
use native.Mathlib.Omega.{arith}
use Rattle.formula.specs.Path.{Path, placed}
use Rattle.layout.specs.Decode.{code_count, path_total}
use Rattle.program.proofs.Pass.{length_from, linked_from, path_from}
use Rattle.program.proofs.write_place.Goals as goal

pub returns-then-records-k : goal.returns-then-records-k
unfolding path_total
returns-then-records-k c = λ g. absurd (omega (arith, g.1, c.if-records-k.true, c.word-records.ensures.0))

pub write_path-requires : goal.write_path-requires
write_path-requires c = omega (arith, c.if-records-k.false, c.word-records.ensures.1, c.word-code.ensures.1)

pub returns : goal.returns
unfolding code_count
returns c =
    let args = c.args in
    let word = c.word-code in
    let b = args.p.now in
    let e : word.result ≡ code_count b = word.ensures.0 in
    λ g. c.write_path.ensures (
      linked_from b word.result args.k e g.0 g.1,
      omega (arith, g.2, length_from b word.result args.k e),
    )
    ∙ ap (λ (q : Path). placed (some q) args.out.now) (path_from b word.result args.k e)
