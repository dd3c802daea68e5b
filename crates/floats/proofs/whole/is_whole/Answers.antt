use Rattle.std.proofs.Common.{◌≡◌, false, sym, refl, ap, ◌∙◌, true≢false}
use lib.Ieee.{Float, nan, inf, fin, binary64, eq, fits}
use Rattle.arithmetic.specs.Value.{finite, whole}
use Rattle.rounding.proofs.Whole.{whole_is}
use Rattle.floats.proofs.Zero.{held}
use Rattle.floats.proofs.whole.is_whole.Goals as goal

not_finite : (x : Float) → finite x ≡ false → false ≡ whole x
unfolding whole
not_finite nan h = refl
not_finite (inf s) h = refl
not_finite (fin s m e) h = absurd (true≢false h)

pub returns-then-is_finite : goal.returns-then-is_finite
returns-then-is_finite c =
    let args = c.args in
    let good = c.well_formed in
    let is_finite = c.is_finite in
    ap (λ (y : Float). eq y args.x) c.floor.ensures
    ∙ whole_is binary64 args.x (held (fits binary64 args.x) good.0.1) (sym is_finite.ensures ∙ c.if-is_finite.true)

pub returns-else-is_finite : goal.returns-else-is_finite
returns-else-is_finite c = c.if-is_finite.false ∙ not_finite c.args.x (sym c.is_finite.ensures ∙ c.if-is_finite.false)
