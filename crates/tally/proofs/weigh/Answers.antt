use mathlib.Core.Path.{◌∙◌, sym}
use native.Mathlib.Omega.{arith}
use Rattle.tally.proofs.Weights.{branch_weight, dropped_weight, kept_few, kept_right, leaf_weight, link_weight, list_weight, other_weight}
use Rattle.tally.proofs.weigh.Goals as goal
use Rattle.tally.proofs.weigh.Goals.{then-f-le-SYMBOL-via-then-f-le-SYMBOL, then-f-le-SYMBOL-via-else-f-le-SYMBOL+then-drops}

pub returns-then-f-le-SYMBOL : goal.returns-then-f-le-SYMBOL
returns-then-f-le-SYMBOL c =
    elim c.then-f-le-SYMBOL.branch [
      | then-f-le-SYMBOL-via-then-f-le-SYMBOL w ↦ leaf_weight c.args.f c.args.inner (omega (arith, w.if-f-le-SYMBOL.true))
      | then-f-le-SYMBOL-via-else-f-le-SYMBOL+then-drops w ↦ dropped_weight c.args.f c.args.inner (sym w.drops.ensures ∙ w.if-drops.true)
    ]

pub overflow_sub-n : goal.overflow_sub-n
overflow_sub-n c = omega (arith, kept_few c.args.f (sym c.drops.ensures ∙ c.if-drops.false) c.if-f-eq-BOOLEAN.true)

pub overflow_sub-n-then-f-eq-BOOLEAN : goal.overflow_sub-n-then-f-eq-BOOLEAN
overflow_sub-n-then-f-eq-BOOLEAN c = omega (arith, kept_few c.args.f (sym c.drops.ensures ∙ c.if-drops.false) c.if-f-eq-BOOLEAN.true)

pub returns-then-f-eq-BOOLEAN : goal.returns-then-f-eq-BOOLEAN
returns-then-f-eq-BOOLEAN c =
    c.grown.ensures ∙ link_weight c.args.f c.args.inner (omega (arith, c.if-f-le-SYMBOL.false)) c.if-f-eq-BOOLEAN.true
    (kept_few c.args.f (sym c.drops.ensures ∙ c.if-drops.false) c.if-f-eq-BOOLEAN.true)

pub returns-then-chooses : goal.returns-then-chooses
returns-then-chooses c =
    let chosen = sym c.chooses.ensures ∙ c.if-chooses.true in
    c.grown-then-chooses.ensures ∙ branch_weight c.args.f c.args.inner (omega (arith, c.if-f-le-SYMBOL.false)) c.if-f-eq-BOOLEAN.false chosen
    (kept_right c.args.f (sym c.drops.ensures ∙ c.if-drops.false) c.if-f-eq-BOOLEAN.false chosen)

pub returns-then-listing : goal.returns-then-listing
returns-then-listing c =
    c.grown-then-listing.ensures ∙ list_weight c.args.f c.args.inner (omega (arith, c.if-f-le-SYMBOL.false)) c.if-f-eq-BOOLEAN.false
    (sym c.chooses.ensures ∙ c.if-chooses.false) (sym c.listing.ensures ∙ c.if-listing.true)

pub returns : goal.returns
returns c =
    c.grown-2.ensures ∙ other_weight c.args.f c.args.inner (omega (arith, c.if-f-le-SYMBOL.false)) c.if-f-eq-BOOLEAN.false
    (sym c.chooses.ensures ∙ c.if-chooses.false) (sym c.listing.ensures ∙ c.if-listing.false)
