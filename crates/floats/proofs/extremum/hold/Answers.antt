use Rattle.std.proofs.Common.{sym, ◌∙◌}
use Rattle.floats.proofs.Zeros.{holds_other_bits, holds_unequal, holds_zero}
use Rattle.floats.proofs.extremum.hold.Goals as goal
use Rattle.floats.proofs.extremum.hold.Goals.{else-next-earlier-via-then-next-earlier+else-bits_of-last_zero, else-next-earlier-via-else-next-earlier}

pub returns-then-bits_of-last_zero : goal.returns-then-bits_of-last_zero
returns-then-bits_of-last_zero g c =
    holds_zero _ c.args.next c.args.earlier c.well_formed.1.0.1 c.well_formed.0.1 c.if-next-earlier.true
    (sym c.bits_of.ensures ∙ c.if-bits_of-last_zero.true ∙ c.last_zero.ensures)

pub returns-else-next-earlier : goal.returns-else-next-earlier
returns-else-next-earlier g c =
    let l = sym c.is_beyond.ensures ∙ c.if-is_beyond.false in
    elim c.else-next-earlier.branch [
      | else-next-earlier-via-then-next-earlier+else-bits_of-last_zero w ↦
          holds_other_bits _ c.args.next c.args.earlier c.well_formed.1.0.1 c.well_formed.0.1 l (λ e. w.if-bits_of-last_zero.false (w.bits_of.ensures ∙ e ∙ sym w.last_zero.ensures))
      | else-next-earlier-via-else-next-earlier w ↦ holds_unequal _ c.args.next c.args.earlier c.well_formed.1.0.1 c.well_formed.0.1 l w.if-next-earlier.false
    ]
