use Rattle.std.proofs.Common.{◌≡◌, ℕ, zero, suc, ◌^◌, ◌<◌, ◌≤◌, true, false, ℤ, refl, ◌∙◌, arith}
use lib.Ieee.{Float, nan, inf, fin, binary64, to_bits, neg, fits}
use lib.Ieee.Bits.{to_bits-lt}
use Rattle.arithmetic.specs.Value.{absolute}
use Rattle.floats.proofs.Zero.{held}
use Rattle.floats.proofs.value.abs.Goals as goal

-- the sign is the highest bit
no_sign : (x : Float) → to_bits binary64 x < 2 ^ 63 → x ≡ absolute x
unfolding to_bits absolute
no_sign nan h = refl
no_sign (inf false) h = refl
no_sign (inf true) h = absurd (omega arith)
no_sign (fin false m e) h = refl
no_sign (fin true m e) h = absurd (omega arith)

same_fits : (m : ℕ) (e : ℤ) → fits binary64 (fin true m e) ≡ fits binary64 (fin false m e)
unfolding fits
same_fits zero e = refl
same_fits (suc m) e = refl

sign : (x : Float) → fits binary64 x ≡ true → 2 ^ 63 ≤ to_bits binary64 x → neg x ≡ absolute x
unfolding to_bits absolute neg
sign nan f h = absurd (omega arith)
sign (inf false) f h = absurd (omega arith)
sign (inf true) f h = refl
sign (fin false m e) f h = absurd (let l = to_bits-lt binary64 (fin true m e) (held (fits binary64 (fin true m e)) (same_fits m e ∙ f)) in omega arith)
sign (fin true m e) f h = refl

pub returns-then-bits_of-lt-MINUS_BIT : goal.returns-then-bits_of-lt-MINUS_BIT
returns-then-bits_of-lt-MINUS_BIT c = no_sign c.args.x (omega (arith, c.bits_of.ensures, c.if-bits_of-lt-MINUS_BIT.true))

pub returns-else-bits_of-lt-MINUS_BIT : goal.returns-else-bits_of-lt-MINUS_BIT
returns-else-bits_of-lt-MINUS_BIT c = sign c.args.x c.well_formed.0.1 (omega (arith, c.bits_of.ensures, c.if-bits_of-lt-MINUS_BIT.false))
