use Rattle.std.proofs.Common.{◌≡◌, ℕ, ◌%◌, ◌<◌, not, T, sym, refl, ◌∙◌, subst, lt→ltb}
use lib.Arith.{le→nltb}
use lib.Ieee.{Float, nan, inf, fin, binary64, of_bits, is_nan}
use lib.Ieee.Bits.{nan_bits_is, nan_bits_above}
use Rattle.floats.proofs.value.of_bits.Goals as goal

only_nan : (x : Float) → T (is_nan x) → x ≡ nan
unfolding is_nan
only_nan nan t = refl
only_nan (inf s) t = absurd t
only_nan (fin s m e) t = absurd t

at : (n : ℕ) → 9218868437227405312 < n % 9223372036854775808 → of_bits binary64 n ≡ nan
at n h = only_nan (of_bits binary64 n) (subst T (nan_bits_is binary64 n) (subst T (sym (nan_bits_above binary64 n)) (lt→ltb 9218868437227405312 (n % 9223372036854775808) h)))

pub float_from_bits-result : goal.float_from_bits-result
float_from_bits-result c = subst (λ b. T (not b)) (sym (nan_bits_above binary64 c.args.n)) (le→nltb 9218868437227405312 (c.args.n % 9223372036854775808) c.if-n-gt-INFINITY_BITS.false)

quiet : of_bits binary64 9221120237041090560 ≡ nan
unfolding of_bits
quiet = refl

pub returns-then-n-gt-INFINITY_BITS : goal.returns-then-n-gt-INFINITY_BITS
returns-then-n-gt-INFINITY_BITS c = quiet ∙ sym (at c.args.n c.if-n-gt-INFINITY_BITS.true)
