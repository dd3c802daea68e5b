-- Up to 2 ^ fraction every whole number is a number of the width.
use mathlib.Core.Path.{sym, ap, ◌∙◌}
use Prim.Native.Nat.{ℕ, suc, ◌+◌, ◌*◌, ◌^◌, ◌≤◌}
use native.Mathlib.Nat.{le_trans, le_of_eq, lt_of_le_of_lt, zero-lt-suc, mul-one, mul-le-mul_right}
use native.Mathlib.Omega.{arith}
use lib.Pow.{pow-add, pow_mono, pow-lt}
use lib.IntN.{pos}
use Rattle.arithmetic.specs.Width.{Width, digits, least}
use Rattle.rounding.proofs.Neighbours.{multiples_short}
use Rattle.rounding.proofs.Value.{Units}

pub small : (W : Width) → W.fraction ≤ W.power → (q : ℕ) → q ≤ 2 ^ W.fraction → Units W q (pos 0)
small W wide q l = record {
  units = q * 2 ^ least W;
  same = ap (λ (x : ℕ). x * 2 ^ least W) (mul-one q) ∙ sym (mul-one (q * 2 ^ least W));
  short = multiples_short (digits W) q (least W) (zero-lt-suc W.fraction) (le_trans l (pow_mono {i = W.fraction} {j = digits W} (omega arith)));
  under = lt_of_le_of_lt (le_trans (mul-le-mul_right (2 ^ least W) l) (le_of_eq (sym (pow-add 2 W.fraction (least W))))) (pow-lt {i = W.fraction + least W} {j = least W + suc W.power} (omega arith));
}
