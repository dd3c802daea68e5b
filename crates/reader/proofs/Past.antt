-- There is 0 past the end, and in zeros.
use mathlib.Core.Path.{◌≡◌, refl}
use mathlib.Core.List.{List, []}
use Prim.Native.Nat.{ℕ, zero, suc, ◌+◌, ◌≤◌}
use native.Mathlib.Omega.{arith}
use lib.ListN.{length, get_or-eq_default}
use Rattle.formula.specs.Text.{byte_at, half_at, word_at, long_at, zeros}

pub zero_byte : (n k : ℕ) → byte_at (zeros n) k ≡ 0
zero_byte zero k = let h : 0 ≤ k = omega arith in get_or-eq_default [] 0 h
zero_byte (suc n) zero = refl
zero_byte (suc n) (suc k) = zero_byte n k

module _ (b : List ℕ) where
  pub byte_past : (at : ℕ) → length b ≤ at → byte_at b at ≡ 0
  byte_past at h = get_or-eq_default b 0 h

  pub half_past : (at : ℕ) → length b ≤ at → half_at b at ≡ 0
  unfolding half_at
  half_past at h = omega (arith, byte_past at h, byte_past (at + 1) (omega arith))

  pub word_past : (at : ℕ) → length b ≤ at → word_at b at ≡ 0
  unfolding word_at
  word_past at h = omega (arith, half_past at h, half_past (at + 2) (omega arith))

  pub long_past : (at : ℕ) → length b ≤ at → long_at b at ≡ 0
  unfolding long_at
  long_past at h = omega (arith, word_past at h, word_past (at + 4) (omega arith))
