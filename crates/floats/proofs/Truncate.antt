-- Whole numbers that an f64 holds.
use Rattle.std.proofs.Common.{ℕ, ◌^◌, ◌≤◌, T, pos, le→leb}
use lib.Ieee.{binary64, in_float}

pub in_float_lem : (t : ℕ) → t ≤ 2 ^ 53 → T (in_float binary64 (pos t))
unfolding in_float
in_float_lem t h = le→leb t (2 ^ 53) h
