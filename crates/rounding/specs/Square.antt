-- The whole part of a root.
use Rattle.std.specs.Prelude.{ℕ, ◌+◌, ◌*◌, ◌≤◌, ◌<◌}

-- r is the whole part of n's root
abbrev pub Root : ℕ → ℕ → Type 0
Root n r = (r * r ≤ n) × (n < (r + 1) * (r + 1))
