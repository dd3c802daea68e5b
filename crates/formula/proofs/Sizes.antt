-- Sizes and depths of formulas.
use Prim.Native.Nat.{◌≤◌}
use native.Mathlib.Omega.{arith}
use Rattle.formula.specs.Formula.{Formula, node, size, depth}

pub size_pos : (t : Formula) → 1 ≤ size t
size_pos (node h ts) = omega arith

pub depth_pos : (t : Formula) → 1 ≤ depth t
depth_pos (node h ts) = omega arith
