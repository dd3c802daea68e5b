use mathlib.Core.Path.{◌≡◌}
use Prim.Native.Nat.{◌≤◌}
use lib.ListN.{length}
use Rattle.formula.specs.Path.{text}
use Rattle.writer.specs.Over.{over}
use Rattle.paths.specs.Table.{FitsPath, length_in, path_in_table}
use Rattle.paths.proofs.write_path.Given as goal

-- for records that are linked, the steps from `at` on are written and the text to come ends at `begin`
abbrev pub invariant-loop-at : goal.invariant-loop-at
invariant-loop-at l =
    (length l.out ≡ length l.initial.out) × (l.at ≤ l.k) × (l.begin ≤ l.end)
    × (FitsPath l.b l.base l.k (length l.initial.out) → (l.begin ≡ length_in l.b l.base l.at) × (over l.out 0 (text (path_in_table l.b l.base l.at)) ≡ over l.initial.out 0 (text (path_in_table l.b l.base l.k))))

abbrev pub decreases-loop-at : goal.decreases-loop-at
decreases-loop-at l = l.at
