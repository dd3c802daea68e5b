use Rattle.std.proofs.Common.{◌≡◌, ◌∷◌, [], ◌++◌, drop, length, take}
use Rattle.vebrostin.specs.Cells.{Held, padded}
use Rattle.vebrostin.proofs.put.Given as goal

abbrev pub invariant-loop-i : goal.invariant-loop-i
invariant-loop-i l =
    (l.row ≡ l.position ∷ length l.values ∷ padded 9 (take l.i l.values) ++ (l.question ∷ l.first ∷ l.second ∷ l.count ∷ l.value ∷ []))
    × Held (take l.i l.values)

abbrev pub invariant-loop-place : goal.invariant-loop-place
invariant-loop-place l = (length l.cells ≡ length l.initial.cells) × (l.cells ≡ take l.place l.row ++ drop l.place l.initial.cells)
