-- Laws on work that is done or put off, and on the values kept.
use Rattle.std.proofs.Common.{◌≡◌, refl, List, [], ◌∷◌, ◌++◌, ◌≤◌, length, take, arith}
use Rattle.std.proofs.lemmas.List.{take_all, take-append-le}
use lib.Ieee.{Float}
use Rattle.meaning.specs.Work.{give, undefined, advance}
use Rattle.work.specs.View.{kept_values, shown}
use Rattle.work.specs.declared.Kept.{Kept}
use Rattle.work.specs.declared.Outcome.TheVariants.{Value, Undefined}

-- work that asks nothing more takes no notice of what is kept
pub given : (v : Float) (kept : List Float) → Value v ≡ shown (advance (give v) kept)
given v [] = refl
given v (x ∷ xs) = refl

pub outside : (kept : List Float) → Undefined ≡ shown (advance undefined kept)
outside [] = refl
outside (x ∷ xs) = refl

-- nine values have no room for one more
pub full : (k : Kept) (v : Float) → length k.values ≡ 9 → 9 ≤ k.count → kept_values k ≡ take 9 (kept_values k ++ v ∷ [])
full k v own h =
    let all : take k.count k.values ≡ k.values = take_all k.count k.values (omega arith) in
    let nine : 9 ≤ length k.values = omega arith in
    rw (all, take-append-le 9 k.values (v ∷ []) nine, take_all 9 k.values (omega arith))
