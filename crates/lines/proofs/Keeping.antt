-- The first bytes of a name line.
use Rattle.std.proofs.Common.{◌≡◌, ℕ, ◌+◌, ◌-◌, ◌≤◌, min, Bool, true, false, ltb, List, [], ◌++◌, length, take, sym, refl, ap, ◌∙◌, append-nil, arith, length-append, length-take, take_all, ltb-false, ltb-true}
use lib.Seq.{take-append-add, take-append-le}
use Rattle.std.proofs.lemmas.List.{take_min}
use Rattle.writer.specs.Over.{over}
use Rattle.lines.specs.Owed.{Keeps, KeepsOn}
use Rattle.lines.proofs.Newlines.{take_wrote}

pub keeps_none : (names : List ℕ) → Keeps [] 0 names
keeps_none names = record { count = omega arith; stand = sym (take_all (length names) [] (omega arith)) }

-- ---- the slice, whatever was seen before

-- the first k bytes of the slice, then as many of these as there are places for
abbrev pub Holds : List ℕ → ℕ → List ℕ → ℕ → List ℕ → Type 0
Holds names k bytes count names' = (names' ≡ over names k (take (length names - k) bytes)) × (count ≡ k + length (take (length names - k) bytes))

pub holds_fits : (names : List ℕ) (k : ℕ) (bytes : List ℕ) (count : ℕ) (names' : List ℕ) → k ≤ length names → length names' ≡ length names → Holds names k bytes count names' → count ≤ length names'
holds_fits names k bytes count names' h l g = let c = g.1 in omega (arith, length-take (length names - k) bytes)

-- a line that had begun as `seen`, with these bytes more
first_of : (seen bytes : List ℕ) (k n : ℕ) → k ≡ min (length seen) n → take n seen ++ take (n - k) bytes ≡ take n (seen ++ bytes)
first_of seen bytes k n c = by_room (ltb n (length seen)) refl
  where
    by_room : (t : Bool) → ltb n (length seen) ≡ t → take n seen ++ take (n - k) bytes ≡ take n (seen ++ bytes)
    by_room true e =
        let l = ltb-true n (length seen) e in
        let z : n - k ≡ 0 = omega arith in
        ap (λ (i : ℕ). take n seen ++ take i bytes) z ∙ append-nil (take n seen) ∙ sym (take-append-le n seen bytes (omega arith))
    by_room false e =
        let l = ltb-false n (length seen) e in
        let z : length seen + (n - k) ≡ n = omega arith in
        ap (λ (xs : List ℕ). xs ++ take (n - k) bytes) (take_all n seen l)
        ∙ sym (take-append-add seen bytes (n - k))
        ∙ ap (λ (i : ℕ). take i (seen ++ bytes)) z

pub keeps_on : (names : List ℕ) (k : ℕ) (bytes : List ℕ) (count : ℕ) (names' : List ℕ) → length names' ≡ length names → Holds names k bytes count names' → KeepsOn k names bytes count names'
keeps_on names k bytes count names' same h seen g =
    let n = length names in
    let more = take (n - k) bytes in
    let lm = length-take (n - k) bytes in
    let ls = length-append seen bytes in
    let c = g.count in
    let d = h.1 in
    let w : take count names' ≡ take k names ++ more = take_wrote names k more names' count (record { ends = h.1; stands = h.0 }) (omega arith) in
    record {
      count = omega arith;
      stand = w ∙ ap (λ (xs : List ℕ). xs ++ more) g.stand ∙ first_of seen bytes k n c ∙ ap (λ (i : ℕ). take i (seen ++ bytes)) (sym same);
    }

-- the line's first bytes, written
pub keeps_written : (names : List ℕ) (k : ℕ) (bytes : List ℕ) (count : ℕ) (names' : List ℕ) → length names' ≡ length names
    → (count ≡ k + length (take (min (length names - k) (length bytes)) bytes)) × (names' ≡ over names k (take (min (length names - k) (length bytes)) bytes))
    → KeepsOn k names bytes count names' × Holds names k bytes count names'
keeps_written names k bytes count names' same w =
    let h : Holds names k bytes count names' = let e = take_min (length names - k) bytes in (w.1 ∙ ap (over names k) e, w.0 ∙ ap (λ (xs : List ℕ). k + length xs) e) in
    (keeps_on names k bytes count names' same h, h)
