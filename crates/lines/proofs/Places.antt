-- The text of a refusal's place, with zeros after it.
use Rattle.std.proofs.Common.{◌≡◌, ℕ, zero, ◌+◌, ◌-◌, ◌<◌, ◌≤◌, Bool, true, false, ltb, List, ◌++◌, length, get_or, take, sym, refl, ap, ◌∙◌, arith, length-append, take_at, get_or-append-add, get_or-take, length-take, ltb-false, ltb-true}
use mathlib.Core.Option.{Option, none, some}
use lib.ListN.{length-replicate, get_or-replicate, get_or-append, get_or-eq_default}
use Rattle.formula.specs.Text.{zeros}
use Rattle.formula.specs.Path.{Path, placed, text}
use Rattle.listing.specs.Legs.{place_text}
use Rattle.names.specs.Lines.{free}
use Rattle.std.specs.Prelude.{All, ◌≢◌, min}
use Rattle.lines.specs.Owed.{TextLength}
use Rattle.names.proofs.Splits.{free_at}
use Rattle.listing.proofs.Fields.{plain_free, plain_place}

-- no zero stands in a path's text
pub free_place : (o : Option Path) → free 0 (place_text o) ≡ true
free_place o = plain_free 0 (place_text o) (omega arith) (plain_place o)

-- ---- where the text ends

get_or_zeros : (m j : ℕ) → get_or (zeros m) j 0 ≡ 0
get_or_zeros m j = by_cases (ltb j m) refl
  where
    by_cases : (t : Bool) → ltb j m ≡ t → get_or (zeros m) j 0 ≡ 0
    by_cases true e = get_or-replicate m j 0 0 (ltb-true j m e)
    by_cases false e = get_or-eq_default (zeros m) 0 (let l = ltb-false j m e in omega (arith, length-replicate m (zero)))

abbrev pub NoZero : List ℕ → ℕ → Type 0
NoZero path i = (j : ℕ) → j < i → get_or path j 0 ≡ 0 → ⊥

-- the place of the first zero, or an end before which there is none
pub text_end : (path : List ℕ) (i : ℕ) → NoZero path i → (t : List ℕ) (m : ℕ) → path ≡ t ++ zeros m → free 0 t ≡ true → (i < length t → get_or path i 0 ≡ 0) → i ≡ length t
text_end path i h t m e f z = by_cases (ltb i (length t)) (ltb (length t) i) refl refl
  where
    by_cases : (u v : Bool) → ltb i (length t) ≡ u → ltb (length t) i ≡ v → i ≡ length t
    by_cases true v p q =
        let l = ltb-true i (length t) p in
        absurd (free_at 0 t f i l (sym (get_or-append t (zeros m) 0 i l) ∙ ap (λ (xs : List ℕ). get_or xs i 0) (sym e) ∙ z l))
    by_cases false true p q =
        let l = ltb-true (length t) i q in
        let w : length t + 0 ≡ length t = omega arith in
        absurd
        (h (length t) l
        (ap (λ (xs : List ℕ). get_or xs (length t) 0) e ∙ ap (λ (k : ℕ). get_or (t ++ zeros m) k 0) (sym w) ∙ get_or-append-add t (zeros m) 0 0 ∙ get_or_zeros m 0))
    by_cases false false p q = let a = ltb-false i (length t) p in let b = ltb-false (length t) i q in omega arith

-- the first zero of 8,192 bytes at most
pub text_first : (path : List ℕ) (n r : ℕ) → n ≡ min (length path) 8192 → r ≤ length (take n path) → All (λ b. b ≢ 0) (take r (take n path))
    → (r < length (take n path) → get_or (take n path) r 0 ≡ 0) → TextLength path r
text_first path n r q within before found =
    let l = length-take n path in
    let m = length-take r (take n path) in (
      omega arith,
      omega arith,
      λ t k e f s.
          let u = ap length e ∙ length-append t (zeros k) in
          text_end path r
          (λ j h z. before j 0 (omega arith) (get_or-take r (take n path) j 0 h ∙ get_or-take n path j 0 (omega arith) ∙ z)) t k e f
          (λ h. sym (get_or-take n path r 0 (omega arith)) ∙ found (omega arith)),
    )

-- ---- a slice of zeros, with a place written into it

pub place_stands : (o : Option Path) (path path' : List ℕ) → path ≡ zeros 8192 → path' ≡ placed o path → length path' ≡ length path
    → (m : ℕ) × (path' ≡ place_text o ++ zeros m) × (length (place_text o) ≤ 8192)
place_stands none path path' z e l = (8192, e ∙ z, omega arith)
place_stands (some p) path path' z e l =
    let n = length path - length (text p) in
    let k = ap length z ∙ length-replicate {A = ℕ} 8192 0 in
    (n, e, omega (arith, ap length e, length-append (text p) (zeros n), l, k))

pub place_taken : (o : Option Path) (path' : List ℕ) (m r : ℕ) → path' ≡ place_text o ++ zeros m → r ≡ length (place_text o) → take r path' ≡ place_text o
place_taken o path' m r e q = ap (take r) e ∙ take_at (place_text o) (zeros m) r (sym q)
