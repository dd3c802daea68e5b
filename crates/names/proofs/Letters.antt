-- The bytes of a name.
use mathlib.Core.Path.{◌≡◌, refl, sym, ap, ◌∙◌, subst}
use mathlib.Core.Bool.{Bool, true, false, ◌||◌}
use mathlib.Core.List.{List}
use Prim.Native.Nat.{ℕ, zero, suc, ◌+◌, ◌-◌, ◌*◌, ◌%◌, ◌≤◌, ◌<◌}
use native.Mathlib.Omega.{arith}
use lib.ListN.{length, get_or, take, drop}
use lib.Dec.{eqb, ltb}
use borrow.Author.Tests.{eqb-true, eqb-false, ltb-true, ltb-false}
use Rattle.formula.specs.Names.{is_letter, is_digit}
use Rattle.names.specs.Lines.{Ends, Letters, mark}
use Rattle.names.proofs.Marks.{mark_next}

-- ---- a name

abbrev pub letter_or_digit : ℕ → Bool
letter_or_digit c = is_letter c || is_digit c

-- those of a word before a byte, with their mark
pub record Spelling (line : List ℕ) (at end h : ℕ) : Type 0 where
  pub from : at ≤ end
  pub inside : end ≤ length line
  pub each : (i : ℕ) → at ≤ i → i < end → letter_or_digit (get_or line i 0) ≡ true
  pub marked : h ≡ mark (take (end - at) (drop at line))

pub spelling_start : (line : List ℕ) (at : ℕ) → at ≤ length line → Spelling line at at 0
spelling_start line at l =
    let z : at - at ≡ 0 = omega arith in
    record { from = omega arith; inside = l; each = λ i a b. absurd (omega arith); marked = sym (ap (λ (k : ℕ). mark (take k (drop at line))) z) }

each_by : (t : Bool) (line : List ℕ) (at end i : ℕ) → eqb i end ≡ t → ((j : ℕ) → at ≤ j → j < end → letter_or_digit (get_or line j 0) ≡ true)
    → letter_or_digit (get_or line end 0) ≡ true → at ≤ i → i < end + 1 → letter_or_digit (get_or line i 0) ≡ true
each_by true line at end i q h e a l = ap (λ (j : ℕ). letter_or_digit (get_or line j 0)) (eqb-true i end q) ∙ e
each_by false line at end i q h e a l = let z = eqb-false i end q in h i a (omega arith)

pub spelling_more : (line : List ℕ) (at end h x : ℕ) → Spelling line at end h → end < length line → letter_or_digit (get_or line end 0) ≡ true → x ≡ get_or line end 0
    → Spelling line at (end + 1) ((h * 16777619 % 4294967296 + x) % 4294967296)
spelling_more line at end h x g l e q =
    let b = get_or line end 0 in
    let m : (h * 16777619 % 4294967296 + x) % 4294967296 ≡ (h * 16777619 + b) % 4294967296 = omega arith in
    record {
      from = omega (arith, g.from);
      inside = omega arith;
      each = λ i. each_by (eqb i end) line at end i refl g.each e;
      marked = m ∙ ap (λ (k : ℕ). (k * 16777619 + b) % 4294967296) g.marked ∙ sym (mark_next line at end g.from l);
    }

pub spelling_stop : (line : List ℕ) (at end h : ℕ) → Spelling line at end h → letter_or_digit (get_or line end 0) ≡ false → Letters line at end
spelling_stop line at end h g e = record { from = g.from; inside = g.inside; each = g.each; last = λ l. e }

pub spelling_end : (line : List ℕ) (at end h : ℕ) → Spelling line at end h → length line ≤ end → Letters line at (length line) × (h ≡ mark (take (length line - at) (drop at line)))
spelling_end line at end h g m =
    let e : end ≡ length line = omega (arith, g.inside) in
    subst (λ (j : ℕ). Letters line at j × (h ≡ mark (take (j - at) (drop at line)))) e
    (record { from = g.from; inside = g.inside; each = g.each; last = λ l. absurd (omega arith) }, g.marked)

-- the start and both ends
pub ruleset spellings = (spelling_start, spelling_stop, spelling_end)

-- ---- where an entry ends

record Looking (line : List ℕ) (at end : ℕ) : Type 0 where
  from : at ≤ end
  inside : end ≤ length line
  before : (i : ℕ) → at ≤ i → i < end → get_or line i 0 ≡ 44 → ⊥

looking_start : (line : List ℕ) (at : ℕ) → at ≤ length line → Looking line at at
looking_start line at h = record { from = omega arith; inside = h; before = λ i l m e. omega arith }

before_by : (t : Bool) (line : List ℕ) (at end i : ℕ) → eqb i end ≡ t → Looking line at end → (get_or line end 0 ≡ 44 → ⊥)
    → at ≤ i → i < end + 1 → get_or line i 0 ≡ 44 → ⊥
before_by true line at end i q g n l m e = n (ap (λ (j : ℕ). get_or line j 0) (sym (eqb-true i end q)) ∙ e)
before_by false line at end i q g n l m e = let z = eqb-false i end q in g.before i l (omega arith) e

looking_more : (line : List ℕ) (at end : ℕ) → Looking line at end → end < length line → (get_or line end 0 ≡ 44 → ⊥) → Looking line at (end + 1)
looking_more line at end g l n =
    record { from = omega (arith, g.from); inside = omega arith; before = λ i. before_by (eqb i end) line at end i refl g n }

looking_comma : (line : List ℕ) (at end : ℕ) → Looking line at end → get_or line end 0 ≡ 44 → Ends line at end
looking_comma line at end g e = record { from = g.from; inside = g.inside; before = g.before; comma = λ l. e }

looking_end : (line : List ℕ) (at end : ℕ) → Looking line at end → length line ≤ end → Ends line at end
looking_end line at end g h = record { from = g.from; inside = g.inside; before = g.before; comma = λ l. absurd (omega arith) }

end_by : (b c : Bool) (f : ℕ) (line : List ℕ) (at i : ℕ) → ltb i (length line) ≡ b → eqb (get_or line i 0) 44 ≡ c → length line - i ≤ suc f → Looking line at i
    → (Looking line at (i + 1) → length line - (i + 1) ≤ f → (e : ℕ) × Ends line at e) → (e : ℕ) × Ends line at e
end_by false c f line at i p q l g k = (i, looking_end line at i g (ltb-false i (length line) p))
end_by true true f line at i p q l g k = (i, looking_comma line at i g (eqb-true (get_or line i 0) 44 q))
end_by true false f line at i p q l g k =
    k (looking_more line at i g (ltb-true i (length line) p) (eqb-false (get_or line i 0) 44 q)) (omega (arith, ltb-true i (length line) p))

end_from : (f : ℕ) (line : List ℕ) (at i : ℕ) → length line - i ≤ f → Looking line at i → (e : ℕ) × Ends line at e
end_from zero line at i l g = (i, looking_end line at i g (omega arith))
end_from (suc f) line at i l g =
    end_by (ltb i (length line)) (eqb (get_or line i 0) 44) f line at i refl refl l g (λ h m. end_from f line at (i + 1) m h)

-- there is a first comma or the line's end
pub end_of : (line : List ℕ) (at : ℕ) → at ≤ length line → (e : ℕ) × Ends line at e
end_of line at l = end_from (length line - at) line at at (omega arith) (looking_start line at l)
