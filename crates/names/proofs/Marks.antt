-- Numbers that equal names share.
use mathlib.Core.Path.{◌≡◌, refl, sym, ap, ap₂, ◌∙◌}
use mathlib.Core.Bool.{Bool, true, false, ◌||◌}
use mathlib.Core.List.{List, [], ◌∷◌, ◌++◌}
use Prim.Native.Nat.{ℕ, suc, ◌+◌, ◌-◌, ◌*◌, ◌%◌, ◌<◌, ◌≤◌}
use native.Mathlib.Omega.{arith}
use lib.ListN.{length, get_or, take, drop, set, length-drop}
use lib.Seq.{take-suc, get_or-drop, get_or-set_same, get_or-set_other}
use lib.Dec.{eqb}
use borrow.Author.Tests.{eqb-true, eqb-false}
use Rattle.formula.specs.Text.{same_bytes}
use Rattle.formula.proofs.Tests.{no_true, and_first, and_second}
use Rattle.std.proofs.lemmas.List.Elements.{All-append, All-cons}
use Rattle.names.specs.Lines.{mark_from, mark, text, Stands, Listed, Placed, repeats}
use Rattle.names.specs.declared.Name.{Name}

-- a byte more
mark_snoc : (xs : List ℕ) (x h : ℕ) → mark_from h (xs ++ (x ∷ [])) ≡ (mark_from h xs * 16777619 + x) % 4294967296
mark_snoc [] x h = refl
mark_snoc (y ∷ xs) x h = mark_snoc xs x ((h * 16777619 + y) % 4294967296)

pub mark_next : (line : List ℕ) (at end : ℕ) → at ≤ end → end < length line
    → mark (take (end + 1 - at) (drop at line)) ≡ (mark (take (end - at) (drop at line)) * 16777619 + get_or line end 0) % 4294967296
mark_next line at end l m =
    let xs = drop at line in
    let n = end - at in
    let e : end + 1 - at ≡ suc n = omega arith in
    let z : at + n ≡ end = omega arith in
    ap (λ (k : ℕ). mark (take k xs)) e
    ∙ ap mark (take-suc xs n 0 (omega (arith, length-drop at line)))
    ∙ mark_snoc (take n xs) (get_or xs n 0) 0
    ∙ ap (λ (y : ℕ). (mark (take n xs) * 16777619 + y) % 4294967296) (get_or-drop at line n 0 ∙ ap (λ (j : ℕ). get_or line j 0) z)

below_from : (xs : List ℕ) (h : ℕ) → h < 4294967296 → mark_from h xs < 4294967296
below_from [] h l = l
below_from (x ∷ xs) h l = below_from xs ((h * 16777619 + x) % 4294967296) (omega arith)

pub mark_below : (xs : List ℕ) → mark xs < 4294967296
mark_below xs = below_from xs 0 (omega arith)

-- names that are the same have one mark
same_list : (xs ys : List ℕ) → same_bytes xs ys ≡ true → xs ≡ ys
same_list [] [] e = refl
same_list [] (y ∷ ys) e = absurd (no_true e)
same_list (x ∷ xs) [] e = absurd (no_true e)
same_list (x ∷ xs) (y ∷ ys) e =
    ap₂ (λ (z : ℕ) (zs : List ℕ). z ∷ zs) (eqb-true x y (and_first (eqb x y) (same_bytes xs ys) e)) (same_list xs ys (and_second (eqb x y) (same_bytes xs ys) e))

unlike_by : (b : Bool) (xs ys : List ℕ) → same_bytes xs ys ≡ b → (mark xs ≡ mark ys → ⊥) → false ≡ b
unlike_by true xs ys e h = absurd (h (ap mark (same_list xs ys e)))
unlike_by false xs ys e h = refl

pub unlike_marks : (xs ys : List ℕ) (x y : ℕ) → x ≡ mark xs → y ≡ mark ys → (x ≡ y → ⊥) → false ≡ same_bytes xs ys
unlike_marks xs ys x y ex ey h = unlike_by (same_bytes xs ys) xs ys refl (λ e. h (ex ∙ e ∙ sym ey))

-- a name whose mark has a free place is none of those before
pub not_placed : (line : List ℕ) (ns : List Name) (taken : List Bool) (x : List ℕ) (m : ℕ) → Listed line ns → Placed ns taken → m ≡ mark x
    → get_or taken (m % 1024) false ≡ false → false ≡ repeats line ns x
not_placed line [] taken x m h p e z = refl
not_placed line (n ∷ ns) taken x m h p e z =
    let u =
    unlike_marks (text line n) x n.mark m (h 0 n (omega arith)).marked e
    (λ q. no_true (sym z ∙ ap (λ (y : ℕ). get_or taken (y % 1024) false) (sym q) ∙ p.0)) in
    not_placed line ns taken x m (λ k d l. h (suc k) d (omega arith)) p.1 e z ∙ ap (λ (b : Bool). b || repeats line ns x) u

-- ---- one name more

pub listed_more : (line : List ℕ) (ns : List Name) (n : Name) → Listed line ns → Stands line n → Listed line (ns ++ (n ∷ []))
listed_more line ns n h s = All-append (Stands line) ns (n ∷ []) h (All-cons (Stands line) n [] s (λ k d l. absurd (omega arith)))

-- where one more place is taken, all stay so
placed_stays_by : (b : Bool) (taken : List Bool) (i j : ℕ) → eqb i j ≡ b → i < length taken → get_or taken j false ≡ true → get_or (set taken i true) j false ≡ true
placed_stays_by true taken i j q l e = ap (λ (y : ℕ). get_or (set taken i true) y false) (sym (eqb-true i j q)) ∙ get_or-set_same taken i true false l
placed_stays_by false taken i j q l e = let n = eqb-false i j q in get_or-set_other taken i j true false (λ z. omega arith) ∙ e

pub placed_more : (ns : List Name) (taken : List Bool) (n : Name) → length taken ≡ 1024 → Placed ns taken → Placed (ns ++ (n ∷ [])) (set taken (n.mark % 1024) true)
placed_more [] taken n l h = (get_or-set_same taken (n.mark % 1024) true false (omega arith), tt)
placed_more (m ∷ ns) taken n l h =
    let i = n.mark % 1024 in
    let j = m.mark % 1024 in
    (placed_stays_by (eqb i j) taken i j refl (omega arith) h.0, placed_more ns taken n l h.1)
