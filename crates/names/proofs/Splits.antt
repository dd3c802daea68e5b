-- Pieces between separators.
use mathlib.Core.Path.{◌≡◌, refl, sym, ap, ◌∙◌}
use mathlib.Core.Bool.{Bool, true, false, cond, not}
use mathlib.Core.List.{List, [], ◌∷◌, ◌++◌}
use mathlib.Core.Option.{Option, none, some}
use Prim.Native.Nat.{ℕ, zero, suc, ◌<◌}
use native.Mathlib.Omega.{arith}
use lib.ListN.{length, get_or}
use lib.Dec.{eqb}
use borrow.Author.Tests.{eqb-false, ne_eqb, eq-eqb}
use Rattle.formula.specs.Text.{glue, parted, split, joined}
use Rattle.formula.specs.Values.{ended, last_line, lines_of}
use Rattle.names.specs.Lines.{first_of, first_piece, free, prefixed}
pub use Rattle.formula.proofs.Tests.{no_true, and_first, and_second, and_both}

pub not_true : (a : Bool) → not a ≡ true → a ≡ false
not_true true e = sym e
not_true false e = refl

pub not_false : (a : Bool) → not a ≡ false → a ≡ true
not_false true e = refl
not_false false e = sym e

pub split_end : (c : ℕ) (xs : List ℕ) → free c xs ≡ true → split c xs ≡ xs ∷ []
split_end c [] h = refl
split_end c (x ∷ xs) h =
    let e = not_true (eqb x c) (and_first (not (eqb x c)) (free c xs) h) in
    ap (λ (t : Bool). parted t x (split c xs)) e ∙ ap (λ (ps : List (List ℕ)). glue x ps) (split_end c xs (and_second (not (eqb x c)) (free c xs) h))

pub split_next : (c : ℕ) (xs ys : List ℕ) → free c xs ≡ true → split c (xs ++ (c ∷ ys)) ≡ xs ∷ split c ys
split_next c [] ys h = ap (λ (t : Bool). parted t c (split c ys)) (eq-eqb c c refl)
split_next c (x ∷ xs) ys h =
    let e = not_true (eqb x c) (and_first (not (eqb x c)) (free c xs) h) in
    ap (λ (t : Bool). parted t x (split c (xs ++ (c ∷ ys)))) e
    ∙ ap (λ (ps : List (List ℕ)). glue x ps) (split_next c xs ys (and_second (not (eqb x c)) (free c xs) h))

-- ---- the first piece, and the others

abbrev pub later_pieces : ℕ → List ℕ → List (List ℕ)
later_pieces c [] = []
later_pieces c (x ∷ xs) = cond (eqb x c) (split c xs) (later_pieces c xs)

pieces_by : (b : Bool) (c x : ℕ) (xs : List ℕ) → split c xs ≡ first_piece c xs ∷ later_pieces c xs
    → parted b x (split c xs) ≡ first_of b x (first_piece c xs) ∷ cond b (split c xs) (later_pieces c xs)
pieces_by true c x xs e = refl
pieces_by false c x xs e = ap (λ (ps : List (List ℕ)). glue x ps) e

pub pieces : (c : ℕ) (xs : List ℕ) → split c xs ≡ first_piece c xs ∷ later_pieces c xs
pieces c [] = refl
pieces c (x ∷ xs) = pieces_by (eqb x c) c x xs (pieces c xs)

pub free_at : (c : ℕ) (xs : List ℕ) → free c xs ≡ true → (i : ℕ) → i < length xs → get_or xs i 0 ≡ c → ⊥
free_at c [] h i l e = absurd (omega arith)
free_at c (x ∷ xs) h zero l e = eqb-false x c (not_true (eqb x c) (and_first (not (eqb x c)) (free c xs) h)) e
free_at c (x ∷ xs) h (suc i) l e = free_at c xs (and_second (not (eqb x c)) (free c xs) h) i (omega arith) e

pub free_from : (c : ℕ) (xs : List ℕ) → ((i : ℕ) → i < length xs → get_or xs i 0 ≡ c → ⊥) → free c xs ≡ true
free_from c [] h = refl
free_from c (x ∷ xs) h =
    and_both (not (eqb x c)) (free c xs) (ap not (ne_eqb x c (h 0 (omega arith)))) (free_from c xs (λ i l. h (suc i) (omega arith)))

pub free_append : (c : ℕ) (xs ys : List ℕ) → free c xs ≡ true → free c ys ≡ true → free c (xs ++ ys) ≡ true
free_append c [] ys f g = g
free_append c (y ∷ xs) ys f g =
    and_both (not (eqb y c)) (free c (xs ++ ys)) (and_first (not (eqb y c)) (free c xs) f) (free_append c xs ys (and_second (not (eqb y c)) (free c xs) f) g)

-- ---- lines

-- "A line ends at a newline byte"
pub lines_next : (l rest : List ℕ) → free 10 l ≡ true → lines_of (l ++ (10 ∷ rest)) ≡ l ∷ lines_of rest
lines_next l rest f =
    ap ended (split_next 10 l rest f)
    ∙ ap (λ (ps : List (List ℕ)). ended (l ∷ ps)) (pieces 10 rest)
    ∙ ap (λ (ps : List (List ℕ)). l ∷ ended ps) (sym (pieces 10 rest))

parted_append : (t : Bool) (x : ℕ) (p : List ℕ) (ps qs : List (List ℕ)) → parted t x (p ∷ ps ++ qs) ≡ parted t x (p ∷ ps) ++ qs
parted_append true x p ps qs = refl
parted_append false x p ps qs = refl

split_append : (c : ℕ) (xs ys : List ℕ) → split c (xs ++ (c ∷ ys)) ≡ split c xs ++ split c ys
split_append c [] ys = ap (λ (t : Bool). parted t c (split c ys)) (eq-eqb c c refl)
split_append c (x ∷ xs) ys =
    let e = pieces c xs in
    ap (parted (eqb x c) x) (split_append c xs ys ∙ ap (λ (ps : List (List ℕ)). ps ++ split c ys) e)
    ∙ parted_append (eqb x c) x (first_piece c xs) (later_pieces c xs) (split c ys)
    ∙ ap (λ (ps : List (List ℕ)). parted (eqb x c) x ps ++ split c ys) (sym e)

ended_append : (ps : List (List ℕ)) (q : List ℕ) (qs : List (List ℕ)) → ended (ps ++ (q ∷ qs)) ≡ ps ++ ended (q ∷ qs)
ended_append [] q qs = refl
ended_append (p ∷ []) q qs = refl
ended_append (p ∷ p' ∷ ps) q qs = ap (λ (ls : List (List ℕ)). p ∷ ls) (ended_append (p' ∷ ps) q qs)

-- the lines up to a newline, and those after it
pub lines_parted : (a b : List ℕ) → lines_of (a ++ (10 ∷ b)) ≡ split 10 a ++ lines_of b
lines_parted a b =
    ap ended (split_append 10 a b ∙ ap (λ (ps : List (List ℕ)). split 10 a ++ ps) (pieces 10 b))
    ∙ ended_append (split 10 a) (first_piece 10 b) (later_pieces 10 b)
    ∙ ap (λ (ps : List (List ℕ)). split 10 a ++ ended ps) (sym (pieces 10 b))

-- "or at the end of the file; nothing after a last newline is no line"
pub lines_last : (l : List ℕ) → free 10 l ≡ true → lines_of l ≡ last_line l
lines_last l f = ap ended (split_end 10 l f)

-- ---- every one of them, or none

pub prefixed_start : {A : Type 0} (r : Option (List A)) → r ≡ prefixed [] r
unfolding prefixed
prefixed_start r = refl

pub prefixed_more : {A : Type 0} (xs : List A) (a : A) (r : Option (List A)) → prefixed xs (joined (some a) r) ≡ prefixed (xs ++ (a ∷ [])) r
unfolding prefixed
prefixed_more [] a r = refl
prefixed_more (x ∷ xs) a r = ap (λ o. joined (some x) o) (prefixed_more xs a r)

pub prefixed_none : {A : Type 0} (xs : List A) → prefixed xs none ≡ none
unfolding prefixed
prefixed_none [] = refl
prefixed_none (x ∷ xs) = ap (λ o. joined (some x) o) (prefixed_none xs)

pub prefixed_some : {A : Type 0} (xs ys : List A) → prefixed xs (some ys) ≡ some (xs ++ ys)
unfolding prefixed
prefixed_some [] ys = refl
prefixed_some (x ∷ xs) ys = ap (λ o. joined (some x) o) (prefixed_some xs ys)
