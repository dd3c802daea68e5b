-- A well-formed name line has at most 256 names of 64 bytes, each with `:` and its kind, and 255 commas: 17,151 bytes. So the first 17,152 bytes of
-- a line say all that compile needs to know of it.
use Rattle.std.proofs.Common.{◌≡◌, ℕ, ◌+◌, ◌*◌, ◌≤◌, Bool, true, false, cond, ◌&&◌, ◌||◌, eqb, ltb, leb, List, [], ◌∷◌, map, length, take, sym, refl, ap, ◌∙◌, arith, length-append, length-take-le, take_all, ltb-false, ltb-true, leb-true}
use mathlib.Core.Option.{Option, none, some}
use Rattle.formula.specs.Text.{all, all_some, joined, parted, split}
use Rattle.formula.specs.Transfer.{transfer_of}
use Rattle.formula.specs.Names.{Symbol, is_digit, is_letter, is_name, none_twice, symbol_of, symbols_of, table}
use Rattle.formula.specs.Path.{path_room}
use Rattle.machine.specs.Compile.{compile, program_room, read, refused, sized}
use Rattle.listing.specs.Legs.{compiled, formula_room}
use Rattle.names.specs.Lines.{first_piece}
use Rattle.names.proofs.Splits.{and_second, later_pieces, no_true, pieces}
use Rattle.names.proofs.Entries.{formed}

-- the bytes of pieces and of one separator for each
abbrev total : List (List ℕ) → ℕ
total [] = 0
total (p ∷ ps) = length p + 1 + total ps

parted_total : (t : Bool) (x : ℕ) (p : List ℕ) (ps : List (List ℕ)) → total (parted t x (p ∷ ps)) ≡ total (p ∷ ps) + 1
parted_total true x p ps = omega arith
parted_total false x p ps = omega arith

split_total : (c : ℕ) (xs : List ℕ) → total (split c xs) ≡ length xs + 1
split_total c [] = refl
split_total c (x ∷ xs) =
    ap (λ (ps : List (List ℕ)). total (parted (eqb x c) x ps)) (pieces c xs)
    ∙ parted_total (eqb x c) x (first_piece c xs) (later_pieces c xs)
    ∙ ap (λ (ps : List (List ℕ)). total ps + 1) (sym (pieces c xs))
    ∙ ap (λ (n : ℕ). n + 1) (split_total c xs)
    ∙ omega arith

-- "A name has 1 to 64 bytes"
name_short : (name : List ℕ) → is_name name ≡ true → length name ≤ 64
name_short [] e = absurd (no_true e)
name_short (b ∷ bs) e =
    let l = leb-true (length bs) 63 (and_second (is_letter b && all (λ c. is_letter c || is_digit c) bs) (leb (length bs) 63) e) in omega arith

symbol_short : (p : List ℕ) (s : Symbol) → symbol_of (split 58 p) ≡ some s → length p ≤ 66
symbol_short p s e =
    let f = formed p s e in
    omega (arith, ap length f.is, length-append s.name (58 ∷ f.byte ∷ []), name_short s.name f.name)

abbrev symbols_in : List (List ℕ) → Option (List Symbol)
symbols_in ps = all_some (map (λ part. symbol_of (split 58 part)) ps)

joined_short : (o : Option Symbol) (r : Option (List Symbol)) (p : List ℕ) (n : ℕ) (ss : List Symbol) → symbol_of (split 58 p) ≡ o
    → ((ts : List Symbol) → r ≡ some ts → n ≤ 67 * length ts) → joined o r ≡ some ss → length p + 1 + n ≤ 67 * length ss
joined_short none r p n ss a b e = absurd (let z : ◌≡◌ {A = ℕ} 0 1 = cc in omega arith)
joined_short (some s) none p n ss a b e = absurd (let z : ◌≡◌ {A = ℕ} 0 1 = cc in omega arith)
joined_short (some s) (some ts) p n ss a b e = let q : (s ∷ ts) ≡ ss = cc in omega (arith, symbol_short p s a, b ts refl, ap length q)

all_short : (ps : List (List ℕ)) (ss : List Symbol) → symbols_in ps ≡ some ss → total ps ≤ 67 * length ss
all_short [] ss e = omega arith
all_short (p ∷ ps) ss e = joined_short (symbol_of (split 58 p)) (symbols_in ps) p (total ps) ss refl (λ ts. all_short ps ts) e

table_short : (o : Option (List Symbol)) (ps : List (List ℕ)) (ss : List Symbol) → symbols_in ps ≡ o → table o ≡ some ss → total ps ≤ 17152
table_short none ps ss a e = absurd (let z : ◌≡◌ {A = ℕ} 0 1 = cc in omega arith)
table_short (some ts) ps ss a e = few_by (leb (length ts) 256) (none_twice ts) refl e
  where
    few_by : (x y : Bool) → leb (length ts) 256 ≡ x → cond (x && y) (some ts) none ≡ some ss → total ps ≤ 17152
    few_by true y l q = omega (arith, all_short ps ts a, leb-true (length ts) 256 l)
    few_by false y l q = absurd (let z : ◌≡◌ {A = ℕ} 0 1 = cc in omega arith)

pub names_short : (l : List ℕ) (ss : List Symbol) → symbols_of l ≡ some ss → length l ≤ 17151
unfolding symbols_of
names_short [] ss e = omega arith
names_short (b ∷ bs) ss e =
    omega (arith, split_total 44 (b ∷ bs), table_short (symbols_in (split 44 (b ∷ bs))) (split 44 (b ∷ bs)) ss refl e)

names_long : (l : List ℕ) → 17152 ≤ length l → symbols_of l ≡ none
names_long l h = long_by (symbols_of l) refl
  where
    long_by : (o : Option (List Symbol)) → symbols_of l ≡ o → o ≡ none
    long_by none e = refl
    long_by (some ss) e = absurd (let k = names_short l ss e in omega arith)

-- a line and its first bytes have the same names, or none
pub symbols_kept : (l : List ℕ) (n : ℕ) → 17152 ≤ n → symbols_of (take n l) ≡ symbols_of l
symbols_kept l n h = kept_by (ltb n (length l)) refl
  where
    kept_by : (t : Bool) → ltb n (length l) ≡ t → symbols_of (take n l) ≡ symbols_of l
    kept_by true e =
        let k = ltb-true n (length l) e in
        names_long (take n l) (omega (arith, length-take-le n l (omega arith))) ∙ sym (names_long l (omega arith))
    kept_by false e = ap symbols_of (take_all n l (ltb-false n (length l) e))

pub compiled_kept : (formula l : List ℕ) (n : ℕ) → 17152 ≤ n → compiled formula (take n l) ≡ compiled formula l
unfolding compile
compiled_kept formula l n h =
    ap
    (λ (o : Option (List Symbol)). cond (ltb path_room path_room || ltb (program_room formula_room) (program_room (length formula))) (refused 1 none) (read sized (transfer_of formula) o))
    (symbols_kept l n h)
