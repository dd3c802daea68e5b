-- The cells that the code writes are those of the state.
use mathlib.Core.Path.{◌≡◌, refl, sym, ap, ◌∙◌, subst}
use mathlib.Core.List.{List, [], ◌∷◌, ◌++◌, append_assoc}
use mathlib.Core.Option.{Option, none, some}
use Prim.Native.Nat.{ℕ, zero, suc, ◌+◌, ◌<◌, ◌≤◌}
use native.Mathlib.Numerals.{add-one}
use native.Mathlib.Omega.{arith}
use lib.ListN.{length, length-append, length-drop, drop, take, set, get_or}
use lib.Seq.{drop-append-add, drop-drop, length-take-le, set_split, take-suc, take_all, take_at}
use lib.Ieee.{Float}
use Rattle.meaning.specs.Work.{Question, elementary, power}
use Rattle.vebrostin.specs.Cells.{bits, ComesBack, padded, question_cells, state_cells}

-- ---- written

pub padded_length : (n : ℕ) (ks : List Float) → length (padded n ks) ≡ n
padded_length zero ks = refl
padded_length (suc n) [] = ap suc (padded_length n [])
padded_length (suc n) (k ∷ ks) = ap suc (padded_length n ks)

-- sixteen cells
pub row_length : (a b : ℕ) (ks : List Float) (t : List ℕ) {row : List ℕ} → length t ≡ 5 → row ≡ a ∷ b ∷ padded 9 ks ++ t → length row ≡ 16
row_length a b ks t h e = rw (e, length-append, padded_length 9 ks, h) refl

-- one value more
padded_more : (n : ℕ) (xs : List Float) (i : ℕ) (d : Float) (t : List ℕ) → i < n → i < length xs → set (padded n (take i xs) ++ t) i (bits (get_or xs i d)) ≡ padded n (take (i + 1) xs) ++ t
padded_more zero xs i d t h l = absurd (omega arith)
padded_more (suc n) [] i d t h l = absurd (omega arith)
padded_more (suc n) (x ∷ xs) zero d t h l = refl
padded_more (suc n) (x ∷ xs) (suc i) d t h l = rw add-one (ap (λ (ks : List ℕ). bits x ∷ ks) (padded_more n xs i d t (omega arith) (omega arith) ∙ rw add-one refl))

third : (a b : ℕ) (l : List ℕ) (i j v : ℕ) → j ≡ 2 + i → set (a ∷ b ∷ l) j v ≡ a ∷ b ∷ set l i v
third a b l i zero v e = absurd (omega arith)
third a b l i (suc zero) v e = absurd (omega arith)
third a b l i (suc (suc k)) v e = let f : k ≡ i = omega arith in ap (λ (m : ℕ). a ∷ b ∷ set l m v) f

-- behind the position and the count
pub row_more : (a b : ℕ) (xs : List Float) (i : ℕ) (d : Float) (t : List ℕ) {v : ℕ} → i < 9 → i < length xs → v ≡ bits (get_or xs i d)
    → set (a ∷ b ∷ padded 9 (take i xs) ++ t) (2 + i) v ≡ a ∷ b ∷ padded 9 (take (i + 1) xs) ++ t
row_more a b xs i d t {v} h l e = third a b (padded 9 (take i xs) ++ t) i (2 + i) v refl ∙ ap (λ (ks : List ℕ). a ∷ b ∷ ks) (rw e (padded_more 9 xs i d t h l))

-- what is told of the value at a place, at one that is equal
pub value_at : (xs : List Float) (i : ℕ) (d : Float) {v k : ℕ} → (v ≡ bits (get_or xs k d)) × ComesBack (get_or xs k d) → k ≡ i
    → (v ≡ bits (get_or xs i d)) × ComesBack (get_or xs i d)
value_at xs i d {v} w e = subst (λ (n : ℕ). (v ≡ bits (get_or xs n d)) × ComesBack (get_or xs n d)) e w

three : (o : Option Question) (t : List ℕ) → (let q = question_cells o in get_or q 0 0 ∷ get_or q 1 0 ∷ get_or q 2 0 ∷ t ≡ q ++ t)
three none t = refl
three (some (elementary f x)) t = refl
three (some (power x y)) t = refl

-- and the whole row
pub row_whole : (at : ℕ) (vs : List Float) (o : Option Question) (count v i : ℕ) {q row : List ℕ} → length vs ≤ i → q ≡ question_cells o
    → row ≡ at ∷ length vs ∷ padded 9 (take i vs) ++ (get_or q 0 0 ∷ get_or q 1 0 ∷ get_or q 2 0 ∷ count ∷ v ∷ [])
    → row ≡ state_cells (record { position = at; kept = vs; pending = o }) ++ (count ∷ v ∷ [])
row_whole at vs o count v i h eq er =
    let t = count ∷ v ∷ [] in
    rw (er, take_all i vs h, eq, three o t) (ap (λ (x : List ℕ). at ∷ length vs ∷ x) (sym (append_assoc (padded 9 vs) (question_cells o) t)))

-- over the first sixteen cells
pub row_over : (row o : List ℕ) {cells : List ℕ} {i : ℕ} → length row ≡ 16 → 16 ≤ i → i ≤ 16 → cells ≡ take i row ++ drop i o → cells ≡ row ++ drop 16 o
row_over row o {cells} {i} n low high e =
    let all : i ≡ 16 = omega (arith, low, high) in
    e ∙ ap (λ (k : ℕ). take k row ++ drop k o) all ∙ ap (λ (x : List ℕ). x ++ drop 16 o) (take_all 16 row (omega (arith, n)))

-- one cell more of a row that is copied to the front of a slice
pub copied : (b o : List ℕ) (i : ℕ) → i < length b → length b ≤ length o
    → set (take i b ++ drop i o) i (get_or b i 0) ≡ take (i + 1) b ++ drop (i + 1) o
copied b o i h l =
    let P = take i b in
    let p : length P ≡ i = length-take-le i b (omega arith) in
    let n : i < length (P ++ drop i o) = simp (length-append, length-drop) (omega arith) in
    let t : take i (P ++ drop i o) ≡ P = take_at P (drop i o) i p in
    let d : drop (suc i) (P ++ drop i o) ≡ drop (i + 1) o =
    ap (λ (k : ℕ). drop k (P ++ drop i o)) (sym (add-one i))
    ∙ subst (λ (k : ℕ). drop (k + 1) (P ++ drop i o) ≡ drop 1 (drop i o)) p (drop-append-add P (drop i o) 1)
    ∙ drop-drop 1 i o in
    set_split (P ++ drop i o) i (get_or b i 0) n
    ∙ ap (λ (x : List ℕ). x ++ (get_or b i 0 ∷ drop (suc i) (P ++ drop i o))) t
    ∙ ap (λ (x : List ℕ). P ++ (get_or b i 0 ∷ x)) d
    ∙ sym (append_assoc P (get_or b i 0 ∷ []) (drop (i + 1) o))
    ∙ ap (λ (x : List ℕ). x ++ drop (i + 1) o) (sym (ap (λ (k : ℕ). take k b) (add-one i) ∙ take-suc b i 0 h))
