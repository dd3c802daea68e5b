-- One cell more; cells that are all there, and one row of them after another.
use Rattle.std.proofs.Common.{◌≡◌, sym, ◌∙◌, ap, All, List, [], ◌∷◌, ◌++◌, ℕ, zero, suc, ◌+◌, ◌-◌, ◌*◌, ◌<◌, ◌≤◌, length, take, drop, slice_set, add-one, arith}
use Rattle.std.proofs.lemmas.List.{drop-drop, get_or-take, length-drop, length-take-le, take_more_set}
use Rattle.std.proofs.lemmas.List.Elements.{All-append, All-nil, All-push, All-same}
use Rattle.std.proofs.lemmas.Slice.{take-put_mid}
use Rattle.std.proofs.Math.Seq.{take-length}
use borrow.Rule.Slice.PartMut.{put_mid}
use Rattle.formula.specs.Text.{half_at, word_at, long_at}
use Rattle.cases.specs.Recorded.{cells_of, IsCell}

pub past-cell : (i : ℕ) (bytes : List ℕ) → drop 8 (drop (8 * i) bytes) ≡ drop (8 * (i + 1)) bytes
past-cell i bytes =
    let next : 8 * i + 8 ≡ 8 * (i + 1) = omega arith in
    drop-drop 8 (8 * i) bytes ∙ ap (λ n. drop n bytes) next

pub cells-next : {A : Type 0} (value : ℕ → A) (i : ℕ) (xs : List A) (bytes rest : List ℕ) (x : A) → i < length xs → rest ≡ drop (8 * i) bytes → x ≡ value (long_at rest 0) → take i xs ≡ cells_of value i bytes → take (i + 1) (slice_set xs i x) ≡ cells_of value (i + 1) bytes
cells-next value i xs bytes rest x inside at is before =
    take_more_set xs i x inside
    ∙ ap (λ l. l ++ (x ∷ [])) before
    ∙ ap (λ y. cells_of value i bytes ++ (y ∷ [])) (is ∙ ap (λ b. value (long_at b 0)) at)
    ∙ ap (λ n. cells_of value n bytes) (sym (add-one i))

first-eight : (bytes : List ℕ) → long_at bytes 0 ≡ long_at (take 8 bytes) 0
unfolding half_at word_at long_at
first-eight bytes =
    let same = λ (i : ℕ) (l : i < 8). get_or-take 8 bytes i 0 l in
    omega (arith, same 0 (omega arith), same 1 (omega arith), same 2 (omega arith), same 3 (omega arith), same 4 (omega arith), same 5 (omega arith), same 6 (omega arith), same 7 (omega arith))

pub are-cells : {A : Type 0} (value : ℕ → A) (n : ℕ) (bytes : List ℕ) → 8 * n ≤ length bytes → All (IsCell value) (cells_of value n bytes)
are-cells value zero bytes there = All-nil (IsCell value)
are-cells value (suc n) bytes there =
    let last = drop (8 * n) bytes in
    let eight : 8 ≤ length last = omega (arith, length-drop (8 * n) bytes) in
    All-push (IsCell value) (cells_of value n bytes) _ (are-cells value n bytes (omega arith)) (take 8 last, length-take-le 8 last eight, ap value (first-eight last))

pub row-next : {A : Type 0} (value : ℕ → A) (i n : ℕ) (xs ys : List A) (bytes : List ℕ) → i ≤ length xs → length ys ≡ n → length bytes ≡ 8 * n → ys ≡ cells_of value (length ys) bytes → All (IsCell value) (take i xs) → All (IsCell value) (take (i + n) (put_mid i (i + n - i) xs ys))
row-next value i n xs ys bytes inside long there is before =
    All-same
    (IsCell value)
    (take (i + n) (put_mid i (i + n - i) xs ys))
    (take i xs ++ ys)
    (take-put_mid i (i + n - i) xs ys (i + n) (ap (λ m. i + m) (sym long)) inside)
    (All-append (IsCell value) (take i xs) ys before (All-same (IsCell value) ys (cells_of value (length ys) bytes) is (are-cells value (length ys) bytes (omega (arith, long, there)))))

pub rows-end : {A : Type 0} (value : ℕ → A) (n : ℕ) (xs : List A) → n ≤ length xs → length xs ≤ n → All (IsCell value) (take n xs) → All (IsCell value) xs
rows-end value n xs inside over all =
    let whole : n ≡ length xs = omega arith in
    All-same (IsCell value) xs (take n xs) (sym (ap (λ m. take m xs) whole ∙ take-length xs)) all
