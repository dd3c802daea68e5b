-- Parts of an input up to a newline, and of an output up to where it is written.
use Rattle.std.proofs.Common.{◌≡◌, ℕ, suc, ◌+◌, ◌-◌, ◌<◌, ◌≤◌, Bool, true, false, ltb, List, [], ◌∷◌, ◌++◌, length, get_or, take, drop, sym, refl, ap, ◌∙◌, subst, append_assoc, arith, length-append, length-take-le, take_all, take-suc, drop-drop, take_at, take-add, drop_at, ltb-false, ltb-true}
use lib.Seq.{split_at}
use Rattle.formula.specs.Text.{decimal, split}
use Rattle.listing.specs.Legs.{node_line, printed, refused_as}
use Rattle.names.specs.Lines.{first_piece, free, part}
use Rattle.names.proofs.Splits.{later_pieces, pieces, split_end, split_next}
use Rattle.writer.specs.Over.{over}
use Rattle.lines.specs.Text.{Wrote, WroteSome}

-- ---- parts of the input

pub take_part : (l : List ℕ) (a e : ℕ) → a ≤ e → take e l ≡ take a l ++ part l a e
unfolding part
take_part l a e h = let z : a + (e - a) ≡ e = omega arith in ap (λ (n : ℕ). take n l) (sym z) ∙ take-add a (e - a) l

pub take_byte : (l : List ℕ) (e x : ℕ) → e < length l → get_or l e 0 ≡ x → take (e + 1) l ≡ take e l ++ (x ∷ [])
take_byte l e x h q =
    let z : suc e ≡ e + 1 = omega arith in
    ap (λ (n : ℕ). take n l) (sym z) ∙ take-suc l e 0 h ∙ ap (λ (y : ℕ). take e l ++ (y ∷ [])) q

first_of_same : (a b : List ℕ) (ps qs : List (List ℕ)) → a ∷ ps ≡ b ∷ qs → a ≡ b
first_of_same a b ps qs e = cc

-- the bytes before the first newline, or all there are
pub first_is : (l : List ℕ) (e : ℕ) → e ≤ length l → free 10 (take e l) ≡ true → (e < length l → get_or l e 0 ≡ 10) → take e l ≡ first_piece 10 l
first_is l e h f n = by_cases (ltb e (length l)) refl
  where
    by_cases : (t : Bool) → ltb e (length l) ≡ t → take e l ≡ first_piece 10 l
    by_cases true q =
        let k = ltb-true e (length l) q in
        let d = drop (suc e) l in
        let s : l ≡ take e l ++ (10 ∷ d) = split_at l e 0 k ∙ ap (λ (x : ℕ). take e l ++ (x ∷ d)) (n k) in
        first_of_same (take e l) (first_piece 10 l) (split 10 d) (later_pieces 10 l) (sym (split_next 10 (take e l) d f) ∙ ap (split 10) (sym s) ∙ pieces 10 l)
    by_cases false q =
        let s = take_all e l (ltb-false e (length l) q) in
        first_of_same (take e l) (first_piece 10 l) [] (later_pieces 10 l) (sym (split_end 10 (take e l) f) ∙ ap (split 10) s ∙ pieces 10 l)

-- ---- the output so far

pub take_wrote : (out : List ℕ) (at : ℕ) (xs out' : List ℕ) (end : ℕ) → Wrote out at xs out' end → end ≤ length out → take end out' ≡ take at out ++ xs
unfolding over
take_wrote out at xs out' end w h =
    let e = w.ends in
    let d = drop (at + length xs) out in
    ap (take end) (w.stands ∙ sym (append_assoc (take at out) xs d))
    ∙ take_at (take at out ++ xs) d end (omega (arith, length-append (take at out) xs, length-take-le at out (omega arith)))

-- ---- the output after a text

pub drop_wrote : (out : List ℕ) (at : ℕ) (xs out' : List ℕ) (end : ℕ) → Wrote out at xs out' end → end ≤ length out → drop end out' ≡ drop end out
unfolding over
drop_wrote out at xs out' end w h =
    let e = w.ends in
    let d = drop (at + length xs) out in
    ap (drop end) (w.stands ∙ sym (append_assoc (take at out) xs d))
    ∙ drop_at (take at out ++ xs) d end (omega (arith, length-append (take at out) xs, length-take-le at out (omega arith)))
    ∙ ap (λ (n : ℕ). drop n out) (sym e)

pub wrote_some : (out : List ℕ) (at : ℕ) (xs out' : List ℕ) (end : ℕ) → Wrote out at xs out' end → end ≤ length out → WroteSome out at out' end
wrote_some out at xs out' end w h = record { from = let e = w.ends in omega arith; beyond = drop_wrote out at xs out' end w h }

pub drop_later : (xs ys : List ℕ) (n m : ℕ) → n ≤ m → drop n xs ≡ drop n ys → drop m xs ≡ drop m ys
drop_later xs ys n m h e =
    let z : n + (m - n) ≡ m = omega arith in
    ap (λ (k : ℕ). drop k xs) (sym z)
    ∙ sym (drop-drop (m - n) n xs)
    ∙ ap (drop (m - n)) e
    ∙ drop-drop (m - n) n ys
    ∙ ap (λ (k : ℕ). drop k ys) z

-- a refusal's line with its node, whose digits were written to twenty bytes of their own
pub node_wrote : (out : List ℕ) (at n k : ℕ) (digits digits' : List ℕ) (m : ℕ) (out' : List ℕ) (end : ℕ) → (m ≡ 0 + length (decimal k)) × (digits' ≡ over digits 0 (decimal k))
    → length (decimal k) ≤ length digits → Wrote out at (printed 0 (refused_as n (take m digits'))) out' end × (end ≤ at + 8209) → Wrote out at (node_line n k) out' end × (end ≤ at + 8209)
node_wrote out at n k digits digits' m out' end h l w =
    let e : take m digits' ≡ decimal k =
    take_wrote digits 0 (decimal k) digits' m (record { ends = h.0; stands = h.1 }) (let z = h.0 in omega arith) in
    (subst (λ (xs : List ℕ). Wrote out at (printed 0 (refused_as n xs)) out' end) e w.0, w.1)
