-- Bytes written over a part of a list.
use mathlib.Core.Path.{◌≡◌, sym, ap, ◌∙◌, subst}
use mathlib.Core.List.{List, [], ◌∷◌, ◌++◌, append_assoc, append-nil}
use Prim.Native.Nat.{ℕ, suc, ◌+◌, ◌-◌, ◌≤◌, ◌<◌}
use native.Mathlib.Omega.{arith}
use native.Mathlib.Nat.{add-zero}
use borrow.Rule.Slice.PartMut.{put_mid}
use lib.ListN.{length, take, drop, set, length-append, length-drop, take-append-drop, get_or, replicate}
use lib.Seq.{paste, paste-suc, take-length, set_split, take_at, drop_at, drop-append-add, drop-drop, length-take-le, take-append-le, drop-length}
use Rattle.formula.specs.Text.{zeros}
use Rattle.writer.specs.Over.{over, zeroed}

module _ (p : List ℕ) (a : ℕ) (xs : List ℕ) (h : a + length xs ≤ length p) where
  pub length_head : length (take a p ++ xs) ≡ a + length xs
  length_head =
      let h' : a ≤ length p = omega arith in
      length-append (take a p) xs ∙ ap (λ (k : ℕ). k + length xs) (length-take-le a p h')

  pub over_length : length (over p a xs) ≡ length p
  unfolding over
  over_length =
      let e = length_head in
      rw (← append_assoc (take a p) xs (drop (a + length xs) p), length-append (take a p ++ xs) (drop (a + length xs) p), e, length-drop)
      (omega arith)

pub over_nil : (p : List ℕ) (a : ℕ) → over p a [] ≡ p
unfolding over
over_nil p a = ap (λ (k : ℕ). take a p ++ drop k p) (add-zero a) ∙ take-append-drop a p

pub over_over : (p : List ℕ) (a : ℕ) (xs ys : List ℕ) → a + length xs ≤ length p
    → over (over p a xs) (a + length xs) ys ≡ over p a (xs ++ ys)
unfolding over
over_over p a xs ys h =
    let q = take a p ++ xs in
    let r = drop (a + length xs) p in
    let e : length q ≡ a + length xs = length_head p a xs h in
    let s : take a p ++ (xs ++ r) ≡ q ++ r = sym (append_assoc (take a p) xs r) in
    let t : take (a + length xs) (q ++ r) ≡ q = take_at q r (a + length xs) e in
    let d : drop (a + length xs + length ys) (q ++ r) ≡ drop (length ys) r =
    subst (λ (k : ℕ). drop (k + length ys) (q ++ r) ≡ drop (length ys) r) e (drop-append-add q r (length ys)) in
    let l : a + length xs + length ys ≡ a + length (xs ++ ys) = omega (arith, length-append xs ys) in
    let g : drop (length ys) r ≡ drop (a + length (xs ++ ys)) p =
    drop-drop (length ys) (a + length xs) p
    ∙ ap (λ (k : ℕ). drop k p) l in
    rw (s, t, d, g, append_assoc (take a p) xs (ys ++ drop (a + length (xs ++ ys)) p), append_assoc xs ys (drop (a + length (xs ++ ys)) p))

-- one part right after another
pub next_over : (p p₁ p₂ : List ℕ) (i j : ℕ) (xs ys : List ℕ) → p₁ ≡ over p i xs → p₂ ≡ over p₁ j ys → j ≡ i + length xs → i + length xs ≤ length p
    → p₂ ≡ over p i (xs ++ ys)
next_over p p₁ p₂ i j xs ys e f g h =
    f ∙ ap (λ (q : List ℕ). over q j ys) e ∙ ap (λ (k : ℕ). over (over p i xs) k ys) g ∙ over_over p i xs ys h

-- the second part first
pub over_before : (p : List ℕ) (a : ℕ) (xs ys : List ℕ) → a + length xs + length ys ≤ length p
    → over (over p (a + length xs) ys) a xs ≡ over p a (xs ++ ys)
unfolding over
over_before p a xs ys h =
    let q = take (a + length xs) p in
    let r = ys ++ drop (a + length xs + length ys) p in
    let e : length q ≡ a + length xs = length-take-le (a + length xs) p (omega arith) in
    let t : take a (q ++ r) ≡ take a p =
    take-append-le a q r (omega (arith, e)) ∙ lib.Seq.take-take a (a + length xs) p (omega arith) in
    let d : drop (a + length xs) (q ++ r) ≡ r = drop_at q r (a + length xs) e in
    let g : a + length xs + length ys ≡ a + length (xs ++ ys) = omega (arith, length-append xs ys) in
    rw (t, d, append_assoc xs ys (drop (a + length (xs ++ ys)) p), g)

pub paste_over : (d : List ℕ) (at n : ℕ) (s : List ℕ) → n ≡ length s → paste d at s n ≡ over d at s
unfolding over
paste_over d at n s e =
    ap (λ (k : ℕ). paste d at s k) e
    ∙ ap (λ (x : List ℕ). take at d ++ x ++ drop (at + length s) d) (take-length s)
    ∙ append_assoc (take at d) s (drop (at + length s) d)

pub paste_more : (d : List ℕ) (at : ℕ) (s : List ℕ) (j : ℕ) → at + j < length d → j < length s
    → set (paste d at s j) (at + j) (get_or s j 0) ≡ paste d at s (j + 1)
paste_more d at s j h k =
    let e : suc j ≡ j + 1 = omega arith in
    paste-suc d at s j 0 h k ∙ ap (λ (x : ℕ). paste d at s x) e

pub over_one : (p : List ℕ) (i x : ℕ) → i < length p → set p i x ≡ over p i (x ∷ [])
unfolding over
over_one p i x h =
    let e : suc i ≡ i + 1 = omega arith in
    set_split p i x h ∙ ap (λ (k : ℕ). take i p ++ (x ∷ drop k p)) e

-- ---- a part of a slice that was lent and comes back

pub over_lent : (p : List ℕ) (a k : ℕ) (xs : List ℕ) → k ≡ length xs → put_mid a k p xs ≡ over p a xs
unfolding over
over_lent p a k xs e = rw (e, drop-drop)

pub zeroed_lent : (p : List ℕ) (a : ℕ) (xs : List ℕ) → let k = length p - a in a ≤ length p → xs ≡ replicate (length (take k (drop a p))) 0
    → put_mid a k p xs ≡ zeroed p a
unfolding zeroed
zeroed_lent p a xs h z =
    let k = length p - a in
    let n : a + k ≡ length p = omega arith in
    let l : length (take k (drop a p)) ≡ k = length-take-le k (drop a p) (omega (arith, length-drop a p)) in
    rw (z, l, drop-drop, n, drop-length, append-nil)

-- a text at the beginning, then zeros to the end
pub text_zeroed : (out0 mid t : List ℕ) (n : ℕ) → n ≡ length t → n ≤ length out0 → mid ≡ over out0 0 t → zeroed mid n ≡ t ++ zeros (length out0 - length t)
unfolding zeroed over
text_zeroed out0 mid t n en h e =
    let l : length mid ≡ length out0 = ap length e ∙ over_length out0 0 t (omega arith) in
    let y : length mid - n ≡ length out0 - length t = omega arith in
    let tk : take n mid ≡ t = ap (take n) e ∙ took in
    ap (λ (x : List ℕ). x ++ zeros (length mid - n)) tk ∙ ap (λ (x : ℕ). t ++ zeros x) y
  where
    took : take n (over out0 0 t) ≡ t
    took = take_at t (drop (0 + length t) out0) n (sym en)
