-- What stays beside a part that is written, and parts apart from each other.
use mathlib.Core.Path.{◌≡◌, refl, sym, ap, ◌∙◌, subst}
use mathlib.Core.Bool.{Bool, true, false}
use mathlib.Core.List.{List, ◌++◌, append_assoc}
use Prim.Native.Nat.{ℕ, ◌+◌, ◌-◌, ◌≤◌, ◌<◌}
use native.Mathlib.Omega.{arith}
use lib.ListN.{length, take, drop, get_or, get_or-append}
use lib.Seq.{ext_get_or, get_or-append-add, get_or-drop, get_or-take, length-take-le}
use lib.Dec.{ltb}
use borrow.Author.Tests.{ltb-true, ltb-false}
use Rattle.formula.specs.Text.{half_at, word_at}
use Rattle.writer.specs.Over.{over}
use Rattle.writer.proofs.Over.{length_head, over_length}

-- ---- what is read of a list with a part written

module _ (p : List ℕ) (a : ℕ) (xs : List ℕ) (h : a + length xs ≤ length p) where
  pub get_or_below : (i : ℕ) → i < a → get_or (over p a xs) i 0 ≡ get_or p i 0
  unfolding over
  get_or_below i l =
      get_or-append (take a p) (xs ++ drop (a + length xs) p) 0 i (omega (arith, length-take-le a p (omega arith))) ∙ get_or-take a p i 0 l

  pub get_or_inside : (i : ℕ) → i < length xs → get_or (over p a xs) (a + i) 0 ≡ get_or xs i 0
  unfolding over
  get_or_inside i l =
      let e : length (take a p) ≡ a = length-take-le a p (omega arith) in
      subst (λ (k : ℕ). get_or (take a p ++ (xs ++ drop (a + length xs) p)) (k + i) 0 ≡ get_or xs i 0) e
      (get_or-append-add (take a p) (xs ++ drop (a + length xs) p) i 0 ∙ get_or-append xs (drop (a + length xs) p) 0 i l)

  pub get_or_above : (i : ℕ) → a + length xs ≤ i → get_or (over p a xs) i 0 ≡ get_or p i 0
  unfolding over
  get_or_above i l =
      let q = take a p ++ xs in
      let r = drop (a + length xs) p in
      let e : length q ≡ a + length xs = length_head p a xs h in
      let k = i - (a + length xs) in
      let ei : i ≡ a + length xs + k = omega arith in
      ap (λ (z : List ℕ). get_or z i 0) (sym (append_assoc (take a p) xs r))
      ∙ ap (λ (z : ℕ). get_or (q ++ r) z 0) ei
      ∙ subst (λ (z : ℕ). get_or (q ++ r) (z + k) 0 ≡ get_or p (a + length xs + k) 0) e (get_or-append-add q r k 0 ∙ get_or-drop (a + length xs) p k 0)
      ∙ ap (λ (z : ℕ). get_or p z 0) (sym ei)

  -- ---- numbers beside the part

  pub word_below : (i : ℕ) → i + 4 ≤ a → word_at (over p a xs) i ≡ word_at p i
  unfolding word_at half_at
  word_below i l = rw (get_or_below i (omega arith), get_or_below (i + 1) (omega arith), get_or_below (i + 2) (omega arith), get_or_below (i + 2 + 1) (omega arith))

  pub word_above : (i : ℕ) → a + length xs ≤ i → word_at (over p a xs) i ≡ word_at p i
  unfolding word_at half_at
  word_above i l = rw (get_or_above i l, get_or_above (i + 1) (omega arith), get_or_above (i + 2) (omega arith), get_or_above (i + 2 + 1) (omega arith))

-- ---- two parts apart from each other

module _ (p : List ℕ) (a b : ℕ) (xs ys : List ℕ) (hab : a + length xs ≤ b) (h : b + length ys ≤ length p) where
  la : length (over p a xs) ≡ length p
  la = over_length p a xs (omega arith)

  lb : length (over p b ys) ≡ length p
  lb = over_length p b ys h

  module _ (i : ℕ) where
    same_left : i < a → get_or (over (over p b ys) a xs) i 0 ≡ get_or (over (over p a xs) b ys) i 0
    same_left l =
        get_or_below (over p b ys) a xs (omega (arith, lb)) i l ∙ get_or_below p b ys h i (omega arith)
        ∙ sym (get_or_below (over p a xs) b ys (omega (arith, la)) i (omega arith) ∙ get_or_below p a xs (omega arith) i l)

    same_first : (k : ℕ) → i ≡ a + k → k < length xs → get_or (over (over p b ys) a xs) i 0 ≡ get_or (over (over p a xs) b ys) i 0
    same_first k e l =
        rw e
        (get_or_inside (over p b ys) a xs (omega (arith, lb)) k l
        ∙ sym (get_or_below (over p a xs) b ys (omega (arith, la)) (a + k) (omega arith) ∙ get_or_inside p a xs (omega arith) k l))

    same_middle : a + length xs ≤ i → i < b → get_or (over (over p b ys) a xs) i 0 ≡ get_or (over (over p a xs) b ys) i 0
    same_middle l m =
        get_or_above (over p b ys) a xs (omega (arith, lb)) i l ∙ get_or_below p b ys h i m
        ∙ sym (get_or_below (over p a xs) b ys (omega (arith, la)) i m ∙ get_or_above p a xs (omega arith) i l)

    same_second : (k : ℕ) → i ≡ b + k → k < length ys → get_or (over (over p b ys) a xs) i 0 ≡ get_or (over (over p a xs) b ys) i 0
    same_second k e l =
        rw e
        (get_or_above (over p b ys) a xs (omega (arith, lb)) (b + k) (omega arith) ∙ get_or_inside p b ys h k l
        ∙ sym (get_or_inside (over p a xs) b ys (omega (arith, la)) k l))

    same_right : b + length ys ≤ i → get_or (over (over p b ys) a xs) i 0 ≡ get_or (over (over p a xs) b ys) i 0
    same_right l =
        get_or_above (over p b ys) a xs (omega (arith, lb)) i (omega arith) ∙ get_or_above p b ys h i l
        ∙ sym (get_or_above (over p a xs) b ys (omega (arith, la)) i l ∙ get_or_above p a xs (omega arith) i (omega arith))

    same_at : (u v w x : Bool) → ltb i a ≡ u → ltb i (a + length xs) ≡ v → ltb i b ≡ w → ltb i (b + length ys) ≡ x
        → get_or (over (over p b ys) a xs) i 0 ≡ get_or (over (over p a xs) b ys) i 0
    same_at true v w x e f g k = same_left (ltb-true i a e)
    same_at false true w x e f g k = same_first (i - a) (omega (arith, ltb-false i a e)) (omega (arith, ltb-false i a e, ltb-true i (a + length xs) f))
    same_at false false true x e f g k = same_middle (ltb-false i (a + length xs) f) (ltb-true i b g)
    same_at false false false true e f g k = same_second (i - b) (omega (arith, ltb-false i b g)) (omega (arith, ltb-false i b g, ltb-true i (b + length ys) k))
    same_at false false false false e f g k = same_right (ltb-false i (b + length ys) k)

  pub over_apart : over (over p b ys) a xs ≡ over (over p a xs) b ys
  over_apart =
      let l₁ : length (over (over p b ys) a xs) ≡ length p = over_length (over p b ys) a xs (omega (arith, lb)) ∙ lb in
      let l₂ : length (over (over p a xs) b ys) ≡ length p = over_length (over p a xs) b ys (omega (arith, la)) ∙ la in
      ext_get_or 0 (over (over p b ys) a xs) (over (over p a xs) b ys) (l₁ ∙ sym l₂)
      (λ i l. same_at i (ltb i a) (ltb i (a + length xs)) (ltb i b) (ltb i (b + length ys)) refl refl refl refl)
