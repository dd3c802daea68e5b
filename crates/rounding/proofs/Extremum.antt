-- Min and Max of a format's values, by any whole number that orders them: the result has the least one, so the order of the arguments is nothing to it.
use mathlib.Core.Path.{◌≡◌, refl, sym, ap, ◌∙◌, subst}
use mathlib.Core.Logic.{◌⊎◌, inl, inr, ⊎_swap}
use mathlib.Core.Bool.{Bool, true, false, not, ◌&&◌, ◌||◌, cond, true≢false, and-false}
use mathlib.Core.List.Memᴰ
use mathlib.Core.List.Permᴰ
use mathlib.Core.List.{List, [], ◌∷◌, Memᴰ, Permᴰ}
use Prim.Native.Nat.{ℕ, suc, ◌+◌, ◌-◌, ◌≤◌, ◌<◌}
use native.Mathlib.Nat.{le_refl, le_trans, le_of_eq, le_of_lt, le_antisymm}
use native.Mathlib.Omega.{arith}
use borrow.Author.Tests.{ltb-true, ltb-false, lt-ltb, le-ltb}
use lib.Dec.{T, ltb, eqb}
use lib.Ieee.{Float, nan, inf, fin, Format, lt, eq, fits, is_nan}
use lib.Ieee.Fits.{and_i, and_l, and_r}
use lib.Ieee.Bits.{is_true}
use Rattle.arithmetic.specs.Width.{width, past}
use Rattle.arithmetic.specs.Value.{0f, -0f, is_zero}
use Rattle.arithmetic.specs.Extremum.{held, hold, zero_of, below, above}
use Rattle.rounding.specs.Extremum.{number, Each, numbers, IsExtremum, Decides}
use Rattle.rounding.proofs.Order.{same_less}
use Rattle.rounding.proofs.Rank.{rank_of, plain_rank_of, below_ranks, lt_ranks, rank_bound, plain_bound, rank_one, plain_one, zero±, equal_values}

-- ---- values that a format holds
number_fits : (F : Format) (x : Float) → T (number F x) → T (fits F x)
number_fits F x t = and_l (fits F x) (not (is_nan x)) t

sorted : (F : Format) (x : Float) → T (fits F x) → (x ≡ nan) ⊎ T (number F x)
unfolding is_nan
sorted F nan t = inl refl
sorted F (inf s) t = inr (and_i (fits F (inf s)) true t tt)
sorted F (fin s m e) t = inr (and_i (fits F (fin s m e)) true t tt)

nan_no_number : (F : Format) → T (number F nan) → ⊥
unfolding is_nan
nan_no_number F t = and_r (fits F nan) false t

-- ---- a place moves with a permutation
moved : {a : Float} {xs ys : List Float} → Permᴰ xs ys → Memᴰ a xs → Memᴰ a ys
moved Permᴰ.nil m = m
moved (Permᴰ.cons e p) m = elim (Memᴰ.cases_cons m) [ inl q ↦ Memᴰ.head (q ∙ e) | inr n ↦ Memᴰ.tail (moved p n) ]
moved (Permᴰ.swap e f) m = elim (Memᴰ.cases_cons m) [
  | inl q ↦ Memᴰ.tail (Memᴰ.head (q ∙ e))
  | inr n ↦ elim (Memᴰ.cases_cons n) [ inl q ↦ Memᴰ.head (q ∙ f) | inr o ↦ Memᴰ.tail (Memᴰ.tail o) ]
]
moved (Permᴰ.trans p q) m = moved q (moved p m)

-- ---- a test that is `<` of keys, and false beside a NaN
pub record Keyed (F : Format) (beyond : Float → Float → Bool) (key : Float → ℕ) : Type 0 where
  pub less : (x y : Float) → T (number F x) → T (number F y) → beyond x y ≡ ltb (key x) (key y)
  pub of_nan : (x : Float) → beyond nan x ≡ false
  pub at_nan : (x : Float) → beyond x nan ≡ false

-- the converse, by keys counted down from a bound
pub turned : (F : Format) (beyond : Float → Float → Bool) (key : Float → ℕ) (most : ℕ) → ((x : Float) → T (number F x) → key x ≤ most) → Keyed F beyond key
    → Keyed F (λ (x y : Float). beyond y x) (λ (x : Float). most - key x)
turned F beyond key most bound k = record {
  less = λ x y t u. k.less y x u t ∙ flip (key y) (key x) (bound y u) (bound x t);
  of_nan = k.at_nan;
  at_nan = k.of_nan;
}
  where
    flip : (a b : ℕ) → a ≤ most → b ≤ most → ltb a b ≡ ltb (most - b) (most - a)
    flip a b h g = same_less a b (most - b) (most - a) (λ l. omega arith) (λ l. omega arith)

module _ (F : Format) (beyond : Float → Float → Bool) (key : Float → ℕ) (k : Keyed F beyond key) where
  not_beyond : (x y : Float) → T (number F x) → T (number F y) → beyond x y ≡ false → key y ≤ key x
  not_beyond x y t u e = ltb-false (key x) (key y) (sym (k.less x y t u) ∙ e)

  -- a number z that is x or y, with the least key
  record Nearer (x y z : Float) : Type 0 where
    counts : T (number F z)
    either : (z ≡ x) ⊎ (z ≡ y)
    first : key z ≤ key x
    second : T (number F y) → key z ≤ key y

  nearer : (x y : Float) → T (number F x) → T (fits F y) → Nearer x y (held beyond x y)
  nearer x y t u = elim (sorted F y u) [
    | inl e ↦ subst (λ (b : Bool). Nearer x y (cond b y x)) (sym (ap (λ (z : Float). beyond z x) e ∙ k.of_nan x))
        (record { counts = t; either = inl refl; first = le_refl (key x); second = λ v. absurd (nan_no_number F (subst (λ (z : Float). T (number F z)) e v)) })
    | inr v ↦ go v (beyond y x) (λ e. ltb-true (key y) (key x) (sym (k.less y x v t) ∙ e)) (λ e. not_beyond y x v t e)
  ]
    where
      go : T (number F y) → (b : Bool) → (b ≡ true → key y < key x) → (b ≡ false → key x ≤ key y) → Nearer x y (cond b y x)
      go v true p q = record { counts = v; either = inr refl; first = le_of_lt (p refl); second = λ w. le_refl (key y) }
      go v false p q = record { counts = t; either = inl refl; first = le_refl (key x); second = λ w. q refl }

  -- r is a number among xs, with the least key of the numbers there
  pub record Least (xs : List Float) (r : Float) : Type 0 where
    pub counts : T (number F r)
    pub among : Memᴰ r xs
    pub least : (y : Float) → Memᴰ y xs → T (number F y) → key r ≤ key y

  pub hold_least : (x : Float) (xs : List Float) → T (number F x) → Each (fits F) xs → Least (x ∷ xs) (hold beyond x xs)
  unfolding hold
  hold_least x [] t h = record {
    counts = t;
    among = Memᴰ.head refl;
    least = λ y m v. elim (Memᴰ.cases_cons m) [ inl e ↦ le_of_eq (ap key (sym e)) | inr n ↦ absurd (Memᴰ.not-nil n) ];
  }
  hold_least x (y ∷ ys) t h =
      let z = held beyond x y in
      let n = nearer x y t (h y (Memᴰ.head refl)) in
      let r = hold_least z ys n.counts (λ w m. h w (Memᴰ.tail m)) in
      record {
        counts = r.counts;
        among = elim (Memᴰ.cases_cons r.among) [
          | inl e ↦ elim n.either [ inl f ↦ Memᴰ.head (e ∙ f) | inr f ↦ Memᴰ.tail (Memᴰ.head (e ∙ f)) ]
          | inr m ↦ Memᴰ.tail (Memᴰ.tail m)
        ];
        least = λ w m v. elim (Memᴰ.cases_cons m) [
          | inl e ↦ le_trans (r.least z (Memᴰ.head refl) n.counts) (le_trans n.first (le_of_eq (ap key (sym e))))
          | inr o ↦ elim (Memᴰ.cases_cons o) [
            | inl e ↦ le_trans (r.least z (Memᴰ.head refl) n.counts) (le_trans (n.second (subst (λ (q : Float). T (number F q)) e v)) (le_of_eq (ap key (sym e))))
            | inr q ↦ r.least w (Memᴰ.tail q) v
          ]
        ];
      }

  all_fit : (x : Float) (xs : List Float) → T (number F x) → Each (fits F) xs → Each (fits F) (x ∷ xs)
  all_fit x xs t h y m = elim (Memᴰ.cases_cons m) [ inl e ↦ subst (λ (z : Float). T (fits F z)) (sym e) (number_fits F x t) | inr n ↦ h y n ]

  none_beyond : (xs : List Float) (r : Float) → Each (fits F) xs → Least xs r → (y : Float) → Memᴰ y xs → beyond y r ≡ false
  none_beyond xs r h l y m = elim (sorted F y (h y m)) [
    | inl e ↦ ap (λ (z : Float). beyond z r) e ∙ k.of_nan r
    | inr v ↦ k.less y r v l.counts ∙ le-ltb (key y) (key r) (l.least y m v)
  ]

  pub hold_result : (x : Float) (xs : List Float) → T (number F x) → Each (fits F) xs → T (number F (hold beyond x xs)) × IsExtremum beyond (x ∷ xs) (hold beyond x xs)
  hold_result x xs t h =
      let l = hold_least x xs t h in
      (l.counts, record { among = l.among; last = none_beyond (x ∷ xs) (hold beyond x xs) (all_fit x xs t h) l })

  pub never_itself : (x : Float) → T (fits F x) → beyond x x ≡ false
  never_itself x t = elim (sorted F x t) [
    | inl e ↦ ap (λ (z : Float). beyond z x) e ∙ k.of_nan x
    | inr v ↦ k.less x x v v ∙ le-ltb (key x) (key x) (le_refl (key x))
  ]

  -- what is beyond a value, and what a value is beyond, is a number
  beyond_number : (x y : Float) → T (fits F x) → beyond x y ≡ true → T (number F x)
  beyond_number x y t e = elim (sorted F x t) [ inl n ↦ absurd (true≢false (sym e ∙ ap (λ (z : Float). beyond z y) n ∙ k.of_nan y)) | inr v ↦ v ]

  number_beyond : (x y : Float) → T (fits F y) → beyond x y ≡ true → T (number F y)
  number_beyond x y t e = elim (sorted F y t) [ inl n ↦ absurd (true≢false (sym e ∙ ap (λ (z : Float). beyond x z) n ∙ k.at_nan x)) | inr v ↦ v ]

  pub chains : (x y z : Float) → T (fits F x) → T (fits F y) → T (fits F z) → beyond x y ≡ true → beyond y z ≡ true → beyond x z ≡ true
  chains x y z t u v e f =
      let a = beyond_number x y t e in
      let b = number_beyond x y u e in
      let c = number_beyond y z v f in
      let g = ltb-true (key x) (key y) (sym (k.less x y a b) ∙ e) in
      let h = ltb-true (key y) (key z) (sym (k.less y z b c) ∙ f) in
      k.less x z a c ∙ lt-ltb (key x) (key z) (omega arith)

  -- ---- NaNs
  pub first_nan : (xs : List Float) → hold beyond nan xs ≡ nan
  unfolding hold
  first_nan [] = refl
  first_nan (x ∷ xs) = ap (λ (b : Bool). hold beyond (cond b x nan) xs) (k.at_nan x) ∙ first_nan xs

  pub later_nan : (x : Float) (xs : List Float) → hold beyond x xs ≡ hold beyond x (numbers xs)
  unfolding hold numbers is_nan
  later_nan x [] = refl
  later_nan x (nan ∷ ys) = ap (λ (b : Bool). hold beyond (cond b nan x) ys) (k.of_nan x) ∙ later_nan x ys
  later_nan x (inf s ∷ ys) = later_nan (held beyond x (inf s)) ys
  later_nan x (fin s m e ∷ ys) = later_nan (held beyond x (fin s m e)) ys

  -- ---- a key that no two numbers share
  module _ (single : (x y : Float) → T (number F x) → T (number F y) → key x ≡ key y → x ≡ y) where
    pub either_way : (x y : Float) → T (number F x) → T (number F y) → (beyond x y ≡ true) ⊎ (x ≡ y) ⊎ (beyond y x ≡ true)
    either_way x y t u = go (beyond x y) refl (beyond y x) refl
      where
        go : (a : Bool) → beyond x y ≡ a → (b : Bool) → beyond y x ≡ b → (beyond x y ≡ true) ⊎ (x ≡ y) ⊎ (beyond y x ≡ true)
        go true e b f = inl e
        go false e true f = inr (inr f)
        go false e false f = inr (inl (single x y t u (le_antisymm (not_beyond y x u t f) (not_beyond x y t u e))))

    pub only_one : (xs : List Float) (q r : Float) → T (number F q) → T (number F r) → IsExtremum beyond xs q → IsExtremum beyond xs r → q ≡ r
    only_one xs q r t u p s = single q r t u (le_antisymm (not_beyond r q u t (p.last r s.among)) (not_beyond q r t u (s.last q p.among)))

    pub every_order : (x y : Float) (xs ys : List Float) → T (number F x) → T (number F y) → Each (fits F) xs → Permᴰ (x ∷ xs) (y ∷ ys) → hold beyond x xs ≡ hold beyond y ys
    every_order x y xs ys t u h p =
        let back = Permᴰ.symm p in
        let a = hold_result x xs t h in
        let b = hold_result y ys u (λ z m. all_fit x xs t h z (moved back (Memᴰ.tail m))) in
        only_one (x ∷ xs) (hold beyond x xs) (hold beyond y ys) a.0 b.0 a.1
        (record { among = moved back b.1.among; last = λ z m. b.1.last z (moved p m) })

-- ---- all of it, where one test has a key that no two numbers share, and the other, which says less, one that only equal numbers share
decided : (F : Format) (plain beyond : Float → Float → Bool) (key plain_key : Float → ℕ) → Keyed F beyond key → Keyed F plain plain_key
    → ((x y : Float) → T (number F x) → T (number F y) → key x ≡ key y → x ≡ y)
    → ((x y : Float) → T (number F x) → T (number F y) → plain_key x ≡ plain_key y → eq x y ≡ true)
    → ((x y : Float) → beyond x y ≡ false → plain x y ≡ false)
    → (zero other : Float) → beyond zero other ≡ true → ((x : Float) → T (fits F x) → T (is_zero x) → (x ≡ zero) ⊎ (x ≡ other))
    → Decides F plain beyond zero
decided F plain beyond key plain_key k j single same says_less zero other first two = record {
  irreflexive = never_itself F beyond key k;
  transitive = chains F beyond key k;
  total = either_way F beyond key k single;
  nan_first = first_nan F beyond key k;
  nan_later = later_nan F beyond key k;
  result = hold_result F beyond key k;
  only = only_one F beyond key k single;
  any_order = every_order F beyond key k single;
  zeros = λ x xs t h m z. let r = hold_result F beyond key k x xs t h in one_of (hold beyond x xs) (r.1.last zero m) (two (hold beyond x xs) (number_fits F (hold beyond x xs) r.0) z);
  none_past = λ x xs t h y m. says_less y (hold beyond x xs) ((hold_result F beyond key k x xs t h).1.last y m);
  same_number = equal;
}
  where
    one_of : (r : Float) → beyond zero r ≡ false → (r ≡ zero) ⊎ (r ≡ other) → r ≡ zero
    one_of r l (inl e) = e
    one_of r l (inr e) = absurd (true≢false (sym first ∙ ap (beyond zero) (sym e) ∙ l))

    equal : (x : Float) (xs : List Float) → T (number F x) → Each (fits F) xs → eq (hold beyond x xs) (hold plain x xs) ≡ true
    equal x xs t h =
        let r = hold beyond x xs in
        let q = hold plain x xs in
        let a = hold_result F beyond key k x xs t h in
        let b = hold_least F plain plain_key j x xs t h in
        same r q a.0 b.counts
        (le_antisymm (not_beyond F plain plain_key j q r b.counts a.0 (says_less q r (a.1.last q b.among))) (b.least r a.1.among a.0))

-- ---- Min and Max
below_keyed : (F : Format) → Keyed F below (rank_of F)
unfolding lt
below_keyed F = record { less = below_ranks F; of_nan = λ x. refl; at_nan = beside }
  where
    beside : (x : Float) → below x nan ≡ false
    beside nan = refl
    beside (inf s) = refl
    beside (fin true m e) = and-false (eqb m 0)
    beside (fin false m e) = refl

lt_keyed : (F : Format) → Keyed F lt (plain_rank_of F)
unfolding lt
lt_keyed F = record { less = lt_ranks F; of_nan = λ x. refl; at_nan = beside }
  where
    beside : (x : Float) → lt x nan ≡ false
    beside nan = refl
    beside (inf s) = refl
    beside (fin s m e) = refl

lt_says_less : (x y : Float) → below x y ≡ false → lt x y ≡ false
lt_says_less x y e = go (lt x y) (zero_of true x && zero_of false y) e
  where
    go : (a b : Bool) → (a || b) ≡ false → a ≡ false
    go true b e = e
    go false b e = refl

two_zeros : (F : Format) (x : Float) → T (fits F x) → T (is_zero x) → (x ≡ 0f) ⊎ (x ≡ -0f)
two_zeros F x t z = elim (equal_values F x 0f t (unfold fits in tt) (is_true (is_zero x) z)) [ inl e ↦ inl e | inr p ↦ named p.0 p.1 ]
  where
    named : (s : Bool) → x ≡ zero± s → (x ≡ 0f) ⊎ (x ≡ -0f)
    named false e = inl e
    named true e = inr e

minus_first : below -0f 0f ≡ true
unfolding lt
minus_first = refl

pub min_decides : (F : Format) → Decides F lt below -0f
min_decides F =
    decided F lt below (rank_of F) (plain_rank_of F) (below_keyed F) (lt_keyed F) (rank_one F) (plain_one F) lt_says_less
    -0f 0f minus_first (λ x t z. ⊎_swap (two_zeros F x t z))

pub max_decides : (F : Format) → Decides F (λ x y. lt y x) above 0f
max_decides F =
    decided F (λ x y. lt y x) above (λ x. most - rank_of F x) (λ x. plain_most - plain_rank_of F x)
    (turned F below (rank_of F) most (rank_bound F) (below_keyed F)) (turned F lt (plain_rank_of F) plain_most (plain_bound F) (lt_keyed F))
    (λ x y t u e. rank_one F x y t u (same_rest most (rank_of F x) (rank_of F y) (rank_bound F x t) (rank_bound F y u) e))
    (λ x y t u e. plain_one F x y t u (same_rest plain_most (plain_rank_of F x) (plain_rank_of F y) (plain_bound F x t) (plain_bound F y u) e))
    (λ x y. lt_says_less y x)
    0f -0f minus_first (two_zeros F)
  where
    most : ℕ
    most = suc (past (width F) + past (width F))

    plain_most : ℕ
    plain_most = past (width F) + past (width F)

    same_rest : (p a b : ℕ) → a ≤ p → b ≤ p → p - a ≡ p - b → a ≡ b
    same_rest p a b h g e = omega arith
