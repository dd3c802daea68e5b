-- Digits and pieces of a line of values, one more byte at a time.
use Rattle.std.proofs.Common.{◌≡◌, ℕ, zero, suc, ◌+◌, ◌*◌, Bool, true, false, cond, not, eqb, List, [], ◌∷◌, ◌++◌, map, length, sym, refl, ap, ◌∙◌, arith, length-append, eq-eqb, ne_eqb}
use mathlib.Core.Option.{Option, none, some}
use Rattle.formula.specs.Text.{all_some, glue, joined, parted, split}
use Rattle.formula.specs.Values.{digit_of, numbered, of_digits, value_of, values_of}
use Rattle.names.specs.Lines.{free, first_piece}
use Rattle.names.proofs.Splits.{and_both, and_first, and_second, later_pieces, pieces, split_end, split_next}
use Rattle.names.proofs.Digits.{value_length}
use Rattle.values.specs.Reading.{values_in}

no_some : {A : Type 0} {x : A} → ◌≡◌ {A = Option A} none (some x) → ⊥
no_some e = let z : ◌≡◌ {A = ℕ} 0 1 = cc in omega arith

-- ---- digits

joined_first : (o : Option ℕ) (r : Option (List ℕ)) (ds : List ℕ) → joined o r ≡ some ds → o ≡ none → ⊥
joined_first none r ds e q = no_some e
joined_first (some d) r ds e q = no_some (sym q)

joined_second : (o : Option ℕ) (r : Option (List ℕ)) (ds : List ℕ) → joined o r ≡ some ds → (es : List ℕ) × (r ≡ some es)
joined_second none r ds e = absurd (no_some e)
joined_second (some d) none ds e = absurd (no_some e)
joined_second (some d) (some es) ds e = (es, refl)

-- what is no digit is none of them
pub digits_free : (c : ℕ) → digit_of c ≡ none → (xs ds : List ℕ) → all_some (map digit_of xs) ≡ some ds → free c xs ≡ true
digits_free c n [] ds e = refl
digits_free c n (x ∷ xs) ds e =
    let r = joined_second (digit_of x) (all_some (map digit_of xs)) ds e in
    and_both (not (eqb x c)) (free c xs) (ap not (ne_eqb x c (λ q. joined_first (digit_of x) (all_some (map digit_of xs)) ds e (ap digit_of q ∙ n))))
    (digits_free c n xs r.0 r.1)

joined_more : (o : Option ℕ) (r : Option (List ℕ)) (ds es : List ℕ) (r' : Option (List ℕ)) → joined o r ≡ some ds → ((fs : List ℕ) → r ≡ some fs → r' ≡ some (fs ++ es))
    → joined o r' ≡ some (ds ++ es)
joined_more none r ds es r' e h = absurd (no_some e)
joined_more (some a) none ds es r' e h = absurd (no_some e)
joined_more (some a) (some fs) ds es r' e h =
    let q : (a ∷ fs) ≡ ds = cc in ap (λ (o : Option (List ℕ)). joined (some a) o) (h fs refl) ∙ ap (λ (xs : List ℕ). some (xs ++ es)) q

-- digits behind digits
pub digits_append : (xs ys ds es : List ℕ) → all_some (map digit_of xs) ≡ some ds → all_some (map digit_of ys) ≡ some es → all_some (map digit_of (xs ++ ys)) ≡ some (ds ++ es)
digits_append [] ys ds es e q = let z : [] ≡ ds = cc in q ∙ ap (λ (xs : List ℕ). some (xs ++ es)) z
digits_append (x ∷ xs) ys ds es e q =
    joined_more (digit_of x) (all_some (map digit_of xs)) ds es (all_some (map digit_of (xs ++ ys))) e (λ fs h. digits_append xs ys fs es h q)

-- one digit more
pub digits_more : (xs ds : List ℕ) (b d : ℕ) → all_some (map digit_of xs) ≡ some ds → digit_of b ≡ some d → all_some (map digit_of (xs ++ (b ∷ []))) ≡ some (ds ++ (d ∷ []))
digits_more xs ds b d e q = digits_append xs (b ∷ []) ds (d ∷ []) e (ap (λ (o : Option ℕ). joined o (some [])) q)

length_by : (o : Option ℕ) (r : Option (List ℕ)) (ds : List ℕ) (n : ℕ) → joined o r ≡ some ds → ((es : List ℕ) → r ≡ some es → length es ≡ n) → length ds ≡ suc n
length_by none r ds n e h = absurd (no_some e)
length_by (some a) none ds n e h = absurd (no_some e)
length_by (some a) (some es) ds n e h = let q : (a ∷ es) ≡ ds = cc in ap length (sym q) ∙ ap suc (h es refl)

-- as many digits as bytes
pub digits_length : (xs ds : List ℕ) → all_some (map digit_of xs) ≡ some ds → length ds ≡ length xs
digits_length [] ds e = let z : [] ≡ ds = cc in ap length (sym z)
digits_length (x ∷ xs) ds e = length_by (digit_of x) (all_some (map digit_of xs)) ds (length xs) e (digits_length xs)

pub of_digits_append : (n : ℕ) (ds es : List ℕ) → of_digits n (ds ++ es) ≡ of_digits (of_digits n ds) es
of_digits_append n [] es = refl
of_digits_append n (d ∷ ds) es = of_digits_append (16 * n + d) ds es

-- a number before k digits
abbrev shifted : ℕ → ℕ → ℕ
shifted zero n = n
shifted (suc k) n = shifted k (16 * n)

of_digits_add : (m n : ℕ) (ds : List ℕ) → of_digits (m + n) ds ≡ shifted (length ds) m + of_digits n ds
of_digits_add m n [] = refl
of_digits_add m n (d ∷ ds) =
    let z : 16 * (m + n) + d ≡ 16 * m + (16 * n + d) = omega arith in
    ap (λ (i : ℕ). of_digits i ds) z ∙ of_digits_add (16 * m) (16 * n + d) ds

-- eight digits behind a number
pub of_digits_eight : (n : ℕ) (ds : List ℕ) → length ds ≡ 8 → of_digits n ds ≡ 4294967296 * n + of_digits 0 ds
of_digits_eight n ds l =
    let z : n ≡ n + 0 = omega arith in
    let q : shifted 8 n ≡ 4294967296 * n = omega arith in
    ap (λ (i : ℕ). of_digits i ds) z ∙ of_digits_add n 0 ds ∙ ap (λ (k : ℕ). shifted k n + of_digits 0 ds) l ∙ ap (λ (i : ℕ). i + of_digits 0 ds) q

-- digits that have a number
pub numbered_some : (o : Option (List ℕ)) (n : ℕ) → numbered o ≡ some n → (ds : List ℕ) × ((o ≡ some ds) × (of_digits 0 ds ≡ n))
numbered_some none n e = absurd (no_some e)
numbered_some (some ds) n e = (ds, (refl, cc))

joined_none : {A : Type 0} (o : Option A) → joined o none ≡ none
joined_none none = refl
joined_none (some a) = refl

-- a byte that is no digit among them
no_digit : (xs : List ℕ) (b : ℕ) (ys : List ℕ) → digit_of b ≡ none → all_some (map digit_of (xs ++ (b ∷ ys))) ≡ none
no_digit [] b ys e = ap (λ (o : Option ℕ). joined o (all_some (map digit_of ys))) e
no_digit (x ∷ xs) b ys e = ap (λ (r : Option (List ℕ)). joined (digit_of x) r) (no_digit xs b ys e) ∙ joined_none (digit_of x)

-- ---- a value

pub is_value : (ds numbers : List ℕ) → length ds ≡ 16 → all_some (map digit_of ds) ≡ some numbers → value_of ds ≡ some (of_digits 0 numbers)
is_value ds numbers l e =
    ap (λ (t : Bool). cond t (numbered (all_some (map digit_of ds))) none) (eq-eqb (length ds) 16 l) ∙ ap numbered e

none_either : (t : Bool) (o : Option (List ℕ)) → o ≡ none → cond t (numbered o) none ≡ none
none_either true o e = ap numbered e
none_either false o e = refl

no_value : (xs : List ℕ) (b : ℕ) (ys : List ℕ) → digit_of b ≡ none → value_of (xs ++ (b ∷ ys)) ≡ none
no_value xs b ys e = none_either (eqb (length (xs ++ (b ∷ ys))) 16) (all_some (map digit_of (xs ++ (b ∷ ys)))) (no_digit xs b ys e)

-- ---- the first piece

no_comma : (a : Bool) → not a ≡ true → a ≡ false
no_comma true e = sym e
no_comma false e = refl

split_glued : (x : ℕ) (xs : List ℕ) → eqb x 44 ≡ false → split 44 (x ∷ xs) ≡ (x ∷ first_piece 44 xs) ∷ later_pieces 44 xs
split_glued x xs e = ap (λ (t : Bool). parted t x (split 44 xs)) e ∙ ap (glue x) (pieces 44 xs)

-- bytes without a comma stand before the first piece of what follows
split_front : (xs ys p : List ℕ) (ps : List (List ℕ)) → free 44 xs ≡ true → split 44 ys ≡ p ∷ ps → split 44 (xs ++ ys) ≡ (xs ++ p) ∷ ps
split_front [] ys p ps f e = e
split_front (x ∷ xs) ys p ps f e =
    ap (λ (t : Bool). parted t x (split 44 (xs ++ ys))) (no_comma (eqb x 44) (and_first (not (eqb x 44)) (free 44 xs) f))
    ∙ ap (glue x) (split_front xs ys p ps (and_second (not (eqb x 44)) (free 44 xs) f) e)

split_byte : (xs : List ℕ) (b : ℕ) (ys : List ℕ) → free 44 xs ≡ true → (b ≡ 44 → ⊥) → split 44 (xs ++ (b ∷ ys)) ≡ (xs ++ (b ∷ first_piece 44 ys)) ∷ later_pieces 44 ys
split_byte xs b ys f n = split_front xs (b ∷ ys) (b ∷ first_piece 44 ys) (later_pieces 44 ys) f (split_glued b ys (ne_eqb b 44 n))

-- where the first piece is no value, there are no values
first_none : (p : List ℕ) (ps : List (List ℕ)) (xs : List ℕ) → split 44 xs ≡ p ∷ ps → value_of p ≡ none → values_in xs ≡ none
unfolding values_in
first_none p ps xs e q =
    ap (λ (ps : List (List ℕ)). all_some (map value_of ps)) e
    ∙ ap (λ (o : Option ℕ). joined o (all_some (map value_of ps))) q

module _ (ds numbers more : List ℕ) (e : all_some (map digit_of ds) ≡ some numbers) where
  -- 16 digits and a comma
  pub value_comma : length ds ≡ 16 → values_in (ds ++ (44 ∷ more)) ≡ joined (some (of_digits 0 numbers)) (values_in more)
  unfolding values_in
  value_comma l =
      ap (λ (ps : List (List ℕ)). all_some (map value_of ps)) (split_next 44 ds more (digits_free 44 refl ds numbers e))
      ∙ ap (λ (o : Option ℕ). joined o (all_some (map value_of (split 44 more)))) (is_value ds numbers l e)

  -- a comma too early
  pub early_comma : (length ds ≡ 16 → ⊥) → values_in (ds ++ (44 ∷ more)) ≡ none
  early_comma l = first_none ds (split 44 more) (ds ++ (44 ∷ more)) (split_next 44 ds more (digits_free 44 refl ds numbers e)) (value_length ds l)

  -- a byte that is neither
  pub other_byte : (b : ℕ) → (b ≡ 44 → ⊥) → digit_of b ≡ none → values_in (ds ++ (b ∷ more)) ≡ none
  other_byte b n q =
      first_none (ds ++ (b ∷ first_piece 44 more)) (later_pieces 44 more) (ds ++ (b ∷ more)) (split_byte ds b more (digits_free 44 refl ds numbers e) n)
      (no_value ds b (first_piece 44 more) q)

  -- a digit too many
  pub late_digit : (b : ℕ) → (b ≡ 44 → ⊥) → length ds ≡ 16 → values_in (ds ++ (b ∷ more)) ≡ none
  late_digit b n l =
      first_none (ds ++ (b ∷ first_piece 44 more)) (later_pieces 44 more) (ds ++ (b ∷ more)) (split_byte ds b more (digits_free 44 refl ds numbers e) n)
      (value_length (ds ++ (b ∷ first_piece 44 more)) (λ z. omega (arith, length-append ds (b ∷ first_piece 44 more))))

-- ---- at the end of the line

module _ (ds numbers : List ℕ) (e : all_some (map digit_of ds) ≡ some numbers) where
  pub last_value : length ds ≡ 16 → values_in ds ≡ some (of_digits 0 numbers ∷ [])
  unfolding values_in
  last_value l =
      ap (λ (ps : List (List ℕ)). all_some (map value_of ps)) (split_end 44 ds (digits_free 44 refl ds numbers e))
      ∙ ap (λ (o : Option ℕ). joined o (some [])) (is_value ds numbers l e)

  pub no_last : (length ds ≡ 16 → ⊥) → values_in ds ≡ none
  no_last l = first_none ds [] ds (split_end 44 ds (digits_free 44 refl ds numbers e)) (value_length ds l)

pub values_nonempty : (line : List ℕ) → (line ≡ [] → ⊥) → values_of line ≡ values_in line
unfolding values_of values_in
values_nonempty [] h = absurd (h refl)
values_nonempty (b ∷ bs) h = refl

pub values_empty : (line : List ℕ) → line ≡ [] → values_of line ≡ some []
unfolding values_of
values_empty line e = ap values_of e
