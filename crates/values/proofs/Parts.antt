-- A part of the input, one more byte at a time.
use Rattle.std.proofs.Common.{◌≡◌, ℕ, suc, ◌+◌, ◌-◌, ◌*◌, ◌<◌, ◌≤◌, true, not, eqb, List, [], ◌∷◌, ◌++◌, map, length, get_or, take, drop, set, sym, refl, ap, ◌∙◌, subst, ap₂, append_assoc, append-nil, arith, length-drop, length-take-le, get_or-drop, take-suc, drop-drop, take-add, ne_eqb}
use mathlib.Core.Option.{Option, none, some}
use lib.Ieee.{Float, binary64, of_bits}
use Rattle.formula.specs.Text.{all_some, little_endian, long_at}
use Rattle.formula.specs.Values.{digit_of, numbered, of_digits}
use Rattle.names.specs.Lines.{cap, free, part}
use Rattle.names.proofs.Splits.{and_both, and_first, and_second, free_append}
use Rattle.std.specs.Prelude.{Some, None, ◌≢◌, All}
use Rattle.values.specs.declared.Partial.{Partial}
use Rattle.values.specs.Reading.{Good, Reading, Reads, ReadsDigit, ReadsOn, counted}
use Rattle.values.specs.Eights.{Numbers}
use Rattle.values.proofs.Eights.{long_again}
use Rattle.values.proofs.Pieces.{digits_append, digits_free, digits_length, numbered_some, of_digits_append, of_digits_eight}
use Rattle.values.proofs.Readings.{bad_on_all, between_values, byte_after, comma_after, value_after}

pub part_none : (l : List ℕ) (a : ℕ) → part l a a ≡ []
unfolding part
part_none l a = let z : a - a ≡ 0 = omega arith in ap (λ (n : ℕ). take n (drop a l)) z

pub part_more : (l : List ℕ) (a e : ℕ) → a ≤ e → e < length l → part l a (e + 1) ≡ part l a e ++ (get_or l e 0 ∷ [])
unfolding part
part_more l a e h k =
    let j = e - a in
    let z : e + 1 - a ≡ suc j = omega arith in
    let w : a + j ≡ e = omega arith in
    ap (λ (n : ℕ). take n (drop a l)) z
    ∙ take-suc (drop a l) j 0 (omega (arith, length-drop a l))
    ∙ ap (λ (x : ℕ). take j (drop a l) ++ (x ∷ [])) (get_or-drop a l j 0 ∙ ap (λ (n : ℕ). get_or l n 0) w)

pub free_more : (c : ℕ) (xs : List ℕ) (x : ℕ) → free c xs ≡ true → (x ≡ c → ⊥) → free c (xs ++ (x ∷ [])) ≡ true
free_more c [] x f n = and_both (not (eqb x c)) true (ap not (ne_eqb x c n)) refl
free_more c (y ∷ xs) x f n =
    and_both (not (eqb y c)) (free c (xs ++ (x ∷ []))) (and_first (not (eqb y c)) (free c xs) f) (free_more c xs x (and_second (not (eqb y c)) (free c xs) f) n)

free_all : (xs : List ℕ) → All (λ x. x ≢ 10) xs → free 10 xs ≡ true
free_all [] h = refl
free_all (x ∷ xs) h =
    and_both (not (eqb x 10)) (free 10 xs) (ap not (ne_eqb x 10 (h 0 x (omega arith)))) (free_all xs (λ k d l. h (suc k) d (omega arith)))

-- the first newline of what is left, or the end
pub line_ends : (input : List ℕ) (from n : ℕ) → from ≤ length input → n ≤ length (drop from input) → All (λ x. x ≢ 10) (take n (drop from input))
    → (n < length (drop from input) → get_or (drop from input) n 0 ≡ 10)
    → (from ≤ from + n) × (from + n ≤ length input) × (free 10 (part input from (from + n)) ≡ true) × (from + n < length input → get_or input (from + n) 0 ≡ 10)
unfolding part
line_ends input from n h within before found =
    let l = length-drop from input in
    let z : from + n - from ≡ n = omega arith in (
      omega arith,
      omega arith,
      ap (λ (k : ℕ). free 10 (take k (drop from input))) z ∙ free_all (take n (drop from input)) before,
      λ k. sym (get_or-drop from input n 0) ∙ found (omega arith),
    )

pub on_none : (s : Reading) (values : List Float) → ReadsOn s values [] s values
on_none s values seen g = subst (λ (xs : List ℕ). Reads xs s values) (sym (append-nil seen)) g

pub on_more : (s t u : Reading) (v w x : List Float) (xs ys : List ℕ) → ReadsOn s v xs t w → ReadsOn t w ys u x → ReadsOn s v (xs ++ ys) u x
on_more s t u v w x xs ys f g seen r = subst (λ (zs : List ℕ). Reads zs u x) (append_assoc seen xs ys) (g (seen ++ xs) (f seen r))

-- the loop's invariant
pub record ReadingOn (input : List ℕ) (from : ℕ) (s : Reading) (values : List Float) (end : ℕ) (t : Reading) (values' : List Float) : Type 0 where
  pub start : from ≤ end
  pub inside : end ≤ length input
  pub no_newline : free 10 (part input from end) ≡ true
  pub same_length : length values' ≡ length values
  pub read : ReadsOn s values (part input from end) t values'

pub reading_start : (input : List ℕ) (from : ℕ) (s : Reading) (values : List Float) → from ≤ length input → ReadingOn input from s values from s values
reading_start input from s values h =
    record {
      start = omega arith;
      inside = h;
      no_newline = ap (free 10) (part_none input from);
      same_length = refl;
      read = subst (λ (xs : List ℕ). ReadsOn s values xs s values) (sym (part_none input from)) (on_none s values);
    }

pub reading_step : (input : List ℕ) (from : ℕ) (s : Reading) (values : List Float) (end : ℕ) (t : Reading) (w : List Float) → ReadingOn input from s values end t w
    → end < length input → (get_or input end 0 ≡ 10 → ⊥) → (u : Reading) (x : List Float) → length x ≡ length w → ReadsOn t w (get_or input end 0 ∷ []) u x
    → ReadingOn input from s values (end + 1) u x
reading_step input from s values end t w g h n u x l r =
    let p = part_more input from end g.start h in
    let f = g.start in
    record {
      start = omega arith;
      inside = omega arith;
      no_newline = ap (free 10) p ∙ free_more 10 (part input from end) (get_or input end 0) g.no_newline n;
      same_length = l ∙ g.same_length;
      read = subst (λ (xs : List ℕ). ReadsOn s values xs u x) (sym p) (on_more s t u values w x (part input from end) (get_or input end 0 ∷ []) g.read r);
    }

length_part : (l : List ℕ) (a e : ℕ) → e ≤ length l → length (part l a e) ≡ e - a
unfolding part
length_part l a e h = length-take-le (e - a) (drop a l) (omega (arith, length-drop a l))

-- a part behind a part
part_join : (l : List ℕ) (a e f : ℕ) → a ≤ e → e ≤ f → part l a e ++ part l e f ≡ part l a f
unfolding part
part_join l a e f h k =
    let z : a + (e - a) ≡ e = omega arith in
    let y : (e - a) + (f - e) ≡ f - a = omega arith in
    ap (λ (n : ℕ). take (e - a) (drop a l) ++ take (f - e) (drop n l)) (sym z)
    ∙ ap (λ (xs : List ℕ). take (e - a) (drop a l) ++ take (f - e) xs) (sym (drop-drop (e - a) a l))
    ∙ sym (take-add (e - a) (f - e) (drop a l))
    ∙ ap (λ (n : ℕ). take n (drop a l)) y

pub reading_run : (input : List ℕ) (from : ℕ) (s : Reading) (values : List Float) (end : ℕ) (t : Reading) (w : List Float) → ReadingOn input from s values end t w
    → (end' : ℕ) (u : Reading) (x : List Float) → length x ≡ length w → (end ≤ end') × (end' ≤ length input) × (free 10 (part input end end') ≡ true)
    → ReadsOn t w (part input end end') u x → ReadingOn input from s values end' u x
reading_run input from s values end t w g end' u x l p r =
    let j = part_join input from end end' g.start p.0 in
    let f = g.start in
    let q = p.0 in
    record {
      start = omega arith;
      inside = p.1;
      no_newline = ap (free 10) (sym j) ∙ free_append 10 (part input from end) (part input end end') g.no_newline p.2;
      same_length = l ∙ g.same_length;
      read = subst (λ (xs : List ℕ). ReadsOn s values xs u x) j (on_more s t u values w x (part input from end) (part input end end') g.read r);
    }

pub reading_end : (input : List ℕ) (from : ℕ) (s : Reading) (values : List Float) (end : ℕ) (t : Reading) (w : List Float) → ReadingOn input from s values end t w
    → length input ≤ end → ReadingOn input from s values (length input) t w
reading_end input from s values end t w g h =
    let e : end ≡ length input = omega (arith, g.inside) in
    subst (λ (n : ℕ). ReadingOn input from s values n t w) e g

-- digits, whatever the values before
abbrev pub DigitsOn : List ℕ → ℕ → Partial → ℕ → Partial → Type 0
DigitsOn input from s end t = (values : List Float) → ReadingOn input from (Some s) values end (Some t) values

no_digit : (b d : ℕ) → digit_of b ≡ some d → b ≡ 10 → ⊥
no_digit b d e h = let z : ◌≡◌ {A = Option ℕ} none (some d) = ap digit_of (sym h) ∙ e in let w : ◌≡◌ {A = ℕ} 0 1 = cc in omega arith

not_comma : (b d : ℕ) → digit_of b ≡ some d → b ≡ 44 → ⊥
not_comma b d e h = let z : ◌≡◌ {A = Option ℕ} none (some d) = ap digit_of (sym h) ∙ e in let w : ◌≡◌ {A = ℕ} 0 1 = cc in omega arith

pub digit_run : (input : List ℕ) (from : ℕ) (s : Partial) (end : ℕ) (t : Partial) → DigitsOn input from s end t → end < length input
    → (u : Partial) → ReadsDigit t (get_or input end 0) (Some u) → DigitsOn input from s (end + 1) u
digit_run input from s end t g h u r values =
    reading_step input from (Some s) values end (Some t) values (g values) h (no_digit (get_or input end 0) r.0 r.1) (Some u) values refl
    (λ seen k. byte_after seen t values (get_or input end 0) (Some u) (not_comma (get_or input end 0) r.0 r.1) r k)

-- a malformed line, to its end
pub malformed_run : (input : List ℕ) (from : ℕ) (s : Reading) (values : List Float) (end : ℕ) (w : List Float) → ReadingOn input from s values end None w
    → (end' : ℕ) → (end ≤ end') × (end' ≤ length input) × (free 10 (part input end end') ≡ true) → ReadingOn input from s values end' None w
malformed_run input from s values end w g end' p =
    reading_run input from s values end None w g end' None w refl p (λ seen r. bad_on_all seen (part input end end') r)

-- ---- whole values

-- two words of eight digits
pub two_words : (input : List ℕ) → ((i : ℕ) → get_or input i 0 < 256) → (at : ℕ) → at + 16 ≤ length input → (high low : ℕ)
    → Numbers 8 (little_endian 8 (long_at input at)) (Some high) → Numbers 8 (little_endian 8 (long_at input (at + 8))) (Some low)
    → Numbers 16 (part input at (at + 16)) (Some (4294967296 * high + low))
unfolding cap
two_words input bytes at inside high low p q =
    let xs = little_endian 8 (long_at input at) in
    let ys = little_endian 8 (long_at input (at + 8)) in
    let z : at + 8 + 8 ≡ at + 16 = omega arith in
    let h = numbered_some (all_some (map digit_of xs)) high p.0 in
    let l = numbered_some (all_some (map digit_of ys)) low q.0 in
    let both : xs ++ ys ≡ part input at (at + 16) =
    ap₂ (λ (us vs : List ℕ). us ++ vs) (long_again input bytes at (omega arith)) (long_again input bytes (at + 8) (omega arith) ∙ ap (part input (at + 8)) z)
    ∙ part_join input at (at + 8) (at + 16) (omega arith) (omega arith) in
    let bits : of_digits 0 (h.0 ++ l.0) ≡ 4294967296 * high + low =
    of_digits_append 0 h.0 l.0
    ∙ of_digits_eight (of_digits 0 h.0) l.0 (digits_length ys l.0 l.1.0)
    ∙ ap₂ (λ (i j : ℕ). 4294967296 * i + j) h.1.1 l.1.1 in (
      ap (λ (us : List ℕ). numbered (all_some (map digit_of us))) (sym both)
          ∙ ap numbered (digits_append xs ys h.0 l.0 h.1.0 l.1.0)
          ∙ ap (λ (n : ℕ). some n) bits,
      omega (arith, p.1, q.1),
    )

module _ (input : List ℕ) (from : ℕ) (s : Partial) (values : List Float) where
  -- before a value
  pub between_start : from ≤ length input → s.digits ≡ 0 → ReadingOn input from (Some s) values from (Some (record { count = s.count; digits = 0; bits = 0 })) values
  between_start h d =
      let g = reading_start input from (Some s) values h in
      record {
        start = g.start;
        inside = g.inside;
        no_newline = g.no_newline;
        same_length = refl;
        read = λ seen r. between_values (seen ++ part input from from) s values d (g.read seen r);
      }

  -- then digits one by one
  pub each_run : (at : ℕ) (t : Partial) (w : List Float) → ReadingOn input from (Some s) values at (Some t) w → (end : ℕ) (u : Reading)
      → (at ≤ end) × (end ≤ length input) × (free 10 (part input at end) ≡ true) → ((values : List Float) → ReadsOn (Some t) values (part input at end) u values)
      → ReadingOn input from (Some s) values end u w
  each_run at t w g end u p q = reading_run input from (Some s) values at (Some t) w g end u w refl p (q w)

  module _ (at : ℕ) (t : Partial) (w : List Float) (g : ReadingOn input from (Some s) values at (Some t) w) (d : t.digits ≡ 0) (inside : at + 16 ≤ length input) (n : ℕ)
      (v : Numbers 16 (part input at (at + 16)) (Some n)) where
    -- its digits
    pub value_run : ReadingOn input from (Some s) values (at + 16) (Some (record { count = t.count; digits = 16; bits = n })) w
    unfolding cap
    value_run =
        let xs = part input at (at + 16) in
        let h = numbered_some (all_some (map digit_of xs)) n v.0 in
        let bits = h.1.1 in
        let l : length xs ≡ 16 = length_part input at (at + 16) inside ∙ omega arith in
        reading_run input from (Some s) values at (Some t) w g (at + 16) (Some (record { count = t.count; digits = 16; bits = n })) w refl
        (omega arith, inside, digits_free 10 refl xs h.0 h.1.0)
        (λ seen r.
        subst (λ (b : ℕ). Good (seen ++ xs) (record { count = t.count; digits = 16; bits = b }) w) bits
        (value_after seen t w xs h.0 h.1.0 l d (subst (λ (b : ℕ). b < 18446744073709551616) (sym bits) v.1) r))

    -- and its comma
    pub comma_run : at + 17 ≤ length input → get_or input (at + 16) 0 ≡ 44 → (count : ℕ) → count ≡ counted (length w) t.count
        → (x : List Float) → x ≡ set w t.count (of_bits binary64 n) → length x ≡ length w
        → ReadingOn input from (Some s) values (at + 17) (Some (record { count = count; digits = 0; bits = 0 })) x
    comma_run room comma count c x e l =
        let z : at + 16 + 1 ≡ at + 17 = omega arith in
        let u : Partial = record { count = t.count; digits = 16; bits = n } in
        subst (λ (end : ℕ). ReadingOn input from (Some s) values end (Some (record { count = count; digits = 0; bits = 0 })) x) z
        (reading_step input from (Some s) values (at + 16) (Some u) w value_run (omega arith) (λ q. omega arith) _ x l
        (λ seen r. rw (comma, c, e) (comma_after seen u w refl r)))
