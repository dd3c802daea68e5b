-- The text of a record reads back as its four fields: the second is the answer, the fourth is the steps in decimal, and the one newline is its last byte.
use mathlib.Core.Path.{◌≡◌, refl, ap, ◌∙◌}
use mathlib.Core.Bool.{Bool, true, false, not}
use mathlib.Core.List.{List, [], ◌∷◌, ◌++◌, append_assoc}
use mathlib.Core.Option.{Option, none, some}
use Prim.Native.Nat.{ℕ, zero, suc, ◌+◌, ◌-◌, ◌*◌, ◌/◌, ◌%◌, ◌≤◌, ◌<◌}
use native.Mathlib.Omega.{arith}
use lib.ListN.{get_or}
use lib.Dec.{eqb, ltb}
use lib.Ieee.{binary64, to_bits}
use borrow.Author.Tests.{lt-ltb, ltb-false, ltb-true, ne_eqb}
use Rattle.formula.specs.Text.{all, ascii, decimal, decimal_in, split}
use Rattle.formula.specs.Values.{digits_in, hex_digits, lines_of}
use Rattle.formula.specs.Path.{Path, Step, ◌▸◌, argument, condition, else_arm, root, step_text, text, then_arm}
use Rattle.formula.proofs.Tests.{passes}
use Rattle.meaning.specs.Work.{Question, elementary, power}
use Rattle.machine.specs.Machine.{Answer, asks, gives, outside, refused, spent}
use Rattle.names.specs.Lines.{free}
use Rattle.names.proofs.Splits.{and_both, and_first, and_second, free_append, lines_next, split_end, split_next}
use Rattle.listing.specs.Legs.{Line, bits_text, colon, comma, line_of, place_text, printed, question_text, record_text}
use Rattle.listing.specs.Totals.{Totals, counted, decimal_after, of_decimal, one_line}

-- ---- texts without commas and newlines: every byte is above the comma's

abbrev pub plain : List ℕ → Bool
plain xs = all (λ x. ltb 44 x) xs

pub plain_append : (xs ys : List ℕ) → plain xs ≡ true → plain ys ≡ true → plain (xs ++ ys) ≡ true
plain_append [] ys f g = g
plain_append (x ∷ xs) ys f g =
    and_both (ltb 44 x) (plain (xs ++ ys)) (and_first (ltb 44 x) (plain xs) f) (plain_append xs ys (and_second (ltb 44 x) (plain xs) f) g)

pub plain_free : (c : ℕ) (xs : List ℕ) → c ≤ 44 → plain xs ≡ true → free c xs ≡ true
plain_free c [] h f = refl
plain_free c (x ∷ xs) h f =
    let l = ltb-true 44 x (and_first (ltb 44 x) (plain xs) f) in
    and_both (not (eqb x c)) (free c xs) (ap not (ne_eqb x c (λ e. omega arith))) (plain_free c xs h (and_second (ltb 44 x) (plain xs) f))

plain_digit : (n : ℕ) → plain ((48 + n) ∷ []) ≡ true
plain_digit n = and_both (ltb 44 (48 + n)) true (lt-ltb 44 (48 + n) (omega arith)) refl

plain_digits : (turns : ℕ) (small : Bool) (n : ℕ) → plain (decimal_in turns small n) ≡ true
plain_digits zero small n = refl
plain_digits (suc turns) true n = plain_digit n
plain_digits (suc turns) false n =
    plain_append (decimal_in turns (ltb (n / 10) 10) (n / 10)) ((48 + n % 10) ∷ []) (plain_digits turns (ltb (n / 10) 10) (n / 10)) (plain_digit (n % 10))

pub plain_decimal : (n : ℕ) → plain (decimal n) ≡ true
plain_decimal n = plain_digits (suc n) (ltb n 10) n

plain_hex : (k n : ℕ) → plain (digits_in k n) ≡ true
plain_hex zero n = refl
plain_hex (suc k) n =
    let d = get_or hex_digits (n % 16) 0 in
    plain_append (digits_in k (n / 16)) (d ∷ []) (plain_hex k (n / 16))
    (and_both (ltb 44 d) true (passes (λ i. ltb 44 (get_or hex_digits i 0)) 16 (n % 16) refl (omega arith)) refl)

plain_step : (s : Step) → plain (step_text s) ≡ true
plain_step (argument i) =
    plain_append (ascii ".arguments[" ++ decimal i) (ascii "]") (plain_append (ascii ".arguments[") (decimal i) refl (plain_decimal i)) refl
plain_step condition = refl
plain_step then_arm = refl
plain_step else_arm = refl

pub plain_text : (p : Path) → plain (text p) ≡ true
plain_text root = refl
plain_text (p ▸ s) = plain_append (text p) (step_text s) (plain_text p) (plain_step s)

pub plain_place : (o : Option Path) → plain (place_text o) ≡ true
plain_place none = refl
plain_place (some p) = plain_text p

plain_question : (q : Question) → plain (question_text q) ≡ true
plain_question (elementary f x) =
    plain_append (decimal f ++ colon) (bits_text x) (plain_append (decimal f) colon (plain_decimal f) refl) (plain_hex 16 (to_bits binary64 x))
plain_question (power a b) =
    plain_append (ascii "16" ++ colon ++ bits_text a ++ colon) (bits_text b)
    (plain_append (ascii "16" ++ colon ++ bits_text a) colon (plain_append (ascii "16" ++ colon) (bits_text a) refl (plain_hex 16 (to_bits binary64 a))) refl)
    (plain_hex 16 (to_bits binary64 b))

-- answer and detail of a line
pub record Plain (l : Line) : Type 0 where
  pub answer : plain l.answer ≡ true
  pub detail : plain l.detail ≡ true

pub line_plain : (a : Answer) (count : ℕ) → Plain (line_of a count)
line_plain (gives v) count = record { answer = refl; detail = plain_hex 16 (to_bits binary64 v) }
line_plain (asks q) count = record { answer = refl; detail = plain_question q }
line_plain spent count = record { answer = refl; detail = refl }
line_plain (outside p) count = record { answer = refl; detail = plain_text p }
line_plain (refused n) count = record { answer = refl; detail = plain_decimal n }

-- ---- a number in decimal reads back

after_append : (n : ℕ) (xs ys : List ℕ) → decimal_after n (xs ++ ys) ≡ decimal_after (decimal_after n xs) ys
after_append n [] ys = refl
after_append n (x ∷ xs) ys = after_append (10 * n + (x - 48)) xs ys

digits_back : (turns : ℕ) (small : Bool) (n : ℕ) → n < turns → ltb n 10 ≡ small → of_decimal (decimal_in turns small n) ≡ n
digits_back zero small n h e = absurd (omega arith)
digits_back (suc turns) true n h e = omega arith
digits_back (suc turns) false n h e =
    let l = ltb-false n 10 e in
    let r = digits_back turns (ltb (n / 10) 10) (n / 10) (omega arith) refl in
    after_append 0 (decimal_in turns (ltb (n / 10) 10) (n / 10)) ((48 + n % 10) ∷ [])
    ∙ ap (λ (k : ℕ). 10 * k + (48 + n % 10 - 48)) r
    ∙ omega arith

pub decimal_back : (n : ℕ) → of_decimal (decimal n) ≡ n
decimal_back n = digits_back (suc n) (ltb n 10) n (omega arith) refl

-- ---- the fields of a record

module _ (n : ℕ) (l : Line) (f : Plain l) where
  pub fields_are : split 44 (record_text n l) ≡ decimal n ∷ l.answer ∷ l.detail ∷ decimal l.steps ∷ []
  fields_are =
      let steps = decimal l.steps in
      let apart : record_text n l ≡ decimal n ++ (44 ∷ (l.answer ++ (44 ∷ (l.detail ++ (44 ∷ steps))))) = simp append_assoc in
      ap (split 44) apart
      ∙ split_next 44 (decimal n) (l.answer ++ (44 ∷ (l.detail ++ (44 ∷ steps)))) (plain_free 44 (decimal n) (omega arith) (plain_decimal n))
      ∙ ap (λ (ps : List (List ℕ)). decimal n ∷ ps)
      (split_next 44 l.answer (l.detail ++ (44 ∷ steps)) (plain_free 44 l.answer (omega arith) f.answer)
      ∙ ap (λ (ps : List (List ℕ)). l.answer ∷ ps)
      (split_next 44 l.detail steps (plain_free 44 l.detail (omega arith) f.detail)
      ∙ ap (λ (ps : List (List ℕ)). l.detail ∷ ps) (split_end 44 steps (plain_free 44 steps (omega arith) (plain_decimal l.steps)))))

  pub one_newline : free 10 (record_text n l) ≡ true
  one_newline =
      let free_of : (xs : List ℕ) → plain xs ≡ true → free 10 xs ≡ true = λ xs h. plain_free 10 xs (omega arith) h in
      let a = decimal n ++ comma in
      let b = a ++ l.answer ++ comma in
      free_append 10 (b ++ l.detail ++ comma) (decimal l.steps)
      (free_append 10 (b ++ l.detail) comma
      (free_append 10 b l.detail
      (free_append 10 (a ++ l.answer) comma (free_append 10 a l.answer (free_append 10 (decimal n) comma (free_of (decimal n) (plain_decimal n)) refl) (free_of l.answer f.answer)) refl)
      (free_of l.detail f.detail)) refl) (free_of (decimal l.steps) (plain_decimal l.steps))

  -- a record is one line of the text that it begins
  pub record_line : (rest : List ℕ) → lines_of (printed n l ++ rest) ≡ record_text n l ∷ lines_of rest
  record_line rest = ap lines_of (append_assoc (record_text n l) (10 ∷ []) rest) ∙ lines_next (record_text n l) rest one_newline

-- ---- what a record adds

abbrev pub of_line : Line → Totals
of_line l = one_line l.answer l.steps

pub counted_is : (n : ℕ) (l : Line) → Plain l → counted (record_text n l) ≡ of_line l
counted_is n l f =
    ap (λ (ps : List (List ℕ)). one_line (get_or ps 1 []) (of_decimal (get_or ps 3 []))) (fields_are n l f) ∙ ap (one_line l.answer) (decimal_back l.steps)
