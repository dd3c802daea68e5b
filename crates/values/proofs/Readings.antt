-- A reading after one more byte, and at the end of its line.
use Rattle.std.proofs.Common.{◌≡◌, ℕ, zero, suc, ◌+◌, ◌*◌, ◌%◌, ◌<◌, ◌≤◌, min, Bool, true, false, cond, ltb, List, [], ◌∷◌, ◌++◌, map, length, take, set, sym, refl, ap, ◌∙◌, subst, append_assoc, append-nil, arith, length-append, length-set, take-suc-set, ltb-false, ltb-true, inl, inr}
use mathlib.Core.Option.{Option, none, some}
use lib.Ieee.{Float, binary64, of_bits}
use Rattle.formula.specs.Text.{all_some, joined}
use Rattle.formula.specs.Values.{digit_of, of_digits, values_of}
use Rattle.names.specs.Lines.{cap, prefixed}
use Rattle.names.proofs.Splits.{prefixed_start, prefixed_more, prefixed_none, prefixed_some}
use Rattle.std.specs.Prelude.{Some, None, Ok, Err}
use Rattle.std.specs.Option.{ok_or}
use Rattle.values.specs.declared.Partial.{Partial}
use Rattle.refusals.specs.declared.Refusal.{Refusal}
use Rattle.refusals.specs.declared.Refusal.TheVariants.{InvalidInput, MalformedLine}
use Rattle.values.specs.Reading.{Bad, Finds, Good, Kept, Reading, Reads, ReadsDigit, counted, floats, values_in}
use Rattle.values.proofs.Pieces.{digits_more, early_comma, last_value, late_digit, no_last, of_digits_append, other_byte, value_comma, values_empty, values_nonempty}

-- ---- the values kept

floats_more : (vs : List ℕ) (b : ℕ) → floats (vs ++ (b ∷ [])) ≡ floats vs ++ (of_bits binary64 b ∷ [])
floats_more [] b = refl
floats_more (v ∷ vs) b = ap (λ (xs : List Float). of_bits binary64 v ∷ xs) (floats_more vs b)

counted_by : (t : Bool) (count places n : ℕ) → ltb count places ≡ t → count ≡ min n (places + 1) → cond t (count + 1) (places + 1) ≡ min (n + 1) (places + 1)
counted_by true count places n e h = let l = ltb-true count places e in omega arith
counted_by false count places n e h = let l = ltb-false count places e in omega arith

pub kept_more : (vs : List ℕ) (count b : ℕ) (values : List Float) → Kept vs count values
    → Kept (vs ++ (b ∷ [])) (counted (length values) count) (set values count (of_bits binary64 b))
kept_more vs count b values k =
    let x = of_bits binary64 b in
    let n = length-append vs (b ∷ []) in
    let m = length-set values count x in
    record {
      counts = counted_by (ltb count (length values)) count (length values) (length vs) refl k.counts
          ∙ ap (λ (i : ℕ). min i (length values + 1)) (sym n)
          ∙ ap (λ (i : ℕ). min (length (vs ++ (b ∷ []))) (i + 1)) (sym m);
      stand = λ h.
          let c : count ≡ length vs = omega (arith, k.counts, n, m) in
          let l : count < length values = omega (arith, n, m) in
          let s : length (vs ++ (b ∷ [])) ≡ suc count = omega (arith, n) in
          ap (λ (i : ℕ). take i (set values count x)) s
          ∙ take-suc-set values count x l
          ∙ ap (λ (i : ℕ). take i values ++ (x ∷ [])) c
          ∙ ap (λ (xs : List Float). xs ++ (x ∷ [])) (k.stand (omega arith))
          ∙ sym (floats_more vs b);
    }

kept_none : (values : List Float) → Kept [] 0 values
kept_none values = record { counts = omega arith; stand = λ h. refl }

-- ---- the start

pub starts : (values : List Float) → Good [] (record { count = 0; digits = 0; bits = 0 }) values
unfolding cap
starts values =
    record {
      vs = [];
      ds = [];
      numbers = [];
      rest = λ more. prefixed_start (values_in more);
      digits = refl;
      many = refl;
      few = omega arith;
      bits = refl;
      small = omega arith;
      kept = kept_none values;
      start = λ z. refl;
      later = λ n z. n refl;
    }

-- ---- one more byte

more_assoc : (seen : List ℕ) (b : ℕ) (more : List ℕ) → (seen ++ (b ∷ [])) ++ more ≡ seen ++ (b ∷ more)
more_assoc seen b more = append_assoc seen (b ∷ []) more

some_more : (seen xs : List ℕ) → (length xs ≡ 0 → ⊥) → seen ++ xs ≡ [] → ⊥
some_more seen xs n e = n (omega (arith, ap length e, length-append seen xs))

not_empty : (seen : List ℕ) (b : ℕ) → seen ++ (b ∷ []) ≡ [] → ⊥
not_empty seen b = some_more seen (b ∷ []) (λ z. omega arith)

pub bad_on_all : (seen xs : List ℕ) → Bad seen → Bad (seen ++ xs)
bad_on_all seen xs g = record { rest = λ more. ap values_in (append_assoc seen xs more) ∙ g.rest (xs ++ more); later = λ e. g.later (front_none seen xs e) }
  where
    front_none : (ys zs : List ℕ) → ys ++ zs ≡ [] → ys ≡ []
    front_none [] zs e = refl
    front_none (y ∷ ys) zs e = absurd (omega (arith, ap length e))

-- a good line that ends in a byte that can't stand there
goes_bad : (seen : List ℕ) (b : ℕ) (s : Partial) (values : List Float) (g : Good seen s values) → ((more : List ℕ) → values_in (g.ds ++ (b ∷ more)) ≡ none) → Bad (seen ++ (b ∷ []))
goes_bad seen b s values g h =
    record {
      rest = λ more. ap values_in (more_assoc seen b more) ∙ g.rest (b ∷ more) ∙ ap (prefixed g.vs) (h more) ∙ prefixed_none g.vs;
      later = not_empty seen b;
    }

-- 15 digits make less than 16 ^ 15
cap_le : (i : ℕ) → i < 16 → cap i ≤ 1152921504606846976
unfolding cap
cap_le i h = cap_up i 15 (omega arith)
  where
    cap_pos : (j : ℕ) → 1 ≤ cap j
    cap_pos zero = omega arith
    cap_pos (suc j) = let p = cap_pos j in omega arith

    cap_up : (i j : ℕ) → i ≤ j → cap i ≤ cap j
    cap_up zero j l = cap_pos j
    cap_up (suc i) zero l = absurd (omega arith)
    cap_up (suc i) (suc j) l = let p = cap_up i j (omega arith) in omega arith

mod_small : (n i : ℕ) → i < 16 → n < cap i → n % 1152921504606846976 ≡ n
mod_small n i h l = let c = cap_le i h in omega arith

nil_by : (xs : List ℕ) → length xs ≡ 0 → xs ≡ []
nil_by [] e = refl
nil_by (x ∷ xs) e = absurd (omega arith)

module _ (seen : List ℕ) (s : Partial) (values : List Float) where
  -- a value's comma
  pub comma_after : s.digits ≡ 16 → Good seen s values
      → Good (seen ++ (44 ∷ [])) (record { count = counted (length values) s.count; digits = 0; bits = 0 }) (set values s.count (of_bits binary64 s.bits))
  unfolding cap
  comma_after d g =
      record {
        vs = g.vs ++ (s.bits ∷ []);
        ds = [];
        numbers = [];
        rest = λ more.
            ap values_in (more_assoc seen 44 more)
            ∙ g.rest (44 ∷ more)
            ∙ ap (prefixed g.vs) (value_comma g.ds g.numbers more g.digits (g.many ∙ d))
            ∙ ap (λ (n : ℕ). prefixed g.vs (joined (some n) (values_in more))) g.bits
            ∙ prefixed_more g.vs s.bits (values_in more);
        digits = refl;
        many = refl;
        few = omega arith;
        bits = refl;
        small = omega arith;
        kept = kept_more g.vs s.count s.bits values g.kept;
        start = λ z. absurd (omega (arith, length-append g.vs (s.bits ∷ [])));
        later = λ n. not_empty seen 44;
      }

  -- a comma too early
  pub early_after : (s.digits ≡ 16 → ⊥) → Good seen s values → Bad (seen ++ (44 ∷ []))
  early_after d g = goes_bad seen 44 s values g (λ more. early_comma g.ds g.numbers more g.digits (λ z. d (sym g.many ∙ z)))

  -- a byte that is neither a digit nor a comma
  pub other_after : (b : ℕ) → (b ≡ 44 → ⊥) → digit_of b ≡ none → Good seen s values → Bad (seen ++ (b ∷ []))
  other_after b n q g = goes_bad seen b s values g (λ more. other_byte g.ds g.numbers more g.digits b n q)

  -- a digit too many
  pub late_after : (b : ℕ) → (b ≡ 44 → ⊥) → 16 ≤ s.digits → Good seen s values → Bad (seen ++ (b ∷ []))
  late_after b n l g =
      goes_bad seen b s values g (λ more. late_digit g.ds g.numbers more g.digits b n (let w = g.few in let z = g.many in omega arith))

  -- a digit of a value
  pub digit_after : (b d : ℕ) → digit_of b ≡ some d → d < 16 → s.digits < 16 → Good seen s values
      → Good (seen ++ (b ∷ [])) (record { count = s.count; digits = s.digits + 1; bits = 16 * (s.bits % 1152921504606846976) + d }) values
  unfolding cap
  digit_after b d e l h g =
      let same : s.bits % 1152921504606846976 ≡ s.bits = mod_small s.bits s.digits h g.small in
      let z : suc s.digits ≡ s.digits + 1 = omega arith in
      record {
        vs = g.vs;
        ds = g.ds ++ (b ∷ []);
        numbers = g.numbers ++ (d ∷ []);
        rest = λ more.
            ap values_in (more_assoc seen b more)
            ∙ g.rest (b ∷ more)
            ∙ ap (λ (xs : List ℕ). prefixed g.vs (values_in xs)) (sym (more_assoc g.ds b more));
        digits = digits_more g.ds g.numbers b d g.digits e;
        many = length-append g.ds (b ∷ []) ∙ ap (λ (n : ℕ). n + 1) g.many;
        few = omega arith;
        bits = of_digits_append 0 g.numbers (d ∷ []) ∙ ap (λ (n : ℕ). 16 * n + d) (g.bits ∙ sym same);
        small = omega (arith, g.small, same, ap cap z);
        kept = g.kept;
        start = λ n. ap (λ (xs : List ℕ). xs ++ (b ∷ [])) (g.start n);
        later = λ n. not_empty seen b;
      }

  -- ---- the sixteen digits of a value

  -- a byte that may be a digit
  pub byte_after : (b : ℕ) (t : Reading) → (b ≡ 44 → ⊥) → ReadsDigit s b t → Good seen s values → Reads (seen ++ (b ∷ [])) t values
  byte_after b (Some t) n r g = rw r.4 (digit_after b r.0 r.1 r.2 r.3 g)
  byte_after b None n (inl q) g = other_after b n q g
  byte_after b None n (inr l) g = late_after b n l g

  -- no digit was read yet
  pub between_values : s.digits ≡ 0 → Good seen s values → Good seen (record { count = s.count; digits = 0; bits = 0 }) values
  unfolding cap
  between_values d g =
      record {
        vs = g.vs;
        ds = g.ds;
        numbers = g.numbers;
        rest = g.rest;
        digits = g.digits;
        many = g.many ∙ d;
        few = omega arith;
        bits = let z : cap s.digits ≡ 1 = ap cap d in g.bits ∙ omega (arith, g.small);
        small = omega arith;
        kept = g.kept;
        start = g.start;
        later = g.later;
      }

  module _ (xs numbers : List ℕ) (e : all_some (map digit_of xs) ≡ some numbers) (l : length xs ≡ 16) (d : s.digits ≡ 0) (small : of_digits 0 numbers < 18446744073709551616) where
    pub value_after : Good seen s values → Good (seen ++ xs) (record { count = s.count; digits = 16; bits = of_digits 0 numbers }) values
    unfolding cap
    value_after g =
        let none_yet = nil_by g.ds (g.many ∙ d) in
        record {
          vs = g.vs;
          ds = xs;
          numbers = numbers;
          rest = λ more.
              ap values_in (append_assoc seen xs more)
              ∙ g.rest (xs ++ more)
              ∙ ap (λ (ys : List ℕ). prefixed g.vs (values_in (ys ++ (xs ++ more)))) none_yet;
          digits = e;
          many = l;
          few = omega arith;
          bits = refl;
          small = small;
          kept = g.kept;
          start = λ n. ap (λ (ys : List ℕ). ys ++ xs) (g.start n ∙ none_yet);
          later = λ n. some_more seen xs (λ z. omega arith);
        }

  -- ---- the end of the line

  module _ (g : Good seen s values) where
    some_seen : (length g.ds ≡ 0 → ⊥) → seen ≡ [] → ⊥
    some_seen n z = some_by (length g.vs) refl
      where
        some_by : (k : ℕ) → length g.vs ≡ k → ⊥
        some_by zero e = n (ap length (sym (g.start e) ∙ z))
        some_by (suc k) e = g.later (λ w. omega arith) z

    whole : values_in seen ≡ prefixed g.vs (values_in g.ds)
    whole = ap values_in (sym (append-nil seen)) ∙ g.rest [] ∙ ap (λ (xs : List ℕ). prefixed g.vs (values_in xs)) (append-nil g.ds)

    -- after the last value's digits
    pub ends_value : s.digits ≡ 16 → (vs : List ℕ) × (values_of seen ≡ some vs) × Kept vs (counted (length values) s.count) (set values s.count (of_bits binary64 s.bits))
    ends_value d =
        let l : length g.ds ≡ 16 = g.many ∙ d in
        let e : values_of seen ≡ some (g.vs ++ (s.bits ∷ [])) =
        values_nonempty seen (some_seen (λ z. omega arith))
        ∙ whole
        ∙ ap (prefixed g.vs) (last_value g.ds g.numbers g.digits l)
        ∙ prefixed_some g.vs (of_digits 0 g.numbers ∷ [])
        ∙ ap (λ (b : ℕ). some (g.vs ++ (b ∷ []))) g.bits in
        (g.vs ++ (s.bits ∷ []), e, kept_more g.vs s.count s.bits values g.kept)

    -- within a value or after a comma
    pub ends_within : (s.digits ≡ 16 → ⊥) → (seen ≡ [] → ⊥) → Finds (values_of seen) (Err MalformedLine) values
    ends_within d n =
        let l : length g.ds ≡ 16 → ⊥ = λ z. d (sym g.many ∙ z) in
        let e : values_of seen ≡ none = values_nonempty seen n ∙ whole ∙ ap (prefixed g.vs) (no_last g.ds g.numbers g.digits l) ∙ prefixed_none g.vs in
        subst (λ (o : Option (List ℕ)). Finds o (Err MalformedLine) values) (sym e) refl

-- with no byte
pub ends_empty : (seen : List ℕ) (values : List Float) → seen ≡ [] → Finds (values_of seen) (Ok 0) values
ends_empty seen values e = subst (λ (o : Option (List ℕ)). Finds o (Ok 0) values) (sym (values_empty seen e)) (refl, refl)

-- of values that have places, or of more
module _ (line : Option (List ℕ)) (count : ℕ) (values : List Float) (k : (vs : List ℕ) × (line ≡ some vs) × Kept vs count values) where
  pub found_values : count ≤ length values → Finds line (Ok count) values
  found_values h =
      let c = k.2.counts in
      let z : count ≡ length k.0 = omega arith in
      subst (λ (o : Option (List ℕ)). Finds o (Ok count) values) (sym k.1) (z, ap (λ (i : ℕ). take i values) z ∙ k.2.stand (omega arith))

  pub found_more : length values < count → Finds line (Err InvalidInput) values
  found_more h = let c = k.2.counts in subst (λ (o : Option (List ℕ)). Finds o (Err InvalidInput) values) (sym k.1) (refl, omega arith)

-- a line that was not as said before its end
pub ends_bad : (seen : List ℕ) (values : List Float) → Bad seen → Finds (values_of seen) (Err MalformedLine) values
ends_bad seen values g =
    let e : values_of seen ≡ none = values_nonempty seen g.later ∙ ap values_in (sym (append-nil seen)) ∙ g.rest [] in
    subst (λ (o : Option (List ℕ)). Finds o (Err MalformedLine) values) (sym e) refl

-- a reading, or why there is none
pub still_reads : (s : Reading) (t : Partial) → ok_or s MalformedLine ≡ Ok t → s ≡ Some t
still_reads None t e = cc
still_reads (Some x) t e = cc

pub ends_none : (s : Reading) (refusal : Refusal) → ok_or s MalformedLine ≡ Err refusal → (seen : List ℕ) (values : List Float) → Reads seen s values
    → Finds (values_of seen) (Err refusal) values
ends_none None refusal e seen values g =
    let w : refusal ≡ MalformedLine = cc in
    subst (λ (r : Refusal). Finds (values_of seen) (Err r) values) (sym w) (ends_bad seen values g)
ends_none (Some x) refusal e seen values g = cc
