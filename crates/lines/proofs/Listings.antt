-- The lines of values of a block: read on, and a record at each newline.
use Rattle.std.proofs.Common.{◌≡◌, ℕ, zero, suc, ◌+◌, ◌-◌, ◌<◌, ◌≤◌, Bool, true, false, ltb, List, [], ◌∷◌, ◌++◌, length, get_or, take, drop, sym, refl, ap, ◌∙◌, subst, append_assoc, arith, ltb-false, ltb-true}
use lib.Ieee.{Float}
use Rattle.formula.specs.Values.{lines_of, values_of}
use Rattle.machine.specs.Program.{Program}
use Rattle.layout.specs.Decode.{program_at}
use Rattle.names.specs.Lines.{free, part}
use Rattle.names.proofs.Splits.{free_append, lines_next}
use Rattle.listing.specs.Legs.{line_limit, printed, value_record}
use Rattle.listing.specs.Totals as Total
use Rattle.listing.specs.Totals.{plus}
use Rattle.listing.proofs.Fields.{of_line}
use Rattle.lines.specs.declared.Listed.{Listed}
use Rattle.lines.specs.declared.record.Recorded.{Recorded}
use Rattle.lines.specs.declared.sums.Totals.{Totals}
use Rattle.lines.specs.declared.Line.{Line}
use Rattle.values.specs.Reading.{Reading, Reads, ReadsOn, Starts}
use Rattle.lines.specs.Record.{Records}
use Rattle.lines.specs.Text.{WroteSome}
use Rattle.lines.specs.Sums.{Few, totals_of}
use Rattle.lines.specs.Owed.{Lists, output_from}
use Rattle.lines.specs.Calls.{GoesOn, ListingBlock}
use Rattle.lines.proofs.Newlines.{drop_later, take_byte, take_part, take_wrote}
use Rattle.lines.proofs.Totals.{entered, few_entered, output_next}

pub lists_start : (P : Program) (n : ℕ) (s : Reading) (t : Totals) (values : List Float) (fed text : List ℕ) → fed ≡ [] → text ≡ [] → Lists P n s t values fed text n s t values
lists_start P n s t values fed text e q seen f r w =
    record {
      now_seen = seen;
      no_newline = f;
      read = r;
      few = w;
      same = λ rest.
          ap (λ (xs : List ℕ). output_from P n (totals_of t) (lines_of (seen ++ (xs ++ rest)))) e
          ∙ ap (λ (xs : List ℕ). xs ++ output_from P n (totals_of t) (lines_of (seen ++ rest))) (sym q);
    }

module _ (P : Program) (n₀ : ℕ) (s₀ : Reading) (t₀ : Totals) (values₀ : List Float) (fed text : List ℕ) (n : ℕ) (s : Reading) (t : Totals) (values : List Float)
    (g : Lists P n₀ s₀ t₀ values₀ fed text n s t values) where
  -- a part of a line
  pub lists_read : (xs : List ℕ) (s' : Reading) (values' : List Float) → free 10 xs ≡ true → ReadsOn s values xs s' values'
      → Lists P n₀ s₀ t₀ values₀ (fed ++ xs) text n s' t values'
  lists_read xs s' values' f r seen h q w =
      let a = g seen h q w in
      let m = a.now_seen in
      record {
        now_seen = m ++ xs;
        no_newline = free_append 10 m xs a.no_newline f;
        read = r m a.read;
        few = a.few;
        same = λ rest.
            ap (λ (ys : List ℕ). output_from P n₀ (totals_of t₀) (lines_of (seen ++ ys))) (append_assoc fed xs rest)
            ∙ a.same (xs ++ rest)
            ∙ ap (λ (ys : List ℕ). text ++ output_from P n (totals_of t) (lines_of ys)) (sym (append_assoc m xs rest));
      }

  -- a newline, with the line's record
  pub lists_line : length P.code ≤ 4294967296 → n ≤ line_limit → (text' : List ℕ) (s' : Reading) (t' : Totals) (values' : List Float)
      → ((seen : List ℕ) → Reads seen s values → Few n (totals_of t)
      → (text' ≡ text ++ printed n (value_record P (values_of seen))) × (totals_of t' ≡ plus (totals_of t) (of_line (value_record P (values_of seen)))))
      → Starts s' → Lists P n₀ s₀ t₀ values₀ (fed ++ (10 ∷ [])) text' (suc n) s' t' values'
  lists_line short within text' s' t' values' w f seen h q k =
      let a = g seen h q k in
      let m = a.now_seen in
      let v = value_record P (values_of m) in
      let e = w m a.read a.few in
      record {
        now_seen = [];
        no_newline = refl;
        read = f values';
        few = subst (Few (suc n)) (sym e.1) (few_entered P short n t (values_of m) a.few);
        same = λ rest.
            ap (λ (ys : List ℕ). output_from P n₀ (totals_of t₀) (lines_of (seen ++ ys))) (append_assoc fed (10 ∷ []) rest)
            ∙ a.same (10 ∷ rest)
            ∙ ap (λ (ls : List (List ℕ)). text ++ output_from P n (totals_of t) ls) (lines_next m rest a.no_newline)
            ∙ ap (λ (ys : List ℕ). text ++ ys) (output_next P n (totals_of t) within m (lines_of rest))
            ∙ sym (append_assoc text (printed n v) (output_from P (suc n) (plus (totals_of t) (of_line v)) (lines_of rest)))
            ∙ ap (λ (ys : List ℕ). ys ++ output_from P (suc n) (plus (totals_of t) (of_line v)) (lines_of rest)) (sym e.0)
            ∙ ap (λ (u : Total.Totals). text' ++ output_from P (suc n) u (lines_of rest)) (sym e.1);
      }

-- ---- the loop over a block

pub lt_of : (e n : ℕ) → e ≤ n → (e ≡ n → ⊥) → e < n
lt_of e n h k = lt_by (ltb e n) refl
  where
    lt_by : (t : Bool) → ltb e n ≡ t → e < n
    lt_by true q = ltb-true e n q
    lt_by false q = let l = ltb-false e n q in absurd (k (omega arith))

-- what a call gives back
module _ (P : Program) (input : List ℕ) (ln₀ : Line) (values₀ values : List Float) (out₀ out : List ℕ) (ln : Line) (used len : ℕ) where
  so_far_is : used ≤ length input → len ≤ length out → length out ≡ length out₀ → Lists P ln₀.number ln₀.reading ln₀.totals values₀ (take used input) (take len out) ln.number ln.reading ln.totals values
      → drop len out ≡ drop len out₀ → (ln₀.number ≤ line_limit → GoesOn input out₀ used)
      → (r : Listed) → r ≡ record { line = ln; used = used; length = len } → ListingBlock P ln₀ values₀ input out₀ r values out
  so_far_is h k l g d z r e =
      subst (λ (x : Listed). ListingBlock P ln₀ values₀ input out₀ x values out) (sym e)
      (record { lists = g; goes_on = z; inside = h; room = omega arith; beyond = d })

pub record ListingOn (p input : List ℕ) (ln₀ : Line) (values₀ regs₀ : List Float) (out₀ : List ℕ) (values regs : List Float) (out : List ℕ) (at length' : ℕ) (ln : Line) : Type 0 where
  pub inside : at ≤ length input
  pub short : length' ≤ length out
  pub first : at ≡ 0 → (ln.number ≡ ln₀.number) × (length' ≡ 0)
  pub same_values : length values ≡ length values₀
  pub same_regs : length regs ≡ length regs₀
  pub same_out : length out ≡ length out₀
  pub beyond : drop length' out ≡ drop length' out₀
  pub lists : Lists (program_at p) ln₀.number ln₀.reading ln₀.totals values₀ (take at input) (take length' out) ln.number ln.reading ln.totals values

pub on_start : (p input : List ℕ) (ln : Line) (values regs : List Float) (out : List ℕ) → ListingOn p input ln values regs out values regs out 0 0 ln
on_start p input ln values regs out =
    record {
      inside = omega arith;
      short = omega arith;
      first = λ e. (refl, refl);
      same_values = refl;
      same_regs = refl;
      same_out = refl;
      beyond = refl;
      lists = lists_start (program_at p) ln.number ln.reading ln.totals values (take 0 input) (take 0 out) refl refl;
    }

-- a call that has done nothing yet can't stop
some_used : (at end len n n₀ : ℕ) → at ≤ end → (at ≡ 0 → (n ≡ n₀) × (len ≡ 0)) → (n ≡ n₀ → len ≡ 0 → ⊥) → 1 ≤ end
some_used zero end len n n₀ h f x = absurd (x (f refl).0 (f refl).1)
some_used (suc at) end len n n₀ h f x = omega arith

module _ (p input : List ℕ) (ln₀ : Line) (values₀ regs₀ : List Float) (out₀ : List ℕ) (values regs : List Float) (out : List ℕ) (at len : ℕ) (ln : Line)
    (g : ListingOn p input ln₀ values₀ regs₀ out₀ values regs out at len ln) where
  module _ (r : Listed) (e : r ≡ record { line = ln; used = at; length = len }) where
    -- the input is used up
    pub on_done : length input ≤ at → ListingBlock (program_at p) ln₀ values₀ input out₀ r values out
    on_done h =
        so_far_is (program_at p) input ln₀ values₀ values out₀ out ln at len g.inside g.short g.same_out g.lists g.beyond
        (λ w x y. omega arith) r e

    -- the last line was listed
    pub on_over : 1000000 < ln.number → ListingBlock (program_at p) ln₀ values₀ input out₀ r values out
    unfolding line_limit
    on_over h =
        so_far_is (program_at p) input ln₀ values₀ values out₀ out ln at len g.inside g.short g.same_out g.lists g.beyond
        (λ w x y. some_used at at len ln.number ln₀.number (omega arith) g.first (λ u v. omega arith)) r e

  abbrev pub after : Reading → Line
  after r = record ln { reading = r }

  module _ (end : ℕ) (s' : Reading) (values' : List Float) (from : at ≤ end) (f : free 10 (part input at end) ≡ true) (r : ReadsOn ln.reading values (part input at end) s' values') where
    -- what was read when a call stops
    on_read : Lists (program_at p) ln₀.number ln₀.reading ln₀.totals values₀ (take end input) (take len out) ln.number s' ln.totals values'
    on_read =
        subst (λ (xs : List ℕ). Lists (program_at p) ln₀.number ln₀.reading ln₀.totals values₀ xs (take len out) ln.number s' ln.totals values') (sym (take_part input at end from))
        (lists_read (program_at p) ln₀.number ln₀.reading ln₀.totals values₀ (take at input) (take len out) ln.number ln.reading ln.totals values g.lists (part input at end) s' values' f r)

    module _ (inside : end ≤ length input) (l : Listed) (e : l ≡ record { line = after s'; used = end; length = len }) where
      on_stop : (ln₀.number ≤ line_limit → GoesOn input out₀ end) → ListingBlock (program_at p) ln₀ values₀ input out₀ l values' out
      on_stop z = so_far_is (program_at p) input ln₀ values₀ values' out₀ out (after s') end len inside g.short g.same_out on_read g.beyond z l e

      -- the input ends in the line
      pub on_end : end ≡ length input → ListingBlock (program_at p) ln₀ values₀ input out₀ l values' out
      on_end h = on_stop (λ w x y. omega arith)

      -- a record might not fit
      pub on_full : length out - len < 8242 → ListingBlock (program_at p) ln₀ values₀ input out₀ l values' out
      on_full h = on_stop (λ w x y. some_used at end len ln.number ln₀.number from g.first (λ u v. let z = g.same_out in omega arith))

    -- the next line
    pub on_line : length (program_at p).code ≤ 4294967296 → ln.number ≤ 1000000 → end < length input → get_or input end 0 ≡ 10 → length values' ≡ length values → (values'' regs' : List Float) (out' : List ℕ) (put : Recorded) (n' : ℕ) (u : Reading) → n' ≡ ln.number + 1
        → length values'' ≡ length values' → length regs' ≡ length regs → Records p s' values' ln.number ln.totals out len out' put → WroteSome out len out' put.end → length out' ≡ length out → put.end ≤ length out → Starts u
        → ListingOn p input ln₀ values₀ regs₀ out₀ values'' regs' out' (end + 1) put.end (record { number = n'; reading = u; totals = put.totals })
    unfolding line_limit
    on_line short within h e l values'' regs' out' put n' u q lv lr w v lo k b =
        let z : suc ln.number ≡ n' = omega arith in
        let P = program_at p in
        record {
          inside = omega arith;
          short = omega (arith, lo);
          first = λ o. absurd (omega arith);
          same_values = lv ∙ l ∙ g.same_values;
          same_regs = lr ∙ g.same_regs;
          same_out = lo ∙ g.same_out;
          beyond = v.beyond ∙ drop_later out out₀ len put.end v.from g.beyond;
          lists = subst (λ (m : ℕ). Lists P ln₀.number ln₀.reading ln₀.totals values₀ (take (end + 1) input) (take put.end out') m u put.totals values'') z
              (subst (λ (xs : List ℕ). Lists P ln₀.number ln₀.reading ln₀.totals values₀ xs (take put.end out') (suc ln.number) u put.totals values'') (sym (take_byte input end 10 h e))
              (lists_line P ln₀.number ln₀.reading ln₀.totals values₀ (take end input) (take len out) ln.number s' ln.totals values' on_read short within (take put.end out') u put.totals values''
              (λ seen r' few. (
                take_wrote out len (printed ln.number (value_record P (values_of seen))) out' put.end (w seen r').wrote k,
                entered P short ln.number ln.totals (values_of seen) few within out len out' put (w seen r'),
              )) b));
        }
