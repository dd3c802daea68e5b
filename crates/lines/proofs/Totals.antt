-- Totals carried from line to line, and the output that is left from a line on.
use Rattle.std.proofs.Common.{◌≡◌, ℕ, zero, suc, ◌-◌, ◌<◌, ◌≤◌, Bool, cond, List, [], ◌∷◌, ◌++◌, length, take, sym, refl, ap, ◌∙◌, subst, append_assoc, arith, le-leb}
use mathlib.Core.Option.{Option}
use borrow.Author.Tests.{lt-leb}
use Rattle.formula.specs.Values.{lines_of, values_of}
use Rattle.machine.specs.Program.{Program}
use Rattle.run.specs.Views.{answer_of}
use Rattle.listing.specs.Legs.{Line, line_limit, line_of, printed, records, value_record}
use Rattle.listing.specs.Totals.{Totals, add_up, nothing, plus, total_line, with_total}
use Rattle.listing.proofs.Fields.{Plain, counted_is, line_plain, of_line}
use Rattle.listing.proofs.Sums.{few_steps, lines_in, nothing_plus, one_column, plus_assoc, plus_nothing, record_adds, same_totals, value_plain}
use Rattle.lines.specs.declared.record.Outcome.{Outcome}
use Rattle.lines.specs.declared.record.Recorded.{Recorded}
use Rattle.lines.specs.declared.Stage.{Stage}
use Rattle.lines.specs.declared.sums.Totals as Code
use Rattle.lines.specs.declared.Line as Read
use Rattle.lines.specs.Record.{Entered}
use Rattle.lines.specs.Sums.{Adds, Few, totals_of, wrapped}
use Rattle.lines.specs.Owed.{output_from, stage_at, under}

-- the default
pub default_is : (t : Code.Totals) → (t.values ≡ 0) × ((t.domains ≡ 0) × ((t.asks ≡ 0) × ((t.bads ≡ 0) × (t.steps ≡ 0))))
    → t ≡ record { values = 0; domains = 0; asks = 0; bads = 0; steps = 0 }
default_is t e = rw (e.0, e.1.0, e.1.1.0, e.1.1.1.0, e.1.1.1.1) refl

-- ---- the sums of at most 1,000,000 lines are exact

module _ (n : ℕ) (t u : Totals) (few : Few n t) (one : lines_in u ≡ 1) (short : u.steps ≤ 4294967296) where
  pub few_next : Few (suc n) (plus t u)
  few_next = let h = few.lines in let k = few.steps in record { lines = omega arith; steps = omega arith }

  pub exact : n ≤ line_limit → wrapped (plus t u) ≡ plus t u
  unfolding line_limit
  exact w =
      let h = few.lines in
      let k = few.steps in
      same_totals (wrapped (plus t u)) (plus t u) (omega arith) (omega arith) (omega arith) (omega arith) (omega arith)

-- of a line of values
module _ (P : Program) (short : length P.code ≤ 4294967296) (n : ℕ) (t : Code.Totals) (line : Option (List ℕ)) (few : Few n (totals_of t)) where
  pub few_entered : Few (suc n) (plus (totals_of t) (of_line (value_record P line)))
  few_entered = few_next n (totals_of t) (of_line (value_record P line)) few (one_column P line) (let h = few_steps P line in omega arith)

  pub entered : n ≤ line_limit → (out : List ℕ) (at : ℕ) (out' : List ℕ) (r : Recorded) → Entered n (value_record P line) t out at out' r
      → totals_of r.totals ≡ plus (totals_of t) (of_line (value_record P line))
  entered w out at out' r e =
      e.adds
      ∙ ap (λ (u : Totals). wrapped (plus (totals_of t) u)) (counted_is n (value_record P line) (value_plain P line))
      ∙ exact n (totals_of t) (of_line (value_record P line)) few (one_column P line) (let h = few_steps P line in omega arith) w

-- a line's answer adds what its record's text does
pub line_adds : (t : Code.Totals) (o : Outcome) (u : Totals) (r : Code.Totals) → totals_of r ≡ wrapped (plus (totals_of t) u)
    → ((b : List ℕ) → of_line (line_of (answer_of b o.answer) o.count) ≡ u) → Adds t o r
line_adds t o u r e f b n =
    let l = line_of (answer_of b o.answer) o.count in
    e ∙ ap (λ (x : Totals). wrapped (plus (totals_of t) x)) (sym (counted_is n l (line_plain (answer_of b o.answer) o.count) ∙ f b))

pub entered_as : (n : ℕ) (l l' : Line) (t : Code.Totals) (out : List ℕ) (at : ℕ) (out' : List ℕ) (r : Recorded) → l ≡ l' → Entered n l t out at out' r → Entered n l' t out at out' r
entered_as n l l' t out at out' r e h = subst (λ (x : Line). Entered n x t out at out' r) e h

-- ---- the output from a line on

under_record : (t : Totals) (n : ℕ) (l : Line) → Plain l → (more : List ℕ) → under t (printed n l ++ more) ≡ printed n l ++ under (plus t (of_line l)) more
under_record t n l f more =
    let x = printed n l in
    ap (λ (u : Totals). (x ++ more) ++ total_line (plus t u)) (record_adds n l f more)
    ∙ ap (λ (u : Totals). (x ++ more) ++ total_line u) (sym (plus_assoc t (of_line l) (add_up (lines_of more))))
    ∙ append_assoc x more (total_line (plus (plus t (of_line l)) (add_up (lines_of more))))

module _ (P : Program) (n : ℕ) (t : Totals) where
  -- a line that is listed, and the lines after it
  pub output_next : n ≤ line_limit → (l : List ℕ) (ls : List (List ℕ))
      → output_from P n t (l ∷ ls) ≡ printed n (value_record P (values_of l)) ++ output_from P (suc n) (plus t (of_line (value_record P (values_of l)))) ls
  unfolding output_from
  output_next h l ls =
      let v = value_record P (values_of l) in
      let e : suc line_limit - n ≡ suc (line_limit - n) = omega arith in
      let f : line_limit - n ≡ suc line_limit - suc n = omega arith in
      ap (λ (k : ℕ). under t (records P n (take k (l ∷ ls)))) e
      ∙ under_record t n v (value_plain P (values_of l)) (records P (suc n) (take (line_limit - n) ls))
      ∙ ap (λ (k : ℕ). printed n v ++ under (plus t (of_line v)) (records P (suc n) (take k ls))) f

  -- past the last line that is listed
  pub output_over : line_limit < n → (ls : List (List ℕ)) → output_from P n t ls ≡ total_line t
  unfolding output_from
  output_over h ls =
      let e : suc line_limit - n ≡ 0 = omega arith in
      ap (λ (k : ℕ). under t (records P n (take k ls))) e ∙ ap total_line (plus_nothing t)

  none_taken : (k : ℕ) → take {A = List ℕ} k [] ≡ []
  none_taken zero = refl
  none_taken (suc k) = refl

  -- no line is left
  pub output_none : output_from P n t [] ≡ total_line t
  unfolding output_from
  output_none = ap (λ (ls : List (List ℕ)). under t (records P n ls)) (none_taken (suc line_limit - n)) ∙ ap total_line (plus_nothing t)

-- ---- the stage after some lines

pub listed_stage : (l : Read.Line) → l.number ≤ 1000000 → Stage.Values l ≡ stage_at l
unfolding line_limit
listed_stage l h = ap (λ (b : Bool). cond b (Stage.Values l) (Stage.Finished l.totals)) (sym (le-leb l.number line_limit h))

pub ended_stage : (l : Read.Line) → 1000000 < l.number → Stage.Finished l.totals ≡ stage_at l
unfolding line_limit
ended_stage l h = ap (λ (b : Bool). cond b (Stage.Values l) (Stage.Finished l.totals)) (sym (lt-leb l.number line_limit h))

pub first_listed : 1 ≤ line_limit
unfolding line_limit
first_listed = omega arith

-- from the first line on it is the definition's
pub output_first : (P : Program) (t : Totals) → t ≡ nothing → (ls : List (List ℕ)) → with_total (records P 1 (take line_limit ls)) ≡ output_from P 1 t ls
unfolding output_from
output_first P t e ls =
    let above = records P 1 (take line_limit ls) in
    let z : line_limit ≡ suc line_limit - 1 = omega arith in
    ap (λ (u : Totals). above ++ total_line u) (sym (nothing_plus (add_up (lines_of above))))
    ∙ ap (λ (u : Totals). under u above) (sym e)
    ∙ ap (λ (k : ℕ). under t (records P 1 (take k ls))) z

-- no line has been counted
pub few_none : (t : Totals) → t ≡ nothing → Few 1 t
few_none t e = subst (Few 1) (sym e) (record { lines = omega arith; steps = omega arith })
