-- What texts add up to: whole lines before others, a record before others, a refusal, and the records of a listing, of which each is in exactly one column.
use mathlib.Core.Path.{◌≡◌, refl, sym, ap, ◌∙◌}
use mathlib.Core.Bool.{cond, true}
use mathlib.Core.List.{List, [], ◌∷◌, ◌++◌, append-nil, map}
use mathlib.Core.Logic.{inl, inr}
use mathlib.Core.Option.{Option, none, some}
use Prim.Native.Nat.{ℕ, suc, ◌+◌, ◌≤◌, min}
use native.Mathlib.Omega.{arith}
use lib.ListN.{length, take, length-take}
use lib.Seq.{take-take}
use lib.Dec.{ltb}
use lib.Ieee.{Float, binary64, of_bits}
use Rattle.refusals.specs.Numbers.{malformed_line, slice_too_short}
use Rattle.formula.specs.Text.{decimal, split}
use Rattle.formula.specs.Values.{lines_of, values_of}
use Rattle.formula.specs.Path.{Path, path_room}
use Rattle.formula.specs.Term.{term}
use Rattle.machine.specs.Program.{Program}
use Rattle.machine.specs.Machine.{Answer, Call, Reply, asks, gives, outside, refused, run, spent}
use Rattle.machine.specs.Compile.{Compiled, accepted, own_context}
use Rattle.machine.specs.Compile as Compile
use Rattle.machine.specs.Lower.{program}
use Rattle.machine.proofs.Progress.{run_lawful}
use Rattle.listing.specs.Legs.{Line, colon, compiled, formula_room, header, legs, line_limit, line_of, listed, node_line, place_text, printed, records, refusal_line, refused_as, value_record, with_file, with_input, zero_registers}
use Rattle.names.proofs.Splits.{lines_parted}
use Rattle.listing.specs.Totals.{Totals, add_up, counted, nothing, one_line, plus, total_line, with_total}
use Rattle.listing.proofs.Answers.{Known, value_known}
use Rattle.listing.proofs.Fields.{Plain, counted_is, line_plain, of_line, plain, plain_append, plain_decimal, plain_place, record_line}

-- ---- sums

abbrev made : ℕ → ℕ → ℕ → ℕ → ℕ → Totals
made v d q w s = record { values = v; domains = d; asks = q; bads = w; steps = s }

-- totals are equal by their five numbers
pub same_totals : (a b : Totals) → a.values ≡ b.values → a.domains ≡ b.domains → a.asks ≡ b.asks → a.bads ≡ b.bads → a.steps ≡ b.steps → a ≡ b
same_totals a b v d q w s =
    ap (λ (x : ℕ). made x a.domains a.asks a.bads a.steps) v
    ∙ ap (λ (x : ℕ). made b.values x a.asks a.bads a.steps) d
    ∙ ap (λ (x : ℕ). made b.values b.domains x a.bads a.steps) q
    ∙ ap (λ (x : ℕ). made b.values b.domains b.asks x a.steps) w
    ∙ ap (λ (x : ℕ). made b.values b.domains b.asks b.bads x) s

pub plus_assoc : (a b c : Totals) → plus (plus a b) c ≡ plus a (plus b c)
plus_assoc a b c = same_totals (plus (plus a b) c) (plus a (plus b c)) (omega arith) (omega arith) (omega arith) (omega arith) (omega arith)

pub nothing_plus : (a : Totals) → plus nothing a ≡ a
nothing_plus a = same_totals (plus nothing a) a (omega arith) (omega arith) (omega arith) (omega arith) (omega arith)

pub plus_nothing : (a : Totals) → plus a nothing ≡ a
plus_nothing a = same_totals (plus a nothing) a (omega arith) (omega arith) (omega arith) (omega arith) (omega arith)

add_append : (ls ms : List (List ℕ)) → add_up (ls ++ ms) ≡ plus (add_up ls) (add_up ms)
add_append [] ms = sym (nothing_plus (add_up ms))
add_append (l ∷ ls) ms = ap (plus (counted l)) (add_append ls ms) ∙ sym (plus_assoc (counted l) (add_up ls) (add_up ms))

-- adding up is additive over whole lines
pub whole_lines : (a b : List ℕ) → add_up (lines_of (a ++ (10 ∷ b))) ≡ plus (add_up (lines_of (a ++ (10 ∷ [])))) (add_up (lines_of b))
whole_lines a b =
    ap add_up (lines_parted a b)
    ∙ add_append (split 10 a) (lines_of b)
    ∙ ap (λ (ls : List (List ℕ)). plus (add_up ls) (add_up (lines_of b))) (sym (lines_parted a [] ∙ append-nil (split 10 a)))

-- ---- a record before others

-- a line of values is run with a budget of all of the code
abbrev all_code : Program → Call
all_code P = record { room = path_room; budget = length P.code; given = none }

abbrev run_of : Program → List Float → Reply
run_of P inputs = run binary64 inputs P (all_code P) (zero_registers P)

pub value_plain : (P : Program) (line : Option (List ℕ)) → Plain (value_record P line)
value_plain P none = line_plain (refused malformed_line) 0
value_plain P (some bits) =
    let r = run_of P (map (λ b. of_bits binary64 b) bits) in
    line_plain r.answer r.count

pub record_adds : (n : ℕ) (l : Line) → Plain l → (rest : List ℕ) → add_up (lines_of (printed n l ++ rest)) ≡ plus (of_line l) (add_up (lines_of rest))
record_adds n l f rest = ap add_up (record_line n l f rest) ∙ ap (λ (t : Totals). plus t (add_up (lines_of rest))) (counted_is n l f)

-- ---- a refusal

-- "A refused formula prints its total line with zeros": whatever place or node its line has
module _ (n : ℕ) (place : List ℕ) (p : plain place ≡ true) where
  refusal_nothing : add_up (lines_of (printed 0 (refused_as n place))) ≡ nothing
  refusal_nothing =
      let l = refused_as n place in
      let f : Plain l = record { answer = refl; detail = plain_append (decimal n ++ colon) place (plain_append (decimal n) colon (plain_decimal n) refl) p } in
      ap (λ (xs : List ℕ). add_up (lines_of xs)) (sym (append-nil (printed 0 l))) ∙ record_adds 0 l f []

  refusal_total : with_total (printed 0 (refused_as n place)) ≡ printed 0 (refused_as n place) ++ total_line nothing
  refusal_total = ap (λ (t : Totals). printed 0 (refused_as n place) ++ total_line t) refusal_nothing

pub refused_total : (n : ℕ) (place : Option Path) → with_total (refusal_line n place) ≡ refusal_line n place ++ total_line nothing
refused_total n place = refusal_total n (place_text place) (plain_place place)

pub node_total : (n k : ℕ) → with_total (node_line n k) ≡ node_line n k ++ total_line nothing
node_total n k = refusal_total n (decimal k) (plain_decimal k)

-- ---- each record is in exactly one column

abbrev pub lines_in : Totals → ℕ
lines_in t = t.values + t.domains + t.asks + t.bads

known_column : (a : List ℕ) → Known a → lines_in (one_line a 0) ≡ 1
known_column a (inl e) = ap (λ (xs : List ℕ). lines_in (one_line xs 0)) e
known_column a (inr (inl e)) = ap (λ (xs : List ℕ). lines_in (one_line xs 0)) e
known_column a (inr (inr (inl e))) = ap (λ (xs : List ℕ). lines_in (one_line xs 0)) e
known_column a (inr (inr (inr e))) = ap (λ (xs : List ℕ). lines_in (one_line xs 0)) e

pub one_column : (P : Program) (line : Option (List ℕ)) → lines_in (of_line (value_record P line)) ≡ 1
one_column P line = known_column (value_record P line).answer (value_known P line)

records_add : (P : Program) (n : ℕ) (ls : List (List ℕ)) → lines_in (add_up (lines_of (records P n ls))) ≡ length ls
records_add P n [] = refl
records_add P n (l ∷ ls) =
    let v = value_record P (values_of l) in
    let rest = records P (suc n) ls in
    ap lines_in (record_adds n v (value_plain P (values_of l)) rest) ∙ omega (arith, one_column P (values_of l), records_add P (suc n) ls)

-- V + D + Q + B is the number of the lines of values, or 1,000,000 if there are more
pub columns : (P : Program) (ls : List (List ℕ)) → lines_in (add_up (lines_of (records P 1 (take line_limit ls)))) ≡ min line_limit (length ls)
columns P ls = records_add P 1 (take line_limit ls) ∙ length-take line_limit ls

-- ---- a line's steps are at most the code's instructions

steps_le : (a : Answer) (count : ℕ) → (line_of a count).steps ≤ count
steps_le (gives v) count = omega arith
steps_le (asks q) count = omega arith
steps_le spent count = omega arith
steps_le (outside p) count = omega arith
steps_le (refused n) count = omega arith

pub few_steps : (P : Program) (line : Option (List ℕ)) → (value_record P line).steps ≤ length P.code
few_steps P none = omega arith
few_steps P (some bits) =
    let inputs = map (λ b. of_bits binary64 b) bits in
    let r = run_of P inputs in
    omega (arith, steps_le r.answer r.count, (run_lawful binary64 inputs P (all_code P) (zero_registers P)).within)

-- ---- the lines that count

listed_first : (X : Compiled) (ls : List (List ℕ)) → listed (take line_limit ls) X ≡ listed ls X
listed_first (Compile.refused n place) ls = refl
listed_first (Compile.refused_at n k) ls = refl
listed_first (accepted f symbols) ls = ap (records (program (own_context symbols) (term f)) 1) (take-take line_limit line_limit ls (omega arith))

input_first : (formula : List ℕ) (ls : List (List ℕ)) → with_input formula (take (suc line_limit) ls) ≡ with_input formula ls
input_first formula [] = refl
input_first formula (names ∷ ls) = listed_first (compiled formula names) ls

file_first : (file : Option (List ℕ)) (ls : List (List ℕ)) → with_file file (take (suc line_limit) ls) ≡ with_file file ls
file_first none ls = refl
file_first (some formula) ls =
    ap (λ (xs : List ℕ). cond (ltb formula_room (length formula)) (refusal_line slice_too_short none) xs) (input_first formula ls)

-- the name line and the first 1,000,000 lines of values decide the whole output
pub first_lines : (file : Option (List ℕ)) (a b : List ℕ) → take (suc line_limit) (lines_of a) ≡ take (suc line_limit) (lines_of b) → legs file a ≡ legs file b
unfolding legs
first_lines file a b e =
    ap (λ (xs : List ℕ). header ++ with_total xs) (sym (file_first file (lines_of a)) ∙ ap (with_file file) e ∙ file_first file (lines_of b))
