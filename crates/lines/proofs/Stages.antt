-- From one stage of a listing to the next.
use Rattle.std.proofs.Common.{◌≡◌, ℕ, suc, ◌+◌, ◌<◌, ◌≤◌, Bool, true, false, cond, leb, List, [], ◌∷◌, ◌++◌, length, get_or, take, drop, sym, refl, ap, ◌∙◌, subst, append_assoc, append-nil, arith, le-ltb, lt-ltb, leb-false, leb-true}
use mathlib.Core.Option.{Option, none, some}
use lib.Ieee.{Float}
use Rattle.formula.specs.Values.{last_line, lines_of, values_of}
use Rattle.formula.specs.Term.{term}
use Rattle.machine.specs.Compile.{Compiled, accepted, own_context}
use Rattle.machine.specs.Compile as Compile
use Rattle.machine.specs.Lower.{program}
use Rattle.machine.specs.Program.{Program}
use Rattle.layout.specs.Decode.{program_at}
use Rattle.names.specs.Lines.{free}
use Rattle.names.proofs.Splits.{free_append, lines_last, lines_next}
use Rattle.writer.proofs.Over.{over_nil}
use Rattle.listing.specs.Legs.{compiled, header, legs, line_limit, listed, node_line, printed, records, refusal_line, value_record, with_file, with_input}
use Rattle.listing.specs.Totals as Total
use Rattle.listing.specs.Totals.{nothing, plus, total_line, with_total}
use Rattle.listing.proofs.Fields.{of_line}
use Rattle.listing.proofs.Sums.{node_total, refused_total}
use Rattle.lines.specs.declared.Begun.{Begun}
use Rattle.lines.specs.declared.Stage.{Stage}
use Rattle.lines.specs.declared.record.Recorded.{Recorded}
use Rattle.lines.specs.declared.sums.Totals.{Totals}
use Rattle.lines.specs.declared.Line.{Line}
use Rattle.values.specs.Reading.{Reading, TellsEmpty}
use Rattle.lines.specs.Record.{Ready, Records}
use Rattle.lines.specs.Text.{Wrote}
use Rattle.lines.specs.Sums.{totals_of}
use Rattle.lines.specs.Owed.{Advances, Begins, CompiledAs, Compiles, Ends, EndsWith, KeepsOn, Listing, Lists, Memory, Naming, Opens, Owed, memory, output_from, stage_at}
use Rattle.lines.proofs.Keeping.{keeps_none}
use Rattle.lines.proofs.NameLines.{compiled_kept}
use Rattle.lines.proofs.Newlines.{drop_wrote, take_byte, take_wrote}
use Rattle.lines.proofs.Texts.{wrote_then}
use Rattle.lines.proofs.Totals.{entered, few_none, first_listed, output_first, output_next, output_none, output_over}

-- ---- at the end

-- the total line is owed, whatever follows
pub advances_finished : (formula : List ℕ) (m : Memory) (t : Totals) (fed out : List ℕ) → Advances formula m (Stage.Finished t) fed m (Stage.Finished t) (take 0 out)
advances_finished formula m t fed out g o = (g, o, λ rest. o (fed ++ rest) ∙ sym (o rest))

-- and is owed by a stage that has ended without a line
none_owed : (formula : List ℕ) (m : Memory) (s : Stage) → EndsWith nothing s → Owed formula m s (λ rest. total_line nothing)
none_owed formula m s e = subst (λ (x : Stage). Owed formula m x (λ rest. total_line nothing)) (sym e.1) (λ rest. ap total_line (sym e.2))

-- ---- memory

ready_roomy : (p : List ℕ) (n k : ℕ) → Ready p 256 1276 → 256 ≤ n → 1276 ≤ k → Ready p n k
ready_roomy p n k r h l = record { sound = r.sound; registers = let z = r.registers in omega arith; inputs = let z = r.inputs in omega arith }

-- ---- the name line

module _ (formula input : List ℕ) (k : ℕ) (names path program₀ names' : List ℕ) (end count : ℕ) (Free_of : free 10 (take end input) ≡ true)
    (same : length names' ≡ length names) (on : KeepsOn k names (take end input) count names') (values regs : List Float) where
  start : Memory
  start = memory names path program₀ values regs

  -- the line goes on
  pub names_on : (out : List ℕ) → Advances formula (memory names path program₀ values regs) (Stage.Names k) (take end input) (memory names' path program₀ values regs) (Stage.Names count) (take 0 out)
  names_on out g o =
      let fed = take end input in (
        λ rest. g (fed ++ rest),
        record {
          roomy = let z = o.roomy.names in record {
            names = omega arith;
            path = o.roomy.path;
            program = o.roomy.program;
            values = o.roomy.values;
            regs = o.roomy.regs;
          };
          seen = o.seen ++ fed;
          no_newline = free_append 10 o.seen fed o.no_newline Free_of;
          kept = on o.seen o.kept;
          owes = λ rest. o.owes (fed ++ rest) ∙ ap (λ (xs : List ℕ). with_total (with_input formula (lines_of xs))) (sym (append_assoc o.seen fed rest));
        },
        λ rest. refl,
      )

  -- the line ends
  module _ (path' program' out out' : List ℕ) (r : Begun) (h : end < length input) (newline : get_or input end 0 ≡ 10) (short : r.length ≤ length out)
      (built : CompiledAs formula (take count names') path program₀ program' r out out') where
    module _ (g : List ℕ → List ℕ) (o : Naming formula (memory names path program₀ values regs) k g) where
      line : List ℕ
      line = o.seen ++ take end input

      owed_lines : (rest : List ℕ) → g (take (end + 1) input ++ rest) ≡ with_total (listed (lines_of rest) (compiled formula line))
      unfolding line
      owed_lines rest =
          ap (λ (xs : List ℕ). g (xs ++ rest)) (take_byte input end 10 h newline)
          ∙ o.owes ((take end input ++ (10 ∷ [])) ++ rest)
          ∙ ap (λ (xs : List ℕ). with_total (with_input formula (lines_of (o.seen ++ xs)))) (append_assoc (take end input) (10 ∷ []) rest)
          ∙ ap (λ (xs : List ℕ). with_total (with_input formula (lines_of xs))) (sym (append_assoc o.seen (take end input) (10 ∷ rest)))
          ∙ ap (λ (ls : List (List ℕ)). with_total (with_input formula ls)) (lines_next line rest (free_append 10 o.seen (take end input) o.no_newline Free_of))

      kept_line : compiled formula (take count names') ≡ compiled formula line
      unfolding line
      kept_line =
          ap (compiled formula) (on o.seen o.kept).stand
          ∙ compiled_kept formula (o.seen ++ take end input) (length names') (let z = o.roomy.names in omega arith)

      -- a refusal's line was written
      ends_refused : (shown : List ℕ) → with_total shown ≡ shown ++ total_line nothing → EndsWith nothing r.stage → Wrote out 0 shown out' r.length
          → ((rest : List ℕ) → listed (lines_of rest) (compiled formula line) ≡ shown)
          → (g' : List ℕ → List ℕ) × Owed formula (memory names' path' program' values regs) r.stage g' × ((rest : List ℕ) → g (take (end + 1) input ++ rest) ≡ take r.length out' ++ g' rest)
      ends_refused shown total last w e = (
        λ rest. total_line nothing,
        none_owed formula (memory names' path' program' values regs) r.stage last,
        λ rest.
            owed_lines rest ∙ ap with_total (e rest) ∙ total ∙ ap (λ (xs : List ℕ). xs ++ total_line nothing) (sym (take_wrote out 0 shown out' r.length w short)),
      )

      ends_as : (X : Compiled) → compiled formula line ≡ X → Compiles X program' r out out'
          → (g' : List ℕ → List ℕ) × Owed formula (memory names' path' program' values regs) r.stage g' × ((rest : List ℕ) → g (take (end + 1) input ++ rest) ≡ take r.length out' ++ g' rest)
      ends_as (Compile.refused n place) e c = ends_refused (refusal_line n place) (refused_total n place) c.0 c.1 (λ rest. ap (λ (X : Compiled). listed (lines_of rest) X) e)
      ends_as (Compile.refused_at n m) e c = ends_refused (node_line n m) (node_total n m) c.0 c.1 (λ rest. ap (λ (X : Compiled). listed (lines_of rest) X) e)
      ends_as (accepted f ss) e c =
          let t = totals_of c.1 in
          let g' : List ℕ → List ℕ = λ rest. output_from (program_at program') 1 t (lines_of rest) in (
            g',
            subst (λ (s : Stage). Owed formula (memory names' path' program' values regs) s g') (sym c.2)
                (record {
                  ready = ready_roomy program' (length values) (length regs) c.6 o.roomy.values o.roomy.regs;
                  seen = [];
                  no_newline = refl;
                  read = c.3 values;
                  within = first_listed;
                  few = few_none t c.4;
                  owes = λ rest. refl;
                }),
            λ rest.
                owed_lines rest
                ∙ ap (λ (X : Compiled). with_total (listed (lines_of rest) X)) e
                ∙ ap (λ (P : Program). with_total (records P 1 (take line_limit (lines_of rest)))) (sym c.7)
                ∙ output_first (program_at program') t c.4 (lines_of rest)
                ∙ ap (λ (n : ℕ). take n out' ++ g' rest) (sym c.5),
          )

      pub names_end : (g' : List ℕ → List ℕ) × Owed formula (memory names' path' program' values regs) r.stage g' × ((rest : List ℕ) → g (take (end + 1) input ++ rest) ≡ take r.length out' ++ g' rest)
      names_end = ends_as (compiled formula line) refl (subst (λ (X : Compiled). Compiles X program' r out out') kept_line (built o.roomy.path o.roomy.program))

-- the input ends in the name line
module _ (formula : List ℕ) (k : ℕ) (names path program₀ : List ℕ) (values regs : List Float) where
  only_line : (seen : List ℕ) → with_input formula (last_line seen) ≡ listed [] (compiled formula seen)
  only_line [] = refl
  only_line (b ∷ bs) = refl

  module _ (program' out out' : List ℕ) (r : Begun) (short : r.length ≤ length out) (built : CompiledAs formula (take k names) path program₀ program' r out out')
      (t : Totals) (z : totals_of t ≡ nothing) (out'' : List ℕ) (len : ℕ) (w : Wrote out' r.length (total_line (totals_of t)) out'' len) (fits : len ≤ length out') where
    module _ (g : List ℕ → List ℕ) (o : Naming formula (memory names path program₀ values regs) k g) where
      owed_last : g [] ≡ with_total (listed [] (compiled formula o.seen))
      owed_last =
          o.owes []
          ∙ ap (λ (xs : List ℕ). with_total (with_input formula (lines_of xs))) (append-nil o.seen)
          ∙ ap (λ (ls : List (List ℕ)). with_total (with_input formula ls)) (lines_last o.seen o.no_newline)
          ∙ ap with_total (only_line o.seen)

      -- what was written before the total line, and that line
      with_last : (before : List ℕ) → take r.length out' ≡ before → before ++ total_line nothing ≡ take len out''
      with_last before e =
          ap (λ (u : Total.Totals). before ++ total_line u) (sym z)
          ∙ ap (λ (xs : List ℕ). xs ++ total_line (totals_of t)) (sym e)
          ∙ sym (take_wrote out' r.length (total_line (totals_of t)) out'' len w fits)

      kept_last : compiled formula (take k names) ≡ compiled formula o.seen
      kept_last = ap (compiled formula) o.kept.stand ∙ compiled_kept formula o.seen (length names) o.roomy.names

      ended_as : (X : Compiled) → compiled formula o.seen ≡ X → Compiles X program' r out out' → g [] ≡ take len out''
      ended_as (Compile.refused n place) e c =
          owed_last
          ∙ ap (λ (X : Compiled). with_total (listed [] X)) e
          ∙ refused_total n place
          ∙ with_last (refusal_line n place) (take_wrote out 0 (refusal_line n place) out' r.length c.1 short)
      ended_as (Compile.refused_at n m) e c =
          owed_last
          ∙ ap (λ (X : Compiled). with_total (listed [] X)) e
          ∙ node_total n m
          ∙ with_last (node_line n m) (take_wrote out 0 (node_line n m) out' r.length c.1 short)
      ended_as (accepted f ss) e c =
          let P = program (own_context ss) (term f) in
          owed_last
          ∙ ap (λ (X : Compiled). with_total (listed [] X)) e
          ∙ output_first P nothing refl []
          ∙ output_none P 1 nothing
          ∙ with_last [] (ap (λ (n : ℕ). take n out') c.5)

    pub names_finish : Ends formula (memory names path program₀ values regs) (Stage.Names k) (take len out'')
    names_finish g o =
        ended_as g o (compiled formula o.seen) refl (subst (λ (X : Compiled). Compiles X program' r out out') (kept_last g o) (built o.roomy.path o.roomy.program))

-- ---- lines of values

module _ (ln : Line) (program₀ : List ℕ) (values regs : List Float) (formula names path : List ℕ) where
  -- lines of values, up to the last that is listed
  module _ (values' regs' : List Float) (lv : length values' ≡ length values) (lr : length regs' ≡ length regs) (fed text : List ℕ) (n' : ℕ) (s' : Reading) (t' : Totals)
      (l : Lists (program_at program₀) ln.number ln.reading ln.totals values fed text n' s' t' values') where
    staged : (g : List ℕ → List ℕ) → Listing (memory names path program₀ values regs) ln.number ln.reading ln.totals g → (b : Bool) → leb n' line_limit ≡ b
        → (g' : List ℕ → List ℕ) × Owed formula (memory names path program₀ values' regs') (cond b (Stage.Values (record { number = n'; reading = s'; totals = t' })) (Stage.Finished t')) g' × ((rest : List ℕ) → g (fed ++ rest) ≡ text ++ g' rest)
    staged g o true e =
        let a = l o.seen o.no_newline o.read o.few in (
          λ rest. output_from (program_at program₀) n' (totals_of t') (lines_of (a.now_seen ++ rest)),
          record {
            ready = record {
              sound = o.ready.sound;
              registers = let z = o.ready.registers in omega arith;
              inputs = let z = o.ready.inputs in omega arith;
            };
            seen = a.now_seen;
            no_newline = a.no_newline;
            read = a.read;
            within = leb-true n' line_limit e;
            few = a.few;
            owes = λ rest. refl;
          },
          λ rest. o.owes (fed ++ rest) ∙ a.same rest,
        )
    staged g o false e =
        let a = l o.seen o.no_newline o.read o.few in (
          λ rest. total_line (totals_of t'),
          λ rest. refl,
          λ rest.
              o.owes (fed ++ rest)
              ∙ a.same rest
              ∙ ap (λ (xs : List ℕ). text ++ xs) (output_over (program_at program₀) n' (totals_of t') (leb-false n' line_limit e) (lines_of (a.now_seen ++ rest))),
        )

    pub values_on : Advances formula (memory names path program₀ values regs) (Stage.Values ln) fed (memory names path program₀ values' regs') (stage_at (record { number = n'; reading = s'; totals = t' })) text
    values_on g o = staged g o (leb n' line_limit) refl

  owed_end : (g : List ℕ → List ℕ) (o : Listing (memory names path program₀ values regs) ln.number ln.reading ln.totals g) → g [] ≡ output_from (program_at program₀) ln.number (totals_of ln.totals) (last_line o.seen)
  owed_end g o =
      o.owes []
      ∙ ap (λ (xs : List ℕ). output_from (program_at program₀) ln.number (totals_of ln.totals) (lines_of xs)) (append-nil o.seen)
      ∙ ap (output_from (program_at program₀) ln.number (totals_of ln.totals)) (lines_last o.seen o.no_newline)

  -- no byte of a line
  pub values_none : (b : Bool) → TellsEmpty ln.reading b → b ≡ true → (out out' : List ℕ) (len : ℕ) → len ≤ length out → Wrote out 0 (total_line (totals_of ln.totals)) out' len
      → Ends formula (memory names path program₀ values regs) (Stage.Values ln) (take len out')
  values_none b h e out out' len k w g o =
      owed_end g o
      ∙ ap (λ (xs : List ℕ). output_from (program_at program₀) ln.number (totals_of ln.totals) (last_line xs)) ((h o.seen values o.read).0 e)
      ∙ output_none (program_at program₀) ln.number (totals_of ln.totals)
      ∙ sym (take_wrote out 0 (total_line (totals_of ln.totals)) out' len w k)

  one_line : (seen : List ℕ) → (seen ≡ [] → ⊥) → last_line seen ≡ seen ∷ []
  one_line [] h = absurd (h refl)
  one_line (b ∷ bs) h = refl

  -- a last line
  pub values_last : (b : Bool) → TellsEmpty ln.reading b → b ≡ false → length (program_at program₀).code ≤ 4294967296 → (out out' : List ℕ) (put : Recorded) → put.end ≤ length out
      → Records program₀ ln.reading values ln.number ln.totals out 0 out' put → (out'' : List ℕ) (len : ℕ) → len ≤ length out' → Wrote out' put.end (total_line (totals_of put.totals)) out'' len
      → Ends formula (memory names path program₀ values regs) (Stage.Values ln) (take len out'')
  values_last b h e short out out' put k w out'' len fits v g o =
      let P = program_at program₀ in
      let line = values_of o.seen in
      let x = printed ln.number (value_record P line) in
      let r = w o.seen o.read in
      let u = plus (totals_of ln.totals) (of_line (value_record P line)) in
      owed_end g o
      ∙ ap (output_from P ln.number (totals_of ln.totals)) (one_line o.seen ((h o.seen values o.read).1 e))
      ∙ output_next P ln.number (totals_of ln.totals) o.within o.seen []
      ∙ ap (λ (xs : List ℕ). x ++ xs) (output_none P (suc ln.number) u)
      ∙ ap (λ (y : Total.Totals). x ++ total_line y) (sym (entered P short ln.number ln.totals line o.few o.within out 0 out' put r))
      ∙ ap (λ (xs : List ℕ). xs ++ total_line (totals_of put.totals)) (sym (take_wrote out 0 x out' put.end r.wrote k))
      ∙ sym (take_wrote out' put.end (total_line (totals_of put.totals)) out'' len v fits)

-- ---- the start

opens_some : (formula out : List ℕ) (at : ℕ) → length formula ≤ 4096 → Opens (some formula) (record { stage = Stage.Names 0; length = at }) out at out
opens_some formula out at h = (
  [],
  record { ends = omega arith; stands = sym (over_nil out at) },
  λ bytes e m roomy. (
    λ input. with_total (with_input formula (lines_of input)),
    record { roomy = roomy; seen = []; no_newline = refl; kept = keeps_none m.names; owes = λ rest. ap (λ (xs : List ℕ). with_total (with_input xs (lines_of rest))) e },
    λ input. ap (λ (t : Bool). with_total (cond t (refusal_line 1 none) (with_input formula (lines_of input)))) (le-ltb 4096 (length formula) h),
  ),
)

pub opens_names : (file : Option (List ℕ)) (formula out : List ℕ) (at : ℕ) → file ≡ some formula → length formula ≤ 4096
    → Opens file (record { stage = Stage.Names 0; length = at }) out at out
opens_names file formula out at e h =
    subst (λ (o : Option (List ℕ)). Opens o (record { stage = Stage.Names 0; length = at }) out at out) (sym e) (opens_some formula out at h)

opens_refused : (file : Option (List ℕ)) → ((ls : List (List ℕ)) → with_file file ls ≡ refusal_line 1 none) → (r : Begun) (out : List ℕ) (at : ℕ) (out' : List ℕ)
    → EndsWith nothing r.stage × Wrote out at (refusal_line 1 none) out' r.length → Opens file r out at out'
opens_refused file h r out at out' w = (
  refusal_line 1 none,
  w.1,
  λ formula bytes m roomy. (
    λ input. total_line nothing,
    none_owed formula m r.stage w.0,
    λ input. ap with_total (h (lines_of input)) ∙ refused_total 1 none,
  ),
)

pub opens_long : (file : Option (List ℕ)) (formula : List ℕ) → file ≡ some formula → 4096 < length formula → (r : Begun) (out : List ℕ) (at : ℕ) (out' : List ℕ)
    → EndsWith nothing r.stage × Wrote out at (refusal_line 1 none) out' r.length → Opens file r out at out'
opens_long file formula e h =
    opens_refused file
    (λ ls.
    ap (λ (o : Option (List ℕ)). with_file o ls) e
    ∙ ap (λ (t : Bool). cond t (refusal_line 1 none) (with_input formula ls)) (lt-ltb 4096 (length formula) h))

pub opens_none : (file : Option (List ℕ)) → file ≡ none → (r : Begun) (out : List ℕ) (at : ℕ) (out' : List ℕ)
    → EndsWith nothing r.stage × Wrote out at (refusal_line 1 none) out' r.length → Opens file r out at out'
opens_none file e = opens_refused file (λ ls. ap (λ (o : Option (List ℕ)). with_file o ls) e)

pub begins : (file : Option (List ℕ)) (out mid : List ℕ) (at : ℕ) (r : Begun) (out' : List ℕ) → at ≤ length out → r.length ≤ length out → Wrote out 0 header mid at
    → Opens file r mid at out' → Begins file r.stage (take r.length out')
unfolding legs
begins file out mid at r out' h k w o formula bytes m roomy =
    let text = o.0 in
    let t = take_wrote out 0 (header ++ text) out' r.length (wrote_then out 0 header mid at text out' r.length h w o.1) k in
    let b = o.2 formula bytes m roomy in (
      b.0,
      b.1,
      λ input.
          ap (λ (xs : List ℕ). header ++ xs) (b.2 input)
          ∙ sym (append_assoc header text (b.0 input))
          ∙ ap (λ (xs : List ℕ). xs ++ b.0 input) (sym t),
    )

pub begins_beyond : (file : Option (List ℕ)) (out mid : List ℕ) (at : ℕ) (r : Begun) (out' : List ℕ) → at ≤ length out → r.length ≤ length out → Wrote out 0 header mid at
    → Opens file r mid at out' → drop r.length out' ≡ drop r.length out
begins_beyond file out mid at r out' h k w o =
    drop_wrote out 0 (header ++ o.0) out' r.length (wrote_then out 0 header mid at o.0 out' r.length h w o.1) k
