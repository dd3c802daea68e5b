-- What `start`, `advance` and `finish` promise, one law for each way through a stage.
use Rattle.std.proofs.Common.{◌≡◌, ℕ, ◌+◌, ◌-◌, ◌<◌, ◌≤◌, Bool, true, false, List, [], length, get_or, take, sym, refl, ap, ◌∙◌, subst, arith, length-take-le}
use mathlib.Core.Option.{Option}
use lib.Ieee.{Float}
use Rattle.layout.specs.Decode.{program_at}
use Rattle.listing.specs.Legs.{header}
use Rattle.listing.specs.Totals.{nothing, total_line}
use Rattle.names.specs.Lines.{first_piece, free}
use Rattle.writer.specs.Over.{over}
use Rattle.writer.proofs.Over.{over_nil}
use Rattle.lines.specs.declared.Advanced.{Advanced}
use Rattle.lines.specs.declared.Begun.{Begun}
use Rattle.lines.specs.declared.Listed.{Listed}
use Rattle.lines.specs.declared.Stage.{Stage}
use Rattle.lines.specs.declared.record.Recorded.{Recorded}
use Rattle.lines.specs.declared.sums.Totals.{Totals}
use Rattle.lines.specs.declared.Line.{Line}
use Rattle.lines.specs.Record.{Ready, Records}
use Rattle.values.specs.Reading.{TellsEmpty}
use Rattle.lines.specs.Text.{Wrote, WroteSome}
use Rattle.lines.specs.Sums.{totals_of}
use Rattle.lines.specs.Owed.{KeepsOn, Memory, Opens, memory, output_room, stage_at}
use Rattle.lines.specs.Calls.{Advancing, Beginning, CompiledOver, Finishing, ListingBlock, Starting, kept_bytes}
use Rattle.lines.proofs.Keeping.{Holds}
use Rattle.lines.proofs.Newlines.{drop_later, drop_wrote, first_is, take_wrote}
use Rattle.lines.proofs.Stages.{advances_finished, begins, begins_beyond, names_end, names_finish, names_on, values_last, values_none, values_on}

abbrev advanced : Stage → ℕ → ℕ → Advanced
advanced s used len = record { stage = s; used = used; length = len }

-- ---- the start

pub start_idle : (file : Option (List ℕ)) (out : List ℕ) (t : Totals) → totals_of t ≡ nothing → length out < output_room
    → Starting file out (record { stage = Stage.Finished t; length = 0 }) out
start_idle file out t e h =
    record { begins = λ room. absurd (omega arith); idle = λ z. ((t, refl, e), refl, refl); room = omega arith; beyond = refl }

pub starting : (file : Option (List ℕ)) (out mid : List ℕ) (at : ℕ) (r : Begun) (out' : List ℕ) → output_room ≤ length out → at ≤ length out → r.length ≤ length out
    → Wrote out 0 header mid at → Opens file r mid at out' → Starting file out r out'
starting file out mid at r out' room h k w o =
    record {
      begins = λ y. begins file out mid at r out' h k w o;
      idle = λ y. absurd (omega arith);
      room = k;
      beyond = begins_beyond file out mid at r out' h k w o;
    }

-- ---- too little output, and at the end

pub advance_idle : (formula input : List ℕ) (m : Memory) (s : Stage) (out : List ℕ) → length out < output_room → (r : Advanced) → r ≡ record { stage = s; used = 0; length = 0 }
    → Advancing formula input m s out r m out
advance_idle formula input m s out h r e =
    subst (λ (x : Advanced). Advancing formula input m s out x m out) (sym e)
    (record {
      advances = λ g o. (g, o, λ rest. refl);
      goes_on = λ st room. absurd (omega arith);
      inside = omega arith;
      room = omega arith;
      beyond = refl;
      leaves = λ room. absurd (omega arith);
      idle = λ z. (refl, refl, refl);
    })

pub advance_finished : (formula input : List ℕ) (m : Memory) (t : Totals) (out : List ℕ) → output_room ≤ length out
    → Advancing formula input m (Stage.Finished t) out (record { stage = Stage.Finished t; used = length input; length = 0 }) m out
advance_finished formula input m t out h =
    record {
      advances = advances_finished formula m t (take (length input) input) out;
      goes_on = λ st room some. some;
      inside = omega arith;
      room = omega arith;
      beyond = refl;
      leaves = λ room. (refl, refl);
      idle = λ z. absurd (omega arith);
    }

pub finish_idle : (formula : List ℕ) (m : Memory) (s : Stage) (out : List ℕ) → length out < output_room → Finishing formula m s out 0 m out
finish_idle formula m s out h =
    record { ends = λ room. absurd (omega arith); room = omega arith; beyond = refl; leaves = λ room. absurd (omega arith); idle = λ z. (refl, refl, refl) }

pub finish_finished : (formula : List ℕ) (m : Memory) (t : Totals) (out out' : List ℕ) (r : ℕ) → output_room ≤ length out → Wrote out 0 (total_line (totals_of t)) out' r → r ≤ 0 + 111
    → Finishing formula m (Stage.Finished t) out r m out'
finish_finished formula m t out out' r h w k =
    let l : r ≤ length out = omega arith in
    record {
      ends = λ room g o. o [] ∙ sym (take_wrote out 0 (total_line (totals_of t)) out' r w l);
      room = l;
      beyond = drop_wrote out 0 (total_line (totals_of t)) out' r w l;
      leaves = λ room. refl;
      idle = λ z. absurd (omega arith);
    }

-- ---- the name line

module _ (formula input : List ℕ) (k : ℕ) (names path program₀ out : List ℕ) (room : output_room ≤ length out) (values regs : List Float) where
  -- more bytes are kept than there are places: no call leaves such a stage
  pub names_unfit : length names < k → (r : Advanced) → r ≡ record { stage = Stage.Names k; used = 0; length = 0 }
      → Advancing formula input (memory names path program₀ values regs) (Stage.Names k) out r (memory names path program₀ values regs) out
  names_unfit h r e =
      let z : length names - k ≡ 0 = omega arith in
      let m = memory names path program₀ values regs in
      subst (λ (x : Advanced). Advancing formula input m (Stage.Names k) out x m out) (sym e)
      (record {
        advances = λ g o. (g, o, λ rest. refl);
        goes_on = λ st. absurd (let y = st.1.kept.count in omega arith);
        inside = omega arith;
        room = omega arith;
        beyond = refl;
        leaves = λ y. record {
          numbers = record { values = refl; regs = refl };
          names = sym (ap (λ (n : ℕ). over names k (take n (first_piece 10 input))) z ∙ over_nil names k);
          unended = λ l. absurd (omega arith);
          ended = λ l. absurd (omega arith);
          unfit = λ l. (refl, refl, refl);
        };
        idle = λ y. absurd (omega arith);
      })

  module _ (fits : k ≤ length names) (names' : List ℕ) (end count : ℕ) (place : (end ≤ length input) × (free 10 (take end input) ≡ true) × (end < length input → get_or input end 0 ≡ 10))
      (same : length names' ≡ length names) (on : KeepsOn k names (take end input) count names') (holds : Holds names k (take end input) count names') where
    line_is : take end input ≡ first_piece 10 input
    line_is = first_is input end place.0 place.1 place.2

    line_long : length (first_piece 10 input) ≡ end
    line_long = ap length (sym line_is) ∙ length-take-le end input place.0

    names_are : names' ≡ over names k (kept_bytes names k input)
    names_are = holds.0 ∙ ap (λ (xs : List ℕ). over names k (take (length names - k) xs)) line_is

    count_is : count ≡ k + length (kept_bytes names k input)
    count_is = holds.1 ∙ ap (λ (xs : List ℕ). k + length (take (length names - k) xs)) line_is

    -- the line goes on
    pub names_unended : end ≡ length input
        → Advancing formula input (memory names path program₀ values regs) (Stage.Names k) out (record { stage = Stage.Names count; used = end; length = 0 })
        (memory names' path program₀ values regs) out
    names_unended e =
        let l = line_long in
        record {
          advances = names_on formula input k names path program₀ names' end count place.1 same on values regs out;
          goes_on = λ st y some. omega arith;
          inside = place.0;
          room = omega arith;
          beyond = refl;
          leaves = λ y. record {
            numbers = record { values = refl; regs = refl };
            names = names_are;
            unended = λ u v. (
              ap (λ (n : ℕ). advanced (Stage.Names n) end 0) count_is ∙ ap (λ (n : ℕ). advanced (Stage.Names (k + length (kept_bytes names k input))) n 0) e,
              refl,
              refl,
            );
            ended = λ u v. absurd (omega arith);
            unfit = λ u. absurd (omega arith);
          };
          idle = λ y. absurd (omega arith);
        }

    -- the line ends, and is compiled
    pub names_ended : end < length input → (path' program' out' : List ℕ) (r : Begun) → Beginning formula (take count names') path program₀ path' program' r out out'
        → Advancing formula input (memory names path program₀ values regs) (Stage.Names k) out (record { stage = r.stage; used = end + 1; length = r.length })
        (memory names' path' program' values regs) out'
    names_ended h path' program' out' r b =
        let l = line_long in
        let short : r.length ≤ length out = let z = b.room in omega arith in
        let m = memory names path program₀ values regs in
        let m' = memory names' path' program' values regs in
        record {
          advances = names_end formula input k names path program₀ names' end count place.1 same on values regs path' program' out out' r h (place.2 h) short b.built;
          goes_on = λ st y some. omega arith;
          inside = omega arith;
          room = short;
          beyond = b.beyond;
          leaves = λ y. record {
            numbers = record { values = refl; regs = refl };
            names = names_are;
            unended = λ u v. absurd (omega arith);
            ended = λ u v. (
              ap (λ (n : ℕ). n + 1) (sym l),
              subst (λ (n : ℕ). CompiledOver formula (take n names') m m') count_is (record { path = b.path_is; program = b.program_is }),
            );
            unfit = λ u. absurd (omega arith);
          };
          idle = λ y. absurd (omega arith);
        }

module _ (formula : List ℕ) (k : ℕ) (names path program₀ out : List ℕ) (room : output_room ≤ length out) (values regs : List Float) where
  pub names_last_unfit : length names < k → Finishing formula (memory names path program₀ values regs) (Stage.Names k) out 0 (memory names path program₀ values regs) out
  names_last_unfit h =
      record {
        ends = λ y g o. absurd (let z = o.kept.count in omega arith);
        room = omega arith;
        beyond = refl;
        leaves = λ y. record {
          numbers = record { values = refl; regs = refl };
          names = refl;
          ended = λ l. absurd (omega arith);
          unfit = λ l. (refl, refl, refl);
        };
        idle = λ y. absurd (omega arith);
      }

  -- compiled, and the total line
  pub names_last : k ≤ length names → (path' program' out' : List ℕ) (r : Begun) → Beginning formula (take k names) path program₀ path' program' r out out' → length out' ≡ length out
      → (t : Totals) → totals_of t ≡ nothing → (out'' : List ℕ) (len : ℕ) → Wrote out' r.length (total_line (totals_of t)) out'' len → len ≤ r.length + 111
      → Finishing formula (memory names path program₀ values regs) (Stage.Names k) out len (memory names path' program' values regs) out''
  names_last h path' program' out' r b same t e out'' len w j =
      let z = b.room in
      let x = w.ends in
      let i : len ≤ length out' = omega arith in
      record {
        ends = λ y. names_finish formula k names path program₀ values regs program' out out' r (omega arith) b.built t e out'' len w i;
        room = omega arith;
        beyond = drop_wrote out' r.length (total_line (totals_of t)) out'' len w i ∙ drop_later out' out r.length len (omega arith) b.beyond;
        leaves = λ y. record {
          numbers = record { values = refl; regs = refl };
          names = refl;
          ended = λ l. record { path = b.path_is; program = b.program_is };
          unfit = λ l. absurd (omega arith);
        };
        idle = λ y. absurd (omega arith);
      }

-- ---- lines of values

module _ (ln : Line) (program₀ : List ℕ) (values regs : List Float) (out : List ℕ) (room : output_room ≤ length out) (formula names path : List ℕ) where
  pub values_advance : (input : List ℕ) (values' regs' : List Float) (out' : List ℕ) (l : Listed) → Ready program₀ (length values) (length regs) → length values' ≡ length values → length regs' ≡ length regs
      → ListingBlock (program_at program₀) ln values input out l values' out' → (s' : Stage) → s' ≡ stage_at l.line
      → Advancing formula input (memory names path program₀ values regs) (Stage.Values ln) out (record { stage = s'; used = l.used; length = l.length })
      (memory names path program₀ values' regs') out'
  values_advance input values' regs' out' l ready lv lr b s' e =
      subst (λ (x : Stage). Advancing formula input (memory names path program₀ values regs) (Stage.Values ln) out (record { stage = x; used = l.used; length = l.length })
      (memory names path program₀ values' regs') out') (sym e)
      (record {
        advances = values_on ln program₀ values regs formula names path values' regs' lv lr (take l.used input) (take l.length out') l.line.number l.line.reading l.line.totals b.lists;
        goes_on = λ st. b.goes_on st.1.within;
        inside = b.inside;
        room = b.room;
        beyond = b.beyond;
        leaves = λ y. record { texts = record { names = refl; path = refl; program = refl }; unfit = λ u. absurd (u ready) };
        idle = λ y. absurd (omega arith);
      })

  pub values_unfit : (input : List ℕ) → (Ready program₀ (length values) (length regs) → ⊥) → (r : Advanced) → r ≡ record { stage = Stage.Values ln; used = 0; length = 0 }
      → Advancing formula input (memory names path program₀ values regs) (Stage.Values ln) out r (memory names path program₀ values regs) out
  values_unfit input h r e =
      let m = memory names path program₀ values regs in
      subst (λ (x : Advanced). Advancing formula input m (Stage.Values ln) out x m out) (sym e)
      (record {
        advances = λ g o. (g, o, λ rest. refl);
        goes_on = λ st. absurd (h st.1.ready);
        inside = omega arith;
        room = omega arith;
        beyond = refl;
        leaves = λ y. record { texts = record { names = refl; path = refl; program = refl }; unfit = λ u. (refl, refl) };
        idle = λ y. absurd (omega arith);
      })

  -- no byte of a last line
  pub values_last_none : (b : Bool) → TellsEmpty ln.reading b → b ≡ true → Ready program₀ (length values) (length regs) → (out' : List ℕ) (len : ℕ) → Wrote out 0 (total_line (totals_of ln.totals)) out' len → len ≤ 0 + 111
      → Finishing formula (memory names path program₀ values regs) (Stage.Values ln) out len (memory names path program₀ values regs) out'
  values_last_none b h e ready out' len w k =
      let l : len ≤ length out = omega arith in
      record {
        ends = λ y. values_none ln program₀ values regs formula names path b h e out out' len l w;
        room = l;
        beyond = drop_wrote out 0 (total_line (totals_of ln.totals)) out' len w l;
        leaves = λ y. record { texts = record { names = refl; path = refl; program = refl }; unfit = λ u. absurd (u ready) };
        idle = λ y. absurd (omega arith);
      }

  pub values_last_unfit : (Ready program₀ (length values) (length regs) → ⊥)
      → Finishing formula (memory names path program₀ values regs) (Stage.Values ln) out 0 (memory names path program₀ values regs) out
  values_last_unfit h =
      record {
        ends = λ y g o. absurd (h o.ready);
        room = omega arith;
        beyond = refl;
        leaves = λ y. record { texts = record { names = refl; path = refl; program = refl }; unfit = λ u. (refl, refl) };
        idle = λ y. absurd (omega arith);
      }

  -- its record, and the total line
  pub values_last_line : (b : Bool) → TellsEmpty ln.reading b → b ≡ false → Ready program₀ (length values) (length regs) → length (program_at program₀).code ≤ 4294967296 → (values' regs' : List Float) (out' : List ℕ) (put : Recorded) → put.end ≤ 0 + 8242
      → Records program₀ ln.reading values ln.number ln.totals out 0 out' put → WroteSome out 0 out' put.end → length out' ≡ length out
      → (out'' : List ℕ) (len : ℕ) → Wrote out' put.end (total_line (totals_of put.totals)) out'' len → len ≤ put.end + 111
      → Finishing formula (memory names path program₀ values regs) (Stage.Values ln) out len (memory names path program₀ values' regs') out''
  values_last_line b h e ready short values' regs' out' put k w v same out'' len x j =
      let q = x.ends in
      let i : len ≤ length out' = omega arith in
      record {
        ends = λ y. values_last ln program₀ values regs formula names path b h e short out out' put (omega arith) w out'' len i x;
        room = omega arith;
        beyond = drop_wrote out' put.end (total_line (totals_of put.totals)) out'' len x i ∙ drop_later out' out put.end len (omega arith) v.beyond;
        leaves = λ y. record { texts = record { names = refl; path = refl; program = refl }; unfit = λ u. absurd (u ready) };
        idle = λ y. absurd (omega arith);
      }
