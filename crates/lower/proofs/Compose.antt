-- Pieces one after another.
use mathlib.Core.Path.{◌≡◌, refl, sym, ap, ap₂, ◌∙◌, subst}
use mathlib.Core.List.{List, [], ◌++◌}
use mathlib.Core.Option.{Option, none, some}
use Prim.Native.Nat.{ℕ, suc, ◌+◌, ◌-◌, ◌*◌, ◌^◌, ◌≤◌, ◌<◌}
use native.Mathlib.Omega.{arith}
use lib.ListN.{length, length-append}
use Rattle.refusals.specs.declared.Refusal.{Refusal}
use Rattle.formula.specs.Text.{little_endian}
use Rattle.formula.specs.Path.{Path, ◌▸◌, step_text}
use Rattle.formula.specs.Term.{Term, Terms, ◌and◌, apply, branch, end, literal, miscounted, symbol, truth}
use Rattle.machine.specs.Check.{Context, Fault, fault}
use Rattle.machine.specs.Lower.{instruction_count, instruction_counts, register_count, register_counts}
use Rattle.layout.specs.Opcode.{step_of}
use Rattle.layout.specs.Image.{below, entry_count, lists, path_count, path_record, slots}
use Rattle.layout.proofs.Lengths.{length_below, length_lists, length_slots}
use Rattle.paths.proofs.Steps.{step_length_le}
use Rattle.writer.specs.Over.{over}
use Rattle.paths.specs.Table.{length_in}
use Rattle.writer.proofs.Over.{over_length, over_nil}
use Rattle.lower.specs.Bytes.{Chunk, laid, written}
use Rattle.lower.specs.Piece.{Kept, Piece, Says, SaysAt, Sound, inner_count, own_piece, place, term_piece}
use Rattle.lower.specs.Ready.{Ready}
use Rattle.lower.specs.declared.Layout.{Layout}
use Rattle.lower.specs.declared.Cursor.{Cursor}
use Rattle.lower.specs.declared.Site.{Site}
use Rattle.lower.specs.declared.Value.{Value}
use Rattle.lower.specs.Low.{Low, Done, Faulty}
use Rattle.lower.proofs.Laid.{Fits, joined, laid_then}
use Rattle.lower.proofs.Frames.{Same, entered_linked, entered_path, entered_record, is_length, same_laid, same_length, same_path}
use Rattle.lower.proofs.Keeps.{kept_laid, kept_record, kept_then}
use Rattle.lower.proofs.Says.{Refused, Taken, says_done, says_fault}

-- ---- counts

mutual
  pub fewer_registers : (t : Term) → register_count t ≤ instruction_count t
  fewer_registers (literal b) = omega arith
  fewer_registers (truth b) = omega arith
  fewer_registers (symbol i) = omega arith
  fewer_registers (apply o ts) = omega (arith, fewer_registers_all ts)
  fewer_registers (branch c y e) = omega (arith, fewer_registers c, fewer_registers y, fewer_registers e)
  fewer_registers miscounted = omega arith

  pub fewer_registers_all : (ts : Terms) → register_counts ts ≤ instruction_counts ts
  fewer_registers_all end = omega arith
  fewer_registers_all (t and ts) = omega (arith, fewer_registers t, fewer_registers_all ts)

pub inner_is : (t : Term) → path_count t ≡ suc (inner_count t)
inner_is (literal b) = refl
inner_is (truth b) = refl
inner_is (symbol i) = refl
inner_is (apply o ts) = refl
inner_is (branch c y e) = refl
inner_is miscounted = refl

pub path_one : (t : Term) → 1 ≤ path_count t
path_one t = omega (arith, inner_is t)

-- ---- room

-- a chunk of so many instructions, records and entries at what is next free
pub fits_room : {L : Layout} {p : List ℕ} {s : Site} {c : Cursor} {I Q E : ℕ} → Ready L p s c I Q E → (w : Chunk) (i q e : ℕ) → length w.code ≡ 24 * i → length w.records ≡ 12 * q
    → length w.lists ≡ 4 * e → i ≤ I → q ≤ Q → e ≤ E → Fits (length p) (32 + 24 * c.code) (L.paths + 12 * c.path) (L.lists + 4 * c.entry) w
fits_room R w i q e a b d ui uq ue = record { code = omega (arith, R.code); records = omega (arith, R.records); lists = omega (arith, R.lists) }

-- what is next free moves on
pub ready_from : {L : Layout} {p : List ℕ} {s : Site} {c : Cursor} {I Q E : ℕ} → Ready L p s c I Q E → (p₁ : List ℕ) (c₁ : Cursor) (I' Q' E' : ℕ)
    → Same L.paths p p₁ c.path → length p₁ ≡ length p → c.path ≤ c₁.path → c₁.code + I' ≤ c.code + I → c₁.path + Q' ≤ c.path + Q → c₁.entry + E' ≤ c.entry + E
    → c₁.reg ≤ c₁.code → Sound L p₁ c₁.path → Ready L p₁ s c₁ I' Q' E'
ready_from {L} {p} {s} {c} R p₁ c₁ I' Q' E' same len up a b d r ok =
    record {
      code = omega (arith, R.code);
      records = omega (arith, R.records);
      lists = omega (arith, R.lists);
      few = omega (arith, R.few);
      brief = omega (arith, R.brief);
      registers = r;
      site = omega (arith, R.site);
      long = R.long ∙ sym (same_length L.paths p p₁ c.path same s.path R.site);
      short = R.short;
      sound = ok;
    }

pub same_written : {L : Layout} {p : List ℕ} {s : Site} {c : Cursor} {I Q E : ℕ} → Ready L p s c I Q E → (w : Chunk) (i q e : ℕ) → length w.code ≡ 24 * i → length w.records ≡ 12 * q
    → length w.lists ≡ 4 * e → i ≤ I → q ≤ Q → e ≤ E → Same L.paths p (written L c p w) c.path
same_written {L} {p} {s} {c} R w i q e a b d ui uq ue =
    same_laid L.paths p (32 + 24 * c.code) (L.paths + 12 * c.path) (L.lists + 4 * c.entry) w c.path (fits_room R w i q e a b d ui uq ue) (omega (arith, R.code)) (omega arith)

pub kept_written : {L : Layout} {p : List ℕ} {s : Site} {c : Cursor} {I Q E : ℕ} → Ready L p s c I Q E → (w : Chunk) (i q e : ℕ) → length w.code ≡ 24 * i → length w.records ≡ 12 * q
    → length w.lists ≡ 4 * e → i ≤ I → q ≤ Q → e ≤ E → Kept L c p (written L c p w)
kept_written {L} {p} {s} {c} R w i q e a b d ui uq ue =
    kept_laid L c p w (fits_room R w i q e a b d ui uq ue) (omega (arith, R.code)) (omega (arith, R.records))

pub place_same : {L : Layout} {p : List ℕ} {s : Site} {c : Cursor} {I Q E : ℕ} → Ready L p s c I Q E → (p₁ : List ℕ) → Same L.paths p p₁ c.path → place L p₁ s ≡ place L p s
place_same {L} {p} {s} {c} R p₁ same = same_path L.paths p p₁ c.path same R.sound s.path R.site

-- ---- two pieces

then_at : (o : Option Fault) (L : Layout) (c e : Cursor) (p p₁ p₂ : List ℕ) (v : Value) (r : Low) (A B W : Piece) → B.fault ≡ o → Taken A L c p p₁ v e → Kept L c p p₁ → SaysAt o B L e p₁ p₂ r
    → W.fault ≡ B.fault → W.value ≡ B.value → W.next ≡ B.next → W.chunk ≡ joined A.chunk B.chunk
    → 32 + 24 * e.code ≡ 32 + 24 * c.code + length A.chunk.code → L.paths + 12 * e.path ≡ L.paths + 12 * c.path + length A.chunk.records
    → L.lists + 4 * e.entry ≡ L.lists + 4 * c.entry + length A.chunk.lists
    → Fits (length p) (32 + 24 * c.code) (L.paths + 12 * c.path) (L.lists + 4 * c.entry) (joined A.chunk B.chunk) → Says W L c p p₂ r
then_at none L c e p p₁ p₂ v r A B W eb T K (a, b, s) ef ev en ec x y z f =
    says_done W L c p p₂ r (ef ∙ eb) (a ∙ ap₂ (λ (u : Value) (w : Cursor). Done u w) (sym ev) (sym en))
    (b
    ∙ ap (λ (q : List ℕ). written L e q B.chunk) T.bytes
    ∙ laid_then p (32 + 24 * c.code) (L.paths + 12 * c.path) (L.lists + 4 * c.entry) (32 + 24 * e.code) (L.paths + 12 * e.path) (L.lists + 4 * e.entry) A.chunk B.chunk x y z f
    ∙ ap (λ (w : Chunk). written L c p w) (sym ec))
    (subst (λ (w : Cursor). Sound L p₂ w.path) (sym en) s)
then_at (some k) L c e p p₁ p₂ v r A B W eb T K (j, a, b, s, h) ef ev en ec x y z f =
    says_fault W L c p p₂ r k j (ef ∙ eb) a b s (kept_then K h (omega arith) (omega arith) (omega arith))

pub says_then : (L : Layout) (c e : Cursor) (p p₁ p₂ : List ℕ) (v : Value) (r : Low) (A B W : Piece) → Taken A L c p p₁ v e → Kept L c p p₁ → Says B L e p₁ p₂ r
    → W.fault ≡ B.fault → W.value ≡ B.value → W.next ≡ B.next → W.chunk ≡ joined A.chunk B.chunk
    → 32 + 24 * e.code ≡ 32 + 24 * c.code + length A.chunk.code → L.paths + 12 * e.path ≡ L.paths + 12 * c.path + length A.chunk.records
    → L.lists + 4 * e.entry ≡ L.lists + 4 * c.entry + length A.chunk.lists
    → Fits (length p) (32 + 24 * c.code) (L.paths + 12 * c.path) (L.lists + 4 * c.entry) (joined A.chunk B.chunk) → Says W L c p p₂ r
unfolding Says
says_then L c e p p₁ p₂ v r A B W T K S ef ev en ec x y z f = then_at B.fault L c e p p₁ p₂ v r A B W refl T K S ef ev en ec x y z f

pub refused_up : {L : Layout} {e : Cursor} {p₀ p₁ : List ℕ} {n : Refusal} {k : ℕ} {A : Piece} (c : Cursor) (p : List ℕ) (r : Low) (W : Piece) → Refused A L e p₀ p₁ n k → Kept L c p p₁ → r ≡ Faulty n k
    → ((x : Fault) → A.fault ≡ some x → W.fault ≡ some x) → Says W L c p p₁ r
refused_up {L} {e} {p₀} {p₁} {n} {k} c p r W F K is up =
    says_fault W L c p p₁ r F.x k (up F.x F.is_fault) (is ∙ ap (λ (m : Refusal). Faulty m k) F.number) F.place F.linked K

-- ---- a node's own record

module _ {L : Layout} {p : List ℕ} {s : Site} {c : Cursor} {I Q E : ℕ} (R : Ready L p s c I Q E) (one : 1 ≤ Q) (step : ℕ) (hs : step < 65539) where
  abbrev long : ℕ
  long = s.length + length (step_text (step_of step))

  abbrev three : List ℕ
  three = little_endian 4 s.path ++ little_endian 4 step ++ little_endian 4 long

  abbrev p₁ : List ℕ
  p₁ = over p (L.paths + 12 * c.path) three

  abbrev s₁ : Site
  s₁ = record { path = c.path; length = long }

  abbrev c₁ : Cursor
  c₁ = record { node = c.node; reg = c.reg; code = c.code; path = c.path + 1; entry = c.entry }

  pub enter_room : (L.paths + 12 * c.path + 12 ≤ length p) × (s.length ≤ 2 ^ 32) × (step < 2 ^ 32)
  enter_room = (omega (arith, R.records, R.lists), omega (arith, R.short, R.site, R.few), omega arith)

  h₁ : L.paths + 12 * c.path + 12 ≤ length p
  h₁ = omega (arith, R.records, R.lists)

  few : c.path < 4294967296
  few = omega (arith, R.few)

  short : long < 4294967296
  short = omega (arith, step_length_le step hs, R.short, R.site, R.few)

  is_long : long ≡ length_in p L.paths s.path + length (step_text (step_of step))
  is_long = ap (λ (z : ℕ). z + length (step_text (step_of step))) R.long

  pub entered_place : place L p₁ s₁ ≡ place L p s ▸ step_of step
  entered_place = entered_path L.paths p c.path s.path step long h₁ R.site few (omega arith) short R.sound is_long

  pub entered_sound : Sound L p₁ (c.path + 1)
  entered_sound k l = entered_linked L.paths p c.path s.path step long h₁ R.site few (omega arith) short R.sound is_long k (omega arith)

  pub entered_length : length p₁ ≡ length p
  entered_length = over_length p (L.paths + 12 * c.path) three h₁

  pub ready_entered : Ready L p₁ s₁ c₁ I (Q - 1) E
  ready_entered =
      record {
        code = R.code;
        records = omega (arith, R.records);
        lists = omega (arith, R.lists, entered_length);
        few = omega (arith, R.few);
        brief = omega (arith, R.brief);
        registers = R.registers;
        site = omega arith;
        long = sym (is_length L.paths p c.path s.path step long h₁ R.site few (omega arith) short R.sound is_long);
        short = omega (arith, R.short, step_length_le step hs, R.site);
        sound = entered_sound;
      }

  -- a part at its own site is that part with its record
  module _ (C : Context) (t : Term) (node : ℕ) (fitting : instruction_count t ≤ I) (fitting' : path_count t ≤ Q) (fitting'' : entry_count t ≤ E) where
    abbrev B : Piece
    B = own_piece C t (place L p₁ s₁) c.path c₁ node

    abbrev W : Piece
    W = term_piece C t (place L p s ▸ step_of step) s.path c node

    abbrev A : Piece
    A = record { fault = none; chunk = record { code = []; records = three; lists = [] }; value = W.value; next = c₁ }

    A_bytes : p₁ ≡ written L c p A.chunk
    unfolding laid
    A_bytes =
        ap (λ (z : List ℕ). over z (L.paths + 12 * c.path) three) (sym (over_nil p (32 + 24 * c.code)))
        ∙ sym (over_nil (over (over p (32 + 24 * c.code) []) (L.paths + 12 * c.path) three) (L.lists + 4 * c.entry))

    same_chunk : W.chunk ≡ joined A.chunk B.chunk
    unfolding own_piece term_piece
    same_chunk =
        let e₁ = entered_place in
        let e₂ : path_record s.path (place L p s ▸ step_of step) ≡ three =
        entered_record L.paths p c.path s.path step long h₁ R.site few (omega arith) short R.sound is_long in
        ap₂ (λ (x : List ℕ) (y : Path). record { code = slots t c.path (c.path + 1) c.reg c.code c.entry; records = x ++ below t y c.path (c.path + 1); lists = lists t c.reg })
        e₂ (sym e₁)

    fits_all : Fits (length p) (32 + 24 * c.code) (L.paths + 12 * c.path) (L.lists + 4 * c.entry) (joined A.chunk B.chunk)
    unfolding own_piece
    fits_all =
        fits_room R (joined A.chunk B.chunk) (instruction_count t) (path_count t) (entry_count t) (length_slots t c.path (c.path + 1) c.reg c.code c.entry)
        (omega (arith, length-append three (below t (place L p₁ s₁) c.path (c.path + 1)), length_below t (place L p₁ s₁) c.path (c.path + 1)))
        (length_lists t c.reg) fitting fitting' fitting''

    pub with_record : (p₂ : List ℕ) (r : Low) → Says B L c₁ p₁ p₂ r → Says W L c p p₂ r
    unfolding own_piece term_piece
    with_record p₂ r S =
        let z : c.path + path_count t ≡ c.path + 1 + inner_count t = omega (arith, inner_is t) in
        says_then L c c₁ p p₁ p₂ W.value r A B W
        (record { faultless = refl; value = refl; next = refl; bytes = A_bytes; sound = entered_sound })
        (kept_record L c p (L.paths + 12 * c.path) three h₁ (omega (arith, R.code)) (omega arith) (omega (arith, R.records))) S
        (ap (λ (y : Path). fault C t y) (sym entered_place)) refl
        (ap (λ (y : ℕ). record { node = node; reg = c.reg + register_count t; code = c.code + instruction_count t; path = y; entry = c.entry + entry_count t }) z)
        same_chunk (omega arith) (omega arith) (omega arith) fits_all
