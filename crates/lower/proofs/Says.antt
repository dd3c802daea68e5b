-- Answers that say what a piece is.
use mathlib.Core.Path.{◌≡◌, refl, sym, ap, ◌∙◌, subst}
use mathlib.Core.List.{List, []}
use mathlib.Core.Option.{Option, none, some}
use Prim.Native.Nat.{ℕ, ◌+◌, ◌*◌, ◌≤◌}
use native.Mathlib.Omega.{arith}
use lib.ListN.{length}
use Rattle.refusals.specs.declared.Refusal.{Refusal}
use Rattle.refusals.specs.Refusals.{number_of, refusal_of}
use Rattle.refusals.proofs.Back.{number_back}
use Rattle.machine.specs.Check.{Fault}
use Rattle.writer.specs.Over.{over}
use Rattle.paths.specs.Table.{Linked, path_in_table}
use Rattle.writer.proofs.Over.{over_nil}
use Rattle.lower.specs.Bytes.{Chunk, laid, written}
use Rattle.lower.specs.Piece.{Kept, Piece, Says, SaysAt, Sound, place}
use Rattle.lower.specs.Ready.{Ready}
use Rattle.lower.specs.declared.Layout.{Layout}
use Rattle.lower.specs.declared.Cursor.{Cursor}
use Rattle.lower.specs.declared.Site.{Site}
use Rattle.lower.specs.declared.Value.{Value}
use Rattle.lower.specs.Low.{Low, Done, Faulty}
use Rattle.lower.proofs.Frames.{Same, same_below, same_linked}
use Rattle.lower.proofs.Keeps.{kept_here}

pub says_done : (P : Piece) (L : Layout) (c : Cursor) (p p' : List ℕ) (r : Low) → P.fault ≡ none → r ≡ Done P.value P.next → p' ≡ written L c p P.chunk
    → Sound L p' P.next.path → Says P L c p p' r
unfolding Says
says_done P L c p p' r e a b s = subst (λ (o : Option Fault). SaysAt o P L c p p' r) (sym e) (a, b, s)

pub says_fault : (P : Piece) (L : Layout) (c : Cursor) (p p' : List ℕ) (r : Low) (x : Fault) (k : ℕ) → P.fault ≡ some x → r ≡ Faulty (refusal_of x.number) k
    → path_in_table p' L.paths k ≡ x.place → Linked p' L.paths k → Kept L c p p' → Says P L c p p' r
unfolding Says
says_fault P L c p p' r x k e a b s h = subst (λ (o : Option Fault). SaysAt o P L c p p' r) (sym e) (k, a, b, s, h)

-- what a caller has of an answer
pub record Taken (P : Piece) (L : Layout) (c : Cursor) (p p' : List ℕ) (v : Value) (e : Cursor) : Type 0 where
  pub faultless : P.fault ≡ none
  pub value : v ≡ P.value
  pub next : e ≡ P.next
  pub bytes : p' ≡ written L c p P.chunk
  pub sound : Sound L p' P.next.path

pub record Refused (P : Piece) (L : Layout) (c : Cursor) (p p' : List ℕ) (n : Refusal) (k : ℕ) : Type 0 where
  pub x : Fault
  pub is_fault : P.fault ≡ some x
  pub number : n ≡ refusal_of x.number
  pub place : path_in_table p' L.paths k ≡ x.place
  pub linked : Linked p' L.paths k
  pub kept : Kept L c p p'

-- the refusal's number is the fault's
pub refused_number : {P : Piece} {L : Layout} {c : Cursor} {p p' : List ℕ} {n : Refusal} {k : ℕ} (R : Refused P L c p p' n k) → 1 ≤ R.x.number → R.x.number ≤ 13
    → number_of n ≡ R.x.number
refused_number R low high = ap number_of R.number ∙ number_back R.x.number 0 low high

taken_at : (o : Option Fault) (P : Piece) (L : Layout) (c : Cursor) (p p' : List ℕ) (r : Low) (v : Value) (e : Cursor) → P.fault ≡ o → SaysAt o P L c p p' r → r ≡ Done v e
    → Taken P L c p p' v e
taken_at none P L c p p' r v e f (a, b, s) d = record { faultless = f; value = cc; next = cc; bytes = b; sound = s }
taken_at (some x) P L c p p' r v e f (k, a, b, s, h) d = absurd (let z : ◌≡◌ {A = ℕ} 0 1 = cc in omega arith)

pub taken : (P : Piece) (L : Layout) (c : Cursor) (p p' : List ℕ) (r : Low) (v : Value) (e : Cursor) → Says P L c p p' r → r ≡ Done v e → Taken P L c p p' v e
unfolding Says
taken P L c p p' r v e s d = taken_at P.fault P L c p p' r v e refl s d

refused_at : (o : Option Fault) (P : Piece) (L : Layout) (c : Cursor) (p p' : List ℕ) (r : Low) (n : Refusal) (k : ℕ) → P.fault ≡ o → SaysAt o P L c p p' r → r ≡ Faulty n k
    → Refused P L c p p' n k
refused_at none P L c p p' r n k f (a, b, s) d = absurd (let z : ◌≡◌ {A = ℕ} 0 1 = cc in omega arith)
refused_at (some x) P L c p p' r n k f (j, a, b, s, h) d =
    let e : j ≡ k = cc in
    record {
      x = x;
      is_fault = f;
      number = cc;
      place = subst (λ (i : ℕ). path_in_table p' L.paths i ≡ x.place) e b;
      linked = subst (λ (i : ℕ). Linked p' L.paths i) e s;
      kept = h;
    }

pub refused : (P : Piece) (L : Layout) (c : Cursor) (p p' : List ℕ) (r : Low) (n : Refusal) (k : ℕ) → Says P L c p p' r → r ≡ Faulty n k → Refused P L c p p' n k
unfolding Says
refused P L c p p' r n k s d = refused_at P.fault P L c p p' r n k refl s d

-- ---- at the site itself

module _ (L : Layout) (p : List ℕ) (s : Site) (c : Cursor) (I Q E : ℕ) (R : Ready L p s c I Q E) where
  -- a refusal at the site
  pub here : (P : Piece) (n : ℕ) → P.fault ≡ some (record { number = n; place = place L p s }) → Says P L c p p (Faulty (refusal_of n) s.path)
  here P n e =
      says_fault P L c p p (Faulty (refusal_of n) s.path) _ s.path e refl refl (λ j l. R.sound j (omega (arith, R.site))) (kept_here L c p)

  -- an instruction
  module _ (slot : List ℕ) (len : length slot ≡ 24) (one : 1 ≤ I) (p' : List ℕ) (stored : p' ≡ over p (32 + 24 * c.code) slot) where
    slot_room : 32 + 24 * c.code + length slot ≤ L.paths
    slot_room = omega (arith, R.code)

    slot_inside : 32 + 24 * c.code + length slot ≤ length p
    slot_inside = omega (arith, R.code, R.records, R.lists)

    pub slot_same : (q : ℕ) → Same L.paths p p' q
    slot_same q = subst (λ (z : List ℕ). Same L.paths p z q) (sym stored) (same_below L.paths p (32 + 24 * c.code) slot q slot_inside slot_room)

    pub slot_sound : Sound L p' c.path
    slot_sound k l = same_linked L.paths p p' c.path (slot_same c.path) k l (R.sound k l)

    pub slot_written : p' ≡ written L c p (record { code = slot; records = []; lists = [] })
    unfolding laid
    slot_written =
        stored ∙ sym (over_nil (over p (32 + 24 * c.code) slot) (L.paths + 12 * c.path))
        ∙ sym (over_nil (over (over p (32 + 24 * c.code) slot) (L.paths + 12 * c.path) []) (L.lists + 4 * c.entry))

    pub slot_done : (P : Piece) (r : Low) → P.fault ≡ none → P.chunk ≡ record { code = slot; records = []; lists = [] } → r ≡ Done P.value P.next → P.next.path ≡ c.path
        → Says P L c p p' r
    slot_done P r e w d q =
        says_done P L c p p' r e d (slot_written ∙ ap (λ (z : Chunk). written L c p z) (sym w)) (subst (λ (z : ℕ). Sound L p' z) (sym q) slot_sound)
