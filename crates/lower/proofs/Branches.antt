-- The arms of a condition, and a conditional whole.
use mathlib.Core.Path.{◌≡◌, refl, sym, ap, subst}
use mathlib.Core.Bool.{◌||◌}
use mathlib.Core.List.{List, ◌++◌, append_assoc}
use mathlib.Core.Option.{none, some}
use Prim.Native.Nat.{ℕ, suc, ◌+◌, ◌*◌, ◌≤◌}
use native.Mathlib.Omega.{arith}
use lib.ListN.{length, length-append}
use Rattle.refusals.specs.declared.Refusal.{Refusal}
use Rattle.formula.specs.Operator.{Boolean, Number, ValueKind}
use Rattle.formula.specs.Path.{Path, ◌▸◌, condition, else_arm, then_arm}
use Rattle.formula.specs.Term.{Term, branch}
use Rattle.machine.specs.Check.{Context, Fault, dynamic, fault, kind}
use Rattle.machine.specs.Lower.{instruction_count, register_count, result_register}
use Rattle.layout.specs.Image.{below, entry_count, lists, path_count, path_record, slot, slots}
use Rattle.layout.proofs.Lengths.{length_below, length_lists, length_slots}
use Rattle.lower.specs.Bytes.{Chunk}
use Rattle.lower.specs.Piece.{Kept, Piece, Says, branch_piece, is_boolean, kind_if, own_piece, term_piece}
use Rattle.lower.specs.Ready.{Ready}
use Rattle.lower.specs.declared.Layout.{Layout}
use Rattle.lower.specs.declared.Cursor.{Cursor}
use Rattle.lower.specs.declared.Site.{Site}
use Rattle.lower.specs.declared.Value.{Value}
use Rattle.lower.specs.Low.{Low, Faulty}
use Rattle.lower.proofs.Laid.{Fits, chunk_path, joined}
use Rattle.lower.proofs.Says.{Refused, Taken}
use Rattle.lower.proofs.Compose.{fits_room, kept_written, refused_up, says_then}

pub kind_back : (κ : ValueKind) → kind_if (is_boolean κ) ≡ κ
kind_back Number = refl
kind_back Boolean = refl

seven : (A B C D E F G : List ℕ) → A ++ B ++ C ++ D ++ E ++ F ++ G ≡ A ++ (B ++ C ++ D ++ E ++ F ++ G)
seven A B C D E F G = simp append_assoc

six : (A B C D E F : List ℕ) → A ++ B ++ C ++ D ++ E ++ F ≡ A ++ B ++ (C ++ D ++ (E ++ F))
six A B C D E F = simp append_assoc

-- ---- a conditional is its condition and then its arms

module _ {L : Layout} {p : List ℕ} {s : Site} {c : Cursor} {I Q E : ℕ} (R : Ready L p s c I Q E) (C : Context) (t y z : Term) (P : Path) (n₁ n₂ : ℕ)
    (hi : instruction_count (branch t y z) ≤ I) (hq : path_count t + path_count y + path_count z ≤ Q) (he : entry_count (branch t y z) ≤ E) where
  abbrev k : ℕ
  k = s.path

  abbrev A : Piece
  A = term_piece C t (P ▸ condition) k c n₁

  abbrev B : Piece
  B = branch_piece C A.value y z P k A.next n₂

  abbrev W : Piece
  W = own_piece C (branch t y z) P k c n₂

  same_fault : fault C t (P ▸ condition) ≡ none → W.fault ≡ B.fault
  unfolding own_piece branch_piece term_piece
  same_fault e = rw (e, kind_back (kind t))

  same_value : W.value ≡ B.value
  unfolding own_piece branch_piece term_piece
  same_value =
      let e : suc (c.reg + register_count t) + register_count y ≡ c.reg + register_count t + 1 + register_count y = omega arith in
      ap (λ (x : ℕ). record { a = x; b = 0; c = 0; boolean = is_boolean (kind y); dynamic = dynamic C t || dynamic C y || dynamic C z }) e

  same_next : W.next ≡ B.next
  unfolding own_piece branch_piece term_piece
  same_next =
      let e₁ : c.reg + register_count (branch t y z) ≡ c.reg + register_count t + 1 + register_count y + 2 + register_count z = omega arith in
      let e₂ : c.code + instruction_count (branch t y z) ≡ c.code + instruction_count t + 1 + instruction_count y + 2 + instruction_count z + 1 = omega arith in
      let e₃ : c.path + (path_count t + path_count y + path_count z) ≡ c.path + path_count t + path_count y + path_count z = omega arith in
      let e₄ : c.entry + entry_count (branch t y z) ≡ c.entry + entry_count t + entry_count y + entry_count z = omega arith in
      cc

  same_code : W.chunk.code ≡ A.chunk.code ++ B.chunk.code
  unfolding own_piece branch_piece term_piece slots
  same_code =
      let r = c.reg in
      let n = c.code in
      let q = c.path in
      let a₁ : suc (r + register_count t) ≡ r + register_count t + 1 = omega arith in
      let a₂ : suc (n + instruction_count t) ≡ n + instruction_count t + 1 = omega arith in
      let r₂ = r + register_count t + 1 + register_count y in
      let m₂ = n + instruction_count t + 1 + instruction_count y in
      let a₃ : suc (suc m₂) ≡ m₂ + 2 = omega arith in
      let a₄ : suc (suc r₂) ≡ r₂ + 2 = omega arith in
      let a₅ : suc r₂ ≡ r₂ + 1 = omega arith in
      let a₆ : suc (m₂ + 2 + instruction_count z) ≡ m₂ + 2 + instruction_count z + 1 = omega arith in
      let b₁ : suc q ≡ q + 1 = omega arith in
      let b₂ : suc (q + path_count t) ≡ q + path_count t + 1 = omega arith in
      let b₃ : suc (q + path_count t + path_count y) ≡ q + path_count t + path_count y + 1 = omega arith in
      rw (a₁, a₂, a₃, a₄, a₅, a₆, b₁, b₂, b₃)
      (seven (slots t q (q + 1) r n c.entry) (slot 3 0 (r + register_count t) (result_register t r) 0 (m₂ + 2) k)
      (slots y (q + path_count t) (q + path_count t + 1) (r + register_count t + 1) (n + instruction_count t + 1) (c.entry + entry_count t))
      (slot 2 0 r₂ (result_register y (r + register_count t + 1)) 0 0 k) (slot 4 0 (r₂ + 1) 0 0 (m₂ + 2 + instruction_count z + 1) k)
      (slots z (q + path_count t + path_count y) (q + path_count t + path_count y + 1) (r₂ + 2) (m₂ + 2) (c.entry + entry_count t + entry_count y))
      (slot 2 0 r₂ (result_register z (r₂ + 2)) 0 0 k))

  same_records : W.chunk.records ≡ A.chunk.records ++ B.chunk.records
  unfolding own_piece branch_piece term_piece below
  same_records =
      let q = c.path in
      let b₁ : suc q ≡ q + 1 = omega arith in
      let b₂ : suc (q + path_count t) ≡ q + path_count t + 1 = omega arith in
      let b₃ : suc (q + path_count t + path_count y) ≡ q + path_count t + path_count y + 1 = omega arith in
      rw (b₁, b₂, b₃)
      (six (path_record k (P ▸ condition)) (below t (P ▸ condition) q (q + 1)) (path_record k (P ▸ then_arm)) (below y (P ▸ then_arm) (q + path_count t) (q + path_count t + 1))
      (path_record k (P ▸ else_arm)) (below z (P ▸ else_arm) (q + path_count t + path_count y) (q + path_count t + path_count y + 1)))

  same_lists : W.chunk.lists ≡ A.chunk.lists ++ B.chunk.lists
  unfolding own_piece branch_piece term_piece lists
  same_lists =
      let r = c.reg in
      let a₁ : suc (r + register_count t) ≡ r + register_count t + 1 = omega arith in
      let r₂ = r + register_count t + 1 + register_count y in
      let a₄ : suc (suc r₂) ≡ r₂ + 2 = omega arith in
      rw (a₁, a₄) (append_assoc (lists t r) (lists y (r + register_count t + 1)) (lists z (r₂ + 2)))

  same_chunk : W.chunk ≡ joined A.chunk B.chunk
  same_chunk = chunk_path W.chunk (joined A.chunk B.chunk) same_code same_records same_lists

  all_fits : Fits (length p) (32 + 24 * c.code) (L.paths + 12 * c.path) (L.lists + 4 * c.entry) (joined A.chunk B.chunk)
  all_fits =
      subst (λ (w : Chunk). Fits (length p) (32 + 24 * c.code) (L.paths + 12 * c.path) (L.lists + 4 * c.entry) w) same_chunk
      (own_fits)
    where
      own_fits : Fits (length p) (32 + 24 * c.code) (L.paths + 12 * c.path) (L.lists + 4 * c.entry) W.chunk
      own_fits =
          fits_room R W.chunk (instruction_count (branch t y z)) (path_count t + path_count y + path_count z) (entry_count (branch t y z)) l₁ l₂ l₃ hi hq he
        where
          l₁ : length W.chunk.code ≡ 24 * instruction_count (branch t y z)
          l₁ = unfold own_piece in length_slots (branch t y z) k c.path c.reg c.code c.entry

          l₂ : length W.chunk.records ≡ 12 * (path_count t + path_count y + path_count z)
          l₂ = unfold own_piece in omega (arith, length_below (branch t y z) P k c.path)

          l₃ : length W.chunk.lists ≡ 4 * entry_count (branch t y z)
          l₃ = unfold own_piece in length_lists (branch t y z) c.reg

  len_code : length A.chunk.code ≡ 24 * instruction_count t
  unfolding term_piece
  len_code = length_slots t c.path (c.path + 1) c.reg c.code c.entry

  len_records : length A.chunk.records ≡ 12 * path_count t
  unfolding term_piece
  len_records = omega (arith, length-append (path_record k (P ▸ condition)) (below t (P ▸ condition) c.path (c.path + 1)), length_below t (P ▸ condition) c.path (c.path + 1))

  len_lists : length A.chunk.lists ≡ 4 * entry_count t
  unfolding term_piece
  len_lists = length_lists t c.reg

  e_code : A.next.code ≡ c.code + instruction_count t
  unfolding term_piece
  e_code = refl

  e_path : A.next.path ≡ c.path + path_count t
  unfolding term_piece
  e_path = refl

  e_entry : A.next.entry ≡ c.entry + entry_count t
  unfolding term_piece
  e_entry = refl

  pub whole_branch : (p₁ p₂ : List ℕ) (v : Value) (e : Cursor) (r : Low) → Taken A L c p p₁ v e → Says (branch_piece C v y z P k e n₂) L e p₁ p₂ r → Says W L c p p₂ r
  whole_branch p₁ p₂ v e r T S =
      let S₁ : Says B L A.next p₁ p₂ r =
      subst (λ (x : Cursor). Says (branch_piece C A.value y z P k x n₂) L x p₁ p₂ r) T.next (subst (λ (x : Value). Says (branch_piece C x y z P k e n₂) L e p₁ p₂ r) T.value S) in
      let T₁ : Taken A L c p p₁ A.value A.next = record { faultless = T.faultless; value = refl; next = refl; bytes = T.bytes; sound = T.sound } in
      says_then L c A.next p p₁ p₂ A.value r A B W T₁ kept₁ S₁ (same_fault (A_fault T.faultless)) same_value same_next same_chunk
      (omega (arith, len_code, e_code)) (omega (arith, len_records, e_path)) (omega (arith, len_lists, e_entry)) all_fits
    where
      kept₁ : Kept L c p p₁
      kept₁ =
          subst (λ (x : List ℕ). Kept L c p x) (sym T.bytes)
          (kept_written R A.chunk _ _ _ len_code len_records len_lists (omega arith) (omega arith) (omega arith))

      A_fault : A.fault ≡ none → fault C t (P ▸ condition) ≡ none
      A_fault x = unfold term_piece in x

  pub condition_refused : (p₁ : List ℕ) (r : Low) (m : Refusal) (j : ℕ) → Refused A L c p p₁ m j → r ≡ Faulty m j → Says W L c p p₁ r
  condition_refused p₁ r m j F e = refused_up c p r W F F.kept e up
    where
      up : (x : Fault) → A.fault ≡ some x → W.fault ≡ some x
      up x f = unfold own_piece term_piece in rw f
