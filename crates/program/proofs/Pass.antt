-- One pass finds what `valid` asks.
use mathlib.Core.Path.{◌≡◌, refl, sym, ap, ◌∙◌, subst}
use mathlib.Core.Bool.{Bool, true, false, cond, ◌&&◌}
use mathlib.Core.List.{List}
use mathlib.Core.Logic.{⊎_elim}
use native.Mathlib.Nat.{eq-or-lt_of_le}
use Prim.Native.Nat.{ℕ, zero, suc, ◌+◌, ◌-◌, ◌*◌, ◌≤◌, ◌<◌}
use native.Mathlib.Numerals.{add-one}
use native.Mathlib.Omega.{arith}
use borrow.Author.Tests.{le-leb, leb-true, lt-leb, lt-ltb, ltb-true}
use lib.ListN.{length}
use lib.Dec.{eqb, eqb→eq, leb, ltb}
use Rattle.formula.specs.Text.{byte_at, half_at, word_at}
use Rattle.formula.specs.Path.{path_room, text}
use Rattle.machine.specs.Program.{all_allowed, op_allowed, valid}
use Rattle.machine.proofs.Laws.{and_false, and_l, and_r}
use Rattle.layout.specs.Image.{magic}
use Rattle.layout.specs.Decode.{code_count, destination_at, entry_at, entry_total, instructions, length_at, list_ok, no_program, op_at, path_number, path_of, path_total, program_at, raw_program, records_ok, register_total, result_at, slot_at, slot_ok, slots_ok, uses_a, uses_b, uses_c, uses_list, well_formed, zero_unless}
use Rattle.paths.specs.Table.{Linked, length_in, path_in_table}
use Rattle.program.specs.declared.Header.{Header}
use Rattle.program.specs.Check.{Numbers, header_ok, instruction_ok, instructions_ok, operands_ok, placed_ok}
use Rattle.program.proofs.Body.{code_length}
use Rattle.program.proofs.Ops.{end_place}
use Rattle.program.proofs.Records.{all_linked, length_same, path_same, records, text_length}
use Rattle.program.proofs.Tests.{and_assoc, and_one}

-- ---- an instruction

slot_path : (b : List ℕ) (n : ℕ) → slot_ok b n ≡ true → path_number b n < path_total b
unfolding slot_ok
slot_path b n e =
    let o = byte_at b (slot_at n) in
    ltb-true _ _
    (and_r (ltb o 35 && eqb (byte_at b (slot_at n + 1)) 0 && zero_unless (uses_list o) (half_at b (slot_at n + 2)) && zero_unless (uses_a o) (word_at b (slot_at n + 8))
    && zero_unless (uses_b o) (word_at b (slot_at n + 12)) && zero_unless (uses_c o) (word_at b (slot_at n + 16))) _ e)

-- destination and path, as they are read
pub placed_is : (b : List ℕ) (h : Header) (n slot d k : ℕ) → Numbers b h → slot ≡ slot_at n → d ≡ word_at b (slot + 4) → k ≡ word_at b (slot + 20)
    → placed_ok b n ≡ (ltb d h.registers && ltb k h.paths && leb (length_at b k) 8192)
unfolding placed_ok destination_at path_number
placed_is b h n slot d k w es ed ek = rw (ed, ek, es, w.registers, w.paths) (sym (and_assoc (ltb (word_at b (slot_at n + 4)) (register_total b)) (ltb (word_at b (slot_at n + 20)) (path_total b)) (leb (length_at b (word_at b (slot_at n + 20))) 8192)))

-- ---- all of them

module _ (b : List ℕ) where
  unfoldable pub code_left : ℕ → ℕ → Bool
  code_left n next = instructions_ok b (code_count b - n) n next

  pub code_start : code_left 0 0 ≡ instructions_ok b (code_count b) 0 0
  unfolding code_left
  code_start = let e : code_count b - 0 ≡ code_count b = omega arith in rw e

  pub code_step : (n next c : ℕ) → n < code_count b → c ≡ half_at b (slot_at n + 2) → code_left n next ≡ (instruction_ok b n next && code_left (n + 1) (next + c))
  unfolding code_left
  code_step n next c h ec =
      let e : code_count b - n ≡ suc (code_count b - (n + 1)) = omega arith in
      ap (λ x. instructions_ok b x n next) e
      ∙ ap (λ (x : ℕ). instruction_ok b n next && instructions_ok b (code_count b - (n + 1)) x (next + half_at b (slot_at n + 2))) (sym (add-one n))
      ∙ ap (λ (x : ℕ). instruction_ok b n next && instructions_ok b (code_count b - (n + 1)) (n + 1) (next + x)) (sym ec)

  pub code_end : (n next : ℕ) → code_count b ≤ n → code_left n next ≡ eqb next (entry_total b)
  unfolding code_left
  code_end n next h = let e : code_count b - n ≡ 0 = omega arith in rw e

  -- the entry after an instruction's list is inside
  pub entries_in : (n next c : ℕ) → c ≡ half_at b (slot_at n + 2) → instruction_ok b n next ≡ true → next + c ≤ entry_total b
  unfolding instruction_ok operands_ok
  entries_in n next c e ok =
      let l = leb-true (next + half_at b (slot_at n + 2)) (entry_total b) (and_l _ _ (and_r (list_ok b n next) _ (and_r (slot_ok b n) _ (and_r (placed_ok b n) _ ok)))) in
      omega arith

  -- an instruction's path is one of the records, and its text has at most 8,192 bytes
  abbrev pub Named : ℕ → Type 0
  Named n = (path_number b n < path_total b) × (length_at b (path_number b n) ≤ 8192)

  pub placed_named : (n : ℕ) → placed_ok b n ≡ true → Named n
  unfolding placed_ok
  placed_named n ok =
      let q = and_r (ltb (destination_at b n) (register_total b)) _ ok in (
        ltb-true _ _ (and_l _ _ q),
        leb-true (length_at b (path_number b n)) path_room (and_r (ltb (path_number b n) (path_total b)) _ q),
      )

  named : (n next : ℕ) → instruction_ok b n next ≡ true → Named n
  unfolding instruction_ok
  named n next ok = placed_named n (and_l _ _ ok)

  -- entries only become more
  slots_room : (left n next : ℕ) → slots_ok b left n next ≡ true → next ≤ entry_total b
  slots_room zero n next e = let z : next ≡ entry_total b = eqb→eq next (entry_total b) (rw e tt) in omega arith
  slots_room (suc left) n next e =
      let l = slots_room left (suc n) (next + half_at b (slot_at n + 2)) (and_r (slot_ok b n && list_ok b n next) _ e) in
      omega arith

  shuffle : (de pa le le' ro lo fit op i q l : Bool) → (ro ≡ true → pa ≡ true) → (ro ≡ true → le ≡ le') → (q ≡ true → fit ≡ true) → i ≡ (q && l)
      → (((de && (pa && le)) && (ro && (lo && (fit && op)))) && i) ≡ ((ro && lo && q) && ((de && le' && op) && l))
  shuffle de pa le le' false lo fit op i q l f g k e = rw (and_false (de && (pa && le)))
  shuffle de pa le le' true false fit op i q l f g k e = rw (and_false (de && (pa && le)))
  shuffle de pa le le' true true fit op i true l f g k e = rw (f refl, g refl, k refl, e)
  shuffle de pa le le' true true fit op i false l f g k e = rw e (and_false ((de && (pa && le)) && (fit && op)))

  pass : (left n next : ℕ) → records_ok b (path_total b) 0 ≡ true
      → instructions_ok b left n next ≡ (slots_ok b left n next && all_allowed (raw_program b) n (instructions b left n))
  unfolding instruction_ok placed_ok operands_ok raw_program
  pass zero n next ok = sym (and_one (eqb next (entry_total b)))
  pass (suc left) n next ok =
      shuffle (ltb (destination_at b n) (register_total b)) (ltb (path_number b n) (path_total b)) (leb (length_at b (path_number b n)) path_room) (leb (length (text (path_of b (path_number b n)))) path_room)
      (slot_ok b n) (list_ok b n next) (leb (next + half_at b (slot_at n + 2)) (entry_total b)) (op_allowed (raw_program b) n (op_at b n))
      (instructions_ok b left (suc n) (next + half_at b (slot_at n + 2))) (slots_ok b left (suc n) (next + half_at b (slot_at n + 2))) (all_allowed (raw_program b) (suc n) (instructions b left (suc n)))
      (λ r. lt-ltb (path_number b n) (path_total b) (slot_path b n r))
      (λ r. ap (λ (x : ℕ). leb x path_room) (sym (text_length b ok (path_number b n) (slot_path b n r))))
      (λ r. le-leb (next + half_at b (slot_at n + 2)) (entry_total b) (slots_room left (suc n) (next + half_at b (slot_at n + 2)) r))
      (pass left (suc n) (next + half_at b (slot_at n + 2)) ok)

  joined : (a e c d f g r i q l : Bool) → (r ≡ true → i ≡ (q && l))
      → ((a && (e && (c && (d && (f && g))))) && (r && i)) ≡ cond (a && e && c && d && r && q) (f && g && l) false
  joined false e c d f g r i q l h = refl
  joined true false c d f g r i q l h = refl
  joined true true false d f g r i q l h = refl
  joined true true true false f g r i q l h = refl
  joined true true true true f g false i q l h = and_false (f && g)
  joined true true true true false g true i true l h = refl
  joined true true true true false g true i false l h = refl
  joined true true true true true false true i true l h = refl
  joined true true true true true false true i false l h = refl
  joined true true true true true true true i true l h = h refl
  joined true true true true true true true i false l h = h refl

  valid_of : (x : Bool) → cond x (valid (raw_program b)) false ≡ valid (cond x (raw_program b) no_program)
  valid_of true = refl
  valid_of false = refl

  raw_valid : valid (raw_program b) ≡ (ltb 0 (code_count b) && ltb (result_at b) (register_total b) && all_allowed (raw_program b) 0 (instructions b (code_count b) 0))
  unfolding raw_program
  raw_valid = ap (λ (k : ℕ). ltb 0 k && ltb (result_at b) (register_total b) && all_allowed (raw_program b) 0 (instructions b (code_count b) 0)) (code_length b)

  pub valid_is : (header_ok b && (records_ok b (path_total b) 0 && instructions_ok b (code_count b) 0 0)) ≡ valid (program_at b)
  unfolding header_ok program_at well_formed
  valid_is =
      joined (leb 32 (length b)) (eqb (word_at b 0) magic) (ltb (word_at b 20) 2) (leb (entry_at b (entry_total b)) (length b)) (ltb 0 (code_count b)) (ltb (result_at b) (register_total b))
      (records_ok b (path_total b) 0) (instructions_ok b (code_count b) 0 0) (slots_ok b (code_count b) 0 0) (all_allowed (raw_program b) 0 (instructions b (code_count b) 0))
      (pass (code_count b) 0 0)
      ∙ ap (λ x. cond (well_formed b) x false) (sym raw_valid) ∙ valid_of (well_formed b)

  -- a program that may run: the bytes are well formed, and each instruction's path is there and fits
  pub valid_formed : valid (program_at b) ≡ true → well_formed b ≡ true
  unfolding program_at
  valid_formed v = either (well_formed b) v
    where
      either : (x : Bool) → valid (cond x (raw_program b) no_program) ≡ true → x ≡ true
      either true e = refl
      either false e = e

  pub valid_raw : valid (program_at b) ≡ true → program_at b ≡ raw_program b
  unfolding program_at
  valid_raw v = rw (valid_formed v)

  instructions_at : (left n next m : ℕ) → instructions_ok b left n next ≡ true → n ≤ m → m < n + left → Named m
  instructions_at zero n next m e h l = absurd (omega arith)
  instructions_at (suc left) n next m e h l =
      ⊎_elim (λ z. subst Named z (named n next (and_l _ _ e)))
      (λ z. instructions_at left (suc n) _ m (and_r (instruction_ok b n next) _ e) (omega arith) (omega arith)) (eq-or-lt_of_le h)

  pub valid_at : valid (program_at b) ≡ true → (n : ℕ) → n < code_count b → Named n
  valid_at v n h =
      instructions_at (code_count b) 0 0 n (and_r (records_ok b (path_total b) 0) _ (and_r (header_ok b) _ (valid_is ∙ v))) (omega arith) (omega arith)

  pub valid_records : valid (program_at b) ≡ true → records_ok b (path_total b) 0 ≡ true
  valid_records v = and_l _ _ (and_r (header_ok b) _ (valid_is ∙ v))

-- ---- the header

pub short_header : (b : List ℕ) → length b < 32 → header_ok b ≡ false
unfolding header_ok
short_header b l = rw (lt-leb 32 (length b) l)

-- the test of the header, by the numbers that were read
pub header_is : (b : List ℕ) (h : Header) → Numbers b h → 32 ≤ length b
    → header_ok b ≡ (eqb (word_at b 0) magic && (ltb (word_at b 20) 2 && (leb (32 + 24 * h.code + 12 * h.paths + 4 * h.entries) (length b) && (ltb 0 h.code && ltb (word_at b 12) h.registers))))
unfolding header_ok result_at
header_is b h w l = rw (le-leb 32 (length b) l, end_place b h w, w.code, w.registers)

-- ---- the table that the paths' text is written from

module _ (b : List ℕ) (code k : ℕ) (e : code ≡ code_count b) where
  from : 32 + 24 * code ≡ records b
  from = ap (λ (x : ℕ). 32 + 24 * x) e

  pub linked_from : valid (program_at b) ≡ true → k < path_total b → Linked b (32 + 24 * code) k
  linked_from v l = subst (λ (f : ℕ). Linked b f k) (sym from) (all_linked b (valid_records b v) k l)

  pub length_from : length_in b (32 + 24 * code) k ≡ length_at b k
  length_from = ap (λ (f : ℕ). length_in b f k) from ∙ length_same b k

  pub path_from : path_in_table b (32 + 24 * code) k ≡ path_of b k
  path_from = ap (λ (f : ℕ). path_in_table b f k) from ∙ path_same b k
