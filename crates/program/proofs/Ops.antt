-- What is asked of an instruction's operands, by its opcode.
use mathlib.Core.Path.{◌≡◌, refl, sym, ap, ◌∙◌}
use mathlib.Core.Bool.{Bool, true, false, ◌&&◌}
use mathlib.Core.Logic.{◌⊎◌, inl, inr, ⊎_elim}
use mathlib.Core.List.{List}
use Prim.Native.Nat.{ℕ, ◌+◌, ◌*◌, ◌≤◌, ◌<◌}
use native.Mathlib.Omega.{arith}
use borrow.Author.Tests.{eq-eqb, le-leb, leb-true, lt-ltb, ltb-true, ne_eqb}
use lib.ListN.{get_or}
use lib.Dec.{eqb, eqb→eq, leb, ltb}
use Rattle.formula.specs.Text.{byte_at, half_at, long_at, word_at}
use Rattle.machine.specs.Program.{Op, all_below, jump, op_allowed}
use Rattle.machine.proofs.Laws.{and_l, and_r}
use Rattle.layout.specs.Decode.{code_count, entries_from, entry_at, entry_total, input_count, list_ok, op_at, ops, path_number, path_total, raw_program, register_total, slot_at, slot_ok, uses_a, uses_b, uses_c, uses_list, zero_unless}
use Rattle.program.specs.declared.Header.{Header}
use Rattle.program.specs.Check.{Numbers, Slot, fields_below, operands_ok}
use Rattle.program.proofs.Tests.{and_assoc, and_one, below_next, below_one, one_of, passed, refused, swapped, turned, under}
use Rattle.program.proofs.Body.{code_length}

-- the operation of an opcode with the fields of the instruction n
unfoldable pub op_of : List ℕ → ℕ → ℕ → Op
op_of b n o =
    let at = slot_at n in
    get_or (ops b (long_at b (at + 8)) (half_at b (at + 2)) (word_at b (at + 8)) (word_at b (at + 12)) (word_at b (at + 16))) o (jump 0)

-- what is asked of an opcode without a list: unused fields zero, and what the operation reads is there
unfoldable plain : List ℕ → ℕ → ℕ → Bool
plain b n o =
    let at = slot_at n in
    zero_unless (uses_a o) (word_at b (at + 8))
    && (zero_unless (uses_b o) (word_at b (at + 12)) && (zero_unless (uses_c o) (word_at b (at + 16)) && op_allowed (raw_program b) n (op_of b n o)))

nest : (x y w o : Bool) → ((x && y && w && true) && o) ≡ (x && (y && (w && o)))
nest false y w o = refl
nest true false w o = refl
nest true true false o = refl
nest true true true o = refl

arranged : (a z l x y w p o : Bool) → a ≡ true → z ≡ true → l ≡ true → p ≡ true → ((a && z && l && x && y && w && p) && o) ≡ (x && (y && (w && o)))
arranged a z l x y w p o ea ez el ep = rw (ea, ez, el, ep) (nest x y w o)

and_false' : (a c d : Bool) → (a && false && c && d) ≡ false
and_false' true c d = refl
and_false' false c d = refl

module _ (b : List ℕ) (h : Header) (n slot opcode count next : ℕ) (r : Slot b h n slot opcode count next) (q : path_number b n < path_total b) where
  -- opcode, zero and count, as the first four bytes have them
  parts : (opcode ≡ byte_at b (slot_at n) + 256 * byte_at b (slot_at n + 1)) × (count ≡ half_at b (slot_at n + 2))
  unfolding half_at
  parts = (r.opcode_read ∙ ap (half_at b) r.place, r.count_read ∙ ap (λ (x : ℕ). half_at b (x + 2)) r.place)

  -- unused fields, in their order, then the rest
  slot_slot : byte_at b (slot_at n) < 35 → byte_at b (slot_at n + 1) ≡ 0 → zero_unless (uses_list (byte_at b (slot_at n))) (half_at b (slot_at n + 2)) ≡ true → (x : Bool)
      → (slot_ok b n && x)
      ≡ (zero_unless (uses_a (byte_at b (slot_at n))) (word_at b (slot_at n + 8))
      && (zero_unless (uses_b (byte_at b (slot_at n))) (word_at b (slot_at n + 12)) && (zero_unless (uses_c (byte_at b (slot_at n))) (word_at b (slot_at n + 16)) && x)))
  unfolding slot_ok
  slot_slot l z u x =
      let o = byte_at b (slot_at n) in
      arranged (ltb o 35) (eqb (byte_at b (slot_at n + 1)) 0) (zero_unless (uses_list o) (half_at b (slot_at n + 2))) (zero_unless (uses_a o) (word_at b (slot_at n + 8)))
      (zero_unless (uses_b o) (word_at b (slot_at n + 12))) (zero_unless (uses_c o) (word_at b (slot_at n + 16))) (ltb (path_number b n) (path_total b)) x
      (lt-ltb o 35 l) (eq-eqb (byte_at b (slot_at n + 1)) 0 z) u (lt-ltb (path_number b n) (path_total b) q)

  -- ---- opcodes without a list

  plain_slot : count ≡ 0 → opcode < 35 → (opcode ≡ 31 → ⊥) → (opcode ≡ 32 → ⊥) → plain b n opcode ≡ operands_ok b n next
  unfolding operands_ok list_ok plain op_of op_at
  plain_slot zero l f g =
      let e = parts in
      let o : byte_at b (slot_at n) ≡ opcode = omega arith in
      let c : half_at b (slot_at n + 2) ≡ 0 = omega arith in
      let z : byte_at b (slot_at n + 1) ≡ 0 = omega arith in
      let i : byte_at b (slot_at n) < 35 = omega arith in
      let u : uses_list (byte_at b (slot_at n)) ≡ false =
      rw (ne_eqb (byte_at b (slot_at n)) 31 (λ y. f (sym o ∙ y)), ne_eqb (byte_at b (slot_at n)) 32 (λ y. g (sym o ∙ y))) in
      let s : zero_unless (uses_list (byte_at b (slot_at n))) (half_at b (slot_at n + 2)) ≡ true = rw (u, eq-eqb (half_at b (slot_at n + 2)) 0 c) in
      let k : leb (next + half_at b (slot_at n + 2)) (entry_total b) ≡ true = le-leb (next + half_at b (slot_at n + 2)) (entry_total b) (omega (arith, r.whole.numbers.entries, r.fits)) in
      ap (plain b n) (sym o)
      ∙ sym (slot_slot i z s (list_ok b n next && (leb (next + half_at b (slot_at n + 2)) (entry_total b) && op_allowed (raw_program b) n (op_at b n)))
      ∙ rw (u, k))

  pub constant_slot : count ≡ 0 → opcode ≡ 0 → eqb (word_at b (slot + 16)) 0 ≡ operands_ok b n next
  unfolding plain op_of raw_program
  constant_slot zero e =
      rw r.place
      (sym (and_one (eqb (word_at b (slot_at n + 16)) 0)) ∙ ap (plain b n) (sym e) ∙ plain_slot zero (omega arith) (λ y. omega arith) (λ y. omega arith))

  -- ---- by the limits of a, b and c

  one_field : (x : ℕ) → fields_below b (slot_at n) x 1 1 ≡ (eqb (word_at b (slot_at n + 12)) 0 && (eqb (word_at b (slot_at n + 16)) 0 && ltb (word_at b (slot_at n + 8)) x))
  one_field x =
      rw (below_one (word_at b (slot_at n + 12)), below_one (word_at b (slot_at n + 16)))
      (turned (ltb (word_at b (slot_at n + 8)) x) (eqb (word_at b (slot_at n + 12)) 0) (eqb (word_at b (slot_at n + 16)) 0))

  pub load_slot : count ≡ 0 → opcode ≡ 1 → fields_below b slot h.inputs 1 1 ≡ operands_ok b n next
  unfolding plain op_of raw_program
  load_slot zero e =
      rw (r.place, r.whole.numbers.inputs)
      (one_field (input_count b) ∙ ap (plain b n) (sym e) ∙ plain_slot zero (omega arith) (λ y. omega arith) (λ y. omega arith))

  pub jump_if_slot : count ≡ 0 → opcode ≡ 3 → (ltb n (word_at b (slot + 16)) && fields_below b slot h.registers 1 (h.code + 1)) ≡ operands_ok b n next
  unfolding plain op_of raw_program
  jump_if_slot zero e =
      let x = ltb (word_at b (slot_at n + 8)) (register_total b) in
      let y = eqb (word_at b (slot_at n + 12)) 0 in
      let f = ltb n (word_at b (slot_at n + 16)) in
      rw (r.place, r.whole.numbers.registers, r.whole.numbers.code, below_one (word_at b (slot_at n + 12)), below_next (word_at b (slot_at n + 16)) (code_count b))
      (passed f x y (leb (word_at b (slot_at n + 16)) (code_count b)) ∙ swapped x y (f && leb (word_at b (slot_at n + 16)) (code_count b))
      ∙ ap (λ (k : ℕ). y && (x && (f && leb (word_at b (slot_at n + 16)) k))) (sym (code_length b))
      ∙ ap (plain b n) (sym e) ∙ plain_slot zero (omega arith) (λ y. omega arith) (λ y. omega arith))

  pub jump_slot : count ≡ 0 → opcode ≡ 4 → (ltb n (word_at b (slot + 16)) && fields_below b slot 1 1 (h.code + 1)) ≡ operands_ok b n next
  unfolding plain op_of raw_program
  jump_slot zero e =
      let x = eqb (word_at b (slot_at n + 8)) 0 in
      let y = eqb (word_at b (slot_at n + 12)) 0 in
      let f = ltb n (word_at b (slot_at n + 16)) in
      rw (r.place, r.whole.numbers.code, below_one (word_at b (slot_at n + 8)), below_one (word_at b (slot_at n + 12)), below_next (word_at b (slot_at n + 16)) (code_count b))
      (passed f x y (leb (word_at b (slot_at n + 16)) (code_count b))
      ∙ ap (λ (k : ℕ). x && (y && (f && leb (word_at b (slot_at n + 16)) k))) (sym (code_length b))
      ∙ ap (plain b n) (sym e) ∙ plain_slot zero (omega arith) (λ y. omega arith) (λ y. omega arith))

  one_last : fields_below b (slot_at n) (register_total b) 1 1 ≡ (eqb (word_at b (slot_at n + 12)) 0 && (eqb (word_at b (slot_at n + 16)) 0 && (ltb (word_at b (slot_at n + 8)) (register_total b) && true)))
  one_last =
      one_field (register_total b)
      ∙ ap (λ x. eqb (word_at b (slot_at n + 12)) 0 && (eqb (word_at b (slot_at n + 16)) 0 && x)) (sym (and_one (ltb (word_at b (slot_at n + 8)) (register_total b))))

  pub copy_slot : count ≡ 0 → opcode ≡ 2 → fields_below b slot h.registers 1 1 ≡ operands_ok b n next
  unfolding plain op_of raw_program
  copy_slot zero e =
      rw (r.place, r.whole.numbers.registers)
      (one_field (register_total b) ∙ ap (plain b n) (sym e) ∙ plain_slot zero (omega arith) (λ y. omega arith) (λ y. omega arith))

  -- Positive, Negative, Not
  pub sign_slot : count ≡ 0 → 5 ≤ opcode → opcode < 8 → fields_below b slot h.registers 1 1 ≡ operands_ok b n next
  unfolding plain op_of raw_program
  sign_slot zero k l =
      let p = one_last in
      rw (r.place, r.whole.numbers.registers)
      (one_of (λ (m : ℕ). fields_below b (slot_at n) (register_total b) 1 1 ≡ plain b n m) 3 5 opcode k l (p, (p, (p, tt)))
      ∙ plain_slot zero (omega arith) (λ y. omega arith) (λ y. omega arith))

  -- the calls of one register
  pub single_slot : count ≡ 0 → 20 ≤ opcode → opcode < 31 → fields_below b slot h.registers 1 1 ≡ operands_ok b n next
  unfolding plain op_of raw_program
  single_slot zero k l =
      let p = one_last in
      rw (r.place, r.whole.numbers.registers)
      (one_of (λ (m : ℕ). fields_below b (slot_at n) (register_total b) 1 1 ≡ plain b n m) 11 20 opcode k l (p, (p, (p, (p, (p, (p, (p, (p, (p, (p, (p, tt)))))))))))
      ∙ plain_slot zero (omega arith) (λ y. omega arith) (λ y. omega arith))

  -- all that read one register
  pub one_slot : count ≡ 0 → (opcode ≡ 2) ⊎ ((5 ≤ opcode × opcode < 8) ⊎ (20 ≤ opcode × opcode < 31)) → fields_below b slot h.registers 1 1 ≡ operands_ok b n next
  one_slot z k = ⊎_elim (copy_slot z) (λ l. ⊎_elim (λ m. sign_slot z m.0 m.1) (λ m. single_slot z m.0 m.1) l) k

  pub pair_slot : count ≡ 0 → 8 ≤ opcode → opcode < 20 → fields_below b slot h.registers h.registers 1 ≡ operands_ok b n next
  unfolding plain op_of raw_program
  pair_slot zero k l =
      let x = ltb (word_at b (slot_at n + 8)) (register_total b) in
      let y = ltb (word_at b (slot_at n + 12)) (register_total b) in
      let z = eqb (word_at b (slot_at n + 16)) 0 in
      let p = sym (turned z x y) ∙ ap (λ w. z && (x && w)) (sym (and_one y)) in
      rw (r.place, r.whole.numbers.registers, below_one (word_at b (slot_at n + 16)))
      (one_of (λ (m : ℕ). (x && (y && z)) ≡ plain b n m) 12 8 opcode k l (p, (p, (p, (p, (p, (p, (p, (p, (p, (p, (p, (p, tt))))))))))))
      ∙ plain_slot zero (omega arith) (λ y. omega arith) (λ y. omega arith))

  pub triple_slot : count ≡ 0 → 33 ≤ opcode → opcode < 35 → fields_below b slot h.registers h.registers h.registers ≡ operands_ok b n next
  unfolding plain op_of raw_program
  triple_slot zero k l =
      let x = ltb (word_at b (slot_at n + 8)) (register_total b) in
      let y = ltb (word_at b (slot_at n + 12)) (register_total b) in
      let z = ltb (word_at b (slot_at n + 16)) (register_total b) in
      let p = ap (λ w. x && (y && w)) (sym (and_one z)) in
      rw (r.place, r.whole.numbers.registers)
      (one_of (λ (m : ℕ). (x && (y && z)) ≡ plain b n m) 2 33 opcode k l (p, (p, tt)) ∙ plain_slot zero (omega arith) (λ y. omega arith) (λ y. omega arith))

  -- ---- Min and Max

  -- no other opcode has a count, and none is above 34
  unlisted_slot : (0 < count) ⊎ (35 ≤ opcode) → (opcode ≡ 31 → ⊥) → (opcode ≡ 32 → ⊥) → false ≡ operands_ok b n next
  unfolding operands_ok slot_ok
  unlisted_slot k f1 f2 =
      refused (operands_ok b n next)
      (λ e.
      let p = parts in
      let o = byte_at b (slot_at n) in
      let s : (ltb o 35 && eqb (byte_at b (slot_at n + 1)) 0 && zero_unless (uses_list o) (half_at b (slot_at n + 2)) && zero_unless (uses_a o) (word_at b (slot_at n + 8))
      && zero_unless (uses_b o) (word_at b (slot_at n + 12)) && zero_unless (uses_c o) (word_at b (slot_at n + 16)) && ltb (path_number b n) (path_total b)) ≡ true = and_l _ _ e in
      let s3 : (ltb o 35 && eqb (byte_at b (slot_at n + 1)) 0 && zero_unless (uses_list o) (half_at b (slot_at n + 2))) ≡ true = and_l _ _ (and_l _ _ (and_l _ _ (and_l _ _ s))) in
      let l : o < 35 = ltb-true _ _ (and_l _ _ (and_l _ _ s3)) in
      let z : byte_at b (slot_at n + 1) ≡ 0 = eqb→eq _ _ (rw (and_r (ltb o 35) _ (and_l _ _ s3)) tt) in
      let m : opcode ≡ o = omega arith in
      let u : uses_list o ≡ false = rw (ne_eqb o 31 (λ w. f1 (m ∙ w)), ne_eqb o 32 (λ w. f2 (m ∙ w))) in
      let c : half_at b (slot_at n + 2) ≡ 0 = eqb→eq _ _ (rw (rw u at (and_r (ltb o 35 && eqb (byte_at b (slot_at n + 1)) 0) _ s3)) tt) in
      ⊎_elim (λ w. omega arith) (λ w. omega arith) k)

  list_slot : 31 ≤ opcode → opcode < 33
      → (eqb (word_at b (slot + 12)) 0 && (eqb (word_at b (slot + 16)) 0 && (eqb (word_at b (slot + 8)) next
      && (leb 2 count && (leb (next + count) h.entries && all_below h.registers (entries_from b count next)))))) ≡ operands_ok b n next
  unfolding operands_ok list_ok op_of op_at raw_program
  list_slot k l =
      let p = parts in
      let o = byte_at b (slot_at n) in
      let m : ℕ = half_at b (slot_at n + 2) in
      let a : ℕ = word_at b (slot_at n + 8) in
      let i : byte_at b (slot_at n) < 35 = omega arith in
      let z : byte_at b (slot_at n + 1) ≡ 0 = omega arith in
      let c : count ≡ m = p.1 in
      let us = one_of (λ (x : ℕ). (uses_list x ≡ true) × (uses_a x ≡ true) × (uses_b x ≡ false) × (uses_c x ≡ false)) 2 31 o (omega arith) (omega arith)
      ((refl, refl, refl, refl), ((refl, refl, refl, refl), tt)) in
      let al = one_of (λ (x : ℕ). op_allowed (raw_program b) n (op_of b n x) ≡ all_below (register_total b) (entries_from b m a)) 2 31 o (omega arith) (omega arith) (refl, (refl, tt)) in
      let s : zero_unless (uses_list o) m ≡ true = rw us.0 in
      rw (r.place, r.whole.numbers.registers, r.whole.numbers.entries, c)
      (ap (λ x. eqb (word_at b (slot_at n + 12)) 0 && (eqb (word_at b (slot_at n + 16)) 0 && x))
      (under (eqb a next) (λ e. ap (λ (x : ℕ). leb 2 m && (leb (next + m) (entry_total b) && all_below (register_total b) (entries_from b m x))) (sym (eqb→eq a next (rw e tt))))
      ∙ sym (and_assoc (eqb a next) (leb 2 m) (leb (next + m) (entry_total b) && all_below (register_total b) (entries_from b m a))))
      ∙ sym (slot_slot i z s (list_ok b n next && (leb (next + m) (entry_total b) && op_allowed (raw_program b) n (op_at b n))) ∙ rw (us.0, us.1, us.2, us.3, al)))

  -- what is asked of an opcode that has a list or that there is none of, in the order of the code's tests
  abbrev Listed : Bool
  Listed =
      leb 31 opcode && leb opcode 32 && eqb (word_at b (slot + 12)) 0 && eqb (word_at b (slot + 16)) 0 && eqb (word_at b (slot + 8)) next && leb 2 count
      && leb (next + count) h.entries && all_below h.registers (entries_from b count next)

  listed_at : (x : Bool) → (leb 31 opcode && leb opcode 32) ≡ x → (0 < count) ⊎ (31 ≤ opcode × (33 ≤ opcode → 35 ≤ opcode)) → operands_ok b n next ≡ Listed
  listed_at true e k =
      let l = leb-true 31 opcode (and_l _ _ e) in
      let m = leb-true opcode 32 (and_r (leb 31 opcode) _ e) in
      rw e (sym (list_slot l (omega arith)) ∙ simp and_assoc)
  listed_at false e k =
      let f1 : opcode ≡ 31 → ⊥ = λ z. absurd (let f : ◌≡◌ {A = Bool} true false = rw z at e in cc) in
      let f2 : opcode ≡ 32 → ⊥ = λ z. absurd (let f : ◌≡◌ {A = Bool} true false = rw z at e in cc) in
      rw e (sym (unlisted_slot (⊎_elim inl (λ w. let g = w.1 in inr (omega (arith, w.0, f1, f2))) k) f1 f2))

  pub listed_slot : 0 < count → operands_ok b n next ≡ Listed
  listed_slot k = listed_at (leb 31 opcode && leb opcode 32) refl (inl k)

  pub other_slot : count ≡ 0 → 31 ≤ opcode → (33 ≤ opcode → 35 ≤ opcode) → false ≡ operands_ok b n next
  other_slot zero k g =
      sym (listed_at (leb 31 opcode && leb opcode 32) refl (inr (k, g))
      ∙ rw zero (and_false' (leb 31 opcode && leb opcode 32 && eqb (word_at b (slot + 12)) 0 && eqb (word_at b (slot + 16)) 0 && eqb (word_at b (slot + 8)) next)
      (leb (next + 0) h.entries) (all_below h.registers (entries_from b 0 next))))

-- ---- the entries of a list

-- where an entry stands
pub entry_place : (b : List ℕ) (h : Header) (a i : ℕ) → Numbers b h → 32 + 24 * h.code + 12 * h.paths + 4 * a + 4 * i ≡ entry_at b (a + i)
unfolding entry_at
entry_place b h a i e = omega arith

-- where all parts end
pub end_place : (b : List ℕ) (h : Header) → Numbers b h → 32 + 24 * h.code + 12 * h.paths + 4 * h.entries ≡ entry_at b (entry_total b)
unfolding entry_at
end_place b h e = omega arith
