-- An instruction's 24 bytes read again: fields, operation, and that they may stand.
use mathlib.Core.Path.{◌≡◌, refl, ap, ap₂, ◌∙◌, subst}
use mathlib.Core.List.{List, [], ◌∷◌, ◌++◌}
use mathlib.Core.Bool.{Bool, true, false, cond, ◌&&◌}
use Prim.Native.Nat.{ℕ, zero, suc, ◌+◌, ◌<◌}
use native.Mathlib.Nat.{add-zero}
use native.Mathlib.Omega.{arith}
use lib.ListN.{length, drop, get_or}
use lib.Dec.{eqb, leb, ltb}
use lib.Ieee.{binary64, of_bits}
use borrow.Author.Tests.{eq-eqb, eqb-true, lt-ltb}
use Rattle.formula.specs.Text.{byte_at, half_at, long_at, word_at}
use Rattle.formula.specs.Operator.{Abs, Add, Ceil, Cos, Divide, Eq, Exp, Floor, Ge, Gt, Hill, InverseGaussianDensity, Le, Log, Log10, Lt, Max, Min, Modulo, Multiply, Ne, Negative, Not, Operation, Positive, Power, Sin, Sqrt, Subtract, Tan, Tanh, arity, binary, call, compare, unary}
use Rattle.formula.specs.Path.{Path}
use Rattle.machine.specs.Program.{Instruction, Op, constant, copy, instruction, jump, jump_if_false, load, perform}
use Rattle.machine.proofs.Laws.{and_true}
use Rattle.layout.specs.Opcode.{listing, operation_number}
use Rattle.layout.specs.Image.{constant_slot, fixed_slot, operation_slot, slot}
use Rattle.layout.specs.Decode.{destination_at, entries_from, entry_total, instructions, list_ok, op_at, ops, path_number, path_of, path_total, slot_at, slot_ok, slots_ok, uses_a, uses_b, uses_c, uses_list, zero_unless}
use Rattle.layout.proofs.Bytes.{Holds, head_half, head_long, head_word, holds_byte, holds_half, holds_long, holds_word}

-- the fields of the instruction n
pub record Fields (b : List ℕ) (n o c d x y z k : ℕ) : Type 0 where
  pub opcode : byte_at b (slot_at n) ≡ o
  pub blank : byte_at b (slot_at n + 1) ≡ 0
  pub count : half_at b (slot_at n + 2) ≡ c
  pub destination : word_at b (slot_at n + 4) ≡ d
  pub first : word_at b (slot_at n + 8) ≡ x
  pub second : word_at b (slot_at n + 12) ≡ y
  pub third : word_at b (slot_at n + 16) ≡ z
  pub path : word_at b (slot_at n + 20) ≡ k

module _ (b : List ℕ) (n : ℕ) where
  pub fields_of_slot : (o c d x y z k : ℕ) → Holds b (slot_at n) (slot o c d x y z k) → c < 65536 → d < 4294967296 → x < 4294967296 → y < 4294967296 → z < 4294967296
      → k < 4294967296 → Fields b n o c d x y z k
  unfolding half_at word_at
  fields_of_slot o c d x y z k h lc ld lx ly lz lk =
      let at = slot_at n in
      let R = slot o c d x y z k in
      record {
        opcode = holds_byte b at R h 0 at (omega arith) (omega arith);
        blank = holds_byte b at R h 1 (at + 1) refl (omega arith);
        count = holds_half b at R h 2 (at + 2) refl (omega arith) ∙ head_half c [] lc;
        destination = holds_word b at R h 4 (at + 4) refl (omega arith) ∙ head_word d [] ld;
        first = holds_word b at R h 8 (at + 8) refl (omega arith) ∙ head_word x [] lx;
        second = holds_word b at R h 12 (at + 12) refl (omega arith) ∙ head_word y [] ly;
        third = holds_word b at R h 16 (at + 16) refl (omega arith) ∙ head_word z [] lz;
        path = holds_word b at R h 20 (at + 20) refl (omega arith) ∙ head_word k [] lk;
      }

  -- a constant's bits stand where a and b do
  pub fields_of_constant : (bits d k : ℕ) → Holds b (slot_at n) (constant_slot bits d k) → d < 4294967296 → k < 4294967296
      → Fields b n 0 0 d (word_at b (slot_at n + 8)) (word_at b (slot_at n + 12)) 0 k
  unfolding half_at word_at
  fields_of_constant bits d k h ld lk =
      let at = slot_at n in
      let R = constant_slot bits d k in
      record {
        opcode = holds_byte b at R h 0 at (omega arith) (omega arith);
        blank = holds_byte b at R h 1 (at + 1) refl (omega arith);
        count = holds_half b at R h 2 (at + 2) refl (omega arith);
        destination = holds_word b at R h 4 (at + 4) refl (omega arith) ∙ head_word d [] ld;
        first = refl;
        second = refl;
        third = holds_word b at R h 16 (at + 16) refl (omega arith);
        path = holds_word b at R h 20 (at + 20) refl (omega arith) ∙ head_word k [] lk;
      }

  pub bits_of_constant : (bits d k : ℕ) → Holds b (slot_at n) (constant_slot bits d k) → bits < 18446744073709551616 → long_at b (slot_at n + 8) ≡ bits
  unfolding long_at half_at word_at
  bits_of_constant bits d k h l =
      let at = slot_at n in
      holds_long b at (constant_slot bits d k) h 8 (at + 8) refl (omega arith) ∙ head_long bits [] l

-- ---- what the fields are

-- opcode, a zero and unused fields as `slot_ok` has them
abbrev pub may_stand : ℕ → ℕ → ℕ → ℕ → ℕ → Bool
may_stand o c x y z =
    ltb o 35 && eqb 0 0 && zero_unless (uses_list o) c && zero_unless (uses_a o) x && zero_unless (uses_b o) y && zero_unless (uses_c o) z

-- where `next` is the first free entry: the fields may stand, a list begins there and has two entries or more, and they are the operation w
pub record Shows (b : List ℕ) (next bits o c x y z : ℕ) (w : Op) : Type 0 where
  pub stands : may_stand o c x y z ≡ true
  pub begins : cond (uses_list o) (eqb x next && leb 2 c) true ≡ true
  pub op : get_or (ops b bits c x y z) o (jump 0) ≡ w

-- a list of n numbers is its first n
abbrev firsts : ℕ → List ℕ → List ℕ
firsts zero is = []
firsts (suc n) is = get_or is 0 0 ∷ firsts n (drop 1 is)

firsts_all : (n : ℕ) (is : List ℕ) → length is ≡ n → firsts n is ≡ is
firsts_all zero [] e = refl
firsts_all zero (i ∷ is) e = absurd (omega arith)
firsts_all (suc n) [] e = absurd (omega arith)
firsts_all (suc n) (i ∷ is) e = ap (λ js. i ∷ js) (firsts_all n is (omega arith))

module _ (b : List ℕ) (next bits : ℕ) where
  -- an operation with the registers that it reads, and one that reads a list of them
  abbrev pub Fixed : Operation → List ℕ → Type 0
  Fixed o is = Shows b next bits (operation_number o) 0 (get_or is 0 0) (get_or is 1 0) (get_or is 2 0) (perform o is)

  abbrev pub Listed : Operation → List ℕ → Type 0
  Listed o is = Shows b next bits (operation_number o) (length is) next 0 0 (perform o is)

  exact : (n : ℕ) (o : Operation) (is : List ℕ) → eqb (length is) n ≡ true → Fixed o (firsts n is) → Fixed o is
  exact n o is e f = subst (Fixed o) (firsts_all n is (eqb-true (length is) n e)) f

  begins_here : (n : ℕ) → leb 2 n ≡ true → (eqb next next && leb 2 n) ≡ true
  begins_here n e = rw (eq-eqb next next refl, e)

  -- by the operation's opcode in the table
  pub operated : (o : Operation) (is : List ℕ) → arity o (length is) ≡ true → (listing o ≡ true → entries_from b (length is) next ≡ is)
      → cond (listing o) (Listed o is) (Fixed o is)
  operated (unary Positive) is e h = exact 1 _ is e record { stands = refl; begins = refl; op = refl }
  operated (unary Negative) is e h = exact 1 _ is e record { stands = refl; begins = refl; op = refl }
  operated (unary Not) is e h = exact 1 _ is e record { stands = refl; begins = refl; op = refl }
  operated (binary Add) is e h = exact 2 _ is e record { stands = refl; begins = refl; op = refl }
  operated (binary Subtract) is e h = exact 2 _ is e record { stands = refl; begins = refl; op = refl }
  operated (binary Multiply) is e h = exact 2 _ is e record { stands = refl; begins = refl; op = refl }
  operated (binary Divide) is e h = exact 2 _ is e record { stands = refl; begins = refl; op = refl }
  operated (binary Power) is e h = exact 2 _ is e record { stands = refl; begins = refl; op = refl }
  operated (binary Modulo) is e h = exact 2 _ is e record { stands = refl; begins = refl; op = refl }
  operated (compare Lt) is e h = exact 2 _ is e record { stands = refl; begins = refl; op = refl }
  operated (compare Le) is e h = exact 2 _ is e record { stands = refl; begins = refl; op = refl }
  operated (compare Gt) is e h = exact 2 _ is e record { stands = refl; begins = refl; op = refl }
  operated (compare Ge) is e h = exact 2 _ is e record { stands = refl; begins = refl; op = refl }
  operated (compare Eq) is e h = exact 2 _ is e record { stands = refl; begins = refl; op = refl }
  operated (compare Ne) is e h = exact 2 _ is e record { stands = refl; begins = refl; op = refl }
  operated (call Exp) is e h = exact 1 _ is e record { stands = refl; begins = refl; op = refl }
  operated (call Log) is e h = exact 1 _ is e record { stands = refl; begins = refl; op = refl }
  operated (call Log10) is e h = exact 1 _ is e record { stands = refl; begins = refl; op = refl }
  operated (call Sqrt) is e h = exact 1 _ is e record { stands = refl; begins = refl; op = refl }
  operated (call Sin) is e h = exact 1 _ is e record { stands = refl; begins = refl; op = refl }
  operated (call Cos) is e h = exact 1 _ is e record { stands = refl; begins = refl; op = refl }
  operated (call Tan) is e h = exact 1 _ is e record { stands = refl; begins = refl; op = refl }
  operated (call Tanh) is e h = exact 1 _ is e record { stands = refl; begins = refl; op = refl }
  operated (call Abs) is e h = exact 1 _ is e record { stands = refl; begins = refl; op = refl }
  operated (call Floor) is e h = exact 1 _ is e record { stands = refl; begins = refl; op = refl }
  operated (call Ceil) is e h = exact 1 _ is e record { stands = refl; begins = refl; op = refl }
  operated (call Min) is e h = record { stands = refl; begins = begins_here (length is) e; op = ap (perform (call Min)) (h refl) }
  operated (call Max) is e h = record { stands = refl; begins = begins_here (length is) e; op = ap (perform (call Max)) (h refl) }
  operated (call Hill) is e h = exact 3 _ is e record { stands = refl; begins = refl; op = refl }
  operated (call InverseGaussianDensity) is e h = exact 3 _ is e record { stands = refl; begins = refl; op = refl }

-- ---- one instruction

-- the instruction n may stand and is i; its list begins at the entry `next` and ends before `after`
pub record One (b : List ℕ) (n next after : ℕ) (i : Instruction) : Type 0 where
  pub slot_there : slot_ok b n ≡ true
  pub list_there : list_ok b n next ≡ true
  pub list_end : next + half_at b (slot_at n + 2) ≡ after
  pub is : instruction (op_at b n) (destination_at b n) (path_of b (path_number b n)) ≡ i

module _ (b : List ℕ) (few : path_total b < 4294967296) (n next k : ℕ) (p : Path) (named : path_of b k ≡ p) (there : k < path_total b) where
  one_of_fields : (o c d x y z : ℕ) (w : Op) → Fields b n o c d x y z k → Shows b next (long_at b (slot_at n + 8)) o c x y z w
      → One b n next (next + c) (instruction w d p)
  unfolding slot_ok list_ok op_at destination_at path_number
  one_of_fields o c d x y z w F S =
      let bits = long_at b (slot_at n + 8) in
      let op₁ : op_at b n ≡ get_or (ops b bits c x y z) o (jump 0) =
      λ i. get_or (ops b bits (F.count i) (F.first i) (F.second i) (F.third i)) (F.opcode i) (jump 0) in
      let op₂ : op_at b n ≡ w = op₁ ∙ S.op in
      let path : path_of b (path_number b n) ≡ p = ap (path_of b) F.path ∙ named in
      record {
        slot_there = rw (F.opcode, F.blank, F.count, F.first, F.second, F.third, F.path) (and_true _ _ S.stands (lt-ltb k (path_total b) there));
        list_there = rw (F.opcode, F.count, F.first) S.begins;
        list_end = ap (λ (c : ℕ). next + c) F.count;
        is = λ i. instruction (op₂ i) (F.destination i) (path i);
      }

  listless : (i : Instruction) → One b n next (next + 0) i → One b n next next i
  listless i h = rw (add-zero next) at h

  pub one_constant : (bits d : ℕ) → Holds b (slot_at n) (constant_slot bits d k) → bits < 18446744073709551616 → d < 4294967296
      → One b n next next (instruction (constant (of_bits binary64 bits)) d p)
  one_constant bits d h l ld =
      let S : Shows b next (long_at b (slot_at n + 8)) 0 0 (word_at b (slot_at n + 8)) (word_at b (slot_at n + 12)) 0 (constant (of_bits binary64 bits)) =
      record { stands = refl; begins = refl; op = ap (λ x. constant (of_bits binary64 x)) (bits_of_constant b n bits d k h l) } in
      listless _ (one_of_fields 0 0 d _ _ 0 _ (fields_of_constant b n bits d k h ld (omega arith)) S)

  -- an instruction without a list
  pub one_slot : (o d x y z : ℕ) (w : Op) → Holds b (slot_at n) (slot o 0 d x y z k) → d < 4294967296 → x < 4294967296 → y < 4294967296 → z < 4294967296
      → ((bits : ℕ) → Shows b next bits o 0 x y z w) → One b n next next (instruction w d p)
  one_slot o d x y z w h ld lx ly lz S =
      listless _ (one_of_fields o 0 d x y z w (fields_of_slot b n o 0 d x y z k h (omega arith) ld lx ly lz (omega arith)) (S (long_at b (slot_at n + 8))))

  pub one_load : (d i : ℕ) → Holds b (slot_at n) (slot 1 0 d i 0 0 k) → d < 4294967296 → i < 4294967296 → One b n next next (instruction (load i) d p)
  one_load d i h ld li = one_slot 1 d i 0 0 (load i) h ld li (omega arith) (omega arith) (λ bits. record { stands = refl; begins = refl; op = refl })

  pub one_copy : (d i : ℕ) → Holds b (slot_at n) (slot 2 0 d i 0 0 k) → d < 4294967296 → i < 4294967296 → One b n next next (instruction (copy i) d p)
  one_copy d i h ld li = one_slot 2 d i 0 0 (copy i) h ld li (omega arith) (omega arith) (λ bits. record { stands = refl; begins = refl; op = refl })

  pub one_jump_if_false : (d i t : ℕ) → Holds b (slot_at n) (slot 3 0 d i 0 t k) → d < 4294967296 → i < 4294967296 → t < 4294967296
      → One b n next next (instruction (jump_if_false i t) d p)
  one_jump_if_false d i t h ld li lt =
      one_slot 3 d i 0 t (jump_if_false i t) h ld li (omega arith) lt (λ bits. record { stands = refl; begins = refl; op = refl })

  pub one_jump : (d t : ℕ) → Holds b (slot_at n) (slot 4 0 d 0 0 t k) → d < 4294967296 → t < 4294967296
      → One b n next next (instruction (jump t) d p)
  one_jump d t h ld lt = one_slot 4 d 0 0 t (jump t) h ld (omega arith) (omega arith) lt (λ bits. record { stands = refl; begins = refl; op = refl })

  -- an operation, with its list or without
  pub one_operation : (o : Operation) (is : List ℕ) (d : ℕ) → Holds b (slot_at n) (operation_slot o is next d k) → arity o (length is) ≡ true
      → (listing o ≡ true → entries_from b (length is) next ≡ is) → d < 4294967296 → next < 4294967296 → (listing o ≡ true → length is < 65536)
      → ((j : ℕ) → get_or is j 0 < 4294967296) → One b n next (next + cond (listing o) (length is) 0) (instruction (perform o is) d p)
  one_operation o is d h a es ld ln short small = either (listing o) refl h (λ bits. operated b next bits o is a es)
    where
      either : (c : Bool) → listing o ≡ c → Holds b (slot_at n) (cond c (slot (operation_number o) (length is) d next 0 0 k) (fixed_slot o is d k))
          → ((bits : ℕ) → cond c (Listed b next bits o is) (Fixed b next bits o is)) → One b n next (next + cond c (length is) 0) (instruction (perform o is) d p)
      either true e h S =
          one_of_fields _ (length is) d next 0 0 _ (fields_of_slot b n _ (length is) d next 0 0 k h (short e) ld ln (omega arith) (omega arith) (omega arith))
          (S (long_at b (slot_at n + 8)))
      either false e h S = rw (add-zero next) (one_slot _ d (get_or is 0 0) (get_or is 1 0) (get_or is 2 0) _ h ld (small 0) (small 1) (small 2) S)

-- ---- instructions one after another

-- from the instruction n and the entry `next` on the bytes are the instructions is, and their lists end before `after`
abbrev pub Reads : List ℕ → List Instruction → ℕ → ℕ → ℕ → Type 0
Reads b [] n next after = next ≡ after
Reads b (i ∷ is) n next after = (m : ℕ) × One b n next m i × Reads b is (suc n) m after

module _ (b : List ℕ) where
  pub reads_one : (i : Instruction) (n next mid after : ℕ) → mid ≡ after → One b n next mid i → Reads b (i ∷ []) n next after
  reads_one i n next mid after e h = (mid, h, e)

  pub reads_append : (is js : List Instruction) (n m next mid after : ℕ) → m ≡ n + length is → Reads b is n next mid → Reads b js m mid after
      → Reads b (is ++ js) n next after
  reads_append [] js n m next mid after e h l = rw (h, let f : n ≡ m = omega arith in f) l
  reads_append (i ∷ is) js n m next mid after e h l = (h.0, h.1, reads_append is js (suc n) m h.0 mid after (omega arith) h.2 l)

  pub reads_instructions : (is : List Instruction) (n next after : ℕ) → Reads b is n next after → instructions b (length is) n ≡ is
  reads_instructions [] n next after h = refl
  reads_instructions (i ∷ is) n next after h = ap₂ (λ x y. x ∷ y) h.1.is (reads_instructions is (suc n) h.0 after h.2)

  pub reads_ok : (is : List Instruction) (n next after : ℕ) → Reads b is n next after → after ≡ entry_total b → slots_ok b (length is) n next ≡ true
  reads_ok [] n next after h e = eq-eqb next (entry_total b) (omega arith)
  reads_ok (i ∷ is) n next after h e =
      rw (h.1.slot_there, h.1.list_there, h.1.list_end) (reads_ok is (suc n) h.0 after h.2 e)
