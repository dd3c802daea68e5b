-- The bytes that a term's program is written as: header, instructions, path records, lists of registers.
use Rattle.std.specs.Prelude.{Bool, cond, List, [], ◌∷◌, ◌++◌, ℕ, suc, ◌+◌, length, get_or}
use Rattle.formula.specs.Text.{little_endian}
use Rattle.formula.specs.Formula.{Formula}
use Rattle.formula.specs.Path.{Path, ◌▸◌, argument, condition, else_arm, root, text, then_arm}
use Rattle.formula.specs.Term.{Term, Terms, ◌and◌, apply, branch, end, literal, miscounted, symbol, term, term_count, truth}
use Rattle.formula.specs.Operator.{Operation}
use Rattle.machine.specs.Check.{Context, kind}
use Rattle.machine.specs.Lower.{instruction_count, register_count, register_counts, result_register, result_registers}
use Rattle.layout.specs.Opcode.{kind_number, last_step, listing, operation_number}

-- the first four bytes: "VBR1"
abbrev pub magic : ℕ
magic = 0x31524256

-- ---- counts

-- one path record for each node, those that And and Or add too
abbrev mutual
  pub path_count : Term → ℕ
  path_count (literal b) = 1
  path_count (truth b) = 1
  path_count (symbol i) = 1
  path_count (apply o ts) = suc (path_counts ts)
  path_count (branch c y e) = suc (path_count c + path_count y + path_count e)
  path_count miscounted = 1

  pub path_counts : Terms → ℕ
  path_counts end = 0
  path_counts (t and ts) = path_count t + path_counts ts

-- the entries of an operation's own list
abbrev pub own_entries : Operation → Terms → ℕ → List ℕ
own_entries o ts r = cond (listing o) (result_registers ts r) []

abbrev mutual
  pub entry_count : Term → ℕ
  entry_count (literal b) = 0
  entry_count (truth b) = 0
  entry_count (symbol i) = 0
  entry_count (apply o ts) = entry_counts ts + cond (listing o) (term_count ts) 0
  entry_count (branch c y e) = entry_count c + entry_count y + entry_count e
  entry_count miscounted = 0

  pub entry_counts : Terms → ℕ
  entry_counts end = 0
  entry_counts (t and ts) = entry_count t + entry_counts ts

-- ---- an instruction's slot, 24 bytes: opcode, a zero, the list's length in 2 bytes, destination, a, b, c, path number in 4 bytes each

abbrev pub slot : ℕ → ℕ → ℕ → ℕ → ℕ → ℕ → ℕ → List ℕ
slot opcode count destination a b c path =
    opcode ∷ 0 ∷ little_endian 2 count ++ little_endian 4 destination ++ little_endian 4 a ++ little_endian 4 b ++ little_endian 4 c ++ little_endian 4 path

-- a constant's bits stand in a and b
abbrev pub constant_slot : ℕ → ℕ → ℕ → List ℕ
constant_slot bits destination path =
    0 ∷ 0 ∷ little_endian 2 0 ++ little_endian 4 destination ++ little_endian 8 bits ++ little_endian 4 0 ++ little_endian 4 path

-- 1.0 or 0.0
abbrev pub truth_bits : Bool → ℕ
truth_bits b = cond b 0x3ff0000000000000 0

-- an operation reads three registers at most, or a list that begins at an entry
abbrev pub fixed_slot : Operation → List ℕ → ℕ → ℕ → List ℕ
fixed_slot o is destination path = slot (operation_number o) 0 destination (get_or is 0 0) (get_or is 1 0) (get_or is 2 0) path

abbrev pub operation_slot : Operation → List ℕ → ℕ → ℕ → ℕ → List ℕ
operation_slot o is first destination path =
    cond (listing o) (slot (operation_number o) (length is) destination first 0 0 path) (fixed_slot o is destination path)

-- the instructions of a term whose own path number is k, where q is the next free one, r the first free register, n the place of the first instruction
-- and e the next free entry
unfoldable mutual
  pub slots : Term → ℕ → ℕ → ℕ → ℕ → ℕ → List ℕ
  slots (literal b) k q r n e = constant_slot b r k
  slots (truth b) k q r n e = constant_slot (truth_bits b) r k
  slots (symbol i) k q r n e = slot 1 0 r i 0 0 k
  slots (apply o ts) k q r n e =
      slots_all ts k q r n e ++ operation_slot o (result_registers ts r) (e + entry_counts ts) (r + register_counts ts) k
  slots (branch c y z) k q r n e =
      let r₁ = suc (r + register_count c) in
      let n₁ = suc (n + instruction_count c) in
      let r₂ = r₁ + register_count y in
      let n₂ = suc (suc (n₁ + instruction_count y)) in
      let q₁ = q + path_count c in
      let q₂ = q₁ + path_count y in
      let e₁ = e + entry_count c in
      let e₂ = e₁ + entry_count y in
      slots c q (suc q) r n e ++ slot 3 0 (r + register_count c) (result_register c r) 0 n₂ k
      ++ slots y q₁ (suc q₁) r₁ n₁ e₁ ++ slot 2 0 r₂ (result_register y r₁) 0 0 k ++ slot 4 0 (suc r₂) 0 0 (suc (n₂ + instruction_count z)) k
      ++ slots z q₂ (suc q₂) (suc (suc r₂)) n₂ e₂ ++ slot 2 0 r₂ (result_register z (suc (suc r₂))) 0 0 k
  slots miscounted k q r n e = constant_slot 0 r k

  -- children one after another, each with the next free path number for its own
  pub slots_all : Terms → ℕ → ℕ → ℕ → ℕ → ℕ → List ℕ
  slots_all end k q r n e = []
  slots_all (t and ts) k q r n e =
      slots t q (suc q) r n e ++ slots_all ts k (q + path_count t) (r + register_count t) (n + instruction_count t) (e + entry_count t)

-- ---- a path record, 12 bytes: the parent's number, the step, the text's length

abbrev pub path_record : ℕ → Path → List ℕ
path_record parent p = little_endian 4 parent ++ little_endian 4 (last_step p) ++ little_endian 4 (length (text p))

-- the records of the children of the term at p whose own number is k, where q is the next free number
unfoldable mutual
  pub below : Term → Path → ℕ → ℕ → List ℕ
  below (literal b) p k q = []
  below (truth b) p k q = []
  below (symbol i) p k q = []
  below (apply o ts) p k q = below_all ts p 0 k q
  below (branch c y z) p k q =
      let q₁ = q + path_count c in
      let q₂ = q₁ + path_count y in
      path_record k (p ▸ condition) ++ below c (p ▸ condition) q (suc q)
      ++ path_record k (p ▸ then_arm) ++ below y (p ▸ then_arm) q₁ (suc q₁)
      ++ path_record k (p ▸ else_arm) ++ below z (p ▸ else_arm) q₂ (suc q₂)
  below miscounted p k q = []

  pub below_all : Terms → Path → ℕ → ℕ → ℕ → List ℕ
  below_all end p i k q = []
  below_all (t and ts) p i k q =
      path_record k (p ▸ argument i) ++ below t (p ▸ argument i) q (suc q) ++ below_all ts p (suc i) k (q + path_count t)

-- ---- the lists of Min and Max, 4 bytes an entry, in the order of their instructions

abbrev pub entries : List ℕ → List ℕ
entries [] = []
entries (i ∷ is) = little_endian 4 i ++ entries is

unfoldable mutual
  pub lists : Term → ℕ → List ℕ
  lists (literal b) r = []
  lists (truth b) r = []
  lists (symbol i) r = []
  lists (apply o ts) r = lists_all ts r ++ entries (own_entries o ts r)
  lists (branch c y z) r =
      let r₁ = suc (r + register_count c) in
      let r₂ = r₁ + register_count y in
      lists c r ++ lists y r₁ ++ lists z (suc (suc r₂))
  lists miscounted r = []

  pub lists_all : Terms → ℕ → List ℕ
  lists_all end r = []
  lists_all (t and ts) r = lists t r ++ lists_all ts (r + register_count t)

-- ---- the whole

-- header, 32 bytes: magic, instructions, registers, result, inputs, kind, path records, entries, 4 bytes each
abbrev pub header : Context → Term → List ℕ
header C t =
    little_endian 4 magic ++ little_endian 4 (instruction_count t) ++ little_endian 4 (register_count t) ++ little_endian 4 (result_register t 0)
    ++ little_endian 4 (length C.symbols) ++ little_endian 4 (kind_number (kind t)) ++ little_endian 4 (path_count t) ++ little_endian 4 (entry_count t)

-- the root's path has the number 0
unfoldable pub image : Context → Formula → List ℕ
unfolding slots below lists
image C f = let t = term f in header C t ++ slots t 0 1 0 0 0 ++ (path_record 0 root ++ below t root 0 1) ++ lists t 0
