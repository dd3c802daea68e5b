-- The program that bytes are: docs/PROGRAM.md. Bytes that are none read as a program without code.
use Rattle.std.specs.Prelude.{Bool, true, cond, not, ◌&&◌, ◌||◌, List, [], ◌∷◌, ℕ, zero, suc, ◌+◌, ◌*◌, length, get_or, eqb, leb, ltb}
use Rattle.std.specs.Float.{binary64}
use Rattle.std.specs.Float.Ieee.{of_bits}
use Rattle.formula.specs.Text.{byte_at, half_at, long_at, word_at}
use Rattle.formula.specs.Operator.{Abs, Add, Boolean, Ceil, Cos, Divide, Eq, Exp, Floor, Ge, Gt, Hill, InverseGaussianDensity, Le, Log, Log10, Lt, Max, Min, Modulo, Multiply, Ne, Negative, Not, Number, Operation, Positive, Power, Sin, Sqrt, Subtract, Tan, Tanh, binary, call, compare, unary}
use Rattle.formula.specs.Path.{Path, Step, ◌▸◌, root, step_text}
use Rattle.machine.specs.Program.{Instruction, Op, Program, constant, copy, instruction, jump, jump_if_false, load, perform}
use Rattle.layout.specs.Opcode.{step_of}
use Rattle.layout.specs.Image.{magic}

-- ---- header

unfoldable pub code_count : List ℕ → ℕ
code_count b = word_at b 4

unfoldable pub register_total : List ℕ → ℕ
register_total b = word_at b 8

unfoldable pub result_at : List ℕ → ℕ
result_at b = word_at b 12

unfoldable pub input_count : List ℕ → ℕ
input_count b = word_at b 16

unfoldable pub path_total : List ℕ → ℕ
path_total b = word_at b 24

unfoldable pub entry_total : List ℕ → ℕ
entry_total b = word_at b 28

-- how long the parts are
abbrev pub header_size : ℕ
header_size = 32

abbrev pub slot_size : ℕ
slot_size = 24

abbrev pub record_size : ℕ
record_size = 12

abbrev pub entry_size : ℕ
entry_size = 4

-- where they stand
abbrev pub slot_at : ℕ → ℕ
slot_at n = header_size + slot_size * n

unfoldable pub record_at : List ℕ → ℕ → ℕ
record_at b k = header_size + slot_size * code_count b + record_size * k

unfoldable pub entry_at : List ℕ → ℕ → ℕ
entry_at b j = header_size + slot_size * code_count b + record_size * path_total b + entry_size * j

-- ---- lists

abbrev pub entries_from : List ℕ → ℕ → ℕ → List ℕ
entries_from b zero j = []
entries_from b (suc k) j = word_at b (entry_at b j) ∷ entries_from b k (suc j)

-- ---- instructions

abbrev pub unaries : List Operation
unaries = unary Positive ∷ unary Negative ∷ unary Not ∷ []

-- the operations of two registers, from opcode 8 on
abbrev pub pairs : List Operation
pairs =
    binary Add ∷ binary Subtract ∷ binary Multiply ∷ binary Divide ∷ binary Power ∷ binary Modulo
    ∷ compare Lt ∷ compare Le ∷ compare Gt ∷ compare Ge ∷ compare Eq ∷ compare Ne ∷ []

abbrev pub each : List ℕ → List Operation → List Op → List Op
each is [] rest = rest
each is (o ∷ os) rest = perform o is ∷ each is os rest

-- the calls of one register, from opcode 20 on
abbrev pub singles : List Operation
singles =
    call Exp ∷ call Log ∷ call Log10 ∷ call Sqrt ∷ call Sin ∷ call Cos ∷ call Tan ∷ call Tanh ∷ call Abs ∷ call Floor ∷ call Ceil ∷ []

-- what each opcode is with these fields
abbrev pub ops : List ℕ → ℕ → ℕ → ℕ → ℕ → ℕ → List Op
ops b bits count x y z =
    constant (of_bits binary64 bits) ∷ load x ∷ copy x ∷ jump_if_false x z ∷ jump z
    ∷ each (x ∷ []) unaries
    (each (x ∷ y ∷ []) pairs
    (each (x ∷ []) singles
    (perform (call Min) (entries_from b count x) ∷ perform (call Max) (entries_from b count x)
    ∷ each (x ∷ y ∷ z ∷ []) (call Hill ∷ call InverseGaussianDensity ∷ []) [])))

-- the operation of the instruction n; an opcode past the last is a jump to 0, which no program has
unfoldable pub op_at : List ℕ → ℕ → Op
op_at b n =
    let at = slot_at n in
    get_or (ops b (long_at b (at + 8)) (half_at b (at + 2)) (word_at b (at + 8)) (word_at b (at + 12)) (word_at b (at + 16))) (byte_at b at) (jump 0)

unfoldable pub destination_at : List ℕ → ℕ → ℕ
destination_at b n = word_at b (slot_at n + 4)

unfoldable pub path_number : List ℕ → ℕ → ℕ
path_number b n = word_at b (slot_at n + 20)

-- ---- paths

unfoldable pub parent_at : List ℕ → ℕ → ℕ
parent_at b k = word_at b (record_at b k)

unfoldable pub step_at : List ℕ → ℕ → Step
step_at b k = step_of (word_at b (record_at b k + 4))

unfoldable pub length_at : List ℕ → ℕ → ℕ
length_at b k = word_at b (record_at b k + 8)

-- with as many turns as its own number: a parent's number is smaller
unfoldable pub path_in : List ℕ → ℕ → ℕ → Path
path_in b zero k = root
path_in b (suc turns) k = cond (eqb k 0) root (path_in b turns (parent_at b k) ▸ step_at b k)

unfoldable pub path_of : List ℕ → ℕ → Path
path_of b k = path_in b k k

-- record 0 is the root's; any other has a smaller parent, and its text is its parent's and its step's
unfoldable pub record_ok : List ℕ → ℕ → Bool
record_ok b k =
    cond (eqb k 0) (eqb (word_at b (record_at b 0)) 0 && eqb (word_at b (record_at b 0 + 4)) 0 && eqb (length_at b 0) 4)
    (ltb (parent_at b k) k && eqb (length_at b k) (length_at b (parent_at b k) + length (step_text (step_at b k))))

abbrev pub records_ok : List ℕ → ℕ → ℕ → Bool
records_ok b zero k = true
records_ok b (suc left) k = record_ok b k && records_ok b left (suc k)

-- ---- instructions as they may stand

-- which of the list's length, a, b and c an opcode below 35 uses; the others are zero
abbrev pub uses_list : ℕ → Bool
uses_list o = eqb o 31 || eqb o 32

abbrev pub uses_a : ℕ → Bool
uses_a o = not (eqb o 4)

abbrev pub uses_b : ℕ → Bool
uses_b o = eqb o 0 || (leb 8 o && leb o 19) || leb 33 o

abbrev pub uses_c : ℕ → Bool
uses_c o = eqb o 3 || eqb o 4 || leb 33 o

abbrev pub zero_unless : Bool → ℕ → Bool
zero_unless used n = used || eqb n 0

-- opcode, a zero, unused fields, and a path number that there is
unfoldable pub slot_ok : List ℕ → ℕ → Bool
slot_ok b n =
    let at = slot_at n in
    let o = byte_at b at in
    ltb o 35 && eqb (byte_at b (at + 1)) 0 && zero_unless (uses_list o) (half_at b (at + 2)) && zero_unless (uses_a o) (word_at b (at + 8))
    && zero_unless (uses_b o) (word_at b (at + 12)) && zero_unless (uses_c o) (word_at b (at + 16)) && ltb (path_number b n) (path_total b)

-- the entry after an instruction's list, where its list begins at the next free one and has at least two entries
unfoldable pub list_ok : List ℕ → ℕ → ℕ → Bool
list_ok b n next =
    cond (uses_list (byte_at b (slot_at n))) (eqb (word_at b (slot_at n + 8)) next && leb 2 (half_at b (slot_at n + 2))) true

-- `half_at` is zero where there is no list
abbrev pub slots_ok : List ℕ → ℕ → ℕ → ℕ → Bool
slots_ok b zero n next = eqb next (entry_total b)
slots_ok b (suc left) n next = slot_ok b n && list_ok b n next && slots_ok b left (suc n) (next + half_at b (slot_at n + 2))

-- ---- the whole

abbrev pub instructions : List ℕ → ℕ → ℕ → List Instruction
instructions b zero n = []
instructions b (suc left) n = instruction (op_at b n) (destination_at b n) (path_of b (path_number b n)) ∷ instructions b left (suc n)

unfoldable pub raw_program : List ℕ → Program
raw_program b =
    record {
      code = instructions b (code_count b) 0;
      registers = register_total b;
      result = result_at b;
      inputs = input_count b;
      kind = cond (eqb (word_at b 20) 0) Number Boolean;
    }

-- magic, kind, all parts there, records and instructions as they may stand; what follows the parts is not looked at
unfoldable pub well_formed : List ℕ → Bool
well_formed b =
    leb header_size (length b) && eqb (word_at b 0) magic && ltb (word_at b 20) 2 && leb (entry_at b (entry_total b)) (length b)
    && records_ok b (path_total b) 0 && slots_ok b (code_count b) 0 0

abbrev pub no_program : Program
no_program = record { code = []; registers = 0; result = 0; inputs = 0; kind = Number }

-- the program of the bytes
unfoldable pub program_at : List ℕ → Program
program_at b = cond (well_formed b) (raw_program b) no_program
