-- "10, not a program", as one pass over the bytes finds it.
use Rattle.std.specs.Prelude.{◌≡◌, Bool, ◌&&◌, List, ℕ, zero, suc, ◌+◌, ◌*◌, ◌≤◌, ◌<◌, length, eqb, leb, ltb}
use Rattle.formula.specs.Text.{half_at, word_at}
use Rattle.formula.specs.Path.{path_room}
use Rattle.machine.specs.Program.{op_allowed}
use Rattle.layout.specs.Image.{magic}
use Rattle.layout.specs.Decode.{code_count, destination_at, entry_at, entry_total, input_count, length_at, list_ok, op_at, path_number, path_total, raw_program, register_total, result_at, slot_at, slot_ok}
use Rattle.program.specs.declared.Header.{Header}

-- magic, kind, all parts there, an instruction at least, and a result
unfoldable pub header_ok : List ℕ → Bool
header_ok b =
    leb 32 (length b)
    && (eqb (word_at b 0) magic
    && (ltb (word_at b 20) 2 && (leb (entry_at b (entry_total b)) (length b) && (ltb 0 (code_count b) && ltb (result_at b) (register_total b)))))

-- destination and path are there; the path by the length that its record has
unfoldable pub placed_ok : List ℕ → ℕ → Bool
placed_ok b n =
    ltb (destination_at b n) (register_total b) && (ltb (path_number b n) (path_total b) && leb (length_at b (path_number b n)) path_room)

-- opcode, unused fields, list and operands
unfoldable pub operands_ok : List ℕ → ℕ → ℕ → Bool
operands_ok b n next =
    slot_ok b n && (list_ok b n next && (leb (next + half_at b (slot_at n + 2)) (entry_total b) && op_allowed (raw_program b) n (op_at b n)))

-- a, b and c of the instruction at a byte are below these
abbrev pub fields_below : List ℕ → ℕ → ℕ → ℕ → ℕ → Bool
fields_below b slot x y z = ltb (word_at b (slot + 8)) x && (ltb (word_at b (slot + 12)) y && ltb (word_at b (slot + 16)) z)

unfoldable pub instruction_ok : List ℕ → ℕ → ℕ → Bool
instruction_ok b n next = placed_ok b n && operands_ok b n next

abbrev pub instructions_ok : List ℕ → ℕ → ℕ → ℕ → Bool
instructions_ok b zero n next = eqb next (entry_total b)
instructions_ok b (suc left) n next = instruction_ok b n next && instructions_ok b left (suc n) (next + half_at b (slot_at n + 2))

-- ---- what was read

-- the header's numbers
pub record Numbers (b : List ℕ) (h : Header) : Type 0 where
  pub code : h.code ≡ code_count b
  pub registers : h.registers ≡ register_total b
  pub inputs : h.inputs ≡ input_count b
  pub paths : h.paths ≡ path_total b
  pub entries : h.entries ≡ entry_total b

pub record FitsHeader (h : Header) : Type 0 where
  pub code : h.code < 4294967296
  pub paths : h.paths < 4294967296
  pub entries : h.entries < 4294967296

-- all parts are there
pub record Whole (b : List ℕ) (h : Header) : Type 0 where
  pub numbers : Numbers b h
  pub fits : FitsHeader h
  pub room : 32 + 24 * h.code + 12 * h.paths + 4 * h.entries ≤ length b

-- instruction n: where it begins, its opcode and the zero after it as one number, its count, and how many entries the lists before it have
pub record Slot (b : List ℕ) (h : Header) (n slot opcode count next : ℕ) : Type 0 where
  pub whole : Whole b h
  pub inside : n < h.code
  pub place : slot ≡ slot_at n
  pub opcode_read : opcode ≡ half_at b slot
  pub count_read : count ≡ half_at b (slot + 2)
  pub count_small : count < 65536
  pub fits : next ≤ h.entries
