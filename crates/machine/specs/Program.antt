-- The abstract program, and which programs may run.
use Rattle.std.specs.Prelude.{List, [], ◌∷◌, Bool, true, ◌&&◌, ℕ, suc, length, leb, ltb, Float}
use Rattle.formula.specs.Operator.{Operation, ValueKind}
use Rattle.formula.specs.Path.{Path, text, path_room}

-- registers and inputs by number, targets as places in the code
pub data Op : Type 0 where
  constant : Float → Op
  load : ℕ → Op
  perform : Operation → List ℕ → Op
  copy : ℕ → Op
  jump_if_false : ℕ → ℕ → Op
  jump : ℕ → Op

-- an operation, the register that it stores to, and the path that it stands for
pub data Instruction : Type 0 where
  instruction : Op → ℕ → Path → Instruction

pub record Program : Type 0 where
  pub code : List Instruction
  pub registers : ℕ
  pub result : ℕ
  pub inputs : ℕ
  pub kind : ValueKind

-- "a register, input, list or target outside its range (a target may be the code's end), a jump not forward": 10
abbrev pub all_below : ℕ → List ℕ → Bool
all_below n [] = true
all_below n (i ∷ is) = ltb i n && all_below n is

abbrev pub forward : Program → ℕ → ℕ → Bool
forward P at target = ltb at target && leb target (length P.code)

abbrev pub op_allowed : Program → ℕ → Op → Bool
op_allowed P at (constant v) = true
op_allowed P at (load i) = ltb i P.inputs
op_allowed P at (perform o is) = all_below P.registers is
op_allowed P at (copy i) = ltb i P.registers
op_allowed P at (jump_if_false i t) = ltb i P.registers && forward P at t
op_allowed P at (jump t) = forward P at t

-- "or a path above 8,192 bytes"
abbrev pub allowed : Program → ℕ → Instruction → Bool
allowed P at (instruction o d p) = ltb d P.registers && leb (length (text p)) path_room && op_allowed P at o

abbrev pub all_allowed : Program → ℕ → List Instruction → Bool
all_allowed P at [] = true
all_allowed P at (i ∷ is) = allowed P at i && all_allowed P (suc at) is

-- "no instruction at all": bytes that are no program read as one without code
abbrev pub valid : Program → Bool
valid P = ltb 0 (length P.code) && ltb P.result P.registers && all_allowed P 0 P.code
