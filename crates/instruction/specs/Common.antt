-- Instructions that ask nothing, done at once.
use Rattle.std.specs.Prelude.{◌≡◌, true, List, ℕ, ◌+◌, ◌*◌, ◌<◌, get_or, Float, Option, Some, None}
use Rattle.arithmetic.specs.Value.{finite}
use Rattle.machine.specs.Program.{jump}
use Rattle.layout.specs.Decode.{ops}
use Rattle.work.specs.declared.Outcome.TheVariants.{Value}
use Rattle.instruction.specs.Effects.{operation_at, shown_effect}
use Rattle.instruction.specs.Progressing.{Progressed, machine_effect}
use Rattle.instruction.specs.declared.Effect.TheVariants.{Work}
use Rattle.instruction.specs.declared.Progress.TheVariants.{Next}

-- a value that is finite is what an instruction of this opcode, with x and y as its first two fields, stores, whatever is kept
abbrev pub Stores : ℕ → ℕ → ℕ → List Float → List Float → Float → Type 0
Stores op x y inputs regs v =
    finite v ≡ true → (b : List ℕ) (count z n : ℕ) (kept : List Float)
    → Work (Value v) ≡ shown_effect inputs (get_or (ops b (x + 4294967296 * y) count x y z) op (jump 0)) n kept regs

-- the same of an operation whose slot begins at this byte
abbrev pub Works : List ℕ → ℕ → ℕ → List Float → Float → Type 0
Works b at op regs v = finite v ≡ true → (4 < op) × ((kept : List Float) → Work (Value v) ≡ operation_at b at op kept regs)

-- the instruction n was done, whatever is kept, and the run goes on at a place; or it was not, and nothing is changed
abbrev pub Went : List Float → List ℕ → ℕ → List Float → Option ℕ → List Float → Type 0
Went inputs b n before (Some to) after = (kept : List Float) → Progressed b n (machine_effect inputs b n kept before) (Next to) before after
Went inputs b n before None after = after ≡ before
