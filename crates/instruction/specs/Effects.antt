-- What an instruction does, before a register is changed.
use Rattle.std.specs.Prelude.{Bool, cond, List, [], ℕ, suc, ◌+◌, get_or, Float}
use Rattle.std.specs.Float.{binary64}
use Rattle.arithmetic.specs.Value.{0f, is_zero}
use Rattle.arithmetic.specs.Extremum.{extremum}
use Rattle.floats.specs.Extremum.{beyond}
use Rattle.formula.specs.Text.{half_at, word_at}
use Rattle.meaning.specs.Work.{advance, work}
use Rattle.machine.specs.Program.{Op, constant, copy, jump, jump_if_false, load, perform}
use Rattle.machine.specs.Machine.{read_all}
use Rattle.layout.specs.Decode.{entries_from, op_at, ops}
use Rattle.work.specs.View.{shown}
use Rattle.work.specs.declared.Outcome.TheVariants.{Value}
use Rattle.instruction.specs.declared.Effect.{Effect}
use Rattle.instruction.specs.declared.Effect.TheVariants.{Work, Jump}

abbrev pub shown_effect : List Float → Op → ℕ → List Float → List Float → Effect
shown_effect inputs (constant v) n kept regs = Work (Value v)
shown_effect inputs (load i) n kept regs = Work (Value (get_or inputs i 0f))
shown_effect inputs (perform o is) n kept regs = Work (shown (advance (work binary64 o (read_all regs is)) kept))
shown_effect inputs (copy i) n kept regs = Work (Value (get_or regs i 0f))
shown_effect inputs (jump_if_false i t) n kept regs = Jump (cond (is_zero (get_or regs i 0f)) t (suc n))
shown_effect inputs (jump t) n kept regs = Jump t

-- of the instruction n of the bytes
unfoldable pub effect_at : List Float → List ℕ → ℕ → List Float → List Float → Effect
effect_at inputs b n kept regs = shown_effect inputs (op_at b n) n kept regs

-- Min or Max of the registers in a list of the bytes
unfoldable pub extremum_at : Bool → List ℕ → ℕ → ℕ → List Float → Float
extremum_at most b count a regs = extremum (beyond most) (read_all regs (entries_from b count a))

-- ---- by the opcode

-- the operation of an opcode from 5 on, with the fields of the instruction at a byte
unfoldable pub operation_at : List ℕ → ℕ → ℕ → List Float → List Float → Effect
operation_at b at op kept regs =
    shown_effect [] (get_or (ops b 0 (half_at b (at + 2)) (word_at b (at + 8)) (word_at b (at + 12)) (word_at b (at + 16))) op (jump 0)) 0 kept regs
