-- An instruction that was done, beside the machine's effect.
use Rattle.std.specs.Prelude.{◌≡◌, List, ℕ, Float}
use Rattle.std.specs.Float.{binary64}
use Rattle.machine.specs.Machine as Machine
use Rattle.machine.specs.Machine.{fails, goes, wants}
use Rattle.layout.specs.Decode.{destination_at, op_at, path_number, path_of, raw_program}
use Rattle.work.specs.View.{question_of}
use Rattle.instruction.specs.declared.Progress.{Progress}
use Rattle.instruction.specs.declared.Progress.TheVariants.{Domain, Next, Question}

-- the machine's effect of the instruction n of the bytes
unfoldable pub machine_effect : List Float → List ℕ → ℕ → List Float → List Float → Machine.Effect
machine_effect inputs b n kept regs =
    Machine.effect binary64 inputs (raw_program b) (op_at b n) (destination_at b n) (path_of b (path_number b n)) n kept regs

-- progress with the registers after it, as an effect; Domain has the number of the path's record
abbrev pub effect_of : List ℕ → Progress → List Float → Machine.Effect
effect_of b (Next to) regs = goes to regs
effect_of b (Domain k) regs = fails (path_of b k)
effect_of b (Question q) regs = wants (question_of q)

abbrev pub registers_after : Machine.Effect → List Float → List Float
registers_after (goes to regs) before = regs
registers_after (fails p) before = before
registers_after (wants q) before = before

pub record Progressed (b : List ℕ) (n : ℕ) (e : Machine.Effect) (r : Progress) (before after : List Float) : Type 0 where
  pub does : effect_of b r after ≡ e
  pub stays : after ≡ registers_after e before
  pub place : (k : ℕ) → r ≡ Domain k → k ≡ path_number b n
