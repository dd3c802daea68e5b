-- Lowering: "register and instruction counts equal Rust's, and each instruction does the one node's work, copy or jump that Rust's of the same
-- number does."
use Rattle.std.specs.Prelude.{List, [], ◌∷◌, ◌++◌, ℕ, suc, ◌+◌, length}
use Rattle.arithmetic.specs.Value.{truth_value, 0f}
use Rattle.arithmetic.specs.Constant
use Rattle.formula.specs.Path.{Path, root, ◌▸◌, argument, condition, then_arm, else_arm}
use Rattle.formula.specs.Term.{Term, Terms, literal, truth, symbol, apply, branch, miscounted, end, ◌and◌}
use Rattle.machine.specs.Check.{Context, kind}
use Rattle.machine.specs.Program.{constant, load, perform, copy, jump_if_false, jump, Instruction, instruction, Program}

-- both jumps of a branch use up a register that is never stored to; its second Copy uses none
abbrev mutual
  pub register_count : Term → ℕ
  register_count (literal b) = 1
  register_count (truth b) = 1
  register_count (symbol i) = 1
  register_count (apply o ts) = suc (register_counts ts)
  register_count (branch c y e) = suc (suc (suc (register_count c + register_count y + register_count e)))
  register_count miscounted = 1

  pub register_counts : Terms → ℕ
  register_counts end = 0
  register_counts (t and ts) = register_count t + register_counts ts

abbrev mutual
  pub instruction_count : Term → ℕ
  instruction_count (literal b) = 1
  instruction_count (truth b) = 1
  instruction_count (symbol i) = 1
  instruction_count (apply o ts) = suc (instruction_counts ts)
  instruction_count (branch c y e) = suc (suc (suc (suc (instruction_count c + instruction_count y + instruction_count e))))
  instruction_count miscounted = 1

  pub instruction_counts : Terms → ℕ
  instruction_counts end = 0
  instruction_counts (t and ts) = instruction_count t + instruction_counts ts

-- the register of a term's value, where r is the first free one
abbrev pub result_register : Term → ℕ → ℕ
result_register (literal b) r = r
result_register (truth b) r = r
result_register (symbol i) r = r
result_register (apply o ts) r = r + register_counts ts
result_register (branch c y e) r = suc (r + register_count c) + register_count y
result_register miscounted r = r

abbrev pub result_registers : Terms → ℕ → List ℕ
result_registers end r = []
result_registers (t and ts) r = result_register t r ∷ result_registers ts (r + register_count t)

-- the code of a term at a path, where r is the first free register and n the place of its first instruction
abbrev mutual
  pub lowered : Term → Path → ℕ → ℕ → List Instruction
  lowered (literal b) p r n = instruction (constant (Constant.literal b)) r p ∷ []
  lowered (truth b) p r n = instruction (constant (truth_value b)) r p ∷ []
  lowered (symbol i) p r n = instruction (load i) r p ∷ []
  lowered (apply o ts) p r n = lowered_all ts p 0 r n ++ instruction (perform o (result_registers ts r)) (r + register_counts ts) p ∷ []
  -- condition; JumpIfFalse past the then arm; then arm, Copy, Jump to the end; else arm, Copy
  lowered (branch c y e) p r n =
      let r₁ = suc (r + register_count c) in
      let n₁ = suc (n + instruction_count c) in
      let r₂ = r₁ + register_count y in
      let n₂ = suc (suc (n₁ + instruction_count y)) in
      lowered c (p ▸ condition) r n ++ instruction (jump_if_false (result_register c r) n₂) (r + register_count c) p
      ∷ (lowered y (p ▸ then_arm) r₁ n₁ ++ instruction (copy (result_register y r₁)) r₂ p ∷ instruction (jump (suc (n₂ + instruction_count e))) (suc r₂) p
      ∷ (lowered e (p ▸ else_arm) (suc (suc r₂)) n₂ ++ instruction (copy (result_register e (suc (suc r₂)))) r₂ p ∷ []))
  lowered miscounted p r n = instruction (constant 0f) r p ∷ []

  pub lowered_all : Terms → Path → ℕ → ℕ → ℕ → List Instruction
  lowered_all end p i r n = []
  lowered_all (t and ts) p i r n =
      lowered t (p ▸ argument i) r n ++ lowered_all ts p (suc i) (r + register_count t) (n + instruction_count t)

-- the program of a term
abbrev pub program : Context → Term → Program
program C t =
    record {
      code = lowered t root 0 0;
      registers = register_count t;
      result = result_register t 0;
      inputs = length C.symbols;
      kind = kind t;
    }
