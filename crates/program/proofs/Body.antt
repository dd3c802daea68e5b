-- The code of the bytes: how long it is, and what stands at a place.
use mathlib.Core.Path.{◌≡◌, refl, ap, ◌∙◌}
use mathlib.Core.List.{List}
use mathlib.Core.Option.{none, some}
use Prim.Native.Nat.{ℕ, zero, suc, ◌+◌, ◌≤◌, ◌<◌}
use native.Mathlib.Omega.{arith}
use lib.ListN.{length, get_elem?}
use Rattle.machine.specs.Program.{Instruction, instruction}
use Rattle.layout.specs.Decode.{code_count, destination_at, instructions, op_at, path_number, path_of, raw_program}

-- the instruction n
abbrev pub instruction_at : List ℕ → ℕ → Instruction
instruction_at b n = instruction (op_at b n) (destination_at b n) (path_of b (path_number b n))

length_of : (b : List ℕ) (k n : ℕ) → length (instructions b k n) ≡ k
length_of b zero n = refl
length_of b (suc k) n = ap suc (length_of b k (suc n))

there : (b : List ℕ) (k m n : ℕ) → m < k → get_elem? (instructions b k n) m ≡ some (instruction_at b (n + m))
there b zero m n h = absurd (omega arith)
there b (suc k) zero n h = let z : n ≡ n + 0 = omega arith in ap (λ (x : ℕ). some (instruction_at b x)) z
there b (suc k) (suc m) n h =
    let z : suc n + m ≡ n + suc m = omega arith in
    there b k m (suc n) (omega arith) ∙ ap (λ (x : ℕ). some (instruction_at b x)) z

past : (b : List ℕ) (k m n : ℕ) → k ≤ m → get_elem? (instructions b k n) m ≡ none
past b zero m n h = refl
past b (suc k) zero n h = absurd (omega arith)
past b (suc k) (suc m) n h = past b k m (suc n) (omega arith)

pub code_length : (b : List ℕ) → length (raw_program b).code ≡ code_count b
unfolding raw_program
code_length b = length_of b (code_count b) 0

pub code_at : (b : List ℕ) (m : ℕ) → m < code_count b → get_elem? (raw_program b).code m ≡ some (instruction_at b m)
unfolding raw_program
code_at b m h =
    let z : 0 + m ≡ m = omega arith in
    there b (code_count b) m 0 h ∙ ap (λ (x : ℕ). some (instruction_at b x)) z

pub code_past : (b : List ℕ) (m : ℕ) → code_count b ≤ m → get_elem? (raw_program b).code m ≡ none
unfolding raw_program
code_past b m h = past b (code_count b) m 0 h
