-- What lowering writes is a program: refusal 10 never comes.
use mathlib.Core.Path.{◌≡◌, refl, ap}
use mathlib.Core.List.{List, [], ◌∷◌, ◌++◌}
use mathlib.Core.Bool.{true}
use mathlib.Core.Option.{none}
use Prim.Native.Nat.{ℕ, suc, ◌+◌, ◌*◌, ◌≤◌, ◌<◌}
use native.Mathlib.Omega.{arith}
use lib.ListN.{length}
use lib.Dec.{ltb}
use borrow.Author.Tests.{lt-ltb, le-leb}
use Rattle.arithmetic.specs.Value.{0f, truth_value}
use Rattle.arithmetic.specs.Constant
use Rattle.formula.specs.Operator.{Boolean, same_kind}
use Rattle.formula.specs.Path.{Path, ◌▸◌, argument, condition, else_arm, root, text, then_arm}
use Rattle.formula.specs.Term.{Term, Terms, ◌and◌, apply, branch, end, literal, miscounted, symbol, term_count, truth}
use Rattle.machine.specs.Check.{Context, dynamic, fault, faults, kind, supported, unless}
use Rattle.machine.specs.Program.{Instruction, Op, Program, all_allowed, all_below, allowed, constant, copy, instruction, jump, jump_if_false, load, op_allowed, perform, valid}
use Rattle.machine.specs.Lower.{instruction_count, instruction_counts, lowered, lowered_all, program, register_count, register_counts, result_register, result_registers}
use Rattle.machine.proofs.Laws.{and_l, and_r, and_true, instruction_count_pos, length_lowered, length_lowered_all, none_left, none_right, result_lt, unless_none}
use Rattle.machine.specs.Paths.{longest_path, longest_paths}
use Rattle.machine.proofs.Size.{Narrow, Narrows, argument_short, condition_short, else_short, then_short}

module _ (P : Program) (C : Context) (same_count : P.inputs ≡ length C.symbols) where
  cons_allowed : (o : Op) (d : ℕ) (p : Path) (n : ℕ) (is : List Instruction) → d < P.registers → length (text p) ≤ 8192 → op_allowed P n o ≡ true
      → all_allowed P (suc n) is ≡ true → all_allowed P n (instruction o d p ∷ is) ≡ true
  cons_allowed o d p n is h l a b = rw (lt-ltb d P.registers h, le-leb (length (text p)) 8192 l, a, b)

  one_allowed : (o : Op) (d : ℕ) (p : Path) (n : ℕ) → d < P.registers → length (text p) ≤ 8192 → op_allowed P n o ≡ true
      → all_allowed P n (instruction o d p ∷ []) ≡ true
  one_allowed o d p n h l a = cons_allowed o d p n [] h l a refl

  allowed_append : (a b : List Instruction) (n m : ℕ) → n + length a ≡ m → all_allowed P n a ≡ true → all_allowed P m b ≡ true → all_allowed P n (a ++ b) ≡ true
  allowed_append [] b n m e ha hb = rw (← hb) (ap (λ x. all_allowed P x b) (omega arith))
  allowed_append (i ∷ a) b n m e ha hb =
      rw (and_l (allowed P n i) _ ha) (allowed_append a b (suc n) m (omega arith) (and_r (allowed P n i) _ ha) hb)

  below_results : (ts : Terms) (r : ℕ) → r + register_counts ts ≤ P.registers → all_below P.registers (result_registers ts r) ≡ true
  below_results end r h = refl
  below_results (t and ts) r h =
      and_true _ _ (lt-ltb (result_register t r) P.registers (omega (arith, result_lt t r))) (below_results ts (r + register_count t) (omega arith))

  mutual
    allowed_lowered : (t : Term) (p : Path) (r n : ℕ) → fault C t p ≡ none → Narrow t → r + register_count t ≤ P.registers → n + instruction_count t ≤ length P.code
        → length (text p) + 17 * longest_path t ≤ 8192 → all_allowed P n (lowered t p r n) ≡ true
    allowed_lowered (literal b) p r n ok w g l z = one_allowed (constant (Constant.literal b)) r p n (omega arith) (omega arith) refl
    allowed_lowered (truth b) p r n ok w g l z = one_allowed (constant (truth_value b)) r p n (omega arith) (omega arith) refl
    allowed_lowered (symbol i) p r n ok w g l z =
        one_allowed (load i) r p n (omega arith) (omega arith) (rw same_count (unless_none (ltb i (length C.symbols)) 6 p ok))
    allowed_lowered miscounted p r n ok w g l z = one_allowed (constant 0f) r p n (omega arith) (omega arith) refl
    allowed_lowered (apply o ts) p r n ok w g l z =
        allowed_append (lowered_all ts p 0 r n) _ n (n + instruction_counts ts) (omega (arith, length_lowered_all ts p 0 r n))
        (allowed_lowered_all ts p 0 r n (none_left _ _ ok) (omega (arith, w.0)) w.1 (omega arith) (omega arith) z)
        (one_allowed (perform o (result_registers ts r)) (r + register_counts ts) p (n + instruction_counts ts) (omega arith) (omega arith) (below_results ts r (omega arith)))
    allowed_lowered (branch c y e) p r n ok w g l z =
        let r₁ = suc (r + register_count c) in
        let n₁ = suc (n + instruction_count c) in
        let r₂ = r₁ + register_count y in
        let n₂ = suc (suc (n₁ + instruction_count y)) in
        let ok₁ = none_right (fault C c (p ▸ condition)) _ ok in
        let ok₂ = none_right (unless (same_kind (kind c) Boolean) 7 p) _ ok₁ in
        let ok₃ = none_right (unless (supported C (dynamic C c)) 8 p) _ ok₂ in
        let ok₄ = none_right (fault C y (p ▸ then_arm)) _ ok₃ in
        let t₄ : List Instruction = instruction (copy (result_register e (suc (suc r₂)))) r₂ p ∷ [] in
        let t₃ : List Instruction = lowered e (p ▸ else_arm) (suc (suc r₂)) n₂ ++ t₄ in
        let t₂ : List Instruction = instruction (jump (suc (n₂ + instruction_count e))) (suc r₂) p ∷ t₃ in
        let t₁ : List Instruction = instruction (copy (result_register y r₁)) r₂ p ∷ t₂ in
        let t₀ : List Instruction = lowered y (p ▸ then_arm) r₁ n₁ ++ t₁ in
        let short : length (text p) ≤ 8192 = omega arith in
        allowed_append (lowered c (p ▸ condition) r n) (instruction (jump_if_false (result_register c r) n₂) (r + register_count c) p ∷ t₀) n (n + instruction_count c)
        (omega (arith, length_lowered c (p ▸ condition) r n))
        (allowed_lowered c (p ▸ condition) r n (none_left _ _ ok) w.0 (omega arith) (omega arith) (omega (arith, condition_short p)))
        (cons_allowed (jump_if_false (result_register c r) n₂) (r + register_count c) p (n + instruction_count c) t₀ (omega arith) short
        (rw (
          lt-ltb (result_register c r) P.registers (omega (arith, result_lt c r)),
          lt-ltb (n + instruction_count c) n₂ (omega arith),
          le-leb n₂ (length P.code) (omega arith),
        ))
        (allowed_append (lowered y (p ▸ then_arm) r₁ n₁) t₁ n₁ (n₁ + instruction_count y) (omega (arith, length_lowered y (p ▸ then_arm) r₁ n₁))
        (allowed_lowered y (p ▸ then_arm) r₁ n₁ (none_left _ _ ok₃) w.1 (omega arith) (omega arith) (omega (arith, then_short p)))
        (cons_allowed (copy (result_register y r₁)) r₂ p (n₁ + instruction_count y) t₂ (omega arith) short
        (lt-ltb (result_register y r₁) P.registers (omega (arith, result_lt y r₁)))
        (cons_allowed (jump (suc (n₂ + instruction_count e))) (suc r₂) p (suc (n₁ + instruction_count y)) t₃ (omega arith) short
        (rw (lt-ltb (suc (n₁ + instruction_count y)) (suc (n₂ + instruction_count e)) (omega arith), le-leb (suc (n₂ + instruction_count e)) (length P.code) (omega arith)))
        (allowed_append (lowered e (p ▸ else_arm) (suc (suc r₂)) n₂) t₄ n₂ (n₂ + instruction_count e) (omega (arith, length_lowered e (p ▸ else_arm) (suc (suc r₂)) n₂))
        (allowed_lowered e (p ▸ else_arm) (suc (suc r₂)) n₂ (none_left _ _ ok₄) w.2 (omega arith) (omega arith) (omega (arith, else_short p)))
        (one_allowed (copy (result_register e (suc (suc r₂)))) r₂ p (n₂ + instruction_count e) (omega arith) short
        (lt-ltb (result_register e (suc (suc r₂))) P.registers (omega (arith, result_lt e (suc (suc r₂)))))))))))

    allowed_lowered_all : (ts : Terms) (p : Path) (i r n : ℕ) → faults C ts p i ≡ none → i + term_count ts ≤ 65536 → Narrows ts → r + register_counts ts ≤ P.registers
        → n + instruction_counts ts ≤ length P.code → length (text p) + 17 * longest_paths ts ≤ 8192 → all_allowed P n (lowered_all ts p i r n) ≡ true
    allowed_lowered_all end p i r n ok m w g l z = refl
    allowed_lowered_all (t and ts) p i r n ok m w g l z =
        allowed_append (lowered t (p ▸ argument i) r n) _ n (n + instruction_count t) (omega (arith, length_lowered t (p ▸ argument i) r n))
        (allowed_lowered t (p ▸ argument i) r n (none_left _ _ ok) w.0 (omega arith) (omega arith) (omega (arith, argument_short p i (omega arith))))
        (allowed_lowered_all ts p (suc i) (r + register_count t) (n + instruction_count t) (none_right (fault C t (p ▸ argument i)) _ ok) (omega arith) w.1 (omega arith)
        (omega arith) (omega arith))

pub program_valid : (C : Context) (t : Term) → fault C t root ≡ none → Narrow t → 17 * longest_path t ≤ 8188 → valid (program C t) ≡ true
program_valid C t ok w z =
    rw (
      lt-ltb 0 (length (lowered t root 0 0)) (omega (arith, length_lowered t root 0 0, instruction_count_pos t)),
      lt-ltb (result_register t 0) (register_count t) (omega (arith, result_lt t 0)),
      allowed_lowered (program C t) C refl t root 0 0 ok w (omega arith) (omega (arith, length_lowered t root 0 0)) (omega arith),
    )
