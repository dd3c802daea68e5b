-- Instructions whose work is one question and its answer: Power within its domain, and the functions of one argument that the host answers.
use mathlib.Core.Path.{◌≡◌, refl, ap, ◌∙◌}
use mathlib.Core.Bool.{true, ◌&&◌}
use mathlib.Core.List.{List, [], ◌∷◌}
use Prim.Native.Nat.{ℕ, ◌+◌, ◌-◌, ◌≤◌, ◌<◌}
use native.Mathlib.Omega.{arith}
use borrow.Author.Tests.{eqb-false, eqb-true, leb-true, ltb-true, not-true}
use lib.Dec.{eqb, leb, ltb}
use lib.ListN.{get_or}
use lib.Ieee.{Float, binary64}
use Rattle.arithmetic.specs.Value.{0f}
use Rattle.formula.specs.Text.{byte_at, half_at, long_at, word_at}
use Rattle.formula.proofs.Tests.{and_first, and_second}
use Rattle.meaning.specs.Work.{power_defined}
use Rattle.machine.specs.Program.{jump}
use Rattle.layout.specs.Decode.{op_at, ops, slot_at}
use Rattle.work.specs.Opcode.{puts_function}
use Rattle.work.specs.declared.Outcome.TheVariants.{Question, Value}
use Rattle.work.specs.declared.Question.TheVariants.{Elementary, Power}
use Rattle.program.proofs.Tests.{one_of}
use Rattle.instruction.specs.Effects.{effect_at, shown_effect}
use Rattle.instruction.specs.declared.Effect.{Effect}
use Rattle.instruction.specs.declared.Effect.TheVariants.{Work}

-- which opcodes these are
pub function_range : (op : ℕ) → puts_function op ≡ true → (20 ≤ op) × (op < 28) × (op ≡ 23 → ⊥)
function_range op e =
    let r = and_second (leb 20 op) _ e in (
      leb-true 20 op (and_first (leb 20 op) _ e),
      ltb-true op 28 (and_first (ltb op 28) _ r),
      eqb-false op 23 (not-true (eqb op 23) (and_second (ltb op 28) _ r)),
    )

module _ (inputs : List Float) (b : List ℕ) (n : ℕ) (regs : List Float) (op i : ℕ) (x : Float)
    (eo : op ≡ byte_at b (slot_at n)) (ei : i ≡ word_at b (slot_at n + 8)) (ex : x ≡ get_or regs i 0f) where
  is_x : x ≡ get_or regs (word_at b (slot_at n + 8)) 0f
  is_x = ex ∙ ap (λ (k : ℕ). get_or regs k 0f) ei

  -- ---- Power

  module _ (j : ℕ) (y : Float) (ej : j ≡ word_at b (slot_at n + 12)) (ey : y ≡ get_or regs j 0f) (h : (eqb op 12 && power_defined binary64 x y) ≡ true) where
    is_y : y ≡ get_or regs (word_at b (slot_at n + 12)) 0f
    is_y = ey ∙ ap (λ (k : ℕ). get_or regs k 0f) ej

    is_power : byte_at b (slot_at n) ≡ 12
    is_power = omega (arith, eo, eqb-true op 12 (and_first (eqb op 12) _ h))

    is_defined : power_defined binary64 (get_or regs (word_at b (slot_at n + 8)) 0f) (get_or regs (word_at b (slot_at n + 12)) 0f) ≡ true
    is_defined = rw (← is_x, ← is_y) (and_second (eqb op 12) _ h)

    pub power_puts : effect_at inputs b n [] regs ≡ Work (Question (Power x y))
    unfolding effect_at op_at
    power_puts = rw (is_power, is_defined, is_x, is_y)

    pub power_takes : (v : Float) → effect_at inputs b n (v ∷ []) regs ≡ Work (Value v)
    unfolding effect_at op_at
    power_takes v = rw (is_power, is_defined)

  -- ---- the functions

  module _ (h : puts_function op ≡ true) where
    abbrev effect_of : List Float → ℕ → Effect
    effect_of kept m = shown_effect inputs (get_or (ops b (long_at b (slot_at n + 8)) (half_at b (slot_at n + 2)) (word_at b (slot_at n + 8)) (word_at b (slot_at n + 12)) (word_at b (slot_at n + 16))) m (jump 0)) n kept regs

    pub function_puts : effect_at inputs b n [] regs ≡ Work (Question (Elementary (op - 20) x))
    unfolding effect_at op_at
    function_puts =
        let r = function_range op h in
        rw (← eo, is_x)
        (one_of (λ (m : ℕ). (m ≡ 23 → ⊥) → effect_of [] m ≡ Work (Question (Elementary (m - 20) (get_or regs (word_at b (slot_at n + 8)) 0f)))) 8 20 op r.0 r.1
        (λ z. refl, (λ z. refl, (λ z. refl, (λ z. absurd (z refl), (λ z. refl, (λ z. refl, (λ z. refl, (λ z. refl, tt)))))))) r.2)

    pub function_takes : (v : Float) → effect_at inputs b n (v ∷ []) regs ≡ Work (Value v)
    unfolding effect_at op_at
    function_takes v =
        let r = function_range op h in
        rw (← eo)
        (one_of (λ (m : ℕ). (m ≡ 23 → ⊥) → effect_of (v ∷ []) m ≡ Work (Value v)) 8 20 op r.0 r.1
        (λ z. refl, (λ z. refl, (λ z. refl, (λ z. absurd (z refl), (λ z. refl, (λ z. refl, (λ z. refl, (λ z. refl, tt)))))))) r.2)
