-- What an instruction does, by its opcode.
use mathlib.Core.Path.{◌≡◌, refl, ap, sym, ◌∙◌}
use mathlib.Core.Bool.{Bool, true, false, cond}
use mathlib.Core.List.{List, []}
use Prim.Native.Nat.{ℕ, zero, suc, ◌+◌, ◌≤◌, ◌<◌}
use mathlib.Core.Logic.{◌⊎◌, inl, inr, ⊎_elim}
use native.Mathlib.Omega.{arith}
use lib.ListN.{get_or}
use lib.Ieee.{Float, binary64, of_bits}
use Rattle.arithmetic.specs.Value.{0f, is_zero}
use Rattle.formula.specs.Text.{byte_at, half_at, long_at, word_at}
use Rattle.meaning.specs.Work.{advance}
use Rattle.machine.specs.Program.{jump}
use Rattle.layout.specs.Decode.{op_at, ops, slot_at}
use Rattle.work.specs.View.{shown}
use Rattle.work.specs.Opcode.{work_of}
use Rattle.work.specs.declared.Outcome.{Outcome}
use Rattle.work.specs.declared.Outcome.TheVariants.{Value}
use Rattle.program.proofs.Tests.{one_of}
use Rattle.program.proofs.Ops.{op_of}
use Rattle.instruction.specs.Effects.{effect_at, extremum_at, operation_at, shown_effect}
use Rattle.instruction.specs.declared.Effect.{Effect}
use Rattle.instruction.specs.declared.Effect.TheVariants.{Work, Jump}
use Rattle.instruction.proofs.Leaves.{get_d_past}
use Rattle.work.proofs.Answers.{given}

-- which of the two
pub lt_or_ge : (m n : ℕ) → (m < n) ⊎ (n ≤ m)
lt_or_ge m zero = inr (omega arith)
lt_or_ge zero (suc n) = inl (omega arith)
lt_or_ge (suc m) (suc n) = ⊎_elim (λ h. inl (omega arith)) (λ h. inr (omega arith)) (lt_or_ge m n)

-- ---- operations

module _ (b : List ℕ) (at : ℕ) (kept regs : List Float) where
  abbrev of_op : ℕ → Effect
  of_op op = shown_effect [] (get_or (ops b 0 (half_at b (at + 2)) (word_at b (at + 8)) (word_at b (at + 12)) (word_at b (at + 16))) op (jump 0)) 0 kept regs

  -- an operation on its three registers, of which it may not look at all; Min and Max have a list
  pub operands_effect : (op : ℕ) (x y z : Float) {w : Outcome} → 5 ≤ op → op < 35 → (op ≡ 31 → ⊥) → (op ≡ 32 → ⊥)
      → x ≡ get_or regs (word_at b (at + 8)) 0f → y ≡ get_or regs (word_at b (at + 12)) 0f → z ≡ get_or regs (word_at b (at + 16)) 0f
      → w ≡ shown (advance (work_of op x y z) kept) → Work w ≡ operation_at b at op kept regs
  unfolding operation_at
  operands_effect op x y z l h no_min no_max ex ey ez e =
      ap Work (rw (ex, ey, ez) at e)
      ∙ one_of (λ (m : ℕ). (m ≡ 31 → ⊥) → (m ≡ 32 → ⊥)
      → Work (shown (advance (work_of m (get_or regs (word_at b (at + 8)) 0f) (get_or regs (word_at b (at + 12)) 0f) (get_or regs (word_at b (at + 16)) 0f)) kept)) ≡ of_op m) 30 5 op l h
      (λ a b. refl, (λ a b. refl, (λ a b. refl, (λ a b. refl, (λ a b. refl, (λ a b. refl, (λ a b. refl, (λ a b. refl, (λ a b. refl, (λ a b. refl, (λ a b. refl, (λ a b. refl, (λ a b. refl, (λ a b. refl, (λ a b. refl, (λ a b. refl, (λ a b. refl, (λ a b. refl, (λ a b. refl, (λ a b. refl, (λ a b. refl, (λ a b. refl, (λ a b. refl, (λ a b. refl, (λ a b. refl, (λ a b. refl, (λ a b. absurd (a refl), (λ a b. absurd (b refl), (λ a b. refl, (λ a b. refl, tt)))))))))))))))))))))))))))))) no_min no_max

  pub extremum_effect : (most : Bool) (op count a : ℕ) (v : Float) → op ≡ cond most 32 31 → count ≡ half_at b (at + 2) → a ≡ word_at b (at + 8) → v ≡ extremum_at most b count a regs
      → Work (Value v) ≡ operation_at b at op kept regs
  unfolding operation_at extremum_at
  extremum_effect true op count a v eo ec ea e = rw eo (ap Work (ap Value (rw (ec, ea) at e) ∙ given _ kept))
  extremum_effect false op count a v eo ec ea e = rw eo (ap Work (ap Value (rw (ec, ea) at e) ∙ given _ kept))

  pub no_effect : (op : ℕ) → 35 ≤ op → Jump 0 ≡ operation_at b at op kept regs
  unfolding operation_at
  no_effect op h =
      ap (λ o. shown_effect [] o 0 kept regs)
      (sym (get_d_past (ops b 0 (half_at b (at + 2)) (word_at b (at + 8)) (word_at b (at + 12)) (word_at b (at + 16))) op (jump 0) h))

-- ---- all of them

module _ (inputs : List Float) (b : List ℕ) (n : ℕ) (kept regs : List Float) where
  -- the instruction n by its opcode
  by_op : (op : ℕ) {e : Effect} → op ≡ byte_at b (slot_at n) → e ≡ shown_effect inputs (op_of b n op) n kept regs → e ≡ effect_at inputs b n kept regs
  unfolding effect_at op_at op_of
  by_op op eo e = e ∙ ap (λ (o : ℕ). shown_effect inputs (op_of b n o) n kept regs) eo

  pub operation_is : (op : ℕ) {e : Effect} → op ≡ byte_at b (slot_at n) → 4 < op → e ≡ operation_at b (slot_at n) op kept regs → e ≡ effect_at inputs b n kept regs
  unfolding operation_at op_of
  operation_is op eo l e = by_op op eo (e ∙ ⊎_elim (λ h. inside op l h) (λ h. past op h) (lt_or_ge op 35))
    where
      inside : (o : ℕ) → 4 < o → o < 35
          → shown_effect [] (get_or (ops b 0 (half_at b (slot_at n + 2)) (word_at b (slot_at n + 8)) (word_at b (slot_at n + 12)) (word_at b (slot_at n + 16))) o (jump 0)) 0 kept regs
          ≡ shown_effect inputs (op_of b n o) n kept regs
      inside o l h =
          one_of (λ (m : ℕ). shown_effect [] (get_or (ops b 0 (half_at b (slot_at n + 2)) (word_at b (slot_at n + 8)) (word_at b (slot_at n + 12)) (word_at b (slot_at n + 16))) m (jump 0)) 0 kept regs
          ≡ shown_effect inputs (op_of b n m) n kept regs) 30 5 o (omega arith) (omega arith)
          (refl, (refl, (refl, (refl, (refl, (refl, (refl, (refl, (refl, (refl, (refl, (refl, (refl, (refl, (refl, (refl, (refl, (refl, (refl, (refl, (refl, (refl, (refl, (refl, (refl, (refl, (refl, (refl, (refl, (refl, tt))))))))))))))))))))))))))))))

      past : (o : ℕ) → 35 ≤ o
          → shown_effect [] (get_or (ops b 0 (half_at b (slot_at n + 2)) (word_at b (slot_at n + 8)) (word_at b (slot_at n + 12)) (word_at b (slot_at n + 16))) o (jump 0)) 0 kept regs
          ≡ shown_effect inputs (op_of b n o) n kept regs
      past o h =
          ap (λ p. shown_effect [] p 0 kept regs)
          (get_d_past (ops b 0 (half_at b (slot_at n + 2)) (word_at b (slot_at n + 8)) (word_at b (slot_at n + 12)) (word_at b (slot_at n + 16))) o (jump 0) h)
          ∙ ap (λ p. shown_effect inputs p n kept regs)
          (sym (get_d_past (ops b (long_at b (slot_at n + 8)) (half_at b (slot_at n + 2)) (word_at b (slot_at n + 8)) (word_at b (slot_at n + 12)) (word_at b (slot_at n + 16))) o (jump 0) h))

  pub constant_is : (op bits : ℕ) (v : Float) → op ≡ byte_at b (slot_at n) → op ≡ 0 → bits ≡ long_at b (slot_at n + 8) → v ≡ of_bits binary64 bits → Work (Value v) ≡ effect_at inputs b n kept regs
  unfolding op_of
  constant_is op bits v eo z eb e = by_op op eo (rw (z, e, eb))

  pub load_is : (op i : ℕ) (v : Float) → op ≡ byte_at b (slot_at n) → op ≡ 1 → i ≡ word_at b (slot_at n + 8) → v ≡ get_or inputs i 0f → Work (Value v) ≡ effect_at inputs b n kept regs
  unfolding op_of
  load_is op i v eo z ei e = by_op op eo (rw (z, e, ei))

  pub copy_is : (op : ℕ) (v : Float) → op ≡ byte_at b (slot_at n) → op ≡ 2 → v ≡ get_or regs (word_at b (slot_at n + 8)) 0f → Work (Value v) ≡ effect_at inputs b n kept regs
  unfolding op_of
  copy_is op v eo z e = by_op op eo (rw (z, e))

  pub jump_is : (op t : ℕ) → op ≡ byte_at b (slot_at n) → op ≡ 4 → t ≡ word_at b (slot_at n + 16) → Jump t ≡ effect_at inputs b n kept regs
  unfolding op_of
  jump_is op t eo z et = by_op op eo (rw (z, et))

  branch : (op t : ℕ) (v : Float) (x : Bool) → op ≡ byte_at b (slot_at n) → op ≡ 3 → v ≡ get_or regs (word_at b (slot_at n + 8)) 0f → is_zero v ≡ x → t ≡ cond x (word_at b (slot_at n + 16)) (suc n)
      → Jump t ≡ effect_at inputs b n kept regs
  unfolding op_of
  branch op t v x eo z e ex et =
      let q : is_zero (get_or regs (word_at b (slot_at n + 8)) 0f) ≡ x = ap is_zero (sym e) ∙ ex in
      by_op op eo (rw (z, q, et))

  pub taken_is : (op t : ℕ) (v : Float) → op ≡ byte_at b (slot_at n) → op ≡ 3 → v ≡ get_or regs (word_at b (slot_at n + 8)) 0f → is_zero v ≡ true → t ≡ word_at b (slot_at n + 16)
      → Jump t ≡ effect_at inputs b n kept regs
  taken_is op t v eo z e ex et = branch op t v true eo z e ex et

  pub passed_is : (op t : ℕ) (v : Float) → op ≡ byte_at b (slot_at n) → op ≡ 3 → v ≡ get_or regs (word_at b (slot_at n + 8)) 0f → is_zero v ≡ false → t ≡ suc n
      → Jump t ≡ effect_at inputs b n kept regs
  passed_is op t v eo z e ex et = branch op t v false eo z e ex et

-- ---- by name, for the code

pub ruleset effects = (constant_is, copy_is, jump_is, load_is, operation_is)

pub ruleset operations = (extremum_effect, no_effect, operands_effect)
