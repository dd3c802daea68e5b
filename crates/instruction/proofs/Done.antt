-- The machine's effect, from what the code shows of it.
use mathlib.Core.Path.{◌≡◌, refl, ap, sym, ◌∙◌}
use mathlib.Core.Bool.{true, false}
use mathlib.Core.List.{List}
use Prim.Native.Nat.{ℕ, suc, ◌+◌}
use native.Mathlib.Numerals.{add-one}
use native.Mathlib.Omega.{arith}
use lib.ListN.{set}
use lib.Ieee.{Float, binary64}
use Rattle.arithmetic.specs.Value.{finite}
use Rattle.formula.specs.Path.{Path}
use Rattle.meaning.specs.Work.{Interaction, advance, ask, elementary, give, power, undefined, work}
use Rattle.machine.specs.Program.{Op, constant, copy, jump, jump_if_false, load, perform}
use Rattle.machine.specs.Machine as Machine
use Rattle.machine.specs.Machine.{fails, goes, read_all, stored, wants, worked}
use Rattle.layout.specs.Decode.{destination_at, op_at, path_number, path_of, raw_program}
use Rattle.work.specs.View.{question_of, shown}
use Rattle.work.specs.declared.Question.{Question}
use Rattle.work.specs.declared.Outcome.TheVariants.{Undefined, Value}
use Rattle.work.specs.declared.Outcome.TheVariants as O
use Rattle.instruction.specs.Effects.{effect_at, shown_effect}
use Rattle.instruction.specs.Progressing.{Progressed, effect_of, machine_effect, registers_after}
use Rattle.instruction.specs.declared.Effect.{Effect}
use Rattle.instruction.specs.declared.Effect.TheVariants.{Jump, Work}
use Rattle.instruction.specs.declared.Progress.{Progress}
use Rattle.instruction.specs.declared.Progress.TheVariants.{Next}
use Rattle.instruction.specs.declared.Progress.TheVariants as P

-- what the machine does of what the code shows
abbrev pub done : Path → ℕ → ℕ → List Float → Effect → Machine.Effect
done p n d regs (Work (Value v)) = stored p n d regs v
done p n d regs (Work Undefined) = fails p
done p n d regs (Work (O.Question q)) = wants (question_of q)
done p n d regs (Jump to) = goes to regs

worked_is : (p : Path) (n d : ℕ) (regs : List Float) (w : Interaction) → worked p n d regs w ≡ done p n d regs (Work (shown w))
worked_is p n d regs (give v) = refl
worked_is p n d regs undefined = refl
worked_is p n d regs (ask (elementary f x) k) = refl
worked_is p n d regs (ask (power x y) k) = refl

module _ (inputs : List Float) (b : List ℕ) where
  done_op : (o : Op) (d : ℕ) (p : Path) (n : ℕ) (kept regs : List Float)
      → Machine.effect binary64 inputs (raw_program b) o d p n kept regs ≡ done p n d regs (shown_effect inputs o n kept regs)
  done_op (constant v) d p n kept regs = refl
  done_op (load i) d p n kept regs = refl
  done_op (perform o is) d p n kept regs = worked_is p n d regs (advance (work binary64 o (read_all regs is)) kept)
  done_op (copy i) d p n kept regs = refl
  done_op (jump_if_false i t) d p n kept regs = refl
  done_op (jump t) d p n kept regs = refl

  module _ (n : ℕ) (kept regs : List Float) where
    pub done_is : machine_effect inputs b n kept regs ≡ done (path_of b (path_number b n)) n (destination_at b n) regs (effect_at inputs b n kept regs)
    unfolding machine_effect effect_at
    done_is = done_op (op_at b n) (destination_at b n) (path_of b (path_number b n)) n kept regs

    module _ {E : Effect} (e : E ≡ effect_at inputs b n kept regs) where
      is : (E' : Effect) → E ≡ E' → machine_effect inputs b n kept regs ≡ done (path_of b (path_number b n)) n (destination_at b n) regs E'
      is E' f = done_is ∙ ap (done (path_of b (path_number b n)) n (destination_at b n) regs) (sym e ∙ f)

      progressed : (a : Machine.Effect) {r : Progress} {after : List Float} → machine_effect inputs b n kept regs ≡ a → effect_of b r after ≡ a → after ≡ registers_after a regs
          → ((k : ℕ) → r ≡ P.Domain k → k ≡ path_number b n) → Progressed b n (machine_effect inputs b n kept regs) r regs after
      progressed a q m s p = record { does = m ∙ sym q; stays = s ∙ ap (λ x. registers_after x regs) (sym q); place = p }

      pub value_done : {after : List Float} (v : Float) (d : ℕ) → E ≡ Work (Value v) → finite v ≡ true → d ≡ destination_at b n → after ≡ set regs d v
          → Progressed b n (machine_effect inputs b n kept regs) (Next (n + 1)) regs after
      value_done {after} v d f g h s =
          let s' : after ≡ set regs (destination_at b n) v = s ∙ ap (λ (x : ℕ). set regs x v) h in
          progressed (goes (suc n) (set regs (destination_at b n) v)) (is (Work (Value v)) f ∙ rw g) (rw (add-one, s')) s'
          (λ k z. absurd (let y : ◌≡◌ {A = ℕ} 0 1 = cc in omega arith))

      pub infinite_done : (v : Float) (k : ℕ) → E ≡ Work (Value v) → finite v ≡ false → k ≡ path_number b n → Progressed b n (machine_effect inputs b n kept regs) (P.Domain k) regs regs
      infinite_done v k f g h =
          progressed (fails (path_of b (path_number b n))) (is (Work (Value v)) f ∙ rw g) (rw h) refl
          (λ j z. let y : k ≡ j = cc in sym y ∙ h)

      pub undefined_done : (k : ℕ) → E ≡ Work Undefined → k ≡ path_number b n → Progressed b n (machine_effect inputs b n kept regs) (P.Domain k) regs regs
      undefined_done k f h = progressed (fails (path_of b (path_number b n))) (is (Work Undefined) f) (rw h) refl (λ j z. let y : k ≡ j = cc in sym y ∙ h)

      pub question_done : (q : Question) → E ≡ Work (O.Question q) → Progressed b n (machine_effect inputs b n kept regs) (P.Question q) regs regs
      question_done q f = progressed (wants (question_of q)) (is (Work (O.Question q)) f) refl refl (λ k z. absurd (let y : ◌≡◌ {A = ℕ} 0 1 = cc in omega arith))

      pub jump_done : (to : ℕ) → E ≡ Jump to → Progressed b n (machine_effect inputs b n kept regs) (Next to) regs regs
      jump_done to f = progressed (goes to regs) (is (Jump to) f) refl refl (λ k z. absurd (let y : ◌≡◌ {A = ℕ} 0 1 = cc in omega arith))
