-- Calls that keep nothing: how they end, and the answer to a question that is not stale.
use mathlib.Core.Path.{◌≡◌, refl, ap, sym, ◌∙◌}
use mathlib.Core.Bool.{not, true, false}
use mathlib.Core.List.{List, []}
use mathlib.Core.Option.{Option, none, some}
use Prim.Native.Nat.{ℕ, ◌≤◌, ◌<◌}
use native.Mathlib.Omega.{arith}
use lib.ListN.{get_or}
use lib.Ieee.{Float, binary64}
use Rattle.arithmetic.specs.Value.{0f}
use Rattle.meaning.specs.Work as Meaning
use Rattle.meaning.proofs.Laws.{same_question_refl}
use Rattle.machine.specs.Machine as Machine
use Rattle.machine.specs.Machine.{asks, gives, spent}
use Rattle.layout.specs.Decode.{code_count, result_at}
use Rattle.work.specs.View.{question_of}
use Rattle.work.specs.declared.Question.{Question}
use Rattle.work.specs.declared.Outcome.TheVariants as Outcome
use Rattle.instruction.specs.Effects.{effect_at}
use Rattle.instruction.specs.declared.Effect.TheVariants.{Work}
use Rattle.instruction.proofs.Done.{question_done}
use Rattle.run.specs.Calls.{after, putting, stale_at, steps_at}
use Rattle.run.proofs.Late.{stale_is}
use Rattle.run.proofs.Looping.{asked_is, end_is, halted, spent_is}

-- ---- the end

-- a reply that keeps nothing
abbrev pub plain : Machine.Answer → ℕ → ℕ → Option Meaning.Question → List Float → Machine.Reply
plain a count at q regs = halted a count at [] q regs

module _ (inputs : List Float) (b : List ℕ) (left done at code : ℕ) (regs : List Float) (ec : code ≡ code_count b) where
  pub plain_value : (w : ℕ) (v : Float) → code ≤ at → w ≡ result_at b → v ≡ get_or regs w 0f → plain (gives v) done code none regs ≡ after done (steps_at inputs b left at [] regs)
  plain_value w v h ew ev = rw (ev, ew, ec) (end_is inputs b left done at [] regs (omega arith))

  pub plain_spent : at < code → left ≡ 0 → plain spent done at none regs ≡ after done (steps_at inputs b left at [] regs)
  plain_spent h z = spent_is inputs b left done at [] regs (omega arith) z

  pub plain_question : (q : Question) → at < code → (left ≡ 0 → ⊥) → effect_at inputs b at [] regs ≡ Work (Outcome.Question q)
      → plain (asks (question_of q)) done at (some (question_of q)) regs ≡ after done (steps_at inputs b left at [] regs)
  plain_question q h z e = asked_is inputs b left done at q [] regs (omega arith) (omega arith) (question_done inputs b at [] regs (sym e) q refl)

-- ---- the answer

module _ (inputs : List Float) (b : List ℕ) (at code : ℕ) (regs : List Float) (v : Float) (ec : code ≡ code_count b) (h : at < code) where
  pub fresh_question : (q : Question) → effect_at inputs b at [] regs ≡ Work (Outcome.Question q) → stale_at inputs b regs at [] (some (question_of q)) (some v) ≡ false
  fresh_question q e =
      let p : putting (question_of q) (effect_at inputs b at [] regs) ≡ true = ap (putting (question_of q)) e ∙ same_question_refl binary64 (question_of q) in
      sym (stale_is inputs b regs at [] (question_of q) (some v) (omega arith) refl refl) ∙ ap not p
