-- Refusals 5 and 11, and room for a value that is taken.
use mathlib.Core.Path.{◌≡◌, refl, ap, sym, ◌∙◌}
use mathlib.Core.Bool.{Bool, true, false, cond, not, ◌&&◌, ◌||◌}
use mathlib.Core.List.{List, [], ◌∷◌, ◌++◌}
use mathlib.Core.Option.{Option, none, some}
use mathlib.Core.Logic.{⊎_elim}
use Prim.Native.Nat.{ℕ, suc, ◌≤◌, ◌<◌}
use native.Mathlib.Omega.{arith}
use lib.ListN.{length, length-append, set}
use borrow.Author.Tests.{le-leb, le-ltb, lt-leb, lt-ltb}
use lib.Dec.{eqb, leb, ltb}
use lib.Ieee.{Float, binary64}
use Rattle.arithmetic.specs.Value.{finite}
use Rattle.formula.specs.Text.{all, word_at}
use Rattle.formula.specs.Path.{Path}
use Rattle.meaning.specs.Work.{Question, advance, work}
use Rattle.machine.specs.Program.{Op, constant, copy, jump, jump_if_false, load, perform}
use Rattle.machine.specs.Machine as Machine
use Rattle.machine.specs.Machine.{fails, goes, more, puts, read_all}
use Rattle.layout.specs.Decode.{code_count, destination_at, input_count, op_at, path_number, path_of, raw_program, register_total}
use Rattle.work.specs.View.{shown}
use Rattle.work.specs.declared.Outcome.{Outcome}
use Rattle.work.specs.declared.Outcome.TheVariants.{Undefined, Value}
use Rattle.work.proofs.Questions.{at_most_nine, is_question, room}
use Rattle.program.proofs.Body.{code_at, code_past}
use Rattle.instruction.specs.Effects.{effect_at, shown_effect}
use Rattle.instruction.specs.Progressing.{machine_effect}
use Rattle.instruction.specs.declared.Effect.{Effect}
use Rattle.instruction.specs.declared.Effect.TheVariants.{Jump, Work}
use Rattle.instruction.proofs.Done.{done, done_is}
use Rattle.run.specs.Calls.{putting, stale_at, supplying, unfit_at}
use Rattle.run.specs.Views.{supplied_of}
use Rattle.std.specs.Prelude as Code
use Rattle.std.specs.Prelude.{Some, None, is_some}
use Rattle.instruction.proofs.Opcodes.{lt_or_ge}
use lib.Seq.{take_all}

-- ---- 5

-- the four tests, one after another
denied : (x y z w : Bool) → not (x && y && z && not w) ≡ (not x || (not y || (not z || w)))
denied false y z w = refl
denied true false z w = refl
denied true true false w = refl
denied true true true true = refl
denied true true true false = refl

not_leb : (a b : ℕ) → not (leb a b) ≡ ltb b a
not_leb a b = ⊎_elim (λ (l : b < a). rw (lt-leb a b l, lt-ltb b a l)) (λ (l : a ≤ b). rw (le-leb a b l, le-ltb b a l)) (lt_or_ge b a)

pub unfit_is : (inputs : List Float) (b : List ℕ) (regs : List Float) (budget : ℕ)
    → unfit_at inputs b regs budget ≡ (not (eqb (length inputs) (word_at b 16)) || (ltb (length regs) (word_at b 8) || (not (all finite inputs) || eqb budget 0)))
unfolding unfit_at raw_program input_count register_total
unfit_is inputs b regs budget =
    denied (eqb (length inputs) (word_at b 16)) (leb (word_at b 8) (length regs)) (all finite inputs) (eqb budget 0)
    ∙ ap (λ x. not (eqb (length inputs) (word_at b 16)) || (x || (not (all finite inputs) || eqb budget 0))) (not_leb (word_at b 8) (length regs))

-- ---- 11

module _ (inputs : List Float) (b : List ℕ) where
  puts_either : (q : Question) (x : Bool) (m : ℕ) (regs : List Float) (p : Path) → false ≡ puts binary64 inputs (raw_program b) q (cond x (goes m regs) (fails p))
  puts_either q true m regs p = refl
  puts_either q false m regs p = refl

  puts_is : (q : Question) (p : Path) (n d : ℕ) (regs : List Float) (e : Effect) → putting q e ≡ puts binary64 inputs (raw_program b) q (done p n d regs e)
  puts_is q p n d regs (Work (Value v)) = puts_either q (finite v) (suc n) (set regs d v) p
  puts_is q p n d regs (Work Undefined) = refl
  puts_is q p n d regs (Work (Outcome.Question r)) = refl
  puts_is q p n d regs (Jump to) = refl

  -- a question is put with less than nine values kept
  asked : (q : Question) (w : Outcome) → putting q (Work w) ≡ true → is_question w ≡ true
  asked q (Value v) e = e
  asked q Undefined e = e
  asked q (Outcome.Question r) e = refl

  never : {n : ℕ} → false ≡ true → n < 9
  never e = absurd (let z : ◌≡◌ {A = ℕ} 0 1 = cc in omega arith)

  op_room : (o : Op) (n : ℕ) (kept regs : List Float) (q : Question) → putting q (shown_effect inputs o n kept regs) ≡ true → length kept < 9
  op_room (constant v) n kept regs q e = never e
  op_room (load i) n kept regs q e = never e
  op_room (perform o is) n kept regs q e =
      room 9 (work binary64 o (read_all regs is)) kept (at_most_nine binary64 o (read_all regs is)) (asked q (shown (advance (work binary64 o (read_all regs is)) kept)) e)
  op_room (copy i) n kept regs q e = never e
  op_room (jump_if_false i t) n kept regs q e = never e
  op_room (jump t) n kept regs q e = never e

module _ (inputs : List Float) (b : List ℕ) (regs : List Float) (at : ℕ) (kept : List Float) where
  pub stale_past : (q : Option Question) (g : Option Float) → code_count b ≤ at → true ≡ stale_at inputs b regs at kept q g
  unfolding stale_at
  stale_past q g h = sym (rw (code_past b at h))

  puts_at : (q : Question) → putting q (effect_at inputs b at kept regs)
      ≡ puts binary64 inputs (raw_program b) q (Machine.effect binary64 inputs (raw_program b) (op_at b at) (destination_at b at) (path_of b (path_number b at)) at kept regs)
  unfolding machine_effect
  puts_at q =
      puts_is inputs b q (path_of b (path_number b at)) at (destination_at b at) regs (effect_at inputs b at kept regs)
      ∙ ap (puts binary64 inputs (raw_program b) q) (sym (done_is inputs b at kept regs))

  -- with no question pending a value may not be supplied
  pub stale_unasked : (g : Code.Option Float) → at < code_count b → is_some g ≡ stale_at inputs b regs at kept none (supplied_of g)
  unfolding stale_at
  stale_unasked None h = rw (code_at b at h)
  stale_unasked (Some x) h = rw (code_at b at h)

  -- and the one that pends is that of the instruction
  pub stale_is : (q : Question) (g : Option Float) {e : Effect} {x : Bool} → at < code_count b → x ≡ putting q e → e ≡ effect_at inputs b at kept regs → not x ≡ stale_at inputs b regs at kept (some q) g
  unfolding stale_at
  stale_is q none h f g = rw (code_at b at h) (ap not f ∙ ap (λ d. not (putting q d)) g ∙ ap not (puts_at q))
  stale_is q (some x) h f g = rw (code_at b at h) (ap not f ∙ ap (λ d. not (putting q d)) g ∙ ap not (puts_at q))

  not_false : (x : Bool) → not x ≡ false → x ≡ true
  not_false true e = refl
  not_false false e = sym e

  clash : {A : Type 0} → true ≡ false → A
  clash e = absurd (let z : ◌≡◌ {A = ℕ} 0 1 = cc in omega arith)

  kept_room : (q : Question) → putting q (effect_at inputs b at kept regs) ≡ true → length kept < 9
  unfolding effect_at
  kept_room q p = op_room inputs b (op_at b at) at kept regs q p

  -- a value that is taken has a place
  pub supplying_is : (q : Option Question) (g : Option Float) → stale_at inputs b regs at kept q g ≡ false → supplying kept g ≡ more kept g
  supplying_is q none e = refl
  supplying_is none (some v) e = ⊎_elim (λ h. clash (stale_unasked (Some v) h ∙ e)) (λ h. clash (stale_past none (some v) h ∙ e)) (lt_or_ge at (code_count b))
  supplying_is (some q) (some v) e =
      ⊎_elim
      (λ h. let p = not_false _ (stale_is q (some v) h refl refl ∙ e) in take_all 9 (kept ++ v ∷ []) (simp length-append (let l = kept_room q p in omega arith)))
      (λ h. clash (stale_past (some q) (some v) h ∙ e)) (lt_or_ge at (code_count b))

-- by name, for the code
pub ruleset told_stale = (stale_is, stale_past, stale_unasked)
