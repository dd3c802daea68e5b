-- A value that is supplied for an instruction's only question is its result.
use mathlib.Core.Path.{◌≡◌, refl, ap, sym, ◌∙◌, subst}
use mathlib.Core.Bool.{Bool, true, false, cond, not, ◌||◌, ◌&&◌}
use mathlib.Core.List.{List, [], ◌∷◌}
use mathlib.Core.Logic.{⊎_elim}
use mathlib.Core.Option.{Option, none, some}
use Prim.Native.Nat.{ℕ, zero, suc, ◌+◌, ◌-◌, ◌≤◌, ◌<◌}
use native.Mathlib.Omega.{arith}
use lib.ListN.{length, set}
use lib.Dec.{eqb, eqb→eq, leb}
use lib.Ieee.{Float, binary64, le, lt, ne}
use borrow.Author.Tests.{eq-eqb}
use Rattle.arithmetic.specs.Value.{0f, finite}
use Rattle.formula.specs.Text.{all, byte_at}
use Rattle.formula.specs.Operator.{Operation, unary, binary, compare, call, Unary, Positive, Negative, Not, Binary, Add, Subtract, Multiply, Divide, Power, Modulo, Function, Exp, Log, Log10, Sqrt, Sin, Cos, Tan, Tanh, Abs, Floor, Ceil, Min, Max, Hill, InverseGaussianDensity}
use Rattle.machine.proofs.Laws.{and_l}
use Rattle.machine.proofs.Progress.{walked}
use Rattle.meaning.specs.Work.{Interaction, Question, advance, ask, asked, binary_work, call_work, density_cost, density_work, elementary, give, hill_work, power, power_defined, unary_work, undefined, work}
use Rattle.machine.specs.Program.{Op, constant, copy, jump, jump_if_false, load, perform}
use Rattle.machine.specs.Machine as Machine
use Rattle.machine.specs.Machine.{read_all}
use Rattle.layout.specs.Decode.{code_count, destination_at, input_count, op_at, raw_program, register_total, slot_at}
use Rattle.work.specs.View.{shown}
use Rattle.work.specs.declared.Outcome.TheVariants.{Value}
use Rattle.instruction.specs.Effects.{effect_at, shown_effect}
use Rattle.instruction.specs.declared.Effect.TheVariants.{Work}
use Rattle.instruction.specs.declared.Progress.TheVariants as P
use Rattle.instruction.specs.Progressing.{Progressed, machine_effect}
use Rattle.instruction.proofs.Done.{value_done}
use Rattle.instruction.proofs.Opcodes.{lt_or_ge}
use Rattle.run.specs.Calls.{Reaches, Results, after, log_opcode, putting, single, stale_at, steps_at, unfit_at}
use Rattle.run.specs.Views.{answer_of, reply_of}
use Rattle.run.specs.declared.Reply.{Reply}
use Rattle.run.proofs.Late.{stale_is, stale_past}
use Rattle.run.proofs.Looping.{reaches_next, reaches_start}

-- ---- one operation

abbrev IsLog : Question → Type 0
IsLog (elementary f x) = f ≡ 1
IsLog (power x y) = ⊥

-- work whose first question, unless that is a Log, is its only one
record Lone (v : Float) (w : Interaction) : Type 0 where
  result : (q : Question) → (IsLog q → ⊥) → putting q (Work (shown w)) ≡ true → shown (advance w (v ∷ [])) ≡ Value v

pub never : {A : Type 0} → false ≡ true → A
never e = absurd (let z : ◌≡◌ {A = ℕ} 0 1 = cc in omega arith)

module _ (v : Float) where
  gives : (x : Float) → Lone v (give x)
  gives x = record { result = λ q n e. never e }

  nothing : Lone v undefined
  nothing = record { result = λ q n e. never e }

  either : (b : Bool) (w w' : Interaction) → Lone v w → Lone v w' → Lone v (cond b w w')
  either true w w' l r = l
  either false w w' l r = r

  not_log : (x : Float) (k : Float → Interaction) (q : Question) → (IsLog q → ⊥) → putting q (Work (shown (ask (elementary 1 x) k))) ≡ true
      → shown (advance (ask (elementary 1 x) k) (v ∷ [])) ≡ Value v
  not_log x k (elementary f y) n e = absurd (n (eqb→eq f 1 (rw (and_l (eqb f 1) _ e) tt)))
  not_log x k (power a b) n e = never e

  first_log : (x : Float) (k : Float → Interaction) → Lone v (ask (elementary 1 x) k)
  first_log x k = record { result = not_log x k }

  only : (q : Question) → Lone v (ask q (λ x. give x))
  only q = record { result = λ q n e. refl }

  of_unary : (o : Unary) (x : Float) → Lone v (unary_work binary64 o x)
  of_unary Positive x = gives _
  of_unary Negative x = gives _
  of_unary Not x = gives _

  of_binary : (o : Binary) (a b : Float) → Lone v (binary_work binary64 o a b)
  of_binary Add a b = gives _
  of_binary Subtract a b = gives _
  of_binary Multiply a b = gives _
  of_binary Divide a b = either (ne b 0f) (give _) undefined (gives _) nothing
  of_binary Power a b = either (power_defined binary64 a b) (ask (power a b) (λ x. give x)) undefined (only (power a b)) nothing
  of_binary Modulo a b = either (lt 0f b) (give _) undefined (gives _) nothing

  of_hill : (x n k : Float) → Lone v (hill_work binary64 x n k)
  unfolding hill_work
  of_hill x n k = either (le n 0f || le k 0f) undefined _ nothing (either (le x 0f) (give 0f) _ (gives 0f) (first_log x _))

  of_density : (x mean shape : Float) → Lone v (density_work binary64 x mean shape)
  unfolding density_work density_cost
  of_density x mean shape = either (le mean 0f || le shape 0f) undefined _ nothing (either (le x 0f) (give 0f) _ (gives 0f) (first_log shape _))

  of_call : (f : Function) (xs : List Float) (x y z : Float) → Lone v (call_work binary64 f xs x y z)
  of_call Exp xs x y z = only (asked Exp x)
  of_call Log xs x y z = only (asked Log x)
  of_call Log10 xs x y z = only (asked Log10 x)
  of_call Sqrt xs x y z = gives _
  of_call Sin xs x y z = only (asked Sin x)
  of_call Cos xs x y z = only (asked Cos x)
  of_call Tan xs x y z = only (asked Tan x)
  of_call Tanh xs x y z = only (asked Tanh x)
  of_call Abs xs x y z = gives _
  of_call Floor xs x y z = gives _
  of_call Ceil xs x y z = gives _
  of_call Min xs x y z = gives _
  of_call Max xs x y z = gives _
  of_call Hill xs x y z = of_hill x y z
  of_call InverseGaussianDensity xs x y z = of_density x y z

  of_work : (o : Operation) (xs : List Float) → Lone v (work binary64 o xs)
  of_work (unary o) xs = of_unary o _
  of_work (binary o) xs = of_binary o _ _
  of_work (compare o) xs = gives _
  of_work (call f) xs = of_call f xs _ _ _

  of_op : (inputs : List Float) (o : Op) (n : ℕ) (regs : List Float) (q : Question) → (IsLog q → ⊥) → putting q (shown_effect inputs o n [] regs) ≡ true
      → shown_effect inputs o n (v ∷ []) regs ≡ Work (Value v)
  of_op inputs (constant x) n regs q l e = never e
  of_op inputs (load i) n regs q l e = never e
  of_op inputs (perform o is) n regs q l e = ap Work ((of_work o (read_all regs is)).result q l e)
  of_op inputs (copy i) n regs q l e = never e
  of_op inputs (jump_if_false i t) n regs q l e = never e
  of_op inputs (jump t) n regs q l e = never e

-- ---- the instruction

module _ (inputs : List Float) (b : List ℕ) (at : ℕ) (regs : List Float) (v : Float) where
  of_log : byte_at b (slot_at at) ≡ log_opcode → effect_at inputs b at (v ∷ []) regs ≡ Work (Value v)
  unfolding effect_at op_at
  of_log e = rw e

  either_log : (f : ℕ) (x : Float) (l : Bool) → eqb f 1 ≡ l → (not l || eqb (byte_at b (slot_at at)) log_opcode) ≡ true
      → putting (elementary f x) (effect_at inputs b at [] regs) ≡ true → effect_at inputs b at (v ∷ []) regs ≡ Work (Value v)
  unfolding effect_at
  either_log f x true e s p = of_log (eqb→eq (byte_at b (slot_at at)) log_opcode (rw s tt))
  either_log f x false e s p = of_op v inputs (op_at b at) at regs (elementary f x) (λ z. never (sym e ∙ eq-eqb f 1 z)) p

  single_result : (q : Question) → single b at (some q) ≡ true → putting q (effect_at inputs b at [] regs) ≡ true → effect_at inputs b at (v ∷ []) regs ≡ Work (Value v)
  unfolding effect_at
  single_result (elementary f x) s p = either_log f x (eqb f 1) refl s p
  single_result (power x y) s p = of_op v inputs (op_at b at) at regs (power x y) (λ z. z) p

-- ---- from refusals 5 and 11 that were not

no_budget : (x y z : Bool) → not (x && y && z && false) ≡ true
no_budget true true true = refl
no_budget true true false = refl
no_budget true false z = refl
no_budget false y z = refl

pub budget_left : (inputs : List Float) (b : List ℕ) (regs : List Float) (budget : ℕ) → unfit_at inputs b regs budget ≡ false → 0 < budget
unfolding unfit_at raw_program
budget_left inputs b regs zero e = never (sym e ∙ no_budget (eqb (length inputs) (input_count b)) (leb (register_total b) (length regs)) (all finite inputs))
budget_left inputs b regs (suc n) e = omega arith

module _ (inputs : List Float) (b : List ℕ) (regs : List Float) (at : ℕ) (kept : List Float) (pending : Option Question) (given : Option Float)
    (h : stale_at inputs b regs at kept pending given ≡ false) where
  pub at_code : at < code_count b
  at_code = ⊎_elim (λ l. l) (λ l. never (sym h ∙ sym (stale_past inputs b regs at kept pending given l))) (lt_or_ge at (code_count b))

not_false : (x : Bool) → not x ≡ false → x ≡ true
not_false true e = refl
not_false false e = sym e

-- the effect of an instruction whose result is supplied
pub result_effect : (inputs : List Float) (b : List ℕ) (regs : List Float) (at : ℕ) (kept : List Float) (pending : Option Question) (v : Float)
    → stale_at inputs b regs at kept pending (some v) ≡ false → Results b at kept pending (some v) v → effect_at inputs b at (v ∷ []) regs ≡ Work (Value v)
result_effect inputs b regs at kept none v h R = never R.is_single
result_effect inputs b regs at kept (some q) v h R =
    let l = at_code inputs b regs at kept (some q) (some v) h in
    let p : putting q (effect_at inputs b at kept regs) ≡ true = not_false _ (stale_is inputs b regs at kept q (some v) l refl refl ∙ h) in
    single_result inputs b at regs v q R.is_single (subst (λ (k : List Float). putting q (effect_at inputs b at k regs) ≡ true) R.none_kept p)

-- ---- the reply

pub few_counted : (inputs : List Float) (b : List ℕ) (budget at : ℕ) (regs regs' : List Float) (r : Reply) → reply_of b r regs' ≡ steps_at inputs b budget at [] regs → r.count ≤ budget
unfolding steps_at
few_counted inputs b budget at regs regs' r e =
    let w = (walked binary64 inputs (raw_program b) budget at regs).within in
    let c = ap (λ (x : Machine.Reply). x.count) e in
    omega (arith, w, c)

-- the run goes on after it
pub answered_reaches : (inputs : List Float) (b : List ℕ) (regs : List Float) {regs' : List Float} (budget at d : ℕ) (v : Float) → 0 < budget → at < code_count b → finite v ≡ true
    → effect_at inputs b at (v ∷ []) regs ≡ Work (Value v) → d ≡ destination_at b at → regs' ≡ set regs d v → Reaches inputs b budget at (v ∷ []) regs (budget - 1) (at + 1) [] regs'
answered_reaches inputs b regs {regs'} budget at d v l h f e ed es =
    let T : Progressed b at (machine_effect inputs b at (v ∷ []) regs) (P.Next (at + 1)) regs regs' = value_done inputs b at (v ∷ []) regs (sym e) v d refl f ed es in
    reaches_next inputs b (reaches_start inputs b budget at (v ∷ []) regs) (at + 1) l h T

-- and it counts
pub answered_reply : (inputs : List Float) (b : List ℕ) (regs regs' regs'' : List Float) (budget at d : ℕ) (v : Float) (r : Reply) → 0 < budget → at < code_count b
    → finite v ≡ true → effect_at inputs b at (v ∷ []) regs ≡ Work (Value v) → d ≡ destination_at b at → regs' ≡ set regs d v
    → reply_of b r regs'' ≡ steps_at inputs b (budget - 1) (at + 1) [] regs'
    → reply_of b (record { answer = r.answer; count = r.count + 1; state = r.state }) regs'' ≡ steps_at inputs b budget at (v ∷ []) regs
unfolding after
answered_reply inputs b regs regs' regs'' budget at d v r l h f e ed es er =
    let R = answered_reaches inputs b regs budget at d v l h f e ed es in
    let c : r.count + 1 ≡ (budget - (budget - 1)) + r.count = omega arith in
    ap (λ (n : ℕ). record { answer = answer_of b r.answer; count = n; state = (reply_of b r regs'').state; registers = regs'' }) c
    ∙ ap (after (budget - (budget - 1))) er ∙ R.rest
