-- No operation asks for what three cells can't hold, so no state that a run or a resume makes has such a question pending.
use mathlib.Core.Path.{◌≡◌, refl}
use mathlib.Core.Bool.{Bool, true, false, cond, not, ◌||◌, true≢false}
use mathlib.Core.List.{List, [], ◌∷◌}
use mathlib.Core.Option.{Option, none, some}
use Prim.Native.Nat.{ℕ, zero, suc, ◌<◌}
use native.Mathlib.Omega.{arith}
use lib.ListN.{get_or, get_elem?}
use lib.Dec.{ltb}
use lib.Ieee.{Float, Format, binary64, sub, mul, lt, le, eq, ne}
use Rattle.arithmetic.specs.Value.{0f, finite}
use Rattle.formula.specs.Operator.{Operation, unary, binary, compare, call, Unary, Positive, Negative, Not, Binary, Add, Subtract, Multiply, Divide, Power, Modulo, Function, Exp, Log, Log10, Sqrt, Sin, Cos, Tan, Tanh, Abs, Floor, Ceil, Min, Max, Hill, InverseGaussianDensity}
use Rattle.formula.specs.Path.{Path, path_room}
use Rattle.meaning.specs.Work.{Interaction, give, undefined, ask, power, advance, work, unary_work, binary_work, call_work, power_defined, hill_work, density_work, density_cost}
use Rattle.machine.specs.Program.{Instruction, Op, Program, constant, copy, instruction, jump, jump_if_false, load, perform, valid}
use Rattle.machine.specs.Machine.{Effect, Reply, State, effect, fails, followed, fresh, goes, more, next, out_of_budget, read_all, refuse, stale, steps, unfit, wants, worked}
use Rattle.layout.specs.Decode.{program_at}
use Rattle.run.specs.Calls.{resume_at, run_at}
use Rattle.vebrostin.specs.Cells.{Askable, question_of}
use Rattle.vebrostin.specs.Calls.{is_refused}

-- ---- one operation

-- every question of some work, whatever the answers
abbrev Asks : Interaction → Type 0
Asks (give v) = Unit {0}
Asks undefined = Unit {0}
Asks (ask q k) = Askable (some q) × ((x : Float) → Asks (k x))

either : (b : Bool) (v w : Interaction) → Asks v → Asks w → Asks (cond b v w)
either true v w p q = p
either false v w p q = q

exp_few : (0 < 255) × (◌≡◌ {A = ℕ} 0 16 → ⊥)
exp_few = (omega arith, λ e. omega arith)

log_few : (1 < 255) × (◌≡◌ {A = ℕ} 1 16 → ⊥)
log_few = (omega arith, λ e. omega arith)

module _ (F : Format) where
  of_unary : (o : Unary) (x : Float) → Asks (unary_work F o x)
  of_unary Positive x = tt
  of_unary Negative x = tt
  of_unary Not x = tt

  of_binary : (o : Binary) (a b : Float) → Asks (binary_work F o a b)
  of_binary Add a b = tt
  of_binary Subtract a b = tt
  of_binary Multiply a b = tt
  of_binary Divide a b = either (ne b 0f) (give _) undefined tt tt
  of_binary Power a b = either (power_defined F a b) (ask (power a b) (λ v. give v)) undefined (tt, λ v. tt) tt
  of_binary Modulo a b = either (lt 0f b) (give _) undefined tt tt

  of_hill : (x n k : Float) → Asks (hill_work F x n k)
  unfolding hill_work
  of_hill x n k =
      either (le n 0f || le k 0f) undefined _ tt
      (either (le x 0f) (give 0f) _ tt
      (log_few, λ a. (log_few, λ b. either (le 0f (mul F n (sub F a b))) _ _ (exp_few, λ e. tt) (exp_few, λ q. tt))))

  of_density : (x mean shape : Float) → Asks (density_work F x mean shape)
  unfolding density_work density_cost
  of_density x mean shape =
      either (le mean 0f || le shape 0f) undefined _ tt
      (either (le x 0f) (give 0f) _ tt (
        log_few,
        λ a. (
          log_few,
          λ b. (
            log_few,
            λ c. either (eq x mean) _ _ (exp_few, λ v. tt)
                (log_few, λ d. (log_few, λ e. (log_few, λ f. (log_few, λ g. (exp_few, λ h. (exp_few, λ v. tt)))))),
          ),
        ),
      ))

  of_call : (f : Function) (xs : List Float) (x y z : Float) → Asks (call_work F f xs x y z)
  of_call Exp xs x y z = (exp_few, λ v. tt)
  of_call Log xs x y z = (log_few, λ v. tt)
  of_call Log10 xs x y z = ((omega arith, λ e. omega arith), λ v. tt)
  of_call Sqrt xs x y z = tt
  of_call Sin xs x y z = ((omega arith, λ e. omega arith), λ v. tt)
  of_call Cos xs x y z = ((omega arith, λ e. omega arith), λ v. tt)
  of_call Tan xs x y z = ((omega arith, λ e. omega arith), λ v. tt)
  of_call Tanh xs x y z = ((omega arith, λ e. omega arith), λ v. tt)
  of_call Abs xs x y z = tt
  of_call Floor xs x y z = tt
  of_call Ceil xs x y z = tt
  of_call Min xs x y z = tt
  of_call Max xs x y z = tt
  of_call Hill xs x y z = of_hill x y z
  of_call InverseGaussianDensity xs x y z = of_density x y z

  work_asks : (o : Operation) (xs : List Float) → Asks (work F o xs)
  work_asks (unary o) xs = of_unary o (get_or xs 0 0f)
  work_asks (binary o) xs = of_binary o (get_or xs 0 0f) (get_or xs 1 0f)
  work_asks (compare o) xs = tt
  work_asks (call f) xs = of_call f xs (get_or xs 0 0f) (get_or xs 1 0f) (get_or xs 2 0f)

advance_asks : (w : Interaction) (ks : List Float) → Asks w → Asks (advance w ks)
advance_asks w [] a = a
advance_asks (give v) (k ∷ ks) a = tt
advance_asks undefined (k ∷ ks) a = tt
advance_asks (ask q f) (k ∷ ks) a = advance_asks (f k) ks (a.1 k)

-- ---- one instruction

abbrev Puts : Effect → Type 0
Puts (goes to regs) = Unit {0}
Puts (fails p) = Unit {0}
Puts (wants q) = Askable (some q)

stores : (b : Bool) (to : ℕ) (regs : List Float) (p : Path) → Puts (cond b (goes to regs) (fails p))
stores true to regs p = tt
stores false to regs p = tt

works : (p : Path) (at d : ℕ) (regs : List Float) (w : Interaction) → Asks w → Puts (worked p at d regs w)
works p at d regs (give v) a = stores (finite v) _ _ p
works p at d regs undefined a = tt
works p at d regs (ask q k) a = a.0

module _ (F : Format) (inputs : List Float) (P : Program) where
  effect_puts : (o : Op) (d : ℕ) (p : Path) (at : ℕ) (kept regs : List Float) → Puts (effect F inputs P o d p at kept regs)
  effect_puts (constant v) d p at kept regs = stores (finite v) _ _ p
  effect_puts (load i) d p at kept regs = stores (finite (get_or inputs i 0f)) _ _ p
  effect_puts (perform o is) d p at kept regs =
      let w = work F o (read_all regs is) in
      works p at d regs (advance w kept) (advance_asks w kept (work_asks F o (read_all regs is)))
  effect_puts (copy i) d p at kept regs = stores (finite (get_or regs i 0f)) _ _ p
  effect_puts (jump_if_false i t) d p at kept regs = tt
  effect_puts (jump t) d p at kept regs = tt

  -- ---- one call

  -- what pends after a call is the question that it put, and the cells can hold it
  abbrev Left : Reply → Type 0
  Left r = Askable r.state.pending × (r.state.pending ≡ question_of r.answer)

  paused : (at : ℕ) (kept regs : List Float) (i : Option Instruction) → Left (out_of_budget F inputs P at kept regs i)
  paused at kept regs none = (tt, refl)
  paused at kept regs (some i) = (tt, refl)

  goes_on : (rest : ℕ → List Float → Reply) → ((to : ℕ) (regs : List Float) → Left (rest to regs)) → (at : ℕ) (kept regs : List Float) (e : Effect) → Puts e
      → Left (followed F inputs P rest at kept regs e)
  goes_on rest h at kept regs (goes to regs') a = h to regs'
  goes_on rest h at kept regs (fails p) a = (tt, refl)
  goes_on rest h at kept regs (wants q) a = (a, refl)

  then : (rest : ℕ → List Float → Reply) → ((to : ℕ) (regs : List Float) → Left (rest to regs)) → (at : ℕ) (kept regs : List Float) (i : Option Instruction)
      → Left (next F inputs P rest at kept regs i)
  then rest h at kept regs none = (tt, refl)
  then rest h at kept regs (some (instruction o d p)) = goes_on rest h at kept regs (effect F inputs P o d p at kept regs) (effect_puts o d p at kept regs)

  pub steps_asks : (budget at : ℕ) (kept regs : List Float) → Left (steps F inputs P budget at kept regs)
  steps_asks zero at kept regs = paused at kept regs (get_elem? P.code at)
  steps_asks (suc budget) at kept regs =
      then (λ to regs'. steps F inputs P budget to [] regs') (λ to regs'. steps_asks budget to [] regs') at kept regs (get_elem? P.code at)

  -- a refusal, or what goes on
  refuses : (b : Bool) (n : ℕ) (regs : List Float) (r : Reply) → Left r → Left (cond b (refuse n fresh regs) r)
  refuses true n regs r h = (tt, refl)
  refuses false n regs r h = h

  abbrev Lasting : Reply → Type 0
  Lasting r = is_refused r.answer ≡ false → Left r

  turns : (b : Bool) (n : ℕ) (st : State) (regs : List Float) (r : Reply) → Lasting r → Lasting (cond b (refuse n st regs) r)
  turns true n st regs r h e = absurd (true≢false e)
  turns false n st regs r h e = h e

pub run_asks : (inputs : List Float) (b : List ℕ) (room budget : ℕ) (regs : List Float) → (let r = run_at inputs b room budget regs in
    Askable r.state.pending × (r.state.pending ≡ question_of r.answer))
unfolding run_at
run_asks inputs b room budget regs =
    let P = program_at b in
    let s = steps binary64 inputs P budget 0 [] regs in
    refuses binary64 inputs P (ltb room path_room) 1 regs _
    (refuses binary64 inputs P (not (valid P)) 10 regs _
    (refuses binary64 inputs P (unfit binary64 inputs P regs budget) 5 regs s (steps_asks binary64 inputs P budget 0 [] regs)))

pub resume_asks : (inputs : List Float) (b : List ℕ) (room budget : ℕ) (given : Option Float) (st : State) (regs : List Float)
    → (let r = resume_at inputs b room budget given st regs in
    is_refused r.answer ≡ false → Askable r.state.pending × (r.state.pending ≡ question_of r.answer))
unfolding resume_at
resume_asks inputs b room budget given st regs =
    let P = program_at b in
    let s = steps binary64 inputs P budget st.position (more st.kept given) regs in
    turns binary64 inputs P (ltb room path_room) 1 st regs _
    (turns binary64 inputs P (not (valid P)) 10 st regs _
    (turns binary64 inputs P (unfit binary64 inputs P regs budget) 5 st regs _
    (turns binary64 inputs P (stale binary64 inputs P st regs given) 11 st regs s (λ e. steps_asks binary64 inputs P budget st.position (more st.kept given) regs))))
