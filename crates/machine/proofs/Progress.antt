-- The laws of specs/Progress, of every resume and every run.
use mathlib.Core.Path.{◌≡◌, refl, ap, sym, subst}
use mathlib.Core.List.{List, [], ◌∷◌}
use mathlib.Core.Bool.{Bool, true, false, not, cond, ◌&&◌}
use mathlib.Core.Option.{Option, none, some}
use Prim.Native.Nat.{ℕ, zero, suc, ◌+◌, ◌≤◌, ◌<◌}
use native.Mathlib.Omega.{arith}
use lib.ListN.{length, get_or, get_elem?}
use lib.Dec.{eqb, leb, ltb}
use lib.Ieee.{Float, Format}
use borrow.Author.Tests.{ltb-true, not-false}
use Rattle.refusals.specs.Numbers.{invalid_input, no_program, slice_too_short, stale_state}
use Rattle.arithmetic.specs.Value.{0f, finite, is_zero}
use Rattle.formula.specs.Text.{all}
use Rattle.formula.specs.Path.{Path, path_room}
use Rattle.meaning.specs.Work.{Interaction, Question, advance, ask, give, undefined, work}
use Rattle.machine.specs.Program.{Instruction, Op, Program, all_allowed, allowed, constant, copy, forward, instruction, jump, jump_if_false, load, op_allowed, perform, valid}
use Rattle.machine.specs.Machine.{Call, Effect, Reply, State, effect, fails, followed, fresh, goes, more, next, out_of_budget, puts, read_all, refuse, resume, run, spent, stale, stale_at, steps, unfit, wants, worked}
use Rattle.machine.specs.Progress.{Answers, Lawful, Leaves, Progress, completes, consumes, effect_at, is_domain, is_refused, only_asks}
use Rattle.machine.proofs.Laws.{and_l, and_r, lt_some, some_lt, unlike}

clash : {A : Type 0} → true ≡ false → A
clash e = unlike cc

module _ (F : Format) (inputs : List Float) (P : Program) where
  -- ---- jumps go forward

  allowed_at : (is : List Instruction) (n at m : ℕ) (i : Instruction) → n + at ≡ m → all_allowed P n is ≡ true → get_elem? is at ≡ some i → allowed P m i ≡ true
  allowed_at [] n at m i s a e = cc
  allowed_at (j ∷ is) n zero m i s a e =
      let k : j ≡ i = cc in
      let l : n ≡ m = omega arith in
      subst (λ x. allowed P x i ≡ true) l (subst (λ x. allowed P n x ≡ true) k (and_l (allowed P n j) _ a))
  allowed_at (j ∷ is) n (suc at) m i s a e = allowed_at is (suc n) at m i (omega arith) (and_r (allowed P n j) _ a) e

  stored_on : (x : Bool) (at m : ℕ) (p : Path) (regs regs' : List Float) → cond x (goes (suc at) regs) (fails p) ≡ goes m regs' → at < m
  stored_on true at m p regs regs' e = let z : suc at ≡ m = cc in omega arith
  stored_on false at m p regs regs' e = unlike cc

  worked_on : (a : Interaction) (at m d : ℕ) (p : Path) (regs regs' : List Float) → worked p at d regs a ≡ goes m regs' → at < m
  worked_on (give v) at m d p regs regs' e = stored_on (finite v) at m p _ regs' e
  worked_on undefined at m d p regs regs' e = unlike cc
  worked_on (ask q k) at m d p regs regs' e = unlike cc

  jumped_on : (x : Bool) (at t m : ℕ) (regs regs' : List Float) → at < t → goes (cond x t (suc at)) regs ≡ goes m regs' → at < m
  jumped_on true at t m regs regs' h e = let z : t ≡ m = cc in omega arith
  jumped_on false at t m regs regs' h e = let z : suc at ≡ m = cc in omega arith

  forward_on : (at t : ℕ) → forward P at t ≡ true → at < t
  forward_on at t e = ltb-true at t (and_l (ltb at t) _ e)

  op_on : (o : Op) (at m d : ℕ) (p : Path) (kept regs regs' : List Float) → op_allowed P at o ≡ true → effect F inputs P o d p at kept regs ≡ goes m regs' → at < m
  op_on (constant v) at m d p kept regs regs' a e = stored_on (finite v) at m p _ regs' e
  op_on (load i) at m d p kept regs regs' a e = stored_on (finite (get_or inputs i 0f)) at m p _ regs' e
  op_on (perform o is) at m d p kept regs regs' a e = worked_on (advance (work F o (read_all regs is)) kept) at m d p regs regs' e
  op_on (copy i) at m d p kept regs regs' a e = stored_on (finite (get_or regs i 0f)) at m p _ regs' e
  op_on (jump_if_false i t) at m d p kept regs regs' a e = jumped_on (is_zero (get_or regs i 0f)) at t m regs regs' (forward_on at t (and_r (ltb i P.registers) _ a)) e
  op_on (jump t) at m d p kept regs regs' a e = jumped_on true at t m regs regs' (forward_on at t a) e

  -- ---- from a place on

  pub record Walked (b at : ℕ) (r : Reply) : Type 0 where
    pub within : r.count ≤ b
    pub spends : r.answer ≡ spent → (r.count ≡ b) × (r.state.position < length P.code)
    pub moves : all_allowed P 0 P.code ≡ true → r.answer ≡ spent → at + b ≤ r.state.position
    pub leaves : (before : State) → Leaves F inputs P before r.answer r.state

  -- no budget is left, and nothing is kept
  walked_none : (at : ℕ) (regs : List Float) (i : Option Instruction) → get_elem? P.code at ≡ i → Walked zero at (out_of_budget F inputs P at [] regs i)
  walked_none at regs none e =
      record { within = omega arith; spends = λ s. unlike cc; moves = λ a s. unlike cc; leaves = λ st. refl }
  walked_none at regs (some i) e =
      record { within = omega arith; spends = λ s. (refl, some_lt P.code at i e); moves = λ a s. omega arith; leaves = λ st. (refl, refl) }

  module _ (b : ℕ) (rest : ℕ → List Float → Reply) (walks : (to : ℕ) (regs : List Float) → Walked b to (rest to regs)) (at : ℕ) (kept regs : List Float) where
    walked_effect : (e : Effect) → (all_allowed P 0 P.code ≡ true → (m : ℕ) (regs' : List Float) → e ≡ goes m regs' → at < m) → Walked (suc b) at (followed F inputs P rest at kept regs e)
    walked_effect (goes to regs') on =
        let W = walks to regs' in
        record {
          within = omega (arith, W.within);
          spends = λ s. (ap suc (W.spends s).0, (W.spends s).1);
          moves = λ a s. omega (arith, on a to regs' refl, W.moves a s);
          leaves = W.leaves;
        }
    walked_effect (fails p) on =
        record { within = omega arith; spends = λ s. unlike cc; moves = λ a s. unlike cc; leaves = λ st. refl }
    walked_effect (wants q) on =
        record { within = omega arith; spends = λ s. unlike cc; moves = λ a s. unlike cc; leaves = λ st. refl }

    walked_next : (i : Option Instruction) → get_elem? P.code at ≡ i → Walked (suc b) at (next F inputs P rest at kept regs i)
    walked_next none e =
        record { within = omega arith; spends = λ s. unlike cc; moves = λ a s. unlike cc; leaves = λ st. refl }
    walked_next (some (instruction o d p)) e =
        walked_effect (effect F inputs P o d p at kept regs)
        (λ a m regs' f. op_on o at m d p kept regs regs' (and_r (ltb d P.registers && _) _ (allowed_at P.code 0 at at (instruction o d p) (omega arith) a e)) f)

  pub walked : (b at : ℕ) (regs : List Float) → Walked b at (steps F inputs P b at [] regs)
  walked zero at regs = walked_none at regs (get_elem? P.code at) refl
  walked (suc b) at regs = walked_next b (λ to regs'. steps F inputs P b to [] regs') (walked b) at [] regs (get_elem? P.code at) refl

  -- ---- one call

  module _ (g : Option Float) (st : State) (regs : List Float) where
    put : (q : Question) (e : Effect) → puts F inputs P q e ≡ true → (q' : Question) × (e ≡ wants q') × (puts F inputs P q (wants q') ≡ true)
    put q (goes to regs') e = clash (sym e)
    put q (fails p) e = clash (sym e)
    put q (wants q') e = (q', refl, e)

    answers : (h : Option Float) (i : Instruction) (pending : Option Question) → st.pending ≡ pending → get_elem? P.code st.position ≡ some i
        → stale_at F inputs P st regs h (some i) pending ≡ false → Answers F inputs P h st regs
    answers none i pending e f s = tt
    answers (some x) (instruction o d p) none e f s = clash s
    answers (some x) (instruction o d p) (some q) e f s =
        let w = put q (effect F inputs P o d p st.position st.kept regs) (not-false _ s) in
        (q, w.0, e, rw f (ap some w.1), w.2)

    progress_effect : (h : Option Float) (rest : ℕ → List Float → Reply) (e : Effect) → effect_at F inputs P st.position (more st.kept h) regs ≡ some e
        → Answers F inputs P h st regs → Progress F inputs P h st regs (followed F inputs P rest st.position (more st.kept h) regs e)
    progress_effect h rest (goes to regs') f a = completes to regs' a f (omega arith)
    progress_effect h rest (fails p) f a = is_domain p a f refl
    progress_effect none rest (wants q) f a = only_asks q refl f refl
    progress_effect (some x) rest (wants q) f a = consumes x q refl a refl refl

    progress_next : (rest : ℕ → List Float → Reply) (i : Option Instruction) → get_elem? P.code st.position ≡ i → stale_at F inputs P st regs g i st.pending ≡ false
        → Progress F inputs P g st regs (next F inputs P rest st.position (more st.kept g) regs i)
    progress_next rest none e s = clash s
    progress_next rest (some (instruction o d p)) e s =
        progress_effect g rest (effect F inputs P o d p st.position (more st.kept g) regs) (rw e) (answers g (instruction o d p) st.pending refl e s)

    lawful_refused : (n b : ℕ) → Lawful F inputs P b g st regs (refuse n st regs)
    lawful_refused n b =
        record {
          progress = is_refused n refl;
          within = omega arith;
          spends = λ s. unlike cc;
          enough = λ l s. unlike cc;
          leaves = refl;
        }

    lawful_steps : (b : ℕ) → valid P ≡ true → (eqb b 0 ≡ true → ⊥) → stale F inputs P st regs g ≡ false
        → Lawful F inputs P b g st regs (steps F inputs P b st.position (more st.kept g) regs)
    lawful_steps zero v n s = absurd (n refl)
    lawful_steps (suc b) v n s =
        let rest : ℕ → List Float → Reply = λ to regs'. steps F inputs P b to [] regs' in
        let W = walked_next b rest (walked b) st.position (more st.kept g) regs (get_elem? P.code st.position) refl in
        record {
          progress = progress_next rest (get_elem? P.code st.position) refl s;
          within = W.within;
          spends = W.spends;
          enough = λ l t. omega (arith, (W.spends t).1, W.moves (and_r (ltb 0 (length P.code) && ltb P.result P.registers) _ v) t);
          leaves = W.leaves st;
        }

    unless_refused : (x : Bool) (n b : ℕ) (r : Reply) → (x ≡ false → Lawful F inputs P b g st regs r) → Lawful F inputs P b g st regs (cond x (refuse n st regs) r)
    unless_refused true n b r h = lawful_refused n b
    unless_refused false n b r h = h refl

  -- a call that is not refused has a budget
  budget_test : (x y : Bool) → not (x && not y) ≡ false → y ≡ true → ⊥
  budget_test true true e f = clash e
  budget_test true false e f = clash (sym f)
  budget_test false y e f = clash e

  budgeted : (regs : List Float) (b : ℕ) → unfit F inputs P regs b ≡ false → eqb b 0 ≡ true → ⊥
  budgeted regs b e = budget_test (eqb (length inputs) P.inputs && leb P.registers (length regs) && all finite inputs) (eqb b 0) e

  pub resume_lawful : (c : Call) (st : State) (regs : List Float) → Lawful F inputs P c.budget c.given st regs (resume F inputs P c st regs)
  resume_lawful c st regs =
      let b = c.budget in
      let g = c.given in
      unless_refused g st regs (ltb c.room path_room) slice_too_short b _
      (λ w. unless_refused g st regs (not (valid P)) no_program b _
      (λ v. unless_refused g st regs (unfit F inputs P regs b) invalid_input b _
      (λ u. unless_refused g st regs (stale F inputs P st regs g) stale_state b _ (λ s. lawful_steps g st regs b (not-false _ v) (budgeted regs b u) s))))

  -- ---- a run is a resume of the fresh state

  same_unless : (x : Bool) (a r r' : Reply) → (x ≡ false → r ≡ r') → cond x a r ≡ cond x a r'
  same_unless true a r r' h = refl
  same_unless false a r r' h = h refl

  not_stale : (regs : List Float) → valid P ≡ true → stale F inputs P fresh regs none ≡ false
  not_stale regs v = rw (lt_some P.code 0 (ltb-true 0 (length P.code) (and_l _ _ (and_l _ _ v)))).3

  pub run_is_resume : (c : Call) (regs : List Float) → run F inputs P c regs ≡ resume F inputs P (record { room = c.room; budget = c.budget; given = none }) fresh regs
  run_is_resume c regs =
      let r = steps F inputs P c.budget 0 [] regs in
      same_unless (ltb c.room path_room) _ _ _
      (λ w. same_unless (not (valid P)) _ _ _
      (λ v. same_unless (unfit F inputs P regs c.budget) _ _ _
      (λ u. ap (λ (x : Bool). cond x (refuse stale_state fresh regs) r) (sym (not_stale regs (not-false _ v))))))

  pub run_lawful : (c : Call) (regs : List Float) → Lawful F inputs P c.budget none fresh regs (run F inputs P c regs)
  run_lawful c regs =
      subst (λ r. Lawful F inputs P c.budget none fresh regs r) (sym (run_is_resume c regs)) (resume_lawful (record { room = c.room; budget = c.budget; given = none }) fresh regs)
