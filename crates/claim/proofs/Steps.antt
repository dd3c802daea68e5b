-- A call from a place that simulates the reading: what it answers, and how the state stands after it.
use mathlib.Core.Path.{◌≡◌, refl, ◌∙◌}
use mathlib.Core.List.{List, [], ◌∷◌, ◌++◌}
use mathlib.Core.Bool.{cond, ◌&&◌}
use mathlib.Core.Option.{none, some}
use Prim.Native.Nat.{ℕ, zero, suc, ◌+◌, ◌≤◌, ◌<◌}
use native.Mathlib.Omega.{arith}
use lib.ListN.{length, get_or, get_elem?}
use lib.Dec.{ltb, eqb, eqb-suc-suc, eqb-zero-suc}
use lib.Ieee.{Float, Format}
use borrow.Author.Tests.{lt-ltb, le-ltb}
use Rattle.arithmetic.specs.Value.{0f}
use Rattle.formula.specs.Path.{Path}
use Rattle.meaning.specs.Work.{Question}
use Rattle.meaning.specs.Reading.{Outcome, question, value}
use Rattle.machine.specs.Program.{Instruction, Op, Program, instruction}
use Rattle.machine.specs.Machine.{Reply, State, counted, effect, finished, spent, steps, wants}
use Rattle.machine.proofs.Laws.{and_false, none_at, some_lt}
use Rattle.machine.proofs.Simulation.{Simulates, asked, ended, failed, went}
use Rattle.claim.specs.Claim.{Stage, over, ready, shown, stage_after, waiting}

module _ (F : Format) (inputs : List Float) (P : Program) where
  -- how a state stands to what is still to come
  abbrev pub Stands : Stage → State → List Float → (List Float → Outcome Float) → Type 0
  Stands ready st regs f = (st.pending ≡ none) × (st.position < length P.code) × Simulates F inputs P st.position st.kept regs f
  Stands waiting st regs f =
      (w : Op) × (d : ℕ) × (p : Path) × (q : Question) × (st.pending ≡ some q) × (get_elem? P.code st.position ≡ some (instruction w d p))
      × (effect F inputs P w d p st.position st.kept regs ≡ wants q) × (f [] ≡ question q)
      × ((x : Float) → Simulates F inputs P st.position (st.kept ++ x ∷ []) regs (λ s. f (x ∷ s)))
  Stands over st regs f = st.position ≡ length P.code

  pub record Went (b n : ℕ) (regs : List Float) (f : List Float → Outcome Float) (r : Reply) : Type 0 where
    pub moved : n + r.count ≤ r.state.position
    pub inside : r.state.position ≤ length P.code
    pub budget : r.count ≤ b
    pub sized : length r.registers ≡ length regs
    pub says : r.answer ≡ cond (eqb r.count b && ltb r.state.position (length P.code)) spent (shown (f []))
    pub stands : Stands (stage_after r.answer) r.state r.registers f

  pub went_done : (b : ℕ) {n : ℕ} {regs : List Float} {f : List Float → Outcome Float} → n ≡ length P.code → ((s : List Float) → f s ≡ value (get_or regs P.result 0f) s)
      → Went b n regs f (finished F inputs P regs)
  went_done b e g =
      record {
        moved = omega arith;
        inside = omega arith;
        budget = omega arith;
        sized = refl;
        says = rw (le-ltb (length P.code) (length P.code) (omega arith), and_false, g []);
        stands = refl;
      }

  pub ticked : {b n m : ℕ} {regs regs' : List Float} {f : List Float → Outcome Float} (r : Reply) → n < m → length regs' ≡ length regs → Went b m regs' f r
      → Went (suc b) n regs f (counted F inputs P r)
  ticked {b} r l z W =
      record {
        moved = omega (arith, W.moved);
        inside = W.inside;
        budget = omega (arith, W.budget);
        sized = W.sized ∙ z;
        says = rw eqb-suc-suc W.says;
        stands = W.stands;
      }

  -- no budget is left, and lowered is
  pub paused : {n : ℕ} {kept regs : List Float} {f : List Float → Outcome Float} (i : Instruction) → get_elem? P.code n ≡ some i → Simulates F inputs P n kept regs f
      → Went zero n regs f (steps F inputs P zero n kept regs)
  paused {n} {kept} {regs} i h r =
      let l : n < length P.code = some_lt P.code n i h in
      rw h
      (record {
        moved = omega arith;
        inside = omega arith;
        budget = omega arith;
        sized = refl;
        says = rw (lt-ltb n (length P.code) l);
        stands = (refl, l, r);
      })

  pub steps_right : {n : ℕ} {kept regs : List Float} {f : List Float → Outcome Float} → Simulates F inputs P n kept regs f → (b : ℕ) → Went b n regs f (steps F inputs P b n kept regs)
  steps_right (ended e g) zero = rw (none_at P.code _ e) (went_done zero e g)
  steps_right (ended e g) (suc b) = rw (none_at P.code _ e) (went_done (suc b) e g)
  steps_right (went w d p m regs' h a l z r) zero = paused (instruction w d p) h (went w d p m regs' h a l z r)
  steps_right (went w d p m regs' h a l z r) (suc b) = rw (h, a) (ticked (steps F inputs P b m [] regs') l z (steps_right r b))
  steps_right (failed w d p p' h a g) zero = paused (instruction w d p) h (failed w d p p' h a g)
  steps_right (failed {n} w d p p' h a g) (suc b) =
      let l : n < length P.code = some_lt P.code n (instruction w d p) h in
      rw (h, a)
      (record {
        moved = omega arith;
        inside = omega arith;
        budget = omega arith;
        sized = refl;
        says = rw (eqb-zero-suc, g []);
        stands = refl;
      })
  steps_right (asked w d p q h a g r) zero = paused (instruction w d p) h (asked w d p q h a g r)
  steps_right (asked {n} w d p q h a g r) (suc b) =
      let l : n < length P.code = some_lt P.code n (instruction w d p) h in
      rw (h, a)
      (record {
        moved = omega arith;
        inside = omega arith;
        budget = omega arith;
        sized = refl;
        says = rw (eqb-zero-suc, g);
        stands = (w, d, p, q, refl, h, a, g, r);
      })
