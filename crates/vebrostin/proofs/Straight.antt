-- The answer to a question that the cells hold, nothing kept, goes straight on.
use Rattle.std.specs.Prelude.{Option, None, Some, IfSome, MatchOption}
use mathlib.Core.Path.{◌≡◌, refl, sym, ap, ◌∙◌}
use mathlib.Core.Bool.{Bool, true, false, ◌||◌, false≢true}
use mathlib.Core.List.{List, [], ◌∷◌}
use mathlib.Core.Option.{some}
use Prim.Native.Nat.{ℕ, ◌+◌, ◌-◌, ◌≤◌, ◌<◌}
use borrow.Author.Tests.{ltb-false}
use lib.ListN.{get_or, set}
use lib.Dec.{ltb}
use lib.Ieee.{Float}
use Rattle.arithmetic.specs.Value.{finite}
use Rattle.formula.specs.Path.{path_room}
use Rattle.formula.proofs.Tests.{or_none}
use Rattle.work.specs.declared.Question.{Question}
use Rattle.work.specs.View.{question_of}
use Rattle.machine.specs.Program.{valid}
use Rattle.machine.specs.Machine as Machine
use Rattle.machine.specs.Machine.{asks, gives, outside, refused, spent}
use Rattle.layout.specs.Decode.{code_count, destination_at, program_at}
use Rattle.run.specs.Calls.{Reaches, after, resume_at, steps_at, unfit_at}
use Rattle.run.proofs.Looping.{reaches_on, never_refused}
use Rattle.run.proofs.Plain.{fresh_question}
use Rattle.run.proofs.Single.{answered_reaches, budget_left}
use Rattle.run.proofs.Whole.{resume_goes}
use Rattle.vebrostin.specs.Cells.{state_in}
use Rattle.vebrostin.specs.Calls.{Answers, PutsOnly, is_refused}

-- what holds of an option's value and a test of it
pub where_some : {A Q : Type 0} {P R : A → Type 0} {r : Bool} (o : Option A) → MatchOption o (r ≡ false) R → IfSome o P → ((x : A) → P x → R x → r ≡ true → Q) → r ≡ true → Q
where_some None m p f e = absurd (false≢true (sym m ∙ e))
where_some (Some x) m p f e = f x p m e

-- the cells hold the question that the instruction puts
pub answers : (b : List ℕ) (regs : List Float) (cells : List ℕ) (v : Float) (q : Question) → get_or cells 0 0 < code_count b → get_or cells 1 0 ≡ 0 → finite v ≡ true
    → PutsOnly b regs (get_or cells 0 0) q → (state_in cells).pending ≡ some (question_of q) → Answers b regs cells v
answers b regs cells v q h none fine P e =
    record {
      there = h;
      none_kept = rw none;
      fresh = λ inputs. rw e (fresh_question inputs b (get_or cells 0 0) (code_count b) regs v refl h q (P.puts inputs));
      result = λ inputs. P.takes inputs v;
      is_finite = fine;
    }

-- ---- the reply

-- neither 1 nor 5
pub not_early : (room : ℕ) (u : Bool) → (ltb room 8192 || u) ≡ false → (8192 ≤ room) × (u ≡ false)
not_early room u e = (ltb-false room 8192 (or_none (ltb room 8192) u e).0, (or_none (ltb room 8192) u e).1)

not_refused : (a : Machine.Answer) → ((n : ℕ) → a ≡ refused n → ⊥) → is_refused a ≡ false
not_refused (gives v) f = refl
not_refused (asks q) f = refl
not_refused spent f = refl
not_refused (outside p) f = refl
not_refused (refused n) f = absurd (f n refl)

module _ (inputs : List Float) (b : List ℕ) (regs : List Float) (cells : List ℕ) (v : Float) (room budget : ℕ)
    (A : Answers b regs cells v) (l : path_room ≤ room) (u : unfit_at inputs b regs budget ≡ false) where
  -- the steps from the answer on are the resume
  is_resume : valid (program_at b) ≡ true → steps_at inputs b budget (get_or cells 0 0) (v ∷ []) regs ≡ resume_at inputs b room budget (some v) (state_in cells) regs
  is_resume w =
      resume_goes inputs b room budget regs (some v) (state_in cells) (v ∷ []) (rw A.none_kept) l w u
      (rw A.none_kept (A.fresh inputs))

  pub answer_stands : valid (program_at b) ≡ true → is_refused (resume_at inputs b room budget (some v) (state_in cells) regs).answer ≡ false
  answer_stands w =
      ap (λ (x : Machine.Reply). is_refused x.answer) (sym (is_resume w))
      ∙ not_refused _ (never_refused inputs b budget (get_or cells 0 0) (v ∷ []) regs)

  -- after its result is stored, and as far as the run comes at once
  module _ (d : ℕ) {regs' regs'' : List Float} (left at : ℕ) (ed : d ≡ destination_at b (get_or cells 0 0)) (es : regs' ≡ set regs d v)
      (R : Reaches inputs b (budget - 1) (get_or cells 0 0 + 1) [] regs' left at [] regs'') where
    come : Reaches inputs b budget (get_or cells 0 0) (v ∷ []) regs left at [] regs''
    come = reaches_on inputs b (answered_reaches inputs b regs budget (get_or cells 0 0) d v (budget_left inputs b regs budget u) A.there A.is_finite (A.result inputs) ed es) R

    pub answer_goes : valid (program_at b) ≡ true → after (budget - left) (steps_at inputs b left at [] regs'') ≡ resume_at inputs b room budget (some v) (state_in cells) regs
    answer_goes w = come.rest ∙ is_resume w
