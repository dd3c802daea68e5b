-- The number of an answer, and the laws of every call (machine/specs/Progress), of run and resume on bytes.
use mathlib.Core.Path.{◌≡◌, refl, ap, sym, ◌∙◌, subst}
use mathlib.Core.List.{List}
use mathlib.Core.Option.{Option, none}
use Prim.Native.Nat.{ℕ}
use lib.Ieee.{Float, binary64}
use Rattle.formula.specs.Path.{placed}
use Rattle.machine.specs.Machine as Machine
use Rattle.machine.specs.Machine.{fresh, number_of, place_of}
use Rattle.machine.specs.Progress.{Lawful}
use Rattle.machine.proofs.Progress.{resume_lawful, run_is_resume, run_lawful}
use Rattle.layout.specs.Decode.{program_at}
use Rattle.run.specs.Views.{HandsBack, answer_of, refusal_number, reply_of}
use Rattle.run.specs.Calls.{resume_at, run_at}
use Rattle.run.specs.declared.Answer.{Answer}
use Rattle.run.specs.declared.Answer.TheVariants as A
use Rattle.run.specs.declared.Reply.{Reply}
use Rattle.run.specs.declared.State.{State}

pub number_is : (b : List ℕ) (a : Answer) → refusal_number a ≡ number_of (answer_of b a)
number_is b (A.Value v) = refl
number_is b (A.Question q) = refl
number_is b A.Spent = refl
number_is b (A.Domain k) = refl
number_is b (A.Refused n) = refl

reply_number : (b : List ℕ) (r : Reply) (regs : List Float) (R : Machine.Reply) → reply_of b r regs ≡ R → refusal_number r.answer ≡ number_of R.answer
reply_number b r regs R e = number_is b r.answer ∙ ap (λ (x : Machine.Reply). number_of x.answer) e

module _ (inputs : List Float) (b : List ℕ) (room budget : ℕ) (regs : List Float) where
  pub run_at_lawful : Lawful binary64 inputs (program_at b) budget none fresh regs (run_at inputs b room budget regs)
  unfolding run_at
  run_at_lawful = run_lawful binary64 inputs (program_at b) (record { room = room; budget = budget; given = none }) regs

  pub run_resumes : run_at inputs b room budget regs ≡ resume_at inputs b room budget none fresh regs
  unfolding run_at resume_at
  run_resumes = run_is_resume binary64 inputs (program_at b) (record { room = room; budget = budget; given = none }) regs

  -- all that run promises, from its reply and the path slice
  pub run_promises : (r : Reply) (regs' : List Float) (path path' : List ℕ) → reply_of b r regs' ≡ run_at inputs b room budget regs
      → path' ≡ placed (place_of (answer_of b r.answer)) path
      → (reply_of b r regs' ≡ run_at inputs b room budget regs) × ((path' ≡ placed (place_of (answer_of b r.answer)) path)
      × ((refusal_number r.answer ≡ number_of (run_at inputs b room budget regs).answer) × Lawful binary64 inputs (program_at b) budget none fresh regs (reply_of b r regs')))
  run_promises r regs' path path' e f =
      (e, (f, (reply_number b r regs' _ e, subst (λ x. Lawful binary64 inputs (program_at b) budget none fresh regs x) (sym e) run_at_lawful)))

  -- and where they rest on a condition
  pub run_where : {S : Type 0} (r : Reply) (regs' : List Float) (path path' : List ℕ) → (S → reply_of b r regs' ≡ run_at inputs b room budget regs)
      → (S → path' ≡ placed (place_of (answer_of b r.answer)) path)
      → (S → reply_of b r regs' ≡ run_at inputs b room budget regs) × ((S → path' ≡ placed (place_of (answer_of b r.answer)) path)
      × ((S → refusal_number r.answer ≡ number_of (run_at inputs b room budget regs).answer) × (S → Lawful binary64 inputs (program_at b) budget none fresh regs (reply_of b r regs'))))
  run_where r regs' path path' f g =
      (f, (g, (λ s. (run_promises r regs' path path' (f s) (g s)).1.1.0, λ s. (run_promises r regs' path path' (f s) (g s)).1.1.1)))

  module _ (given : Option Float) (st : Machine.State) where
    pub resume_at_lawful : Lawful binary64 inputs (program_at b) budget given st regs (resume_at inputs b room budget given st regs)
    unfolding resume_at
    resume_at_lawful = resume_lawful binary64 inputs (program_at b) (record { room = room; budget = budget; given = given }) st regs

    -- all that resume promises, from its reply, the path slice and the state that a refusal hands back
    pub resume_promises : (r : Reply) (regs' : List Float) (path path' : List ℕ) (s : State) → reply_of b r regs' ≡ resume_at inputs b room budget given st regs
        → path' ≡ placed (place_of (answer_of b r.answer)) path → HandsBack s r
        → (reply_of b r regs' ≡ resume_at inputs b room budget given st regs) × ((path' ≡ placed (place_of (answer_of b r.answer)) path) × (HandsBack s r
        × ((refusal_number r.answer ≡ number_of (resume_at inputs b room budget given st regs).answer)
        × Lawful binary64 inputs (program_at b) budget given st regs (reply_of b r regs'))))
    resume_promises r regs' path path' s e f h =
        (e, (f, (h, (reply_number b r regs' _ e, subst (λ x. Lawful binary64 inputs (program_at b) budget given st regs x) (sym e) resume_at_lawful))))

    pub resume_where : {S : Type 0} (r : Reply) (regs' : List Float) (path path' : List ℕ) (s : State) → (S → reply_of b r regs' ≡ resume_at inputs b room budget given st regs)
        → (S → path' ≡ placed (place_of (answer_of b r.answer)) path) → HandsBack s r
        → (S → reply_of b r regs' ≡ resume_at inputs b room budget given st regs) × ((S → path' ≡ placed (place_of (answer_of b r.answer)) path) × (HandsBack s r
        × ((S → refusal_number r.answer ≡ number_of (resume_at inputs b room budget given st regs).answer)
        × (S → Lawful binary64 inputs (program_at b) budget given st regs (reply_of b r regs')))))
    resume_where r regs' path path' s f g h =
        (f, (g, (h, (λ x. (resume_promises r regs' path path' s (f x) (g x) h).1.1.1.0, λ x. (resume_promises r regs' path path' s (f x) (g x) h).1.1.1.1))))
