-- The two calls, by their tests.
use mathlib.Core.Path.{◌≡◌, refl, ap, sym, ◌∙◌}
use mathlib.Core.Bool.{Bool, true, false, ◌||◌}
use mathlib.Core.List.{List, []}
use mathlib.Core.Logic.{inl, inr, ⊎_elim}
use mathlib.Core.Option.{Option}
use Prim.Native.Nat.{ℕ, ◌≤◌, ◌<◌}
use native.Mathlib.Omega.{arith}
use borrow.Author.Tests.{lt-ltb, le-ltb, ltb-false, ltb-true}
use lib.Dec.{ltb}
use lib.Ieee.{Float}
use Rattle.formula.proofs.Tests.{or_none}
use Rattle.machine.specs.Program.{valid}
use Rattle.machine.specs.Machine as Machine
use Rattle.machine.specs.Machine.{fresh, place_of, refuse}
use Rattle.layout.specs.Decode.{length_at, path_number, program_at}
use Rattle.program.proofs.Pass.{valid_at, valid_raw}
use Rattle.run.specs.Views.{HandsBack, Writable, reply_of}
use Rattle.run.specs.Calls.{KnownPlace, Settled, resume_at, run_at, stale_at, steps_at, supplying, unfit_at}
use Rattle.run.specs.declared.Answer.{Answer}
use Rattle.run.specs.declared.Answer.TheVariants as A
use Rattle.run.specs.declared.Reply.{Reply}
use Rattle.run.specs.declared.State.{State}
use Rattle.run.proofs.Late.{supplying_is}
use Rattle.run.proofs.Looping.{not_refused}

-- what the test before 10 says of a call
pub settled : (b : List ℕ) (room : ℕ) → (ltb room 8192 || valid (program_at b)) ≡ true → Settled b room
settled b room e = by (ltb room 8192) (λ t. ltb-true room 8192 t) e
  where
    by : (x : Bool) → (x ≡ true → room < 8192) → (x || valid (program_at b)) ≡ true → Settled b room
    by true f e = inr (let h = f refl in omega arith)
    by false f e = inl e

pub unsettled : (b : List ℕ) (room : ℕ) → (ltb room 8192 || valid (program_at b)) ≡ false → (8192 ≤ room) × (valid (program_at b) ≡ false)
unsettled b room e = (ltb-false room 8192 (or_none (ltb room 8192) _ e).0, (or_none (ltb room 8192) _ e).1)

-- with a path slice that is long enough a call is settled by the bytes
pub settled_valid : (b : List ℕ) (room : ℕ) → 8192 ≤ room → Settled b room → valid (program_at b) ≡ true
settled_valid b room l s = ⊎_elim (λ v. v) (λ h. absurd (omega arith)) s

pub steps_back : (inputs : List Float) (b : List ℕ) (budget at : ℕ) (kept regs regs' : List Float) (r : Reply) (s : State) → reply_of b r regs' ≡ steps_at inputs b budget at kept regs → HandsBack s r
steps_back inputs b budget at kept regs regs' r s e = λ n f. absurd (not_refused inputs b budget at kept regs regs' r e n f)

pub steps_writable : (inputs : List Float) (b : List ℕ) (room budget at : ℕ) (kept regs regs' : List Float) (r : Reply) → valid (program_at b) ≡ true → 8192 ≤ room
    → reply_of b r regs' ≡ steps_at inputs b budget at kept regs → KnownPlace b r.answer → Writable b room r.answer
steps_writable inputs b room budget at kept regs regs' r v l e k = either r.answer refl
  where
    either : (a : Answer) → r.answer ≡ a → Writable b room a
    either (A.Value x) f = tt
    either (A.Question q) f = tt
    either A.Spent f = tt
    either (A.Domain j) f =
        let p = k j f in
        let q = valid_at b v p.0 p.1 in
        let y : path_number b p.0 ≡ j = sym p.2 in
        let w : length_at b (path_number b p.0) ≡ length_at b j = ap (length_at b) y in
        (omega (arith, q.0), omega (arith, q.1))
    either (A.Refused n) f = absurd (not_refused inputs b budget at kept regs regs' r e n f)

module _ (inputs : List Float) (b : List ℕ) (room budget : ℕ) (regs : List Float) where
  pub run_1 : room < 8192 → refuse 1 fresh regs ≡ run_at inputs b room budget regs
  unfolding run_at
  run_1 h = rw (lt-ltb _ _ h)

  pub run_10 : 8192 ≤ room → valid (program_at b) ≡ false → refuse 10 fresh regs ≡ run_at inputs b room budget regs
  unfolding run_at
  run_10 h v = rw (le-ltb _ _ h, v)

  pub run_5 : 8192 ≤ room → valid (program_at b) ≡ true → unfit_at inputs b regs budget ≡ true → refuse 5 fresh regs ≡ run_at inputs b room budget regs
  unfolding run_at unfit_at
  run_5 h v f = rw (le-ltb _ _ h, v, valid_raw b v, f)

  pub run_goes : (kept : List Float) → kept ≡ [] → 8192 ≤ room → valid (program_at b) ≡ true → unfit_at inputs b regs budget ≡ false
      → steps_at inputs b budget 0 kept regs ≡ run_at inputs b room budget regs
  unfolding run_at unfit_at steps_at
  run_goes kept e h v f = rw (le-ltb _ _ h, v, valid_raw b v, f, e)

  module _ (g : Option Float) (st : Machine.State) where
    pub resume_1 : room < 8192 → refuse 1 st regs ≡ resume_at inputs b room budget g st regs
    unfolding resume_at
    resume_1 h = rw (lt-ltb _ _ h)

    pub resume_10 : 8192 ≤ room → valid (program_at b) ≡ false → refuse 10 st regs ≡ resume_at inputs b room budget g st regs
    unfolding resume_at
    resume_10 h v = rw (le-ltb _ _ h, v)

    pub resume_5 : 8192 ≤ room → valid (program_at b) ≡ true → unfit_at inputs b regs budget ≡ true → refuse 5 st regs ≡ resume_at inputs b room budget g st regs
    unfolding resume_at unfit_at
    resume_5 h v f = rw (le-ltb _ _ h, v, valid_raw b v, f)

    pub resume_11 : 8192 ≤ room → valid (program_at b) ≡ true → unfit_at inputs b regs budget ≡ false → stale_at inputs b regs st.position st.kept st.pending g ≡ true
        → refuse 11 st regs ≡ resume_at inputs b room budget g st regs
    unfolding resume_at unfit_at stale_at
    resume_11 h v f l = rw (le-ltb _ _ h, v, valid_raw b v, f, l)

    pub resume_goes : (kept : List Float) → kept ≡ supplying st.kept g → 8192 ≤ room → valid (program_at b) ≡ true → unfit_at inputs b regs budget ≡ false
        → stale_at inputs b regs st.position st.kept st.pending g ≡ false → steps_at inputs b budget st.position kept regs ≡ resume_at inputs b room budget g st regs
    unfolding resume_at unfit_at stale_at steps_at
    resume_goes kept e h v f l =
        rw (le-ltb _ _ h, v, valid_raw b v, f, l)
        (ap (λ k. steps_at inputs b budget st.position k regs) (e ∙ supplying_is inputs b regs st.position st.kept st.pending g l))
