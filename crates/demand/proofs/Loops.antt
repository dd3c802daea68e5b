-- The loop over a list of calls.
use mathlib.Core.Path.{◌≡◌, refl, ap, ap₂, sym, ◌∙◌}
use mathlib.Core.List.{List, [], ◌∷◌, ◌++◌, map}
use Prim.Native.Nat.{ℕ, ◌+◌, ◌-◌, ◌≤◌, ◌<◌}
use native.Mathlib.Omega.{arith}
use lib.ListN.{drop, get_or, length, length-append, length-drop, take}
use lib.Seq.{drop-cons, length-take-le}
use native.Mathlib.Numerals.{add-one, unary_clauses}
use Rattle.std.proofs.lemmas.List.{drop_all, take_all}
use lib.Ieee.{Float}
use Rattle.std.proofs.Common.{min, Bor, Option, None, Some}
use Rattle.std.specs.Option.{IsSome, UnwrapsOrElse, unwrap_or}
use Rattle.std.specs.List.{PartBy, slice_get}
use mathlib.Core.Option.{none}
use Rattle.formula.specs.Path.{placed}
use Rattle.machine.specs.Machine as Machine
use Rattle.machine.specs.Machine.{place_of}
use Rattle.layout.specs.Decode.{program_at}
use Rattle.run.specs.Views.{answer_of, reply_of, state_of, supplied_of}
use Rattle.run.specs.Calls.{resume_at, run_at}
use Rattle.run.specs.declared.Reply.{Reply}
use Rattle.demand.specs.Listed.{Played, call_of, first_call, later_calls, noted, play_at, playing}
use Rattle.demand.specs.declared.calls.Call.{Call}

-- a reply of the code, with registers and path slice after it
abbrev pub seen : List ℕ → Reply → List Float → List ℕ → Played
seen b r regs path = record { reply = reply_of b r regs; path = path }

pub seen_is : (b : List ℕ) (room : ℕ) (r : Reply) (regs : List Float) (path before : List ℕ) (m : Machine.Reply) → reply_of b r regs ≡ m
    → path ≡ placed (place_of (answer_of b r.answer)) (take room before) ++ drop room before → seen b r regs path ≡ noted room m before
seen_is b room r regs path before m e f =
    ap₂ (λ x y. record { reply = x; path = y }) e (f ∙ ap (λ (x : Machine.Reply). placed (place_of x.answer) (take room before) ++ drop room before) e)

-- a part of the path slice is lent and handed back
pub again_long : (path part : List ℕ) (room : ℕ) → room ≤ length path → length part ≡ length (take room path) → length (part ++ drop room path) ≡ length path
again_long path part room h e = omega (arith, length-append part (drop room path), length-drop room path, length-take-le room path h)

-- the first call, or one with no room and no budget where there is none
pub first_is : (calls : List Call) (n : ℕ) (o : Option Call) (P : Call → Type 0) (c : Call) → o ≡ slice_get calls 0 → UnwrapsOrElse o P c → ((d : Call) → P d → (d.room ≡ 0) × (d.budget ≡ 0))
    → first_call n calls ≡ record { room = min c.room n; budget = c.budget; given = none }
first_is [] n None P c e u h = let d = h c u in rw (d.0, d.1) (simp unary_clauses refl)
first_is [] n (Some x) P c e u h = absurd cc
first_is (d ∷ ds) n None P c e u h = absurd cc
first_is (d ∷ ds) n (Some x) P c e u h = let same : c ≡ d = cc in rw same refl

-- the calls after it
pub rest_is : (calls : List Call) (n : ℕ) (o : Option (Bor (List Call))) (r s : Bor (List Call)) → r ≡ unwrap_or o s → s.now ≡ []
    → PartBy (λ (x : Bor (List Call)). x.now) calls 1 (length calls) o
    → later_calls n calls ≡ map (call_of n) r.now
rest_is [] n None r s e f h = rw (e, f) refl
rest_is [] n (Some x) r s e f h = absurd (omega (arith, h.0.0))
rest_is (c ∷ cs) n None r s e f h = let some : IsSome {T = Bor (List Call)} None = h.1 (omega arith, omega arith) in absurd cc
rest_is (c ∷ cs) n (Some x) r s e f h = ap (map (call_of n)) (sym (ap (λ (b : Bor (List Call)). b.now) e ∙ h.0.2 ∙ take_all (length (c ∷ cs) - 1) cs (omega arith)))

pub next_call : (rest : List Call) (d : Call) (i : ℕ) → i < length rest → drop i rest ≡ get_or rest i d ∷ drop (i + 1) rest
next_call rest d i h = drop-cons rest i d h ∙ ap (λ (k : ℕ). get_or rest i d ∷ drop k rest) (sym (add-one i))

module _ (inputs : List Float) (b : List ℕ) (n : ℕ) (rest : List Call) where
  unfoldable pub left_at : Played → ℕ → Played
  left_at x i = playing inputs (program_at b) x (map (call_of n) (drop i rest))

  pub left_start : (first : Call) (regs regs' : List Float) (path part : List ℕ) (r : Reply) (room : ℕ) → n ≡ length path → room ≡ min first.room n → room ≤ length path
      → reply_of b r regs' ≡ run_at inputs b (length (take room path)) first.budget regs → part ≡ placed (place_of (answer_of b r.answer)) (take room path)
      → (calls : List Call) → first_call n calls ≡ record { room = min first.room n; budget = first.budget; given = none } → later_calls n calls ≡ map (call_of n) rest
      → left_at (seen b r regs' (part ++ drop room path)) 0 ≡ play_at inputs b path calls regs
  unfolding left_at play_at run_at
  left_start first regs regs' path part r room en er h e f calls k l =
      ap (λ x. playing inputs (program_at b) x (map (call_of n) rest))
      (seen_is b room r regs' (part ++ drop room path) path _ (e ∙ ap (λ (l : ℕ). run_at inputs b l first.budget regs) (length-take-le room path h)) (ap (λ (x : List ℕ). x ++ drop room path) f))
      ∙ rw (er, ← en, k, l)

  pub left_step : (c : Call) (r r' : Reply) (regs regs' : List Float) (path part : List ℕ) (i room : ℕ) → drop i rest ≡ c ∷ drop (i + 1) rest → room ≡ min c.room n → room ≤ length path
      → reply_of b r' regs' ≡ resume_at inputs b (length (take room path)) c.budget (supplied_of c.supplied) (state_of r.state) regs
      → part ≡ placed (place_of (answer_of b r'.answer)) (take room path) → left_at (seen b r regs path) i ≡ left_at (seen b r' regs' (part ++ drop room path)) (i + 1)
  unfolding left_at resume_at
  left_step c r r' regs regs' path part i room d er l e f =
      ap (λ (cs : List Call). playing inputs (program_at b) (seen b r regs path) (map (call_of n) cs)) d
      ∙ rw (← er)
      (sym (ap (λ x. playing inputs (program_at b) x (map (call_of n) (drop (i + 1) rest)))
      (seen_is b room r' regs' (part ++ drop room path) path _ (e ∙ ap (λ (m : ℕ). resume_at inputs b m c.budget (supplied_of c.supplied) (state_of r.state) regs) (length-take-le room path l))
      (ap (λ (x : List ℕ). x ++ drop room path) f))))

  pub left_end : (x : Played) (i : ℕ) → length rest ≤ i → left_at x i ≡ x
  unfolding left_at
  left_end x i h = rw (drop_all i rest h)
