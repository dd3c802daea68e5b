-- What the making of a program leaves, and what a list of calls after it owes.
use mathlib.Core.Path.{◌≡◌, refl, ap, ◌∙◌, subst}
use mathlib.Core.List.{List}
use mathlib.Core.Option.{Option, none}
use Prim.Native.Nat.{ℕ}
use Rattle.std.specs.Prelude.{Ok, Err}
use Rattle.refusals.specs.declared.Refusal.{Refusal}
use lib.ListN.{length}
use lib.Ieee.{Float}
use Rattle.formula.specs.Path.{Path, placed}
use Rattle.formula.specs.Term.{term}
use Rattle.machine.specs.Compile.{Compiled, accepted, compile}
use Rattle.machine.specs.Compile as Compile
use Rattle.layout.specs.Decode.{program_at}
use Rattle.reader.proofs.Bytes.{Bytes}
use Rattle.derivative.specs.Derive.{Derived, Lengths, derive, derived, formula_refused, formula_refused_at}
use Rattle.derivative.specs.Derive as Derive
use Rattle.compile.specs.Entry as Entry
use Rattle.derive.specs.Outcome.{Leaves, lengths}
use Rattle.derive.specs.Outcome as Outcome
use Rattle.run.specs.Views.{reply_of}
use Rattle.run.specs.declared.Reply as Declared
use Rattle.demand.specs.Listed.{play_at}
use Rattle.demand.specs.declared.calls.Call.{Call}
use Rattle.demand.specs.Last.{Demand}
use Rattle.demand.specs.Made.{Made, answer_of, made, make, of_compiled, of_derived, place_of, program_left, refused, refused_at}
use Rattle.demand.specs.Owed.{Owes}
use Rattle.demand.specs.declared.Wanted.{Wanted}
use Rattle.demand.proofs.Numbers.{Told}
use Rattle.demand.proofs.Sources.{source}
use Rattle.refusals.specs.Refusals.{node_of, number_of, refusal_at, refusal_of}

-- ---- the making

pub compiled_answer : (X : Compiled) → Entry.answer X ≡ answer_of (of_compiled X)
compiled_answer (Compile.refused n place) = refl
compiled_answer (Compile.refused_at n k) = refl
compiled_answer (accepted f ss) = refl

pub derived_refused : (X : Derived) (r : Refusal) → Err r ≡ Outcome.answer X → Err r ≡ answer_of (of_derived X)
derived_refused (formula_refused n place) r e = cc
derived_refused (formula_refused_at n k) r e = cc
derived_refused (Derive.refused n place) r e = cc
derived_refused (derived d rs ss) r e = cc

-- ---- the list of calls

-- a refusal of the making is one of the whole
pub turned_away : (program : List ℕ) (inputs : List Float) (calls : List Call) (regs : List Float) (path path' : List ℕ) (X : Made) (r : Refusal) → Told X → Err r ≡ answer_of X
    → path' ≡ placed (place_of X) path → Owes X program inputs calls regs regs path path' (Err r)
turned_away program inputs calls regs path path' (refused n place) r t e k =
    let same : r ≡ refusal_of n = cc in
    ((r, refl, ap number_of same ∙ t.number, ap node_of same ∙ t.node), k, refl)
turned_away program inputs calls regs path path' (refused_at n j) r t e k =
    let same : r ≡ refusal_at n j = cc in
    ((r, refl, ap number_of same ∙ t.number, ap node_of same ∙ t.node), k, refl)
turned_away program inputs calls regs path path' (made C f) r t e k = absurd cc

kept : (X : Made) → Ok tt ≡ answer_of X → place_of X ≡ none
kept (refused n place) e = absurd cc
kept (refused_at n k) e = refl
kept (made C f) e = refl

module _ (b l : List ℕ) (bytes : Bytes b) (w : Wanted ℕ) (lens : Lengths) (program program' : List ℕ) (inputs : List Float) (calls : List Call) (regs regs' : List Float)
    (path path₁ path' : List ℕ) (reply : Declared.Reply) where
  abbrev X : Made
  X = make b l w (length path) lens

  owes_at : (Y : Made) → X ≡ Y → Ok tt ≡ answer_of Y → program' ≡ program_left b l w (length path) lens program
      → reply_of program' reply regs' ≡ (play_at inputs program' path calls regs).reply
      → path' ≡ (play_at inputs program' path calls regs).path
      → Demand inputs program' (length path) calls regs (reply_of program' reply regs')
      → Owes Y program' inputs calls regs regs' path path' (Ok reply)
  owes_at (refused n place) e a ep er eq D = absurd cc
  owes_at (refused_at n k) e a ep er eq D = absurd cc
  owes_at (made C f) e a ep er eq D =
      let S = source b l bytes w (length path) lens program C f e in
      (reply, refl, er, eq, λ same fins many. D C (term f) S.0 (ap program_at ep ∙ S.1) same fins many)

  pub played : Ok tt ≡ answer_of X → path₁ ≡ placed (place_of X) path → program' ≡ program_left b l w (length path) lens program
      → reply_of program' reply regs' ≡ (play_at inputs program' path₁ calls regs).reply
      → path' ≡ (play_at inputs program' path₁ calls regs).path
      → Demand inputs program' (length path₁) calls regs (reply_of program' reply regs')
      → Owes X program' inputs calls regs regs' path path' (Ok reply)
  played e k ep er eq D =
      let same : path₁ ≡ path = k ∙ ap (λ (o : Option Path). placed o path) (kept X e) in
      owes_at X refl e ep (er ∙ ap (λ (x : List ℕ). (play_at inputs program' x calls regs).reply) same)
      (eq ∙ ap (λ (x : List ℕ). (play_at inputs program' x calls regs).path) same)
      (subst (λ (x : List ℕ). Demand inputs program' (length x) calls regs (reply_of program' reply regs')) same D)
