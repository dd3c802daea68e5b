-- What a call leaves, from what run and resume promise.
use Rattle.std.specs.Prelude.{Result}
use mathlib.Core.Path.{◌≡◌, refl, sym, ap, ◌∙◌, subst}
use mathlib.Core.Bool.{Bool, true, false, true≢false}
use mathlib.Core.List.{List, [], ◌∷◌, ◌++◌, append_assoc}
use mathlib.Core.Logic.{⊎_elim}
use mathlib.Core.Option.{Option}
use Prim.Native.Nat.{ℕ, ◌≤◌}
use lib.ListN.{length, drop, set}
use lib.Ieee.{Float}
use native.Mathlib.Omega.{arith}
use borrow.Author.Tests.{le-ltb, ltb-false}
use Rattle.refusals.specs.Numbers.{no_program, slice_too_short}
use Rattle.refusals.specs.declared.Refusal.{Refusal}
use Rattle.formula.specs.Path.{path_room, placed}
use Rattle.formula.proofs.Tests.{or_none}
use Rattle.meaning.specs.Work.{Question}
use Rattle.machine.specs.Program.{valid}
use Rattle.machine.specs.Machine.{place_of}
use Rattle.machine.specs.Machine as Machine
use Rattle.machine.specs.Compile.{Compiled, compile}
use Rattle.machine.specs.Compile as Compile
use Rattle.layout.specs.Decode.{program_at}
use Rattle.layout.specs.Image.{image}
use Rattle.compile.specs.Entry as Entry
use Rattle.derivative.specs.Derive.{Derived, derive}
use Rattle.derivative.specs.Derive as Derive
use Rattle.derive.specs.Outcome.{lengths}
use Rattle.derive.specs.Outcome as Entered
use Rattle.compile.proofs.Numbers.{Numbers, numbers}
use Rattle.derive.proofs.Numbers.{DerivedNumbers, derived_numbers}
use Rattle.run.specs.declared.Answer.{Answer}
use Rattle.run.specs.declared.Reply.{Reply}
use Rattle.run.specs.declared.State.{State}
use Rattle.run.specs.Views.{HandsBack, answer_of, pending_of, reply_of, state_of}
use Rattle.run.specs.Calls.{Settled, resume_at, run_at}
use Rattle.run.proofs.Plain.{plain}
use Rattle.run.proofs.Whole.{resume_10}
use Rattle.vebrostin.specs.Cells.{ArgumentsBack, Askable, number_of, question_cells, state_cells, state_in, value_cell}
use Rattle.vebrostin.specs.Calls.{Carries, Compiles, Derives, Leaves, Outcome, Settles, after, compile_node, compile_number, compile_outcome, derive_node, derive_number, derive_outcome, Ends, is_refused, node_place, report_length, report_short, reported, resume_outcome, run_outcome, short, state_length, told, told_node, told_number, untouched, with_room, written}
use Rattle.vebrostin.proofs.Asking.{resume_asks, run_asks}
use Rattle.vebrostin.proofs.Crossing.{state_back}

-- ---- the numbers of an answer don't go by the program

same_number : (b : List ℕ) (a : Answer) → number_of (answer_of [] a) ≡ number_of (answer_of b a)
same_number b (Answer.Value v) = refl
same_number b (Answer.Question q) = refl
same_number b Answer.Spent = refl
same_number b (Answer.Domain k) = refl
same_number b (Answer.Refused n) = refl

same_value : (b : List ℕ) (a : Answer) → value_cell (answer_of [] a) ≡ value_cell (answer_of b a)
same_value b (Answer.Value v) = refl
same_value b (Answer.Question q) = refl
same_value b Answer.Spent = refl
same_value b (Answer.Domain k) = refl
same_value b (Answer.Refused n) = refl

same_refusal : (b : List ℕ) (a : Answer) → is_refused (answer_of [] a) ≡ is_refused (answer_of b a)
same_refusal b (Answer.Value v) = refl
same_refusal b (Answer.Question q) = refl
same_refusal b Answer.Spent = refl
same_refusal b (Answer.Domain k) = refl
same_refusal b (Answer.Refused n) = refl

-- a refused resume hands back the very state
handed : (r : Reply) (a : Answer) (st : State) → r.answer ≡ a → is_refused (answer_of [] a) ≡ true → HandsBack st r → r.state ≡ st
handed r (Answer.Value v) st e t h = absurd (true≢false (sym t))
handed r (Answer.Question q) st e t h = absurd (true≢false (sym t))
handed r Answer.Spent st e t h = absurd (true≢false (sym t))
handed r (Answer.Domain k) st e t h = absurd (true≢false (sym t))
handed r (Answer.Refused n) st e t h = h n e

pub unrefused : (a : Answer) → ((n : Refusal) → a ≡ Answer.Refused n → ⊥) → is_refused (answer_of [] a) ≡ false
unrefused (Answer.Value v) h = refl
unrefused (Answer.Question q) h = refl
unrefused Answer.Spent h = refl
unrefused (Answer.Domain k) h = refl
unrefused (Answer.Refused n) h = absurd (h n refl)

-- ---- one reply

-- the cells that are written are those of the machine's reply
pub put_ends : (a : Machine.Answer) (count : ℕ) (st : Machine.State) {R : Machine.Reply} {regs : List Float} {cells cells' : List ℕ} {n v : ℕ}
    → ◌≡◌ {A = Machine.Reply} (record { answer = a; count = count; state = st; registers = regs }) R → n ≡ number_of a → v ≡ value_cell a
    → cells' ≡ (state_cells st ++ (count ∷ v ∷ [])) ++ drop 16 cells → (Askable st.pending → state_in cells' ≡ st) → Ends R n cells cells' regs
put_ends a count st {cells = cells} e en ev ec es =
    record {
      number = en ∙ ap (λ (x : Machine.Reply). number_of x.answer) e;
      left = ec ∙ ap (λ (x : ℕ). (state_cells st ++ (count ∷ x ∷ [])) ++ drop 16 cells) ev ∙ ap (λ (x : Machine.Reply). written x cells) e;
      registers = ap (λ (x : Machine.Reply). x.registers) e;
      state = λ k. es (subst (λ (x : Machine.Reply). Askable x.state.pending) (sym e) k) ∙ ap (λ (x : Machine.Reply). x.state) e;
    }

-- the number, the cells and the registers are those of the machine's reply
pub reply_ends : (b : List ℕ) (r : Reply) (regs' : List Float) (R : Machine.Reply) (cells cells' : List ℕ) (n : ℕ) → reply_of b r regs' ≡ R
    → n ≡ number_of (answer_of [] r.answer)
    → cells' ≡ (state_cells (state_of r.state) ++ (r.count ∷ value_cell (answer_of [] r.answer) ∷ [])) ++ drop 16 cells
    → (Askable (pending_of r.state.pending) → state_in cells' ≡ state_of r.state) → Ends R n cells cells' regs'
reply_ends b r regs' R cells cells' n e hn hc hs =
    put_ends (answer_of b r.answer) r.count (state_of r.state) e (hn ∙ same_number b r.answer) (same_value b r.answer) hc hs

-- a reply that keeps nothing
module _ (R : Machine.Reply) (a : Machine.Answer) (count at : ℕ) (o : Option Question) (regs : List Float) (e : plain a count at o regs ≡ R) where
  abbrev row : List ℕ → ℕ → List ℕ → List ℕ
  row q v cells = (at ∷ 0 ∷ 0 ∷ 0 ∷ 0 ∷ 0 ∷ 0 ∷ 0 ∷ 0 ∷ 0 ∷ 0 ∷ q ++ (count ∷ v ∷ [])) ++ drop 16 cells

  pub plain_ends : (n v : ℕ) (q cells cells' : List ℕ) → n ≡ number_of a → v ≡ value_cell a → q ≡ question_cells o → ArgumentsBack o → cells' ≡ row q v cells
      → Ends R n cells cells' regs
  plain_ends n v q cells cells' en ev eq back ec =
      let s = (plain a count at o regs).state in
      let w : cells' ≡ (state_cells s ++ (count ∷ v ∷ [])) ++ drop 16 cells = ec ∙ ap (λ (x : List ℕ). row x v cells) eq in
      put_ends a count s e en ev w
      (λ k. ap state_in (w ∙ append_assoc (state_cells s) (count ∷ v ∷ []) (drop 16 cells)) ∙ state_back s (omega arith) tt k back _)

-- the cells and the path slice by the same reply
pub ends_as : {R R' : Machine.Reply} {n : ℕ} {cells cells' : List ℕ} {regs' : List Float} → R ≡ R' → Ends R n cells cells' regs' → Ends R' n cells cells' regs'
ends_as {n = n} {cells} {cells'} {regs'} e E = subst (λ (x : Machine.Reply). Ends x n cells cells' regs') e E

pub placed_as : {R R' : Machine.Reply} (path : List ℕ) {path' : List ℕ} → R ≡ R' → path' ≡ placed (place_of R.answer) path → path' ≡ placed (place_of R'.answer) path
placed_as path e hp = hp ∙ ap (λ (x : Machine.Reply). placed (place_of x.answer) path) e

pub enough : (cells report : List ℕ) → short cells report ≡ false → state_length ≤ length cells
enough cells report h = ltb-false (length cells) state_length (or_none (report_short report) _ h).1

-- with room a call is what it is, and else nothing of it is looked at
pub roomy : {A : Type 0} (few : Bool) (refusal o : A) → few ≡ false → o ≡ with_room few refusal o
roomy few refusal o h = ap (λ (x : Bool). with_room x refusal o) (sym h)

pub no_room : {A : Type 0} (few : Bool) (refusal o : A) → few ≡ true → refusal ≡ with_room few refusal o
no_room few refusal o h = ap (λ (x : Bool). with_room x refusal o) (sym h)

nothing_left : (cells : List ℕ) (regs : List Float) (path report : List ℕ) (o : Outcome) → short cells report ≡ true
    → Leaves (with_room (short cells report) (untouched cells regs path report) o) slice_too_short cells regs path report
nothing_left cells regs path report o h =
    subst (λ (x : Outcome). Leaves x slice_too_short cells regs path report)
    (no_room (short cells report) (untouched cells regs path report) o h) (refl, refl, refl, refl, refl)

-- with room a call without the check is settled as the run is
pub settled : (b path cells report : List ℕ) → short cells report ≡ false → Settles b path cells report → Settled b (length path)
settled b path cells report h s = ⊎_elim (λ t. absurd (true≢false (sym t ∙ h))) (λ x. x) s

-- its two clauses, each under that condition
pub apart : {T S A B C : Type 0} → (T → S) → (S → A × B) → C → (T → A) × ((T → B) × C)
apart f g c = (λ t. (g (f t)).0, (λ t. (g (f t)).1, c))

-- ---- compile and derive

long_report : (report : List ℕ) (k : ℕ) → report_length ≤ length report → set report node_place k ≡ reported k report
long_report report k h = roomy (report_short report) report (set report node_place k) (le-ltb (length report) report_length h)

-- the refusal that the code tells has the definition's number and node
compiled_number : (X : Compiled) → Numbers X → told_number (Entry.answer X) ≡ compile_number X
compiled_number (Compile.refused n place) t = t.number
compiled_number (Compile.refused_at n k) t = t.number
compiled_number (Compile.accepted f ss) t = refl

compiled_node : (X : Compiled) → Numbers X → told_node (Entry.answer X) ≡ compile_node X
compiled_node (Compile.refused n place) t = rw t.node
compiled_node (Compile.refused_at n k) t = rw t.node
compiled_node (Compile.accepted f ss) t = refl

derived_number : (X : Derived) → DerivedNumbers X → told_number (Entered.answer X) ≡ derive_number X
derived_number (Derive.formula_refused n place) t = t.number
derived_number (Derive.formula_refused_at n k) t = t.number
derived_number (Derive.refused n place) t = t.number
derived_number (Derive.derived d rs ss) t = refl

derived_node : (X : Derived) → DerivedNumbers X → told_node (Entered.answer X) ≡ derive_node X
derived_node (Derive.formula_refused n place) t = rw t.node
derived_node (Derive.formula_refused_at n k) t = rw t.node
derived_node (Derive.refused n place) t = rw t.node
derived_node (Derive.derived d rs ss) t = refl

pub compile_leaves : (b l q p report : List ℕ) (r : Result Unit Refusal) {n : ℕ} {q' p' report' : List ℕ} → report_length ≤ length report
    → (let X = compile b l (length q) (length p) in
    r ≡ Entry.answer X → q' ≡ Compile.path_after X q → p' ≡ Compile.program_after image X p → n ≡ told_number r → report' ≡ set report node_place (told_node r)
    → Compiles (compile_outcome b l (length q) (length p) report) n q q' p p' report report')
compile_leaves b l q p report r {n} {q'} {p'} {report'} h er eq ep en ek =
    let X = compile b l (length q) (length p) in
    let N = numbers b l (length q) (length p) in
    subst (λ (Y : Compiled). Compiles Y n q q' p p' report report')
    (roomy (report_short report) _ _ (le-ltb (length report) report_length h)) (
      en ∙ ap told_number er ∙ compiled_number X N,
      eq,
      ep,
      ek ∙ long_report report (told_node r) h ∙ ap (λ (k : ℕ). reported k report) (ap told_node er ∙ compiled_node X N),
    )

pub derive_leaves : (b names : List ℕ) (s : ℕ) (q t l p report : List ℕ) (r : Result ℕ Refusal) {n : ℕ} {q' t' l' p' report' : List ℕ}
    → report_length ≤ length report → Entered.Leaves (derive b names s (length q) (lengths t l p)) r q q' t t' l l' p p' → n ≡ told_number r
    → report' ≡ set report node_place (told_node r)
    → Derives (derive_outcome b names s (length q) (lengths t l p) report) n q q' t t' l l' p p' report report'
derive_leaves b names s q t l p report r {n} {q'} {t'} {l'} {p'} {report'} h L en ek =
    let X = derive b names s (length q) (lengths t l p) in
    let N = derived_numbers b names s (length q) (lengths t l p) in
    subst (λ (Y : Derived). Derives Y n q q' t t' l l' p p' report report')
    (roomy (report_short report) _ _ (le-ltb (length report) report_length h)) (
      en ∙ ap told_number L.0 ∙ derived_number X N,
      L.1,
      L.2,
      L.3,
      L.4,
      ek ∙ long_report report (told_node r) h ∙ ap (λ (k : ℕ). reported k report) (ap told_node L.0 ∙ derived_node X N),
    )

-- ---- run

module _ (inputs : List Float) (b : List ℕ) (budget : ℕ) (regs : List Float) (cells path report : List ℕ) where
  pub run_short : short cells report ≡ true
      → Leaves (run_outcome inputs b budget regs cells path report) slice_too_short cells regs path report × Carries cells report (run_at inputs b (length path) budget regs)
  unfolding run_outcome
  run_short h = (nothing_left cells regs path report _ h, λ l. absurd (true≢false (sym h ∙ l)))

  pub run_ends : (regs' : List Float) (cells' path' : List ℕ) (n : ℕ) → short cells report ≡ false → (let R = run_at inputs b (length path) budget regs in
      Ends R n cells cells' regs' → path' ≡ placed (place_of R.answer) path
      → Leaves (run_outcome inputs b budget regs cells path report) n cells' regs' path' report × Carries cells' report R)
  unfolding run_outcome
  run_ends regs' cells' path' n h E hp = (
    subst (λ (o : Outcome). Leaves o n cells' regs' path' report) (roomy (short cells report) _ _ h) (E.number, E.left, E.registers, hp, refl),
    λ l. E.state (run_asks inputs b (length path) budget regs).0,
  )

-- ---- resume

module _ (inputs : List Float) (b : List ℕ) (budget : ℕ) (given : Option Float) (regs : List Float) (cells path report : List ℕ) where
  abbrev answered : Machine.Reply
  answered = resume_at inputs b (length path) budget given (state_in cells) regs

  pub resume_short : short cells report ≡ true
      → Leaves (resume_outcome inputs b budget given regs cells path report) slice_too_short cells regs path report × Carries cells report answered
  unfolding resume_outcome
  resume_short h = (nothing_left cells regs path report _ h, λ l. absurd (true≢false (sym h ∙ l)))

  pub resume_ten : short cells report ≡ false → path_room ≤ length path → valid (program_at b) ≡ false
      → Leaves (resume_outcome inputs b budget given regs cells path report) no_program cells regs path report × Carries cells report answered
  unfolding resume_outcome
  resume_ten h l v =
      let e = resume_10 inputs b (length path) budget regs given (state_in cells) l v in (
        subst (λ (o : Outcome). Leaves o no_program cells regs path report)
            (ap (λ (x : Machine.Reply). told x (after x cells) path report) e ∙ roomy (short cells report) _ _ h) (refl, refl, refl, refl, refl),
        λ f. ap (λ (x : Machine.Reply). x.state) e,
      )

  module _ (regs' : List Float) (cells' path' : List ℕ) (n : ℕ) (h : short cells report ≡ false)
      (E : Ends answered n cells cells' regs')
      (f : is_refused answered.answer ≡ false)
      (hp : path' ≡ placed (place_of answered.answer) path) where
    pub resume_ends : Leaves (resume_outcome inputs b budget given regs cells path report) n cells' regs' path' report × Carries cells' report answered
    unfolding resume_outcome
    resume_ends = (
      subst (λ (o : Outcome). Leaves o n cells' regs' path' report) (roomy (short cells report) _ _ h) (E.number, E.left ∙ rw f, E.registers, hp, refl),
      λ l. E.state (resume_asks inputs b (length path) budget given (state_in cells) regs f).0,
    )

  module _ (r : Reply) (regs' : List Float) (cells' path' : List ℕ) (n : ℕ)
      (h : short cells report ≡ false)
      (st : State)
      (hs : state_of st ≡ state_in cells)
      (hr : reply_of b r regs' ≡ resume_at inputs b (length path) budget given (state_of st) regs)
      (hp : path' ≡ placed (place_of (answer_of b r.answer)) path)
      (hn : n ≡ number_of (answer_of [] r.answer)) where
    is_answered : reply_of b r regs' ≡ answered
    is_answered = hr ∙ ap (λ (x : Machine.State). resume_at inputs b (length path) budget given x regs) hs

    pub resume_refused : is_refused (answer_of [] r.answer) ≡ true → HandsBack st r → cells' ≡ cells
        → Leaves (resume_outcome inputs b budget given regs cells path report) n cells' regs' path' report × Carries cells' report answered
    unfolding resume_outcome
    resume_refused t hb hc = (
      subst (λ (o : Outcome). Leaves o n cells' regs' path' report)
          (ap (λ (x : Machine.Reply). told x (after x cells) path report) is_answered ∙ roomy (short cells report) _ _ h)
          (hn ∙ same_number b r.answer, hc ∙ rw (sym (same_refusal b r.answer), t), refl, hp, refl),
      λ l. ap state_in hc ∙ sym hs ∙ ap state_of (sym (handed r r.answer st refl t hb)) ∙ ap (λ (x : Machine.Reply). x.state) is_answered,
    )

    pub resume_goes_on : is_refused (answer_of [] r.answer) ≡ false
        → cells' ≡ (state_cells (state_of r.state) ++ (r.count ∷ value_cell (answer_of [] r.answer) ∷ [])) ++ drop 16 cells
        → (Askable (pending_of r.state.pending) → state_in cells' ≡ state_of r.state)
        → Leaves (resume_outcome inputs b budget given regs cells path report) n cells' regs' path' report × Carries cells' report answered
    resume_goes_on t hc ha =
        resume_ends regs' cells' path' n h (reply_ends b r regs' answered cells cells' n is_answered hn hc ha)
        (ap (λ (x : Machine.Reply). is_refused x.answer) (sym is_answered) ∙ sym (same_refusal b r.answer) ∙ t)
        (placed_as path is_answered hp)
