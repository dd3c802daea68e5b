-- Every list of calls: the invariant between calls, and the induction on the list.
use mathlib.Core.Path.{◌≡◌, refl, ap, sym, ◌∙◌, subst}
use mathlib.Core.List.{List, [], ◌∷◌, ◌++◌, append_assoc, append-nil}
use mathlib.Core.Bool.{Bool, true, false, cond, ◌&&◌}
use mathlib.Core.Option.{Option, none, some}
use Prim.Native.Nat.{ℕ, zero, suc, ◌*◌, ◌≤◌, ◌<◌}
use native.Mathlib.Omega.{arith}
use lib.ListN.{length, get_or}
use lib.Dec.{ltb, eqb}
use lib.Ieee.{Float, Format}
use borrow.Author.Tests.{le-leb, eq-eqb}
use Rattle.arithmetic.specs.Value.{0f, finite}
use Rattle.formula.specs.Text.{all}
use Rattle.formula.specs.Path.{root}
use Rattle.formula.specs.Term.{Term}
use Rattle.meaning.specs.Reading.{Outcome, domain, question, reading, value}
use Rattle.meaning.proofs.Laws.{bind_value, same_question_refl}
use Rattle.machine.specs.Check.{Context, fault}
use Rattle.machine.specs.Lower.{lowered, program, register_count}
use Rattle.machine.specs.Machine.{Call, Reply, fresh, more, refuse, resume, run, spent, stale, steps, unfit}
use Rattle.machine.proofs.Laws.{and_l, and_r, instruction_count_pos, length_lowered, lt_some, none_at, not_not}
use Rattle.machine.proofs.Size.{Narrow, longest_path}
use Rattle.machine.proofs.Valid.{program_valid}
use Rattle.claim.specs.Claim.{Calls, Fulfils, History, Resumes, Stage, accepted_call, noted, out_of_turn, over, ready, refusal, shown, start, waiting}
use Rattle.machine.proofs.Simulation.{Simulates, asked, correct, ended, holds_from, resp}
use Rattle.claim.proofs.Steps.{Stands, steps_right}

noted_is : (h : History) (c : Call) (r : Reply) (x : Bool) (o : Outcome Float) → noted h c r (cond x spent (shown o)) ≡ accepted_call h c r
noted_is h c r true o = refl
noted_is h c r false (value v s) = refl
noted_is h c r false (domain p) = refl
noted_is h c r false (question q) = refl

finite_at : (xs : List Float) (i : ℕ) → all finite xs ≡ true → i < length xs → finite (get_or xs i 0f) ≡ true
finite_at [] i e l = absurd (omega arith)
finite_at (x ∷ xs) zero e l = and_l (finite x) (all finite xs) e
finite_at (x ∷ xs) (suc i) e l = finite_at xs i (and_r (finite x) (all finite xs) e) (omega arith)

module _ (F : Format) (C : Context) (inputs : List Float) (t : Term) (same_count : length inputs ≡ length C.symbols) (ok : fault C t root ≡ none) (few : Narrow t)
    (low : 17 * longest_path t ≤ 8188) (fins : all finite inputs ≡ true) where
  -- the machine does what the tree reading says
  pub whole : (regs : List Float) → register_count t ≤ length regs → Simulates F inputs (program C t) 0 [] regs (λ s. reading F inputs t root s)
  whole regs w =
      let P = program C t in
      resp F inputs P (λ s. bind_value (reading F inputs t root s))
      (correct F inputs P C same_count (λ i l. finite_at inputs i fins l) t root 0 0 regs (λ v s. value v s) ok (holds_from F inputs P [] (lowered t root 0 0) refl) (omega arith)
      (λ regs' v A. ended (omega (arith, length_lowered t root 0 0)) (λ s. rw A.here)))

  pub record Inv (h : History) : Type 0 where
    pub total : h.total ≤ h.state.position
    pub inside : h.state.position ≤ length (lowered t root 0 0)
    pub sized : register_count t ≤ length h.registers
    pub stands : Stands F inputs (program C t) h.stage h.state h.registers (λ s. reading F inputs t root (h.supplied ++ s))

  abbrev pub Done : History → Call → Reply → Option ℕ → Type 0
  Done h c r x = Fulfils F C inputs t h c r x × Inv (noted h c r r.answer)

  pub refused_step : (n : ℕ) (h : History) (c : Call) → Inv h → Done h c (refuse n h.state h.registers) (some n)
  refused_step n h c I = (refl, record { total = omega (arith, I.total); inside = I.inside; sized = I.sized; stands = I.stands })

  pub choose : (b : Bool) (n : ℕ) (h : History) (c : Call) (r : Reply) (x : Option ℕ) → Inv h → Done h c r x
      → Done h c (cond b (refuse n h.state h.registers) r) (cond b (some n) x)
  choose true n h c r x I D = refused_step n h c I
  choose false n h c r x I D = D

  pub steps_step : (h : History) (c : Call) → Inv h
      → Simulates F inputs (program C t) h.state.position (more h.state.kept c.given) h.registers (λ s. reading F inputs t root (more h.supplied c.given ++ s))
      → Done h c (steps F inputs (program C t) c.budget h.state.position (more h.state.kept c.given) h.registers) none
  steps_step h c I R =
      let r = steps F inputs (program C t) c.budget h.state.position (more h.state.kept c.given) h.registers in
      let W = steps_right F inputs (program C t) R c.budget in (
        (rw append-nil at W.says, W.budget),
        subst (λ k. Inv k) (sym (ap (noted h c r) W.says ∙ noted_is h c r (eqb r.count c.budget && ltb r.state.position (length (lowered t root 0 0))) (reading F inputs t root (more h.supplied c.given ++ []))))
            (record {
              total = omega (arith, W.moved, I.total);
              inside = W.inside;
              sized = omega (arith, W.sized, I.sized);
              stands = W.stands;
            }),
      )

  pub turn : (s : Stage) (g : Option Float) (room b : ℕ) (h : History) → Inv h
      → Stands F inputs (program C t) s h.state h.registers (λ s. reading F inputs t root (h.supplied ++ s))
      → Done h (record { room = room; budget = b; given = g })
      (cond (stale F inputs (program C t) h.state h.registers g) (refuse 11 h.state h.registers)
      (steps F inputs (program C t) b h.state.position (more h.state.kept g) h.registers))
      (out_of_turn s g)
  turn ready none room b h I S =
      let i = lt_some (lowered t root 0 0) h.state.position S.1 in
      let e : stale F inputs (program C t) h.state h.registers none ≡ false = rw (i.3, S.0) in
      rw e (steps_step h (record { room = room; budget = b; given = none }) I S.2)
  turn ready (some x) room b h I S =
      let i = lt_some (lowered t root 0 0) h.state.position S.1 in
      let e : stale F inputs (program C t) h.state h.registers (some x) ≡ true = rw (i.3, S.0) in
      rw e (refused_step 11 h (record { room = room; budget = b; given = some x }) I)
  turn waiting none room b h I S =
      let e : stale F inputs (program C t) h.state h.registers none ≡ false = rw (S.5, S.4, S.6, same_question_refl F) in
      rw e
      (steps_step h (record { room = room; budget = b; given = none }) I (asked S.0 S.1 S.2 S.3 S.5 S.6 S.7 S.8))
  turn waiting (some x) room b h I S =
      let e : stale F inputs (program C t) h.state h.registers (some x) ≡ false = rw (S.5, S.4, S.6, same_question_refl F) in
      rw e
      (steps_step h (record { room = room; budget = b; given = some x }) I
      (resp F inputs (program C t) (λ s. ap (λ z. reading F inputs t root z) (sym (append_assoc h.supplied (x ∷ []) s))) (S.8 x)))
  turn over g room b h I S =
      let e : stale F inputs (program C t) h.state h.registers g ≡ true = rw (none_at (lowered t root 0 0) h.state.position S) in
      rw e (refused_step 11 h (record { room = room; budget = b; given = g }) I)

  pub unfit_is : (h : History) (c : Call) → Inv h → unfit F inputs (program C t) h.registers c.budget ≡ eqb c.budget 0
  unfit_is h c I = rw (eq-eqb (length inputs) (length C.symbols) same_count, le-leb (register_count t) (length h.registers) I.sized, fins, not_not)

  pub step : (h : History) (c : Call) → Inv h
      → Fulfils F C inputs t h c (resume F inputs (program C t) c h.state h.registers) (refusal h.stage c)
      × Inv (noted h c (resume F inputs (program C t) c h.state h.registers) (resume F inputs (program C t) c h.state h.registers).answer)
  step h c I =
      choose (ltb c.room 8192) 1 h c _ _ I
      (rw (program_valid C t ok few low, unfit_is h c I) (choose (eqb c.budget 0) 5 h c _ _ I (turn h.stage c.given c.room c.budget h I I.stands)))

  pub claims : (cs : List Call) (h : History) → Inv h → Resumes F C inputs t h cs
  claims [] h I = omega (arith, I.total, I.inside)
  claims (c ∷ cs) h I = ((step h c I).0, claims cs _ (step h c I).1)

  -- the whole list: a run from a fresh state, then resumes
  pub first_history : (regs : List Float) → register_count t ≤ length regs → Inv (start regs)
  first_history regs w =
      record {
        total = omega arith;
        inside = omega arith;
        sized = w;
        stands = (refl, omega (arith, length_lowered t root 0 0, instruction_count_pos t), whole regs w);
      }

  pub theorem : (regs : List Float) → register_count t ≤ length regs → (room budget : ℕ) (cs : List Call) → Calls F C inputs t regs room budget cs
  theorem regs w room budget cs =
      let P = program C t in
      let c : Call = record { room = room; budget = budget; given = none } in
      let I = first_history regs w in
      let i = lt_some (lowered t root 0 0) 0 I.stands.1 in
      let e : stale F inputs P fresh regs none ≡ false = rw i.3 in
      let D : Done (start regs) c (run F inputs P c regs) (refusal ready c) = rw e at (step (start regs) c I) in
      (D.0, claims cs _ D.1)
