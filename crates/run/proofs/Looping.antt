-- The loop's invariant: what is left of the call, with the count so far, is the whole call.
use mathlib.Core.Path.{◌≡◌, refl, ap, sym, ◌∙◌, subst}
use mathlib.Core.List.{List, []}
use mathlib.Core.Option.{none, some}
use Rattle.std.specs.Prelude.{Option, None, Some}
use mathlib.Core.Option as Math
use Prim.Native.Nat.{ℕ, zero, suc, ◌+◌, ◌-◌, ◌≤◌, ◌<◌}
use native.Mathlib.Omega.{arith}
use lib.ListN.{get_or, get_elem?}
use lib.Ieee.{Float, binary64}
use Rattle.arithmetic.specs.Value.{0f}
use Rattle.meaning.specs.Work as Meaning
use Rattle.machine.specs.Program.{Instruction, Program, instruction}
use Rattle.machine.specs.Machine as Machine
use Rattle.machine.specs.Machine.{asks, counted, fails, gives, goes, outside, refused, spent, wants}
use Rattle.layout.specs.Decode.{code_count, path_of, raw_program, result_at}
use Rattle.formula.specs.Node.{fields_at}
use Rattle.formula.specs.Text.{word_at}
use Rattle.reader.proofs.Bytes.{Bytes, fields_fit}
use Rattle.work.specs.View.{kept_values, question_of}
use Rattle.work.specs.declared.Kept.{Kept}
use Rattle.work.specs.declared.Question.{Question}
use Rattle.program.proofs.Body.{code_at, code_length, code_past}
use Rattle.instruction.specs.Common.{Went}
use Rattle.instruction.specs.Progressing.{Progressed, effect_of, machine_effect, registers_after}
use Rattle.instruction.specs.declared.Progress.{Progress}
use Rattle.instruction.specs.declared.Progress.TheVariants as P
use Rattle.refusals.specs.Refusals.{number_of}
use Rattle.refusals.specs.declared.Refusal.{Refusal}
use Rattle.run.specs.Views.{answer_of, reply_of}
use Rattle.run.specs.Calls.{KnownPlace, Reaches, after, bare, steps_at}
use Rattle.run.specs.declared.Answer.TheVariants as A
use Rattle.run.specs.declared.Reply.{Reply}

after_none : (r : Machine.Reply) → after 0 r ≡ r
unfolding after
after_none r =
    let e : 0 + r.count ≡ r.count = omega arith in
    ap (λ (c : ℕ). record { answer = r.answer; count = c; state = r.state; registers = r.registers }) e

after_after : (d e : ℕ) (r : Machine.Reply) → after d (after e r) ≡ after (d + e) r
unfolding after
after_after d e r =
    let f : d + (e + r.count) ≡ d + e + r.count = omega arith in
    ap (λ (c : ℕ). record { answer = r.answer; count = c; state = r.state; registers = r.registers }) f

after_counted : (inputs : List Float) (P : Program) (d : ℕ) (r : Machine.Reply) → after d (counted binary64 inputs P r) ≡ after (d + 1) r
unfolding after
after_counted inputs P d r =
    let e : d + suc r.count ≡ d + 1 + r.count = omega arith in
    ap (λ (c : ℕ). record { answer = r.answer; count = c; state = r.state; registers = r.registers }) e

-- a position of an instruction is a number of 4 bytes
pub code_small : (b : List ℕ) → Bytes b → code_count b < 4294967296
unfolding code_count fields_at word_at
code_small b h = (fields_fit b 0 h).symbol_number

-- ---- how a call ends

-- a reply at a position
abbrev pub halted : Machine.Answer → ℕ → ℕ → List Float → Math.Option Meaning.Question → List Float → Machine.Reply
halted a count at kept q regs = record { answer = a; count = count; state = record { position = at; kept = kept; pending = q }; registers = regs }

halted_is : (a : Machine.Answer) {n n' i i' : ℕ} (k : List Float) (q : Math.Option Meaning.Question) {r r' : List Float} → n ≡ n' → i ≡ i' → r ≡ r' → halted a n i k q r ≡ halted a n' i' k q r'
halted_is a k q e f g = cc

unmoved : {b : List ℕ} {n : ℕ} {e : Machine.Effect} {r : Progress} {before after' : List Float} → Progressed b n e r before after' → registers_after (effect_of b r after') before ≡ before → after' ≡ before
unmoved {before} T e = T.stays ∙ ap (λ a. registers_after a before) (sym T.does) ∙ e

module _ (inputs : List Float) (b : List ℕ) where
  -- one instruction done
  next_is : (left done at m : ℕ) (kept regs after' : List Float) → 0 < left → at < code_count b → Progressed b at (machine_effect inputs b at kept regs) (P.Next m) regs after'
      → after done (steps_at inputs b left at kept regs) ≡ after (done + 1) (steps_at inputs b (left - 1) m [] after')
  unfolding after steps_at machine_effect
  next_is zero done at m kept regs after' l h T = absurd (omega arith)
  next_is (suc budget) done at m kept regs after' l h T =
      let R = raw_program b in
      let e : Machine.steps binary64 inputs R (suc budget) at kept regs ≡ counted binary64 inputs R (Machine.steps binary64 inputs R budget m [] after') = rw (code_at b at h, ← T.does) in
      let f : budget ≡ suc budget - 1 = omega arith in
      ap (after done) e ∙ after_counted inputs R done (Machine.steps binary64 inputs R budget m [] after')
      ∙ ap (λ (x : ℕ). after (done + 1) (Machine.steps binary64 inputs R x m [] after')) f

  pub end_is : (left done at : ℕ) (kept regs : List Float) → code_count b ≤ at
      → halted (gives (get_or regs (result_at b) 0f)) done (code_count b) [] none regs ≡ after done (steps_at inputs b left at kept regs)
  unfolding after steps_at raw_program
  end_is zero done at kept regs h = rw (code_past b at h) (halted_is _ [] none (omega arith) (sym (code_length b)) refl)
  end_is (suc budget) done at kept regs h = rw (code_past b at h) (halted_is _ [] none (omega arith) (sym (code_length b)) refl)

  pub value_is : (left done at code : ℕ) (kept regs : List Float) {s : Machine.State} {v : Float} {w : ℕ} → code ≡ code_count b → code ≤ at → s ≡ bare code → v ≡ get_or regs w 0f → w ≡ result_at b
      → ◌≡◌ {A = Machine.Reply} (record { answer = gives v; count = done; state = s; registers = regs }) (after done (steps_at inputs b left at kept regs))
  value_is left done at code kept regs ec h es ev ew = rw (es, ev, ew, ec) (end_is left done at kept regs (omega arith))

  pub spent_is : (left done at : ℕ) (kept regs : List Float) → at < code_count b → left ≡ 0 → halted spent done at kept none regs ≡ after done (steps_at inputs b left at kept regs)
  unfolding after steps_at
  spent_is zero done at kept regs h e = rw (code_at b at h) (halted_is spent kept none (omega arith) refl refl)
  spent_is (suc budget) done at kept regs h e = absurd (omega arith)

  pub domain_is : (left done at code k : ℕ) (kept regs : List Float) {s : Machine.State} {after' : List Float} → code ≡ code_count b → 0 < left → at < code → s ≡ bare code
      → Progressed b at (machine_effect inputs b at kept regs) (P.Domain k) regs after'
      → ◌≡◌ {A = Machine.Reply} (record { answer = outside (path_of b k); count = done; state = s; registers = after' }) (after done (steps_at inputs b left at kept regs))
  unfolding after steps_at machine_effect
  domain_is zero done at code k kept regs ec l h es T = absurd (omega arith)
  domain_is (suc budget) done at code k kept regs ec l h es T =
      rw (es, ec, code_at b at (omega arith), ← T.does) (halted_is _ [] none (omega arith) (sym (code_length b)) (unmoved T refl))

  pub asked_is : (left done at : ℕ) (q : Question) (kept regs : List Float) {after' : List Float} → 0 < left → at < code_count b
      → Progressed b at (machine_effect inputs b at kept regs) (P.Question q) regs after'
      → halted (asks (question_of q)) done at kept (some (question_of q)) after' ≡ after done (steps_at inputs b left at kept regs)
  unfolding after steps_at machine_effect
  asked_is zero done at q kept regs l h T = absurd (omega arith)
  asked_is (suc budget) done at q kept regs l h T =
      rw (code_at b at h, ← T.does) (halted_is _ kept (some (question_of q)) (omega arith) refl (unmoved T refl))

  -- ---- how far a call came

  pub reaches_start : (budget at : ℕ) (kept regs : List Float) → Reaches inputs b budget at kept regs budget at kept regs
  reaches_start budget at kept regs =
      let e : budget - budget ≡ 0 = omega arith in
      record { within = omega arith; rest = ap (λ (d : ℕ). after d (steps_at inputs b budget at kept regs)) e ∙ after_none _ }

  module _ {budget position left at : ℕ} {kept regs kept' regs' : List Float} (R : Reaches inputs b budget position kept regs left at kept' regs') where
    -- one instruction more
    pub reaches_next : (m : ℕ) {after' : List Float} → 0 < left → at < code_count b
        → Progressed b at (machine_effect inputs b at kept' regs') (P.Next m) regs' after' → Reaches inputs b budget position kept regs (left - 1) m [] after'
    reaches_next m {after'} l h T =
        let w = R.within in
        let z : budget - (left - 1) ≡ budget - left + 1 = omega arith in
        record {
          within = omega arith;
          rest = ap (λ (d : ℕ). after d (steps_at inputs b (left - 1) m [] after')) z ∙ sym (next_is left (budget - left) at m kept' regs' after' l h T) ∙ R.rest;
        }

    -- an instruction more that was done whatever is kept; one that was not changes nothing
    pub reaches_common : (m : ℕ) {to : Option ℕ} {after' : List Float} → 0 < left → at < code_count b → to ≡ Some m → Went inputs b at regs' to after'
        → Reaches inputs b budget position kept regs (left - 1) m [] after'
    reaches_common m {to} {after'} l h e W = reaches_next m l h (subst (λ o. Went inputs b at regs' o after') e W kept')

    pub reaches_other : {to : Option ℕ} {after' : List Float} → to ≡ None → Went inputs b at regs' to after' → Reaches inputs b budget position kept regs left at kept' after'
    reaches_other {to} {after'} e W =
        let V : after' ≡ regs' = subst (λ o. Went inputs b at regs' o after') e W in
        subst (λ x. Reaches inputs b budget position kept regs left at kept' x) (sym V) R

    -- from there on
    pub reaches_on : {left' at' : ℕ} {kept'' regs'' : List Float} → Reaches inputs b left at kept' regs' left' at' kept'' regs'' → Reaches inputs b budget position kept regs left' at' kept'' regs''
    reaches_on {left'} {at'} {kept''} {regs''} S =
        let w = R.within in
        let v = S.within in
        let z : budget - left' ≡ budget - left + (left - left') = omega arith in
        record {
          within = omega arith;
          rest = ap (λ (d : ℕ). after d (steps_at inputs b left' at' kept'' regs'')) z
              ∙ sym (after_after (budget - left) (left - left') (steps_at inputs b left' at' kept'' regs''))
              ∙ ap (after (budget - left)) S.rest ∙ R.rest;
        }

  -- where nothing is kept
  pub reaches_bare : {budget position left at : ℕ} {regs regs' : List Float} (k : Kept) → k.count ≡ 0 → Reaches inputs b budget position [] regs left at [] regs'
      → Reaches inputs b budget position (kept_values k) regs left at (kept_values k) regs'
  reaches_bare k e R = rw e R

  -- ---- the place of a Domain

  pub known_place : (at k : ℕ) {e : Machine.Effect} {regs after' : List Float} → at < code_count b → Progressed b at e (P.Domain k) regs after' → KnownPlace b (A.Domain k)
  known_place at k h T = λ j z. (at, h, let f : k ≡ j = cc in sym f ∙ T.place k refl)

  -- ---- the machine's steps refuse nothing

  never : (rest : ℕ → List Float → Machine.Reply) → ((to : ℕ) (regs : List Float) (n : ℕ) → (rest to regs).answer ≡ refused n → ⊥)
      → (at : ℕ) (kept regs : List Float) (e : Machine.Effect) (n : ℕ) → (Machine.followed binary64 inputs (raw_program b) rest at kept regs e).answer ≡ refused n → ⊥
  never rest f at kept regs (goes to regs') n e = f to regs' n e
  never rest f at kept regs (fails p) n e = let z : ◌≡◌ {A = ℕ} 0 1 = cc in omega arith
  never rest f at kept regs (wants q) n e = let z : ◌≡◌ {A = ℕ} 0 1 = cc in omega arith

  out : (at : ℕ) (kept regs : List Float) (i : Math.Option Instruction) (n : ℕ) → (Machine.out_of_budget binary64 inputs (raw_program b) at kept regs i).answer ≡ refused n → ⊥
  out at kept regs none n e = let z : ◌≡◌ {A = ℕ} 0 1 = cc in omega arith
  out at kept regs (some i) n e = let z : ◌≡◌ {A = ℕ} 0 1 = cc in omega arith

  next_never : (rest : ℕ → List Float → Machine.Reply) → ((to : ℕ) (regs : List Float) (n : ℕ) → (rest to regs).answer ≡ refused n → ⊥)
      → (at : ℕ) (kept regs : List Float) (i : Math.Option Instruction) (n : ℕ) → (Machine.next binary64 inputs (raw_program b) rest at kept regs i).answer ≡ refused n → ⊥
  next_never rest f at kept regs none n e = let z : ◌≡◌ {A = ℕ} 0 1 = cc in omega arith
  next_never rest f at kept regs (some (instruction o d p)) n e = never rest f at kept regs (Machine.effect binary64 inputs (raw_program b) o d p at kept regs) n e

  steps_never : (budget at : ℕ) (kept regs : List Float) (n : ℕ) → (Machine.steps binary64 inputs (raw_program b) budget at kept regs).answer ≡ refused n → ⊥
  steps_never zero at kept regs n e = out at kept regs (get_elem? (raw_program b).code at) n e
  steps_never (suc budget) at kept regs n e =
      next_never (λ to regs'. Machine.steps binary64 inputs (raw_program b) budget to [] regs') (λ to regs' m z. steps_never budget to [] regs' m z) at kept regs
      (get_elem? (raw_program b).code at) n e

  pub never_refused : (budget at : ℕ) (kept regs : List Float) (n : ℕ) → (steps_at inputs b budget at kept regs).answer ≡ refused n → ⊥
  unfolding steps_at
  never_refused budget at kept regs n e = steps_never budget at kept regs n e

  pub not_refused : (budget at : ℕ) (kept regs regs' : List Float) (r : Reply) → reply_of b r regs' ≡ steps_at inputs b budget at kept regs → (n : Refusal) → r.answer ≡ A.Refused n → ⊥
  unfolding steps_at
  not_refused budget at kept regs regs' r e n f = steps_never budget at kept regs (number_of n) (ap (λ x. x.answer) (sym e) ∙ ap (answer_of b) f)

-- ---- by name, for the code

pub ruleset reached = (reaches_common, reaches_on, reaches_other, reaches_start)

pub ruleset ended = (spent_is, value_is)
