-- The run of a line's values, as `legs` has it.
use Rattle.std.proofs.Common.{◌≡◌, ℕ, suc, ◌<◌, ◌≤◌, Bool, true, false, not, ◌&&◌, eqb, leb, List, [], ◌∷◌, ◌++◌, length, take, replicate, sym, refl, ap, ◌∙◌, arith, ne_eqb, drop, length-append, length-take-le, take_at}
use mathlib.Core.Option.{Option, none, some}
use lib.Ieee.{Float, binary64}
use Rattle.arithmetic.specs.Value.{0f, finite}
use Rattle.formula.specs.Text.{all, byte_at, half_at, word_at}
use Rattle.formula.specs.Path.{path_room}
use Rattle.machine.specs.Program.{Program, valid}
use Rattle.machine.specs.Machine as Machine
use Rattle.layout.specs.Decode.{code_count, input_count, path_total, program_at, raw_program, register_total}
use Rattle.names.proofs.Splits.{no_true}
use Rattle.program.proofs.Body.{code_length}
use Rattle.program.proofs.Pass.{valid_raw}
use Rattle.run.specs.declared.Reply.{Reply}
use Rattle.run.specs.Views.{answer_of, reply_of}
use Rattle.run.specs.Calls.{run_at, unfit_at}
use Rattle.run.proofs.Whole.{run_5}
use Rattle.listing.specs.Legs.{Line, bad, line_of, run_line, value_record, zero_registers}
use Rattle.std.specs.Prelude.{Result, Ok, Err}
use Rattle.refusals.specs.Refusals.{number_of}
use Rattle.refusals.specs.declared.Refusal.{Refusal}
use Rattle.lines.specs.declared.record.Outcome.{Outcome}
use Rattle.values.specs.Reading.{Finds, floats}
use Rattle.lines.specs.Record.{Ready, Runs, found_line}

-- ---- registers, of which the first n are filled with zeros

module _ (regs : List Float) (n : ℕ) (zeros : List Float) (h : n ≤ length regs) (l : length zeros ≡ length (take n regs)) where
  pub zeroed_long : length zeros ≡ n
  zeroed_long = l ∙ length-take-le n regs h

  pub zeroed_room : n ≤ length (zeros ++ drop n regs)
  zeroed_room = omega (arith, length-append zeros (drop n regs), zeroed_long)

  pub zeroed_first : take n (zeros ++ drop n regs) ≡ zeros
  zeroed_first = take_at zeros (drop n regs) n zeroed_long

-- ---- a run from fresh

-- what a reply says of its line
abbrev said : Machine.Reply → Line
said r = line_of r.answer r.count

module _ (b : List ℕ) (ok : valid (program_at b) ≡ true) where
  zero_is : replicate (register_total b) 0f ≡ zero_registers (program_at b)
  unfolding register_total raw_program
  zero_is = sym (ap zero_registers (valid_raw b ok))

  budget_is : code_count b ≡ length (program_at b).code
  budget_is = sym (ap (λ (P : Program). length P.code) (valid_raw b ok) ∙ code_length b)

  whole_run : (inputs regs : List Float) (budget : ℕ) → regs ≡ replicate (register_total b) 0f → budget ≡ code_count b
      → said (run_at inputs b 8192 budget regs) ≡ run_line (program_at b) inputs
  unfolding run_at
  whole_run inputs regs budget z e =
      ap
      (λ (n : ℕ). said (Machine.run binary64 inputs (program_at b) (record { room = path_room; budget = n; given = none }) regs))
      (e ∙ budget_is)
      ∙ ap
      (λ (xs : List Float). said (Machine.run binary64 inputs (program_at b) (record { room = path_room; budget = length (program_at b).code; given = none }) xs))
      (z ∙ zero_is)

  pub ran : (inputs regs regs' : List Float) (budget : ℕ) (r : Reply) (o : Outcome) → regs ≡ replicate (register_total b) 0f → budget ≡ code_count b
      → reply_of b r regs' ≡ run_at inputs b 8192 budget regs → o ≡ record { answer = r.answer; count = r.count } → Runs b inputs o
  ran inputs regs regs' budget r o z e q s =
      ap (λ (x : Outcome). line_of (answer_of b x.answer) x.count) s ∙ ap said q ∙ whole_run inputs regs budget z e

  unfit_by : (u v w x : Bool) → u ≡ false → not (u && v && w && x) ≡ true
  unfit_by true v w x e = absurd (no_true (sym e))
  unfit_by false v w x e = refl

  -- "a wrong count of values .. shows 5"
  wrong_count : (inputs : List Float) → (length inputs ≡ input_count b → ⊥) → bad 5 ≡ run_line (program_at b) inputs
  unfolding unfit_at raw_program
  wrong_count inputs n =
      let regs = replicate (register_total b) 0f in
      let k = code_count b in
      ap said
      (run_5 inputs b 8192 k regs (omega arith) ok
      (unfit_by (eqb (length inputs) (input_count b)) (leb (register_total b) (length regs)) (all finite inputs) (not (eqb k 0)) (ne_eqb (length inputs) (input_count b) n)))
      ∙ whole_run inputs regs k refl refl

-- a code's instructions are counted in four bytes
pub code_short : (b : List ℕ) → valid (program_at b) ≡ true → ((i : ℕ) → byte_at b i < 256) → length (program_at b).code ≤ 4294967296
unfolding code_count half_at word_at
code_short b ok h = omega (arith, budget_is b ok, h 4, h 5, h 6, h 7)

-- and so are its paths
pub paths_few : (b : List ℕ) → ((i : ℕ) → byte_at b i < 256) → path_total b < 4294967296
unfolding half_at word_at path_total
paths_few b h = omega (arith, h 24, h 25, h 26, h 27)

-- ---- what a line was found to be

-- they are the definition's record of the line
module _ (b : List ℕ) (values : List Float) (k : ℕ) (ready : Ready b (length values) k) where
  floats_length : (vs : List ℕ) → length (floats vs) ≡ length vs
  floats_length [] = refl
  floats_length (v ∷ vs) = ap suc (floats_length vs)

  pub found_record : (line : Option (List ℕ)) (found : Result ℕ Refusal) → Finds line found values → found_line (program_at b) found values ≡ value_record (program_at b) line
  found_record none (Err refusal) f = ap (λ (r : Refusal). bad (number_of r)) f
  found_record none (Ok n) f = absurd f
  found_record (some vs) (Err refusal) f =
      ap (λ (r : Refusal). bad (number_of r)) f.0
      ∙ wrong_count b ready.sound (floats vs) (λ z. let i = ready.inputs in let w = floats_length vs in let h = f.1 in omega arith)
  found_record (some vs) (Ok n) f = ap (run_line (program_at b)) f.1

-- lengths that stay
pub ready_same : (b : List ℕ) (n k n' k' : ℕ) → n' ≡ n → k' ≡ k → Ready b n k → Ready b n' k'
ready_same b n k n' k' e f r =
    record { sound = r.sound; registers = let h = r.registers in omega arith; inputs = let h = r.inputs in omega arith }
