-- What compiling over a name line leaves: a refusal's line, or a program to run.
use Rattle.std.proofs.Common.{◌≡◌, ℕ, ◌<◌, ◌≤◌, true, leb, List, length, take, sym, refl, ap, ◌∙◌, subst, arith, leb-true}
use lib.ListN.{length-replicate}
use Rattle.formula.specs.Text.{byte_at, zeros}
use Rattle.formula.specs.Formula.{Formula, depth, size}
use Rattle.formula.specs.Names.{Symbol}
use Rattle.formula.specs.Term.{term}
use Rattle.machine.specs.Compile.{Compiled, accepted, compile, own_context, path_after, program_after}
use Rattle.machine.specs.Compile as Compile
use Rattle.machine.specs.Lower.{program}
use Rattle.machine.specs.Program.{Program, valid}
use Rattle.machine.proofs.Accepted.{accepted_formula}
use Rattle.machine.proofs.Size.{narrow, path_size}
use Rattle.machine.proofs.Valid.{program_valid}
use Rattle.layout.specs.Decode.{input_count, program_at, raw_program, register_total}
use Rattle.layout.specs.Image.{image}
use Rattle.layout.proofs.Lengths.{bounds}
use Rattle.names.proofs.Splits.{and_first}
use Rattle.names.proofs.Told.{kinds_length, names_few}
use Rattle.program.proofs.Pass.{valid_raw}
use Rattle.std.specs.Prelude.{Option as Maybe, Some, None, Result, Ok, Err}
use Rattle.refusals.specs.declared.Refusal.{Refusal}
use Rattle.refusals.specs.Refusals.{node_of, number_of, refusal_at, refusal_of}
use Rattle.compile.proofs.Numbers.{Numbers, numbers}
use Rattle.compile.specs.Entry.{answer}
use Rattle.compile.proofs.Back.{accepted_parts, reads_back}
use Rattle.listing.specs.Legs.{compiled, node_line, place_text, printed, refused_as}
use Rattle.listing.specs.Totals.{nothing}
use Rattle.lines.specs.declared.Begun.{Begun}
use Rattle.lines.specs.declared.Stage.{Stage}
use Rattle.lines.specs.declared.sums.Totals.{Totals}
use Rattle.values.specs.Reading.{Reading, Starts}
use Rattle.lines.specs.Record.{Ready}
use Rattle.lines.specs.Text.{Wrote}
use Rattle.lines.specs.Sums.{totals_of}
use Rattle.lines.specs.Owed.{CompiledAs, Compiles, EndsWith, TextLength}
use Rattle.lines.proofs.Places.{free_place, place_stands, place_taken}

-- ---- a program that compile wrote

module _ (formula names : List ℕ) (p q : ℕ) (bytes : (i : ℕ) → byte_at formula i < 256) (f : Formula) (ss : List Symbol) (e : compile formula names p q ≡ accepted f ss)
    (slice program' : List ℕ) (w : program' ≡ program_after image (compile formula names p q) slice) where
  written : program_at program' ≡ program (own_context ss) (term f)
  written = ap program_at w ∙ reads_back formula names bytes p q f ss e slice

  few_nodes : size f ≤ 256
  few_nodes = leb-true (size f) 256 (and_first (leb (size f) 256) (leb (depth f) 32) (accepted_formula formula names p q f ss e).limit)

  sound : valid (program_at program') ≡ true
  sound =
      let h = few_nodes in
      ap valid written
      ∙ program_valid (own_context ss) (term f) (accepted_formula formula names p q f ss e).faultless (narrow f (omega arith)) (omega (arith, path_size f))

  registers_are : register_total program' ≡ (program (own_context ss) (term f)).registers
  unfolding raw_program
  registers_are = ap (λ (P : Program). P.registers) (sym (valid_raw program' sound) ∙ written)

  inputs_are : input_count program' ≡ (program (own_context ss) (term f)).inputs
  unfolding raw_program
  inputs_are = ap (λ (P : Program). P.inputs) (sym (valid_raw program' sound) ∙ written)

  ready : Ready program' 256 1276
  ready =
      let h = few_nodes in
      record {
        sound = sound;
        registers = omega (arith, registers_are, bounds f);
        inputs = omega (arith, inputs_are, kinds_length ss, names_few names ss (accepted_parts formula names p q f ss e).1);
      }

-- ---- the answers of compile

no_error : {r : Refusal} → ◌≡◌ {A = Result Unit Refusal} (Err r) (Ok tt) → ⊥
no_error e = let z : ◌≡◌ {A = ℕ} 0 1 = cc in omega arith

no_some : {k : ℕ} → ◌≡◌ {A = Maybe ℕ} None (Some k) → ⊥
no_some e = let z : ◌≡◌ {A = ℕ} 0 1 = cc in omega arith

module _ (formula names path slice path' program' out out' : List ℕ) (r : Begun) (a : Result Unit Refusal)
    (told : a ≡ answer (compile formula names (length path) (length slice))) where
  -- compile's slices are as long as `legs` has them
  same_rooms : path ≡ zeros 8192 → length slice ≡ 61440 → compile formula names (length path) (length slice) ≡ compiled formula names
  same_rooms z l =
      ap (λ (n : ℕ). compile formula names n (length slice)) (ap length z ∙ length-replicate {A = ℕ} 8192 0) ∙ ap (λ (n : ℕ). compile formula names 8192 n) l

  named : Numbers (compile formula names (length path) (length slice))
  named = numbers formula names (length path) (length slice)

  module _ (x : Refusal) (is : a ≡ Err x) where
    same_refusal : (y : Refusal) → answer (compile formula names (length path) (length slice)) ≡ Err y → x ≡ y
    same_refusal y e = let q : ◌≡◌ {A = Result Unit Refusal} (Err x) (Err y) = sym is ∙ told ∙ e in cc

    refused_by : (X : Compiled) → compile formula names (length path) (length slice) ≡ X → Numbers X → node_of x ≡ None → (m len : ℕ) → path ≡ zeros 8192
        → path' ≡ path_after (compile formula names (length path) (length slice)) path → length path' ≡ length path → TextLength path' m
        → Wrote out 0 (printed 0 (refused_as (number_of x) (take m path'))) out' len → EndsWith nothing r.stage → r.length ≡ len → Compiles X program' r out out'
    refused_by (accepted f ss) e d o m len z w l y v s u = absurd (no_error (sym is ∙ told ∙ ap answer e))
    refused_by (Compile.refused_at k j) e d o m len z w l y v s u = absurd (no_some (sym o ∙ ap node_of (same_refusal (refusal_at k j) (ap answer e)) ∙ d.node))
    refused_by (Compile.refused k place) e d o m len z w l y v s u =
        let nk : number_of x ≡ k = ap number_of (same_refusal (refusal_of k) (ap answer e)) ∙ d.number in
        let h = place_stands place path path' z (w ∙ ap (λ (X : Compiled). path_after X path) e) l in
        let c = place_taken place path' h.0 m h.1 (y.2 (place_text place) h.0 h.1 (free_place place) h.2) in
        let text : printed 0 (refused_as (number_of x) (take m path')) ≡ printed 0 (refused_as k (place_text place)) =
        ap (λ (n : ℕ). printed 0 (refused_as n (take m path'))) nk ∙ ap (λ (xs : List ℕ). printed 0 (refused_as k xs)) c in
        (s, rw u (subst (λ (xs : List ℕ). Wrote out 0 xs out' len) text v))

    pub begins_refused : node_of x ≡ None → (m len : ℕ) → path' ≡ path_after (compile formula names (length path) (length slice)) path → length path' ≡ length path
        → TextLength path' m → Wrote out 0 (printed 0 (refused_as (number_of x) (take m path'))) out' len → EndsWith nothing r.stage → r.length ≡ len
        → CompiledAs formula names path slice program' r out out'
    begins_refused o m len w l y v s u z k =
        subst (λ (X : Compiled). Compiles X program' r out out') (same_rooms z k)
        (refused_by (compile formula names (length path) (length slice)) refl named o m len z w l y v s u)

    node_by : (X : Compiled) → compile formula names (length path) (length slice) ≡ X → Numbers X → (k len : ℕ) → node_of x ≡ Some k
        → Wrote out 0 (node_line (number_of x) k) out' len → EndsWith nothing r.stage → r.length ≡ len → Compiles X program' r out out'
    node_by (accepted f ss) e d k len o v s u = absurd (no_error (sym is ∙ told ∙ ap answer e))
    node_by (Compile.refused m place) e d k len o v s u = absurd (no_some (sym d.node ∙ ap node_of (sym (same_refusal (refusal_of m) (ap answer e))) ∙ o))
    node_by (Compile.refused_at m j) e d k len o v s u =
        let same = same_refusal (refusal_at m j) (ap answer e) in
        let nm : number_of x ≡ m = ap number_of same ∙ d.number in
        let q : ◌≡◌ {A = Maybe ℕ} (Some k) (Some j) = sym o ∙ ap node_of same ∙ d.node in
        let kj : k ≡ j = cc in
        (s, rw u (subst (λ (i : ℕ). Wrote out 0 (node_line m i) out' len) kj (subst (λ (i : ℕ). Wrote out 0 (node_line i k) out' len) nm v)))

    pub begins_node : (k len : ℕ) → node_of x ≡ Some k → Wrote out 0 (node_line (number_of x) k) out' len → EndsWith nothing r.stage → r.length ≡ len
        → CompiledAs formula names path slice program' r out out'
    begins_node k len o v s u z l =
        subst (λ (X : Compiled). Compiles X program' r out out') (same_rooms z l)
        (node_by (compile formula names (length path) (length slice)) refl named k len o v s u)

  module _ (is : a ≡ Ok tt) where
    accepted_by : (X : Compiled) → compile formula names (length path) (length slice) ≡ X → ((i : ℕ) → byte_at formula i < 256)
        → program' ≡ program_after image (compile formula names (length path) (length slice)) slice → (s : Reading) → Starts s → (t : Totals) → totals_of t ≡ nothing
        → r ≡ record { stage = Stage.Values (record { number = 1; reading = s; totals = t }); length = 0 } → Compiles X program' r out out'
    accepted_by (Compile.refused k place) e bytes w s f t z q = absurd (no_error (sym (ap answer e) ∙ sym told ∙ is))
    accepted_by (Compile.refused_at k j) e bytes w s f t z q = absurd (no_error (sym (ap answer e) ∙ sym told ∙ is))
    accepted_by (accepted g ss) e bytes w s f t z q = (
      s,
      t,
      ap (λ (x : Begun). x.stage) q,
      f,
      z,
      ap (λ (x : Begun). x.length) q,
      ready formula names (length path) (length slice) bytes g ss e slice program' w,
      written formula names (length path) (length slice) bytes g ss e slice program' w,
    )

    pub begins_accepted : ((i : ℕ) → byte_at formula i < 256) → program' ≡ program_after image (compile formula names (length path) (length slice)) slice
        → (s : Reading) → Starts s → (t : Totals) → totals_of t ≡ nothing → r ≡ record { stage = Stage.Values (record { number = 1; reading = s; totals = t }); length = 0 }
        → CompiledAs formula names path slice program' r out out'
    begins_accepted bytes w s f t y q z k =
        subst (λ (X : Compiled). Compiles X program' r out out') (same_rooms z k)
        (accepted_by (compile formula names (length path) (length slice)) refl bytes w s f t y q)
