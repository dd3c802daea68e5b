-- Instructions that are done at once: the value that each opcode stores, and what comes of it.
use Rattle.std.proofs.Common.{Some}
use mathlib.Core.Path.{◌≡◌, refl, ap, ap₂, sym, ◌∙◌}
use mathlib.Core.Bool.{Bool, true, false, cond, not, ◌&&◌, ◌||◌, beq, true≢false}
use mathlib.Core.List.{List}
use Prim.Native.Nat.{ℕ, zero, suc, ◌+◌, ◌*◌, ◌≤◌, ◌<◌}
use native.Mathlib.Numerals.{add-one}
use native.Mathlib.Omega.{arith}
use Prim.Native.Nat.compare
use native.Mathlib.Nat.{le_of_eq, lt_irrefl, lt_of_lt_of_le, mul-pos, zero-lt-suc, zero-mul}
use Rattle.std.proofs.lemmas.Bool.{ne_eqb}
use lib.Ieee.Fits.{up_pos}
use lib.Dec.{eqb}
use lib.ListN.{get_or, set}
use lib.Ieee.{Float, binary64, div, fin, inf, lt, nan, ne, of_bits, up, down}
use Rattle.arithmetic.specs.Value.{0f, finite, is_zero}
use Rattle.arithmetic.specs.Modulo.{modulo}
use Rattle.formula.specs.Text.{byte_at, half_at, long_at, word_at}
use Rattle.meaning.specs.Work.{advance, divide_work, give, modulo_work}
use Rattle.machine.specs.Program.{jump}
use Rattle.layout.specs.Decode.{destination_at, op_at, ops, slot_at}
use Rattle.work.specs.View.{shown}
use Rattle.work.specs.Opcode.{work_of}
use Rattle.work.specs.declared.Outcome.TheVariants.{Value}
use Rattle.work.proofs.Answers.{given}
use Rattle.instruction.specs.Common.{Stores, Went, Works}
use Rattle.instruction.specs.Effects.{effect_at, extremum_at, operation_at, shown_effect}
use Rattle.instruction.specs.declared.Effect.{Effect}
use Rattle.instruction.specs.declared.Effect.TheVariants.{Jump, Work}
use Rattle.instruction.proofs.Done.{jump_done, value_done}
use Rattle.instruction.proofs.Opcodes.{jump_is, extremum_effect, operands_effect, operation_is, passed_is, taken_is}

-- what a zero divides into is not finite
no_zero : (x y : Float) → finite (div binary64 x y) ≡ true → ne y 0f ≡ true
unfolding ne div
no_zero x nan e = refl
no_zero x (inf t) e = refl
no_zero x (fin t (suc n) d) e =
    ap (λ (c : Bool). not (c && (beq t false || eqb (suc n * up d * 1) 0)))
    (ne_eqb (suc n * up d * 1) (0 * 1 * down d)
    (λ f. lt_irrefl 0 (lt_of_lt_of_le (mul-pos (mul-pos (zero-lt-suc n) (up_pos d)) (zero-lt-suc 0)) (le_of_eq (f ∙ zero-mul (down d))))))
no_zero nan (fin t zero d) e = absurd (true≢false (sym e))
no_zero (inf s) (fin t zero d) e = absurd (true≢false (sym e))
no_zero (fin s zero k) (fin t zero d) e = absurd (true≢false (sym e))
no_zero (fin s (suc m) k) (fin t zero d) e = absurd (true≢false (sym e ∙ rw (compare.suc-zero m) refl))

-- ---- by the opcode

module _ (op x y : ℕ) (inputs regs : List Float) where
  abbrev fields_effect : ℕ → List ℕ → ℕ → ℕ → ℕ → List Float → Effect
  fields_effect o b count z n kept = shown_effect inputs (get_or (ops b (x + 4294967296 * y) count x y z) o (jump 0)) n kept regs

  -- no NaN is stored
  pub nothing_stores : (v : Float) → v ≡ nan → Stores op x y inputs regs v
  nothing_stores v e f = absurd (true≢false (sym f ∙ ap finite e))

  pub constant_stores : (bits : ℕ) (v : Float) → op ≡ 0 → bits ≡ x + 4294967296 * y → v ≡ of_bits binary64 bits → Stores op x y inputs regs v
  constant_stores bits v o e f = λ g b count z n kept. rw (o, f, e)

  pub load_stores : (v : Float) → op ≡ 1 → v ≡ get_or inputs x 0f → Stores op x y inputs regs v
  load_stores v o e = λ g b count z n kept. rw (o, e)

  pub copy_stores : (v : Float) → op ≡ 2 → v ≡ get_or regs x 0f → Stores op x y inputs regs v
  copy_stores v o e = λ g b count z n kept. rw (o, e)

  -- an operation f of one or two registers
  pub operation_stores : (o : ℕ) (f : Float → Float → Float) (u w v : Float) → op ≡ o → u ≡ get_or regs x 0f → w ≡ get_or regs y 0f → v ≡ f u w
      → ((b : List ℕ) (count z n : ℕ) (kept : List Float) → Work (shown (advance (give (f (get_or regs x 0f) (get_or regs y 0f))) kept)) ≡ fields_effect o b count z n kept)
      → Stores op x y inputs regs v
  operation_stores o f u w v eo eu ew e h =
      λ g b count z n kept.
      ap (λ (a : Float). Work (Value a)) (e ∙ ap₂ f eu ew) ∙ ap Work (given _ kept) ∙ h b count z n kept ∙ ap (λ (k : ℕ). fields_effect k b count z n kept) (sym eo)

  divided : (t : Bool) (u w v : Float) (kept : List Float) → ne w 0f ≡ t → t ≡ true → v ≡ div binary64 u w → Work (Value v) ≡ Work (shown (advance (divide_work binary64 u w) kept))
  divided true u w v kept e f g = rw (e, g) (ap Work (given _ kept))
  divided false u w v kept e f g = absurd (true≢false (sym f))

  pub quotient_stores : (u w v : Float) → op ≡ 11 → u ≡ get_or regs x 0f → w ≡ get_or regs y 0f → v ≡ div binary64 u w → Stores op x y inputs regs v
  quotient_stores u w v o eu ew e =
      λ g b count z n kept.
      divided (ne w 0f) u w v kept refl (no_zero u w (sym (ap finite e) ∙ g)) e
      ∙ ap₂ (λ (a c : Float). Work (shown (advance (divide_work binary64 a c) kept))) eu ew ∙ ap (λ (k : ℕ). fields_effect k b count z n kept) (sym o)

-- ---- operations that take longer

module _ (b : List ℕ) (at op : ℕ) (regs : List Float) where
  pub nothing_works : (v : Float) → v ≡ nan → Works b at op regs v
  nothing_works v e f = absurd (true≢false (sym f ∙ ap finite e))

  of_opcode : (o : ℕ) (v : Float) → op ≡ o → 4 < o → (finite v ≡ true → (kept : List Float) → Work (Value v) ≡ operation_at b at o kept regs) → Works b at op regs v
  of_opcode o v e l h = λ f. (omega arith, λ kept. h f kept ∙ ap (λ (k : ℕ). operation_at b at k kept regs) (sym e))

  pub single_works : (o : ℕ) (x v : Float) → op ≡ o → 5 ≤ o → o < 31 → x ≡ get_or regs (word_at b (at + 8)) 0f → ((kept : List Float) (y z : Float) → Value v ≡ shown (advance (work_of o x y z) kept))
      → Works b at op regs v
  single_works o x v e l h ex g =
      of_opcode o v e (omega arith) (λ f kept. operands_effect b at kept regs o x _ _ l (omega arith) (omega arith) (omega arith) ex refl refl (g kept _ _))

  remaining : (t : Bool) (x y v : Float) (kept : List Float) → lt 0f y ≡ t → v ≡ cond t (modulo binary64 x y) nan → finite v ≡ true → Value v ≡ shown (advance (modulo_work binary64 x y) kept)
  remaining true x y v kept e f g = rw (e, f) (given _ kept)
  remaining false x y v kept e f g = absurd (true≢false (sym g ∙ ap finite f))

  pub modulo_works : (x y v : Float) → op ≡ 13 → x ≡ get_or regs (word_at b (at + 8)) 0f → y ≡ get_or regs (word_at b (at + 12)) 0f → v ≡ cond (lt 0f y) (modulo binary64 x y) nan → Works b at op regs v
  modulo_works x y v e ex ey g =
      of_opcode 13 v e (omega arith) (λ f kept. operands_effect b at kept regs 13 x y _ (omega arith) (omega arith) (omega arith) (omega arith) ex ey refl (remaining (lt 0f y) x y v kept refl g f))

  pub extremum_works : (most : Bool) (count a : ℕ) (v : Float) → op ≡ cond most 32 31 → count ≡ half_at b (at + 2) → a ≡ word_at b (at + 8) → v ≡ extremum_at most b count a regs
      → Works b at op regs v
  extremum_works true count a v e ec ea g = λ f. (omega arith, λ kept. extremum_effect b at kept regs true op count a v e ec ea g)
  extremum_works false count a v e ec ea g = λ f. (omega arith, λ kept. extremum_effect b at kept regs false op count a v e ec ea g)

-- ---- the instruction n

module _ (inputs : List Float) (b : List ℕ) (n : ℕ) (regs : List Float) where
  stored_effect : (op x y : ℕ) (v : Float) → op ≡ byte_at b (slot_at n) → x ≡ word_at b (slot_at n + 8) → y ≡ word_at b (slot_at n + 12) → Stores op x y inputs regs v → finite v ≡ true
      → (kept : List Float) → Work (Value v) ≡ effect_at inputs b n kept regs
  unfolding effect_at op_at long_at
  stored_effect op x y v eo ex ey S f kept =
      let count = half_at b (slot_at n + 2) in
      let z = word_at b (slot_at n + 16) in
      let e : slot_at n + 12 ≡ slot_at n + 8 + 4 = omega arith in
      let bits : word_at b (slot_at n + 8) + 4294967296 * word_at b (slot_at n + 12) ≡ long_at b (slot_at n + 8) = ap (λ (k : ℕ). word_at b (slot_at n + 8) + 4294967296 * word_at b k) e in
      S f b count z n kept
      ∙ ap (λ (o : ℕ). shown_effect inputs (get_or (ops b (x + 4294967296 * y) count x y z) o (jump 0)) n kept regs) eo
      ∙ ap₂ (λ (i j : ℕ). shown_effect inputs (get_or (ops b (i + 4294967296 * j) count i j z) (byte_at b (slot_at n)) (jump 0)) n kept regs) ex ey
      ∙ ap (λ (k : ℕ). shown_effect inputs (get_or (ops b k count (word_at b (slot_at n + 8)) (word_at b (slot_at n + 12)) z) (byte_at b (slot_at n)) (jump 0)) n kept regs) bits

  went_stored : (d : ℕ) (v : Float) {after : List Float} → ((kept : List Float) → Work (Value v) ≡ effect_at inputs b n kept regs) → finite v ≡ true → d ≡ word_at b (slot_at n + 4)
      → after ≡ set regs d v → Went inputs b n regs (Some (n + 1)) after
  unfolding destination_at
  went_stored d v g f e s = λ kept. value_done inputs b n kept regs (g kept) v d refl f e s

  pub went_value : (op x y d : ℕ) (v : Float) {after : List Float} → op ≡ byte_at b (slot_at n) → x ≡ word_at b (slot_at n + 8) → y ≡ word_at b (slot_at n + 12)
      → Stores op x y inputs regs v → finite v ≡ true → d ≡ word_at b (slot_at n + 4) → after ≡ set regs d v → Went inputs b n regs (Some (n + 1)) after
  went_value op x y d v eo ex ey S f e s = went_stored d v (stored_effect op x y v eo ex ey S f) f e s

  pub went_worked : (op d : ℕ) (v : Float) {after : List Float} → op ≡ byte_at b (slot_at n) → Works b (slot_at n) op regs v → finite v ≡ true → d ≡ word_at b (slot_at n + 4)
      → after ≡ set regs d v → Went inputs b n regs (Some (n + 1)) after
  went_worked op d v eo W f e s = went_stored d v (λ kept. operation_is inputs b n kept regs op eo (W f).0 ((W f).1 kept)) f e s

  went_to : (to : ℕ) → ((kept : List Float) → Jump to ≡ effect_at inputs b n kept regs) → Went inputs b n regs (Some to) regs
  went_to to e = λ kept. jump_done inputs b n kept regs (e kept) to refl

  pub went_jump : (op t : ℕ) → op ≡ byte_at b (slot_at n) → op ≡ 4 → t ≡ word_at b (slot_at n + 16) → Went inputs b n regs (Some t) regs
  went_jump op t eo z e = went_to t (λ kept. jump_is inputs b n kept regs op t eo z e)

  pub went_taken : (op i t : ℕ) (v : Float) → op ≡ byte_at b (slot_at n) → op ≡ 3 → i ≡ word_at b (slot_at n + 8) → v ≡ get_or regs i 0f → is_zero v ≡ true → t ≡ word_at b (slot_at n + 16)
      → Went inputs b n regs (Some t) regs
  went_taken op i t v eo z ei ev f e = went_to t (λ kept. taken_is inputs b n kept regs op t v eo z (ev ∙ ap (λ (k : ℕ). get_or regs k 0f) ei) f e)

  pub went_on : (op i : ℕ) (v : Float) → op ≡ byte_at b (slot_at n) → op ≡ 3 → i ≡ word_at b (slot_at n + 8) → v ≡ get_or regs i 0f → is_zero v ≡ false → Went inputs b n regs (Some (n + 1)) regs
  went_on op i v eo z ei ev f = went_to (n + 1) (λ kept. passed_is inputs b n kept regs op (n + 1) v eo z (ev ∙ ap (λ (k : ℕ). get_or regs k 0f) ei) f (add-one n))
