-- Laws of faults, of the counts and of lowered code.
use mathlib.Core.Path.{◌≡◌, refl}
use mathlib.Core.List.{List, [], ◌∷◌, ◌++◌}
use mathlib.Core.Bool.{Bool, true, false, not, ◌&&◌}
use mathlib.Core.Option.{Option, none, some}
use Prim.Native.Nat.{ℕ, zero, suc, ◌+◌, ◌<◌}
use native.Mathlib.Omega.{arith}
use lib.ListN.{length, get_elem?, length-append}
use Rattle.formula.specs.Path.{Path, ◌▸◌, argument, condition, else_arm, then_arm}
use Rattle.formula.specs.Term.{Term, Terms, ◌and◌, apply, branch, end, literal, miscounted, symbol, truth}
use Rattle.machine.specs.Check.{Fault, or_else, unless}
use Rattle.machine.specs.Program.{Instruction, Op, instruction}
use Rattle.machine.specs.Lower.{instruction_count, instruction_counts, lowered, lowered_all, register_count, result_register}
pub use Rattle.formula.proofs.Tests.{and_first as and_l, and_second as and_r, and_both as and_true}

-- ---- tests

-- from equal constructors that differ: `unlike cc`
pub unlike : {A : Type 0} → ◌≡◌ {A = ℕ} 0 1 → A
unlike e = absurd (omega arith)

pub and_false : (a : Bool) → (a && false) ≡ false
and_false true = refl
and_false false = refl

pub not_not : (b : Bool) → not (not b) ≡ b
not_not true = refl
not_not false = refl

-- ---- faults

pub unless_none : (b : Bool) (n : ℕ) (p : Path) → unless b n p ≡ none → b ≡ true
unless_none true n p e = refl
unless_none false n p e = cc

pub none_left : (a b : Option Fault) → or_else a b ≡ none → a ≡ none
none_left none b e = refl
none_left (some a) b e = e

pub none_right : (a b : Option Fault) → or_else a b ≡ none → b ≡ none
none_right none b e = e
none_right (some a) b e = cc

-- ---- counts

mutual
  pub length_lowered : (t : Term) (p : Path) (r n : ℕ) → length (lowered t p r n) ≡ instruction_count t
  length_lowered (literal b) p r n = refl
  length_lowered (truth b) p r n = refl
  length_lowered (symbol i) p r n = refl
  length_lowered (apply o ts) p r n = simp length-append (omega (arith, length_lowered_all ts p 0 r n))
  length_lowered (branch c y e) p r n =
      simp length-append
      (omega (
        arith,
        length_lowered c (p ▸ condition) r n,
        length_lowered y (p ▸ then_arm) (suc (r + register_count c)) (suc (n + instruction_count c)),
        length_lowered e (p ▸ else_arm) (suc (suc (suc (r + register_count c) + register_count y))) (suc (suc (suc (n + instruction_count c) + instruction_count y))),
      ))
  length_lowered miscounted p r n = refl

  pub length_lowered_all : (ts : Terms) (p : Path) (i r n : ℕ) → length (lowered_all ts p i r n) ≡ instruction_counts ts
  length_lowered_all end p i r n = refl
  length_lowered_all (t and ts) p i r n =
      simp length-append
      (omega (arith, length_lowered t (p ▸ argument i) r n, length_lowered_all ts p (suc i) (r + register_count t) (n + instruction_count t)))

pub instruction_count_pos : (t : Term) → 0 < instruction_count t
instruction_count_pos (literal b) = omega arith
instruction_count_pos (truth b) = omega arith
instruction_count_pos (symbol i) = omega arith
instruction_count_pos (apply o ts) = omega arith
instruction_count_pos (branch c y e) = omega arith
instruction_count_pos miscounted = omega arith

pub result_lt : (t : Term) (r : ℕ) → result_register t r < r + register_count t
result_lt (literal b) r = omega arith
result_lt (truth b) r = omega arith
result_lt (symbol i) r = omega arith
result_lt (apply o ts) r = omega arith
result_lt (branch c y e) r = omega arith
result_lt miscounted r = omega arith

-- ---- places in a list of instructions

pub none_at : (l : List Instruction) (n : ℕ) → n ≡ length l → get_elem? l n ≡ none
none_at [] n e = refl
none_at (i ∷ l) zero e = absurd (omega arith)
none_at (i ∷ l) (suc n) e = none_at l n (omega arith)

pub some_lt : (l : List Instruction) (n : ℕ) (i : Instruction) → get_elem? l n ≡ some i → n < length l
some_lt [] n i e = unlike cc
some_lt (j ∷ l) zero i e = omega arith
some_lt (j ∷ l) (suc n) i e = omega (arith, some_lt l n i e)

pub lt_some : (l : List Instruction) (n : ℕ) → n < length l → (o : Op) × (d : ℕ) × (p : Path) × (get_elem? l n ≡ some (instruction o d p))
lt_some [] n h = absurd (omega arith)
lt_some (instruction o d p ∷ l) zero h = (o, d, p, refl)
lt_some (i ∷ l) (suc n) h = lt_some l n (omega arith)

pub elem_seam : (a : List Instruction) (i : Instruction) (b : List Instruction) → get_elem? (a ++ i ∷ b) (length a) ≡ some i
elem_seam [] i b = refl
elem_seam (j ∷ a) i b = elem_seam a i b
