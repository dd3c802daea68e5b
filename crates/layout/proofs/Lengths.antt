-- How long the parts of a program are, and that it has at most 240 bytes for each node of its formula.
use mathlib.Core.Path.{◌≡◌, refl, ap}
use mathlib.Core.List.{List, [], ◌∷◌, ◌++◌}
use mathlib.Core.Bool.{Bool, true, false, cond}
use Prim.Native.Nat.{ℕ, suc, ◌+◌, ◌*◌, ◌≤◌}
use native.Mathlib.Omega.{arith}
use lib.ListN.{length, length-append}
use Rattle.formula.specs.Operator.{And, Junction, Operation, Or}
use Rattle.formula.specs.Path.{Path, ◌▸◌, argument, condition, else_arm, root, then_arm}
use Rattle.formula.specs.Formula.{Formula, Formulas, Head, conditional, ifelse, junction, last, malformed, next, number, operation, size, sizes}
use Rattle.formula.specs.Formula as Written
use Rattle.formula.specs.Term.{Term, Terms, ◌and◌, apply, branch, branch_term, chain, end, junction_term, leaf_term, literal, miscounted, symbol, term, term_count, term_from, terms, truth}
use Rattle.machine.specs.Check.{Context}
use Rattle.machine.specs.Lower.{instruction_count, instruction_counts, register_count, register_counts, result_registers}
use Rattle.layout.specs.Opcode.{listing}
use Rattle.layout.specs.Image.{below, below_all, entries, entry_count, entry_counts, image, lists, lists_all, operation_slot, own_entries, path_count, path_counts, path_record, slots, slots_all}

length_cond : (c : Bool) (a b : List ℕ) (n : ℕ) → length a ≡ n → length b ≡ n → length (cond c a b) ≡ n
length_cond true a b n h l = h
length_cond false a b n h l = l

pub length_operation_slot : (o : Operation) (is : List ℕ) (e d k : ℕ) → length (operation_slot o is e d k) ≡ 24
length_operation_slot o is e d k = length_cond (listing o) _ _ 24 refl refl

mutual
  unfolding slots

  pub length_slots : (t : Term) (k q r n e : ℕ) → length (slots t k q r n e) ≡ 24 * instruction_count t
  length_slots (literal b) k q r n e = refl
  length_slots (truth b) k q r n e = refl
  length_slots (symbol i) k q r n e = refl
  length_slots (apply o ts) k q r n e =
      simp length-append
      (omega (arith, length_slots_all ts k q r n e, length_operation_slot o (result_registers ts r) (e + entry_counts ts) (r + register_counts ts) k))
  length_slots (branch c y z) k q r n e =
      let q₁ = q + path_count c in
      let q₂ = q₁ + path_count y in
      let r₁ = suc (r + register_count c) in
      let n₁ = suc (n + instruction_count c) in
      let e₁ = e + entry_count c in
      simp length-append
      (omega (
        arith,
        length_slots c q (suc q) r n e,
        length_slots y q₁ (suc q₁) r₁ n₁ e₁,
        length_slots z q₂ (suc q₂) (suc (suc (r₁ + register_count y))) (suc (suc (n₁ + instruction_count y))) (e₁ + entry_count y),
      ))
  length_slots miscounted k q r n e = refl

  pub length_slots_all : (ts : Terms) (k q r n e : ℕ) → length (slots_all ts k q r n e) ≡ 24 * instruction_counts ts
  length_slots_all end k q r n e = refl
  length_slots_all (t and ts) k q r n e =
      simp length-append
      (omega (arith, length_slots t q (suc q) r n e, length_slots_all ts k (q + path_count t) (r + register_count t) (n + instruction_count t) (e + entry_count t)))

length_six : (a b c d e f : List ℕ) → length (a ++ b ++ c ++ d ++ e ++ f) ≡ length a + length b + length c + length d + length e + length f
length_six a b c d e f = simp length-append

-- the term's own record stands before
mutual
  unfolding below

  pub length_below : (t : Term) (p : Path) (k q : ℕ) → 12 + length (below t p k q) ≡ 12 * path_count t
  length_below (literal b) p k q = refl
  length_below (truth b) p k q = refl
  length_below (symbol i) p k q = refl
  length_below (apply o ts) p k q = omega (arith, length_below_all ts p 0 k q)
  length_below (branch c y z) p k q =
      let q₁ = q + path_count c in
      let q₂ = q₁ + path_count y in
      let b₀ = below c (p ▸ condition) q (suc q) in
      let b₁ = below y (p ▸ then_arm) q₁ (suc q₁) in
      let b₂ = below z (p ▸ else_arm) q₂ (suc q₂) in
      omega (
        arith,
        length_six (path_record k (p ▸ condition)) b₀ (path_record k (p ▸ then_arm)) b₁ (path_record k (p ▸ else_arm)) b₂,
        length_below c (p ▸ condition) q (suc q),
        length_below y (p ▸ then_arm) q₁ (suc q₁),
        length_below z (p ▸ else_arm) q₂ (suc q₂),
      )
  length_below miscounted p k q = refl

  pub length_below_all : (ts : Terms) (p : Path) (i k q : ℕ) → length (below_all ts p i k q) ≡ 12 * path_counts ts
  length_below_all end p i k q = refl
  length_below_all (t and ts) p i k q =
      simp length-append (omega (arith, length_below t (p ▸ argument i) q (suc q), length_below_all ts p (suc i) k (q + path_count t)))

pub length_entries : (is : List ℕ) → length (entries is) ≡ 4 * length is
length_entries [] = refl
length_entries (i ∷ is) = omega (arith, length_entries is)

pub length_result_registers : (ts : Terms) (r : ℕ) → length (result_registers ts r) ≡ term_count ts
length_result_registers end r = refl
length_result_registers (t and ts) r = ap suc (length_result_registers ts (r + register_count t))

pub length_own_entries : (o : Operation) (ts : Terms) (r : ℕ) → length (own_entries o ts r) ≡ cond (listing o) (term_count ts) 0
length_own_entries o ts r = either (listing o)
  where
    either : (c : Bool) → length (cond c (result_registers ts r) []) ≡ cond c (term_count ts) 0
    either true = length_result_registers ts r
    either false = refl

mutual
  unfolding lists

  pub length_lists : (t : Term) (r : ℕ) → length (lists t r) ≡ 4 * entry_count t
  length_lists (literal b) r = refl
  length_lists (truth b) r = refl
  length_lists (symbol i) r = refl
  length_lists (apply o ts) r =
      simp length-append (omega (arith, length_lists_all ts r, length_entries (own_entries o ts r), length_own_entries o ts r))
  length_lists (branch c y z) r =
      let r₁ = suc (r + register_count c) in
      simp length-append (omega (arith, length_lists c r, length_lists y r₁, length_lists z (suc (suc (r₁ + register_count y)))))
  length_lists miscounted r = refl

  pub length_lists_all : (ts : Terms) (r : ℕ) → length (lists_all ts r) ≡ 4 * entry_counts ts
  length_lists_all end r = refl
  length_lists_all (t and ts) r = simp length-append (omega (arith, length_lists t r, length_lists_all ts (r + register_count t)))

pub length_image : (C : Context) (f : Formula)
    → length (image C f) ≡ 32 + 24 * instruction_count (term f) + 12 * path_count (term f) + 4 * entry_count (term f)
unfolding image
length_image C f =
    let t = term f in
    simp length-append (omega (arith, length_slots t 0 1 0 0 0, length_below t root 0 1, length_lists t 0))

-- ---- bounds: a leaf adds one of each, an operation too; a branch 4, 3 and 1; And and Or of m 5, 4 and 2 for each but one

-- what a term has at most where it is made of the terms ts
abbrev Made : Term → Terms → Type 0
Made t ts =
    (instruction_count t ≤ suc (instruction_counts ts + 5 * term_count ts)) × (register_count t ≤ suc (register_counts ts + 4 * term_count ts))
    × (path_count t ≤ suc (path_counts ts + 2 * term_count ts)) × (entry_count t ≤ entry_counts ts + term_count ts)

made_chain : (j : Junction) (t : Term) (us : Terms) → Made (chain j t us) (t and us)
made_chain j t end = omega arith
made_chain And t (u and us) = omega (arith, made_chain And u us)
made_chain Or t (u and us) = omega (arith, made_chain Or u us)

made_junction : (j : Junction) (ts : Terms) → Made (junction_term j ts) ts
made_junction j end = omega arith
made_junction j (t and end) = omega arith
made_junction j (t and u and us) = made_chain j t (u and us)

made_branch : (ts : Terms) → Made (branch_term ts) ts
made_branch end = omega arith
made_branch (a and end) = omega arith
made_branch (a and b and end) = omega arith
made_branch (a and b and c and end) = omega arith
made_branch (a and b and c and d and ds) = omega arith

made_leaf : (t : Term) (ts : Terms) → Made t end → Made (leaf_term t ts) ts
made_leaf t end h = h
made_leaf t (u and us) h = omega arith

made_operation : (o : Operation) (ts : Terms) → Made (apply o ts) ts
made_operation o ts = either (listing o) refl
  where
    either : (c : Bool) → listing o ≡ c → Made (apply o ts) ts
    either true e = rw e (omega arith)
    either false e = rw e (omega arith)

made : (h : Head) (ts : Terms) → Made (term_from h ts) ts
made (number b) ts = made_leaf (literal b) ts (omega arith)
made (Written.truth b) ts = made_leaf (truth b) ts (omega arith)
made (Written.symbol i) ts = made_leaf (symbol i) ts (omega arith)
made (operation o) ts = made_operation o ts
made (junction j) ts = made_junction j ts
made ifelse ts = made_branch ts
made conditional ts = made_branch ts
made malformed ts = omega arith

-- what a term of N nodes has at most
abbrev pub Bounded : Term → ℕ → Type 0
Bounded t N =
    (instruction_count t + 5 ≤ 6 * N) × (register_count t + 4 ≤ 5 * N) × (path_count t + 2 ≤ 3 * N) × (entry_count t + 1 ≤ N)

abbrev Boundeds : Terms → ℕ → Type 0
Boundeds ts N =
    (instruction_counts ts + 5 * term_count ts ≤ 6 * N) × (register_counts ts + 4 * term_count ts ≤ 5 * N)
    × (path_counts ts + 2 * term_count ts ≤ 3 * N) × (entry_counts ts + term_count ts ≤ N)

mutual
  pub bounds : (f : Formula) → Bounded (term f) (size f)
  bounds (Written.node h fs) = omega (arith, made h (terms fs), bounds_all fs)

  bounds_all : (fs : Formulas) → Boundeds (terms fs) (sizes fs)
  bounds_all last = omega arith
  bounds_all (next f fs) = omega (arith, bounds f, bounds_all fs)

-- "240 bytes for each 16 bytes of formula"
pub image_room : (C : Context) (f : Formula) → length (image C f) ≤ 240 * size f
image_room C f = omega (arith, length_image C f, bounds f)
