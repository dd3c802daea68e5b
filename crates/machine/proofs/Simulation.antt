-- The machine follows the tree reading: from a place in the code, with the values kept and the registers, it does what the reading says of the values
-- still to be supplied.
use mathlib.Core.Path.{◌≡◌, refl, ap, ap₂, sym, ◌∙◌, subst, fun_ext}
use mathlib.Core.List.{List, [], ◌∷◌, ◌++◌, append_assoc}
use mathlib.Core.Bool.{Bool, true, false, not, cond}
use mathlib.Core.Option.{none, some}
use Prim.Native.Nat.{ℕ, suc, ◌+◌, ◌≤◌, ◌<◌}
use native.Mathlib.Omega.{arith}
use lib.ListN.{length, get_or, set, get_elem?, length-append, length-set}
use lib.Seq.{get_or-set_same, get_or-set_other}
use lib.Dec.{ltb}
use lib.Ieee.{Float, Format}
use borrow.Author.Tests.{ltb-true}
use Rattle.arithmetic.specs.Value.{0f, finite, is_one, is_zero, truth_value}
use Rattle.arithmetic.specs.Constant
use Rattle.formula.specs.Operator.{Boolean, Number, Operation, ValueKind, result_kind, same_kind}
use Rattle.formula.specs.Path.{Path, ◌▸◌, argument, condition, else_arm, then_arm}
use Rattle.formula.specs.Term.{Term, Terms, ◌and◌, apply, branch, end, literal, miscounted, symbol, truth}
use Rattle.meaning.specs.Work.{Interaction, Question, advance, ask, give, undefined, work}
use Rattle.meaning.specs.Reading.{Outcome, answered, bind, domain, question, reading, readings, value}
use Rattle.meaning.proofs.Laws.{Fits, Gives, advance_snoc, bind_assoc, truth_finite, truth_fits, work_fits}
use Rattle.machine.specs.Check.{Context, dynamic, fault, faults, kind, supported, unless}
use Rattle.machine.specs.Program.{Instruction, Op, Program, constant, copy, instruction, jump, jump_if_false, load, perform}
use Rattle.machine.specs.Lower.{instruction_count, instruction_counts, lowered, lowered_all, register_count, register_counts, result_register, result_registers}
use Rattle.machine.specs.Machine.{effect, fails, goes, read_all, stored, wants}
use Rattle.machine.proofs.Laws.{elem_seam, length_lowered, length_lowered_all, none_left, none_right, result_lt, unless_none}

module _ (F : Format) (inputs : List Float) (P : Program) where
  -- from instruction n, with these values kept and these registers, the machine does what f says of the values still to be supplied
  pub data Simulates : ℕ → List Float → List Float → (List Float → Outcome Float) → Type 0 where
    ended : {n : ℕ} {kept regs : List Float} {f : List Float → Outcome Float} → n ≡ length P.code → ((s : List Float) → f s ≡ value (get_or regs P.result 0f) s) → Simulates n kept regs f
    went : {n : ℕ} {kept regs : List Float} {f : List Float → Outcome Float} (w : Op) (d : ℕ) (p : Path) (m : ℕ) (regs' : List Float) → get_elem? P.code n ≡ some (instruction w d p)
        → effect F inputs P w d p n kept regs ≡ goes m regs' → n < m → length regs' ≡ length regs → Simulates m [] regs' f → Simulates n kept regs f
    failed : {n : ℕ} {kept regs : List Float} {f : List Float → Outcome Float} (w : Op) (d : ℕ) (p p' : Path) → get_elem? P.code n ≡ some (instruction w d p)
        → effect F inputs P w d p n kept regs ≡ fails p' → ((s : List Float) → f s ≡ domain p') → Simulates n kept regs f
    asked : {n : ℕ} {kept regs : List Float} {f : List Float → Outcome Float} (w : Op) (d : ℕ) (p : Path) (q : Question) → get_elem? P.code n ≡ some (instruction w d p)
        → effect F inputs P w d p n kept regs ≡ wants q → f [] ≡ question q → ((x : Float) → Simulates n (kept ++ x ∷ []) regs (λ s. f (x ∷ s))) → Simulates n kept regs f

  pub resp : {n : ℕ} {kept regs : List Float} {f g : List Float → Outcome Float} → ((s : List Float) → f s ≡ g s) → Simulates n kept regs f → Simulates n kept regs g
  resp {n} {kept} {regs} e r = subst (λ h. Simulates n kept regs h) (fun_ext e) r

  pub at : {n m : ℕ} {kept regs : List Float} {f : List Float → Outcome Float} → n ≡ m → Simulates n kept regs f → Simulates m kept regs f
  at {kept} {regs} {f} e r = subst (λ h. Simulates h kept regs f) e r

  abbrev pub Holds : ℕ → List Instruction → Type 0
  Holds n [] = Unit {0}
  Holds n (i ∷ is) = (get_elem? P.code n ≡ some i) × Holds (suc n) is

  pub holds_left : (a b : List Instruction) (n : ℕ) → Holds n (a ++ b) → Holds n a
  holds_left [] b n h = tt
  holds_left (i ∷ a) b n h = (h.0, holds_left a b (suc n) h.1)

  pub holds_right : (a b : List Instruction) (n m : ℕ) → n + length a ≡ m → Holds n (a ++ b) → Holds m b
  holds_right [] b n m e h = subst (λ x. Holds x b) (omega arith) h
  holds_right (i ∷ a) b n m e h = holds_right a b (suc n) m (omega arith) h.1

  -- an instruction that stores a value
  pub put : {n : ℕ} {kept regs : List Float} {f : List Float → Outcome Float} (w : Op) (d : ℕ) (p : Path) (v : Float) → get_elem? P.code n ≡ some (instruction w d p)
      → effect F inputs P w d p n kept regs ≡ stored p n d regs v → finite v ≡ true → Simulates (suc n) [] (set regs d v) f → Simulates n kept regs f
  put {n} {kept} {regs} w d p v h a e r = went w d p (suc n) (set regs d v) h (a ∙ rw e) (omega arith) (length-set regs d v) r

  -- the work of an operation, with the questions that it puts
  pub perf : (a : Interaction) {n : ℕ} {kept regs : List Float} (o : Operation) (is : List ℕ) (d : ℕ) (p : Path) (ok_for : Float → Type 0) (k : Float → List Float → Outcome Float)
      → get_elem? P.code n ≡ some (instruction (perform o is) d p) → advance (work F o (read_all regs is)) kept ≡ a → Gives ok_for a
      → ((v : Float) → finite v ≡ true → ok_for v → Simulates (suc n) [] (set regs d v) (k v)) → Simulates n kept regs (λ s. bind (answered p a s) k)
  perf (give v) {n} {kept} {regs} o is d p ok_for k h e ok K = go (finite v) refl
    where
      go : (b : Bool) → finite v ≡ b → Simulates n kept regs (λ s. bind (answered p (give v) s) k)
      go true t = rw t (put (perform o is) d p v h (rw e) t (K v t ok))
      go false t = rw t (failed {kept = kept} {regs = regs} (perform o is) d p p h (rw (e, t)) (λ s. refl))
  perf undefined {n} {kept} {regs} o is d p ok_for k h e ok K = failed {kept = kept} {regs = regs} (perform o is) d p p h (rw e) (λ s. refl)
  perf (ask q g) {n} {kept} {regs} o is d p ok_for k h e ok K =
      asked {kept = kept} {regs = regs} (perform o is) d p q h (rw e) refl (λ x. perf (g x) o is d p ok_for k h (advance_snoc (work F o (read_all regs is)) kept q g x e) (ok x) K)

  -- a conditional jump, from runs of both arms
  pub arms : (x : Bool) {b : Float} {n m i d : ℕ} {p : Path} {regs : List Float} (yes_out no_out : List Float → Outcome Float) (k : Float → List Float → Outcome Float)
      → is_one b ≡ x → is_zero b ≡ not x → get_elem? P.code n ≡ some (instruction (jump_if_false i m) d p) → get_or regs i 0f ≡ b → n < m
      → Simulates (suc n) [] regs (λ s. bind (yes_out s) k) → Simulates m [] regs (λ s. bind (no_out s) k)
      → Simulates n [] regs (λ s. bind (cond (is_one b) (yes_out s) (no_out s)) k)
  arms true {n} {m} {i} {d} {p} {regs} yo no' k e z h g l ry rn = rw e (went {kept = []} {regs = regs} (jump_if_false i m) d p (suc n) regs h (rw (g, z)) (omega arith) refl ry)
  arms false {n} {m} {i} {d} {p} {regs} yo no' k e z h g l ry rn = rw e (went {kept = []} {regs = regs} (jump_if_false i m) d p m regs h (rw (g, z)) l refl rn)

  pub record After (κ : ValueKind) (r i : ℕ) (regs regs' : List Float) (v : Float) : Type 0 where
    pub good : finite v ≡ true
    pub fits : Fits κ v
    pub size : length regs' ≡ length regs
    pub same : (j : ℕ) → j < r → get_or regs' j 0f ≡ get_or regs j 0f
    pub here : get_or regs' i 0f ≡ v

  pub record Afters (r : ℕ) (is : List ℕ) (regs regs' vs : List Float) : Type 0 where
    pub size : length regs' ≡ length regs
    pub same : (j : ℕ) → j < r → get_or regs' j 0f ≡ get_or regs j 0f
    pub here : read_all regs' is ≡ vs

  -- a value stored at d ≥ r, into registers that agree with regs below r
  pub after_set : {κ : ValueKind} {r : ℕ} (d : ℕ) {regs : List Float} (regs₁ : List Float) (v : Float) → finite v ≡ true → Fits κ v → length regs₁ ≡ length regs
      → ((j : ℕ) → j < r → get_or regs₁ j 0f ≡ get_or regs j 0f) → r ≤ d → d < length regs → After κ r d regs (set regs₁ d v) v
  after_set d {regs} regs₁ v good fits size same l b =
      record {
        good = good;
        fits = fits;
        size = length-set regs₁ d v ∙ size;
        same = λ j h. get_or-set_other regs₁ d j v 0f (omega arith) ∙ same j h;
        here = get_or-set_same regs₁ d v 0f (omega arith);
      }

  pub fits_boolean : (κ : ValueKind) (v : Float) → same_kind κ Boolean ≡ true → Fits κ v → is_zero v ≡ not (is_one v)
  fits_boolean Number v e f = cc
  fits_boolean Boolean v e f = f

  pub fits_same : (κ κ' : ValueKind) (v : Float) → same_kind κ κ' ≡ true → Fits κ v → Fits κ' v
  fits_same Number Number v e f = f
  fits_same Number Boolean v e f = cc
  fits_same Boolean Number v e f = tt
  fits_same Boolean Boolean v e f = f

  module _ (C : Context) (same_count : length inputs ≡ length C.symbols) (all_finite : (i : ℕ) → i < length inputs → finite (get_or inputs i 0f) ≡ true) where
    abbrev pub Cont : Term → ℕ → ℕ → List Float → (Float → List Float → Outcome Float) → Type 0
    Cont t r n regs k = (regs' : List Float) (v : Float) → After (kind t) r (result_register t r) regs regs' v → Simulates (n + instruction_count t) [] regs' (k v)

    abbrev pub Conts : Terms → ℕ → ℕ → List Float → (List Float → List Float → Outcome Float) → Type 0
    Conts ts r n regs k = (regs' vs : List Float) → Afters r (result_registers ts r) regs regs' vs → Simulates (n + instruction_counts ts) [] regs' (k vs)

    mutual
      pub correct : (t : Term) (p : Path) (r n : ℕ) (regs : List Float) (k : Float → List Float → Outcome Float)
          → fault C t p ≡ none → Holds n (lowered t p r n) → r + register_count t ≤ length regs → Cont t r n regs k
          → Simulates n [] regs (λ s. bind (reading F inputs t p s) k)
      correct (literal b) p r n regs k ok h w K =
          let v = Constant.literal b in
          let g : finite v ≡ true = unless_none (finite v) 9 p ok in
          put (constant v) r p v h.0 refl g (at (omega arith) (K (set regs r v) v (after_set r regs v g tt refl (λ j l. refl) (omega arith) (omega arith))))
      correct (truth b) p r n regs k ok h w K =
          let v = truth_value b in
          put (constant v) r p v h.0 refl (truth_finite b)
          (at (omega arith) (K (set regs r v) v (after_set r regs v (truth_finite b) (truth_fits b) refl (λ j l. refl) (omega arith) (omega arith))))
      correct (symbol i) p r n regs k ok h w K =
          let v = get_or inputs i 0f in
          let g : finite v ≡ true = all_finite i (omega (arith, ltb-true i (length C.symbols) (unless_none (ltb i (length C.symbols)) 6 p ok))) in
          put (load i) r p v h.0 refl g (at (omega arith) (K (set regs r v) v (after_set r regs v g tt refl (λ j l. refl) (omega arith) (omega arith))))
      correct miscounted p r n regs k ok h w K = absurd (let z : ◌≡◌ {A = ℕ} 0 1 = cc in omega arith)
      correct (apply o ts) p r n regs k ok h w K =
          let h₁ = holds_right (lowered_all ts p 0 r n) (instruction (perform o (result_registers ts r)) (r + register_counts ts) p ∷ []) n (n + instruction_counts ts) (omega (arith, length_lowered_all ts p 0 r n)) h in
          resp (λ s. sym (bind_assoc (readings F inputs ts p 0 s) (λ vs s'. answered p (work F o vs) s') k))
          (corrects ts p 0 r n regs (λ vs s. bind (answered p (work F o vs) s) k) (none_left _ _ ok) (holds_left (lowered_all ts p 0 r n) _ n h) (omega arith)
          (λ regs₁ vs A.
          perf (work F o vs) o (result_registers ts r) (r + register_counts ts) p (Fits (result_kind o)) k h₁.0 (ap (work F o) A.here) (work_fits F o vs)
          (λ v g f. at (omega arith) (K (set regs₁ (r + register_counts ts) v) v (after_set (r + register_counts ts) regs₁ v g f A.size A.same (omega arith) (omega arith))))))
      correct (branch c y e) p r n regs k ok h w K =
          let r₁ = suc (r + register_count c) in
          let n₁ = suc (n + instruction_count c) in
          let r₂ = r₁ + register_count y in
          let n₂ = suc (suc (n₁ + instruction_count y)) in
          let h₁ = holds_right (lowered c (p ▸ condition) r n) _ n (n + instruction_count c) (omega (arith, length_lowered c (p ▸ condition) r n)) h in
          let h₂ = holds_right (lowered y (p ▸ then_arm) r₁ n₁) _ n₁ (n₁ + instruction_count y) (omega (arith, length_lowered y (p ▸ then_arm) r₁ n₁)) h₁.1 in
          let h₃ = holds_right (lowered e (p ▸ else_arm) (suc (suc r₂)) n₂) _ n₂ (n₂ + instruction_count e) (omega (arith, length_lowered e (p ▸ else_arm) (suc (suc r₂)) n₂)) h₂.1.1 in
          let ok₁ = none_right (fault C c (p ▸ condition)) _ ok in
          let ok₂ = none_right (unless (same_kind (kind c) Boolean) 7 p) _ ok₁ in
          let ok₂' = none_right (unless (supported C (dynamic C c)) 8 p) _ ok₂ in
          let ok₃ = none_right (fault C y (p ▸ then_arm)) _ ok₂' in
          let ok₄ = none_right (fault C e (p ▸ else_arm)) _ ok₃ in
          let is_bool = unless_none (same_kind (kind c) Boolean) 7 p (none_left _ _ ok₁) in
          let is_same = unless_none (same_kind (kind e) (kind y)) 7 p ok₄ in
          let yes_out : List Float → Outcome Float = λ s. reading F inputs y (p ▸ then_arm) s in
          let no_out : List Float → Outcome Float = λ s. reading F inputs e (p ▸ else_arm) s in
          resp (λ s. sym (bind_assoc (reading F inputs c (p ▸ condition) s) (λ b s'. cond (is_one b) (yes_out s') (no_out s')) k))
          (correct c (p ▸ condition) r n regs (λ b s. bind (cond (is_one b) (yes_out s) (no_out s)) k)
          (none_left _ _ ok) (holds_left (lowered c (p ▸ condition) r n) _ n h) (omega arith)
          (λ regs₁ b A.
          arms (is_one b) yes_out no_out k refl (fits_boolean (kind c) b is_bool A.fits) h₁.0 A.here (omega arith)
          (correct y (p ▸ then_arm) r₁ n₁ regs₁ k (none_left _ _ ok₂') (holds_left (lowered y (p ▸ then_arm) r₁ n₁) _ n₁ h₁.1) (omega (arith, A.size))
          (λ regs₂ v B.
          put (copy (result_register y r₁)) r₂ p v h₂.0 (ap (stored p (n₁ + instruction_count y) r₂ regs₂) B.here) B.good
          (went (jump (suc (n₂ + instruction_count e))) (suc r₂) p (suc (n₂ + instruction_count e)) (set regs₂ r₂ v) h₂.1.0 refl (omega arith) refl
          (at (omega arith)
          (K (set regs₂ r₂ v) v
          (after_set r₂ regs₂ v B.good B.fits (B.size ∙ A.size) (λ j l. B.same j (omega arith) ∙ A.same j l) (omega arith) (omega arith)))))))
          (correct e (p ▸ else_arm) (suc (suc r₂)) n₂ regs₁ k (none_left _ _ ok₃) (holds_left (lowered e (p ▸ else_arm) (suc (suc r₂)) n₂) _ n₂ h₂.1.1)
          (omega (arith, A.size))
          (λ regs₂ v B.
          put (copy (result_register e (suc (suc r₂)))) r₂ p v h₃.0 (ap (stored p (n₂ + instruction_count e) r₂ regs₂) B.here) B.good
          (at (omega arith)
          (K (set regs₂ r₂ v) v
          (after_set r₂ regs₂ v B.good (fits_same (kind e) (kind y) v is_same B.fits) (B.size ∙ A.size)
          (λ j l. B.same j (omega arith) ∙ A.same j l) (omega arith) (omega arith))))))))

      pub corrects : (ts : Terms) (p : Path) (i r n : ℕ) (regs : List Float) (k : List Float → List Float → Outcome Float)
          → faults C ts p i ≡ none → Holds n (lowered_all ts p i r n) → r + register_counts ts ≤ length regs → Conts ts r n regs k
          → Simulates n [] regs (λ s. bind (readings F inputs ts p i s) k)
      corrects end p i r n regs k ok h w K = at (omega arith) (K regs [] (record { size = refl; same = λ j l. refl; here = refl }))
      corrects (t and ts) p i r n regs k ok h w K =
          resp
          (λ s. sym (bind_assoc (reading F inputs t (p ▸ argument i) s) (λ v s'. bind (readings F inputs ts p (suc i) s') (λ vs s''. value (v ∷ vs) s'')) k))
          (correct t (p ▸ argument i) r n regs (λ v s'. bind (bind (readings F inputs ts p (suc i) s') (λ vs s''. value (v ∷ vs) s'')) k)
          (none_left _ _ ok) (holds_left (lowered t (p ▸ argument i) r n) _ n h) (omega arith)
          (λ regs₁ v A.
          resp (λ s'. sym (bind_assoc (readings F inputs ts p (suc i) s') (λ vs s''. value (v ∷ vs) s'') k))
          (corrects ts p (suc i) (r + register_count t) (n + instruction_count t) regs₁ (λ vs. k (v ∷ vs))
          (none_right (fault C t (p ▸ argument i)) _ ok) (holds_right (lowered t (p ▸ argument i) r n) _ n (n + instruction_count t) (omega (arith, length_lowered t (p ▸ argument i) r n)) h)
          (omega (arith, A.size))
          (λ regs₂ vs B.
          at (omega arith)
          (K regs₂ (v ∷ vs)
          (record {
            size = B.size ∙ A.size;
            same = λ j l. B.same j (omega arith) ∙ A.same j l;
            here = ap₂ ◌∷◌ (B.same (result_register t r) (result_lt t r) ∙ A.here) B.here;
          }))))))

  pub holds_from : (pre rest : List Instruction) → P.code ≡ pre ++ rest → Holds (length pre) rest
  holds_from pre [] e = tt
  holds_from pre (i ∷ rest) e = (
    rw e (elem_seam pre i rest),
    subst (λ n. Holds n rest) (simp length-append (omega arith)) (holds_from (pre ++ i ∷ []) rest (e ∙ sym (append_assoc pre (i ∷ []) rest))),
  )
