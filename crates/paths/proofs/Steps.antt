-- The text of a step, written from its end.
use mathlib.Core.Path.{◌≡◌, sym, ap, ◌∙◌}
use mathlib.Core.List.{List, ◌++◌}
use Prim.Native.Nat.{ℕ, zero, suc, ◌+◌, ◌-◌, ◌*◌, ◌/◌, ◌^◌, ◌≤◌, ◌<◌, max}
use native.Mathlib.Omega.{arith}
use native.Mathlib.Nat.{pow-suc}
use borrow.Author.Tests.{ne_eqb}
use lib.ListN.{length, length-append}
use Rattle.formula.specs.Text.{ascii, decimal}
use Rattle.formula.specs.Path.{argument, step_text}
use Rattle.machine.proofs.Size.{step_short}
use Rattle.layout.specs.Opcode.{step_of}
use Rattle.writer.specs.Over.{over}
use Rattle.writer.proofs.Over.{over_before}
use Rattle.writer.proofs.Decimal.{length_large, length_small}

-- as many digits as the power of ten that it reaches, and one more; 0 has one like 1
pub digits_of : (k n m : ℕ) → m ≡ max n 1 → 10 ^ k ≤ m → m < 10 * 10 ^ k → k + 1 ≡ length (decimal n)
digits_of zero n m e low high = let h : n < 10 = omega arith in omega (arith, length_small n h)
digits_of (suc k) n m e low high =
    let s : 10 ^ suc k ≡ 10 ^ k * 10 = pow-suc 10 k in
    let h : 10 ≤ n = omega arith in
    let less = digits_of k (n / 10) (n / 10) (omega arith) (omega arith) (omega arith) in
    omega (arith, length_large n h)

-- ---- steps

pub argument_text : (w : ℕ) → 3 ≤ w → step_text (step_of w) ≡ ascii ".arguments[" ++ decimal (w - 3) ++ ascii "]"
argument_text w h =
    rw (ne_eqb w 0 (λ z. omega arith), ne_eqb w 1 (λ z. omega arith), ne_eqb w 2 (λ z. omega arith))

pub argument_length : (w : ℕ) → 3 ≤ w → length (step_text (step_of w)) ≡ 12 + length (decimal (w - 3))
argument_length w h =
    ap length (argument_text w h)
    ∙ omega (arith, length-append (ascii ".arguments[") (decimal (w - 3) ++ ascii "]"), length-append (decimal (w - 3)) (ascii "]"))

step_argument : (i : ℕ) → step_of (suc (suc (suc i))) ≡ argument i
step_argument i =
    rw (ne_eqb (suc (suc (suc i))) 0 (λ z. omega arith), ne_eqb (suc (suc (suc i))) 1 (λ z. omega arith), ne_eqb (suc (suc (suc i))) 2 (λ z. omega arith))
    (ap argument (omega arith))

-- the step of an argument below 65,536 has at most 17 bytes
pub step_length_le : (step : ℕ) → step < 65539 → length (step_text (step_of step)) ≤ 17
step_length_le zero h = omega arith
step_length_le (suc zero) h = omega arith
step_length_le (suc (suc zero)) h = omega arith
step_length_le (suc (suc (suc i))) h = step_short (step_of (suc (suc (suc i)))) i (step_argument i) (omega arith)

-- its last part was written first
pub argument_written : (w : ℕ) (out o1 o2 o3 : List ℕ) (end close number begin : ℕ) → 3 ≤ w → end ≤ length out
    → close + 1 ≡ end → o1 ≡ over out close (ascii "]") → number + length (decimal (w - 3)) ≡ close → o2 ≡ over o1 number (decimal (w - 3))
    → begin + 11 ≡ number → o3 ≡ over o2 begin (ascii ".arguments[")
    → (begin + length (step_text (step_of w)) ≡ end) × (o3 ≡ over out begin (step_text (step_of w)))
argument_written w out o1 o2 o3 end close number begin h l ec e1 en e2 eb e3 =
    let d = decimal (w - 3) in
    let a : List ℕ = ascii ".arguments[" in
    let n = argument_length w h in
    let x2 : o2 ≡ over out number (d ++ ascii "]") =
    e2 ∙ ap (λ (p : List ℕ). over p number d) (e1 ∙ ap (λ (k : ℕ). over out k (ascii "]")) (sym en)) ∙ over_before out number d (ascii "]") (omega arith) in
    let ld = length-append d (ascii "]") in (
      omega arith,
      e3 ∙ ap (λ (p : List ℕ). over p begin a) (x2 ∙ ap (λ (k : ℕ). over out k (d ++ ascii "]")) (sym eb))
          ∙ over_before out begin a (d ++ ascii "]") (omega arith)
          ∙ ap (λ (t : List ℕ). over out begin t) (sym (argument_text w h)),
    )
