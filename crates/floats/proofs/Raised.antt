-- Digits moved up: the same number of units with 53 digits, or with as many as there is room for.
use Rattle.std.proofs.Common.{◌≡◌, ℕ, zero, suc, ◌+◌, ◌-◌, ◌*◌, ◌%◌, ◌^◌, ◌<◌, ◌≤◌, min, sym, ap, ◌∙◌, lt_of_lt_of_le, lt_of_not-le, le_of_eq, le_trans, not-le_of_lt, mul_assoc, mul-le-mul, mul-le-mul_right, mul-lt-mul_of_pos_right, mod-eq_of_lt, arith, pow_pos, pow_mono, pow-add}
use native.Mathlib.Nat.{pow-succ'}

-- a number below 2 ^ 53 has at most 53 digits
pub log_small : (digits log : ℕ) → 2 ^ log ≤ digits → digits < 2 ^ 53 → log ≤ 52
log_small digits log h k =
    let below : log < 53 = lt_of_not-le (λ (g : 53 ≤ log). not-le_of_lt k (le_trans (pow_mono {i = 53} {j = log} g) h)) in
    omega arith

module _ (digits log places : ℕ) where
  pub raised_lt : digits < 2 * 2 ^ log → log + places ≤ 52 → digits * 2 ^ places < 2 ^ 53
  raised_lt h k =
      lt_of_lt_of_le (mul-lt-mul_of_pos_right h (pow_pos places))
      (le_trans (le_of_eq (ap (λ (x : ℕ). x * 2 ^ places) (sym (pow-succ' 2 log)) ∙ sym (pow-add 2 (suc log) places))) (pow_mono {i = suc log + places} {j = 53} (omega arith)))

  pub raised_ge : 2 ^ log ≤ digits → log + places ≡ 52 → 2 ^ 52 ≤ digits * 2 ^ places
  raised_ge h k = le_trans (le_of_eq (ap (λ (x : ℕ). 2 ^ x) (sym k) ∙ pow-add 2 log places)) (mul-le-mul_right (2 ^ places) h)

-- the places that the digits go up, the exponent goes down
pub moved : (digits exp places : ℕ) → places ≤ exp → digits * 2 ^ places * 2 ^ (exp - places) ≡ digits * 2 ^ exp
moved digits exp places h =
    let back : places + (exp - places) ≡ exp = omega arith in
    mul_assoc digits (2 ^ places) (2 ^ (exp - places)) ∙ ap (λ (x : ℕ). digits * x) (sym (pow-add 2 places (exp - places)) ∙ ap (λ (x : ℕ). 2 ^ x) back)

pub record Raised (digits exp high left : ℕ) : Type 0 where
  pub same : high * 2 ^ left ≡ digits * 2 ^ exp
  pub few : high < 2 ^ 53
  pub inside : left ≤ exp
  pub full : 0 < left → 2 ^ 52 ≤ high

-- in 64 bits
pub raised : (digits exp log places : ℕ) → 2 ^ log ≤ digits → digits < 2 * 2 ^ log → digits < 2 ^ 53 → places ≡ min (52 - log) exp → Raised digits exp (digits * 2 ^ places % 2 ^ 64) (exp - places)
raised digits exp log places lo hi few e =
    let small = log_small digits log lo few in
    let room : log + places ≤ 52 = omega arith in
    let inside : places ≤ exp = omega arith in
    let below = raised_lt digits log places hi room in
    let whole : digits * 2 ^ places % 2 ^ 64 ≡ digits * 2 ^ places = mod-eq_of_lt (omega arith) in
    record {
      same = ap (λ (x : ℕ). x * 2 ^ (exp - places)) whole ∙ moved digits exp places inside;
      few = omega arith;
      inside = omega arith;
      full = λ h. le_trans (raised_ge digits log places lo (omega arith)) (le_of_eq (sym whole));
    }

-- ---- with room for 52 places
pub normal : (digits exp high left : ℕ) → 0 < digits → Raised digits (exp + 52) high left → 2 ^ 52 ≤ high
normal digits exp high zero h r =
    let some : 1 * 2 ^ 52 ≤ digits * 2 ^ (exp + 52) = mul-le-mul {n₁ = 1} {m₁ = 2 ^ 52} {n₂ = digits} {m₂ = 2 ^ (exp + 52)} h (pow_mono {i = 52} {j = exp + 52} (omega arith)) in
    let all : high * 1 ≡ digits * 2 ^ (exp + 52) = r.same in
    omega arith
normal digits exp high (suc left) h r = r.full (omega arith)

pub by_52 : (digits exp : ℕ) → digits * 2 ^ (exp + 52) ≡ digits * 2 ^ exp * 2 ^ 52
by_52 digits exp = ap (λ (x : ℕ). digits * x) (pow-add 2 exp 52) ∙ sym (mul_assoc digits (2 ^ exp) (2 ^ 52))
