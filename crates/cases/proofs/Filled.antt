-- Bytes that are all one: each is as the one before it.
use Rattle.std.proofs.Common.{◌≡◌, refl, sym, ◌∙◌, ap, All, List, [], ◌∷◌, ℕ, Bool, IsTrue, length, take, drop, get_or}
use Rattle.std.proofs.lemmas.List.Elements.{All-nil, All-cons, All-head, All-same, All-tail, All-weaker}
use Rattle.std.specs.Bool.{Decides}

as-before : (x : ℕ) (xs : List ℕ) → xs ≡ take (length xs) (x ∷ xs) → All (λ b. b ≡ x) xs
as-before x [] same = All-nil (λ b. b ≡ x)
as-before x (y ∷ ys) same =
    let first : y ≡ x = ap (λ l. get_or l 0 0) same in
    let others : ys ≡ take (length ys) (y ∷ ys) = ap (λ l. drop 1 l) same in
    All-cons (λ b. b ≡ x) y ys first (All-weaker (λ b. b ≡ y) (λ b. b ≡ x) (λ b is. is ∙ first) ys (as-before y ys others))

before-as : (x : ℕ) (xs : List ℕ) → All (λ b. b ≡ x) xs → xs ≡ take (length xs) (x ∷ xs)
before-as x [] all = refl
before-as x (y ∷ ys) all =
    let first : y ≡ x = All-head (λ b. b ≡ x) y ys all in
    let others : All (λ b. b ≡ y) ys = All-weaker (λ b. b ≡ x) (λ b. b ≡ y) (λ b is. is ∙ sym first) ys (All-tail (λ b. b ≡ x) y ys all) in
    ap (λ a. a ∷ ys) first ∙ ap (λ l. x ∷ l) (before-as y ys others)

pub filled : (byte first : ℕ) (others bytes : List ℕ) (same : Bool) → bytes ≡ first ∷ others → first ≡ byte → Decides same (others ≡ take (length others) bytes) → (IsTrue same → All (λ b. b ≡ byte) bytes) × (All (λ b. b ≡ byte) bytes → IsTrue same)
filled byte first others bytes same is begins decides = (
  λ yes.
      let before : All (λ b. b ≡ first) others = as-before first others (decides.0 yes ∙ ap (λ l. take (length others) l) is) in
      All-same (λ b. b ≡ byte) bytes (first ∷ others) is (All-cons (λ b. b ≡ byte) first others begins (All-weaker (λ b. b ≡ first) (λ b. b ≡ byte) (λ b at. at ∙ begins) others before)),
  λ all.
      let after : All (λ b. b ≡ byte) others = All-tail (λ b. b ≡ byte) first others (All-same (λ b. b ≡ byte) (first ∷ others) bytes (sym is) all) in
      decides.1 (before-as first others (All-weaker (λ b. b ≡ byte) (λ b. b ≡ first) (λ b at. at ∙ sym begins) others after) ∙ ap (λ l. take (length others) l) (sym is)),
)
