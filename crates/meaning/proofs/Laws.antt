-- Laws of a node's work and of the reading that the proofs above cite instead of their text.
use mathlib.Core.Path.{◌≡◌, refl}
use mathlib.Core.List.{List, [], ◌∷◌, ◌++◌}
use mathlib.Core.Bool.{Bool, true, false, not}
use Prim.Native.Nat.{ℕ}
use lib.ListN.{get_or}
use lib.Dec.{eqb}
use lib.Ieee.{Float, Format, eq}
use borrow.Author.Tests.{eq-eqb}
use Rattle.arithmetic.specs.Value.{0f, finite, is_one, is_zero, truth_value}
use Rattle.formula.specs.Operator.{ValueKind, Number, Boolean, Operation, unary, binary, compare, call, Positive, Negative, Not, result_kind}
use Rattle.meaning.specs.Work.{Interaction, Question, ask, elementary, give, power, undefined, advance, binary_work, call_work, compared, same_question, work}
use Rattle.meaning.specs.Reading.{Outcome, bind, domain, question, value}

pub bind_assoc : {A B D : Type 0} (o : Outcome A) (g : A → List Float → Outcome B) (h : B → List Float → Outcome D)
    → bind (bind o g) h ≡ bind o (λ a s. bind (g a s) h)
bind_assoc (value a s) g h = refl
bind_assoc (domain p) g h = refl
bind_assoc (question q) g h = refl

pub bind_value : (o : Outcome Float) → bind o (λ v s. value v s) ≡ o
bind_value (value v s) = refl
bind_value (domain p) = refl
bind_value (question q) = refl

-- one more answer
pub advance_snoc : (w : Interaction) (kept : List Float) (q : Question) (k : Float → Interaction) (x : Float) → advance w kept ≡ ask q k
    → advance w (kept ++ x ∷ []) ≡ k x
advance_snoc w [] q k x e = rw e
advance_snoc (give v) (y ∷ s) q k x e = cc
advance_snoc undefined (y ∷ s) q k x e = cc
advance_snoc (ask q' f) (y ∷ s) q k x e = advance_snoc (f y) s q k x e

-- ---- a Boolean is one of two values

abbrev pub Fits : ValueKind → Float → Type 0
Fits Number v = Unit {0}
Fits Boolean v = is_zero v ≡ not (is_one v)

-- every value that an interaction can give
abbrev pub Gives : (Float → Type 0) → Interaction → Type 0
Gives P (give v) = P v
Gives P undefined = Unit {0}
Gives P (ask q k) = (x : Float) → Gives P (k x)

pub truth_finite : (b : Bool) → finite (truth_value b) ≡ true
truth_finite true = refl
truth_finite false = refl

pub truth_fits : (b : Bool) → Fits Boolean (truth_value b)
unfolding eq
truth_fits true = refl
truth_fits false = refl

number_fits : (w : Interaction) → Gives (Fits Number) w
number_fits (give v) = tt
number_fits undefined = tt
number_fits (ask q k) = λ x. number_fits (k x)

-- an operation gives values of its kind
pub work_fits : (F : Format) (o : Operation) (xs : List Float) → Gives (Fits (result_kind o)) (work F o xs)
work_fits F (unary Positive) xs = tt
work_fits F (unary Negative) xs = tt
work_fits F (unary Not) xs = truth_fits (eq (get_or xs 0 0f) 0f)
work_fits F (binary o) xs = number_fits (binary_work F o (get_or xs 0 0f) (get_or xs 1 0f))
work_fits F (compare o) xs = truth_fits (compared F o (get_or xs 0 0f) (get_or xs 1 0f))
work_fits F (call f) xs = number_fits (call_work F f xs (get_or xs 0 0f) (get_or xs 1 0f) (get_or xs 2 0f))

-- ---- questions

eqb_refl : (n : ℕ) → eqb n n ≡ true
eqb_refl n = eq-eqb n n refl

pub same_question_refl : (F : Format) (q : Question) → same_question F q q ≡ true
same_question_refl F (elementary f x) = rw (eqb_refl, eqb_refl)
same_question_refl F (power a b) = rw (eqb_refl, eqb_refl)
