-- Sixteen numbers in which a run's state, its count and its value cross to C and Rust: position, how many values are kept, nine places for them, the
-- question that pends in three, the count and the value. Values and arguments are bits.
use Rattle.std.specs.Prelude.{◌≡◌, List, [], ◌∷◌, ◌++◌, cond, ℕ, zero, suc, ◌+◌, ◌-◌, ◌<◌, length, get_or, take, eqb, ltb, Float}
use Rattle.std.proofs.Math.Option.{Option, none, some}
use Rattle.std.specs.Float.{binary64}
use Rattle.std.specs.Float.Ieee.{of_bits, to_bits}
use Rattle.refusals.specs.Numbers.{outside_domain}
use Rattle.meaning.specs.Work.{Question, elementary, power}
use Rattle.machine.specs.Machine.{Answer, Reply, State, asks, gives, outside, refused, spent}

abbrev pub bits : Float → ℕ
bits x = to_bits binary64 x

abbrev pub value_at : List ℕ → ℕ → Float
value_at c i = of_bits binary64 (get_or c i 0)

-- a value is read again from its bits, as every f64 is
abbrev pub ComesBack : Float → Type 0
ComesBack x = of_bits binary64 (bits x) ≡ x

-- values that are read again
abbrev pub Held : List Float → Type 0
Held [] = Unit {0}
Held (x ∷ xs) = ComesBack x × Held xs

-- ---- read

-- 0 is none, 17 Power, any other number one more than a function's; 255 is no function's number
abbrev pub question_in : ℕ → ℕ → ℕ → Option Question
question_in n a b =
    cond (eqb n 0) none
    (cond (eqb n 17) (some (power (of_bits binary64 a) (of_bits binary64 b)))
    (some (elementary (cond (ltb n 256) (n - 1) 255) (of_bits binary64 a))))

-- the first so many of nine values
abbrev pub kept_in : List ℕ → List Float
kept_in c =
    take (get_or c 1 0)
    (value_at c 2 ∷ value_at c 3 ∷ value_at c 4 ∷ value_at c 5 ∷ value_at c 6 ∷ value_at c 7 ∷ value_at c 8 ∷ value_at c 9 ∷ value_at c 10 ∷ [])

abbrev pub state_in : List ℕ → State
state_in c = record { position = get_or c 0 0; kept = kept_in c; pending = question_in (get_or c 11 0) (get_or c 12 0) (get_or c 13 0) }

-- ---- written

-- so many cells: bits, then zeros
abbrev pub padded : ℕ → List Float → List ℕ
padded zero ks = []
padded (suc n) [] = 0 ∷ padded n []
padded (suc n) (k ∷ ks) = bits k ∷ padded n ks

abbrev pub question_cells : Option Question → List ℕ
question_cells none = 0 ∷ 0 ∷ 0 ∷ []
question_cells (some (elementary f x)) = (1 + f) ∷ bits x ∷ 0 ∷ []
question_cells (some (power x y)) = 17 ∷ bits x ∷ bits y ∷ []

-- a question that three cells can hold: its function's number is not taken for Power's, nor for one above 255
abbrev pub Askable : Option Question → Type 0
Askable none = Unit {0}
Askable (some (elementary f x)) = (f < 255) × (f ≡ 16 → ⊥)
Askable (some (power x y)) = Unit {0}

-- its arguments are read again
abbrev pub ArgumentsBack : Option Question → Type 0
ArgumentsBack none = Unit {0}
ArgumentsBack (some (elementary f x)) = ComesBack x
ArgumentsBack (some (power x y)) = ComesBack x × ComesBack y

abbrev pub state_cells : State → List ℕ
state_cells s = s.position ∷ length s.kept ∷ padded 9 s.kept ++ question_cells s.pending

-- the question that an answer puts
abbrev pub question_of : Answer → Option Question
question_of (gives v) = none
question_of (asks q) = some q
question_of spent = none
question_of (outside p) = none
question_of (refused n) = none

-- the value's bits, 0 where there is none
abbrev pub value_cell : Answer → ℕ
value_cell (gives v) = bits v
value_cell (asks q) = 0
value_cell spent = 0
value_cell (outside p) = 0
value_cell (refused n) = 0

-- "Where an answer is an enum, a definition sets out this paper's number": 0 a value, 100 a question, 101 spent, else the refusal
abbrev pub number_of : Answer → ℕ
number_of (gives v) = 0
number_of (asks q) = 100
number_of spent = 101
number_of (outside p) = outside_domain
number_of (refused n) = n

abbrev pub outcome_cells : Reply → List ℕ
outcome_cells r = r.count ∷ value_cell r.answer ∷ []
