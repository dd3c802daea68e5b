-- The worked flights' formula, Add(climb, Divide(Multiply(burn, distance), Add(tas, wind))), and its 144 bytes.
use mathlib.Core.Path.{◌≡◌, refl}
use mathlib.Core.Bool.{true}
use mathlib.Core.List.{List, [], ◌∷◌}
use mathlib.Core.Option.{some}
use Prim.Native.Nat.{ℕ}
use Rattle.formula.specs.Operator.{binary, Add, Multiply, Divide}
use Rattle.formula.specs.Formula.{Formula, node, symbol, operation, of_list, formula_limit, last}
use Rattle.formula.specs.Node.{formula_of, tree_in, head_at, head_of, fields_at, encode, node_bytes}
use Rattle.formula.specs.Text.{half_at, word_at, long_at}
use Rattle.reader.proofs.Encode.{formula_encode}

abbrev pub flights : Formula
flights =
    node (operation (binary Add))
    (of_list
    (node (symbol 0) last
    ∷ node (operation (binary Divide))
    (of_list
    (node (operation (binary Multiply)) (of_list (node (symbol 1) last ∷ node (symbol 2) last ∷ []))
    ∷ node (operation (binary Add)) (of_list (node (symbol 3) last ∷ node (symbol 4) last ∷ []))
    ∷ []))
    ∷ []))

abbrev pub flights_bytes : List ℕ
flights_bytes =
    4 ∷ 0 ∷ 2 ∷ 0 ∷ 0 ∷ 0 ∷ 0 ∷ 0 ∷ 0 ∷ 0 ∷ 0 ∷ 0 ∷ 0 ∷ 0 ∷ 0 ∷ 0
    ∷ 2 ∷ 0 ∷ 0 ∷ 0 ∷ 0 ∷ 0 ∷ 0 ∷ 0 ∷ 0 ∷ 0 ∷ 0 ∷ 0 ∷ 0 ∷ 0 ∷ 0 ∷ 0
    ∷ 4 ∷ 3 ∷ 2 ∷ 0 ∷ 0 ∷ 0 ∷ 0 ∷ 0 ∷ 0 ∷ 0 ∷ 0 ∷ 0 ∷ 0 ∷ 0 ∷ 0 ∷ 0
    ∷ 4 ∷ 2 ∷ 2 ∷ 0 ∷ 0 ∷ 0 ∷ 0 ∷ 0 ∷ 0 ∷ 0 ∷ 0 ∷ 0 ∷ 0 ∷ 0 ∷ 0 ∷ 0
    ∷ 2 ∷ 0 ∷ 0 ∷ 0 ∷ 1 ∷ 0 ∷ 0 ∷ 0 ∷ 0 ∷ 0 ∷ 0 ∷ 0 ∷ 0 ∷ 0 ∷ 0 ∷ 0
    ∷ 2 ∷ 0 ∷ 0 ∷ 0 ∷ 2 ∷ 0 ∷ 0 ∷ 0 ∷ 0 ∷ 0 ∷ 0 ∷ 0 ∷ 0 ∷ 0 ∷ 0 ∷ 0
    ∷ 4 ∷ 0 ∷ 2 ∷ 0 ∷ 0 ∷ 0 ∷ 0 ∷ 0 ∷ 0 ∷ 0 ∷ 0 ∷ 0 ∷ 0 ∷ 0 ∷ 0 ∷ 0
    ∷ 2 ∷ 0 ∷ 0 ∷ 0 ∷ 3 ∷ 0 ∷ 0 ∷ 0 ∷ 0 ∷ 0 ∷ 0 ∷ 0 ∷ 0 ∷ 0 ∷ 0 ∷ 0
    ∷ 2 ∷ 0 ∷ 0 ∷ 0 ∷ 4 ∷ 0 ∷ 0 ∷ 0 ∷ 0 ∷ 0 ∷ 0 ∷ 0 ∷ 0 ∷ 0 ∷ 0 ∷ 0
    ∷ []

pub flights_written : encode flights ≡ flights_bytes
unfolding encode node_bytes
flights_written = refl

pub flights_read : formula_of flights_bytes ≡ some flights
unfolding formula_of tree_in head_at head_of fields_at half_at word_at long_at
flights_read = refl

pub flights_small : formula_limit flights ≡ true
flights_small = refl

pub flights_back : formula_of (encode flights) ≡ some flights
flights_back = formula_encode flights refl
