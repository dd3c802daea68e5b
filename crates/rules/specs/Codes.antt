-- The codes of rules as the code has them, by the numbers of Notation.
use Rattle.std.specs.Prelude.{◌≡◌, Bool, true, false, [], ◌∷◌, ℕ, ◌/◌, ◌%◌, get_or}
use Rattle.rules.specs.Notation.{parts}
use Rattle.rules.specs.declared.Code.{Code}
use Rattle.rules.specs.declared.Literal as Declared
use Rattle.rules.specs.declared.Literal.TheVariants as Lit

abbrev pub literal_number : Declared.Literal → ℕ
literal_number Lit.Zero = 0
literal_number Lit.One = 1
literal_number Lit.Two = 2
literal_number Lit.Three = 3
literal_number Lit.Half = 4
literal_number Lit.ThreeHalves = 5
literal_number Lit.MinusOne = 6
literal_number Lit.Tiny = 7
literal_number Lit.LnTen = 8
literal_number Lit.Exponent = 9
literal_number Lit.ExponentLessOne = 10
literal_number Lit.Zeroth = 11

-- the upper half of a code's number, and the lower
abbrev pub kind_of : Code → ℕ
kind_of Code.Nothing = 0
kind_of (Code.Child i) = 1
kind_of (Code.Derivative i) = 2
kind_of Code.Whole = 3
kind_of (Code.Node h) = h.kind
kind_of (Code.Unless i) = 6
kind_of Code.Add = 9
kind_of Code.Multiply = 10
kind_of Code.Extremum = 11
kind_of (Code.Literal l) = 12

abbrev pub which_of : Code → ℕ
which_of Code.Nothing = 0
which_of (Code.Child i) = i
which_of (Code.Derivative i) = i
which_of Code.Whole = 0
which_of (Code.Node h) = h.operator
which_of (Code.Unless i) = i
which_of Code.Add = 0
which_of Code.Multiply = 0
which_of Code.Extremum = 0
which_of (Code.Literal l) = literal_number l

abbrev pub parts_in : Code → ℕ
parts_in Code.Nothing = 0
parts_in (Code.Child i) = 0
parts_in (Code.Derivative i) = 0
parts_in Code.Whole = 0
parts_in (Code.Node h) = h.children
parts_in (Code.Unless i) = 1
parts_in Code.Add = 2
parts_in Code.Multiply = 2
parts_in Code.Extremum = 0
parts_in (Code.Literal l) = 0

-- whether a kind is that of a node that a rule writes
abbrev pub writes : ℕ → Bool
writes k = get_or (false ∷ false ∷ false ∷ false ∷ true ∷ true ∷ false ∷ true ∷ true ∷ []) k false

abbrev pub writes_node : Code → Bool
writes_node Code.Nothing = false
writes_node (Code.Child i) = false
writes_node (Code.Derivative i) = false
writes_node Code.Whole = false
writes_node (Code.Node h) = true
writes_node (Code.Unless i) = false
writes_node Code.Add = false
writes_node Code.Multiply = false
writes_node Code.Extremum = false
writes_node (Code.Literal l) = false

-- the code has the number c
pub record Reads (code : Code) (c : ℕ) : Type 0 where
  pub kind : kind_of code ≡ c / 16
  pub which : which_of code ≡ c % 16
  pub parts_follow : parts_in code ≡ parts (c / 16) (c % 16)
  pub node : writes_node code ≡ writes (c / 16)
