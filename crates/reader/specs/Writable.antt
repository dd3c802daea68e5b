-- The formulas that node bytes can hold.
use Rattle.std.specs.Prelude.{Bool, true, false, ◌&&◌, ℕ, eqb, ltb}
use Rattle.formula.specs.Operator.{Operation, unary, binary, compare, call}
use Rattle.formula.specs.Formula.{Head, number, truth, symbol, operation, junction, ifelse, conditional, malformed, Formula, Formulas, node, last, next, count}

-- an operation with so many children
abbrev pub writable_operation : Operation → ℕ → Bool
writable_operation (unary o) n = eqb n 1
writable_operation (binary o) n = eqb n 2
writable_operation (compare o) n = eqb n 2
writable_operation (call f) n = ltb n 65536

-- a head with so many children: 8 bytes hold a value, 4 a symbol number, 2 a child count
abbrev pub writable_head : Head → ℕ → Bool
writable_head (number b) n = eqb n 0 && ltb b 0x1_0000_0000_0000_0000
writable_head (truth b) n = eqb n 0
writable_head (symbol i) n = eqb n 0 && ltb i 0x1_0000_0000
writable_head (operation o) n = writable_operation o n
writable_head (junction j) n = ltb n 65536
writable_head ifelse n = ltb n 65536
writable_head conditional n = eqb n 3
writable_head malformed n = false

abbrev mutual
  pub writable : Formula → Bool
  writable (node h ts) = writable_head h (count ts) && all_writable ts

  pub all_writable : Formulas → Bool
  all_writable last = true
  all_writable (next t ts) = writable t && all_writable ts
