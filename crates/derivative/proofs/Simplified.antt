-- "Only a literal zero (of either sign) beside Add, a literal zero or one beside Multiply ... are simplified": what each sum and product comes to.
use mathlib.Core.Path.{◌≡◌, refl}
use mathlib.Core.Bool.{true, false, ◌||◌}
use Rattle.formula.specs.Operator.{binary, Add, Multiply}
use Rattle.formula.specs.Formula.{number, operation, Formula, node, last}
use Rattle.derivative.specs.Rules.{add_of, mul_of}
use Rattle.derivative.specs.Differentiate.{formulas, binary_node}

-- a literal zero of either sign is one; so is the one, and no other literal: not -1, not 2
pub zeros_and_ones :
    (formulas.is_zero (node (number 0) last) ≡ true)
    × (formulas.is_zero (node (number 0x8000000000000000) last) ≡ true)
    × (formulas.is_one (node (number 0x3ff0000000000000) last) ≡ true)
    × (formulas.is_zero (node (number 0x3ff0000000000000) last) ≡ false)
    × (formulas.is_one (node (number 0xbff0000000000000) last) ≡ false)
zeros_and_ones = (refl, refl, refl, refl, refl)

module _ (a b : Formula) where
  pub add_zero_left : formulas.is_zero a ≡ true → add_of formulas a b ≡ b
  add_zero_left e = rw e

  pub add_zero_right : formulas.is_zero a ≡ false → formulas.is_zero b ≡ true → add_of formulas a b ≡ a
  add_zero_right e h = rw (e, h)

  pub add_kept : formulas.is_zero a ≡ false → formulas.is_zero b ≡ false → add_of formulas a b ≡ binary_node (operation (binary Add)) a b
  add_kept e h = rw (e, h)

  pub mul_zero : (formulas.is_zero a || formulas.is_zero b) ≡ true → mul_of formulas a b ≡ node (number 0) last
  mul_zero e = rw e

  pub mul_one_left : (formulas.is_zero a || formulas.is_zero b) ≡ false → formulas.is_one a ≡ true → mul_of formulas a b ≡ b
  mul_one_left e h = rw (e, h)

  pub mul_one_right : (formulas.is_zero a || formulas.is_zero b) ≡ false → formulas.is_one a ≡ false → formulas.is_one b ≡ true → mul_of formulas a b ≡ a
  mul_one_right e h g = rw (e, h, g)

  pub mul_kept : (formulas.is_zero a || formulas.is_zero b) ≡ false → formulas.is_one a ≡ false → formulas.is_one b ≡ false
      → mul_of formulas a b ≡ binary_node (operation (binary Multiply)) a b
  mul_kept e h g = rw (e, h, g)
