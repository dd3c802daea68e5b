use Prim.Native.Nat.{◌-◌}
use mathlib.Core.Path.{◌≡◌}
use Rattle.derivative.specs.Rules.{instance, extremum_from}
use Rattle.derivative.specs.Attributes.{attribute_algebra}
use Rattle.survey.specs.Table.{tree, reading}
use Rattle.survey.specs.Worked.{attribute_parts}
use Rattle.survey.proofs.Part.extremum.Given as goal

abbrev pub invariant-loop-i : goal.invariant-loop-i
invariant-loop-i l =
    let t = tree l.self.node.formula.now l.self.node.number in
    reading l.selected ≡ instance attribute_algebra (attribute_parts l.self.by.symbol l.self.by.state t) (extremum_from l.i (l.children - 1 - l.i))
