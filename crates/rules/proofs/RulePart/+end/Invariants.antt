use Prim.Native.Nat.{◌-◌}
use mathlib.Core.Path.{◌≡◌}
use Rattle.rules.specs.Notation.{end_at, past_all}
use Rattle.rules.proofs.RulePart.+end.Given as goal

abbrev pub decreases-end : goal.decreases-end
decreases-end l = l.self.levels

abbrev pub invariant-loop-part : goal.invariant-loop-part
invariant-loop-part l =
    end_at l.self.levels l.self.rule l.self.start ≡ past_all (λ j. end_at (l.self.levels - 1) l.self.rule j) (l.parts - l._part) l.end
