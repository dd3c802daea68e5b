use Prim.Native.Nat.{◌-◌}
use Rattle.survey.specs.Table.{Room}
use Rattle.survey.proofs.Filling.{Going}
use Rattle.survey.proofs.+survey.Given as goal

abbrev pub decreases-survey : goal.decreases-survey
decreases-survey l = l.depth

abbrev pub invariant-loop-child : goal.invariant-loop-child
invariant-loop-child l =
    (room : Room l.f l.initial.rows l.k l.depth) × Going l.by.symbol l.by.state l.f l.initial.rows l.k l.depth room l.rows l.has l.fine l.levels l.next (l.children - l._child)
