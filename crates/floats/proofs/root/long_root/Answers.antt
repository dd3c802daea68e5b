use Rattle.floats.proofs.RootSteps.{split, long_plain, long_less}
use Rattle.floats.proofs.root.long_root.Goals as goal

pub returns-then-left-lower : goal.returns-then-left-lower
returns-then-left-lower c = long_less _ _ _ _ (split c.args.m c.whole_root-upper.result c.requires.0 c.requires.1 c.whole_root-upper.ensures) c.if-left-lower.true

pub returns-else-left-lower : goal.returns-else-left-lower
returns-else-left-lower c = long_plain _ _ _ _ (split c.args.m c.whole_root-upper.result c.requires.0 c.requires.1 c.whole_root-upper.ensures) c.if-left-lower.false
