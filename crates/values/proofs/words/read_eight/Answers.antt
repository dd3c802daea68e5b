use Rattle.values.proofs.Eights.{eight_digits, own_below}
use Rattle.values.proofs.words.read_eight.Goals as goal

pub spelled-requires : goal.spelled-requires
spelled-requires c = own_below _

pub returns-then-w-spelled : goal.returns-then-w-spelled
returns-then-w-spelled c = eight_digits _ c.args.w c.spelled.result c.spelled.ensures c.if-w-spelled.true
