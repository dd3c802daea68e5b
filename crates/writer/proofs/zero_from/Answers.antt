use Rattle.writer.proofs.Over.{zeroed_lent}
use Rattle.writer.proofs.zero_from.Goals as goal

pub returns : goal.returns
returns c = zeroed_lent c.args.out.now c.args.at c.fill.new.self c.requires (c.fill.ensures.after (λ y h. h))
