use Rattle.derivative.specs.Rules.{less_one}
use Rattle.survey.proofs.less_one.Goals as goal

pub returns : goal.returns
unfolding less_one
returns c = rw (← c.of_bits.ensures) c.bits_of.ensures
