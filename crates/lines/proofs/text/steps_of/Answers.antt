use Rattle.lines.proofs.Texts.{steps_run}
use Rattle.listing.specs.Legs.{line_of}
use Rattle.run.specs.Views.{answer_of}
use Rattle.run.specs.declared.Answer.{Answer}
use Rattle.std.proofs.Common.{ap}
use Rattle.lines.proofs.text.steps_of.Goals as goal

pub returns-in-Refused : goal.returns-in-Refused
returns-in-Refused c = λ b. ap (λ (a : Answer). (line_of (answer_of b a) c.args.outcome.count).steps) c.in-Refused.is

pub returns-in_default : goal.returns-in_default
returns-in_default c = λ b. steps_run b c.args.outcome.answer c.args.outcome.count c.in_default.not-Refused
