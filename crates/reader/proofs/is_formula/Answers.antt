use mathlib.Core.Path.{ap, ◌∙◌}
use Rattle.std.specs.Result.{is_ok}
use Rattle.reader.proofs.Scan.{ok_some}
use Rattle.reader.proofs.is_formula.Goals as goal

pub returns : goal.returns
returns c = c.is_ok.ensures.value ∙ ap is_ok c.receive.ensures ∙ ok_some c.args.b.now
