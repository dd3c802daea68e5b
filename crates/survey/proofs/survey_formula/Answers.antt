use native.Mathlib.Omega.{arith}
use mathlib.Core.Path.{◌∙◌, ap}
use mathlib.Core.Option.{Option}
use Rattle.derivative.specs.Attributes.{Attributes}
use Rattle.reader.proofs.Trees.{size_pos}
use Rattle.survey.specs.Table.{tree, reading, readings, row_in}
use Rattle.survey.proofs.Derivative.{survey_is, readings_then}
use Rattle.survey.proofs.survey_formula.Goals as goal

pub slice_copy_out-row : goal.slice_copy_out-row
slice_copy_out-row c = omega (arith, c.requires.long, size_pos (tree c.args.f.now 0), c.survey.auto.rows)

pub returns : goal.returns
returns c =
    let args = c.args in
    let surveyed = c.survey.ensures.survey 0 (omega arith) (omega (arith, size_pos (tree args.f.now 0))) in
    let row = row_in c.survey.new.rows 0 in (
      ap (λ (x : Option Attributes). record { own = reading c.attributes.result; has_symbol = row.has; diff = x })
          (ap readings c.then_some.ensures ∙ readings_then row.fine row.diff)
          ∙ survey_is args.by.symbol args.by.state (tree args.f.now 0) (reading c.attributes.result) (reading row.diff) row.has row.fine
          c.attributes.ensures surveyed.has surveyed.fine surveyed.diff,
      c.survey.ensures,
    )
