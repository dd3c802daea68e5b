use Rattle.std.proofs.lemmas.Result.{err_from_is_err_and}
use Rattle.demand.proofs.Owing.{derived_refused}
use Rattle.demand.proofs.write_program.Goals as goal

pub returns-in_err-derive-in-Derivative-clause-answer : goal.returns-in_err-derive-in-Derivative-clause-answer
returns-in_err-derive-in-Derivative-clause-answer c =
    let given = err_from_is_err_and c.from_residual.result c.from_residual.ensures.1 in
    rw (given.1, given.2, c.in-Derivative.is) (derived_refused _ _ c.in_err-derive-in-Derivative.ensures.0)
