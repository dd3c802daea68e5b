use mathlib.Core.Path.{ap, ◌∙◌}
use native.Mathlib.Omega.{arith}
use Rattle.std.specs.Prelude.{Option}
use Rattle.std.specs.Option.{ok_or}
use Rattle.std.proofs.lemmas.Result.{err_from_is_err_and}
use Rattle.refusals.specs.declared.Refusal.TheVariants.{MalformedLine}
use Rattle.names.specs.declared.Names.{Names}
use Rattle.compile.proofs.Entries.{malformed, short_path, short_program, table_is}
use Rattle.compile.proofs.prepare.Goals as goal

pub returns-then-path-lt8192 : goal.returns-then-path-lt8192
returns-then-path-lt8192 c = short_path c.args.formula.now c.args.names.now c.args.path c.args.program c.if-path-lt8192.true

pub returns-then-program-div_ceil : goal.returns-then-program-div_ceil
returns-then-program-div_ceil c =
    short_program c.args.formula.now c.args.names.now c.args.path c.args.program (omega arith)
    (omega arith)

pub returns-in_err-receive : goal.returns-in_err-receive
returns-in_err-receive c =
    let given = err_from_is_err_and c.from_residual.result c.from_residual.ensures.1 in
    rw (given.1, given.2)
    (malformed c.args.formula.now c.args.names.now c.args.path c.args.program (omega arith)
    (omega arith) _ c.in_err-receive.ensures)

pub returns : goal.returns
returns c =
    c.ok_or.ensures.value
    ∙ ap (λ (t : Option Names). ok_or t MalformedLine) c.read_names.ensures
    ∙ table_is c.args.formula.now c.args.names.now c.args.path c.args.program (omega arith)
    (omega arith) c.in_ok-receive.ensures
