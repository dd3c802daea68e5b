use mathlib.Core.Path.{ap}
use mathlib.Core.Option.{Option, some}
use native.Mathlib.Omega.{arith}
use lib.ListN.{length}
use Rattle.std.proofs.lemmas.Result.{err_from_is_err_and}
use Rattle.formula.specs.Formula.{Formula}
use Rattle.formula.specs.Path.{root}
use Rattle.formula.specs.Term.{term}
use Rattle.machine.specs.Check.{fault}
use Rattle.machine.specs.Compile.{lowered_or, own_context}
use Rattle.reader.specs.Read.{is_some}
use Rattle.derivative.specs.Derive.{continued}
use Rattle.compile.proofs.Entries.{above_limit, counted, early_of, faults_left, limit_of, path_kept, path_rooted, prefix, source_of}
use Rattle.derive.proofs.Parts.{leaves}
use Rattle.derive.proofs.Ends.{from_path, goes_on, refused_early, refused_first}
use Rattle.derive.specs.Outcome.{lengths}
use Rattle.derive.proofs.derive.Goals as goal

pub returns-in_err-table : goal.returns-in_err-table
returns-in_err-table c =
    let args = c.args in
    let lens = lengths args.tree.now args.list.now args.program.now in
    let given = err_from_is_err_and c.from_residual.result c.from_residual.ensures.1 in
    rw (given.1, given.2)
    (refused_early args.formula.now args.names.now args.symbol args.path.now lens _ args.tree.now args.list.now args.program.now
    (early_of args.formula.now args.names.now (length args.path.now) (length args.program.now) _ c.in_err-table.ensures))

pub within-requires : goal.within-requires
within-requires c =
    let args = c.args in
    let S = source_of args.formula.now args.names.now (length args.path.now) (length args.program.now) _ c.in_ok-table.ensures in
    (omega (arith, S.places), ap (λ (o : Option Formula). is_some o) S.formed)

pub returns-in_err-within : goal.returns-in_err-within
returns-in_err-within c =
    let args = c.args in
    let lens = lengths args.tree.now args.list.now args.program.now in
    let S = source_of args.formula.now args.names.now (length args.path.now) (length args.program.now) _ c.in_ok-table.ensures in
    let given = err_from_is_err_and c.from_residual-in_err-within.result c.from_residual-in_err-within.ensures.1 in
    let limit = above_limit S _ c.in_err-within.ensures.0 in
    rw (given.1, given.2)
    (refused_first args.formula.now args.names.now args.symbol args.path.now _ lens 4 _ (some root) args.tree.now args.list.now args.program.now limit.0 limit.1
    (path_rooted S _ c.in_err-within.ensures.0 args.path.now _ c.in_err-within.ensures.1))

pub shared_ref_as_front-given : goal.shared_ref_as_front-given
shared_ref_as_front-given c =
    let args = c.args in
    let S = source_of args.formula.now args.names.now (length args.path.now) (length args.program.now) _ c.in_ok-table.ensures in
    omega (arith, counted _ _ S.table, S.few)

pub derive_formula-requires : goal.derive_formula-requires
derive_formula-requires c =
    let args = c.args in
    let S = source_of args.formula.now args.names.now (length args.path.now) (length args.program.now) _ c.in_ok-table.ensures in
    let ok = c.in_ok-within.ensures.0 in (
      omega (arith, S.places, ap length (path_kept S ok args.path.now _ c.in_ok-within.ensures.1)),
      (S.f, S.symbols, record { formed = S.formed; limit = limit_of S ok; listed = prefix _ S.symbols S.table }),
    )

pub returns : goal.returns
returns c =
    let args = c.args in
    let lens = lengths args.tree.now args.list.now args.program.now in
    let S = source_of args.formula.now args.names.now (length args.path.now) (length args.program.now) _ c.in_ok-table.ensures in
    let ok = c.in_ok-within.ensures.0 in
    let kept = path_kept S ok args.path.now _ c.in_ok-within.ensures.1 in
    leaves _ _ _ _ _ _ _ _ _ _ _ (goes_on args.formula.now args.names.now args.symbol args.path.now args.path.now lens _ (faults_left S ok))
    (from_path (continued lens args.symbol (lowered_or S.f S.symbols (fault (own_context S.symbols) (term S.f) root))) _ _ _ _ _ _ _ _ _ _ kept
    (c.derive_formula.ensures S.f S.symbols (record { formed = S.formed; limit = limit_of S ok; listed = prefix _ S.symbols S.table })))
