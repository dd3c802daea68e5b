use mathlib.Core.Path.{ap}
use mathlib.Core.Option.{Option, some}
use native.Mathlib.Omega.{arith}
use lib.ListN.{length}
use Rattle.std.proofs.lemmas.Result.{err_from_is_err_and}
use Rattle.formula.specs.Formula.{Formula}
use Rattle.formula.specs.Path.{root}
use Rattle.reader.specs.Read.{is_some}
use Rattle.compile.proofs.Entries.{above_limit, all_fit, counted, early, early_after, early_of, faults_left, limit_of, path_kept, path_rooted, prefix, source_of, written}
use Rattle.compile.proofs.compile.Goals as goal

pub returns-in_err-table : goal.returns-in_err-table
returns-in_err-table c =
    let args = c.args in
    let given = err_from_is_err_and c.from_residual.result c.from_residual.ensures.1 in
    rw (given.1, given.2)
    (early_after _ _ args.path.now args.program.now
    (early_of args.formula.now args.names.now (length args.path.now) (length args.program.now) _ c.in_err-table.ensures))

pub within-requires : goal.within-requires
within-requires c =
    let args = c.args in
    let S = source_of args.formula.now args.names.now (length args.path.now) (length args.program.now) _ c.in_ok-table.ensures in
    (omega (arith, S.places), ap (λ (o : Option Formula). is_some o) S.formed)

pub returns-in_err-within : goal.returns-in_err-within
returns-in_err-within c =
    let args = c.args in
    let S = source_of args.formula.now args.names.now (length args.path.now) (length args.program.now) _ c.in_ok-table.ensures in
    let given = err_from_is_err_and c.from_residual-in_err-within.result c.from_residual-in_err-within.ensures.1 in
    let limit = above_limit S _ c.in_err-within.ensures.0 in
    rw (given.1, given.2)
    (early _ 4 _ (some root) args.path.now _ args.program.now limit.0 (omega arith) limit.1
    (path_rooted S _ c.in_err-within.ensures.0 args.path.now _ c.in_err-within.ensures.1))

pub shared_ref_as_front-kinds : goal.shared_ref_as_front-kinds
shared_ref_as_front-kinds c =
    let args = c.args in
    let S = source_of args.formula.now args.names.now (length args.path.now) (length args.program.now) _ c.in_ok-table.ensures in
    omega (arith, counted _ _ S.table, S.few)

pub write-requires : goal.write-requires
write-requires c =
    let args = c.args in
    let S = source_of args.formula.now args.names.now (length args.path.now) (length args.program.now) _ c.in_ok-table.ensures in
    let ok = c.in_ok-within.ensures.0 in
    all_fit args.formula.now S.f S.formed (limit_of S ok) _ _
    (omega (arith, S.places, ap length (path_kept S ok args.path.now _ c.in_ok-within.ensures.1))) S.room

pub returns : goal.returns
returns c =
    let args = c.args in
    let S = source_of args.formula.now args.names.now (length args.path.now) (length args.program.now) _ c.in_ok-table.ensures in
    let ok = c.in_ok-within.ensures.0 in
    written args.formula.now S.f S.formed (limit_of S ok) _ S.symbols (prefix _ S.symbols S.table) c.write.result args.path.now _ c.write.new.path
    args.program.now c.write.new.p (path_kept S ok args.path.now _ c.in_ok-within.ensures.1) c.write.ensures.0 c.write.ensures.1 c.write.ensures.2 _
    (faults_left S ok)
