use mathlib.Core.Path.{refl}
use native.Mathlib.Omega.{arith}
use lib.ListN.{length}
use Rattle.std.proofs.lemmas.Result.{err_from_is_err_and}
use lib.Seq.{length-take-le}
use Prim.Native.Nat.{◌*◌}
use Rattle.compile.proofs.Own.{fits_own, kind_inside, lowered_fault, lowered_kind, small}
use Rattle.compile.proofs.lower_into.Goals as goal

pub write-requires : goal.write-requires
write-requires c =
    let args = c.args in
    let pre = c.requires in
    let few = small args.formula.now args.kinds.now pre.2.0 pre.2.1 pre.2.2 in
    fits_own args.formula.now args.kinds.now pre.2.0 pre.2.1 pre.2.2 _ _ pre.1
    (omega (arith, length-take-le (15 * length args.formula.now) args.own.now (omega (arith, few, pre.0))))

pub returns-in_err-write : goal.returns-in_err-write
returns-in_err-write c =
    let args = c.args in
    let e = c.in_err-write.ensures in
    let given = err_from_is_err_and c.from_residual.result c.from_residual.ensures.1 in
    λ f ss F.
    rw (given.1, given.2)
    (lowered_fault args.formula.now args.kinds.now f ss F _ args.path.now c.write.new.path args.own.now c.write.new.p e.0 e.1 e.2 _ refl)

pub bounds-own-20 : goal.bounds-own-20
bounds-own-20 c =
    let args = c.args in
    let pre = c.requires in
    kind_inside args.formula.now args.kinds.now pre.2.0 pre.2.1 pre.2.2 c.write.new.p args.own.now c.write.auto.p pre.0

pub returns : goal.returns
returns c =
    let args = c.args in
    let e = c.in_ok-write.ensures in
    λ f ss F. lowered_kind args.formula.now args.kinds.now f ss F _ args.path.now c.write.new.path args.own.now
    c.write.new.p e.0 e.1 e.2 _ refl
