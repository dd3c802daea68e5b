use Prim.Native.Nat.{◌<◌}
use native.Mathlib.Omega.{arith}
use lib.ListN.{length}
use mathlib.Core.Path.{sym, ap, ◌∙◌}
use Rattle.derive.specs.Outcome.{lengths}
use Rattle.compile.proofs.Own.{small}
use Rattle.derive.proofs.Ends.{faultless, kinds_length, state_is, not_boolean}
use Rattle.derive.proofs.derive_formula.Goals as goal

pub derive_number-requires : goal.derive_number-requires
derive_number-requires c =
    let args = c.args in
    let pre = c.requires in
    let lens = lengths args.tree.now args.list.now args.program.now in
    let f = pre.1.0 in
    let ss = pre.1.1 in
    let F = pre.1.2 in
    let E = c.in_ok-boolean.ensures f ss F in
    let N = faultless lens args.symbol f ss args.path.now c.lower_own.new.path c.in_ok-boolean.boolean E.0 E.1 in
    let known : args.symbol < length ss = omega (arith, c.if-symbol-given.false, kinds_length args.given.now.kinds.now ss F.listed) in
    let state = state_is args.given.now.kinds.now ss args.symbol _ F.listed known in (
      omega (arith, c.if-given-le512.true),
      omega arith,
      omega (arith, pre.0, ap length N.2),
      (
        f,
        ss,
        record { given = F; faultless = N.0; number = not_boolean _ (sym N.1 ∙ c.if-boolean.false); known = known; is_state = c.eq.ensures ∙ state },
      ),
    )

pub derive_number-requires-2 : goal.derive_number-requires-2
derive_number-requires-2 c =
    let args = c.args in
    let pre = c.requires in
    let lens = lengths args.tree.now args.list.now args.program.now in
    let f = pre.1.0 in
    let ss = pre.1.1 in
    let F = pre.1.2 in
    let E = c.in_ok-boolean.ensures f ss F in
    let N = faultless lens args.symbol f ss args.path.now c.lower_own.new.path c.in_ok-boolean.boolean E.0 E.1 in
    let known : args.symbol < length ss = omega (arith, c.if-symbol-given.false, kinds_length args.given.now.kinds.now ss F.listed) in
    let state = state_is args.given.now.kinds.now ss args.symbol _ F.listed known in (
      omega (arith, small args.given.now.formula.now args.given.now.kinds.now f ss F),
      omega arith,
      omega (arith, pre.0, ap length N.2),
      (
        f,
        ss,
        record { given = F; faultless = N.0; number = not_boolean _ (sym N.1 ∙ c.if-boolean.false); known = known; is_state = c.eq.ensures ∙ state },
      ),
    )
