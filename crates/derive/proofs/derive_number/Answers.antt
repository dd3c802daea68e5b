use Prim.Native.Nat.{◌≤◌}
use mathlib.Core.Logic.{⊎_elim}
use mathlib.Core.Path.{refl, sym, ap, ◌∙◌}
use mathlib.Core.Bool.{true, false}
use native.Mathlib.Omega.{arith}
use Rattle.derivative.specs.Attributes.{Attributes}
use Rattle.derivative.specs.Derive.{too_short}
use lib.ListN.{length-replicate}
use Rattle.survey.specs.declared.Row.{Row}
use Rattle.survey.specs.Table.{tree}
use Rattle.differentiate.proofs.Whole.{diff_capped, job_of, own_capped}
use Rattle.derive.specs.Outcome.{lengths}
use Rattle.derive.proofs.Parts.{has_derivative, leaves, no_derivative, nodes_exact, surveyed_room, too_deep, too_many, within_limit}
use Rattle.derive.proofs.Ends.{by_is, long_enough, rooms, short, too_large, unruled}
use Rattle.derive.proofs.derive_number.Goals as goal

pub whole_as_slice-survey_formula : goal.whole_as_slice-survey_formula
whole_as_slice-survey_formula g c = omega (arith, c.requires.1)

pub survey_formula-found-requires : goal.survey_formula-found-requires
survey_formula-found-requires g c =
    let args = c.args in
    let pre = c.requires in
    surveyed_room args.given.now.formula.now pre.3.0 pre.3.2.given.formed pre.3.2.given.limit _ (omega (arith, pre.0, length-replicate {A = Row}))

pub returns-in_default : goal.returns-in_default
returns-in_default g c =
    let args = c.args in
    let found = c.survey_formula-found in
    λ f ss D.
    leaves _ _ _ _ _ _ _ _ _ _ _
    (unruled (lengths args.tree.now args.list.now args.program.now) ss _ _
    (sym (by_is args.by.symbol f args.by.state ss D.is_state)
    ∙ no_derivative args.given.now.formula.now f D.given.formed D.given.limit args.by.symbol args.by.state found.result found.ensures.0 c.in_default.is))
    (c.refuse_at_root.ensures.0, c.refuse_at_root.ensures.1, c.refuse_at_root.ensures.2, c.refuse_at_root.ensures.3, refl)

pub with_primal-whole-requires : goal.with_primal-whole-requires
with_primal-whole-requires g c =
    let args = c.args in
    let found = c.survey_formula-found in
    let diff = c.in-Some.diff in
    let t = tree args.given.now.formula.now 0 in (
      own_capped args.by.symbol args.by.state t found.result found.ensures.0,
      diff_capped args.by.symbol args.by.state t found.result found.ensures.0 diff c.in-Some.is,
    )

pub returns-then-whole-gt16384 : goal.returns-then-whole-gt16384
returns-then-whole-gt16384 g c =
    let args = c.args in
    let found = c.survey_formula-found in
    let diff = c.in-Some.diff in
    let whole = c.with_primal-whole in
    let lens = lengths args.tree.now args.list.now args.program.now in
    λ f ss D.
    let H = has_derivative args.given.now.formula.now f D.given.formed D.given.limit args.by.symbol args.by.state found.result found.ensures.0 whole.result diff c.in-Some.is whole.ensures in
    let e = sym (by_is args.by.symbol f args.by.state ss D.is_state) ∙ H.1 in
    leaves _ _ _ _ _ _ _ _ _ _ _
    (too_large lens ss _ _ H.0 e
    (⊎_elim (λ h. too_many whole.result H.0 H.2 h) (λ h. too_deep whole.result H.0 H.2 h.1) c.then-whole-gt16384.either))
    (c.refuse_at_root-then-whole-gt16384.ensures.0, c.refuse_at_root-then-whole-gt16384.ensures.1, c.refuse_at_root-then-whole-gt16384.ensures.2, c.refuse_at_root-then-whole-gt16384.ensures.3, refl)

pub returns-then-too_short : goal.returns-then-too_short
returns-then-too_short g c =
    let args = c.args in
    let found = c.survey_formula-found in
    let diff = c.in-Some.diff in
    let whole = c.with_primal-whole in
    let lens = lengths args.tree.now args.list.now args.program.now in
    λ f ss D.
    let H = has_derivative args.given.now.formula.now f D.given.formed D.given.limit args.by.symbol args.by.state found.result found.ensures.0 whole.result diff c.in-Some.is whole.ensures in
    let e = sym (by_is args.by.symbol f args.by.state ss D.is_state) ∙ H.1 in
    let few : whole.result.nodes ≤ 16384 = omega (arith, c.if-whole-gt16384.false) in
    let n = nodes_exact whole.result H.0 H.2 few in
    let limit = within_limit whole.result H.0 H.2 few (omega (arith, c.if-whole-gt128.false)) in
    leaves _ _ _ _ _ _ _ _ _ _ _
    (short lens ss _ _ H.0 e limit (ap (too_short lens) (sym n) ∙ sym c.too_short.ensures ∙ c.if-too_short.true))
    (refl, refl, c.clear.ensures.0, c.clear.ensures.1, refl)

pub shared_whole_as_slice-write_all : goal.shared_whole_as_slice-write_all
shared_whole_as_slice-write_all g c = omega (arith, c.requires.1)

pub write_all-requires : goal.write_all-requires
write_all-requires g c =
    let args = c.args in
    let found = c.survey_formula-found in
    let diff = c.in-Some.diff in
    let whole = c.with_primal-whole in
    let lens = lengths args.tree.now args.list.now args.program.now in
    let pre = c.requires in
    let f = pre.3.0 in
    let ss = pre.3.1 in
    let D = pre.3.2 in
    let H = has_derivative args.given.now.formula.now f D.given.formed D.given.limit args.by.symbol args.by.state found.result found.ensures.0 whole.result diff c.in-Some.is whole.ensures in
    let e = sym (by_is args.by.symbol f args.by.state ss D.is_state) ∙ H.1 in
    let few : whole.result.nodes ≤ 16384 = omega (arith, c.if-whole-gt16384.false) in
    let n = nodes_exact whole.result H.0 H.2 few in
    let limit = within_limit whole.result H.0 H.2 few (omega (arith, c.if-whole-gt128.false)) in
    let job = job_of args.by.symbol args.by.state args.given.now.formula.now _ _ 32 (surveyed_room args.given.now.formula.now f D.given.formed D.given.limit _ (omega (arith, pre.0, length-replicate {A = Row})))
    found.auto.rows found.ensures.1 found.result found.ensures.0 diff c.in-Some.is in
    let room = rooms lens whole.result.nodes (sym c.too_short.ensures ∙ c.if-too_short.false) in
    let nodes = ap (λ (x : Attributes). x.nodes) whole.ensures in (
      pre.2,
      job false whole.result.nodes args.tree.now nodes few room.0,
      job true whole.result.nodes args.list.now nodes few room.1,
      (f, ss, H.0, record { given = D; derives = e; limit = limit; room = omega (arith, n, room.2) }),
    )

pub returns : goal.returns
returns g c =
    let args = c.args in
    let found = c.survey_formula-found in
    let diff = c.in-Some.diff in
    let whole = c.with_primal-whole in
    let lens = lengths args.tree.now args.list.now args.program.now in
    λ f ss D.
    let H = has_derivative args.given.now.formula.now f D.given.formed D.given.limit args.by.symbol args.by.state found.result found.ensures.0 whole.result diff c.in-Some.is whole.ensures in
    let e = sym (by_is args.by.symbol f args.by.state ss D.is_state) ∙ H.1 in
    let few : whole.result.nodes ≤ 16384 = omega (arith, c.if-whole-gt16384.false) in
    let n = nodes_exact whole.result H.0 H.2 few in
    let limit = within_limit whole.result H.0 H.2 few (omega (arith, c.if-whole-gt128.false)) in
    let room = rooms lens whole.result.nodes (sym c.too_short.ensures ∙ c.if-too_short.false) in
    let R = c.write_all.ensures f ss H.0 (record { given = D; derives = e; limit = limit; room = omega (arith, n, room.2) }) in
    leaves _ _ _ _ _ _ _ _ _ _ _ (long_enough lens ss _ _ H.0 e limit (ap (too_short lens) (sym n) ∙ sym c.too_short.ensures ∙ c.if-too_short.false)) R
