use Rattle.std.proofs.Common.{Bool, true, false, ℕ, length, sym, ap, subst, ◌≡◌, ◌*◌, ◌/◌, ◌≤◌, ◌∙◌, arith}
use Rattle.differentiate.specs.Written.{step}
use Rattle.derivative.specs.Attributes.{Attributes}
use Rattle.survey.specs.Table.{tree}
use Rattle.differentiate.proofs.Whole.{diff_capped, job_of, own_capped, room_from}
use Rattle.derivative_cases.proofs.derive.Goals as goal

-- where so many parts of their size fit
room_for : (m : Bool) (size n out : ℕ) → size ≡ step m → n ≤ out / size → step m * n ≤ out
room_for true size n out e h = let k : n ≤ out / 8 = subst (λ (x : ℕ). n ≤ out / x) e h in omega arith
room_for false size n out e h = let k : n ≤ out / 16 = subst (λ (x : ℕ). n ≤ out / x) e h in omega arith

pub survey_formula-found-requires : goal.survey_formula-found-requires
survey_formula-found-requires g c =
    room_from c.args.f.now _ (sym c.is_formula.ensures ∙ c.if-not-is_formula.false) (sym c.is_small.ensures ∙ c.if-not-is_small.false) (omega arith)

pub with_primal-whole-requires : goal.with_primal-whole-requires
with_primal-whole-requires g c =
    let by = c.args.by in
    let found = c.survey_formula-found in (
      own_capped by.symbol by.state (tree c.args.f.now 0) found.result found.ensures.0,
      diff_capped by.symbol by.state (tree c.args.f.now 0) found.result found.ensures.0 c.in-Some.diff c.in-Some.is,
    )

pub write_derivative-requires : goal.write_derivative-requires
write_derivative-requires g c =
    let by = c.args.by in
    let found = c.survey_formula-found in
    let whole = c.with_primal-whole in
    job_of by.symbol by.state c.args.f.now _ _ 32
    (room_from c.args.f.now _ (sym c.is_formula.ensures ∙ c.if-not-is_formula.false) (sym c.is_small.ensures ∙ c.if-not-is_small.false) (omega arith))
    found.auto.rows found.ensures.1 found.result found.ensures.0 c.in-Some.diff c.in-Some.is g.F.Form.records whole.result.nodes c.args.out.now
    (ap (λ (x : Attributes). x.nodes) whole.ensures) (omega (arith, c.if-whole-gt16384.false))
    (room_for g.F.Form.records c.SIZE.result whole.result.nodes (length c.args.out.now) (c.SIZE.ensures ∙ g.met.F.Form.sized) c.if-out-SIZE.false)
