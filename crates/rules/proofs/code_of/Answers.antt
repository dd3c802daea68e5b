use Rattle.std.proofs.Common.{rules, ◌≡◌, ℕ, subst}
use Rattle.rules.specs.Notation.{coded, operators, operator_codes, code_of}
use Rattle.rules.specs.Codes.{Reads}
use Rattle.rules.proofs.code_of.Goals as goal

pub returns-in_default : goal.returns-in_default
unfolding code_of
returns-in_default c =
    let same : coded operators operator_codes 0 c.args.letter ≡ code_of c.args.letter = search rules in
    subst (λ (x : ℕ). Reads c.operator_code.result x) same c.operator_code.ensures
