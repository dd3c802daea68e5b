use native.Mathlib.Omega.{arith}
use Prim.Native.Nat.{◌+◌, ◌*◌}
use mathlib.Core.Path.{◌∙◌, ap}
use Rattle.derivative.specs.Differentiate.{first_depends}
use Rattle.rules.specs.Notation.{power_number}
use Rattle.survey.specs.Derived.{children_of}
use Rattle.survey.specs.Table.{tree}
use Rattle.survey.proofs.Rows.{first_inside}
use Rattle.survey.proofs.Chosen.{number_power, number_hill, number_choosing, number_extremum, extremes, number_plain, by_state_yes, by_state_no, moves_yes, moves_no, none_yes, none_no}
use Rattle.survey.proofs.Part.rule_number.Goals as goal

pub overflow_mul-at : goal.overflow_mul-at
overflow_mul-at c = let node = c.args.self.now.node in omega (arith, first_inside node.formula.now node.number node.owned.formed)

pub overflow_add-at : goal.overflow_add-at
overflow_add-at c = let node = c.args.self.now.node in omega (arith, first_inside node.formula.now node.number node.owned.formed)

pub returns-in-68 : goal.returns-in-68
returns-in-68 c =
    let part = c.args.self.now in
    let node = part.node in
    c.power_rule.ensures ∙ ap power_number c.exponent.ensures
    ∙ number_power part.by.symbol part.by.state node.formula.now node.number (16 * c.from.result + c.from-2.result)
    (omega (arith, c.from.ensures, c.from-2.ensures, c.byte.ensures, c.byte-2.ensures)) c.in-68.is

pub returns-then-self : goal.returns-then-self
returns-then-self c =
    let part = c.args.self.now in
    let node = part.node in
    by_state_yes part.by.state c.if-self.true
    ∙ number_hill part.by.symbol part.by.state node.formula.now node.number (16 * c.from.result + c.from-2.result)
    (omega (arith, c.from.ensures, c.from-2.ensures, c.byte.ensures, c.byte-2.ensures)) (λ e. omega arith) c.in-125.is

pub returns-else-self : goal.returns-else-self
returns-else-self c =
    let part = c.args.self.now in
    let node = part.node in
    c.in-125.is ∙ by_state_no part.by.state c.if-self.false
    ∙ number_hill part.by.symbol part.by.state node.formula.now node.number (16 * c.from.result + c.from-2.result)
    (omega (arith, c.from.ensures, c.from-2.ensures, c.byte.ensures, c.byte-2.ensures)) (λ e. omega arith) c.in-125.is

pub returns-then-moving : goal.returns-then-moving
returns-then-moving c =
    let part = c.args.self.now in
    let node = part.node in
    moves_yes c.moving.result (first_depends part.by.symbol (children_of (tree node.formula.now node.number))) (16 * c.from.result + c.from-2.result) c.moving.ensures c.if-moving.true
    ∙ number_choosing part.by.symbol part.by.state node.formula.now node.number (16 * c.from.result + c.from-2.result)
    (omega (arith, c.from.ensures, c.from-2.ensures, c.byte.ensures, c.byte-2.ensures)) c.in-126.is

pub returns-else-moving : goal.returns-else-moving
returns-else-moving c =
    let part = c.args.self.now in
    let node = part.node in
    moves_no c.moving.result (first_depends part.by.symbol (children_of (tree node.formula.now node.number))) (16 * c.from.result + c.from-2.result) c.moving.ensures c.if-moving.false
    ∙ number_choosing part.by.symbol part.by.state node.formula.now node.number (16 * c.from.result + c.from-2.result)
    (omega (arith, c.from.ensures, c.from-2.ensures, c.byte.ensures, c.byte-2.ensures)) c.in-126.is

pub returns-then-children-eq0 : goal.returns-then-children-eq0
returns-then-children-eq0 c =
    let part = c.args.self.now in
    let node = part.node in
    none_yes node.formula.now node.number c.children.result (16 * c.from.result + c.from-2.result) node.owned.formed c.children.ensures.0 c.if-children-eq0.true
    ∙ number_extremum part.by.symbol part.by.state node.formula.now node.number (16 * c.from.result + c.from-2.result)
    (omega (arith, c.from.ensures, c.from-2.ensures, c.byte.ensures, c.byte-2.ensures)) (extremes part.by.symbol part.by.state node.formula.now node.number (16 * c.from.result + c.from-2.result)
    (omega (arith, c.from.ensures, c.from-2.ensures, c.byte.ensures, c.byte-2.ensures)) (omega arith) (omega arith))

pub returns-else-children-eq0 : goal.returns-else-children-eq0
returns-else-children-eq0 c =
    let part = c.args.self.now in
    let node = part.node in
    none_no node.formula.now node.number c.children.result (16 * c.from.result + c.from-2.result) node.owned.formed c.children.ensures.0 c.if-children-eq0.false
    ∙ number_extremum part.by.symbol part.by.state node.formula.now node.number (16 * c.from.result + c.from-2.result)
    (omega (arith, c.from.ensures, c.from-2.ensures, c.byte.ensures, c.byte-2.ensures)) (extremes part.by.symbol part.by.state node.formula.now node.number (16 * c.from.result + c.from-2.result)
    (omega (arith, c.from.ensures, c.from-2.ensures, c.byte.ensures, c.byte-2.ensures)) (omega arith) (omega arith))

pub returns-in_default : goal.returns-in_default
returns-in_default c =
    let part = c.args.self.now in
    let node = part.node in
    number_plain part.by.symbol part.by.state node.formula.now node.number (16 * c.from.result + c.from-2.result)
    (omega (arith, c.from.ensures, c.from-2.ensures, c.byte.ensures, c.byte-2.ensures)) (λ e. omega arith) (λ e. omega arith) (λ e. omega arith) (λ e. omega arith) (λ e. omega arith) (λ e. omega arith)

pub returns-in_default-2 : goal.returns-in_default-2
returns-in_default-2 c =
    let part = c.args.self.now in
    let node = part.node in
    number_plain part.by.symbol part.by.state node.formula.now node.number (16 * c.from.result + c.from-2.result)
    (omega (arith, c.from.ensures, c.from-2.ensures, c.byte.ensures, c.byte-2.ensures)) (λ e. grind arith) (λ e. grind arith) (λ e. grind arith) (λ e. grind arith) (λ e. grind arith) (λ e. grind arith)
