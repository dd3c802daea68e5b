use mathlib.Core.Path.{sym, ◌∙◌}
use native.Mathlib.Omega.{arith}
use Rattle.reader.specs.Read.{written}
use Rattle.reader.proofs.Heads.{and_taken, and_left, and_all, number_is, truth_is, symbol_is, unary_is, binary_is, compare_is, boolean_is, call_is, conditional_is, no_kind}
use Rattle.reader.proofs.is_head.Goals as goal

pub returns-in-0 : goal.returns-in-0
returns-in-0 c = c.is_literal.ensures ∙ sym (number_is (written c.args.f) c.in-0.is)

pub returns-then-is_literal : goal.returns-then-is_literal
returns-then-is_literal c =
    let args = c.args in
    let match = c.in-1 in
    let is_literal2 = c.is_literal-in-1 in
    and_taken _ _ _ _ is_literal2.ensures c.if-is_literal.true (truth_is (written args.f) match.is)

pub returns-else-is_literal : goal.returns-else-is_literal
returns-else-is_literal c = and_left _ _ _ _ c.is_literal-in-1.ensures c.if-is_literal.false (truth_is (written c.args.f) c.in-1.is)

pub returns-then-is_leaf : goal.returns-then-is_leaf
returns-then-is_leaf c =
    let args = c.args in
    let match = c.in-2 in
    let is_IsLeaf = c.is_leaf in
    and_taken _ _ _ _ is_IsLeaf.ensures c.if-is_leaf.true (symbol_is (written args.f) match.is)

pub returns-else-is_leaf : goal.returns-else-is_leaf
returns-else-is_leaf c = and_left _ _ _ _ c.is_leaf.ensures c.if-is_leaf.false (symbol_is (written c.args.f) c.in-2.is)

pub returns-then-is_inner : goal.returns-then-is_inner
returns-then-is_inner c =
    let args = c.args in
    let match = c.in-3 in
    let is_inner = c.is_inner in
    and_taken _ _ _ _ is_inner.ensures c.if-is_inner.true (unary_is (written args.f) match.is)

pub returns-else-is_inner : goal.returns-else-is_inner
returns-else-is_inner c = and_left _ _ _ _ c.is_inner.ensures c.if-is_inner.false (unary_is (written c.args.f) c.in-3.is)

pub returns-then-is_inner-2 : goal.returns-then-is_inner-2
returns-then-is_inner-2 c =
    let args = c.args in
    let match = c.in-4 in
    let is_inner2 = c.is_inner-in-4 in
    and_taken _ _ _ _ is_inner2.ensures c.if-is_inner-2.true (binary_is (written args.f) match.is)

pub returns-else-is_inner-2 : goal.returns-else-is_inner-2
returns-else-is_inner-2 c = and_left _ _ _ _ c.is_inner-in-4.ensures c.if-is_inner-2.false (binary_is (written c.args.f) c.in-4.is)

pub returns-then-is_inner-3 : goal.returns-then-is_inner-3
returns-then-is_inner-3 c =
    let args = c.args in
    let match = c.in-5 in
    let is_inner3 = c.is_inner-in-5 in
    and_taken _ _ _ _ is_inner3.ensures c.if-is_inner-3.true (compare_is (written args.f) match.is)

pub returns-else-is_inner-3 : goal.returns-else-is_inner-3
returns-else-is_inner-3 c = and_left _ _ _ _ c.is_inner-in-5.ensures c.if-is_inner-3.false (compare_is (written c.args.f) c.in-5.is)

pub returns-in-6 : goal.returns-in-6
returns-in-6 c = and_all _ _ _ c.is_inner-in-6.ensures (boolean_is (written c.args.f) c.in-6.is)

pub returns-in-7 : goal.returns-in-7
returns-in-7 c = and_all _ _ _ c.is_inner-in-7.ensures (call_is (written c.args.f) c.in-7.is)

pub returns-then-is_inner-4 : goal.returns-then-is_inner-4
returns-then-is_inner-4 c =
    let args = c.args in
    let match = c.in-8 in
    let is_inner6 = c.is_inner-in-8 in
    and_taken _ _ _ _ is_inner6.ensures c.if-is_inner-4.true (conditional_is (written args.f) match.is)

pub returns-else-is_inner-4 : goal.returns-else-is_inner-4
returns-else-is_inner-4 c = and_left _ _ _ _ c.is_inner-in-8.ensures c.if-is_inner-4.false (conditional_is (written c.args.f) c.in-8.is)

pub returns-in_default : goal.returns-in_default
returns-in_default c = sym (no_kind (written c.args.f) (omega arith))
