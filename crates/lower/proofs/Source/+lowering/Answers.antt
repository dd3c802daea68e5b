use mathlib.Core.Bool.{Bool, cond, true, ◌&&◌}
use mathlib.Core.Path.{◌≡◌, ap, refl, subst, sym, ◌∙◌}
use native.Mathlib.Omega.{arith}
use Prim.Native.Nat.{ℕ, ◌+◌, ◌-◌, ◌*◌, ◌≤◌, ◌<◌}
use Rattle.formula.specs.Formula.{all_well_formed, size}
use Rattle.formula.specs.Node.{node_size, tree_in}
use Rattle.formula.specs.Term.{apply, term, terms}
use Rattle.machine.proofs.Laws.{instruction_count_pos}
use lib.Dec.{eqb}
use lib.ListN.{length}
use Rattle.formula.specs.Text.{little_endian}
use Rattle.writer.specs.Over.{over}
use Rattle.lower.specs.Low.{Done}
use Rattle.lower.specs.Piece.{Lists, arm, context_of, further, kids, leaf, operands_piece, past, place}
use Rattle.lower.proofs.Answers.{arm_at, arm_from, arm_ready, arms_of, as_node, at_argument, lists_as, miscounted_here, operands_as, operands_asked, operands_ready, ready_moved, ready_term, ready_to, rest_as, rest_ready, three_past, three_well, two_well, well_to}
use Rattle.lower.proofs.Choices as choices
use Rattle.lower.proofs.Collects as collects
use Rattle.lower.proofs.Compose.{enter_room, fewer_registers, path_one}
use Rattle.lower.proofs.Ends.{not_false, not_true}
use Rattle.lower.proofs.Kids.{first_well, kids_none, none_well, one_well, past_none, stands}
use Rattle.lower.proofs.Lowers.{Split, link_split, none_done, one_done, own_done, ready_one, ready_own, rest_well_at, rest_well_past, split_arms, split_done, split_first, split_node, split_refused}
use Rattle.lower.proofs.Results.{as_done, as_faulty, done_as, fault_as, handed_up, lists_as_is, same_as, says_as}
use Rattle.lower.proofs.Says.{refused, taken}
use Rattle.lower.proofs.Wholes as wholes
use Rattle.lower.proofs.Source.+lowering.Goals.{operand-then-o, operand-else-o, operand-then-rest-eq0, operand-else-rest-eq0+in_ok-w}
use Rattle.lower.proofs.Source.+lowering.Goals as goal

pub branch-returns-then-not-choice : goal.branch-returns-then-not-choice
branch-returns-then-not-choice t c =
    let args = c.args in
    let pre = c.requires in
    let source = args.self.now in
    let d = args.levels in
    let arms = arms_of source d args.choice pre.ready in
    says_as _ _ _ _ _ (fault_as c.fault.ensures) (choices.not_boolean arms (not_true _ _ refl c.if-not-choice.true))

pub branch-returns-then-unsupported : goal.branch-returns-then-unsupported
branch-returns-then-unsupported t c =
    let args = c.args in
    let pre = c.requires in
    let source = args.self.now in
    let d = args.levels in
    let arms = arms_of source d args.choice pre.ready in
    says_as _ _ _ _ _ (fault_as c.fault-then-unsupported.ensures)
    (choices.unsupported_here arms (not_false _ _ refl c.if-not-choice.false) c.unsupported.result c.unsupported.ensures c.if-unsupported.true)

pub branch-returns-in_err-y : goal.branch-returns-in_err-y
branch-returns-in_err-y t c =
    let args = c.args in
    let pre = c.requires in
    let source = args.self.now in
    let b = source.bytes.now in
    let d = args.levels in
    let here = args.c.now in
    let yes = args.choice.yes in
    let arms = arms_of source d args.choice pre.ready in
    let begun = choices.begun arms (not_false _ _ refl c.if-not-choice.false) c.unsupported.result c.unsupported.ensures c.if-unsupported.false in
    let said = arm_from _ _ b d yes.conjunction yes.left _ _ _ _ _ _ (further here 1) c.advance.ensures c.lower.ensures in
    let was = as_faulty c.lower.new.c c.in_err-y.was in
    says_as _ _ _ _ _ (handed_up _ c.lower.new.c c.in_err-y.was c.from_residual.ensures.1)
    (choices.first_refused arms begun c.lower.new.p _ _ _ (refused _ _ _ _ _ _ _ _ said was) was)

pub branch-overflow_add-target : goal.branch-overflow_add-target
branch-overflow_add-target t c =
    let args = c.args in
    let pre = c.requires in
    let source = args.self.now in
    let b = source.bytes.now in
    let d = args.levels in
    let here = args.c.now in
    let yes = args.choice.yes in
    let arms = arms_of source d args.choice pre.ready in
    let begun = choices.begun arms (not_false _ _ refl c.if-not-choice.false) c.unsupported.result c.unsupported.ensures c.if-unsupported.false in
    let said = arm_from _ _ b d yes.conjunction yes.left _ _ _ _ _ _ (further here 1) c.advance.ensures c.lower.ensures in
    let e = c.lower.new.c in
    let first = choices.first arms begun c.lower.new.p c.in_ok-y.y e (taken _ _ _ _ _ _ c.in_ok-y.y e said (as_done e c.in_ok-y.was)) in
    omega (arith, choices.is_code arms begun first, c.well_formed.1.0.0, pre.ready.code, pre.ready.records, pre.ready.lists)

pub branch-put-requires-2 : goal.branch-put-requires-2
branch-put-requires-2 t c =
    let args = c.args in
    let pre = c.requires in
    let source = args.self.now in
    let b = source.bytes.now in
    let d = args.levels in
    let here = args.c.now in
    let yes = args.choice.yes in
    let arms = arms_of source d args.choice pre.ready in
    let begun = choices.begun arms (not_false _ _ refl c.if-not-choice.false) c.unsupported.result c.unsupported.ensures c.if-unsupported.false in
    let said = arm_from _ _ b d yes.conjunction yes.left _ _ _ _ _ _ (further here 1) c.advance.ensures c.lower.ensures in
    let e = c.lower.new.c in
    let first = choices.first arms begun c.lower.new.p c.in_ok-y.y e (taken _ _ _ _ _ _ c.in_ok-y.y e said (as_done e c.in_ok-y.was)) in
    let ready = pre.ready in (
      omega (arith, c.put.auto.p, choices.n₁' arms begun first, choices.is_code arms begun first, ready.code, ready.records, ready.lists),
      omega arith,
    )

pub branch-advance-requires-2 : goal.branch-advance-requires-2
branch-advance-requires-2 t c =
    let args = c.args in
    let pre = c.requires in
    let source = args.self.now in
    let b = source.bytes.now in
    let d = args.levels in
    let here = args.c.now in
    let yes = args.choice.yes in
    let arms = arms_of source d args.choice pre.ready in
    let begun = choices.begun arms (not_false _ _ refl c.if-not-choice.false) c.unsupported.result c.unsupported.ensures c.if-unsupported.false in
    let said = arm_from _ _ b d yes.conjunction yes.left _ _ _ _ _ _ (further here 1) c.advance.ensures c.lower.ensures in
    let e = c.lower.new.c in
    let first = choices.first arms begun c.lower.new.p c.in_ok-y.y e (taken _ _ _ _ _ _ c.in_ok-y.y e said (as_done e c.in_ok-y.was)) in
    let ready = pre.ready in
    let code = choices.is_code arms begun first in
    let reg = choices.is_reg arms begun first in
    let fewer = fewer_registers (arm b d yes.conjunction yes.left here.node) in (
      omega (arith, code, reg, fewer, ready.registers, c.well_formed.1.0.0, ready.code, ready.records, ready.lists),
      omega (arith, code, reg, fewer, ready.registers, c.well_formed.1.0.0, ready.code, ready.records, ready.lists),
    )

pub branch-lower-requires-2 : goal.branch-lower-requires-2
branch-lower-requires-2 t c =
    let args = c.args in
    let pre = c.requires in
    let source = args.self.now in
    let b = source.bytes.now in
    let d = args.levels in
    let here = args.c.now in
    let yes = args.choice.yes in
    let no = args.choice.no in
    let arms = arms_of source d args.choice pre.ready in
    let begun = choices.begun arms (not_false _ _ refl c.if-not-choice.false) c.unsupported.result c.unsupported.ensures c.if-unsupported.false in
    let said = arm_from _ _ b d yes.conjunction yes.left _ _ _ _ _ _ (further here 1) c.advance.ensures c.lower.ensures in
    let e = c.lower.new.c in
    let first = choices.first arms begun c.lower.new.p c.in_ok-y.y e (taken _ _ _ _ _ _ c.in_ok-y.y e said (as_done e c.in_ok-y.was)) in
    let copied = choices.copied arms begun first c.put.new.p c.put-2.new.p c.put.ensures c.put-2.ensures in
    let there = sym (choices.is_node arms begun first) in (
      omega arith,
      (
        ready_to b d no.conjunction no.left _ (further e 2) c.advance-2.ensures
            (arm_ready b d no.conjunction no.left _ _ there (choices.ready_arm arms begun first copied)),
        (
          well_to b d no.left _ (further e 2) c.advance-2.ensures (subst (λ (x : ℕ). all_well_formed (kids b d no.left x) ≡ true) there pre.formed.1),
          omega arith,
          pre.formed.3,
        ),
      ),
    )

pub branch-returns-in_err-z : goal.branch-returns-in_err-z
branch-returns-in_err-z t c =
    let args = c.args in
    let pre = c.requires in
    let source = args.self.now in
    let b = source.bytes.now in
    let d = args.levels in
    let here = args.c.now in
    let yes = args.choice.yes in
    let no = args.choice.no in
    let arms = arms_of source d args.choice pre.ready in
    let begun = choices.begun arms (not_false _ _ refl c.if-not-choice.false) c.unsupported.result c.unsupported.ensures c.if-unsupported.false in
    let said = arm_from _ _ b d yes.conjunction yes.left _ _ _ _ _ _ (further here 1) c.advance.ensures c.lower.ensures in
    let e = c.lower.new.c in
    let first = choices.first arms begun c.lower.new.p c.in_ok-y.y e (taken _ _ _ _ _ _ c.in_ok-y.y e said (as_done e c.in_ok-y.was)) in
    let copied = choices.copied arms begun first c.put.new.p c.put-2.new.p c.put.ensures c.put-2.ensures in
    let said2 = arm_at _ _ b d no.conjunction no.left _ _ _ _ _ _ e.node (past b d yes.left here.node) (choices.is_node arms begun first)
    (arm_from _ _ b d no.conjunction no.left _ _ _ _ _ _ (further e 2) c.advance-2.ensures c.lower-2.ensures) in
    let was = as_faulty c.lower-2.new.c c.in_err-z.was in
    says_as _ _ _ _ _ (handed_up _ c.lower-2.new.c c.in_err-z.was c.from_residual-in_err-z.ensures.1)
    (choices.second_refused arms begun first copied c.lower-2.new.p _ _ _ (refused _ _ _ _ _ _ _ _ said2 was) was)

pub branch-join-requires : goal.branch-join-requires
branch-join-requires t c =
    let args = c.args in
    let pre = c.requires in
    let source = args.self.now in
    let b = source.bytes.now in
    let d = args.levels in
    let here = args.c.now in
    let yes = args.choice.yes in
    let no = args.choice.no in
    let arms = arms_of source d args.choice pre.ready in
    let begun = choices.begun arms (not_false _ _ refl c.if-not-choice.false) c.unsupported.result c.unsupported.ensures c.if-unsupported.false in
    let said = arm_from _ _ b d yes.conjunction yes.left _ _ _ _ _ _ (further here 1) c.advance.ensures c.lower.ensures in
    let e = c.lower.new.c in
    let first = choices.first arms begun c.lower.new.p c.in_ok-y.y e (taken _ _ _ _ _ _ c.in_ok-y.y e said (as_done e c.in_ok-y.was)) in
    let copied = choices.copied arms begun first c.put.new.p c.put-2.new.p c.put.ensures c.put-2.ensures in
    let said2 = arm_at _ _ b d no.conjunction no.left _ _ _ _ _ _ e.node (past b d yes.left here.node) (choices.is_node arms begun first)
    (arm_from _ _ b d no.conjunction no.left _ _ _ _ _ _ (further e 2) c.advance-2.ensures c.lower-2.ensures) in
    let h = c.lower-2.new.c in
    let second = choices.second arms begun first copied c.lower-2.new.p c.in_ok-z.z h (taken _ _ _ _ _ _ c.in_ok-z.z h said2 (as_done h c.in_ok-z.was)) in
    let ready = pre.ready in
    let long = choices.n₄' arms begun first copied second in
    let code = choices.is_code arms begun first in
    let fewer = fewer_registers (arm b d yes.conjunction yes.left here.node) in (
      omega (arith, long, code, ready.code, ready.records, ready.lists),
      omega (arith, long, choices.z_code arms begun first copied second, code, ready.code, ready.records, ready.lists),
      omega (arith, code, choices.is_reg arms begun first, fewer, ready.registers, c.well_formed.1.0.0, ready.code, ready.records, ready.lists),
    )

pub branch-returns : goal.branch-returns
branch-returns t c =
    let args = c.args in
    let pre = c.requires in
    let source = args.self.now in
    let b = source.bytes.now in
    let d = args.levels in
    let here = args.c.now in
    let yes = args.choice.yes in
    let no = args.choice.no in
    let arms = arms_of source d args.choice pre.ready in
    let begun = choices.begun arms (not_false _ _ refl c.if-not-choice.false) c.unsupported.result c.unsupported.ensures c.if-unsupported.false in
    let said = arm_from _ _ b d yes.conjunction yes.left _ _ _ _ _ _ (further here 1) c.advance.ensures c.lower.ensures in
    let e = c.lower.new.c in
    let first = choices.first arms begun c.lower.new.p c.in_ok-y.y e (taken _ _ _ _ _ _ c.in_ok-y.y e said (as_done e c.in_ok-y.was)) in
    let copied = choices.copied arms begun first c.put.new.p c.put-2.new.p c.put.ensures c.put-2.ensures in
    let said2 = arm_at _ _ b d no.conjunction no.left _ _ _ _ _ _ e.node (past b d yes.left here.node) (choices.is_node arms begun first)
    (arm_from _ _ b d no.conjunction no.left _ _ _ _ _ _ (further e 2) c.advance-2.ensures c.lower-2.ensures) in
    let h = c.lower-2.new.c in
    let second = choices.second arms begun first copied c.lower-2.new.p c.in_ok-z.z h (taken _ _ _ _ _ _ c.in_ok-z.z h said2 (as_done h c.in_ok-z.was)) in
    choices.both_joined arms begun first copied second c.join.new.p _ c.join.ensures.0 c.join.ensures.1

pub link-lower-requires : goal.link-lower-requires
link-lower-requires t c =
    let args = c.args in
    let pre = c.requires in
    let source = args.self.now in
    let b = source.bytes.now in
    let d = args.levels in
    let here = args.c.now in
    let context = context_of source.kinds.now source.layout.generated in
    let left = args.chain.left in
    let node = here.node in
    let split = link_split b d left node args.chain.conjunction pre.formed.1 in
    let some_left : left ≡ 0 → ⊥ = λ z. omega (arith, pre.formed.1) in (
      omega (arith, pre.formed.1),
      (
        split_first split pre.ready context,
        (one_well b d 1 node refl (first_well b d left node some_left pre.formed.0), omega arith, omega arith),
      ),
    )

pub link-returns-in_err-condition : goal.link-returns-in_err-condition
link-returns-in_err-condition t c =
    let args = c.args in
    let pre = c.requires in
    let source = args.self.now in
    let b = source.bytes.now in
    let d = args.levels in
    let here = args.c.now in
    let context = context_of source.kinds.now source.layout.generated in
    let left = args.chain.left in
    let node = here.node in
    let split = link_split b d left node args.chain.conjunction pre.formed.1 in
    let was = as_faulty c.lower.new.c c.in_err-condition.was in
    says_as _ _ _ _ _ (handed_up _ c.lower.new.c c.in_err-condition.was c.from_residual.ensures.1)
    (split_refused split pre.ready context c.lower.new.p _ _ _ (refused _ _ _ _ _ _ _ _ c.lower.ensures was) was)

pub link-branch-self-requires : goal.link-branch-self-requires
link-branch-self-requires t c =
    let args = c.args in
    let pre = c.requires in
    let source = args.self.now in
    let b = source.bytes.now in
    let d = args.levels in
    let here = args.c.now in
    let context = context_of source.kinds.now source.layout.generated in
    let left = args.chain.left in
    let node = here.node in
    let split = link_split b d left node args.chain.conjunction pre.formed.1 in
    let some_left : left ≡ 0 → ⊥ = λ z. omega (arith, pre.formed.1) in
    let e = c.lower.new.c in
    let v = c.in_ok-condition.condition in
    let first = taken _ _ _ _ _ _ v e c.lower.ensures (as_done e c.in_ok-condition.was) in
    let rest = left - 1 in
    let is = sym c.if-chain.true in
    let there = split_node split pre.ready context c.lower.new.p v e first in (
      omega (arith, pre.formed.1),
      (
        split_arms split pre.ready context c.lower.new.p v e first rest 0 (ap (λ (x : Bool). cond x rest 0) is) (ap (λ (x : Bool). cond x 0 rest) is),
        (
          rest_well_at b d left node e.node some_left pre.formed.0 there,
          none_well b d 0 (past b d rest e.node) refl,
          omega (arith, pre.formed.2),
          omega arith,
        ),
      ),
    )

pub link-returns-then-chain : goal.link-returns-then-chain
link-returns-then-chain t c =
    let args = c.args in
    let pre = c.requires in
    let source = args.self.now in
    let b = source.bytes.now in
    let d = args.levels in
    let here = args.c.now in
    let context = context_of source.kinds.now source.layout.generated in
    let left = args.chain.left in
    let node = here.node in
    let split = link_split b d left node args.chain.conjunction pre.formed.1 in
    let e = c.lower.new.c in
    let v = c.in_ok-condition.condition in
    let first = taken _ _ _ _ _ _ v e c.lower.ensures (as_done e c.in_ok-condition.was) in
    let rest = left - 1 in
    let is = sym c.if-chain.true in
    split_done split pre.ready context c.lower.new.p v e first rest 0 (ap (λ (x : Bool). cond x rest 0) is) (ap (λ (x : Bool). cond x 0 rest) is) c.branch-self.new.p _ c.branch-self.ensures

pub link-branch-self-requires-2 : goal.link-branch-self-requires-2
link-branch-self-requires-2 t c =
    let args = c.args in
    let pre = c.requires in
    let source = args.self.now in
    let b = source.bytes.now in
    let d = args.levels in
    let here = args.c.now in
    let context = context_of source.kinds.now source.layout.generated in
    let left = args.chain.left in
    let node = here.node in
    let split = link_split b d left node args.chain.conjunction pre.formed.1 in
    let some_left : left ≡ 0 → ⊥ = λ z. omega (arith, pre.formed.1) in
    let e = c.lower.new.c in
    let v = c.in_ok-condition.condition in
    let first = taken _ _ _ _ _ _ v e c.lower.ensures (as_done e c.in_ok-condition.was) in
    let rest = left - 1 in
    let is = sym c.if-chain.false in
    let there = split_node split pre.ready context c.lower.new.p v e first in (
      omega (arith, pre.formed.1),
      (
        split_arms split pre.ready context c.lower.new.p v e first 0 rest (ap (λ (x : Bool). cond x rest 0) is) (ap (λ (x : Bool). cond x 0 rest) is),
        (
          none_well b d 0 e.node refl,
          rest_well_past b d left node e.node some_left pre.formed.0 there,
          omega arith,
          omega (arith, pre.formed.2),
        ),
      ),
    )

pub link-returns : goal.link-returns
link-returns t c =
    let args = c.args in
    let pre = c.requires in
    let source = args.self.now in
    let b = source.bytes.now in
    let d = args.levels in
    let here = args.c.now in
    let context = context_of source.kinds.now source.layout.generated in
    let left = args.chain.left in
    let node = here.node in
    let split = link_split b d left node args.chain.conjunction pre.formed.1 in
    let e = c.lower.new.c in
    let v = c.in_ok-condition.condition in
    let first = taken _ _ _ _ _ _ v e c.lower.ensures (as_done e c.in_ok-condition.was) in
    let rest = left - 1 in
    let is = sym c.if-chain.false in
    split_done split pre.ready context c.lower.new.p v e first 0 rest (ap (λ (x : Bool). cond x rest 0) is) (ap (λ (x : Bool). cond x 0 rest) is) c.branch-self-2.new.p _ c.branch-self-2.ensures

pub lower-enter-site-requires : goal.lower-enter-site-requires
lower-enter-site-requires t c =
    let args = c.args in
    let pre = c.requires in
    let source = args.self.now in
    let b = source.bytes.now in
    let d = args.levels in
    let here = args.c.now in
    let j = args.chain.conjunction in
    let left = args.chain.left in
    enter_room pre.ready (path_one (arm b d j left here.node)) args.step.number pre.formed.1

pub lower-constant-requires : goal.lower-constant-requires
lower-constant-requires t c =
    let args = c.args in
    let pre = c.requires in
    let source = args.self.now in
    let b = source.bytes.now in
    let d = args.levels in
    let here = args.c.now in
    let j = args.chain.conjunction in
    let left = args.chain.left in
    let enter = c.enter-site in
    let ready = pre.ready in
    (omega (arith, ready.code, ready.records, ready.lists, enter.auto.p, instruction_count_pos (arm b d j left here.node)), ready.registers)

pub lower-returns-then-chain-eq0 : goal.lower-returns-then-chain-eq0
lower-returns-then-chain-eq0 t c =
    let args = c.args in
    let pre = c.requires in
    let source = args.self.now in
    let b = source.bytes.now in
    let d = args.levels in
    let context = context_of source.kinds.now source.layout.generated in
    let j = args.chain.conjunction in
    let left = args.chain.left in
    let enter = c.enter-site in
    none_done b d j left pre.ready args.step.number pre.formed.1 enter.result enter.new.p enter.ensures.0 enter.ensures.1 context c.if-chain-eq0.true c.constant.new.p _
    (done_as c.constant.ensures.0 c.constant.ensures.1) c.truth.result c.truth.ensures c.constant.ensures.2

pub lower-node-requires : goal.lower-node-requires
lower-node-requires t c =
    let args = c.args in
    let pre = c.requires in
    let source = args.self.now in
    let b = source.bytes.now in
    let d = args.levels in
    let here = args.c.now in
    let j = args.chain.conjunction in
    let left = args.chain.left in
    let enter = c.enter-site in (
      omega arith,
      (ready_one b d j left pre.ready args.step.number pre.formed.1 enter.result enter.new.p enter.ensures.0 enter.ensures.1 c.if-chain-eq1.true, first_well b d left here.node (λ z. omega (arith, c.if-chain-eq1.true)) pre.formed.0),
    )

pub lower-returns-then-chain-eq1 : goal.lower-returns-then-chain-eq1
lower-returns-then-chain-eq1 t c =
    let args = c.args in
    let pre = c.requires in
    let source = args.self.now in
    let b = source.bytes.now in
    let d = args.levels in
    let context = context_of source.kinds.now source.layout.generated in
    let j = args.chain.conjunction in
    let left = args.chain.left in
    let enter = c.enter-site in
    one_done b d j left pre.ready args.step.number pre.formed.1 enter.result enter.new.p enter.ensures.0 enter.ensures.1 context c.if-chain-eq1.true c.node.new.p _ c.node.ensures

pub lower-link-requires : goal.lower-link-requires
lower-link-requires t c =
    let args = c.args in
    let pre = c.requires in
    let source = args.self.now in
    let b = source.bytes.now in
    let d = args.levels in
    let j = args.chain.conjunction in
    let left = args.chain.left in
    let enter = c.enter-site in (
      omega arith,
      (
        ready_own b d j left pre.ready args.step.number pre.formed.1 enter.result enter.new.p enter.ensures.0 enter.ensures.1,
        (pre.formed.0, omega (arith, c.if-chain-eq0.false, c.if-chain-eq1.false), pre.formed.2),
      ),
    )

pub lower-returns : goal.lower-returns
lower-returns t c =
    let args = c.args in
    let pre = c.requires in
    let source = args.self.now in
    let b = source.bytes.now in
    let d = args.levels in
    let context = context_of source.kinds.now source.layout.generated in
    let j = args.chain.conjunction in
    let left = args.chain.left in
    let enter = c.enter-site in
    own_done b d j left pre.ready args.step.number pre.formed.1 enter.result enter.new.p enter.ensures.0 enter.ensures.1 context c.link.new.p _ c.link.ensures

pub node-node-f-requires : goal.node-node-f-requires
node-node-f-requires t c =
    (stands c.args.self.now.bytes.now c.args.levels c.args.c.now.node c.requires.formed).inside

pub node-overflow_add-c : goal.node-overflow_add-c
node-overflow_add-c t c =
    let args = c.args in
    let pre = c.requires in
    let source = args.self.now in
    let b = source.bytes.now in
    let d = args.levels in
    let here = args.c.now in
    let f = c.node-f.result in
    let read = c.node-f.ensures.0 in
    let at = here.node in
    omega (arith, wholes.node_inside b d at f read pre.formed)

pub node-returns-then-f-le-SYMBOL : goal.node-returns-then-f-le-SYMBOL
node-returns-then-f-le-SYMBOL t c =
    let args = c.args in
    let pre = c.requires in
    let source = args.self.now in
    let b = source.bytes.now in
    let d = args.levels in
    let here = args.c.now in
    let f = c.node-f.result in
    let read = c.node-f.ensures.0 in
    let at = here.node in
    let next = at + node_size in
    let whole = term (tree_in d b at) in
    let small : f.kind < 3 = omega (arith, c.if-f-le-SYMBOL.true) in
    as_node _ _ whole (leaf f) _ _ next _ next here _ _ _ (wholes.leaf_term_is b d at f read pre.formed small) (wholes.leaf_size b d at f read pre.formed small)
    c.leaf.ensures

pub node-overflow_sub-below : goal.node-overflow_sub-below
node-overflow_sub-below t c =
    let args = c.args in
    let pre = c.requires in
    let source = args.self.now in
    let b = source.bytes.now in
    let d = args.levels in
    let here = args.c.now in
    let f = c.node-f.result in
    let read = c.node-f.ensures.0 in
    let at = here.node in
    let deep = wholes.node_deep b d at f read pre.formed in
    omega (arith, deep)

pub node-returns-then-f-lt2 : goal.node-returns-then-f-lt2
node-returns-then-f-lt2 t c =
    let args = c.args in
    let pre = c.requires in
    let source = args.self.now in
    let b = source.bytes.now in
    let d = args.levels in
    let here = args.c.now in
    let f = c.node-f.result in
    let read = c.node-f.ensures.0 in
    let at = here.node in
    let whole = term (tree_in d b at) in
    says_as _ _ _ _ _ (fault_as c.fault.ensures)
    (miscounted_here pre.ready _ whole _ (wholes.few_is b d at f read pre.formed c.if-f-eq-BOOLEAN.true c.if-f-lt2.true))

pub node-link-requires : goal.node-link-requires
node-link-requires t c =
    let args = c.args in
    let pre = c.requires in
    let source = args.self.now in
    let b = source.bytes.now in
    let d = args.levels in
    let here = args.c.now in
    let f = c.node-f.result in
    let read = c.node-f.ensures.0 in
    let at = here.node in
    let next = at + node_size in
    let whole = term (tree_in d b at) in
    let well = wholes.kids_well b d at f read pre.formed in
    let deep = wholes.node_deep b d at f read pre.formed in
    let linked = wholes.link_is b d at f read pre.formed c.if-f-eq-BOOLEAN.true (omega (arith, c.if-f-lt2.false)) in
    let chain = arm b (d - 1) (eqb f.operator 0) f.children next in (
      omega (arith, c.node-f.ensures.1, deep),
      (ready_term whole chain linked pre.ready next, (well, omega (arith, c.if-f-lt2.false), c.node-f.ensures.1)),
    )

pub node-returns-then-f-eq-BOOLEAN : goal.node-returns-then-f-eq-BOOLEAN
node-returns-then-f-eq-BOOLEAN t c =
    let args = c.args in
    let pre = c.requires in
    let source = args.self.now in
    let b = source.bytes.now in
    let d = args.levels in
    let here = args.c.now in
    let f = c.node-f.result in
    let read = c.node-f.ensures.0 in
    let at = here.node in
    let next = at + node_size in
    let whole = term (tree_in d b at) in
    let end_is = wholes.past_is b d at f read pre.formed in
    let linked = wholes.link_is b d at f read pre.formed c.if-f-eq-BOOLEAN.true (omega (arith, c.if-f-lt2.false)) in
    let chain = arm b (d - 1) (eqb f.operator 0) f.children next in
    as_node _ _ whole chain _ _ _ _ next here _ _ _ linked end_is c.link.ensures

pub node-returns-then-f-ne3 : goal.node-returns-then-f-ne3
node-returns-then-f-ne3 t c =
    let args = c.args in
    let pre = c.requires in
    let source = args.self.now in
    let b = source.bytes.now in
    let d = args.levels in
    let here = args.c.now in
    let f = c.node-f.result in
    let read = c.node-f.ensures.0 in
    let at = here.node in
    let whole = term (tree_in d b at) in
    let chosen = sym c.chooses.ensures ∙ c.if-chooses.true in
    says_as _ _ _ _ _ (fault_as c.fault-then-f-ne3.ensures)
    (miscounted_here pre.ready _ whole _ (wholes.wrong_is b d at f read pre.formed chosen c.if-f-ne3.true))

pub node-lower-requires : goal.node-lower-requires
node-lower-requires t c =
    let args = c.args in
    let pre = c.requires in
    let source = args.self.now in
    let b = source.bytes.now in
    let d = args.levels in
    let here = args.c.now in
    let context = context_of source.kinds.now source.layout.generated in
    let f = c.node-f.result in
    let read = c.node-f.ensures.0 in
    let at = here.node in
    let next = at + node_size in
    let whole = term (tree_in d b at) in
    let after = at + node_size * size (tree_in d b at) in
    let well = wholes.kids_well b d at f read pre.formed in
    let deep = wholes.node_deep b d at f read pre.formed in
    let end_is = wholes.past_is b d at f read pre.formed in
    let below = d - 1 in
    let chosen = sym c.chooses.ensures ∙ c.if-chooses.true in
    let three = c.if-f-ne3.false in
    let split : Split b below true 1 1 whole after next =
    record {
      splits = wholes.branch_is b d at f read pre.formed chosen three;
      end_is = three_past b below next ∙ (ap (λ (x : ℕ). past b below x next) (sym three) ∙ end_is);
    } in
    let moved = ready_moved pre.ready next in (
      omega (arith, deep),
      (
        split_first split moved context,
        (one_well b below 1 next refl (first_well b below f.children next (λ z. omega (arith, three)) well), omega arith, omega arith),
      ),
    )

pub node-returns-in_err-condition : goal.node-returns-in_err-condition
node-returns-in_err-condition t c =
    let args = c.args in
    let pre = c.requires in
    let source = args.self.now in
    let b = source.bytes.now in
    let d = args.levels in
    let here = args.c.now in
    let context = context_of source.kinds.now source.layout.generated in
    let f = c.node-f.result in
    let read = c.node-f.ensures.0 in
    let at = here.node in
    let next = at + node_size in
    let whole = term (tree_in d b at) in
    let after = at + node_size * size (tree_in d b at) in
    let end_is = wholes.past_is b d at f read pre.formed in
    let below = d - 1 in
    let chosen = sym c.chooses.ensures ∙ c.if-chooses.true in
    let three = c.if-f-ne3.false in
    let split : Split b below true 1 1 whole after next =
    record {
      splits = wholes.branch_is b d at f read pre.formed chosen three;
      end_is = three_past b below next ∙ (ap (λ (x : ℕ). past b below x next) (sym three) ∙ end_is);
    } in
    let moved = ready_moved pre.ready next in
    let was = as_faulty c.lower.new.c c.in_err-condition.was in
    says_as _ _ _ _ _ (handed_up _ c.lower.new.c c.in_err-condition.was c.from_residual.ensures.1) (as_node _ _ whole whole _ _ _ _ next here _ _ _ refl refl
    (split_refused split moved context c.lower.new.p _ _ _ (refused _ _ _ _ _ _ _ _ c.lower.ensures was) was))

pub node-branch-self-requires : goal.node-branch-self-requires
node-branch-self-requires t c =
    let args = c.args in
    let pre = c.requires in
    let source = args.self.now in
    let b = source.bytes.now in
    let d = args.levels in
    let here = args.c.now in
    let context = context_of source.kinds.now source.layout.generated in
    let f = c.node-f.result in
    let read = c.node-f.ensures.0 in
    let at = here.node in
    let next = at + node_size in
    let whole = term (tree_in d b at) in
    let after = at + node_size * size (tree_in d b at) in
    let well = wholes.kids_well b d at f read pre.formed in
    let deep = wholes.node_deep b d at f read pre.formed in
    let end_is = wholes.past_is b d at f read pre.formed in
    let below = d - 1 in
    let chosen = sym c.chooses.ensures ∙ c.if-chooses.true in
    let three = c.if-f-ne3.false in
    let split : Split b below true 1 1 whole after next =
    record {
      splits = wholes.branch_is b d at f read pre.formed chosen three;
      end_is = three_past b below next ∙ (ap (λ (x : ℕ). past b below x next) (sym three) ∙ end_is);
    } in
    let moved = ready_moved pre.ready next in
    let e = c.lower.new.c in
    let v = c.in_ok-condition.condition in
    let first = taken _ _ _ _ _ _ v e c.lower.ensures (as_done e c.in_ok-condition.was) in
    let there = split_node split moved context c.lower.new.p v e first in (
      omega (arith, deep),
      (
        split_arms split moved context c.lower.new.p v e first 1 1 refl refl,
        (two_well b below next e.node f.children three well there, three_well b below next e.node f.children three well there, omega arith, omega arith),
      ),
    )

pub node-returns-then-chooses : goal.node-returns-then-chooses
node-returns-then-chooses t c =
    let args = c.args in
    let pre = c.requires in
    let source = args.self.now in
    let b = source.bytes.now in
    let d = args.levels in
    let here = args.c.now in
    let context = context_of source.kinds.now source.layout.generated in
    let f = c.node-f.result in
    let read = c.node-f.ensures.0 in
    let at = here.node in
    let next = at + node_size in
    let whole = term (tree_in d b at) in
    let after = at + node_size * size (tree_in d b at) in
    let end_is = wholes.past_is b d at f read pre.formed in
    let below = d - 1 in
    let chosen = sym c.chooses.ensures ∙ c.if-chooses.true in
    let three = c.if-f-ne3.false in
    let split : Split b below true 1 1 whole after next =
    record {
      splits = wholes.branch_is b d at f read pre.formed chosen three;
      end_is = three_past b below next ∙ (ap (λ (x : ℕ). past b below x next) (sym three) ∙ end_is);
    } in
    let moved = ready_moved pre.ready next in
    let e = c.lower.new.c in
    let v = c.in_ok-condition.condition in
    let first = taken _ _ _ _ _ _ v e c.lower.ensures (as_done e c.in_ok-condition.was) in
    as_node _ _ whole whole _ _ _ _ next here _ _ _ refl refl
    (split_done split moved context c.lower.new.p v e first 1 1 refl refl c.branch-self.new.p _ c.branch-self.ensures)

pub node-operands-requires : goal.node-operands-requires
node-operands-requires t c =
    let args = c.args in
    let pre = c.requires in
    let source = args.self.now in
    let b = source.bytes.now in
    let d = args.levels in
    let here = args.c.now in
    let context = context_of source.kinds.now source.layout.generated in
    let f = c.node-f.result in
    let read = c.node-f.ensures.0 in
    let at = here.node in
    let next = at + node_size in
    let whole = term (tree_in d b at) in
    let well = wholes.kids_well b d at f read pre.formed in
    let deep = wholes.node_deep b d at f read pre.formed in
    let below = d - 1 in
    let unchosen = sym c.chooses.ensures ∙ c.if-chooses.false in
    let large : 3 ≤ f.kind = omega (arith, c.if-f-le-SYMBOL.false) in
    let knows = wholes.knows b d at f read pre.formed large c.if-f-eq-BOOLEAN.false unchosen in
    let op = knows.op in
    let parts = terms (kids b below f.children next) in
    let ends = past b below f.children next in
    let count = wholes.count_kids b below f.children next in
    let is = wholes.apply_is b d at f read pre.formed large c.if-f-eq-BOOLEAN.false unchosen in
    let moved = ready_term whole (apply op parts) is pre.ready next in (
      omega (arith, c.node-f.ensures.1, deep),
      (
        operands_asked parts f.children c.listing.result _ c.listing.ensures (wholes.ready_operands context refl op parts f _ ends knows refl count moved),
        (well, omega (arith, c.node-f.ensures.1)),
      ),
    )

pub node-returns-in_err-v : goal.node-returns-in_err-v
node-returns-in_err-v t c =
    let args = c.args in
    let pre = c.requires in
    let source = args.self.now in
    let b = source.bytes.now in
    let d = args.levels in
    let here = args.c.now in
    let context = context_of source.kinds.now source.layout.generated in
    let f = c.node-f.result in
    let read = c.node-f.ensures.0 in
    let at = here.node in
    let next = at + node_size in
    let whole = term (tree_in d b at) in
    let end_is = wholes.past_is b d at f read pre.formed in
    let below = d - 1 in
    let unchosen = sym c.chooses.ensures ∙ c.if-chooses.false in
    let large : 3 ≤ f.kind = omega (arith, c.if-f-le-SYMBOL.false) in
    let knows = wholes.knows b d at f read pre.formed large c.if-f-eq-BOOLEAN.false unchosen in
    let op = knows.op in
    let parts = terms (kids b below f.children next) in
    let ends = past b below f.children next in
    let count = wholes.count_kids b below f.children next in
    let is = wholes.apply_is b d at f read pre.formed large c.if-f-eq-BOOLEAN.false unchosen in
    let moved = ready_term whole (apply op parts) is pre.ready next in
    let said = lists_as _ _ _ _ _ _ _ _ _ _ _ _ _ _ c.takes.ensures c.listing.ensures c.operands.ensures in
    let was = as_faulty c.operands.new.c c.in_err-v.was in
    says_as _ _ _ _ _ (handed_up _ c.operands.new.c c.in_err-v.was c.from_residual-in_err-v.ensures.1)
    (as_node _ _ whole (apply op parts) _ _ _ _ next here _ _ _ is end_is
    (wholes.operands_refused context refl op parts f _ ends knows refl count moved c.operands.new.p _ _ _ (collects.turned _ _ _ _ _ _ _ _ _ _ _ said was) was))

pub node-operation-requires : goal.node-operation-requires
node-operation-requires t c =
    let args = c.args in
    let pre = c.requires in
    let source = args.self.now in
    let b = source.bytes.now in
    let d = args.levels in
    let here = args.c.now in
    let context = context_of source.kinds.now source.layout.generated in
    let f = c.node-f.result in
    let read = c.node-f.ensures.0 in
    let at = here.node in
    let next = at + node_size in
    let whole = term (tree_in d b at) in
    let below = d - 1 in
    let unchosen = sym c.chooses.ensures ∙ c.if-chooses.false in
    let large : 3 ≤ f.kind = omega (arith, c.if-f-le-SYMBOL.false) in
    let knows = wholes.knows b d at f read pre.formed large c.if-f-eq-BOOLEAN.false unchosen in
    let op = knows.op in
    let parts = terms (kids b below f.children next) in
    let ends = past b below f.children next in
    let count = wholes.count_kids b below f.children next in
    let is = wholes.apply_is b d at f read pre.formed large c.if-f-eq-BOOLEAN.false unchosen in
    let moved = ready_term whole (apply op parts) is pre.ready next in
    let said = lists_as _ _ _ _ _ _ _ _ _ _ _ _ _ _ c.takes.ensures c.listing.ensures c.operands.ensures in
    let e = c.operands.new.c in
    let v = c.in_ok-v.v in
    let collected = collects.collected _ _ _ _ _ _ _ _ _ v e said (as_done e c.in_ok-v.was) in
    let room = wholes.ready_operands context refl op parts f _ ends knows refl count moved in
    let entry = wholes.e_entry context refl op parts f _ ends knows refl count moved c.operands.new.p v e c.operands.auto.p collected in (
      wholes.ready_finish context refl op parts f _ ends knows refl count moved c.operands.new.p v e c.operands.auto.p collected,
      knows.small,
      omega (arith, c.node-f.ensures.1, room.lists, entry, c.well_formed.1.0.0),
    )

pub node-returns : goal.node-returns
node-returns t c =
    let args = c.args in
    let pre = c.requires in
    let source = args.self.now in
    let b = source.bytes.now in
    let d = args.levels in
    let here = args.c.now in
    let context = context_of source.kinds.now source.layout.generated in
    let f = c.node-f.result in
    let read = c.node-f.ensures.0 in
    let at = here.node in
    let next = at + node_size in
    let whole = term (tree_in d b at) in
    let end_is = wholes.past_is b d at f read pre.formed in
    let below = d - 1 in
    let unchosen = sym c.chooses.ensures ∙ c.if-chooses.false in
    let large : 3 ≤ f.kind = omega (arith, c.if-f-le-SYMBOL.false) in
    let knows = wholes.knows b d at f read pre.formed large c.if-f-eq-BOOLEAN.false unchosen in
    let op = knows.op in
    let parts = terms (kids b below f.children next) in
    let ends = past b below f.children next in
    let count = wholes.count_kids b below f.children next in
    let is = wholes.apply_is b d at f read pre.formed large c.if-f-eq-BOOLEAN.false unchosen in
    let moved = ready_term whole (apply op parts) is pre.ready next in
    let said = lists_as _ _ _ _ _ _ _ _ _ _ _ _ _ _ c.takes.ensures c.listing.ensures c.operands.ensures in
    let e = c.operands.new.c in
    let v = c.in_ok-v.v in
    let collected = collects.collected _ _ _ _ _ _ _ _ _ v e said (as_done e c.in_ok-v.was) in
    as_node _ _ whole (apply op parts) _ _ _ _ next here _ _ _ is end_is
    (wholes.finished context refl op parts f _ ends knows refl count moved c.operands.new.p v e c.operands.auto.p collected c.operation.new.p _ c.operation.ensures)

pub operands-returns-then-o-eq0 : goal.operands-returns-then-o-eq0
operands-returns-then-o-eq0 t c =
    let args = c.args in
    let pre = c.requires in
    let source = args.self.now in
    let b = source.bytes.now in
    let d = args.levels in
    let here = args.c.now in
    let o = args.o in
    collects.none_left _ o.first _ o.boolean _ _ _ here args.p.now (past_none b d o.left here.node c.if-o-eq0.true) pre.ready.sound o.lists _ _ refl
    (ap terms (kids_none b d here.node o.left c.if-o-eq0.true))

pub operand-lower-requires : goal.operand-lower-requires
operand-lower-requires t c =
    let args = c.args in
    let pre = c.requires in
    let source = args.self.now in
    let b = source.bytes.now in
    let d = args.levels in
    let here = args.c.now in
    let context = context_of source.kinds.now source.layout.generated in
    let o = args.o in
    let node = here.node in
    let second = past b d 1 node in
    let after = past b d o.left node in
    let child = arm b d true 1 node in
    let others = terms (kids b d (o.left - 1) second) in
    let some_left : o.left ≡ 0 → ⊥ = λ z. omega (arith, z, pre.formed.2) in
    let ready = operands_ready b d o.left node o.lists o.first some_left pre.ready in (
      omega (arith, pre.formed.2),
      (
        collects.ready_child o.lists context o.boolean child others o.first second after ready,
        (one_well b d 1 node refl (first_well b d o.left node some_left pre.formed.0), omega (arith, pre.formed.1), omega arith),
      ),
    )

pub operand-returns-in_err-v : goal.operand-returns-in_err-v
operand-returns-in_err-v t c =
    let args = c.args in
    let pre = c.requires in
    let source = args.self.now in
    let b = source.bytes.now in
    let d = args.levels in
    let here = args.c.now in
    let context = context_of source.kinds.now source.layout.generated in
    let o = args.o in
    let node = here.node in
    let second = past b d 1 node in
    let after = past b d o.left node in
    let child = arm b d true 1 node in
    let others = terms (kids b d (o.left - 1) second) in
    let some_left : o.left ≡ 0 → ⊥ = λ z. omega (arith, z, pre.formed.2) in
    let ready = operands_ready b d o.left node o.lists o.first some_left pre.ready in
    let said = at_argument _ _ _ _ o.first _ _ _ _ _ _ c.lower.ensures in
    let was = as_faulty c.lower.new.c c.in_err-v.was in
    lists_as_is _ _ _ _ _ _ _ _ (handed_up _ c.lower.new.c c.in_err-v.was c.from_residual.ensures.1) (operands_as _ _ _ _ _ _ _ _ _ _ _ _ b d o.left node some_left
    (collects.child_refused o.lists context o.boolean child others o.first second after ready c.lower.new.p _ _ _ (refused _ _ _ _ _ _ _ _ said was) was))

pub operand-operand-requires : goal.operand-operand-requires
operand-operand-requires t c =
    let args = c.args in
    let pre = c.requires in
    let source = args.self.now in
    let b = source.bytes.now in
    let d = args.levels in
    let here = args.c.now in
    let context = context_of source.kinds.now source.layout.generated in
    let o = args.o in
    let node = here.node in
    let second = past b d 1 node in
    let after = past b d o.left node in
    let child = arm b d true 1 node in
    let others = terms (kids b d (o.left - 1) second) in
    let some_left : o.left ≡ 0 → ⊥ = λ z. omega (arith, z, pre.formed.2) in
    let ready = operands_ready b d o.left node o.lists o.first some_left pre.ready in
    let said = at_argument _ _ _ _ o.first _ _ _ _ _ _ c.lower.ensures in
    let e = c.lower.new.c in
    let v = c.in_ok-v.v in
    let first = taken _ _ _ _ _ _ v e said (as_done e c.in_ok-v.was) in
    let there = collects.is_node o.lists context o.boolean child others o.first second after ready c.lower.new.p v e first in (
      omega (arith, pre.formed.2),
      (
        rest_ready b d (o.left - 1) _ _ (sym there) o.lists o.first
            (collects.ready_rest o.lists context o.boolean child others o.first second after ready c.lower.new.p v e first),
        (rest_well_at b d o.left node e.node some_left pre.formed.0 there, omega (arith, pre.formed.1, pre.formed.2), omega (arith, c.if-rest-eq0.false)),
      ),
    )

pub operand-returns-in_err-w : goal.operand-returns-in_err-w
operand-returns-in_err-w t c =
    let args = c.args in
    let pre = c.requires in
    let source = args.self.now in
    let b = source.bytes.now in
    let d = args.levels in
    let here = args.c.now in
    let context = context_of source.kinds.now source.layout.generated in
    let o = args.o in
    let node = here.node in
    let second = past b d 1 node in
    let after = past b d o.left node in
    let child = arm b d true 1 node in
    let others = terms (kids b d (o.left - 1) second) in
    let some_left : o.left ≡ 0 → ⊥ = λ z. omega (arith, z, pre.formed.2) in
    let ready = operands_ready b d o.left node o.lists o.first some_left pre.ready in
    let said = at_argument _ _ _ _ o.first _ _ _ _ _ _ c.lower.ensures in
    let e = c.lower.new.c in
    let v = c.in_ok-v.v in
    let first = taken _ _ _ _ _ _ v e said (as_done e c.in_ok-v.was) in
    let there = collects.is_node o.lists context o.boolean child others o.first second after ready c.lower.new.p v e first in
    let said2 = rest_as _ _ _ _ _ _ _ _ _ _ _ b d o.left node e.node there some_left c.operand.ensures in
    let was = as_faulty c.operand.new.c c.in_err-w.was in
    lists_as_is _ _ _ _ _ _ _ _ (handed_up _ c.operand.new.c c.in_err-w.was c.from_residual-in_err-w.ensures.1)
    (operands_as _ _ _ _ _ _ _ _ _ _ _ _ b d o.left node some_left
    (collects.rest_refused o.lists context o.boolean child others o.first second after ready c.lower.new.p v e first c.operand.new.p _ _ _
    (collects.turned _ _ _ _ _ _ _ _ _ _ _ said2 was) was))

pub operand-overflow_add-entry : goal.operand-overflow_add-entry
operand-overflow_add-entry t c =
    let args = c.args in
    let pre = c.requires in
    let source = args.self.now in
    let b = source.bytes.now in
    let d = args.levels in
    let here = args.c.now in
    let context = context_of source.kinds.now source.layout.generated in
    let o = args.o in
    let node = here.node in
    let second = past b d 1 node in
    let after = past b d o.left node in
    let child = arm b d true 1 node in
    let others = terms (kids b d (o.left - 1) second) in
    let some_left : o.left ≡ 0 → ⊥ = λ z. omega (arith, z, pre.formed.2) in
    let ready = operands_ready b d o.left node o.lists o.first some_left pre.ready in
    let said = at_argument _ _ _ _ o.first _ _ _ _ _ _ c.lower.ensures in
    let e = c.lower.new.c in
    let v = c.in_ok-v.v in
    let first = taken _ _ _ _ _ _ v e said (as_done e c.in_ok-v.was) in
    let there = collects.is_node o.lists context o.boolean child others o.first second after ready c.lower.new.p v e first in
    let joined = c.if-rest-eq0 in
    let none_here = (rest_ready b d (o.left - 1) _ _ (sym there) o.lists o.first
    (collects.ready_rest o.lists context o.boolean child others o.first second after ready c.lower.new.p v e first)).sound in
    let said_here : Lists source.layout o.lists (terms (kids b d (o.left - 1) e.node)) (o.first + 1)
    (operands_piece context o.boolean (terms (kids b d (o.left - 1) e.node)) (place source.layout c.lower.new.p args.s) (o.first + 1) args.s.path e (past b d (o.left - 1) e.node))
    e c.lower.new.p joined.p (Done joined.w joined.c) =
    elim joined.branch [
      | operand-then-rest-eq0 x ↦
          rw (x.p-is, x.c-is, x.w-is)
          (collects.none_left _ (o.first + 1) _ o.boolean _ _ _ e c.lower.new.p (past_none b d (o.left - 1) e.node x.if-rest-eq0.true) none_here o.lists _ _ refl
          (ap terms (kids_none b d e.node (o.left - 1) x.if-rest-eq0.true)))
      | operand-else-rest-eq0+in_ok-w x ↦
          rw (x.p-is, x.c-is, x.w-is) (lists_as_is _ _ _ _ _ _ _ _ (sym (as_done x.operand.new.c x.in_ok-w.was)) x.operand.ensures)
    ] in
    let said2 = rest_as _ _ _ _ _ _ _ _ _ _ _ b d o.left node e.node there some_left said_here in
    let h = joined.c in
    let w = joined.w in
    let collected = collects.collected _ _ _ _ _ _ _ _ _ w h said2 refl in
    let small =
    collects.entry_small o.lists context o.boolean child others o.first second after ready c.lower.new.p v e first joined.p w h joined.auto.p collected in
    omega (arith, small, pre.formed.1, c.well_formed.1.0.0)

pub operand-put_word-requires : goal.operand-put_word-requires
operand-put_word-requires t c =
    let args = c.args in
    let pre = c.requires in
    let source = args.self.now in
    let b = source.bytes.now in
    let d = args.levels in
    let here = args.c.now in
    let context = context_of source.kinds.now source.layout.generated in
    let o = args.o in
    let node = here.node in
    let second = past b d 1 node in
    let after = past b d o.left node in
    let child = arm b d true 1 node in
    let others = terms (kids b d (o.left - 1) second) in
    let some_left : o.left ≡ 0 → ⊥ = λ z. omega (arith, z, pre.formed.2) in
    let ready = operands_ready b d o.left node o.lists o.first some_left pre.ready in
    let said = at_argument _ _ _ _ o.first _ _ _ _ _ _ c.lower.ensures in
    let e = c.lower.new.c in
    let v = c.in_ok-v.v in
    let first = taken _ _ _ _ _ _ v e said (as_done e c.in_ok-v.was) in
    let there = collects.is_node o.lists context o.boolean child others o.first second after ready c.lower.new.p v e first in
    let joined = c.if-rest-eq0 in
    let none_here = (rest_ready b d (o.left - 1) _ _ (sym there) o.lists o.first
    (collects.ready_rest o.lists context o.boolean child others o.first second after ready c.lower.new.p v e first)).sound in
    let said_here : Lists source.layout o.lists (terms (kids b d (o.left - 1) e.node)) (o.first + 1)
    (operands_piece context o.boolean (terms (kids b d (o.left - 1) e.node)) (place source.layout c.lower.new.p args.s) (o.first + 1) args.s.path e (past b d (o.left - 1) e.node))
    e c.lower.new.p joined.p (Done joined.w joined.c) =
    elim joined.branch [
      | operand-then-rest-eq0 x ↦
          rw (x.p-is, x.c-is, x.w-is)
          (collects.none_left _ (o.first + 1) _ o.boolean _ _ _ e c.lower.new.p (past_none b d (o.left - 1) e.node x.if-rest-eq0.true) none_here o.lists _ _ refl
          (ap terms (kids_none b d e.node (o.left - 1) x.if-rest-eq0.true)))
      | operand-else-rest-eq0+in_ok-w x ↦
          rw (x.p-is, x.c-is, x.w-is) (lists_as_is _ _ _ _ _ _ _ _ (sym (as_done x.operand.new.c x.in_ok-w.was)) x.operand.ensures)
    ] in
    let said2 = rest_as _ _ _ _ _ _ _ _ _ _ _ b d o.left node e.node there some_left said_here in
    let h = joined.c in
    let w = joined.w in
    let collected = collects.collected _ _ _ _ _ _ _ _ _ w h said2 refl in
    subst (λ (x : Bool). cond x (source.layout.lists + 4 * (h.entry + o.first) + 4) 0 ≤ length joined.p) c.if-o.true
    (collects.entry_room o.lists context o.boolean child others o.first second after ready c.lower.new.p v e first joined.p w h joined.auto.p collected)

pub operand-overflow_mul-entry : goal.operand-overflow_mul-entry
operand-overflow_mul-entry t c = omega (arith, operand-put_word-requires t c, c.well_formed.1.0.0)

pub operand-overflow_add-self : goal.operand-overflow_add-self
operand-overflow_add-self t c = omega (arith, operand-put_word-requires t c, c.well_formed.1.0.0)

pub operand-returns : goal.operand-returns
operand-returns t c =
    let args = c.args in
    let pre = c.requires in
    let source = args.self.now in
    let b = source.bytes.now in
    let d = args.levels in
    let here = args.c.now in
    let context = context_of source.kinds.now source.layout.generated in
    let o = args.o in
    let node = here.node in
    let second = past b d 1 node in
    let after = past b d o.left node in
    let child = arm b d true 1 node in
    let others = terms (kids b d (o.left - 1) second) in
    let some_left : o.left ≡ 0 → ⊥ = λ z. omega (arith, z, pre.formed.2) in
    let ready = operands_ready b d o.left node o.lists o.first some_left pre.ready in
    let said = at_argument _ _ _ _ o.first _ _ _ _ _ _ c.lower.ensures in
    let e = c.lower.new.c in
    let v = c.in_ok-v.v in
    let first = taken _ _ _ _ _ _ v e said (as_done e c.in_ok-v.was) in
    let there = collects.is_node o.lists context o.boolean child others o.first second after ready c.lower.new.p v e first in
    let joined = c.if-rest-eq0 in
    let none_here = (rest_ready b d (o.left - 1) _ _ (sym there) o.lists o.first
    (collects.ready_rest o.lists context o.boolean child others o.first second after ready c.lower.new.p v e first)).sound in
    let said_here : Lists source.layout o.lists (terms (kids b d (o.left - 1) e.node)) (o.first + 1)
    (operands_piece context o.boolean (terms (kids b d (o.left - 1) e.node)) (place source.layout c.lower.new.p args.s) (o.first + 1) args.s.path e (past b d (o.left - 1) e.node))
    e c.lower.new.p joined.p (Done joined.w joined.c) =
    elim joined.branch [
      | operand-then-rest-eq0 x ↦
          rw (x.p-is, x.c-is, x.w-is)
          (collects.none_left _ (o.first + 1) _ o.boolean _ _ _ e c.lower.new.p (past_none b d (o.left - 1) e.node x.if-rest-eq0.true) none_here o.lists _ _ refl
          (ap terms (kids_none b d e.node (o.left - 1) x.if-rest-eq0.true)))
      | operand-else-rest-eq0+in_ok-w x ↦
          rw (x.p-is, x.c-is, x.w-is) (lists_as_is _ _ _ _ _ _ _ _ (sym (as_done x.operand.new.c x.in_ok-w.was)) x.operand.ensures)
    ] in
    let said2 = rest_as _ _ _ _ _ _ _ _ _ _ _ b d o.left node e.node there some_left said_here in
    let h = joined.c in
    let w = joined.w in
    let collected = collects.collected _ _ _ _ _ _ _ _ _ w h said2 refl in
    let listed : c.if-o.p ≡ cond o.lists (over joined.p (source.layout.lists + 4 * (h.entry + o.first)) (little_endian 4 v.a)) joined.p = elim c.if-o.branch [
      | operand-then-o x ↦ rw (x.p-is, x.put_word.ensures, x.if-o.true) refl
      | operand-else-o x ↦ rw (x.p-is, x.if-o.false) refl
    ] in
    operands_as _ _ _ _ _ _ _ _ _ _ _ _ b d o.left node some_left
    (collects.all_collected o.lists context o.boolean child others o.first second after ready c.lower.new.p v e first joined.p w h joined.auto.p collected
    c.if-o.p _ _ listed (ap (λ (x : Bool). x && w.boolean) (same_as v.boolean o.boolean)) refl)
