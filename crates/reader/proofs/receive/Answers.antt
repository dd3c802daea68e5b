use native.Mathlib.Omega.{arith}
use mathlib.Core.Path.{sym, ◌∙◌, subst}
use Prim.Native.Nat.{ℕ, ◌+◌}
use Rattle.reader.specs.Read.{written}
use Rattle.reader.proofs.Steps.{Counted, counted_on, counted_over, counted_start, counted_still, counted_wrong, ended_early, ended_over, ended_whole, left_over_at}
use Rattle.reader.proofs.receive.Goals as goal
use Rattle.reader.proofs.receive.Goals.{then-owed-nodes, else-owed-nodes}

pub loop-k-init : goal.loop-k-init
loop-k-init c = counted_start c.args.b.now

pub returns-then-owed-eq0 : goal.returns-then-owed-eq0
returns-then-owed-eq0 c =
    let loop = c.loop-k in
    left_over_at (counted_over c.args.b.now loop.k loop.owed loop.invariant (omega arith) c.if-owed-eq0.true (omega arith)) (omega arith)

pub returns-then-not-is_head : goal.returns-then-not-is_head
returns-then-not-is_head c =
    let loop = c.loop-k in
    counted_wrong c.args.b.now loop.k loop.owed loop.invariant (omega arith) (omega arith) (written c.node-fields.result) c.node-fields.ensures.0
    c.if-owed-eq0.false (sym c.is_head.ensures ∙ c.if-not-is_head.true)

pub loop-k-preserved : goal.loop-k-preserved
loop-k-preserved c =
    let loop = c.loop-k in
    let fields = c.node-fields in
    let ok = sym c.is_head.ensures ∙ c.if-not-is_head.false in
    let counted : ℕ → Type 0 = λ n. Counted c.args.b.now (loop.k + 1) n in
    elim c.if-owed-nodes.branch [
      | then-owed-nodes w ↦
          subst counted (sym w.owed-is)
          (counted_on c.args.b.now loop.k loop.owed loop.invariant (omega arith) (omega arith) (written fields.result) fields.ensures.0
          c.if-owed-eq0.false ok w.if-owed-nodes.true)
      | else-owed-nodes w ↦
          subst counted (sym w.owed-is)
          (counted_still c.args.b.now loop.k loop.owed loop.invariant (omega arith) (omega arith) (written fields.result) fields.ensures.0
          c.if-owed-eq0.false ok w.if-owed-nodes.false)
    ]

pub returns-then-owed-gt0 : goal.returns-then-owed-gt0
returns-then-owed-gt0 c = ended_early c.args.b.now c.loop-k.k c.loop-k.owed c.loop-k.invariant (omega arith) (omega arith) c.if-owed-gt0.true

pub returns-then-nodes-b : goal.returns-then-nodes-b
returns-then-nodes-b c = ended_over c.args.b.now c.loop-k.k c.loop-k.owed c.loop-k.invariant (omega arith) (omega arith) (omega arith) (omega arith)

pub returns : goal.returns
returns c = ended_whole c.args.b.now c.loop-k.k c.loop-k.owed c.loop-k.invariant (omega arith) (omega arith) (omega arith) (omega arith)
