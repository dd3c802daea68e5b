use Rattle.std.proofs.Common.{sym, ◌∙◌}
use Rattle.instruction.proofs.Extremes.{left_end, left_keep, left_start, left_take}
use Rattle.instruction.proofs.plain_extremum.Goals as goal
use Rattle.instruction.proofs.plain_extremum.Goals.{then-is_beyond, else-is_beyond}

pub loop-i-init : goal.loop-i-init
loop-i-init g c = left_start _ c.args.p.now c.args.at c.args.count c.args.regs.now c.known_register-extreme.result c.requires.0 c.known_register-extreme.ensures

pub loop-i-preserved : goal.loop-i-preserved
loop-i-preserved g c =
    let next = c.known_register-next in
    let loop = c.loop-i in
    elim c.if-is_beyond.branch [
      | then-is_beyond w ↦
          left_take _ c.args.p.now c.args.at c.args.count c.args.regs.now loop.extreme next.result c.if-is_beyond.extreme loop.i loop.invariant c.loop-i-test.true next.ensures
          (sym c.is_beyond.ensures ∙ w.if-is_beyond.true) w.extreme-is
      | else-is_beyond w ↦
          left_keep _ c.args.p.now c.args.at c.args.count c.args.regs.now loop.extreme next.result c.if-is_beyond.extreme loop.i loop.invariant c.loop-i-test.true next.ensures
          (sym c.is_beyond.ensures ∙ w.if-is_beyond.false) w.extreme-is
    ]

pub returns : goal.returns
returns g c = left_end _ c.args.p.now c.args.at c.args.count c.args.regs.now c.loop-i.extreme c.loop-i.i c.loop-i.invariant c.loop-i-test.false
