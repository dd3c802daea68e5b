use Rattle.lines.proofs.Begins.{begins_accepted, begins_node, begins_refused}
use Rattle.lines.proofs.Newlines.{drop_wrote}
use Rattle.lines.specs.Sums.{totals_of}
use Rattle.lines.proofs.Totals.{default_is}
use Rattle.std.proofs.Common.{◌≤◌, length, refl, sym, ap, ◌∙◌, arith}
use Rattle.lines.proofs.begin.Goals as goal

pub returns-in_default-clause-begins : goal.returns-in_default-clause-begins
returns-in_default-clause-begins c =
    let a = c.args in
    let k = c.compile in
    record {
      built =
          begins_accepted a.formula.now a.names.now a.memory.now.path.now a.memory.now.program.now k.new.path k.new.program a.memory.now.out.now
          a.memory.now.out.now _ k.result k.ensures.0 c.in_default.is (λ i. omega (arith, c.type_inv.formula i)) k.ensures.2 c.fresh.result c.fresh.ensures
          c.default.result (ap totals_of (default_is c.default.result c.default.ensures)) refl;
      room = omega arith;
      beyond = refl;
      path_is = k.ensures.1;
      program_is = k.ensures.2;
    }

pub returns-in-None-clause-begins : goal.returns-in-None-clause-begins
returns-in-None-clause-begins c =
    let a = c.args in
    let k = c.compile in
    let w = c.put_refusal in
    let h : w.result ≤ length a.memory.now.out.now = omega (arith, w.ensures.room, c.requires) in
    record {
      built =
          begins_refused a.formula.now a.names.now a.memory.now.path.now a.memory.now.program.now k.new.path k.new.program a.memory.now.out.now w.new.out
          _ k.result k.ensures.0 c.in-Err.refusal c.in-Err.is (sym c.node.ensures ∙ c.in-None.is) (length c.text_of.result.now) w.result
          k.ensures.1 k.auto.path c.text_of.ensures.long (rw c.text_of.ensures.first at w.ensures.wrote) c.finished-in-None.ensures refl;
      room = w.ensures.room;
      beyond = drop_wrote a.memory.now.out.now 0 _ w.new.out w.result w.ensures.wrote h;
      path_is = k.ensures.1;
      program_is = k.ensures.2;
    }

pub returns-in-Some-clause-begins : goal.returns-in-Some-clause-begins
returns-in-Some-clause-begins c =
    let a = c.args in
    let k = c.compile in
    let w = c.put_node_refusal in
    let h : w.result ≤ length a.memory.now.out.now = omega (arith, w.ensures.room, c.requires) in
    record {
      built =
          begins_node a.formula.now a.names.now a.memory.now.path.now a.memory.now.program.now k.new.path k.new.program a.memory.now.out.now w.new.out _
          k.result k.ensures.0 c.in-Err.refusal c.in-Err.is c.in-Some.node w.result (sym c.node.ensures ∙ c.in-Some.is) w.ensures.wrote c.finished.ensures refl;
      room = w.ensures.room;
      beyond = drop_wrote a.memory.now.out.now 0 _ w.new.out w.result w.ensures.wrote h;
      path_is = k.ensures.1;
      program_is = k.ensures.2;
    }
