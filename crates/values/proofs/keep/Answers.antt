use Rattle.std.proofs.Common.{◌+◌, Bool, cond, length, set, sym, ap, le-ltb, lt-ltb}
use lib.Ieee.{binary64, of_bits}
use lib.Seq.{set_out}
use Rattle.values.proofs.keep.Goals as goal

pub returns-then-count-values : goal.returns-then-count-values
returns-then-count-values c = (sym (ap (λ (t : Bool). cond t (c.args.count + 1) (length c.args.values.now + 1)) (lt-ltb c.args.count (length c.args.values.now) c.if-count-values.true)), ap (set c.args.values.now c.args.count) c.of_bits.ensures)

pub returns : goal.returns
returns c = (sym (ap (λ (t : Bool). cond t (c.args.count + 1) (length c.args.values.now + 1)) (le-ltb c.args.count (length c.args.values.now) c.if-count-values.false)), sym (set_out c.args.values.now c.args.count (of_bits binary64 c.args.bits) c.if-count-values.false))
