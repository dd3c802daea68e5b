use Rattle.std.proofs.Common.{arith}
use Rattle.floats.proofs.Raised.{log_small, raised}
use Rattle.floats.proofs.scaled.Scaled.raised.Goals as goal

pub overflow_sub-room : goal.overflow_sub-room
overflow_sub-room c = let h = log_small c.args.self.digits c.ilog2.result c.ilog2.ensures.power_le c.requires.1 in omega arith

pub returns : goal.returns
returns c =
    let r = raised c.args.self.digits c.args.self.exp c.ilog2.result c.min-places.result c.ilog2.ensures.power_le c.ilog2.ensures.next_power_gt c.requires.1 (rw (c.min-places.ensures, c.from-room.ensures)) in
    (r.same, r.few, r.inside, r.full)
