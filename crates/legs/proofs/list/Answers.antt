use Rattle.std.proofs.Common.{take, arith}
use Rattle.lines.specs.Calls.{held}
use Rattle.lines.specs.Owed.{file_of}
use Rattle.lines.proofs.Compose.{bytes_or, stands_first}
use Rattle.legs.proofs.list.Goals as goal

pub feed_all-requires : goal.feed_all-requires
feed_all-requires c =
    let a = c.args in
    let b = c.start-begun in
    let f = c.unwrap_or-formula in
    let p = c.requires in
    record {
      stands = stands_first (file_of a.file) f.result.now (held a.names.now a.memory.now) b.result.stage (take b.result.length b.new.out) (bytes_or a.file _ f.result f.ensures) p.roomy (b.ensures.begins p.room);
      room = omega (arith, b.auto.out, p.room);
      some = p.some;
    }
