use Rattle.lines.proofs.Texts.{wrote}
use Rattle.lines.proofs.Calls.{starting}
use Rattle.listing.specs.Legs.{header}
use Rattle.lines.specs.Owed.{file_of}
use Rattle.std.proofs.Common.{arith}
use Rattle.lines.proofs.start.Goals as goal

pub returns : goal.returns
returns c =
    let args = c.args in
    let w = c.put_bytes-at in
    let o = c.opened in
    let enough = c.if-out-lt-OUTPUT_ROOM.false in
    starting (file_of args.file) args.out.now w.new.out w.result o.result o.new.out
    (omega (arith, enough)) (omega (arith, w.ensures.0, enough)) (omega (arith, w.auto.out, o.ensures.room))
    (wrote args.out.now 0 header w.new.out w.result w.ensures) o.ensures.opens
