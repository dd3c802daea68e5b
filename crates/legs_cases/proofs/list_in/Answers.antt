use Rattle.std.proofs.Common.{take, arith}
use Rattle.lines.specs.Calls.{held}
use Rattle.lines.specs.Owed.{file_of}
use Rattle.lines.proofs.Compose.{bytes_or, stands_first}
use Rattle.legs_cases.proofs.Listed.{listed_by, listed_none, listed_some}
use Rattle.legs_cases.proofs.list_in.Goals as goal

pub feed-requires : goal.feed-requires
feed-requires c =
    let a = c.args in
    let f = c.unwrap_or-formula in
    let b = c.start-begun in (
      record {
        stands = stands_first (file_of a.file) f.result.now (held a.names.now a.memory.now) b.result.stage (take b.result.length b.new.out) (bytes_or a.file _ f.result f.ensures) c.requires.0
            (b.ensures.begins c.requires.1);
        room = omega (arith, b.auto.out, c.requires.1);
      },
      omega (arith, c.in_ok-first.ensures.room, c.add.auto.all),
    )

pub returns-in_err-first : goal.returns-in_err-first
returns-in_err-first c =
    let a = c.args in
    let f = c.unwrap_or-formula in
    let b = c.start-begun in
    rw c.from_residual.ensures
    (listed_none (file_of a.file) f.result.now a.blocks.input.now (held a.names.now a.memory.now) b.result.stage a.all.now b.new.out b.result.length c.add.new.all (bytes_or a.file _ f.result f.ensures) c.requires.0
    (b.ensures.begins c.requires.1) (rw (c.in_err-first.was, c.written.ensures) at c.add.ensures))

pub returns-in_err-fed : goal.returns-in_err-fed
returns-in_err-fed c =
    let a = c.args in
    let f = c.unwrap_or-formula in
    let b = c.start-begun in
    let g = c.feed in
    rw c.from_residual-in_err-fed.ensures
    (listed_some (file_of a.file) f.result.now a.blocks.input.now (held a.names.now a.memory.now) b.result.stage a.all.now b.new.out b.result.length c.add.new.all (bytes_or a.file _ f.result f.ensures) c.requires.0
    (b.ensures.begins c.requires.1) c.in_ok-first.first (rw (c.in_ok-first.was, c.written.ensures) at c.add.ensures) c.add.auto.all
    (held g.new.names g.new.memory) g.new.all (rw c.in_err-fed.was at g.ensures.feeds))

pub returns : goal.returns
returns c =
    let a = c.args in
    let f = c.unwrap_or-formula in
    let b = c.start-begun in
    let g = c.feed in
    let e = c.finish-length in
    listed_by (file_of a.file) f.result.now a.blocks.input.now (held a.names.now a.memory.now) b.result.stage a.all.now b.new.out b.result.length c.add.new.all (bytes_or a.file _ f.result f.ensures) c.requires.0
    (b.ensures.begins c.requires.1) c.in_ok-first.first (rw (c.in_ok-first.was, c.written.ensures) at c.add.ensures) c.add.auto.all
    (held g.new.names g.new.memory) c.in_ok-fed.fed g.new.all (rw c.in_ok-fed.was at g.ensures.feeds) g.auto.all e.new.memory.out.now e.result
    (e.ensures.finishes.ends (omega (arith, g.ensures.slices.out.1, b.auto.out, c.requires.1))) c.add-2.result c.add-2.new.all (rw c.written-2.ensures at c.add-2.ensures)
