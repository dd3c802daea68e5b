use Rattle.lines.proofs.Listings.{lt_of, on_end, on_full, on_line, on_over}
use Rattle.lines.proofs.Runs.{code_short}
use Rattle.std.proofs.Common.{◌+◌, length, refl, arith}
use Rattle.lines.proofs.list_values.Goals as goal
use Rattle.lines.proofs.list_values.Goals.{then-used-input-via-then-used-input, then-used-input-via-else-used-input+then-out-length-lt-RECORD_ROOM}

pub loop-used-preserved : goal.loop-used-preserved
loop-used-preserved c =
    let a = c.args in
    let l = c.loop-used in
    let r = c.read_part-read in
    let w = c.put_record-put in
    let h = lt_of r.result.end (length a.input.now) r.ensures.place.1 c.if-used-input.false in
    on_line a.p.now a.input.now a.line a.values.now a.regs.now a.out.now l.values l.regs l.out l.used l.length l.line l.invariant
    r.result.end r.result.reading r.new.values r.ensures.place.0 r.ensures.place.2 r.ensures.read
    (code_short a.p.now c.requires.sound (λ i. omega (arith, c.type_inv.p i))) c.if-line-le-LINE_LIMIT.true h (r.ensures.place.3 h)
    r.auto.values w.new.values w.new.regs w.new.out w.result (l.line.number + 1) c.fresh.result refl
    w.auto.values w.auto.regs w.ensures.records w.ensures.beyond w.auto.out
    (omega (arith, w.ensures.room, c.if-out-length-lt-RECORD_ROOM.false, l.invariant.short)) c.fresh.ensures

pub returns-else-line-le-LINE_LIMIT : goal.returns-else-line-le-LINE_LIMIT
returns-else-line-le-LINE_LIMIT c =
    let a = c.args in
    let l = c.loop-used in
    on_over a.p.now a.input.now a.line a.values.now a.regs.now a.out.now l.values l.regs l.out l.used l.length l.line l.invariant _ refl
    c.if-line-le-LINE_LIMIT.false

pub returns-then-used-input : goal.returns-then-used-input
returns-then-used-input c =
    let a = c.args in
    let l = c.loop-used in
    let r = c.read_part-read in
    elim c.then-used-input.branch [
      | then-used-input-via-then-used-input w ↦
          on_end a.p.now a.input.now a.line a.values.now a.regs.now a.out.now l.values l.regs l.out l.used l.length l.line l.invariant
          r.result.end r.result.reading r.new.values r.ensures.place.0 r.ensures.place.2 r.ensures.read r.ensures.place.1 _ refl w.if-used-input.true
      | then-used-input-via-else-used-input+then-out-length-lt-RECORD_ROOM w ↦
          on_full a.p.now a.input.now a.line a.values.now a.regs.now a.out.now l.values l.regs l.out l.used l.length l.line l.invariant
          r.result.end r.result.reading r.new.values r.ensures.place.0 r.ensures.place.2 r.ensures.read r.ensures.place.1 _ refl
          w.if-out-length-lt-RECORD_ROOM.true
    ]
