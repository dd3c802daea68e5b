use Rattle.layout.specs.Image.{magic}
use Rattle.compile.proofs.Headers.{header_stored}
use Rattle.compile.proofs.Header.put.Goals as goal

pub returns : goal.returns
returns c =
    let h = c.args.self in
    header_stored c.args.p.now c.put_word.new.p c.put_word-2.new.p c.put_word-3.new.p c.put_word-4.new.p c.put_word-5.new.p c.put_word-6.new.p
    c.put_word-7.new.p c.put_word-8.new.p magic h.code h.registers h.value h.inputs h.kind h.paths h.entries c.requires c.put_word.ensures
    c.put_word-2.ensures c.put_word-3.ensures c.put_word-4.ensures c.put_word-5.ensures c.put_word-6.ensures c.put_word-7.ensures c.put_word-8.ensures
