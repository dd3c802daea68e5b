use Rattle.lower.proofs.Slots.{record_stored}
use Rattle.lower.proofs.put_record.Goals as goal

pub returns : goal.returns
returns c =
    let args = c.args in
    let pre = c.requires in
    let put_word = c.put_word in
    let put_word2 = c.put_word-2 in
    record_stored args.p.now put_word.new.p put_word2.new.p c.put_word-3.new.p args.at args.parent
    args.step args.long (pre) put_word.ensures put_word2.ensures c.put_word-3.ensures
