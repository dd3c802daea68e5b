use Rattle.lines.proofs.Texts.{decimal_byte, refusal_wrote, wrote}
use Rattle.refusals.specs.Refusals.{number_of}
use Rattle.std.proofs.Common.{◌≡◌, ◌≤◌, ◌∙◌, length, arith}
use Rattle.formula.specs.Text.{decimal}
use Rattle.lines.proofs.text.put_refusal.Goals as goal

pub returns-clause-wrote : goal.returns-clause-wrote
returns-clause-wrote c =
    let args = c.args in
    let w1 = c.put_bytes-number in
    let w2 = c.put_decimal-colon in
    let w3 = c.put_bytes-from in
    let w4 = c.put_bytes-end in
    let w5 = c.put_bytes in
    let n : c.from.result ≡ number_of args.refusal = c.from.ensures ∙ c.number.ensures in
    let few : length (decimal (number_of args.refusal)) ≤ 3 = decimal_byte (number_of args.refusal) (omega (arith, c.number.type_inv, c.number.ensures)) in
    let digits = rw n at w2.ensures in
    let room = c.requires in
    let e1 = w1.ensures.0 in
    let e2 = digits.0 in
    let e3 = w3.ensures.0 in
    let e4 = w4.ensures.0 in
    refusal_wrote args.out.now args.at (number_of args.refusal) args.place.now w1.new.out w2.new.out w3.new.out w4.new.out w5.new.out
    w1.result w2.result w3.result w4.result w5.result (omega (arith, e1, room.0)) (omega (arith, e1, e2, few, room.0)) (omega (arith, e1, e2, e3, few, room.0))
    (omega (arith, e1, e2, e3, e4, few, room.0, room.1)) (wrote _ _ _ _ _ w1.ensures) (wrote _ _ _ _ _ digits) (wrote _ _ _ _ _ w3.ensures)
    (wrote _ _ _ _ _ w4.ensures) (wrote _ _ _ _ _ w5.ensures)
