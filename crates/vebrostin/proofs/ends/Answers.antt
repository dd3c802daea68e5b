-- The code's end, no budget, an instruction's only question, or the long way.
use Rattle.std.proofs.Common.{[], arith, refl}
use Rattle.std.proofs.Math.Option.{none, some}
use Rattle.machine.specs.Machine.{asks, gives, spent}
use Rattle.layout.specs.Decode.{code_count, result_at}
use Rattle.work.specs.View.{question_of}
use Rattle.run.proofs.Plain.{plain_question, plain_spent, plain_value}
use Rattle.vebrostin.proofs.Outcomes.{placed_as, put_ends, reply_ends}
use Rattle.vebrostin.proofs.ends.Goals as goal

pub returns-then-code-place : goal.returns-then-code-place
unfolding code_count result_at
returns-then-code-place c =
    let a = c.args in
    let v = c.value_at-value in
    let e =
    plain_value a.inputs.now a.program.now a.place.left a.count a.place.at c.word-code.result a.registers.now c.word-code.ensures.0 c.word.result v.result c.if-code-place.true
    c.word.ensures.0 v.ensures in
    record {
      reply = put_ends (gives v.result) a.count (record { position = c.word-code.result; kept = []; pending = none }) e refl c.bits_of.ensures c.put.ensures.cells c.put.ensures.state;
      place = λ w. placed_as a.path.now e refl;
    }

pub returns-then-place-eq0 : goal.returns-then-place-eq0
unfolding code_count
returns-then-place-eq0 c =
    let a = c.args in
    let put = c.put-then-place-eq0.ensures in
    let e = plain_spent a.inputs.now a.program.now a.place.left a.count a.place.at c.word-code.result a.registers.now c.word-code.ensures.0 c.if-code-place.false c.if-place-eq0.true in
    record {
      reply = put_ends spent a.count (record { position = a.place.at; kept = []; pending = none }) e refl refl put.cells put.state;
      place = λ w. placed_as a.path.now e refl;
    }

pub question_at-requires : goal.question_at-requires
unfolding code_count
question_at-requires c = omega (arith, c.word-code.ensures.0, c.if-code-place.false)

pub returns-in-Some : goal.returns-in-Some
unfolding code_count
returns-in-Some c =
    let a = c.args in
    let q = c.in-Some.question in
    let put = c.put-in-Some.ensures in
    let e =
    plain_question a.inputs.now a.program.now a.place.left a.count a.place.at c.word-code.result a.registers.now c.word-code.ensures.0 q c.if-code-place.false c.if-place-eq0.false
    (c.in-Some.ensures.puts a.inputs.now) in
    record {
      reply = put_ends (asks (question_of q)) a.count (record { position = a.place.at; kept = []; pending = some (question_of q) }) e refl refl put.cells put.state;
      place = λ w. placed_as a.path.now e refl;
    }

pub returns : goal.returns
returns c =
    let a = c.args in
    let reply = c.rest-reply in
    let put = c.put_reply.ensures in
    record {
      reply = reply_ends a.program.now reply.result _ _ a.cells.now _ _ reply.ensures.reply put.number put.cells put.state;
      place = λ v. placed_as a.path.now reply.ensures.reply (reply.ensures.place v);
    }
