use Rattle.lines.proofs.Texts.{wrote}
use Rattle.lines.specs.Text.{Wrote, shown}
use Rattle.run.specs.Views.{Writable, answer_of}
use Rattle.run.specs.declared.Answer.{Answer}
use Rattle.listing.specs.Legs.{line_of}
use Rattle.formula.specs.Text.{ascii}
use Rattle.std.proofs.Common.{sym, subst, arith}
use Rattle.lines.proofs.text.put_answer.Goals as goal

pub put_value-requires : goal.put_value-requires
put_value-requires c = omega (arith, c.requires.1)

pub put_question-requires : goal.put_question-requires
put_question-requires c = omega (arith, c.requires.1)

pub put_bytes-requires : goal.put_bytes-requires
put_bytes-requires c = omega (arith, c.requires.1)

pub put_domain-requires : goal.put_domain-requires
put_domain-requires c = let w = subst (λ (a : Answer). Writable c.args.p.bytes.now 8192 a) c.in-Domain.is c.requires.0 in (w.0, w.1, c.requires.1)

pub put_bad-requires : goal.put_bad-requires
put_bad-requires c = omega (arith, c.requires.1)

pub returns-in-Value : goal.returns-in-Value
returns-in-Value c =
    let args = c.args in
    let put_value = c.put_value in record {
      wrote = subst (λ (a : Answer). Wrote args.out.now args.at (shown (line_of (answer_of args.p.bytes.now a) 0)) put_value.new.out put_value.result)
          (sym c.in-Value.is) put_value.ensures;
      room = omega (arith, put_value.ensures.ends);
    }

pub returns-in-Question : goal.returns-in-Question
returns-in-Question c =
    let args = c.args in
    let put_question = c.put_question in record {
      wrote = subst
          (λ (a : Answer). Wrote args.out.now args.at (shown (line_of (answer_of args.p.bytes.now a) 0)) put_question.new.out put_question.result)
          (sym c.in-Question.is) put_question.ensures.wrote;
      room = omega (arith, put_question.ensures.room);
    }

pub returns-in-Spent : goal.returns-in-Spent
returns-in-Spent c =
    let args = c.args in
    let put_bytes = c.put_bytes in record {
      wrote = subst (λ (a : Answer). Wrote args.out.now args.at (shown (line_of (answer_of args.p.bytes.now a) 0)) put_bytes.new.out put_bytes.result)
          (sym c.in-Spent.is) (wrote args.out.now args.at (ascii "spent,") put_bytes.new.out put_bytes.result put_bytes.ensures);
      room = omega (arith, put_bytes.ensures.0);
    }

pub returns-in-Domain : goal.returns-in-Domain
returns-in-Domain c =
    let args = c.args in
    let put_domain = c.put_domain in record {
      wrote = subst
          (λ (a : Answer). Wrote args.out.now args.at (shown (line_of (answer_of args.p.bytes.now a) 0)) put_domain.new.out put_domain.result)
          (sym c.in-Domain.is) put_domain.ensures.wrote;
      room = put_domain.ensures.room;
    }

pub returns-in-Refused : goal.returns-in-Refused
returns-in-Refused c =
    let args = c.args in
    let put_bad = c.put_bad in record {
      wrote = subst (λ (a : Answer). Wrote args.out.now args.at (shown (line_of (answer_of args.p.bytes.now a) 0)) put_bad.new.out put_bad.result)
          (sym c.in-Refused.is) put_bad.ensures.wrote;
      room = omega (arith, put_bad.ensures.room);
    }
