-- Each entry of the list names a register.
use Rattle.std.proofs.Common.{arith, ℕ, ◌+◌, ◌*◌, refl, rules, tests, ap, ◌∙◌}
use Rattle.std.proofs.lemmas.Iterator.{YieldsList-from_range}
use Rattle.std.proofs.lemmas.Iterator.Search.{all_from_yields_List}
use Rattle.program.proofs.Listed.{all_listed, listed}
use Rattle.program.proofs.Ops.{entry_place}
use Rattle.program.proofs.Instruction.list_below.Goals as goal

pub returns : goal.returns
returns c =
    let i = c.args.self.now in
    let b = i.image.bytes.now in
    let place = λ (x : ℕ). ap (λ (y : ℕ). y + 4 * i.next + 4 * x) c.record.ensures ∙ entry_place b i.image.header i.next x i.image.whole.numbers in
    all_from_yields_List (listed b i.image.header.registers i.next) _ _ _ c.all.ensures.ran (YieldsList-from_range 0 i.count i.count refl (omega arith))
    (λ x y q k. rw (← place x) (search (rules, tests)))
    ∙ all_listed b i.image.header.registers i.next i.count
