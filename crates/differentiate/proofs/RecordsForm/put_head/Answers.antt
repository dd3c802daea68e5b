use Prim.Native.Nat.{ℕ}
use native.Mathlib.Omega.{arith}
use mathlib.Core.Path.{ap}
use Rattle.derivative.specs.Records.{by_rule, record_bytes}
use Rattle.differentiate.proofs.Lists.{as_text, written_over}
use Rattle.differentiate.proofs.Recorded.{record_length}
use Rattle.differentiate.proofs.RecordsForm.put_head.Goals as goal

pub returns : goal.returns
returns c =
    let number = c.args.node.now.number in
    as_text _ _ _ _ _ (ap (λ (x : ℕ). record_bytes (by_rule x number)) c.rule.ensures)
    (written_over (record_bytes (by_rule c.rule.result number)) c.args.out.now _ _ (omega (arith, record_length (by_rule c.rule.result number)))
    c.put_origin.ensures)
