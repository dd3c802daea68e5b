use Rattle.std.proofs.Common.{rules, ◌≡◌, ℕ, ◌+◌, ◌*◌}
use Rattle.std.specs.Prelude.{IfSome}
use Rattle.formula.specs.Text.{long_at}
use Rattle.formula.specs.Node.{node_size}
use Rattle.survey.proofs.Rows.{literal_read}
use Rattle.survey.proofs.Node.literal.Goals as goal

pub returns : goal.returns
returns c =
    let node = c.args.self.now in
    let read : IfSome c.then.result (λ (x : ℕ). x ≡ long_at node.formula.now (node_size * node.number + 8)) = search rules in
    literal_read node.formula.now node.number node.owned.formed c.byte.result c.then.result c.byte.ensures c.then.ensures.variant read
