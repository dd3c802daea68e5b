use mathlib.Core.Path.{ap, ◌∙◌}
use Prim.Native.Nat.{◌/◌}
use lib.ListN.{length}
use borrow.Author.Tests.{lt-leb}
use Rattle.std.specs.Option.{is_some}
use Rattle.reader.proofs.Scan.{whole}
use Rattle.reader.proofs.Extents.{too_long, as_deep}
use Rattle.reader.proofs.is_small.Goals as goal

pub end_of-requires : goal.end_of-requires
end_of-requires c = (whole c.args.b.now c.requires).0

pub returns-then-b-nodes : goal.returns-then-b-nodes
returns-then-b-nodes c =
    c.is_some.ensures ∙ ap is_some c.end_of.ensures ∙ as_deep c.args.b.now c.args.nodes c.args.levels c.requires c.if-b-nodes.true

pub returns-else-b-nodes : goal.returns-else-b-nodes
returns-else-b-nodes c =
    lt-leb (length c.args.b.now / 16) c.args.nodes c.if-b-nodes.false ∙ too_long c.args.b.now c.args.nodes c.args.levels c.if-b-nodes.false
