use Rattle.std.proofs.Common.{◌-◌, length}
use Rattle.lines.proofs.Listings.{ListingOn}
use Rattle.lines.proofs.list_values.Given as goal

abbrev pub invariant-loop-used : goal.invariant-loop-used
invariant-loop-used l =
    let i = l.initial in
    ListingOn l.p l.input i.line i.values i.regs i.out l.values l.regs l.out l.used l.length l.line

abbrev pub decreases-loop-used : goal.decreases-loop-used
decreases-loop-used l = length l.input - l.used
