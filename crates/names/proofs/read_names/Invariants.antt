use mathlib.Core.Path.{◌≡◌}
use Prim.Native.Nat.{◌-◌, ◌*◌, ◌≤◌}
use lib.ListN.{length, take}
use Rattle.names.specs.Lines.{Listed, Placed}
use Rattle.names.proofs.Listing.{Listing}
use Rattle.names.proofs.read_names.Given as goal

abbrev pub invariant-loop-kind : goal.invariant-loop-kind
invariant-loop-kind l = record {
  listing : Listing l.line (take l.count l.names) l.kinds l.count l.at;
  listed : Listed l.line (take l.count l.names);
  placed : Placed (take l.count l.names) l.taken;
  rooms : (length l.names ≡ 256) × (length l.taken ≡ 1024);
  near : l.at ≤ 67 * l.count;
}

abbrev pub decreases-loop-kind : goal.decreases-loop-kind
decreases-loop-kind l = length l.line - l.at
