use mathlib.Core.Path.{refl}
use Prim.Native.Nat.{◌+◌}
use native.Mathlib.Omega.{arith}
use Rattle.formula.specs.Text.{little_endian}
use Rattle.derivative.specs.Records.{record_bytes}
use Rattle.writer.proofs.Over.{next_over}
use Rattle.differentiate.proofs.put_origin.Goals as goal

pub returns : goal.returns
unfolding record_bytes
returns c =
    next_over c.args.out.now _ _ c.args.at (c.args.at + 4) (little_endian 4 c.args.rule) (little_endian 4 c.args.number) c.put_word.ensures c.put_word-2.ensures refl
    (omega (arith, c.requires))
