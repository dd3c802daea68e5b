use Rattle.std.proofs.Common.{◌/◌, arith}
use lib.Bits.{and_le_r}
use Rattle.values.proofs.Eights.{fours_in, pairs_in, written, written_below}
use Rattle.values.proofs.words.write_eight.Goals as goal

pub overflow_mul-pairs : goal.overflow_mul-pairs
overflow_mul-pairs c = let f = fours_in c.args.n in omega (arith, and_le_r f 1095216660735, and_le_r (f / 256) 1095216660735)

pub overflow_add-pairs : goal.overflow_add-pairs
overflow_add-pairs c = let f = fours_in c.args.n in omega (arith, and_le_r f 1095216660735, and_le_r (f / 256) 1095216660735)

pub overflow_mul-digits : goal.overflow_mul-digits
overflow_mul-digits c = let p = pairs_in (fours_in c.args.n) in omega (arith, and_le_r p 4222189076152335, and_le_r (p / 16) 4222189076152335)

pub overflow_add-digits : goal.overflow_add-digits
overflow_add-digits c = let p = pairs_in (fours_in c.args.n) in omega (arith, and_le_r p 4222189076152335, and_le_r (p / 16) 4222189076152335)

pub spelled-requires : goal.spelled-requires
spelled-requires c = written_below c.args.n

pub returns : goal.returns
returns c = written c.args.n c.spelled.result c.spelled.ensures
