use Rattle.std.proofs.Common.{◌+◌, ◌/◌, arith}
use lib.Bits.{and_le_r}
use Rattle.values.proofs.Eights.{digits_le, spelled_bytes}
use Rattle.values.proofs.words.spelled.Goals as goal

pub overflow_add-tens : goal.overflow_add-tens
overflow_add-tens c = omega (arith, digits_le c.args.digits c.ranges.digits.fits c.requires)

pub overflow_add-result : goal.overflow_add-result
overflow_add-result c = omega (arith, digits_le c.args.digits c.ranges.digits.fits c.requires)

pub overflow_mul-result : goal.overflow_mul-result
overflow_mul-result c = omega (arith, and_le_r ((c.args.digits + 434041037028460038) / 16) 72340172838076673)

pub overflow_add-result-2 : goal.overflow_add-result-2
overflow_add-result-2 c = omega (arith, digits_le c.args.digits c.ranges.digits.fits c.requires, and_le_r ((c.args.digits + 434041037028460038) / 16) 72340172838076673)

pub returns : goal.returns
returns c = spelled_bytes c.args.digits c.ranges.digits.fits c.requires
