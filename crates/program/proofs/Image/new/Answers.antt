use Rattle.std.proofs.Common.{refl, rules}
use Rattle.program.proofs.Pass.{header_is, short_header}
use Rattle.program.proofs.Image.new.Goals as goal

pub returns-then-bytes-lt-HEADER_SIZE : goal.returns-then-bytes-lt-HEADER_SIZE
returns-then-bytes-lt-HEADER_SIZE c = short_header c.args.bytes.now c.if-bytes-lt-HEADER_SIZE.true

pub returns-then-known_word-ne-MAGIC : goal.returns-then-known_word-ne-MAGIC
returns-then-known_word-ne-MAGIC c = rw (header_is c.args.bytes.now c.read-header.result c.read-header.ensures.0 c.if-bytes-lt-HEADER_SIZE.false) (search rules)

pub returns-then-bytes-size : goal.returns-then-bytes-size
returns-then-bytes-size c = rw (header_is c.args.bytes.now c.read-header.result c.read-header.ensures.0 c.if-bytes-lt-HEADER_SIZE.false) (search rules)

pub returns-then-header-eq0 : goal.returns-then-header-eq0
returns-then-header-eq0 c = rw (header_is c.args.bytes.now c.read-header.result c.read-header.ensures.0 c.if-bytes-lt-HEADER_SIZE.false) (search rules)

pub returns : goal.returns
returns c = (rw (header_is c.args.bytes.now c.read-header.result c.read-header.ensures.0 c.if-bytes-lt-HEADER_SIZE.false) (search rules), refl)
