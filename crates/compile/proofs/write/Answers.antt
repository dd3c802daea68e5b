use mathlib.Core.Path.{◌≡◌}
use native.Mathlib.Omega.{arith}
use lib.ListN.{length}
use Rattle.lower.specs.Low.{low_of}
use Rattle.lower.proofs.Results.{as_done, as_faulty}
use Rattle.compile.proofs.Entries.{counted_room, whole_counts}
use Rattle.compile.proofs.Whole as whole
use Rattle.compile.proofs.write.Goals as goal

pub count-counts-requires : goal.count-counts-requires
count-counts-requires c = c.requires.well

pub overflow_mul-table : goal.overflow_mul-table
overflow_mul-table c = omega (arith, counted_room c.args.p.now c.count-counts.result c.requires c.count-counts.ensures)

pub overflow_add-table : goal.overflow_add-table
overflow_add-table c = omega (arith, counted_room c.args.p.now c.count-counts.result c.requires c.count-counts.ensures)

pub overflow_mul-layout : goal.overflow_mul-layout
overflow_mul-layout c = omega (arith, counted_room c.args.p.now c.count-counts.result c.requires c.count-counts.ensures)

pub overflow_add-layout : goal.overflow_add-layout
overflow_add-layout c = omega (arith, counted_room c.args.p.now c.count-counts.result c.requires c.count-counts.ensures)

pub put_record-requires : goal.put_record-requires
put_record-requires c = omega (arith, counted_room c.args.p.now c.count-counts.result c.requires c.count-counts.ensures)

pub node-requires : goal.node-requires
node-requires c =
    let args = c.args in
    let counted = whole_counts args.b.now args.d c.count-counts.result c.count-counts.ensures in
    record {
      ready = whole.ready args.b.now args.d (length args.path.now) args.p.now args.kinds.now args.generated c.count-counts.result c.requires counted c.put_record.new.p
          c.put_record.ensures;
      formed = c.requires.well;
    }

pub put-requires : goal.put-requires
put-requires c = omega (arith, counted_room c.args.p.now c.count-counts.result c.requires c.count-counts.ensures, c.node.auto.p, c.put_record.auto.p)

pub overflow_mul-counts : goal.overflow_mul-counts
overflow_mul-counts c = omega (arith, counted_room c.args.p.now c.count-counts.result c.requires c.count-counts.ensures)

pub overflow_add-layout-in-Ok : goal.overflow_add-layout-in-Ok
overflow_add-layout-in-Ok c = omega (arith, counted_room c.args.p.now c.count-counts.result c.requires c.count-counts.ensures)

pub zero_from-requires : goal.zero_from-requires
zero_from-requires c = omega (arith, counted_room c.args.p.now c.count-counts.result c.requires c.count-counts.ensures, c.put.auto.p, c.node.auto.p, c.put_record.auto.p)

pub returns-in-Ok : goal.returns-in-Ok
returns-in-Ok c =
    let args = c.args in
    let node = c.node in
    let counted = whole_counts args.b.now args.d c.count-counts.result c.count-counts.ensures in
    whole.program_answers args.b.now args.d (length args.path.now) args.p.now args.kinds.now args.generated c.count-counts.result c.requires counted c.put_record.new.p
    c.put_record.ensures node.new.p (low_of node.result node.new.c) node.ensures c.in-Ok.v node.new.c (as_done _ c.in-Ok.is) c.kind_of.result
    c.kind_of.ensures c.put.new.p c.zero_from.new.out args.path.now c.put.ensures c.zero_from.ensures

pub write_path-requires : goal.write_path-requires
write_path-requires c =
    let args = c.args in
    let node = c.node in
    let counted = whole_counts args.b.now args.d c.count-counts.result c.count-counts.ensures in
    (whole.writes args.b.now args.d (length args.path.now) args.p.now args.kinds.now args.generated c.count-counts.result c.requires counted c.put_record.new.p
    c.put_record.ensures node.new.p (low_of node.result node.new.c) node.ensures _ _ (as_faulty _ c.in-Err.is) c.requires.places
    (omega (arith, node.auto.p, c.put_record.auto.p, c.well_formed.1.0.0))).0

pub returns-in-Err : goal.returns-in-Err
returns-in-Err c =
    let args = c.args in
    let node = c.node in
    let counted = whole_counts args.b.now args.d c.count-counts.result c.count-counts.ensures in
    let same : length node.new.p ≡ length args.p.now = omega (arith, node.auto.p, c.put_record.auto.p) in
    let fault = as_faulty node.new.c c.in-Err.is in
    let fits =
    (whole.writes args.b.now args.d (length args.path.now) args.p.now args.kinds.now args.generated c.count-counts.result c.requires counted c.put_record.new.p
    c.put_record.ensures node.new.p (low_of node.result node.new.c) node.ensures _ _ fault c.requires.places (omega (arith, same, c.well_formed.1.0.0))).1 in
    whole.fault_answers args.b.now args.d (length args.path.now) args.p.now args.kinds.now args.generated c.count-counts.result c.requires counted c.put_record.new.p
    c.put_record.ensures node.new.p (low_of node.result node.new.c) node.ensures _ _ fault c.zero_from-in-Err.new.out args.path.now c.write_path.new.out
    same c.zero_from-in-Err.ensures (c.write_path.ensures fits)
