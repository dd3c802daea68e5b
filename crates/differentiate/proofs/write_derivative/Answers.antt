use Rattle.survey.specs.Table.{tree}
use Rattle.differentiate.specs.Written.{bytes, recorded, primal_bytes}
use Rattle.differentiate.proofs.Lists.{front, behind_room, behind_writes}
use Rattle.differentiate.proofs.Whole.{job_room, job_done}
use Rattle.differentiate.proofs.write_derivative.Goals as goal

pub put_primal-n-requires : goal.put_primal-n-requires
put_primal-n-requires g c =
    let m = g.F.Form.records in
    let by = c.args.by in
    let whole = tree c.args.f.now 0 in
    let diff = bytes m (recorded by.symbol by.state 0 whole) in
    let room = job_room m by.symbol by.state c.args.f.now c.args.rows.now c.args.depth c.args.out.now c.requires in
    front (primal_bytes m 0 whole) diff c.args.out.now room

pub differentiate-requires : goal.differentiate-requires
differentiate-requires g c =
    let m = g.F.Form.records in
    let by = c.args.by in
    let whole = tree c.args.f.now 0 in
    let diff = bytes m (recorded by.symbol by.state 0 whole) in
    let room = job_room m by.symbol by.state c.args.f.now c.args.rows.now c.args.depth c.args.out.now c.requires in
    record { known = c.requires.known; deep = c.requires.deep; room = behind_room c.put_primal-n.ensures diff room }

pub returns : goal.returns
returns g c =
    let m = g.F.Form.records in
    let by = c.args.by in
    let whole = tree c.args.f.now 0 in
    let diff = bytes m (recorded by.symbol by.state 0 whole) in
    let room = job_room m by.symbol by.state c.args.f.now c.args.rows.now c.args.depth c.args.out.now c.requires in
    job_done m by.symbol by.state c.args.f.now c.args.rows.now c.args.depth c.args.out.now c.requires _ _
    (behind_writes c.put_primal-n.ensures diff room c.differentiate.ensures)
