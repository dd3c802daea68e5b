use Rattle.lines.proofs.Texts.{mid_length, path_wrote, wrote, wrote_then}
use Rattle.program.proofs.Records.{text_length}
use Rattle.program.proofs.Pass.{valid_records}
use Rattle.layout.specs.Decode.{path_of}
use Rattle.formula.specs.Path.{text}
use Rattle.formula.specs.Text.{ascii}
use Rattle.std.proofs.Common.{◌+◌, ◌≤◌, length, sym, ◌∙◌, arith}
use Rattle.lines.proofs.text.put_domain.Goals as goal

pub path_length-n-requires : goal.path_length-n-requires
path_length-n-requires c = c.requires.0

pub returns : goal.returns
returns c =
    let args = c.args in
    let pre = c.requires in
    let put_bytes = c.put_bytes-from in
    let path_length = c.path_length-n in
    let write_place = c.write_place in
    let the_path_of = path_of args.p.bytes.now args.k in
    let l = text_length args.p.bytes.now (valid_records args.p.bytes.now args.p.sound) args.k pre.0 ∙ sym path_length.ensures in
    let h : put_bytes.result + path_length.result ≤ length put_bytes.new.out = omega (arith, path_length.ensures, put_bytes.ensures.0, put_bytes.auto.out, pre.1, pre.2) in
    let m = mid_length put_bytes.result path_length.result put_bytes.new.out h in record {
      wrote = wrote_then args.out.now args.at (ascii "domain,") put_bytes.new.out put_bytes.result (text the_path_of) _
          (put_bytes.result + path_length.result) (omega (arith, put_bytes.ensures.0, pre.2))
          (wrote args.out.now args.at (ascii "domain,") put_bytes.new.out put_bytes.result put_bytes.ensures)
          (path_wrote put_bytes.new.out put_bytes.result path_length.result the_path_of write_place.new.out h l
          (write_place.ensures (args.p.sound, pre.0, omega (arith, m, path_length.ensures))));
      room = omega (arith, path_length.ensures, put_bytes.ensures.0, pre.1);
    }
