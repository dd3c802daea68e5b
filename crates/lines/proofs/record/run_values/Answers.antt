use Rattle.lines.proofs.Runs.{ran, zeroed_first, zeroed_long, zeroed_room}
use Rattle.layout.specs.Decode.{code_count, register_total}
use Rattle.arithmetic.specs.Value.{0f}
use Rattle.std.proofs.Common.{ℕ, ◌++◌, ◌≤◌, take, drop, length, replicate, sym, refl, ap, ◌∙◌, arith, length-take-le}
use Rattle.lines.proofs.record.run_values.Goals as goal

pub slice_bounds-fill-end : goal.slice_bounds-fill-end
unfolding register_total
slice_bounds-fill-end c = omega (arith, c.word-n.ensures.0, c.requires)

pub slice_bounds-fill-end-2 : goal.slice_bounds-fill-end-2
unfolding register_total
slice_bounds-fill-end-2 c = sym (length-take-le c.word-n.result c.args.regs.now (omega (arith, c.word-n.ensures.0, c.requires)))

pub slice_bounds-run_reply-end : goal.slice_bounds-run_reply-end
unfolding register_total
slice_bounds-run_reply-end c =
    zeroed_room c.args.regs.now c.word-n.result c.fill.new.self (omega (arith, c.word-n.ensures.0, c.requires)) c.fill.ensures.len

pub slice_bounds-run_reply-end-2 : goal.slice_bounds-run_reply-end-2
unfolding register_total
slice_bounds-run_reply-end-2 c =
    let regs = c.args.regs.now in
    let n = c.word-n.result in
    let h : n ≤ length regs = omega (arith, c.word-n.ensures.0, c.requires) in
    sym (ap length (zeroed_first regs n c.fill.new.self h c.fill.ensures.len) ∙ zeroed_long regs n c.fill.new.self h c.fill.ensures.len)

pub returns : goal.returns
unfolding register_total code_count lib.Ieee.of_bits
returns c =
    let args = c.args in
    let pre = c.requires in
    let n = c.word-n in
    let zeros = c.fill.new.self in
    let reply = c.run_reply-reply in
    let h : n.result ≤ length args.regs.now = omega (arith, n.ensures.0, pre) in
    let first = zeroed_first args.regs.now n.result zeros h c.fill.ensures.len in
    let long = length-take-le n.result args.regs.now h in
    let all = first ∙ c.fill.ensures.after (λ y e. e) ∙ ap (λ (k : ℕ). replicate k 0f) (long ∙ n.ensures.0) in record {
      runs = ran args.p.bytes.now args.p.sound args.inputs.now (take n.result (zeros ++ drop n.result args.regs.now)) reply.new.regs c.word-budget.result
          reply.result _ all c.word-budget.ensures.0 (reply.ensures.reply args.p.sound 8192 (omega arith)) refl;
      place = reply.ensures.place args.p.sound;
    }
