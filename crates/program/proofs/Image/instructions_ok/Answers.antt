use mathlib.Core.Path.{sym, ap, ◌∙◌}
use Prim.Native.Nat.{ℕ, ◌+◌}
use native.Mathlib.Omega.{arith}
use lib.Dec.{eqb}
use Rattle.formula.specs.Text.{half_at}
use Rattle.program.proofs.Pass.{code_end, code_start, code_step, entries_in}
use Rattle.program.proofs.Image.instructions_ok.Goals as goal

pub loop-number-init : goal.loop-number-init
loop-number-init c = record { place = omega arith; fits = omega arith; left = sym (code_start c.args.self.now.bytes.now) }

pub loop-number-preserved : goal.loop-number-preserved
loop-number-preserved c =
    let image = c.args.self.now in
    let b = image.bytes.now in
    let loop = c.loop-number in
    let count = c.known_half-in-loop-number in
    let k = count.ensures.0 ∙ ap (λ (x : ℕ). half_at b (x + 2)) loop.invariant.place in
    let ok = sym c.is_ok.ensures ∙ c.if-not-is_ok.false in
    record {
      place = omega arith;
      fits = omega (arith, image.whole.numbers.entries, entries_in b loop.number loop.next count.result k ok);
      left = loop.invariant.left ∙ code_step b loop.number loop.next count.result (omega (arith, c.loop-number-test.true, image.whole.numbers.code)) k ∙ rw ok;
    }

pub returns-then-not-is_ok : goal.returns-then-not-is_ok
returns-then-not-is_ok c =
    let image = c.args.self.now in
    let b = image.bytes.now in
    let loop = c.loop-number in
    let count = c.known_half-in-loop-number in
    let k = count.ensures.0 ∙ ap (λ (x : ℕ). half_at b (x + 2)) loop.invariant.place in
    sym (loop.invariant.left
    ∙ code_step b loop.number loop.next count.result (omega (arith, c.loop-number-test.true, image.whole.numbers.code)) k
    ∙ rw (sym c.is_ok.ensures ∙ c.if-not-is_ok.true))

pub returns : goal.returns
returns c =
    let image = c.args.self.now in
    let b = image.bytes.now in
    sym (c.loop-number.invariant.left
    ∙ code_end b c.loop-number.number c.loop-number.next (omega (arith, c.loop-number-test.false, image.whole.numbers.code))
    ∙ ap (λ (x : ℕ). eqb c.loop-number.next x) (sym image.whole.numbers.entries))
