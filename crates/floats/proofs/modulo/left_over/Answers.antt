use Rattle.std.proofs.Common.{◌≡◌, ◌+◌, ◌-◌, ◌*◌, ◌%◌, ◌^◌, sym, ap₂, ◌∙◌, mod-lt, arith}
use Rattle.std.proofs.lemmas.Nat.{mul-mod_first}
use Rattle.floats.proofs.Remainders.{larger, more, none_more, smaller}
use Rattle.floats.proofs.modulo.left_over.Goals as goal

pub returns-then-a-b : goal.returns-then-a-b
returns-then-a-b c =
    let a = c.of-a.result in
    let b = c.of-b.result in
    let x = c.of-a.ensures in
    let y = c.of-b.ensures in (
      c.requires.0,
      x.2 ∙ smaller a.digits a.exp b.digits b.exp x.0 (y.4 (omega (arith, c.if-a-b.true))) c.if-a-b.true ∙ ap₂ (λ p q. p % q) (sym x.2) (sym y.2),
    )

pub loop-init : goal.loop-init
loop-init c =
    let few = mod-lt c.of-a.result.digits (c.of-b.ensures.3 c.requires.1) in
    record { few = few; is = none_more (c.of-a.result.digits % c.of-b.result.digits) c.of-b.result.digits few }

pub loop-preserved : goal.loop-preserved
loop-preserved c =
    let by = c.of-b.result.digits in record {
      few = mod-lt (c.loop.left * 2048) (c.of-b.ensures.3 c.requires.1);
      is = more (c.of-a.result.digits % by) by (11 * c.loop.counter) 11 (11 * (c.loop.counter + 1)) c.loop.left c.loop.invariant.is (omega arith);
    }

pub loop-2-init : goal.loop-2-init
loop-2-init c = record { few = c.loop.invariant.few; is = none_more c.loop.left c.of-b.result.digits c.loop.invariant.few }

pub loop-2-preserved : goal.loop-2-preserved
loop-2-preserved c =
    let by = c.of-b.result.digits in record {
      few = mod-lt (c.loop-2.left * 2) (c.of-b.ensures.3 c.requires.1);
      is = more c.loop.left by c.loop-2.counter 1 (c.loop-2.counter + 1) c.loop-2.left c.loop-2.invariant.is (omega arith);
    }

pub returns : goal.returns
returns c =
    let a = c.of-a in
    let b = c.of-b in
    let by = b.result.digits in
    let places = a.result.exp - b.result.exp in
    let all : places ≡ 11 * c.loop.counter + c.loop-2.counter = omega arith in
    let left : c.loop-2.left ≡ a.result.digits * 2 ^ places % by =
    c.loop-2.invariant.is ∙ more (a.result.digits % by) by (11 * c.loop.counter) c.loop-2.counter places c.loop.left c.loop.invariant.is all
    ∙ mul-mod_first a.result.digits (2 ^ places) by in (
      c.packed.ensures.0,
      c.packed.ensures.1 ∙ larger a.result.digits a.result.exp by b.result.exp c.loop-2.left (b.ensures.3 c.requires.1) c.if-a-b.false left
          ∙ ap₂ (λ p q. p % q) (sym a.ensures.2) (sym b.ensures.2),
    )
