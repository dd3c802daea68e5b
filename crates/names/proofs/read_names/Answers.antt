use mathlib.Core.Path.{◌≡◌, refl, sym, ap, subst, ◌∙◌}
use mathlib.Core.Bool.{true}
use mathlib.Core.List.{List, ◌∷◌, ◌++◌, []}
use Prim.Native.Nat.{ℕ, suc, ◌+◌, ◌-◌}
use native.Mathlib.Omega.{arith}
use lib.ListN.{length, take, set, length-set}
use borrow.Author.Tests.{eqb-true, eqb-false}
use lib.Seq.{take-suc-set}
use Rattle.names.specs.Lines.{Listed, Placed}
use Rattle.names.specs.declared.Name.{Name}
use Rattle.names.proofs.Marks.{listed_more, placed_more}
use Rattle.names.proofs.Listing.{told, listing_start, listing_empty, no_entry, too_many, repeated, listing_done, listing_more}
use Rattle.names.proofs.read_names.Goals as goal

pub returns-then-is_empty : goal.returns-then-is_empty
returns-then-is_empty c = listing_empty c.args.line.now (eqb-true (length c.args.line.now) 0 (sym c.is_empty.ensures ∙ c.if-is_empty.true))

pub loop-kind-init : goal.loop-kind-init
loop-kind-init c = record {
  listing = listing_start c.args.line.now (eqb-false (length c.args.line.now) 0 (sym c.is_empty.ensures ∙ c.if-is_empty.false));
  listed = λ k d l. absurd (omega arith);
  placed = tt;
  rooms = (refl, refl);
  near = omega arith;
}

pub word_at-word-requires : goal.word_at-word-requires
word_at-word-requires c = c.loop-kind.invariant.listing.inside

pub kind_after-requires : goal.kind_after-requires
kind_after-requires c = c.word_at-word.ensures.0

pub returns-in_err-kind : goal.returns-in_err-kind
returns-in_err-kind c = c.from_residual.ensures ∙ no_entry c.args.line.now _ _ _ c.loop-kind.at c.word_at-word.result.end c.loop-kind.invariant.listing c.in_err-kind.ensures

pub returns-then-count-eq256 : goal.returns-then-count-eq256
returns-then-count-eq256 c =
    let t = told c.args.line.now c.loop-kind.at c.word_at-word.result.end c.in_ok-kind.kind c.in_ok-kind.ensures in
    too_many c.args.line.now _ _ _ c.loop-kind.at (c.word_at-word.result.end + 2) c.loop-kind.invariant.listing t.0 (c.word_at-word.result.end - c.loop-kind.at) c.in_ok-kind.kind t.1 c.if-count-eq256.true

pub overflow_cast-name-in-loop-kind : goal.overflow_cast-name-in-loop-kind
overflow_cast-name-in-loop-kind c =
    let t = told c.args.line.now c.loop-kind.at c.word_at-word.result.end c.in_ok-kind.kind c.in_ok-kind.ensures in
    omega (arith, t.1.short)

pub returns-then-comes_again : goal.returns-then-comes_again
returns-then-comes_again c =
    let t = told c.args.line.now c.loop-kind.at c.word_at-word.result.end c.in_ok-kind.kind c.in_ok-kind.ensures in
    repeated c.args.line.now _ _ _ c.loop-kind.at (c.word_at-word.result.end + 2) c.loop-kind.invariant.listing t.0 (c.word_at-word.result.end - c.loop-kind.at) c.in_ok-kind.kind t.1 c.comes_again.result c.comes_again.ensures c.if-comes_again.true

pub returns-then-end-line : goal.returns-then-end-line
returns-then-end-line c =
    let t = told c.args.line.now c.loop-kind.at c.word_at-word.result.end c.in_ok-kind.kind c.in_ok-kind.ensures in
    listing_done c.args.line.now _ _ _ c.loop-kind.at (c.word_at-word.result.end + 2) c.loop-kind.invariant.listing t.0 (c.word_at-word.result.end - c.loop-kind.at) c.in_ok-kind.kind t.1 c.comes_again.result c.comes_again.ensures c.if-comes_again.false c.if-count-eq256.false c.if-end-line.true

pub loop-kind-preserved : goal.loop-kind-preserved
loop-kind-preserved c =
    let t = told c.args.line.now c.loop-kind.at c.word_at-word.result.end c.in_ok-kind.kind c.in_ok-kind.ensures in
    let loop = c.loop-kind in
    let count = loop.count in
    let name : Name = record { start = loop.at; length = c.word_at-word.result.end - loop.at; mark = c.word_at-word.result.mark } in
    let before = take count loop.names in
    let one : count + 1 ≡ suc count = omega arith in
    let more : take (count + 1) (set loop.names count name) ≡ before ++ (name ∷ []) =
    ap (λ (k : ℕ). take k (set loop.names count name)) one
    ∙ take-suc-set loop.names count name (omega (arith, loop.invariant.rooms.0, loop.invariant.listing.few, c.if-count-eq256.false)) in
    record {
      listing = listing_more c.args.line.now _ _ _ c.loop-kind.at (c.word_at-word.result.end + 2) c.loop-kind.invariant.listing t.0 (c.word_at-word.result.end - c.loop-kind.at) c.in_ok-kind.kind t.1
          c.comes_again.result c.comes_again.ensures c.if-comes_again.false c.if-count-eq256.false name _ refl more c.if-end-line.false;
      listed = subst (λ (ns : List Name). Listed c.args.line.now ns) (sym more)
          (listed_more c.args.line.now before name loop.invariant.listed (record { inside = t.1.inside; marked = c.word_at-word.ensures.1 }));
      placed = subst (λ (ns : List Name). Placed ns (set loop.taken c.place.result true)) (sym more)
          (subst (λ (i : ℕ). Placed (before ++ (name ∷ [])) (set loop.taken i true)) (sym c.place.ensures)
          (placed_more before loop.taken name loop.invariant.rooms.1 loop.invariant.placed));
      rooms = (length-set loop.names count name ∙ loop.invariant.rooms.0, length-set loop.taken c.place.result true ∙ loop.invariant.rooms.1);
      near = omega (arith, loop.invariant.near, t.1.short, c.word_at-word.ensures.0.from);
    }
