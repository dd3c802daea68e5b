-- What is owed after a program was made, or was not.
use mathlib.Core.Path.{◌≡◌, refl, sym, ap, ◌∙◌, subst}
use mathlib.Core.Bool.{Bool, true, false, ◌||◌}
use mathlib.Core.List.{List}
use mathlib.Core.Option.{Option, none}
use Prim.Native.Nat.{ℕ, ◌≤◌, ◌<◌}
use native.Mathlib.Omega.{arith}
use lib.ListN.{length, length-set, set}
use lib.Dec.{ltb}
use lib.Ieee.{Float}
use borrow.Author.Tests.{le-ltb, lt-ltb}
use Rattle.refusals.specs.Numbers.{slice_too_short}
use Rattle.formula.specs.Path.{Path, placed}
use Rattle.formula.specs.Formula.{Formula}
use Rattle.formula.specs.Term.{term}
use Rattle.machine.specs.Check.{Context}
use Rattle.machine.specs.Compile.{Compiled, accepted, compile}
use Rattle.machine.specs.Compile as Compile
use Rattle.layout.specs.Decode.{program_at}
use Rattle.layout.specs.Image.{image}
use Rattle.reader.proofs.Bytes.{Bytes}
use Rattle.derivative.specs.Derive.{Derived, Lengths, derive, derived, formula_refused, formula_refused_at}
use Rattle.derivative.specs.Derive as Derive
use Rattle.derive.specs.Outcome.{lengths}
use Rattle.demand.specs.Listed.{play_at}
use Rattle.demand.specs.declared.calls.Call as Code
use Rattle.demand.proofs.Lasts.{demand}
use Rattle.demand.specs.Made.{Made, made, make, of_compiled, of_derived, place_of, program_left, refused, refused_at, tree_left, list_left}
use Rattle.demand.proofs.Sources.{source}
use Rattle.vebrostin.specs.Calls.{Compiles, Derives, Leaves, Outcome, compile_node, compile_number, compile_outcome, derive_node, derive_number, derive_outcome, node_place, report_length, report_short, reported, short, with_room}
use Rattle.vebrostin.proofs.Outcomes.{roomy}
use Rattle.hosted.specs.Hosted.{asked, host_at, made_node, made_number}
use Rattle.hosted.specs.Owed.{Follows, Makes, Owes}
use Rattle.demand.specs.declared.Wanted.{Wanted}
use Rattle.compile.proofs.Numbers.{Numbered}
use Rattle.demand.proofs.Numbers.{Told, told}
use Rattle.hosted.proofs.Loops.{host_short}

-- ---- the making

compiled_number : (X : Compiled) → compile_number X ≡ made_number (of_compiled X)
compiled_number (Compile.refused n place) = refl
compiled_number (Compile.refused_at n k) = refl
compiled_number (accepted f ss) = refl

compiled_node : (X : Compiled) → compile_node X ≡ made_node (of_compiled X)
compiled_node (Compile.refused n place) = refl
compiled_node (Compile.refused_at n k) = refl
compiled_node (accepted f ss) = refl

compiled_place : (X : Compiled) → Compile.place_of X ≡ place_of (of_compiled X)
compiled_place (Compile.refused n place) = refl
compiled_place (Compile.refused_at n k) = refl
compiled_place (accepted f ss) = refl

derived_number : (X : Derived) → derive_number X ≡ made_number (of_derived X)
derived_number (formula_refused n place) = refl
derived_number (formula_refused_at n k) = refl
derived_number (Derive.refused n place) = refl
derived_number (derived d rs ss) = refl

derived_node : (X : Derived) → derive_node X ≡ made_node (of_derived X)
derived_node (formula_refused n place) = refl
derived_node (formula_refused_at n k) = refl
derived_node (Derive.refused n place) = refl
derived_node (derived d rs ss) = refl

derived_place : (X : Derived) → Derive.place_of X ≡ place_of (of_derived X)
derived_place (formula_refused n place) = refl
derived_place (formula_refused_at n k) = refl
derived_place (Derive.refused n place) = refl
derived_place (derived d rs ss) = refl

-- "1", which is asked for before anything else
one : Numbered slice_too_short
one = record { least = omega arith; most = omega arith; number = refl; node = refl }

asked_compiled : (few : Bool) (X : Compiled)
    → of_compiled (with_room few (Compile.refused slice_too_short none) X) ≡ with_room few (refused slice_too_short none) (of_compiled X)
asked_compiled true X = refl
asked_compiled false X = refl

compiled_program : (few : Bool) (X : Compiled) (p : List ℕ)
    → Compile.program_after image (with_room few (Compile.refused slice_too_short none) X) p ≡ with_room few p (Compile.program_after image X p)
compiled_program true X p = refl
compiled_program false X p = refl

asked_derived : (few : Bool) (X : Derived)
    → of_derived (with_room few (formula_refused slice_too_short none) X) ≡ with_room few (refused slice_too_short none) (of_derived X)
asked_derived true X = refl
asked_derived false X = refl

derived_program : (few : Bool) (X : Derived) (p : List ℕ)
    → Derive.program_after image (with_room few (formula_refused slice_too_short none) X) p ≡ with_room few p (Derive.program_after image X p)
derived_program true X p = refl
derived_program false X p = refl

derived_tree : (few : Bool) (X : Derived) (t : List ℕ)
    → Derive.tree_after (with_room few (formula_refused slice_too_short none) X) t ≡ with_room few t (Derive.tree_after X t)
derived_tree true X t = refl
derived_tree false X t = refl

derived_list : (few : Bool) (X : Derived) (l : List ℕ)
    → Derive.list_after (with_room few (formula_refused slice_too_short none) X) l ≡ with_room few l (Derive.list_after X l)
derived_list true X l = refl
derived_list false X l = refl

as_it_was : (few : Bool) (t : List ℕ) → t ≡ with_room few t t
as_it_was true t = refl
as_it_was false t = refl

module _ (b names q q' t t' l l' p p' u u' : List ℕ) (number : ℕ) where
  abbrev few : Bool
  few = report_short u

  abbrev lens : Lengths
  lens = lengths t l p

  abbrev pub Done : Wanted ℕ → Type 0
  Done w =
      let X = asked u (make b names w (length q) lens) in
      (Makes X number q q' × (u' ≡ reported (made_node X) u))
      × ((t' ≡ with_room few t (tree_left b names w (length q) lens t))
      × (l' ≡ with_room few l (list_left b names w (length q) lens l))
      × (p' ≡ with_room few p (program_left b names w (length q) lens p)))

  pub formula_done : (w : Wanted ℕ) → w ≡ Wanted.Formula → t' ≡ t → l' ≡ l → Compiles (compile_outcome b names (length q) (length p) u) number q q' p p' u u' → Done w
  formula_done w ew et el h =
      let X = compile_outcome b names (length q) (length p) u in
      let C = compile b names (length q) (length p) in
      let e : of_compiled X ≡ asked u (of_compiled C) = asked_compiled few C in
      subst (λ (v : Wanted ℕ). Done v) (sym ew) (
        ((h.0 ∙ compiled_number X ∙ ap made_number e, h.1 ∙ ap (λ (o : Option Path). placed o q) (compiled_place X ∙ ap place_of e)), h.3 ∙ ap (λ (k : ℕ). reported k u) (compiled_node X ∙ ap made_node e)),
        (et ∙ as_it_was few t, el ∙ as_it_was few l, h.2 ∙ compiled_program few C p),
      )

  pub derivative_done : (w : Wanted ℕ) (s : ℕ) → w ≡ Wanted.Derivative s → Derives (derive_outcome b names s (length q) lens u) number q q' t t' l l' p p' u u' → Done w
  derivative_done w s ew h =
      let X = derive_outcome b names s (length q) lens u in
      let D = derive b names s (length q) lens in
      let e : of_derived X ≡ asked u (of_derived D) = asked_derived few D in
      subst (λ (v : Wanted ℕ). Done v) (sym ew) (
        ((h.0 ∙ derived_number X ∙ ap made_number e, h.1 ∙ ap (λ (o : Option Path). placed o q) (derived_place X ∙ ap place_of e)), h.5 ∙ ap (λ (k : ℕ). reported k u) (derived_node X ∙ ap made_node e)),
        (h.2 ∙ derived_tree few D t, h.3 ∙ derived_list few D l, h.4 ∙ derived_program few D p),
      )

-- ---- a refusal

module _ (program : List ℕ) (inputs : List Float) (calls : List Code.Call) (regs : List Float) (path path' cells report report' : List ℕ) (number : ℕ) where
  pub turned_away : (X : Made) → (number ≡ 0 → ⊥) → Makes X number path path' → report' ≡ reported (made_node X) report
      → Owes X program inputs calls regs regs path path' cells cells report report' number
  turned_away (refused n place) z h e = (h.0, h.1, refl, refl, e)
  turned_away (refused_at n k) z h e = (h.0, h.1, refl, refl, e)
  turned_away (made C f) z h e = absurd (z h.0)

-- ---- the calls

no_place : (X : Made) → Told X → 0 ≡ made_number X → place_of X ≡ none
no_place (refused n place) t e = absurd (omega (arith, t.least))
no_place (refused_at n k) t e = absurd (omega (arith, t.least))
no_place (made C f) t e = refl

no_node : (X : Made) → Told X → 0 ≡ made_number X → made_node X ≡ 0
no_node (refused n place) t e = absurd (omega (arith, t.least))
no_node (refused_at n k) t e = absurd (omega (arith, t.least))
no_node (made C f) t e = refl

-- a node in the report makes it no shorter
long_still : (few : Bool) (report : List ℕ) (k : ℕ) → length (with_room few report (set report node_place k)) ≡ length report
long_still true report k = refl
long_still false report k = length-set report node_place k

same_short : (cells report : List ℕ) (k : ℕ) → short cells (reported k report) ≡ short cells report
same_short cells report k = ap (λ (n : ℕ). ltb n report_length || ltb (length cells) 16) (long_still (report_short report) report k)

told_asked : (few : Bool) (X : Made) → Told X → Told (with_room few (refused slice_too_short none) X)
told_asked true X t = one
told_asked false X t = t

-- what was made had room
made_asked : (few : Bool) (X : Made) (C : Context) (g : Formula) → with_room few (refused slice_too_short none) X ≡ made C g → (few ≡ false) × (X ≡ made C g)
made_asked true X C g e = let z : slice_too_short ≡ 0 = ap made_number e in absurd (omega arith)
made_asked false X C g e = (refl, e)

few_cells : (few : Bool) (n : ℕ) → n < 16 → (few || ltb n 16) ≡ true
few_cells true n h = refl
few_cells false n h = lt-ltb n 16 h

enough_cells : (few : Bool) (n : ℕ) → few ≡ false → 16 ≤ n → (few || ltb n 16) ≡ false
enough_cells true n e h = e
enough_cells false n e h = le-ltb n 16 h

module _ (b l : List ℕ) (bytes : Bytes b) (w : Wanted ℕ) (lens : Lengths) (program program' : List ℕ) (inputs : List Float) (calls : List Code.Call) (regs regs' : List Float)
    (path path₁ path' cells cells' report report₁ report' : List ℕ) (number : ℕ) where
  abbrev X : Made
  X = make b l w (length path) lens

  X_told : Told (asked report X)
  X_told = told_asked (report_short report) X (told b l w (length path) lens)

  owes_at : (Y : Made) → asked report X ≡ Y → Told Y → 0 ≡ made_number Y → program' ≡ with_room (report_short report) program (program_left b l w (length path) lens program)
      → Leaves (host_at inputs program' cells path (reported 0 report) calls regs) number cells' regs' path' report'
      → (short cells (reported 0 report) ≡ false → Follows (play_at inputs program' path calls regs) number cells' regs' path')
      → Owes Y program' inputs calls regs regs' path path' cells cells' report report' number
  owes_at (refused n place) e z a ep h f = absurd (omega (arith, z.least))
  owes_at (refused_at n k) e z a ep h f = absurd (omega (arith, z.least))
  owes_at (made C g) e z a ep h f =
      let m = made_asked (report_short report) X C g e in
      let S = source b l bytes w (length path) lens program C g m.1 in
      let same_program : program' ≡ program_left b l w (length path) lens program = ep ∙ sym (roomy (report_short report) program _ m.0) in (
        h,
        λ few. subst (λ (o : Outcome). Leaves o number cells' regs' path' report')
            (host_short inputs program' regs cells path (reported 0 report) (same_short cells report 0 ∙ few_cells (report_short report) (length cells) few) calls) h,
        λ enough. (
          f (same_short cells report 0 ∙ enough_cells (report_short report) (length cells) m.0 enough),
          λ same fins many. demand inputs program' path regs _ calls refl C (term g) S.0 (ap program_at same_program ∙ S.1) same fins many,
        ),
      )

  pub called : (refusal : ℕ) → refusal ≡ 0 → Makes (asked report X) refusal path path₁ → report₁ ≡ reported (made_node (asked report X)) report
      → program' ≡ with_room (report_short report) program (program_left b l w (length path) lens program)
      → Leaves (host_at inputs program' cells path₁ report₁ calls regs) number cells' regs' path' report'
      → (short cells report₁ ≡ false → Follows (play_at inputs program' path₁ calls regs) number cells' regs' path')
      → Owes (asked report X) program' inputs calls regs regs' path path' cells cells' report report' number
  called refusal z m er ep h f =
      let zero_made : 0 ≡ made_number (asked report X) = sym z ∙ m.0 in
      let told_report : report₁ ≡ reported 0 report = er ∙ ap (λ (k : ℕ). reported k report) (no_node (asked report X) X_told zero_made) in
      let same : path₁ ≡ path = m.1 ∙ ap (λ (o : Option Path). placed o path) (no_place (asked report X) X_told zero_made) in
      owes_at (asked report X) refl X_told zero_made ep
      (subst (λ (y : List ℕ). Leaves (host_at inputs program' cells path y calls regs) number cells' regs' path' report') told_report
      (subst (λ (x : List ℕ). Leaves (host_at inputs program' cells x report₁ calls regs) number cells' regs' path' report') same h))
      (λ enough. subst (λ (x : List ℕ). Follows (play_at inputs program' x calls regs) number cells' regs' path') same
      (f (ap (short cells) told_report ∙ enough)))
