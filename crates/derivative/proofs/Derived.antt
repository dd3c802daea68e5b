-- What derive gives: a tree that compiles and whose paths fit; and when it refuses by 7 and by 8.
use mathlib.Core.Logic.{◌↔◌}
use mathlib.Core.Path.{◌≡◌, refl, subst}
use mathlib.Core.List.{List}
use mathlib.Core.Bool.{Bool, true, false, cond}
use mathlib.Core.Option.{Option, none, some}
use Prim.Native.Nat.{ℕ, ◌*◌, ◌≤◌, ◌<◌}
use native.Mathlib.Omega.{arith}
use lib.ListN.{length}
use lib.Dec.{leb, ltb}
use borrow.Author.Tests.{leb-true, ltb-true, lt-ltb}
use Rattle.formula.specs.Operator.{ValueKind, Number, Boolean, same_kind}
use Rattle.formula.specs.Formula.{Formula, size, depth, derivative_limit}
use Rattle.formula.specs.Names.{Symbol}
use Rattle.formula.specs.Path.{root}
use Rattle.formula.specs.Term.{term}
use Rattle.machine.specs.Check.{kind, fault}
use Rattle.machine.specs.Compile.{Compiled, compile, accepted, own_context}
use Rattle.machine.specs.Compile as Compile
use Rattle.machine.proofs.Accepted.{accepted_formula}
use Rattle.machine.proofs.Size.{longest_path, Narrow, narrow}
use Rattle.derivative.specs.Differentiate.{and_then, differentiate, with_primal, derivative}
use Rattle.derivative.specs.Records.{Record, derivative_records}
use Rattle.derivative.specs.Derive.{Derived, refused, derived, generated_context, by_state, Lengths, too_short, fitted, continued, derive}
use Rattle.derivative.proofs.Faultless.{some_none, both, kind_is}
use Rattle.derivative.proofs.Compiles.{derivative_compiles}
use Rattle.derivative.proofs.Paths.{derivative_paths}
use Rattle.derivative.proofs.Reach.{unsupported, none_iff_unsupported}

-- a tree that derive gives
pub record Derivation (formula names : List ℕ) (s path_length program_length : ℕ) (f d : Formula) (rs : List Record) (symbols : List Symbol) : Type 0 where
  pub compiled : compile formula names path_length program_length ≡ accepted f symbols
  pub number : kind (term f) ≡ Number
  pub known : s < length symbols
  pub differentiated : derivative s (by_state symbols s) f ≡ some d
  pub recorded : derivative_records s (by_state symbols s) f ≡ rs
  pub limit : derivative_limit d ≡ true

other_kind : (κ : ValueKind) → same_kind κ Boolean ≡ false → κ ≡ Number
other_kind Number e = refl
other_kind Boolean e = absurd (let z : ◌≡◌ {A = ℕ} 0 1 = cc in omega arith)

module _ (formula names : List ℕ) (s path_length : ℕ) (l : Lengths) where
  from_fitted : (symbols ss : List Symbol) (qs rs : List Record) (o : Option Formula) (d : Formula) → fitted l symbols qs o ≡ derived d rs ss
      → (o ≡ some d) × (symbols ≡ ss) × (derivative_limit d ≡ true) × (qs ≡ rs)
  from_fitted symbols ss qs rs none d e = absurd (let z : ◌≡◌ {A = ℕ} 0 1 = cc in omega arith)
  from_fitted symbols ss qs rs (some d') d e = go (derivative_limit d') refl (too_short l (size d')) e
    where
      go : (b : Bool) → derivative_limit d' ≡ b → (c : Bool) → cond b (cond c (refused 1 none) (derived d' qs symbols)) (refused 4 (some root)) ≡ derived d rs ss
          → (some d' ≡ some d) × (symbols ≡ ss) × (derivative_limit d ≡ true) × (qs ≡ rs)
      go true q true h = absurd (let z : ◌≡◌ {A = ℕ} 0 1 = cc in omega arith)
      go true q false h = let w : d' ≡ d = cc in (cc, cc, rw (← w) q, cc)
      go false q c h = absurd (let z : ◌≡◌ {A = ℕ} 0 1 = cc in omega arith)

  from_accepted : (f : Formula) (symbols ss : List Symbol) (d : Formula) (rs : List Record) → compile formula names path_length l.program ≡ accepted f symbols
      → (b : Bool) → same_kind (kind (term f)) Boolean ≡ b → (c : Bool) → ltb s (length symbols) ≡ c
      → cond b (refused 7 (some root)) (cond c (fitted l symbols (derivative_records s (by_state symbols s) f) (derivative s (by_state symbols s) f)) (refused 6 (some root))) ≡ derived d rs ss
      → Derivation formula names s path_length l.program f d rs ss
  from_accepted f symbols ss d rs h true k c m e = absurd (let z : ◌≡◌ {A = ℕ} 0 1 = cc in omega arith)
  from_accepted f symbols ss d rs h false k false m e = absurd (let z : ◌≡◌ {A = ℕ} 0 1 = cc in omega arith)
  from_accepted f symbols ss d rs h false k true m e =
      let g = from_fitted symbols ss (derivative_records s (by_state symbols s) f) rs (derivative s (by_state symbols s) f) d e in
      subst (λ (x : List Symbol). Derivation formula names s path_length l.program f d rs x) g.1
      (record { compiled = h; number = other_kind (kind (term f)) k; known = ltb-true s (length symbols) m; differentiated = g.0; recorded = g.3; limit = g.2 })

  from_continued : (c : Compiled) (ss : List Symbol) (d : Formula) (rs : List Record) → compile formula names path_length l.program ≡ c
      → continued l s c ≡ derived d rs ss → (f : Formula) × Derivation formula names s path_length l.program f d rs ss
  from_continued (Compile.refused n place) ss d rs h e = absurd (let z : ◌≡◌ {A = ℕ} 0 1 = cc in omega arith)
  from_continued (Compile.refused_at n k) ss d rs h e = absurd (let z : ◌≡◌ {A = ℕ} 0 1 = cc in omega arith)
  from_continued (accepted f symbols) ss d rs h e =
      (f, from_accepted f symbols ss d rs h (same_kind (kind (term f)) Boolean) refl (ltb s (length symbols)) refl e)

  -- a tree that derive gives is the derivative of the formula that the bytes hold
  pub derived_formula : (d : Formula) (rs : List Record) (symbols : List Symbol) → derive formula names s path_length l ≡ derived d rs symbols
      → (f : Formula) × Derivation formula names s path_length l.program f d rs symbols
  unfolding derive
  derived_formula d rs symbols e = from_continued (compile formula names path_length l.program) symbols d rs refl e

  -- and it compiles, as generated, to a Number, with paths that fit
  pub derived_compiles : (d : Formula) (rs : List Record) (symbols : List Symbol) → derive formula names s path_length l ≡ derived d rs symbols
      → (fault (generated_context symbols) (term d) root ≡ none) × (kind (term d) ≡ Number) × Narrow (term d) × (17 * longest_path (term d) ≤ 8188)
  derived_compiles d rs symbols e =
      let g = derived_formula d rs symbols e in
      let f = g.0 in
      let r = g.1 in
      let C = own_context symbols in
      let a = accepted_formula formula names path_length l.program f symbols r.compiled in
      let w = both (leb (size f) 256) _ a.limit in
      let m = both (leb (size d) 16384) _ r.limit in
      let c = derivative_compiles C s (by_state symbols s) f d a.faultless r.number r.differentiated in
      let small : size f ≤ 256 = leb-true (size f) 256 w.0 in
      let deep : depth d ≤ 128 = leb-true (depth d) 128 m.1 in
      let few : size d ≤ 16384 = leb-true (size d) 16384 m.0 in
      let p = derivative_paths C s (by_state symbols s) f d a.faultless r.number small r.differentiated deep in
      (c.0, c.1, narrow d (omega arith), omega arith)

  -- ---- refusals

  -- of a derivative that is there the only refusal with a place is 4
  fitted_four : (symbols : List Symbol) (rs : List Record) (d : Formula) (n : ℕ) → fitted l symbols rs (some d) ≡ refused n (some root) → n ≡ 4
  fitted_four symbols rs d n e = go (derivative_limit d) (too_short l (size d)) e
    where
      go : (b c : Bool) → cond b (cond c (refused 1 none) (derived d rs symbols)) (refused 4 (some root)) ≡ refused n (some root) → n ≡ 4
      go true true h = absurd (let z : ◌≡◌ {A = ℕ} 0 1 = cc in omega arith)
      go true false h = absurd (let z : ◌≡◌ {A = ℕ} 0 1 = cc in omega arith)
      go false c h = cc

  fitted_eight : (symbols : List Symbol) (rs : List Record) (o : Option Formula) → fitted l symbols rs o ≡ refused 8 (some root) → o ≡ none
  fitted_eight symbols rs none e = refl
  fitted_eight symbols rs (some d) e = absurd (omega (arith, fitted_four symbols rs d 8 e))

  fitted_seven : (symbols : List Symbol) (rs : List Record) (o : Option Formula) → fitted l symbols rs o ≡ refused 7 (some root) → ⊥
  fitted_seven symbols rs none e = let z : ◌≡◌ {A = ℕ} 8 7 = cc in omega arith
  fitted_seven symbols rs (some d) e = omega (arith, fitted_four symbols rs d 7 e)

  primal_none : (o : Option Formula) (f : Formula) → and_then o (λ d. some (with_primal f d)) ≡ none → o ≡ none
  primal_none none f e = refl
  primal_none (some d) f e = some_none e

  module _ (f : Formula) (symbols : List Symbol) (h : compile formula names path_length l.program ≡ accepted f symbols) where
    -- after compile's refusals
    abbrev later : Bool → Bool → Derived
    later b c =
        cond b (refused 7 (some root)) (cond c (fitted l symbols (derivative_records s (by_state symbols s) f) (derivative s (by_state symbols s) f)) (refused 6 (some root)))

    from_seven : (b c : Bool) → same_kind (kind (term f)) Boolean ≡ b → later b c ≡ refused 7 (some root) → kind (term f) ≡ Boolean
    from_seven true c k e = kind_is (kind (term f)) Boolean k
    from_seven false true k e = absurd (fitted_seven symbols (derivative_records s (by_state symbols s) f) (derivative s (by_state symbols s) f) e)
    from_seven false false k e = absurd (let z : ◌≡◌ {A = ℕ} 6 7 = cc in omega arith)

    from_eight : (b c : Bool) → same_kind (kind (term f)) Boolean ≡ b → ltb s (length symbols) ≡ c → later b c ≡ refused 8 (some root)
        → (kind (term f) ≡ Number) × (s < length symbols) × (differentiate s (by_state symbols s) f ≡ none)
    from_eight true c k m e = absurd (let z : ◌≡◌ {A = ℕ} 7 8 = cc in omega arith)
    from_eight false true k m e =
        (other_kind (kind (term f)) k, ltb-true s (length symbols) m, primal_none (differentiate s (by_state symbols s) f) f (fitted_eight symbols _ _ e))
    from_eight false false k m e = absurd (let z : ◌≡◌ {A = ℕ} 6 8 = cc in omega arith)

    ok : fault (own_context symbols) (term f) root ≡ none
    ok = (accepted_formula formula names path_length l.program f symbols h).faultless

    -- 7 of a formula that compiles is "Boolean at root"
    pub derive_seven : (derive formula names s path_length l ≡ refused 7 (some root)) ↔ (kind (term f) ≡ Boolean)
    unfolding derive
    derive_seven =
        ((λ e. from_seven (same_kind (kind (term f)) Boolean) (ltb s (length symbols)) refl (rw h at e)), (λ k. rw (h, k)))

    -- 8 is the rules' own
    pub derive_eight : (derive formula names s path_length l ≡ refused 8 (some root))
        ↔ ((kind (term f) ≡ Number) × (s < length symbols) × (unsupported s f ≡ true))
    unfolding derive
    derive_eight = (
      (λ e.
          let g = from_eight (same_kind (kind (term f)) Boolean) (ltb s (length symbols)) refl refl (rw h at e) in
          (g.0, g.1, (none_iff_unsupported (own_context symbols) s (by_state symbols s) f ok g.0).0 g.2)),
      (λ k.
          let z = (none_iff_unsupported (own_context symbols) s (by_state symbols s) f ok k.0).1 k.2 in
          rw (h, k.0, lt-ltb s (length symbols) k.1, z)),
    )
