-- What compile or derive wrote is read back as the program of the formula or of the derivative.
use mathlib.Core.Path.{◌≡◌, refl, subst}
use mathlib.Core.List.{List, ◌++◌}
use Prim.Native.Nat.{ℕ, ◌-◌}
use native.Mathlib.Omega.{arith}
use lib.ListN.{length}
use lib.Dec.{leb}
use borrow.Author.Tests.{leb-true}
use Rattle.formula.specs.Text.{zeros}
use Rattle.formula.specs.Formula.{Formula, depth, size}
use Rattle.formula.specs.Names.{Symbol}
use Rattle.formula.specs.Term.{term}
use Rattle.machine.specs.Check.{Context}
use Rattle.machine.specs.Compile.{Compiled, accepted, compile, own_context, read}
use Rattle.machine.specs.Compile as Compile
use Rattle.machine.specs.Lower.{program}
use Rattle.layout.specs.Image.{image}
use Rattle.layout.specs.Decode.{program_at}
use Rattle.layout.proofs.Literals.{literals}
use Rattle.layout.proofs.ReadBack.{read_back}
use Rattle.reader.proofs.Bytes.{Bytes}
use Rattle.reader.proofs.Heads.{and_first}
use Rattle.derivative.specs.Records.{Record}
use Rattle.derivative.specs.Derive.{Derived, Lengths, by_state, derive, derived, formula_refused, formula_refused_at, generated_context}
use Rattle.derivative.specs.Derive as Derive
use Rattle.derivative.proofs.Derived.{derived_compiles, derived_formula}
use Rattle.compile.proofs.Back.{formula_back, formula_writable, known, written_literals}
use Rattle.derive.proofs.Writable.{derivative_writable}
use Rattle.demand.specs.Last.{Source, compiled, differentiated}
use Rattle.demand.specs.Made.{made, make, of_compiled, of_derived, program_left}
use Rattle.demand.specs.declared.Wanted.{Wanted}

module _ (b l : List ℕ) (bytes : Bytes b) where
  -- ---- of the derivative

  module _ (s p : ℕ) (w : Lengths) (d : Formula) (rs : List Record) (ss : List Symbol) (e : derive b l s p w ≡ derived d rs ss) where
    derivative_back : (rest : List ℕ) → program_at (image (generated_context ss) d ++ rest) ≡ program (generated_context ss) (term d)
    derivative_back rest =
        let g = derived_formula b l s p w d rs ss e in
        let c = derived_compiles b l s p w d rs ss e in
        let v = derivative_writable s (by_state ss s) g.0 d (formula_writable b l bytes p w.program g.0 ss g.1.compiled) g.1.differentiated in
        let n = leb-true (size d) 16384 (and_first (leb (size d) 16384) (leb (depth d) 128) g.1.limit) in
        read_back (generated_context ss) d rest c.0 n (literals d (written_literals d v)) (known b l bytes p w.program g.0 ss g.1.compiled) c.3

  -- ---- of either

  compiled_source : (X : Compiled) (p q : ℕ) (slice : List ℕ) (C : Context) (f : Formula) → compile b l p q ≡ X → of_compiled X ≡ made C f
      → Source C (term f) × (program_at (Compile.program_after image X slice) ≡ program C (term f))
  compiled_source (Compile.refused n place) p q slice C f e h = absurd (let z : ◌≡◌ {A = ℕ} 0 1 = cc in omega arith)
  compiled_source (Compile.refused_at n k) p q slice C f e h = absurd (let z : ◌≡◌ {A = ℕ} 0 1 = cc in omega arith)
  compiled_source (accepted g ss) p q slice C f e h =
      let eC : own_context ss ≡ C = cc in
      let ef : g ≡ f = cc in
      subst (λ (x : Context). Source x (term f) × (program_at (image (own_context ss) g ++ zeros (length slice - length (image (own_context ss) g))) ≡ program x (term f))) eC
      (subst (λ (x : Formula). Source (own_context ss) (term x) × (program_at (image (own_context ss) g ++ zeros (length slice - length (image (own_context ss) g))) ≡ program (own_context ss) (term x))) ef
      (compiled b l p q g ss e, formula_back b l bytes p q g ss e (zeros (length slice - length (image (own_context ss) g)))))

  derived_source : (X : Derived) (s p : ℕ) (w : Lengths) (slice : List ℕ) (C : Context) (f : Formula) → derive b l s p w ≡ X → of_derived X ≡ made C f
      → Source C (term f) × (program_at (Derive.program_after image X slice) ≡ program C (term f))
  derived_source (formula_refused n place) s p w slice C f e h = absurd (let z : ◌≡◌ {A = ℕ} 0 1 = cc in omega arith)
  derived_source (formula_refused_at n k) s p w slice C f e h = absurd (let z : ◌≡◌ {A = ℕ} 0 1 = cc in omega arith)
  derived_source (Derive.refused n place) s p w slice C f e h = absurd (let z : ◌≡◌ {A = ℕ} 0 1 = cc in omega arith)
  derived_source (derived d rs ss) s p w slice C f e h =
      let eC : generated_context ss ≡ C = cc in
      let ef : d ≡ f = cc in
      subst (λ (x : Context). Source x (term f) × (program_at (image (generated_context ss) d ++ zeros (length slice - length (image (generated_context ss) d))) ≡ program x (term f))) eC
      (subst (λ (x : Formula). Source (generated_context ss) (term x) × (program_at (image (generated_context ss) d ++ zeros (length slice - length (image (generated_context ss) d))) ≡ program (generated_context ss) (term x))) ef
      (differentiated b l s p w d rs ss e, derivative_back s p w d rs ss e (zeros (length slice - length (image (generated_context ss) d)))))

  pub source : (w : Wanted ℕ) (p : ℕ) (lens : Lengths) (slice : List ℕ) (C : Context) (f : Formula) → make b l w p lens ≡ made C f
      → Source C (term f) × (program_at (program_left b l w p lens slice) ≡ program C (term f))
  source Wanted.Formula p lens slice C f h = compiled_source (compile b l p lens.program) p lens.program slice C f refl h
  source (Wanted.Derivative s) p lens slice C f h = derived_source (derive b l s p lens) s p lens slice C f refl h
