-- Blocks of input one after another: what is written for them together is what is written for each.
use Rattle.std.specs.Prelude as Std
use Rattle.std.specs.Prelude.{None, Some, unwrap_or}
use Rattle.std.proofs.Common.{Bor, ◌≡◌, ℕ, List, [], ◌++◌, sym, refl, ap, ◌∙◌, append_assoc, append-nil}
use mathlib.Core.Option.{Option}
use Rattle.lines.specs.declared.Stage.{Stage}
use Rattle.lines.specs.declared.Stage.TheVariants.{Finished}
use Rattle.lines.specs.declared.sums.Totals.{Totals}
use Rattle.lines.specs.Owed.{Advances, Begins, BytesOf, Ends, Memory, Roomy, Stands, file_of}
use Rattle.listing.specs.Legs.{legs}

pub advances_none : (formula : List ℕ) (m : Memory) (s : Stage) → Advances formula m s [] m s []
advances_none formula m s g o = (g, o, λ rest. refl)

pub advances_then : (formula : List ℕ) (m₁ m₂ m₃ : Memory) (s₁ s₂ s₃ : Stage) (a b t u : List ℕ) → Advances formula m₁ s₁ a m₂ s₂ t → Advances formula m₂ s₂ b m₃ s₃ u
    → Advances formula m₁ s₁ (a ++ b) m₃ s₃ (t ++ u)
advances_then formula m₁ m₂ m₃ s₁ s₂ s₃ a b t u f h g o =
    let x = f g o in
    let y = h x.0 x.1 in (
      y.0,
      y.1,
      λ rest.
          ap g (append_assoc a b rest)
          ∙ x.2 (b ++ rest)
          ∙ ap (λ (xs : List ℕ). t ++ xs) (y.2 rest)
          ∙ sym (append_assoc t u (y.0 rest)),
    )

-- the bytes of a file that can be read, or others in their place
pub bytes_or : (file : Std.Option (Bor (List ℕ))) (others formula : Bor (List ℕ)) → formula ≡ unwrap_or file others → BytesOf (file_of file) formula.now
bytes_or (Some bytes) others formula e = sym (ap (λ (b : Bor (List ℕ)). b.now) e)
bytes_or None others formula e = tt

-- a stage stands after `start`, and after each call of `advance`
pub stands_first : (file : Option (List ℕ)) (formula : List ℕ) (m : Memory) (s : Stage) (text : List ℕ) → BytesOf file formula → Roomy m → Begins file s text → Stands formula m s
stands_first file formula m s text bytes roomy b = let x = b formula bytes m roomy in (x.0, x.1)

pub stands_after : (formula : List ℕ) (m m' : Memory) (s s' : Stage) (fed text : List ℕ) → Stands formula m s → Advances formula m s fed m' s' text → Stands formula m' s'
stands_after formula m m' s s' fed text st a = let x = a st.0 st.1 in (x.0, x.1)

-- The whole output: what `start` wrote, what `advance` wrote for the blocks of an input, and what `finish` wrote.
pub whole_output : (file : Option (List ℕ)) (formula : List ℕ) (m m' : Memory) (s s' : Stage) (input first middle last : List ℕ) → BytesOf file formula → Roomy m → Begins file s first
    → Advances formula m s input m' s' middle → Ends formula m' s' last → legs file input ≡ first ++ (middle ++ last)
whole_output file formula m m' s s' input first middle last bytes roomy b a e =
    let x = b formula bytes m roomy in
    let y = a x.0 x.1 in
    x.2 input
    ∙ ap (λ (xs : List ℕ). first ++ x.0 xs) (sym (append-nil input))
    ∙ ap (λ (xs : List ℕ). first ++ xs) (y.2 [] ∙ ap (λ (xs : List ℕ). middle ++ xs) (e y.0 y.1))

-- At the end the output is the same whatever input follows, so that a caller need not read on.
pub whole_early : (file : Option (List ℕ)) (formula : List ℕ) (m m' : Memory) (s : Stage) (t : Totals) (input first middle last : List ℕ) → BytesOf file formula → Roomy m → Begins file s first
    → Advances formula m s input m' (Finished t) middle → Ends formula m' (Finished t) last → (more : List ℕ) → legs file (input ++ more) ≡ first ++ (middle ++ last)
whole_early file formula m m' s t input first middle last bytes roomy b a e more =
    let x = b formula bytes m roomy in
    let y = a x.0 x.1 in
    x.2 (input ++ more) ∙ ap (λ (xs : List ℕ). first ++ xs) (y.2 more ∙ ap (λ (xs : List ℕ). middle ++ xs) (y.1 more ∙ sym (y.1 []) ∙ e y.0 y.1))
