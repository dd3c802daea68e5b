-- The derivative keeps the formula's Domain and its questions: 0 × formula is read first.
use mathlib.Core.Path.{◌≡◌, refl}
use mathlib.Core.List.{List, [], ◌∷◌}
use mathlib.Core.Bool.{Bool, true, false, cond}
use mathlib.Core.Option.{some}
use Prim.Native.Nat.{ℕ, suc}
use lib.Ieee.{Float, Format}
use Rattle.arithmetic.specs.Value.{finite, is_one}
use Rattle.formula.specs.Formula.{Formula}
use Rattle.formula.specs.Path.{Path, root, ◌▸◌, argument, condition, then_arm, else_arm}
use Rattle.formula.specs.Term.{Term, Terms, literal, truth, symbol, apply, branch, miscounted, end, ◌and◌, term}
use Rattle.meaning.specs.Work.{Interaction, Question, ask, give, undefined, work}
use Rattle.meaning.specs.Reading.{Outcome, value, domain, question, bind, answered, reading, readings}
use Rattle.derivative.specs.Differentiate.{differentiate, with_primal, derivative}
use Rattle.derivative.proofs.Compiles.{and_then_some}

-- ---- a part is read as the formula is, with its own place before each path

abbrev pub below : Path → Path → Path
below q root = q
below q (p ▸ s) = below q p ▸ s

abbrev pub relocated : {A : Type 0} → Path → Outcome A → Outcome A
relocated q (value a s) = value a s
relocated q (domain p) = domain (below q p)
relocated q (question x) = question x

checked_below : (q p : Path) (b : Bool) (v : Float) (s : List Float)
    → cond b (value v s) (domain (below q p)) ≡ relocated q (cond b (value v s) (domain p))
checked_below q p true v s = refl
checked_below q p false v s = refl

answered_below : (q p : Path) (w : Interaction) (s : List Float) → answered (below q p) w s ≡ relocated q (answered p w s)
answered_below q p (give v) s = checked_below q p (finite v) v s
answered_below q p undefined s = refl
answered_below q p (ask x k) [] = refl
answered_below q p (ask x k) (y ∷ s) = answered_below q p (k y) s

bind_below : {A B : Type 0} (q : Path) (o : Outcome A) (k k' : A → List Float → Outcome B) → ((a : A) (s : List Float) → k' a s ≡ relocated q (k a s))
    → bind (relocated q o) k' ≡ relocated q (bind o k)
bind_below q (value a s) k k' e = e a s
bind_below q (domain p) k k' e = refl
bind_below q (question x) k k' e = refl

chosen_below : (q : Path) (b : Bool) (y e y' e' : Outcome Float) → y' ≡ relocated q y → e' ≡ relocated q e → cond b y' e' ≡ relocated q (cond b y e)
chosen_below q true y e y' e' h g = h
chosen_below q false y e y' e' h g = g

module _ (F : Format) (inputs : List Float) (q : Path) where
  mutual
    pub reading_below : (t : Term) (p : Path) (s : List Float) → reading F inputs t (below q p) s ≡ relocated q (reading F inputs t p s)
    reading_below (literal b) p s = refl
    reading_below (truth b) p s = refl
    reading_below (symbol i) p s = refl
    reading_below (apply o ts) p s =
        rw (readings_below ts p 0 s) (bind_below q (readings F inputs ts p 0 s) _ _ (λ xs s'. answered_below q p (work F o xs) s'))
    reading_below (branch c y e) p s =
        rw (reading_below c (p ▸ condition) s)
        (bind_below q (reading F inputs c (p ▸ condition) s) _ _
        (λ b s'. chosen_below q (is_one b) _ _ _ _ (reading_below y (p ▸ then_arm) s') (reading_below e (p ▸ else_arm) s')))
    reading_below miscounted p s = refl

    readings_below : (ts : Terms) (p : Path) (i : ℕ) (s : List Float) → readings F inputs ts (below q p) i s ≡ relocated q (readings F inputs ts p i s)
    readings_below end p i s = refl
    readings_below (t and ts) p i s =
        rw (reading_below t (p ▸ argument i) s)
        (bind_below q (reading F inputs t (p ▸ argument i) s) _ _
        (λ x s'. rw (readings_below ts p (suc i) s') (bind_below q (readings F inputs ts p (suc i) s') _ _ (λ xs s''. refl))))

-- ---- 0 × formula + derivative

-- the formula's place in its derivative: root.arguments[0].arguments[1]
abbrev pub primal_place : Path
primal_place = root ▸ argument 0 ▸ argument 1

module _ (F : Format) (inputs : List Float) (f d : Formula) (s : List Float) where
  pub primal_domain : (p : Path) → reading F inputs (term f) root s ≡ domain p
      → reading F inputs (term (with_primal f d)) root s ≡ domain (below primal_place p)
  primal_domain p e = rw (reading_below F inputs primal_place (term f) root s, e)

  pub primal_question : (x : Question) → reading F inputs (term f) root s ≡ question x
      → reading F inputs (term (with_primal f d)) root s ≡ question x
  primal_question x e = rw (reading_below F inputs primal_place (term f) root s, e)

module _ (F : Format) (inputs : List Float) (n : ℕ) (by_state : Bool) (f d : Formula) (e : derivative n by_state f ≡ some d) (s : List Float) where
  from_primal : (g : Formula) × (with_primal f g ≡ d)
  from_primal = let g = and_then_some (differentiate n by_state f) _ d e in (g.0, cc)

  pub derivative_domain : (p : Path) → reading F inputs (term f) root s ≡ domain p → reading F inputs (term d) root s ≡ domain (below primal_place p)
  derivative_domain p h = let g = from_primal in rw (← g.1) (primal_domain F inputs f g.0 s p h)

  pub derivative_question : (x : Question) → reading F inputs (term f) root s ≡ question x → reading F inputs (term d) root s ≡ question x
  derivative_question x h = let g = from_primal in rw (← g.1) (primal_question F inputs f g.0 s x h)
