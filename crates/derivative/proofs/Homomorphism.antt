-- A map that respects an algebra's nodes and tests respects the instance of every rule.
use mathlib.Core.Path.{◌≡◌, refl, ap, ◌∙◌}
use mathlib.Core.Bool.{Bool, true, false, cond}
use mathlib.Core.List.{List, [], ◌∷◌, map}
use Prim.Native.Nat.{ℕ, zero, suc}
use lib.ListN.{get_or}
use Rattle.formula.specs.Operator.{binary, Add, Multiply}
use Rattle.formula.specs.Formula.{Head, number, operation}
use Rattle.derivative.specs.Rules.{Algebra, Parts, Rule, Rules, child, whole, diff, make, add, mul, unless_zero, zeroth, end, ◌and◌, zero_of, add_of, mul_of, instance, instances}

pub get_d_map : {A B : Type 0} (f : A → B) (l : List A) (i : ℕ) (a : A) → f (get_or l i a) ≡ get_or (map f l) i (f a)
get_d_map f [] i a = refl
get_d_map f (x ∷ l) zero a = refl
get_d_map f (x ∷ l) (suc i) a = get_d_map f l i a

pub cond_map : {A B : Type 0} (f : A → B) (b : Bool) (x y : A) → f (cond b x y) ≡ cond b (f x) (f y)
cond_map f true x y = refl
cond_map f false x y = refl

abbrev pub mapped : {A B : Type 0} → (A → B) → Parts A → Parts B
mapped f e = record { own = f e.own; children = map f e.children; diffs = map f e.diffs }

module _
    {A B : Type 0} (G : Algebra A) (K : Algebra B) (f : A → B)
    (nodes : (h : Head) (xs : List A) → f (G.node h xs) ≡ K.node h (map f xs))
    (product : f G.zero_product ≡ K.zero_product) (power : f G.zeroth_power ≡ K.zeroth_power)
    (zeros : (a : A) → G.is_zero a ≡ K.is_zero (f a))
    (ones : (a : A) → G.is_one a ≡ K.is_one (f a)) where
  adds : (a b : A) → f (add_of G a b) ≡ add_of K (f a) (f b)
  adds a b = rw (cond_map f, cond_map f, nodes (operation (binary Add)) (a ∷ b ∷ []), zeros a, zeros b)

  muls : (a b : A) → f (mul_of G a b) ≡ mul_of K (f a) (f b)
  muls a b =
      rw (cond_map f, cond_map f, cond_map f, nodes (operation (binary Multiply)) (a ∷ b ∷ []), product, zeros a, zeros b, ones a, ones b)

  at : (l : List A) (i : ℕ) → f (get_or l i (zero_of G)) ≡ get_or (map f l) i (zero_of K)
  at l i = get_d_map f l i (zero_of G) ∙ ap (λ (d : B). get_or (map f l) i d) (nodes (number 0) [])

  mutual
    pub homomorphism : (e : Parts A) (r : Rule) → f (instance G e r) ≡ instance K (mapped f e) r
    homomorphism e (child i) = at e.children i
    homomorphism e whole = refl
    homomorphism e (diff i) = at e.diffs i
    homomorphism e (make h rs) = nodes h (instances G e rs) ∙ ap (K.node h) (homomorphisms e rs)
    homomorphism e (add a b) = adds (instance G e a) (instance G e b) ∙ rw (homomorphism e a, homomorphism e b)
    homomorphism e (mul a b) = muls (instance G e a) (instance G e b) ∙ rw (homomorphism e a, homomorphism e b)
    homomorphism e (unless_zero i r) =
        cond_map f (G.is_zero (get_or e.diffs i (zero_of G))) (zero_of G) (instance G e r)
        ∙ rw (zeros (get_or e.diffs i (zero_of G)), at e.diffs i, nodes (number 0) [], homomorphism e r)
    homomorphism e zeroth = power

    pub homomorphisms : (e : Parts A) (rs : Rules) → map f (instances G e rs) ≡ instances K (mapped f e) rs
    homomorphisms e end = refl
    homomorphisms e (r and rs) = rw (homomorphism e r, homomorphisms e rs)
