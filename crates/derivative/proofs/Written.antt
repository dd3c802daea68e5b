-- A rule's instance has what is kept by all nodes that the rule makes, if its parts have it.
use mathlib.Core.Path.{◌≡◌, refl}
use mathlib.Core.Bool.{Bool, true, false, cond, ◌&&◌, ◌||◌}
use mathlib.Core.List.{List, [], ◌∷◌}
use Prim.Native.Nat.{ℕ, zero, suc}
use lib.ListN.{length, get_or}
use Rattle.formula.specs.Operator.{binary, Add, Multiply}
use Rattle.formula.specs.Formula.{Head, number, operation}
use Rattle.formula.proofs.Tests.{and_first, and_second}
use Rattle.derivative.specs.Rules.{Algebra, Parts, Rule, Rules, child, whole, diff, make, add, mul, unless_zero, zeroth, end, ◌and◌, zero_of, add_of, mul_of, instance, instances}
use Rattle.derivative.proofs.Faultless.{never}

-- whether there is a child i among n
abbrev pub present : ℕ → ℕ → Bool
present zero i = false
present (suc n) zero = true
present (suc n) (suc i) = present n i

-- whether a rule at a node with n children makes such nodes alone; the 1 of `power` is none
abbrev mutual
  pub written : (Head → Bool) → ℕ → Rule → Bool
  written w n (child i) = w (number 0) || present n i
  written w n whole = true
  written w n (diff i) = w (number 0) || present n i
  written w n (make h rs) = w h && all_written w n rs
  written w n (add a b) = w (operation (binary Add)) && (written w n a && written w n b)
  written w n (mul a b) = w (operation (binary Multiply)) && (written w n a && written w n b)
  written w n (unless_zero i r) = w (number 0) && written w n r
  written w n zeroth = false

  pub all_written : (Head → Bool) → ℕ → Rules → Bool
  all_written w n end = true
  all_written w n (r and rs) = written w n r && all_written w n rs

abbrev pub All : {A : Type 0} → (A → Type 0) → List A → Type 0
All Q [] = Unit {0}
All Q (x ∷ xs) = Q x × All Q xs

module _
    {A : Type 0} (G : Algebra A) (Q : A → Type 0) (w : Head → Bool)
    (nodes : (h : Head) (xs : List A) → w h ≡ true → All Q xs → Q (G.node h xs)) (product : Q G.zero_product) where
  cond_holds : (b : Bool) (x y : A) → Q x → Q y → Q (cond b x y)
  cond_holds true x y p q = p
  cond_holds false x y p q = q

  pub adds : (a b : A) → w (operation (binary Add)) ≡ true → Q a → Q b → Q (add_of G a b)
  adds a b h p q = cond_holds (G.is_zero a) _ _ q (cond_holds (G.is_zero b) _ _ p (nodes (operation (binary Add)) (a ∷ b ∷ []) h (p, (q, tt))))

  pub muls : (a b : A) → w (operation (binary Multiply)) ≡ true → Q a → Q b → Q (mul_of G a b)
  muls a b h p q =
      cond_holds (G.is_zero a || G.is_zero b) _ _ product
      (cond_holds (G.is_one a) _ _ q (cond_holds (G.is_one b) _ _ p (nodes (operation (binary Multiply)) (a ∷ b ∷ []) h (p, (q, tt)))))

  in_place : (b : Bool) → (b || false) ≡ true → b ≡ true
  in_place true e = refl
  in_place false e = e

  -- child i, or a 0 in its place
  at : (l : List A) (i : ℕ) → All Q l → (w (number 0) || present (length l) i) ≡ true → Q (get_or l i (zero_of G))
  at [] i a e = nodes (number 0) [] (in_place (w (number 0)) e) tt
  at (x ∷ l) zero a e = a.0
  at (x ∷ l) (suc i) a e = at l i a.1 e

  module _
      (n : ℕ) (e : Parts A) (own : Q e.own) (children : All Q e.children) (diffs : All Q e.diffs)
      (children_long : length e.children ≡ n) (diffs_long : length e.diffs ≡ n) where
    mutual
      pub instance_holds : (r : Rule) → written w n r ≡ true → Q (instance G e r)
      instance_holds (child i) t = at e.children i children (rw children_long t)
      instance_holds whole t = own
      instance_holds (diff i) t = at e.diffs i diffs (rw diffs_long t)
      instance_holds (make h rs) t = nodes h (instances G e rs) (and_first (w h) _ t) (instances_hold rs (and_second (w h) _ t))
      instance_holds (add a b) t =
          let p = and_second (w (operation (binary Add))) _ t in
          adds (instance G e a) (instance G e b) (and_first (w (operation (binary Add))) _ t) (instance_holds a (and_first _ (written w n b) p))
          (instance_holds b (and_second (written w n a) _ p))
      instance_holds (mul a b) t =
          let p = and_second (w (operation (binary Multiply))) _ t in
          muls (instance G e a) (instance G e b) (and_first (w (operation (binary Multiply))) _ t) (instance_holds a (and_first _ (written w n b) p))
          (instance_holds b (and_second (written w n a) _ p))
      instance_holds (unless_zero i r) t =
          cond_holds (G.is_zero (get_or e.diffs i (zero_of G))) _ _ (nodes (number 0) [] (and_first (w (number 0)) _ t) tt)
          (instance_holds r (and_second (w (number 0)) _ t))
      instance_holds zeroth t = never t

      instances_hold : (rs : Rules) → all_written w n rs ≡ true → All Q (instances G e rs)
      instances_hold end t = tt
      instances_hold (r and rs) t = (instance_holds r (and_first (written w n r) _ t), instances_hold rs (and_second (written w n r) _ t))

  -- c × `power`'s 1 × d: the 1 is not kept
  pub zeroth_holds : G.is_zero G.zeroth_power ≡ false → G.is_one G.zeroth_power ≡ true
      → (c d : A) → w (operation (binary Multiply)) ≡ true → Q c → Q d → Q (mul_of G (mul_of G c G.zeroth_power) d)
  zeroth_holds one_not_zero one_is_one c d h p q = from (G.is_zero c) (G.is_one c) refl refl
    where
      from : (a b : Bool) → G.is_zero c ≡ a → G.is_one c ≡ b → Q (mul_of G (mul_of G c G.zeroth_power) d)
      from true b u v = rw u (muls G.zero_product d h product q)
      from false true u v = rw (u, v, one_not_zero, one_is_one) (cond_holds (G.is_zero G.zeroth_power || G.is_zero d) G.zero_product d product q)
      from false false u v = rw (u, v, one_not_zero, one_is_one) (muls c d h p q)
