-- A formula that compiles as generated, to a kind, with And and Or of at most n arguments together on a path; and nodes that are made of such.
use mathlib.Core.Path.{◌≡◌, refl, sym, ◌∙◌}
use mathlib.Core.List.{List, [], ◌∷◌}
use mathlib.Core.Bool.{Bool, true, false, cond}
use Prim.Native.Nat.{ℕ, ◌+◌, ◌≤◌, max}
use native.Mathlib.Omega.{arith}
use lib.ListN.{length}
use lib.Ieee.{of_bits}
use Rattle.arithmetic.specs.Value.{finite}
use Rattle.arithmetic.specs.Constant
use Rattle.formula.specs.Operator.{Operation, ValueKind, Number, Boolean, argument_kind, arity, result_kind}
use Rattle.formula.specs.Formula.{Head, number, truth, symbol, operation, junction, ifelse, conditional, malformed, Formula, Formulas, node, last, next, of_list, count}
use Rattle.formula.specs.Term.{term, terms, term_count}
use Rattle.machine.specs.Check.{Context, kind, all_kind}
use Rattle.derivative.proofs.Faultless.{Faultless, AllFaultless, generated, same_kind_of}

-- the steps that And and Or add to a path: each of their arguments at most one
abbrev pub chained : Head → ℕ → ℕ
chained (number b) n = 0
chained (truth b) n = 0
chained (symbol i) n = 0
chained (operation o) n = 0
chained (junction j) n = n
chained ifelse n = 0
chained conditional n = 0
chained malformed n = 0

abbrev mutual
  pub chains : Formula → ℕ
  chains (node h ts) = chained h (count ts) + all_chains ts

  pub all_chains : Formulas → ℕ
  all_chains last = 0
  all_chains (next t ts) = max (chains t) (all_chains ts)

pub record Sound (C : Context) (n : ℕ) (κ : ValueKind) (f : Formula) : Type 0 where
  pub faultless : Faultless (generated C) (term f)
  pub kind_right : kind (term f) ≡ κ
  pub short : chains f ≤ n

module _ (C : Context) (n : ℕ) where
  abbrev pub AllSound : ValueKind → List Formula → Type 0
  AllSound κ [] = Unit {0}
  AllSound κ (f ∷ fs) = Sound C n κ f × AllSound κ fs

  all_sound_faultless : (κ : ValueKind) (fs : List Formula) → AllSound κ fs → AllFaultless (generated C) (terms (of_list fs))
  all_sound_faultless κ [] s = tt
  all_sound_faultless κ (f ∷ fs) s = (s.0.faultless, all_sound_faultless κ fs s.1)

  all_sound_kind : (κ : ValueKind) (fs : List Formula) → AllSound κ fs → all_kind κ (terms (of_list fs)) ≡ true
  all_sound_kind κ [] s = refl
  all_sound_kind κ (f ∷ fs) s = rw (same_kind_of (kind (term f)) κ s.0.kind_right, all_sound_kind κ fs s.1)

  all_sound_short : (κ : ValueKind) (fs : List Formula) → AllSound κ fs → all_chains (of_list fs) ≤ n
  all_sound_short κ [] s = omega arith
  all_sound_short κ (f ∷ fs) s = omega (arith, s.0.short, all_sound_short κ fs s.1)

  count_of_list : (fs : List Formula) → term_count (terms (of_list fs)) ≡ length fs
  count_of_list [] = refl
  count_of_list (f ∷ fs) = rw (count_of_list fs)

  pub sound_operation : (o : Operation) (fs : List Formula) → AllSound (argument_kind o) fs → arity o (length fs) ≡ true
      → Sound C n (result_kind o) (node (operation o) (of_list fs))
  sound_operation o fs s a =
      record {
        faultless = (all_sound_faultless (argument_kind o) fs s, rw (count_of_list fs) a, all_sound_kind (argument_kind o) fs s, refl);
        kind_right = refl;
        short = omega (arith, all_sound_short (argument_kind o) fs s);
      }

  pub sound_branch : (κ : ValueKind) (c y e : Formula) → Sound C n Boolean c → Sound C n κ y → Sound C n κ e
      → Sound C n κ (node conditional (of_list (c ∷ y ∷ e ∷ [])))
  sound_branch κ c y e s t u =
      record {
        faultless =
            (s.faultless, same_kind_of _ _ s.kind_right, refl, t.faultless, u.faultless, same_kind_of _ _ (u.kind_right ∙ sym t.kind_right));
        kind_right = t.kind_right;
        short = omega (arith, s.short, t.short, u.short);
      }

  pub sound_literal : (b : ℕ) → finite (Constant.literal b) ≡ true → Sound C n Number (node (number b) last)
  sound_literal b f = record { faultless = f; kind_right = refl; short = omega arith }

  pub sound_zero : Sound C n Number (node (number 0) last)
  unfolding of_bits
  sound_zero = sound_literal 0 refl

  pub sound_cond : (κ : ValueKind) (b : Bool) (f g : Formula) → Sound C n κ f → Sound C n κ g → Sound C n κ (cond b f g)
  sound_cond κ true f g s t = s
  sound_cond κ false f g s t = t
