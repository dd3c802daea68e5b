-- A rule that is well typed gives, of children and derivatives that compile, a formula that compiles.
use mathlib.Core.Path.{◌≡◌, refl, subst}
use mathlib.Core.List.{List, [], ◌∷◌}
use mathlib.Core.Bool.{Bool, true, false, ◌&&◌, ◌||◌}
use Prim.Native.Nat.{ℕ, zero, suc}
use lib.Ieee.{of_bits}
use lib.ListN.{length, get_or}
use Rattle.arithmetic.specs.Value.{finite}
use Rattle.arithmetic.specs.Constant
use Rattle.formula.specs.Operator.{Operation, binary, Add, Multiply, ValueKind, Number, Boolean, same_kind, argument_kind, arity, result_kind}
use Rattle.formula.specs.Formula.{Head, number, truth, symbol, operation, junction, ifelse, conditional, malformed, Formula, node, of_list}
use Rattle.machine.specs.Check.{Context}
use Rattle.derivative.specs.Rules.{Parts, Rule, Rules, child, whole, diff, make, add, mul, unless_zero, zeroth, end, ◌and◌, instance, instances, zero_of, add_of, mul_of}
use Rattle.derivative.specs.Differentiate.{formulas}
use Rattle.derivative.proofs.Faultless.{never, both, kind_is}
use Rattle.derivative.proofs.Sound.{Sound, AllSound, sound_operation, sound_branch, sound_literal, sound_zero, sound_cond}

-- ---- the typing of rules, as a test

abbrev pub kind_at : List ValueKind → ℕ → ValueKind → Bool
kind_at [] i κ = false
kind_at (k ∷ ks) zero κ = same_kind k κ
kind_at (k ∷ ks) (suc i) κ = kind_at ks i κ

-- a made node, by the test of each child
abbrev pub all_typed : ValueKind → List (ValueKind → Bool) → Bool
all_typed κ [] = true
all_typed κ (p ∷ ps) = p κ && all_typed κ ps

abbrev pub branch_typed : ValueKind → List (ValueKind → Bool) → Bool
branch_typed κ [] = false
branch_typed κ (c ∷ []) = false
branch_typed κ (c ∷ y ∷ []) = false
branch_typed κ (c ∷ y ∷ e ∷ []) = c Boolean && (y κ && e κ)
branch_typed κ (c ∷ y ∷ e ∷ q ∷ qs) = false

abbrev pub leaf_typed : List (ValueKind → Bool) → Bool
leaf_typed [] = true
leaf_typed (p ∷ ps) = false

abbrev pub node_typed : Head → ValueKind → List (ValueKind → Bool) → Bool
node_typed (number b) κ ps = same_kind Number κ && (finite (Constant.literal b) && leaf_typed ps)
node_typed (truth b) κ ps = false
node_typed (symbol i) κ ps = false
node_typed (operation o) κ ps = same_kind (result_kind o) κ && (arity o (length ps) && all_typed (argument_kind o) ps)
node_typed (junction j) κ ps = false
node_typed ifelse κ ps = false
node_typed conditional κ ps = branch_typed κ ps
node_typed malformed κ ps = false

-- whether a rule over children of these kinds gives a formula of this kind; only a Number is differentiated
abbrev mutual
  pub well_typed : List ValueKind → ValueKind → Rule → Bool
  well_typed ks κ (child i) = kind_at ks i κ
  well_typed ks κ whole = same_kind Number κ
  well_typed ks κ (diff i) = same_kind Number κ && kind_at ks i Number
  well_typed ks κ (make h rs) = node_typed h κ (each_typed ks rs)
  well_typed ks κ (add a b) = same_kind Number κ && (well_typed ks Number a && well_typed ks Number b)
  well_typed ks κ (mul a b) = same_kind Number κ && (well_typed ks Number a && well_typed ks Number b)
  well_typed ks κ (unless_zero i r) = same_kind Number κ && well_typed ks Number r
  well_typed ks κ zeroth = same_kind Number κ

  pub each_typed : List ValueKind → Rules → List (ValueKind → Bool)
  each_typed ks end = []
  each_typed ks (r and rs) = (λ κ. well_typed ks κ r) ∷ each_typed ks rs

-- ---- it is sound

one_finite : finite (Constant.literal 0x3ff0000000000000) ≡ true
unfolding of_bits
one_finite = refl

module _ (C : Context) (n : ℕ) where
  abbrev pub SoundChildren : List ValueKind → List Formula → Type 0
  SoundChildren [] [] = Unit {0}
  SoundChildren [] (f ∷ fs) = ⊥
  SoundChildren (k ∷ ks) [] = ⊥
  SoundChildren (k ∷ ks) (f ∷ fs) = Sound C n k f × SoundChildren ks fs

  abbrev pub SoundDiffs : List ValueKind → List Formula → Type 0
  SoundDiffs [] [] = Unit {0}
  SoundDiffs [] (f ∷ fs) = ⊥
  SoundDiffs (k ∷ ks) [] = ⊥
  SoundDiffs (k ∷ ks) (f ∷ fs) = (k ≡ Number → Sound C n Number f) × SoundDiffs ks fs

  child_at : (ks : List ValueKind) (fs : List Formula) (i : ℕ) (κ : ValueKind) (d : Formula) → SoundChildren ks fs → kind_at ks i κ ≡ true
      → Sound C n κ (get_or fs i d)
  child_at [] fs i κ d c h = never h
  child_at (k ∷ ks) [] i κ d c h = absurd c
  child_at (k ∷ ks) (f ∷ fs) zero κ d c h = subst (λ (x : ValueKind). Sound C n x f) (kind_is k κ h) c.0
  child_at (k ∷ ks) (f ∷ fs) (suc i) κ d c h = child_at ks fs i κ d c.1 h

  diff_at : (ks : List ValueKind) (fs : List Formula) (i : ℕ) (d : Formula) → SoundDiffs ks fs → kind_at ks i Number ≡ true → Sound C n Number (get_or fs i d)
  diff_at [] fs i d c h = never h
  diff_at (k ∷ ks) [] i d c h = absurd c
  diff_at (k ∷ ks) (f ∷ fs) zero d c h = c.0 (kind_is k Number h)
  diff_at (k ∷ ks) (f ∷ fs) (suc i) d c h = diff_at ks fs i d c.1 h

  as_kind : (κ κ' : ValueKind) (f : Formula) → same_kind κ κ' ≡ true → Sound C n κ f → Sound C n κ' f
  as_kind κ κ' f e s = subst (λ (x : ValueKind). Sound C n x f) (kind_is κ κ' e) s

  two : (o : Operation) (a b : Formula) → argument_kind o ≡ Number → arity o 2 ≡ true → Sound C n Number a → Sound C n Number b
      → Sound C n (result_kind o) (formulas.node (operation o) (a ∷ b ∷ []))
  two o a b k e s t = sound_operation C n o (a ∷ b ∷ []) (rw k (s, (t, tt))) e

  pub sound_add : (a b : Formula) → Sound C n Number a → Sound C n Number b → Sound C n Number (add_of formulas a b)
  sound_add a b s t =
      sound_cond C n Number (formulas.is_zero a) _ _ t (sound_cond C n Number (formulas.is_zero b) _ _ s (two (binary Add) a b refl refl s t))

  pub sound_mul : (a b : Formula) → Sound C n Number a → Sound C n Number b → Sound C n Number (mul_of formulas a b)
  sound_mul a b s t =
      sound_cond C n Number (formulas.is_zero a || formulas.is_zero b) _ _ (sound_zero C n)
      (sound_cond C n Number (formulas.is_one a) _ _ t
      (sound_cond C n Number (formulas.is_one b) _ _ s (two (binary Multiply) a b refl refl s t)))

  abbrev EachSound : List (ValueKind → Bool) → List Formula → Type 0
  EachSound [] [] = Unit {0}
  EachSound [] (f ∷ fs) = ⊥
  EachSound (p ∷ ps) [] = ⊥
  EachSound (p ∷ ps) (f ∷ fs) = ((κ : ValueKind) → p κ ≡ true → Sound C n κ f) × EachSound ps fs

  each_length : (ps : List (ValueKind → Bool)) (fs : List Formula) → EachSound ps fs → length ps ≡ length fs
  each_length [] [] s = refl
  each_length [] (f ∷ fs) s = absurd s
  each_length (p ∷ ps) [] s = absurd s
  each_length (p ∷ ps) (f ∷ fs) s = rw (each_length ps fs s.1)

  each_all : (κ : ValueKind) (ps : List (ValueKind → Bool)) (fs : List Formula) → EachSound ps fs → all_typed κ ps ≡ true → AllSound C n κ fs
  each_all κ [] [] s h = tt
  each_all κ [] (f ∷ fs) s h = absurd s
  each_all κ (p ∷ ps) [] s h = absurd s
  each_all κ (p ∷ ps) (f ∷ fs) s h = let g = both (p κ) _ h in (s.0 κ g.0, each_all κ ps fs s.1 g.1)

  leaf_sound : (b : ℕ) (ps : List (ValueKind → Bool)) (fs : List Formula) → EachSound ps fs → finite (Constant.literal b) ≡ true → leaf_typed ps ≡ true
      → Sound C n Number (node (number b) (of_list fs))
  leaf_sound b [] [] s f h = sound_literal C n b f
  leaf_sound b [] (x ∷ fs) s f h = absurd s
  leaf_sound b (p ∷ ps) fs s f h = never h

  branch_sound : (κ : ValueKind) (ps : List (ValueKind → Bool)) (fs : List Formula) → EachSound ps fs → branch_typed κ ps ≡ true
      → Sound C n κ (node conditional (of_list fs))
  branch_sound κ [] fs s h = never h
  branch_sound κ (c ∷ []) fs s h = never h
  branch_sound κ (c ∷ y ∷ []) fs s h = never h
  branch_sound κ (c ∷ y ∷ e ∷ []) [] s h = absurd s
  branch_sound κ (c ∷ y ∷ e ∷ []) (u ∷ []) s h = absurd s.1
  branch_sound κ (c ∷ y ∷ e ∷ []) (u ∷ v ∷ []) s h = absurd s.1.1
  branch_sound κ (c ∷ y ∷ e ∷ []) (u ∷ v ∷ w ∷ []) s h =
      let g = both (c Boolean) _ h in
      let f = both (y κ) _ g.1 in
      sound_branch C n κ u v w (s.0 Boolean g.0) (s.1.0 κ f.0) (s.1.1.0 κ f.1)
  branch_sound κ (c ∷ y ∷ e ∷ []) (u ∷ v ∷ w ∷ a ∷ q) s h = absurd s.1.1.1
  branch_sound κ (c ∷ y ∷ e ∷ d ∷ ds) fs s h = never h

  node_sound : (h : Head) (κ : ValueKind) (ps : List (ValueKind → Bool)) (fs : List Formula) → EachSound ps fs → node_typed h κ ps ≡ true
      → Sound C n κ (node h (of_list fs))
  node_sound (number b) κ ps fs s e =
      let g = both (same_kind Number κ) _ e in
      let f = both (finite (Constant.literal b)) _ g.1 in
      as_kind Number κ _ g.0 (leaf_sound b ps fs s f.0 f.1)
  node_sound (truth b) κ ps fs s e = never e
  node_sound (symbol i) κ ps fs s e = never e
  node_sound (operation o) κ ps fs s e =
      let g = both (same_kind (result_kind o) κ) _ e in
      let f = both (arity o (length ps)) _ g.1 in
      as_kind (result_kind o) κ _ g.0
      (sound_operation C n o fs (each_all (argument_kind o) ps fs s f.1) (rw (← each_length ps fs s) f.0))
  node_sound (junction j) κ ps fs s e = never e
  node_sound ifelse κ ps fs s e = never e
  node_sound conditional κ ps fs s e = branch_sound κ ps fs s e
  node_sound malformed κ ps fs s e = never e

  module _
      (e : Parts Formula) (ks : List ValueKind) (own : Sound C n Number e.own)
      (children : SoundChildren ks e.children) (diffs : SoundDiffs ks e.diffs) where
    mutual
      pub instance_sound : (r : Rule) (κ : ValueKind) → well_typed ks κ r ≡ true → Sound C n κ (instance formulas e r)
      instance_sound (child i) κ h = child_at ks e.children i κ _ children h
      instance_sound whole κ h = as_kind Number κ _ h own
      instance_sound (diff i) κ h = let g = both _ _ h in as_kind Number κ _ g.0 (diff_at ks e.diffs i _ diffs g.1)
      instance_sound (make h rs) κ f = node_sound h κ (each_typed ks rs) (instances formulas e rs) (instances_sound rs) f
      instance_sound (add a b) κ h =
          let g = both _ _ h in
          let f = both (well_typed ks Number a) _ g.1 in
          as_kind Number κ _ g.0
          (sound_add (instance formulas e a) (instance formulas e b) (instance_sound a Number f.0) (instance_sound b Number f.1))
      instance_sound (mul a b) κ h =
          let g = both _ _ h in
          let f = both (well_typed ks Number a) _ g.1 in
          as_kind Number κ _ g.0
          (sound_mul (instance formulas e a) (instance formulas e b) (instance_sound a Number f.0) (instance_sound b Number f.1))
      instance_sound (unless_zero i r) κ h =
          let g = both _ _ h in
          as_kind Number κ _ g.0
          (sound_cond C n Number (formulas.is_zero (get_or e.diffs i (zero_of formulas))) _ _ (sound_zero C n) (instance_sound r Number g.1))
      instance_sound zeroth κ h = as_kind Number κ _ h (sound_literal C n 0x3ff0000000000000 one_finite)

      instances_sound : (rs : Rules) → EachSound (each_typed ks rs) (instances formulas e rs)
      instances_sound end = tt
      instances_sound (r and rs) = ((λ κ h. instance_sound r κ h), instances_sound rs)
