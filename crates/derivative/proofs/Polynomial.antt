-- "The rates of plain polynomials, exactly" (document 02, slip 13): the theorem for every plain formula and for what derive gives, that nothing else meets it, and that derive
-- refuses a plain formula that compiles only for its symbol's number or for its slices.
use mathlib.Core.Path.{◌≡◌, refl, sym, ap, subst, ap₂, ◌∙◌}
use mathlib.Core.List.{List}
use mathlib.Core.Bool.{Bool, true, cond}
use mathlib.Core.Option.{none, some, some-injective}
use Prim.Native.Nat.{ℕ, ◌+◌, ◌*◌, ◌≤◌, ◌<◌, max}
use native.Mathlib.Nat.{mul-le-mul}
use native.Mathlib.Omega.{arith}
use lib.ListN.{length}
use lib.Dec.{leb, ltb}
use borrow.Author.Tests.{leb-true, le-leb, lt-ltb, le-ltb}
use lib.IntN.{ℤ, pos, ◌-ℤ◌, ◌*ℤ◌, *ℤ-zero}
use Rattle.refusals.specs.Numbers.{slice_too_short, unknown_symbol}
use Rattle.formula.specs.Operator.{Operation, unary, binary, compare, call, Positive, Negative, Not, Number, result_kind, arity}
use Rattle.formula.specs.Formula.{Head, number, truth, symbol, operation, junction, ifelse, conditional, malformed, Formula, Formulas, node, last, next, count, size, depth, formula_limit}
use Rattle.formula.specs.Names.{Symbol}
use Rattle.formula.specs.Node.{node_size}
use Rattle.formula.specs.Path.{root}
use Rattle.formula.specs.Term.{term}
use Rattle.formula.proofs.Tests.{and_first}
use Rattle.formula.proofs.Sizes.{depth_pos}
use Rattle.machine.specs.Check.{kind}
use Rattle.machine.specs.Compile.{compile, accepted, node_room, program_room}
use Rattle.machine.proofs.Accepted.{accepted_formula}
use Rattle.derivative.specs.Differentiate.{differentiate, with_primal, derivative}
use Rattle.derivative.specs.Records.{Record, derivative_records, record_size}
use Rattle.derivative.specs.Derive.{refused, derived, by_state, tree_room, list_room, Lengths, too_short, derive}
use Rattle.derivative.specs.Polynomial.{Setting, plain, all_plain, plain_head, plain_operation, exact, Rate, ExactRate}
use Rattle.derivative.proofs.Faultless.{never, both}
use Rattle.derivative.proofs.Compiles.{and_then_some}
use Rattle.derivative.proofs.Derived.{derived_formula, Derivation}
use Rattle.derivative.proofs.Exact.{plain_value}
use Rattle.derivative.proofs.Ruled.{Ruled, differentiable}
use Rattle.derivative.proofs.Bounds.{rate_size, rate_depth, tree_size, tree_depth}
use Rattle.derivative.proofs.Moves.{one_slope}
use Rattle.derivative.proofs.Slopes.{slope_of, as_rate, primal_slope}

-- ---- for every setting and every h

module _ (s : ℕ) (by_state : Bool) (f g : Formula) (p : plain f ≡ true) (e : differentiate s by_state f ≡ some g) where
  pub ruled_rate : Ruled s f g
  ruled_rate =
      let r = differentiable s by_state f p in
      let q : r.rate ≡ g = some-injective _ _ (sym r.differentiated ∙ e) in
      subst (λ (k : Formula). Ruled s f k) q r.ruled

  -- of the derivative by the rules, and of the tree, 0 × formula + derivative
  pub derivative_rate : ExactRate s f g
  derivative_rate σ h = as_rate s σ h f g (slope_of s σ h ruled_rate)

  pub tree_rate : ExactRate s f (with_primal f g)
  tree_rate σ h = as_rate s σ h f (with_primal f g) (primal_slope s σ h f g (slope_of s σ h ruled_rate))

  -- the tree is plain too
  pub tree_plain : plain (with_primal f g) ≡ true
  tree_plain = let σ : Setting = λ i. pos 0 in let r = tree_rate σ (pos 0) in (plain_value σ (with_primal f g)).1 (r.slope, r.slope_is)

  pub tree_bounds : (size (with_primal f g) ≤ 3 + 3 * size f + size f * depth f) × (depth (with_primal f g) ≤ max 3 (2 * depth f))
  tree_bounds =
      (omega (arith, tree_size f g, rate_size s ruled_rate), omega (arith, tree_depth f g, depth_pos f, rate_depth s ruled_rate))

-- "(zero at h = 0)"
pub nothing_left : (s : ℕ) (σ : Setting) (f d : Formula) (r : Rate s σ (pos 0) f d) → r.moved -ℤ r.value -ℤ pos 0 *ℤ r.slope ≡ pos 0
nothing_left s σ f d r = r.left ∙ *ℤ-zero r.multiple

-- ---- no other value meets it

-- whatever tree, of whatever formula: where two meet the claim they have the same value, at every setting
pub one_rate : (s : ℕ) (f d d' : Formula) → ExactRate s f d → ExactRate s f d' → (σ : Setting) → exact σ d' ≡ exact σ d
one_rate s f d d' A B σ =
    let F : ℤ → ℤ = λ h. (A σ h).moved -ℤ (A σ h).value in
    let z = (A σ (pos 0)).slope in
    let w = (B σ (pos 0)).slope in
    let a : (h : ℤ) → F h -ℤ h *ℤ z ≡ (A σ h).multiple *ℤ (h *ℤ h) =
    λ h. ap (λ (k : ℤ). F h -ℤ h *ℤ k) (some-injective _ _ (sym (A σ (pos 0)).slope_is ∙ (A σ h).slope_is)) ∙ (A σ h).left in
    let b : (h : ℤ) → F h -ℤ h *ℤ w ≡ (B σ h).multiple *ℤ (h *ℤ h) =
    λ h.
    ap₂ (λ (m v : ℤ). m -ℤ v -ℤ h *ℤ w) (some-injective _ _ (sym (A σ h).moved_is ∙ (B σ h).moved_is)) (some-injective _ _ (sym (A σ h).value_is ∙ (B σ h).value_is))
    ∙ ap (λ (k : ℤ). (B σ h).moved -ℤ (B σ h).value -ℤ h *ℤ k) (some-injective _ _ (sym (B σ (pos 0)).slope_is ∙ (B σ h).slope_is))
    ∙ (B σ h).left in
    let e : w ≡ z = one_slope F z w (λ h. ((A σ h).multiple, a h)) (λ h. ((B σ h).multiple, b h)) in
    (B σ (pos 0)).slope_is ∙ ap some e ∙ sym (A σ (pos 0)).slope_is

-- ---- derive

-- a plain formula is a Number
operation_number : (o : Operation) → plain_operation o ≡ true → result_kind o ≡ Number
operation_number (unary Positive) p = refl
operation_number (unary Negative) p = refl
operation_number (unary Not) p = never p
operation_number (binary o) p = refl
operation_number (compare o) p = never p
operation_number (call f) p = refl

head_number : (h : Head) (ts : Formulas) → plain_head h (count ts) ≡ true → kind (term (node h ts)) ≡ Number
head_number (number b) last p = refl
head_number (number b) (next t ts) p = refl
head_number (truth b) ts p = never p
head_number (symbol i) last p = refl
head_number (symbol i) (next t ts) p = refl
head_number (operation o) ts p = operation_number o (and_first (plain_operation o) (arity o (count ts)) p)
head_number (junction j) ts p = never p
head_number ifelse ts p = never p
head_number conditional ts p = never p
head_number malformed ts p = never p

pub plain_number : (f : Formula) → plain f ≡ true → kind (term f) ≡ Number
plain_number (node h ts) p = head_number h ts (and_first (plain_head h (count ts)) (all_plain ts) p)

-- of a formula within the limits
small : (f d : Formula) → formula_limit f ≡ true → (size d ≤ 3 + 3 * size f + size f * depth f) × (depth d ≤ max 3 (2 * depth f))
    → (size d ≤ 8963) × (depth d ≤ 64)
small f d l b =
    let t = both (leb (size f) 256) _ l in
    let n : size f ≤ 256 = leb-true (size f) 256 t.0 in
    let k : depth f ≤ 32 = leb-true (depth f) 32 t.1 in
    let m : size f * depth f ≤ 256 * 32 = mul-le-mul n k in
    (omega arith, omega arith)

module _ (formula names : List ℕ) (s path_length : ℕ) (l : Lengths) where
  -- a tree that derive gives, for a plain formula
  pub derivation_rate : (f d : Formula) (rs : List Record) (symbols : List Symbol) → Derivation formula names s path_length l.program f d rs symbols → plain f ≡ true
      → (plain d ≡ true) × ExactRate s f d
  derivation_rate f d rs symbols D p =
      let g = and_then_some (differentiate s (by_state symbols s) f) _ d D.differentiated in
      subst (λ (k : Formula). (plain k ≡ true) × ExactRate s f k) (some-injective _ _ g.2)
      (tree_plain s (by_state symbols s) f g.0 p g.1, tree_rate s (by_state symbols s) f g.0 p g.1)

  -- "of each that derives": f is the formula that compiles from the bytes, d the tree
  pub derived_rate : (d : Formula) (rs : List Record) (symbols : List Symbol) → derive formula names s path_length l ≡ derived d rs symbols
      → (f : Formula) × (compile formula names path_length l.program ≡ accepted f symbols) × (plain f ≡ true → (plain d ≡ true) × ExactRate s f d)
  derived_rate d rs symbols e =
      let r = derived_formula formula names s path_length l d rs symbols e in
      (r.0, r.1.compiled, λ p. derivation_rate r.0 d rs symbols r.1 p)

  module _ (f : Formula) (symbols : List Symbol) (c : compile formula names path_length l.program ≡ accepted f symbols) (p : plain f ≡ true) where
    -- Nothing hides in "that derives": a plain formula that compiles has a tree d, of at most 8,963 nodes and 64 levels, and derive refuses it only by 6, where there is no such symbol, and
    -- by 1, where a slice is too short for d; never by 7, 8 or 4.
    pub plain_derive :
        (d : Formula) × (derivative s (by_state symbols s) f ≡ some d) × (size d ≤ 8963) × (depth d ≤ 64)
        × (derive formula names s path_length l
        ≡ cond (ltb s (length symbols))
        (cond (too_short l (size d)) (refused slice_too_short none) (derived d (derivative_records s (by_state symbols s) f) symbols))
        (refused unknown_symbol (some root)))
    unfolding derive
    plain_derive =
        let r = differentiable s (by_state symbols s) f p in
        let d = with_primal f r.rate in
        let b =
        small f d (accepted_formula formula names path_length l.program f symbols c).limit
        (tree_bounds s (by_state symbols s) f r.rate p r.differentiated) in
        let n : size d ≤ 16384 = omega (arith, b) in
        let k : depth d ≤ 128 = omega (arith, b) in
        (d, rw r.differentiated, b.0, b.1, rw (c, plain_number f p, r.differentiated, le-leb (size d) 16384 n, le-leb (depth d) 128 k))

    -- so with room for 8,963 nodes it derives, by every symbol
    pub plain_derives : s < length symbols → node_size * 8963 ≤ l.tree → record_size * 8963 ≤ l.list → node_room * 8963 ≤ l.program
        → (d : Formula) × (derive formula names s path_length l ≡ derived d (derivative_records s (by_state symbols s) f) symbols)
    plain_derives k t q r =
        let x = plain_derive in
        let d = x.0 in
        let n : size d ≤ 8963 = x.2 in
        let a : tree_room (size d) ≤ l.tree = omega arith in
        let h : list_room (size d) ≤ l.list = omega arith in
        let b : program_room (tree_room (size d)) ≤ l.program = omega arith in
        (d, x.4 ∙ rw (lt-ltb s (length symbols) k, le-ltb l.tree (tree_room (size d)) a, le-ltb l.list (list_room (size d)) h, le-ltb l.program (program_room (tree_room (size d))) b))
