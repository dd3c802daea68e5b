-- What the rows of the table say of a node and of its children.
use mathlib.Core.Path.{◌≡◌, refl, sym, ap, ◌∙◌, subst}
use mathlib.Core.Bool.{Bool, true}
use mathlib.Core.List.{List}
use mathlib.Core.Option.{Option, none, some}
use Rattle.std.specs.Prelude.{MatchOption, IfSome, Option as Given, None, Some, is_some as given_some, eqb}
use Rattle.std.proofs.lemmas.Bool.Decides.{nat_tests}
use Prim.Native.Nat.{ℕ, ◌+◌, ◌-◌, ◌*◌, ◌<◌, ◌≤◌, min}
use native.Mathlib.Omega.{arith}
use lib.ListN.{length}
use Rattle.formula.specs.Operator.{unary, binary, compare, call}
use Rattle.formula.specs.Formula.{Head, number, truth, symbol, operation, junction, ifelse, conditional, malformed, Formula, Formulas, last, next, count, size, depth, well_formed}
use Rattle.formula.specs.Text.{byte_at, half_at, long_at}
use Rattle.formula.specs.Node.{Fields, fields_at, fields_of, node_size}
use Rattle.derivative.specs.Differentiate.{literal_head, literal_bits, second_literal}
use Rattle.derivative.specs.Attributes.{Attributes, attributes_of}
use Rattle.reader.proofs.Trees.{size_pos}
use Rattle.survey.specs.Derived.{children_of, child_of, derived, derived_of, zero_literal}
use Rattle.formula.specs.Optional.{option_of}
use Rattle.survey.specs.Table.{tree, nth, IsChild, Own, Owned, Surveyed, Ready, row_in}
use Rattle.survey.specs.declared.Row.{Row}
use Rattle.survey.proofs.Trees.{opened, Walk, walk_next, walk_stands, Stands, count_is, child_at, derived_at, child_past, derived_past}

-- ---- a literal

number_head : (h : Head) (n : ℕ) (F : Fields) → fields_of h n ≡ F → F.kind ≡ 0 → some F.value ≡ literal_head h
number_head (number b) n F e z = ap (λ (x : Fields). some x.value) (sym e)
number_head (truth b) n F e z = absurd (omega (arith, ap (λ (x : Fields). x.kind) e))
number_head (symbol b) n F e z = absurd (omega (arith, ap (λ (x : Fields). x.kind) e))
number_head (operation (unary o)) n F e z = absurd (omega (arith, ap (λ (x : Fields). x.kind) e))
number_head (operation (binary o)) n F e z = absurd (omega (arith, ap (λ (x : Fields). x.kind) e))
number_head (operation (compare o)) n F e z = absurd (omega (arith, ap (λ (x : Fields). x.kind) e))
number_head (operation (call o)) n F e z = absurd (omega (arith, ap (λ (x : Fields). x.kind) e))
number_head (junction j) n F e z = absurd (omega (arith, ap (λ (x : Fields). x.kind) e))
number_head ifelse n F e z = absurd (omega (arith, ap (λ (x : Fields). x.kind) e))
number_head conditional n F e z = absurd (omega (arith, ap (λ (x : Fields). x.kind) e))
number_head malformed n F e z = absurd (omega (arith, ap (λ (x : Fields). x.kind) e))

other_head : (h : Head) (n : ℕ) (F : Fields) → fields_of h n ≡ F → (F.kind ≡ 0 → ⊥) → none ≡ literal_head h
other_head (number b) n F e z = absurd (z (sym (ap (λ (x : Fields). x.kind) e)))
other_head (truth b) n F e z = refl
other_head (symbol b) n F e z = refl
other_head (operation o) n F e z = refl
other_head (junction j) n F e z = refl
other_head ifelse n F e z = refl
other_head conditional n F e z = refl
other_head malformed n F e z = refl

module _ (f : List ℕ) (k : ℕ) (w : well_formed (tree f k) ≡ true) where
  pub literal_yes : (b : ℕ) → b ≡ long_at f (node_size * k + 8) → byte_at f (node_size * k) ≡ 0 → some b ≡ literal_bits (tree f k)
  unfolding fields_at
  literal_yes b e z =
      let o = opened f k w in
      ap (λ (x : ℕ). some x) e ∙ number_head o.head (half_at f (node_size * k + 2)) (fields_at f (node_size * k)) o.back z ∙ sym (ap literal_bits o.is)

  pub literal_no : (byte_at f (node_size * k) ≡ 0 → ⊥) → none ≡ literal_bits (tree f k)
  unfolding fields_at
  literal_no z =
      let o = opened f k w in
      other_head o.head (half_at f (node_size * k + 2)) (fields_at f (node_size * k)) o.back z ∙ sym (ap literal_bits o.is)

  pub literal_read : (b : ℕ) (o : Given ℕ) → b ≡ byte_at f (node_size * k) → given_some o ≡ eqb b 0 → IfSome o (λ x. x ≡ long_at f (node_size * k + 8))
      → option_of o ≡ literal_bits (tree f k)
  literal_read b None e t h = literal_no (λ z. absurd (grind (arith, nat_tests)))
  literal_read b (Some x) e t h = literal_yes x h (grind (arith, nat_tests))

pub first_inside : (f : List ℕ) (k : ℕ) → well_formed (tree f k) ≡ true → node_size * k + node_size ≤ length f
first_inside f k w = (opened f k w).inside

-- ---- its own row

pub row_inside : (f : List ℕ) (T : List Row) (k : ℕ) → Owned f T k → k < length T
row_inside f T k o = omega (arith, o.long, size_pos (tree f k))

pub own_row : (f : List ℕ) (T : List Row) (k : ℕ) → Owned f T k → Own f T k
own_row f T k o = o.own k (omega arith) (omega (arith, size_pos (tree f k)))

attributes_path : (n m d c : ℕ) (a b : Option ℕ) → n ≡ m → d ≡ c → a ≡ b
    → ◌≡◌ {A = Attributes} (record { nodes = n; levels = d; bits = a }) (record { nodes = m; levels = c; bits = b })
attributes_path n m d c a b p q r = cc

pub own_right : (f : List ℕ) (T : List Row) (k : ℕ) → Owned f T k → (n l : ℕ) (b : Option ℕ) → n ≡ min (row_in T k).nodes 16385 → l ≡ min (row_in T k).levels 129
    → b ≡ literal_bits (tree f k) → ◌≡◌ {A = Attributes} (record { nodes = n; levels = l; bits = b }) (attributes_of (tree f k))
own_right f T k o n l b p q r =
    let w = own_row f T k o in
    attributes_path n (min 16385 (size (tree f k))) l (min 129 (depth (tree f k))) b (literal_bits (tree f k)) (omega (arith, p, w.nodes)) (omega (arith, q, w.levels)) r

-- ---- the walk to a child by the sizes in the table

module _ (f : List ℕ) (T : List Row) (k i : ℕ) (o : Owned f T k) (h : i < half_at f (node_size * k + 2)) (left at : ℕ) (w : Walk f k i (left + (half_at f (node_size * k + 2) - i)) left at) where
  abbrev rest : ℕ
  rest = half_at f (node_size * k + 2) - i

  pub stands : Stands f k at
  stands = walk_stands f k i (left + rest) left at w

  pub step_size : (row_in T at).nodes ≡ size (tree f at)
  step_size = let s = stands in (o.own at (omega (arith, s.after)) (omega (arith, s.ends, s.one))).nodes

  pub walk_again : (left ≡ 0 → ⊥) → Walk f k i (left - 1 + rest) (left - 1) (at + (row_in T at).nodes)
  walk_again z =
      let e : left + rest - 1 ≡ left - 1 + rest = omega (arith, z) in
      let p : at + size (tree f at) ≡ at + (row_in T at).nodes = ap (λ (x : ℕ). at + x) (sym step_size) in
      subst (λ (m : ℕ). Walk f k i m (left - 1) (at + (row_in T at).nodes)) e
      (subst (λ (x : ℕ). Walk f k i (left + rest - 1) (left - 1) x) p (walk_next f k i (left + rest) left at w z))

-- ---- a child's row

pub owned_child : (f : List ℕ) (T : List Row) (k i r : ℕ) → Owned f T k → IsChild f k i r → Owned f T r
owned_child f T k i r o c =
    record {
      formed = c.formed;
      long = omega (arith, o.long, c.ends);
      own = λ j a b. o.own j (omega (arith, c.after)) (omega (arith, c.ends));
    }

pub surveyed_child : (s : ℕ) (b : Bool) (f : List ℕ) (T : List Row) (k i r : ℕ) → Ready s b f T k → IsChild f k i r → Surveyed s b f T r
surveyed_child s b f T k i r o c = o.below r c.after (omega (arith, c.ends, size_pos (tree f r)))

pub child_is : (f : List ℕ) (k i r : ℕ) → IsChild f k i r → child_of (tree f k) i ≡ tree f r
child_is f k i r c = child_at (children_of (tree f k)) i (tree f r) zero_literal c.is

pub derived_is : (s : ℕ) (b : Bool) (f : List ℕ) (k i r : ℕ) → IsChild f k i r → derived_of s b (tree f k) i ≡ derived s b (tree f r)
derived_is s b f k i r c = derived_at s b (children_of (tree f k)) i (tree f r) zero_literal c.is

pub child_none : (f : List ℕ) (k i : ℕ) → well_formed (tree f k) ≡ true → half_at f (node_size * k + 2) ≤ i → child_of (tree f k) i ≡ zero_literal
child_none f k i w h = child_past (children_of (tree f k)) i zero_literal (omega (arith, count_is f k w))

pub derived_none : (s : ℕ) (b : Bool) (f : List ℕ) (k i : ℕ) → well_formed (tree f k) ≡ true → half_at f (node_size * k + 2) ≤ i → derived_of s b (tree f k) i ≡ zero_literal
derived_none s b f k i w h = derived_past s b (children_of (tree f k)) i zero_literal (omega (arith, count_is f k w))

-- ---- the exponent

second_is : (ts : Formulas) (t : Formula) → nth ts 1 ≡ some t → second_literal ts ≡ literal_bits t
second_is last t e = let y : ◌≡◌ {A = ℕ} 0 1 = cc in absurd (omega arith)
second_is (next u last) t e = let y : ◌≡◌ {A = ℕ} 0 1 = cc in absurd (omega arith)
second_is (next u (next v ts)) t e = let q : v ≡ t = cc in ap literal_bits q

second_none : (ts : Formulas) → count ts ≤ 1 → second_literal ts ≡ none
second_none last h = refl
second_none (next u last) h = refl
second_none (next u (next v ts)) h = absurd (omega arith)

pub exponent_is : (f : List ℕ) (k r : ℕ) → IsChild f k 1 r → second_literal (children_of (tree f k)) ≡ literal_bits (tree f r)
exponent_is f k r c = second_is (children_of (tree f k)) (tree f r) c.is

pub exponent_none : (f : List ℕ) (k : ℕ) → well_formed (tree f k) ≡ true → half_at f (node_size * k + 2) ≤ 1 → second_literal (children_of (tree f k)) ≡ none
exponent_none f k w h = second_none (children_of (tree f k)) (omega (arith, count_is f k w))

-- ---- a child as the code has it

module _ (f : List ℕ) (T : List Row) (k i : ℕ) (g : List ℕ) (U : List Row) (r : ℕ) (h : (g ≡ f) × (U ≡ T) × IsChild f k i r) where
  pub child_given : child_of (tree f k) i ≡ tree g r
  child_given = child_is f k i r h.2 ∙ ap (λ (x : List ℕ). tree x r) (sym h.0)

  pub derived_given : (s : ℕ) (b : Bool) → derived_of s b (tree f k) i ≡ derived s b (tree g r)
  derived_given s b = derived_is s b f k i r h.2 ∙ ap (λ (x : List ℕ). derived s b (tree x r)) (sym h.0)

  pub surveyed_given : (s : ℕ) (b : Bool) → Ready s b f T k → Surveyed s b g U r
  surveyed_given s b o =
      subst (λ (x : List ℕ). Surveyed s b x U r) (sym h.0) (subst (λ (V : List Row). Surveyed s b f V r) (sym h.1) (surveyed_child s b f T k i r o h.2))

pub exponent_given : (f : List ℕ) (T : List Row) (k i : ℕ) (g : List ℕ) (U : List Row) (r : ℕ) → (g ≡ f) × (U ≡ T) × IsChild f k i r → i ≡ 1
    → second_literal (children_of (tree f k)) ≡ literal_bits (tree g r)
exponent_given f T k i g U r h e =
    exponent_is f k r (subst (λ (x : ℕ). IsChild f k x r) e h.2) ∙ ap (λ (x : List ℕ). literal_bits (tree x r)) (sym h.0)

-- ---- an option's two facts, by what it is

pub either : {T : Type 0} {M N R : Type 0} {P Q : T → Type 0} (o : Given T) → MatchOption o M P → MatchOption o N Q → (M → N → R) → ((x : T) → P x → Q x → R) → R
either None m n f g = f m n
either (Some x) p q f g = g x p q
