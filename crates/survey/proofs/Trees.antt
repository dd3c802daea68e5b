-- A node's number, its children's numbers, and their rows.
use mathlib.Core.Path.{◌≡◌, refl, sym, ap, ◌∙◌}
use mathlib.Core.Bool.{Bool, true}
use mathlib.Core.List.{List}
use mathlib.Core.Option.{some}
use Prim.Native.Nat.{ℕ, zero, suc, ◌+◌, ◌-◌, ◌*◌, ◌<◌, ◌≤◌}
use native.Mathlib.Omega.{arith}
use lib.ListN.{length, get_or}
use Rattle.formula.specs.Formula.{Head, Formula, Formulas, node, last, next, count, to_list, size, sizes, depth, depths, well_formed, all_well_formed, is_node}
use Rattle.formula.specs.Text.{half_at}
use Rattle.formula.specs.Node.{fields_at, fields_of, children_at, tree_at, node_size}
use Rattle.reader.proofs.Heads.{and_first, and_second}
use Rattle.reader.proofs.Trees.{node_at, tree_inside, size_pos}
use Rattle.survey.specs.Derived.{children_of, derived, derived_all}
use Rattle.survey.specs.Table.{tree, trees, nth, number_from, IsChild}

trees_at : (f : List ℕ) (n k : ℕ) → children_at (λ a. tree_at f a) n (node_size * k) ≡ trees f n k
unfolding tree trees
trees_at f zero k = refl
trees_at f (suc n) k =
    let e : node_size * k + node_size * size (tree f k) ≡ node_size * (k + size (tree f k)) = omega arith in
    ap (λ (x : ℕ). next (tree f k) (children_at (λ a. tree_at f a) n x)) e ∙ ap (λ (ts : Formulas). next (tree f k) ts) (trees_at f n (k + size (tree f k)))

-- a well-formed node
pub record Opened (f : List ℕ) (k : ℕ) : Type 0 where
  pub head : Head
  pub inside : node_size * k + node_size ≤ length f
  pub back : fields_of head (half_at f (node_size * k + 2)) ≡ fields_at f (node_size * k)
  pub is : tree f k ≡ node head (trees f (half_at f (node_size * k + 2)) (k + 1))
  pub all : all_well_formed (trees f (half_at f (node_size * k + 2)) (k + 1)) ≡ true
  pub node_head : is_node head ≡ true

pub opened : (f : List ℕ) (k : ℕ) → well_formed (tree f k) ≡ true → Opened f k
unfolding tree fields_at
opened f k w =
    let m = node_at f (node_size * k) w in
    let n = half_at f (node_size * k + 2) in
    let e : node_size * k + node_size ≡ node_size * (k + 1) = omega arith in
    let c : children_at (λ a. tree_at f a) n (node_size * k + node_size) ≡ trees f n (k + 1) =
    ap (λ (x : ℕ). children_at (λ a. tree_at f a) n x) e ∙ trees_at f n (k + 1) in
    record {
      head = m.head;
      inside = m.headed.inside;
      back = m.headed.back;
      is = m.tree ∙ ap (λ (ts : Formulas). node m.head ts) c;
      all = sym (ap all_well_formed c) ∙ m.children;
      node_head = m.headed.is;
    }

pub tree_ends : (f : List ℕ) (k : ℕ) → well_formed (tree f k) ≡ true → node_size * (k + size (tree f k)) ≤ length f
unfolding tree
tree_ends f k w = omega (arith, tree_inside (length f) f (node_size * k) w)

pub trees_next : (f : List ℕ) (n k : ℕ) → (n ≡ 0 → ⊥) → trees f n k ≡ next (tree f k) (trees f (n - 1) (k + size (tree f k)))
unfolding trees
trees_next f zero k h = absurd (h refl)
trees_next f (suc n) k h =
    let e : n ≡ suc n - 1 = omega arith in
    ap (λ (x : ℕ). next (tree f k) (trees f x (k + size (tree f k)))) e

pub trees_none : (f : List ℕ) (n k : ℕ) → n ≡ 0 → trees f n k ≡ last
unfolding trees
trees_none f zero k e = refl
trees_none f (suc n) k e = absurd (omega arith)

pub trees_count : (f : List ℕ) (n k : ℕ) → count (trees f n k) ≡ n
unfolding trees
trees_count f zero k = refl
trees_count f (suc n) k = ap suc (trees_count f n (k + size (tree f k)))

pub children_is : (f : List ℕ) (k : ℕ) (o : Opened f k) → children_of (tree f k) ≡ trees f (half_at f (node_size * k + 2)) (k + 1)
children_is f k o = ap children_of o.is

pub count_is : (f : List ℕ) (k : ℕ) (w : well_formed (tree f k) ≡ true) → count (children_of (tree f k)) ≡ half_at f (node_size * k + 2)
count_is f k w = ap count (children_is f k (opened f k w)) ∙ trees_count f (half_at f (node_size * k + 2)) (k + 1)

-- ---- the walk to child i

pub record Walk (f : List ℕ) (k i m left at : ℕ) : Type 0 where
  pub more : left < m
  pub after : k < at
  pub ends : at + sizes (trees f m at) ≡ k + size (tree f k)
  pub all : all_well_formed (trees f m at) ≡ true
  pub shallower : depths (trees f m at) < depth (tree f k)
  pub is : nth (children_of (tree f k)) i ≡ nth (trees f m at) left
  pub number : number_from (k + 1) (children_of (tree f k)) i ≡ number_from at (trees f m at) left

pub walk_start : (f : List ℕ) (k i n : ℕ) → well_formed (tree f k) ≡ true → n ≡ half_at f (node_size * k + 2) → i < n → Walk f k i n i (k + 1)
walk_start f k i n w e h =
    let o = opened f k w in
    let c : trees f (half_at f (node_size * k + 2)) (k + 1) ≡ trees f n (k + 1) = ap (λ (x : ℕ). trees f x (k + 1)) (sym e) in
    record {
      more = h;
      after = omega arith;
      ends = omega (arith, ap size o.is, ap sizes c);
      all = sym (ap all_well_formed c) ∙ o.all;
      shallower = omega (arith, ap depth o.is, ap depths c);
      is = ap (λ (ts : Formulas). nth ts i) (children_is f k o ∙ c);
      number = ap (λ (ts : Formulas). number_from (k + 1) ts i) (children_is f k o ∙ c);
    }

nth_suc : (t : Formula) (ts : Formulas) (i : ℕ) → (i ≡ 0 → ⊥) → nth (next t ts) i ≡ nth ts (i - 1)
nth_suc t ts zero h = absurd (h refl)
nth_suc t ts (suc i) h = let e : i ≡ suc i - 1 = omega arith in ap (λ (x : ℕ). nth ts x) e

number_suc : (k : ℕ) (t : Formula) (ts : Formulas) (i : ℕ) → (i ≡ 0 → ⊥) → number_from k (next t ts) i ≡ number_from (k + size t) ts (i - 1)
number_suc k t ts zero h = absurd (h refl)
number_suc k t ts (suc i) h = let e : i ≡ suc i - 1 = omega arith in ap (λ (x : ℕ). number_from (k + size t) ts x) e

pub walk_next : (f : List ℕ) (k i m left at : ℕ) → Walk f k i m left at → (left ≡ 0 → ⊥) → Walk f k i (m - 1) (left - 1) (at + size (tree f at))
walk_next f k i m left at w z =
    let nz : m ≡ 0 → ⊥ = λ e. omega (arith, w.more) in
    let q = trees_next f m at nz in
    let us = trees f (m - 1) (at + size (tree f at)) in
    record {
      more = omega (arith, w.more, nz);
      after = omega (arith, w.after);
      ends = omega (arith, w.ends, ap sizes q);
      all = and_second (well_formed (tree f at)) (all_well_formed us) (sym (ap all_well_formed q) ∙ w.all);
      shallower = omega (arith, w.shallower, ap depths q);
      is = w.is ∙ ap (λ (ts : Formulas). nth ts left) q ∙ nth_suc (tree f at) us left z;
      number = w.number ∙ ap (λ (ts : Formulas). number_from at ts left) q ∙ number_suc at (tree f at) us left z;
    }

-- the tree that the walk stands at
pub record Stands (f : List ℕ) (k at : ℕ) : Type 0 where
  pub after : k < at
  pub ends : at + size (tree f at) ≤ k + size (tree f k)
  pub formed : well_formed (tree f at) ≡ true
  pub shallower : depth (tree f at) < depth (tree f k)
  pub one : 1 ≤ size (tree f at)

pub walk_stands : (f : List ℕ) (k i m left at : ℕ) → Walk f k i m left at → Stands f k at
walk_stands f k i m left at w =
    let nz : m ≡ 0 → ⊥ = λ e. omega (arith, w.more) in
    let q = trees_next f m at nz in
    let us = trees f (m - 1) (at + size (tree f at)) in
    record {
      after = w.after;
      ends = omega (arith, w.ends, ap sizes q);
      formed = and_first (well_formed (tree f at)) (all_well_formed us) (sym (ap all_well_formed q) ∙ w.all);
      shallower = omega (arith, w.shallower, ap depths q);
      one = size_pos (tree f at);
    }

pub walk_done : (f : List ℕ) (k i m left at : ℕ) → Walk f k i m left at → left ≡ 0 → IsChild f k i at
walk_done f k i m left at w z =
    let nz : m ≡ 0 → ⊥ = λ e. omega (arith, w.more) in
    let s = walk_stands f k i m left at w in
    record {
      after = s.after;
      ends = s.ends;
      formed = s.formed;
      shallower = s.shallower;
      is = w.is ∙ ap (λ (x : ℕ). nth (trees f m at) x) z ∙ ap (λ (ts : Formulas). nth ts 0) (trees_next f m at nz);
      number = w.number ∙ ap (λ (x : ℕ). number_from at (trees f m at) x) z ∙ ap (λ (ts : Formulas). number_from at ts 0) (trees_next f m at nz);
    }

-- ---- child i of a list

pub child_at : (ts : Formulas) (i : ℕ) (t z : Formula) → nth ts i ≡ some t → get_or (to_list ts) i z ≡ t
child_at last i t z e = let y : ◌≡◌ {A = ℕ} 0 1 = cc in absurd (omega arith)
child_at (next u ts) zero t z e = cc
child_at (next u ts) (suc i) t z e = child_at ts i t z e

pub derived_at : (s : ℕ) (b : Bool) (ts : Formulas) (i : ℕ) (t z : Formula) → nth ts i ≡ some t → get_or (derived_all s b ts) i z ≡ derived s b t
derived_at s b last i t z e = let y : ◌≡◌ {A = ℕ} 0 1 = cc in absurd (omega arith)
derived_at s b (next u ts) zero t z e = let q : u ≡ t = cc in ap (derived s b) q
derived_at s b (next u ts) (suc i) t z e = derived_at s b ts i t z e

pub child_past : (ts : Formulas) (i : ℕ) (z : Formula) → count ts ≤ i → get_or (to_list ts) i z ≡ z
child_past last i z h = refl
child_past (next u ts) zero z h = absurd (omega arith)
child_past (next u ts) (suc i) z h = child_past ts i z (omega arith)

pub derived_past : (s : ℕ) (b : Bool) (ts : Formulas) (i : ℕ) (z : Formula) → count ts ≤ i → get_or (derived_all s b ts) i z ≡ z
derived_past s b last i z h = refl
derived_past s b (next u ts) zero z h = absurd (omega arith)
derived_past s b (next u ts) (suc i) z h = derived_past s b ts i z (omega arith)
