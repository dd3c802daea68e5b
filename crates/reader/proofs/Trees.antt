-- The tree that stands at a byte: its levels, its children, and where it ends.
use mathlib.Core.Path.{◌≡◌, refl, sym, ap, ◌∙◌, subst}
use mathlib.Core.Bool.{Bool, true, false, cond}
use mathlib.Core.List.{List}
use mathlib.Core.Option.{Option, none, some}
use Prim.Native.Nat.{ℕ, zero, suc, ◌+◌, ◌-◌, ◌*◌, ◌≤◌, ◌<◌}
use native.Mathlib.Omega.{arith}
use lib.ListN.{length}
use lib.Dec.{leb}
use borrow.Author.Tests.{lt-leb, leb-true}
use Rattle.formula.specs.Formula.{Head, malformed, Formula, Formulas, node, last, next, count, size, sizes, depth, depths, is_node, well_formed, all_well_formed}
use Rattle.formula.specs.Node.{fields_at, fields_of, head_of, head_at, children_at, rooted, tree_in, tree_at, node_size}
pub use Rattle.formula.proofs.Sizes.{size_pos, depth_pos}
use Rattle.reader.proofs.Heads.{head_fields, head_is_node, no_true, and_first, and_second}

-- ---- with levels enough, more of them change nothing

children_ext : (t u : ℕ → Formula) (lo k at : ℕ) → ((x : ℕ) → lo ≤ x → t x ≡ u x) → lo ≤ at → children_at t k at ≡ children_at u k at
children_ext t u lo zero at h l = refl
children_ext t u lo (suc k) at h l =
    let e = h at l in
    let r : children_at t k (at + node_size * size (t at)) ≡ children_at u k (at + node_size * size (t at)) =
    children_ext t u lo k (at + node_size * size (t at)) h (omega arith) in
    ap (λ (x : Formula). next x (children_at t k (at + node_size * size (t at)))) e
    ∙ ap (λ (x : Formulas). next (u at) x) r
    ∙ ap (λ (x : Formula). next (u at) (children_at u k (at + node_size * size x))) e

rooted_ext : (t u : ℕ → Formula) (k at : ℕ) (o : Option Head) → ((x : ℕ) → at ≤ x → t x ≡ u x) → rooted t k at o ≡ rooted u k at o
rooted_ext t u k at none h = refl
rooted_ext t u k at (some r) h = ap (λ (ts : Formulas). node r ts) (children_ext t u at k at h (omega arith))

pub head_past : (b : List ℕ) (at : ℕ) → length b < at + node_size → head_at b at ≡ none
unfolding head_at
head_past b at h = ap (λ (x : Bool). cond x (head_of (fields_at b at)) none) (lt-leb (at + node_size) (length b) h)

tree_past : (d : ℕ) (b : List ℕ) (at : ℕ) → length b < at + node_size → tree_in d b at ≡ node malformed last
unfolding tree_in
tree_past zero b at h = refl
tree_past (suc d) b at h = ap (λ (o : Option Head). rooted (λ a. tree_in d b a) (fields_at b at).children (at + node_size) o) (head_past b at h)

-- "each level has a node of 16 bytes"
pub levels_enough : (d e : ℕ) (b : List ℕ) (at : ℕ) → length b ≤ at + node_size * d → length b ≤ at + node_size * e → tree_in d b at ≡ tree_in e b at
unfolding tree_in
levels_enough zero e b at h k = sym (tree_past e b at (omega arith))
levels_enough (suc d) zero b at h k = tree_past (suc d) b at (omega arith)
levels_enough (suc d) (suc e) b at h k =
    rooted_ext (λ a. tree_in d b a) (λ a. tree_in e b a) (fields_at b at).children (at + node_size) (head_at b at) (λ x l. levels_enough d e b x (omega arith) (omega arith))

-- ---- a node and its children

-- the tree at a byte by the node there
pub tree_by_node : (b : List ℕ) (at : ℕ) → tree_at b at ≡ rooted (λ a. tree_at b a) (fields_at b at).children (at + node_size) (head_at b at)
unfolding tree_in
tree_by_node b at = levels_enough (length b) (suc (length b)) b at (omega arith) (omega arith)

-- the head at a byte, and that its 16 bytes are there
pub record Headed (b : List ℕ) (at : ℕ) (h : Head) : Type 0 where
  pub inside : at + node_size ≤ length b
  pub fields : head_of (fields_at b at) ≡ some h
  pub back : fields_of h (fields_at b at).children ≡ fields_at b at
  pub is : is_node h ≡ true

headed_in : (x : Bool) (b : List ℕ) (at : ℕ) (h : Head) → leb (at + node_size) (length b) ≡ x → cond x (head_of (fields_at b at)) none ≡ some h → Headed b at h
headed_in true b at h e q =
    record { inside = leb-true (at + node_size) (length b) e; fields = q; back = head_fields (fields_at b at) h q; is = head_is_node (fields_at b at) h q }
headed_in false b at h e q = let z : ◌≡◌ {A = ℕ} 0 1 = cc in absurd (omega arith)

pub headed : (b : List ℕ) (at : ℕ) (h : Head) → head_at b at ≡ some h → Headed b at h
unfolding head_at
headed b at h q = headed_in (leb (at + node_size) (length b)) b at h refl q

-- a well-formed tree has a head, and its children are well-formed
pub record Node (b : List ℕ) (at : ℕ) (t : ℕ → Formula) (T : Formula) : Type 0 where
  pub head : Head
  pub headed : Headed b at head
  pub at_head : head_at b at ≡ some head
  pub tree : T ≡ node head (children_at t (fields_at b at).children (at + node_size))
  pub children : all_well_formed (children_at t (fields_at b at).children (at + node_size)) ≡ true

node_in : (o : Option Head) (b : List ℕ) (at : ℕ) (t : ℕ → Formula) → head_at b at ≡ o
    → well_formed (rooted t (fields_at b at).children (at + node_size) o) ≡ true → Node b at t (rooted t (fields_at b at).children (at + node_size) o)
node_in none b at t e w = absurd (no_true w)
node_in (some h) b at t e w =
    record {
      head = h;
      headed = headed b at h e;
      at_head = e;
      tree = refl;
      children = and_second (is_node h) (all_well_formed (children_at t (fields_at b at).children (at + node_size))) w;
    }

pub node_of : (d : ℕ) (b : List ℕ) (at : ℕ) → well_formed (tree_in (suc d) b at) ≡ true → Node b at (λ a. tree_in d b a) (tree_in (suc d) b at)
unfolding tree_in
node_of d b at w = node_in (head_at b at) b at (λ a. tree_in d b a) refl w

-- the same of the whole tree at a byte
pub node_at : (b : List ℕ) (at : ℕ) → well_formed (tree_at b at) ≡ true → Node b at (λ a. tree_at b a) (tree_at b at)
node_at b at w =
    let e = tree_by_node b at in
    let R = rooted (λ a. tree_at b a) (fields_at b at).children (at + node_size) (head_at b at) in
    subst (λ (T : Formula). Node b at (λ a. tree_at b a) T) (sym e)
    (node_in (head_at b at) b at (λ a. tree_at b a) refl (sym (ap well_formed e) ∙ w))

pub children_none : (t : ℕ → Formula) (k at : ℕ) → k ≡ 0 → children_at t k at ≡ last
children_none t k at e = ap (λ (x : ℕ). children_at t x at) e

-- the first child, and where the next starts
pub children_next : (t : ℕ → Formula) (k at : ℕ) → (k ≡ 0 → ⊥) → children_at t k at ≡ next (t at) (children_at t (k - 1) (at + node_size * size (t at)))
children_next t zero at h = absurd (h refl)
children_next t (suc k) at h =
    let z : k ≡ suc k - 1 = omega arith in
    ap (λ (x : ℕ). next (t at) (children_at t x (at + node_size * size (t at)))) z

pub count_children : (t : ℕ → Formula) (k at : ℕ) → count (children_at t k at) ≡ k
count_children t zero at = refl
count_children t (suc k) at = ap suc (count_children t k (at + node_size * size (t at)))

pub count_le : (t : ℕ → Formula) (k at : ℕ) → k ≤ sizes (children_at t k at)
count_le t zero at = omega arith
count_le t (suc k) at = omega (arith, count_le t k (at + node_size * size (t at)), size_pos (t at))

-- ---- a well-formed tree ends within the bytes

children_inside : (b : List ℕ) (t : ℕ → Formula) → ((x : ℕ) → well_formed (t x) ≡ true → x + node_size * size (t x) ≤ length b)
    → (k at : ℕ) → at ≤ length b → all_well_formed (children_at t k at) ≡ true → at + node_size * sizes (children_at t k at) ≤ length b
children_inside b t h zero at l w = omega arith
children_inside b t h (suc k) at l w =
    let e = at + node_size * size (t at) in
    let r = h at (and_first (well_formed (t at)) (all_well_formed (children_at t k e)) w) in
    omega (arith, children_inside b t h k e r (and_second (well_formed (t at)) (all_well_formed (children_at t k e)) w))

pub tree_inside : (d : ℕ) (b : List ℕ) (at : ℕ) → well_formed (tree_in d b at) ≡ true → at + node_size * size (tree_in d b at) ≤ length b
unfolding tree_in
tree_inside zero b at w = absurd (no_true w)
tree_inside (suc d) b at w =
    let n = node_of d b at w in
    let c = children_inside b (λ a. tree_in d b a) (λ x. tree_inside d b x) (fields_at b at).children (at + node_size) n.headed.inside n.children in
    omega (arith, ap size n.tree, c)

-- ---- a tree of few levels is the same with few levels

children_shallow : (t u : ℕ → Formula) (d k at : ℕ) → ((x : ℕ) → well_formed (t x) ≡ true → depth (t x) ≤ d → u x ≡ t x)
    → all_well_formed (children_at t k at) ≡ true → depths (children_at t k at) ≤ d → children_at u k at ≡ children_at t k at
children_shallow t u d zero at h w l = refl
children_shallow t u d (suc k) at h w l =
    let x = at + node_size * size (t at) in
    let e = h at (and_first (well_formed (t at)) (all_well_formed (children_at t k x)) w) (omega arith) in
    let r = children_shallow t u d k x h (and_second (well_formed (t at)) (all_well_formed (children_at t k x)) w) (omega arith) in
    ap (λ (z : Formula). next z (children_at u k (at + node_size * size z))) e ∙ ap (λ (z : Formulas). next (t at) z) r

pub fewer_levels : (e d : ℕ) (b : List ℕ) (at : ℕ) → well_formed (tree_in e b at) ≡ true → depth (tree_in e b at) ≤ d → tree_in d b at ≡ tree_in e b at
unfolding tree_in
fewer_levels zero d b at w l = absurd (no_true w)
fewer_levels (suc e) zero b at w l = absurd (omega (arith, depth_pos (tree_in (suc e) b at)))
fewer_levels (suc e) (suc d) b at w l =
    let n = node_of e b at w in
    let k = (fields_at b at).children in
    let c = children_shallow (λ a. tree_in e b a) (λ a. tree_in d b a) d k (at + node_size) (λ x. fewer_levels e d b x) n.children (omega (arith, ap depth n.tree)) in
    ap (λ (o : Option Head). rooted (λ a. tree_in d b a) k (at + node_size) o) n.at_head
    ∙ ap (λ (ts : Formulas). node n.head ts) c
    ∙ sym n.tree

-- a tree has at most as many levels as it was given
children_depth : (t : ℕ → Formula) (d : ℕ) → ((x : ℕ) → well_formed (t x) ≡ true → depth (t x) ≤ d)
    → (k at : ℕ) → all_well_formed (children_at t k at) ≡ true → depths (children_at t k at) ≤ d
children_depth t d h zero at w = omega arith
children_depth t d h (suc k) at w =
    let x = at + node_size * size (t at) in
    let a = h at (and_first (well_formed (t at)) (all_well_formed (children_at t k x)) w) in
    let r = children_depth t d h k x (and_second (well_formed (t at)) (all_well_formed (children_at t k x)) w) in
    omega arith

pub depth_in : (d : ℕ) (b : List ℕ) (at : ℕ) → well_formed (tree_in d b at) ≡ true → depth (tree_in d b at) ≤ d
unfolding tree_in
depth_in zero b at w = absurd (no_true w)
depth_in (suc d) b at w =
    let n = node_of d b at w in
    omega (arith, ap depth n.tree, children_depth (λ a. tree_in d b a) d (λ x. depth_in d b x) (fields_at b at).children (at + node_size) n.children)

-- a well-formed tree is the same with more levels
pub more_levels : (d e : ℕ) (b : List ℕ) (at : ℕ) → well_formed (tree_in d b at) ≡ true → d ≤ e → tree_in e b at ≡ tree_in d b at
more_levels d e b at w l = fewer_levels d e b at w (omega (arith, depth_in d b at w))

mutual
  pub depth_le_size : (f : Formula) → depth f ≤ size f
  depth_le_size (node h ts) = omega (arith, depths_le_sizes ts)

  pub depths_le_sizes : (ts : Formulas) → depths ts ≤ sizes ts
  depths_le_sizes last = omega arith
  depths_le_sizes (next t ts) = omega (arith, depth_le_size t, depths_le_sizes ts)

-- a well-formed tree of any number of levels is the tree at its byte
pub tree_at_is : (d : ℕ) (b : List ℕ) (at : ℕ) → well_formed (tree_in d b at) ≡ true → tree_at b at ≡ tree_in d b at
tree_at_is d b at w =
    fewer_levels d (length b) b at w (omega (arith, tree_inside d b at w, depth_le_size (tree_in d b at)))
