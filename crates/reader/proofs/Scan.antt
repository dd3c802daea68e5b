-- The nodes one after another, and the trees that they make.
use mathlib.Core.Path.{◌≡◌, refl, sym, ap, ◌∙◌}
use mathlib.Core.Bool.{Bool, true, false, cond, ◌&&◌, and_assoc, and-true}
use mathlib.Core.List.{List}
use mathlib.Core.Option.{Option, none, some}
use Prim.Native.Nat.{ℕ, zero, suc, ◌+◌, ◌-◌, ◌*◌, ◌≤◌, ◌<◌}
use native.Mathlib.Omega.{arith}
use lib.ListN.{length}
use lib.Dec.{eqb, leb}
use borrow.Author.Tests.{eqb-true, le-leb}
use Rattle.formula.specs.Formula.{Head, malformed, Formula, Formulas, node, last, next, size, sizes, depth, is_node, well_formed, all_well_formed}
use Rattle.formula.specs.Text.{half_at}
use Rattle.formula.specs.Node.{Fields, fields_at, head_of, head_at, children_at, rooted, tree_in, tree_at, formula_of, node_size}
use Rattle.formula.specs.Transfer as Transfer
use Rattle.formula.specs.Transfer.{all_good_nodes, ended_early, fault_in, good_nodes, left_over, received, transfer_of, wrong_field}
use Rattle.reader.specs.Read.{is_some, told}
use Rattle.std.specs.Prelude.{Result, Ok, Err}
use Rattle.std.specs.Result.{is_ok}
use Rattle.reader.specs.declared.Malformed.{Malformed}
use Rattle.reader.specs.declared.Malformed.TheVariants.{EndedEarly, WrongField, LeftOver}
use Rattle.reader.proofs.Heads.{no_true, and_first, and_second}
use Rattle.reader.proofs.Trees.{head_past, headed, tree_by_node, children_next, children_none, fewer_levels}

-- ---- trees one after another

all_add : (t : ℕ → Formula) (k m x : ℕ)
    → all_well_formed (children_at t (k + m) x) ≡ (all_well_formed (children_at t k x) && all_well_formed (children_at t m (x + node_size * sizes (children_at t k x))))
all_add t zero m x =
    let a : zero + m ≡ m = omega arith in
    let b : x ≡ x + node_size * 0 = omega arith in
    ap (λ (j : ℕ). all_well_formed (children_at t j x)) a ∙ ap (λ (j : ℕ). all_well_formed (children_at t m j)) b
all_add t (suc k) m x =
    let y = x + node_size * size (t x) in
    let s = sizes (children_at t k y) in
    let a : suc k + m ≡ suc (k + m) = omega arith in
    let b : y + node_size * s ≡ x + node_size * (size (t x) + s) = omega arith in
    ap (λ (j : ℕ). all_well_formed (children_at t j x)) a
    ∙ ap (λ (w : Bool). well_formed (t x) && w) (all_add t k m y)
    ∙ sym (and_assoc (well_formed (t x)) (all_well_formed (children_at t k y)) (all_well_formed (children_at t m (y + node_size * s))))
    ∙ ap (λ (j : ℕ). well_formed (t x) && all_well_formed (children_at t k y) && all_well_formed (children_at t m j)) b

spread : (w v : Bool) (g x y : ℕ) → g + cond w (x + cond v y 0) 0 ≡ g + cond w x 0 + cond (w && v) y 0
spread true v g x y = omega arith
spread false v g x y = omega arith

good_add : (t : ℕ → Formula) (k m x : ℕ)
    → all_good_nodes (children_at t (k + m) x)
    ≡ all_good_nodes (children_at t k x) + cond (all_well_formed (children_at t k x)) (all_good_nodes (children_at t m (x + node_size * sizes (children_at t k x)))) 0
good_add t zero m x =
    let a : zero + m ≡ m = omega arith in
    let b : x ≡ x + node_size * 0 = omega arith in
    ap (λ (j : ℕ). all_good_nodes (children_at t j x)) a ∙ ap (λ (j : ℕ). all_good_nodes (children_at t m j)) b ∙ omega arith
good_add t (suc k) m x =
    let y = x + node_size * size (t x) in
    let us = children_at t k y in
    let s = sizes us in
    let a : suc k + m ≡ suc (k + m) = omega arith in
    let b : y + node_size * s ≡ x + node_size * (size (t x) + s) = omega arith in
    ap (λ (j : ℕ). all_good_nodes (children_at t j x)) a
    ∙ ap (λ (i : ℕ). good_nodes (t x) + cond (well_formed (t x)) i 0) (good_add t k m y)
    ∙ spread (well_formed (t x)) (all_well_formed us) (good_nodes (t x)) (all_good_nodes us) (all_good_nodes (children_at t m (y + node_size * s)))
    ∙ ap
    (λ (j : ℕ). good_nodes (t x) + cond (well_formed (t x)) (all_good_nodes us) 0 + cond (well_formed (t x) && all_well_formed us) (all_good_nodes (children_at t m j)) 0)
    b

mutual
  -- where none is malformed, all nodes come before the first that is
  pub good_size : (t : Formula) → well_formed t ≡ true → good_nodes t ≡ size t
  good_size (node h ts) w =
      let i = and_first (is_node h) (all_well_formed ts) w in
      ap (λ (o : Bool). cond o (suc (all_good_nodes ts)) 0) i ∙ ap suc (good_sizes ts (and_second (is_node h) (all_well_formed ts) w))

  pub good_sizes : (ts : Formulas) → all_well_formed ts ≡ true → all_good_nodes ts ≡ sizes ts
  good_sizes last w = refl
  good_sizes (next t ts) w =
      let i = and_first (well_formed t) (all_well_formed ts) w in
      let r = good_sizes ts (and_second (well_formed t) (all_well_formed ts) w) in
      ap (λ (o : Bool). good_nodes t + cond o (all_good_nodes ts) 0) i ∙ ap (λ (g : ℕ). g + all_good_nodes ts) (good_size t i) ∙ ap (λ (g : ℕ). size t + g) r

-- so many trees from a byte on
unfoldable pub trees : List ℕ → ℕ → ℕ → Formulas
trees b k at = children_at (λ a. tree_at b a) k at

-- a node in front of k - 1 trees is n + (k - 1) trees from its first child on
pub record Passed (b : List ℕ) (k at n : ℕ) : Type 0 where
  pub all : all_well_formed (trees b k at) ≡ all_well_formed (trees b (k - 1 + n) (at + node_size))
  pub good : all_good_nodes (trees b k at) ≡ suc (all_good_nodes (trees b (k - 1 + n) (at + node_size)))

one_more : (x y : ℕ) → suc x + y ≡ suc (x + y)
one_more x y = omega arith

passed_by : (b : List ℕ) (k at n : ℕ) (h : Head) → (k ≡ 0 → ⊥) → is_node h ≡ true
    → tree_at b at ≡ node h (children_at (λ a. tree_at b a) n (at + node_size)) → Passed b k at n
unfolding trees
passed_by b k at n h z i q =
    let t : ℕ → Formula = λ a. tree_at b a in
    let x = at + node_size in
    let us = children_at t n x in
    let s = sizes us in
    let g = children_next t k at z in
    let y : at + node_size * size (t at) ≡ x + node_size * s = omega (arith, ap size q) in
    let c : n + (k - 1) ≡ k - 1 + n = omega arith in
    let w : well_formed (t at) ≡ all_well_formed (children_at t n x) = ap well_formed q ∙ ap (λ (o : Bool). o && all_well_formed (children_at t n x)) i in
    record {
      all =
          ap all_well_formed g
          ∙ ap (λ (o : Bool). o && all_well_formed (children_at t (k - 1) (at + node_size * size (t at)))) w
          ∙ ap (λ (j : ℕ). all_well_formed (children_at t n x) && all_well_formed (children_at t (k - 1) j)) y
          ∙ sym (all_add t n (k - 1) x)
          ∙ ap (λ (j : ℕ). all_well_formed (children_at t j x)) c;
      good =
          ap all_good_nodes g
          ∙ ap (λ (T : Formula). good_nodes T + cond (well_formed T) (all_good_nodes (children_at t (k - 1) (at + node_size * size (t at)))) 0) q
          ∙ ap
          (λ (o : Bool). cond o (suc (all_good_nodes us)) 0 + cond (o && all_well_formed us) (all_good_nodes (children_at t (k - 1) (at + node_size * size (t at)))) 0)
          i
          ∙ ap (λ (j : ℕ). suc (all_good_nodes us) + cond (all_well_formed us) (all_good_nodes (children_at t (k - 1) j)) 0) y
          ∙ one_more (all_good_nodes us) _
          ∙ ap suc (sym (good_add t n (k - 1) x))
          ∙ ap (λ (j : ℕ). suc (all_good_nodes (children_at t j x))) c;
    }

passed_in : (o : Option Head) (b : List ℕ) (k at n : ℕ) → (k ≡ 0 → ⊥) → head_at b at ≡ o → is_some o ≡ true → n ≡ half_at b (at + 2) → Passed b k at n
unfolding fields_at
passed_in none b k at n z e t m = absurd (no_true t)
passed_in (some h) b k at n z e t m =
    passed_by b k at n h z (headed b at h e).is
    (tree_by_node b at
    ∙ ap (λ (o : Option Head). rooted (λ a. tree_at b a) (half_at b (at + 2)) (at + node_size) o) e
    ∙ ap (λ (j : ℕ). node h (children_at (λ a. tree_at b a) j (at + node_size))) (sym m))

pub passed : (b : List ℕ) (k at n : ℕ) → (k ≡ 0 → ⊥) → is_some (head_at b at) ≡ true → n ≡ half_at b (at + 2) → Passed b k at n
passed b k at n z t m = passed_in (head_at b at) b k at n z refl t m

-- ---- what the bytes are, from a node on

-- with this number of nodes before the first that is malformed, or with all of them well-formed
abbrev pub verdict : List ℕ → Bool → ℕ → Result Unit Malformed
verdict b well k =
    cond well (cond (eqb (node_size * k) (length b)) (Ok tt) (Err (LeftOver k))) (cond (leb (node_size * suc k) (length b)) (Err (WrongField k)) (Err (EndedEarly k)))

-- so many trees are owed at the node j
unfoldable pub scanned : List ℕ → ℕ → ℕ → Result Unit Malformed
unfolding trees
scanned b owed j = verdict b (all_well_formed (trees b owed (node_size * j))) (j + all_good_nodes (trees b owed (node_size * j)))

told_fault : (c : Bool) (k : ℕ) → told (cond c (wrong_field k) (ended_early k)) ≡ cond c (Err (WrongField k)) (Err (EndedEarly k))
told_fault true k = refl
told_fault false k = refl

start_whole : (b : List ℕ) (t : Formula) (e : Bool) → well_formed t ≡ true → eqb (node_size * size t) (length b) ≡ e → tree_at b 0 ≡ t
    → told (received b (cond e (some t) none)) ≡ cond (eqb (node_size * size t) (length b)) (Ok tt) (Err (LeftOver (size t)))
start_whole b t true w q z = sym (ap (λ (o : Bool). cond o (Ok tt) (Err (LeftOver (size t)))) q)
start_whole b t false w q z =
    ap (λ (T : Formula). told (fault_in b T)) z
    ∙ ap (λ (o : Bool). told (cond o (left_over (good_nodes t)) (cond (leb (node_size * suc (good_nodes t)) (length b)) (wrong_field (good_nodes t)) (ended_early (good_nodes t))))) w
    ∙ ap (λ (k : ℕ). Err (LeftOver k)) (good_size t w)
    ∙ sym (ap (λ (o : Bool). cond o (Ok tt) (Err (LeftOver (size t)))) q)

start_by : (b : List ℕ) (t : Formula) (w : Bool) → well_formed t ≡ w → tree_at b 0 ≡ t
    → told (received b (cond (w && eqb (node_size * size t) (length b)) (some t) none)) ≡ verdict b w (good_nodes t)
start_by b t true q z =
    start_whole b t (eqb (node_size * size t) (length b)) q refl z ∙ ap (λ (k : ℕ). cond (eqb (node_size * k) (length b)) (Ok tt) (Err (LeftOver k))) (sym (good_size t q))
start_by b t false q z =
    ap (λ (T : Formula). told (fault_in b T)) z
    ∙ ap (λ (o : Bool). told (cond o (left_over (good_nodes t)) (cond (leb (node_size * suc (good_nodes t)) (length b)) (wrong_field (good_nodes t)) (ended_early (good_nodes t))))) q
    ∙ told_fault (leb (node_size * suc (good_nodes t)) (length b)) (good_nodes t)

no_more : (w : Bool) (g : ℕ) → g ≡ 0 + (g + cond w 0 0)
no_more true g = omega arith
no_more false g = omega arith

pub scan_start : (b : List ℕ) → told (transfer_of b) ≡ scanned b 1 0
unfolding scanned trees transfer_of formula_of tree_in
scan_start b =
    let t = tree_at b 0 in
    start_by b t (well_formed t) refl refl
    ∙ ap (λ (w : Bool). verdict b w (good_nodes t)) (sym (and-true (well_formed t)))
    ∙ ap (λ (k : ℕ). verdict b (well_formed t && true) k) (no_more (well_formed t) (good_nodes t))

pub scan_end : (b : List ℕ) (owed j : ℕ) → owed ≡ 0 → scanned b owed j ≡ cond (eqb (node_size * j) (length b)) (Ok tt) (Err (LeftOver j))
unfolding scanned trees
scan_end b owed j z =
    let e = children_none (λ a. tree_at b a) owed (node_size * j) z in
    let a : j + 0 ≡ j = omega arith in
    ap (λ (ts : Formulas). verdict b (all_well_formed ts) (j + all_good_nodes ts)) e ∙ ap (λ (k : ℕ). verdict b true k) a

bad_head : (o : Option Head) (t : ℕ → Formula) (k at : ℕ) → is_some o ≡ false → rooted t k at o ≡ node malformed last
bad_head none t k at e = refl
bad_head (some h) t k at e = absurd (no_true (sym e))

pub scan_bad : (b : List ℕ) (owed j : ℕ) → (owed ≡ 0 → ⊥) → is_some (head_at b (node_size * j)) ≡ false
    → scanned b owed j ≡ cond (leb (node_size * suc j) (length b)) (Err (WrongField j)) (Err (EndedEarly j))
unfolding scanned trees
scan_bad b owed j z e =
    let at = node_size * j in
    let g = children_next (λ a. tree_at b a) owed at z in
    let us = children_at (λ a. tree_at b a) (owed - 1) (at + node_size * size (tree_at b at)) in
    let q : tree_at b at ≡ node malformed last = tree_by_node b at ∙ bad_head (head_at b at) (λ a. tree_at b a) (fields_at b at).children (at + node_size) e in
    let a : j + (0 + 0) ≡ j = omega arith in
    ap (λ (ts : Formulas). verdict b (all_well_formed ts) (j + all_good_nodes ts)) (g ∙ ap (λ (T : Formula). next T us) q)
    ∙ ap (λ (k : ℕ). verdict b false k) a

pub scan_step : (b : List ℕ) (owed j n : ℕ) → (owed ≡ 0 → ⊥) → is_some (head_at b (node_size * j)) ≡ true → n ≡ half_at b (node_size * j + 2)
    → scanned b owed j ≡ scanned b (owed - 1 + n) (suc j)
unfolding scanned
scan_step b owed j n z e m =
    let at = node_size * j in
    let p = passed b owed at n z e m in
    let us = trees b (owed - 1 + n) (at + node_size) in
    let a : j + suc (all_good_nodes us) ≡ suc j + all_good_nodes us = omega arith in
    let x : at + node_size ≡ node_size * suc j = omega arith in
    ap (λ (w : Bool). verdict b w (j + all_good_nodes (trees b owed at))) p.all
    ∙ ap (λ (k : ℕ). verdict b (all_well_formed us) (j + k)) p.good
    ∙ ap (λ (k : ℕ). verdict b (all_well_formed us) k) a
    ∙ ap (λ (y : ℕ). verdict b (all_well_formed (trees b (owed - 1 + n) y)) (suc j + all_good_nodes (trees b (owed - 1 + n) y))) x

fault_not_ok : (c d : Bool) (k : ℕ) → is_ok (told (cond c (left_over k) (cond d (wrong_field k) (ended_early k)))) ≡ false
fault_not_ok true d k = refl
fault_not_ok false true k = refl
fault_not_ok false false k = refl

ok_by : (b : List ℕ) (o : Option Formula) → is_ok (told (received b o)) ≡ is_some o
ok_by b none =
    let t = tree_at b 0 in
    fault_not_ok (well_formed t) (leb (node_size * suc (good_nodes t)) (length b)) (good_nodes t)
ok_by b (some f) = refl

-- bytes are whole where they are a formula, and only there
pub ok_some : (b : List ℕ) → is_ok (told (transfer_of b)) ≡ is_some (formula_of b)
unfolding transfer_of
ok_some b = ok_by b (formula_of b)

-- ---- a formula's own tree

whole_in : (c : Bool) (b : List ℕ) (t : Formula) → (well_formed t && eqb (node_size * size t) (length b)) ≡ c → is_some (cond c (some t) none) ≡ true
    → (well_formed t ≡ true) × (node_size * size t ≡ length b) × (cond c (some t) none ≡ some t)
whole_in true b t q e = (
  and_first (well_formed t) (eqb (node_size * size t) (length b)) q,
  eqb-true (node_size * size t) (length b) (and_second (well_formed t) (eqb (node_size * size t) (length b)) q),
  refl,
)
whole_in false b t q e = absurd (no_true e)

-- bytes that are a formula are one well-formed tree
pub whole : (b : List ℕ) → is_some (formula_of b) ≡ true
    → (well_formed (tree_at b 0) ≡ true) × (node_size * size (tree_at b 0) ≡ length b) × (formula_of b ≡ some (tree_at b 0))
unfolding formula_of tree_in
whole b e = let t = tree_at b 0 in whole_in (well_formed t && eqb (node_size * size t) (length b)) b t refl e

same_formula : {f g : Formula} → ◌≡◌ {A = Option Formula} (some f) (some g) → f ≡ g
same_formula e = cc

-- a formula of at most d levels is the tree of d levels at byte 0
pub formula_in : (b : List ℕ) (f : Formula) (d : ℕ) → formula_of b ≡ some f → depth f ≤ d → (tree_in d b 0 ≡ f) × (well_formed f ≡ true) × (node_size * size f ≡ length b)
formula_in b f d e l =
    let w = whole b (ap (λ (o : Option Formula). is_some o) e) in
    let q : tree_at b 0 ≡ f = same_formula (sym w.2 ∙ e) in
    let h : depth (tree_at b 0) ≤ d = omega (arith, ap depth q) in (
      fewer_levels (length b) d b 0 w.0 h ∙ q,
      sym (ap well_formed q) ∙ w.0,
      sym (ap (λ (t : Formula). node_size * size t) q) ∙ w.1,
    )

-- a formula was received just where the bytes are one
whole_by : (b : List ℕ) (f : Formula) (o : Option Formula) → received b o ≡ Transfer.whole f → o ≡ some f
whole_by b f none e = absurd (no_true (sym (ok_by b none) ∙ ap (λ (X : Transfer.Transfer). is_ok (told X)) e))
whole_by b f (some g) e = let q : g ≡ f = cc in ap (λ (x : Formula). some x) q

pub whole_formula : (b : List ℕ) (f : Formula) → transfer_of b ≡ Transfer.whole f → formula_of b ≡ some f
unfolding transfer_of
whole_formula b f e = whole_by b f (formula_of b) e

pub formula_whole : (b : List ℕ) (f : Formula) → formula_of b ≡ some f → transfer_of b ≡ Transfer.whole f
unfolding transfer_of
formula_whole b f e = ap (received b) e

-- ---- the node at a byte

pub past_none : (b : List ℕ) (at : ℕ) → length b < at + node_size → is_some (head_at b at) ≡ false
past_none b at h = ap (λ (o : Option Head). is_some o) (head_past b at h)

pub is_there : (b : List ℕ) (at : ℕ) (f : Fields) → at + node_size ≤ length b → f ≡ fields_at b at → is_some (head_of f) ≡ is_some (head_at b at)
unfolding head_at
is_there b at f h e =
    ap (λ (x : Fields). is_some (head_of x)) e
    ∙ sym (ap (λ (c : Bool). is_some (cond c (head_of (fields_at b at)) none)) (le-leb (at + node_size) (length b) h))
