-- What is written is read again, and what is read is written again.
use mathlib.Core.Path.{◌≡◌, refl, sym, ap, ◌∙◌, subst}
use mathlib.Core.Bool.{Bool, true, false, cond, ◌&&◌}
use mathlib.Core.List.{List, ◌++◌}
use mathlib.Core.Option.{Option, none, some}
use Prim.Native.Nat.{ℕ, zero, suc, ◌+◌, ◌*◌, ◌≤◌, ◌<◌}
use native.Mathlib.Omega.{arith}
use lib.ListN.{length, take, drop, length-append}
use lib.Seq.{drop-drop, take-add, take-length}
use lib.Dec.{eqb, ltb}
use borrow.Author.Tests.{eqb-true, ltb-true, lt-ltb, le-leb, eq-eqb}
use Rattle.formula.specs.Operator.{Operation, unary, binary, compare, call, Positive, Negative, Not, Add, Subtract, Multiply, Divide, Power, Modulo, Lt, Le, Gt, Ge, Eq, Ne, And, Or, Unary, Binary, Compare, Function, Exp, Log, Log10, Sqrt, Sin, Cos, Tan, Tanh, Abs, Floor, Ceil, Min, Max, Hill, InverseGaussianDensity}
use Rattle.formula.specs.Formula.{Head, number, truth, symbol, operation, junction, ifelse, conditional, malformed, Formula, Formulas, node, last, next, count, size, sizes, depth, depths, is_node, well_formed, all_well_formed}
use Rattle.formula.specs.Node.{Fields, fields_at, head_of, head_at, children_at, rooted, tree_in, tree_at, formula_of, fields_of, operation_fields, node_bytes, encode, encode_all, node_size}
use Rattle.reader.specs.Read.{is_some}
use Rattle.reader.specs.Writable.{writable_operation, writable_head, writable, all_writable}
use Rattle.reader.proofs.Heads.{no_true, and_first, and_second, unary_is, binary_is, compare_is, conditional_is, number_is, truth_is, symbol_is, inner}
use Rattle.reader.proofs.Trees.{node_of, count_children, depth_le_size}
use Rattle.reader.proofs.Bytes.{Shows, shows_self, shows_first, shows_second, Fit, fields_shown, Bytes, node_again, fields_fit}
use Rattle.reader.proofs.Scan.{whole}
use Rattle.formula.proofs.Tests.{and_both}

-- ---- lengths

pub node_length : (f : Fields) → length (node_bytes f) ≡ 16
unfolding node_bytes
node_length f = refl

mutual
  unfolding encode

  -- "Nodes of 16 bytes"
  pub encode_length : (f : Formula) → length (encode f) ≡ node_size * size f
  encode_length (node h ts) =
      omega (arith, length-append (node_bytes (fields_of h (count ts))) (encode_all ts), node_length (fields_of h (count ts)), encode_all_length ts)

  pub encode_all_length : (ts : Formulas) → length (encode_all ts) ≡ node_size * sizes ts
  encode_all_length last = refl
  encode_all_length (next t ts) = omega (arith, length-append (encode t) (encode_all ts), encode_length t, encode_all_length ts)

-- ---- a head

counted : (k n : ℕ) → k < 65536 → eqb n k ≡ true → n < 65536
counted k n l e = let q = eqb-true n k e in omega arith

operation_fit : (o : Operation) (n : ℕ) → writable_operation o n ≡ true → Fit (operation_fields o n)
operation_fit (unary o) n w = record { children = counted 1 n (omega arith) w; symbol_number = omega arith; value = omega arith }
operation_fit (binary o) n w = record { children = counted 2 n (omega arith) w; symbol_number = omega arith; value = omega arith }
operation_fit (compare o) n w = record { children = counted 2 n (omega arith) w; symbol_number = omega arith; value = omega arith }
operation_fit (call f) n w = record { children = ltb-true n 65536 w; symbol_number = omega arith; value = omega arith }

truth_bit : (b : Bool) → cond {A = ℕ} b 1 0 < 18446744073709551616
truth_bit true = omega arith
truth_bit false = omega arith

head_fit : (h : Head) (n : ℕ) → writable_head h n ≡ true → Fit (fields_of h n)
head_fit (number b) n w =
    record {
      children = counted 0 n (omega arith) (and_first (eqb n 0) _ w);
      symbol_number = omega arith;
      value = ltb-true b 18446744073709551616 (and_second (eqb n 0) _ w);
    }
head_fit (truth b) n w = record { children = counted 0 n (omega arith) w; symbol_number = omega arith; value = truth_bit b }
head_fit (symbol i) n w =
    record {
      children = counted 0 n (omega arith) (and_first (eqb n 0) _ w);
      symbol_number = ltb-true i 4294967296 (and_second (eqb n 0) _ w);
      value = omega arith;
    }
head_fit (operation o) n w = operation_fit o n w
head_fit (junction j) n w = record { children = ltb-true n 65536 w; symbol_number = omega arith; value = omega arith }
head_fit ifelse n w = record { children = ltb-true n 65536 w; symbol_number = omega arith; value = omega arith }
head_fit conditional n w = record { children = counted 3 n (omega arith) w; symbol_number = omega arith; value = omega arith }
head_fit malformed n w = absurd (no_true w)

unary_back : (o : Unary) (n : ℕ) → eqb n 1 ≡ true → head_of (operation_fields (unary o) n) ≡ some (operation (unary o))
unfolding head_of
unary_back Positive n w = rw w
unary_back Negative n w = rw w
unary_back Not n w = rw w

binary_back : (o : Binary) (n : ℕ) → eqb n 2 ≡ true → head_of (operation_fields (binary o) n) ≡ some (operation (binary o))
unfolding head_of
binary_back Add n w = rw w
binary_back Subtract n w = rw w
binary_back Multiply n w = rw w
binary_back Divide n w = rw w
binary_back Power n w = rw w
binary_back Modulo n w = rw w

compare_back : (o : Compare) (n : ℕ) → eqb n 2 ≡ true → head_of (operation_fields (compare o) n) ≡ some (operation (compare o))
unfolding head_of
compare_back Lt n w = rw w
compare_back Le n w = rw w
compare_back Gt n w = rw w
compare_back Ge n w = rw w
compare_back Eq n w = rw w
compare_back Ne n w = rw w

call_back : (f : Function) (n : ℕ) → head_of (operation_fields (call f) n) ≡ some (operation (call f))
unfolding head_of
call_back Exp n = refl
call_back Log n = refl
call_back Log10 n = refl
call_back Sqrt n = refl
call_back Sin n = refl
call_back Cos n = refl
call_back Tan n = refl
call_back Tanh n = refl
call_back Abs n = refl
call_back Floor n = refl
call_back Ceil n = refl
call_back Min n = refl
call_back Max n = refl
call_back Hill n = refl
call_back InverseGaussianDensity n = refl

pub head_back : (h : Head) (n : ℕ) → writable_head h n ≡ true → head_of (fields_of h n) ≡ some h
unfolding head_of
head_back (number b) n w = rw (and_first (eqb n 0) _ w)
head_back (truth true) n w = rw w
head_back (truth false) n w = rw w
head_back (symbol i) n w = rw (and_first (eqb n 0) _ w)
head_back (operation (unary o)) n w = unary_back o n w
head_back (operation (binary o)) n w = binary_back o n w
head_back (operation (compare o)) n w = compare_back o n w
head_back (operation (call f)) n w = call_back f n
head_back (junction And) n w = refl
head_back (junction Or) n w = refl
head_back ifelse n w = refl
head_back conditional n w = rw w
head_back malformed n w = absurd (no_true w)

writable_node : (h : Head) (n : ℕ) → writable_head h n ≡ true → is_node h ≡ true
writable_node (number b) n w = refl
writable_node (truth b) n w = refl
writable_node (symbol i) n w = refl
writable_node (operation o) n w = refl
writable_node (junction j) n w = refl
writable_node ifelse n w = refl
writable_node conditional n w = refl
writable_node malformed n w = w

mutual
  pub writable_well_formed : (f : Formula) → writable f ≡ true → well_formed f ≡ true
  writable_well_formed (node h ts) w =
      and_both (is_node h) (all_well_formed ts) (writable_node h (count ts) (and_first (writable_head h (count ts)) (all_writable ts) w))
      (writable_all_well_formed ts (and_second (writable_head h (count ts)) (all_writable ts) w))

  pub writable_all_well_formed : (ts : Formulas) → all_writable ts ≡ true → all_well_formed ts ≡ true
  writable_all_well_formed last w = refl
  writable_all_well_formed (next t ts) w =
      and_both (well_formed t) (all_well_formed ts) (writable_well_formed t (and_first (writable t) (all_writable ts) w))
      (writable_all_well_formed ts (and_second (writable t) (all_writable ts) w))

-- ---- written and read

pub head_shown : (b : List ℕ) (at : ℕ) (h : Head) (n : ℕ) → writable_head h n ≡ true → Shows b at (node_bytes (fields_of h n))
    → (head_at b at ≡ some h) × (fields_at b at ≡ fields_of h n)
unfolding head_at
head_shown b at h n w s =
    let e = fields_shown b at (fields_of h n) (head_fit h n w) s in
    let l : at + node_size ≤ length b = omega (arith, s.inside, node_length (fields_of h n)) in (
      ap (λ (c : Bool). cond c (head_of (fields_at b at)) none) (le-leb (at + node_size) (length b) l)
          ∙ ap (λ (f : Fields). head_of f) e
          ∙ head_back h n w,
      e,
    )

children_of : (h : Head) (n : ℕ) → (fields_of h n).children ≡ n
children_of (number b) n = refl
children_of (truth b) n = refl
children_of (symbol i) n = refl
children_of (operation (unary o)) n = refl
children_of (operation (binary o)) n = refl
children_of (operation (compare o)) n = refl
children_of (operation (call f)) n = refl
children_of (junction j) n = refl
children_of ifelse n = refl
children_of conditional n = refl
children_of malformed n = refl

mutual
  unfolding encode tree_in

  -- a formula's bytes, wherever they stand, are read as the formula
  pub tree_shown : (f : Formula) (d : ℕ) (b : List ℕ) (at : ℕ) → writable f ≡ true → depth f ≤ d → Shows b at (encode f) → tree_in d b at ≡ f
  tree_shown (node h ts) zero b at w l s = absurd (omega arith)
  tree_shown (node h ts) (suc d) b at w l s =
      let n = count ts in
      let xs = node_bytes (fields_of h n) in
      let e = head_shown b at h n (and_first (writable_head h n) (all_writable ts) w) (shows_first b at xs (encode_all ts) s) in
      let c = ap (λ (f : Fields). f.children) e.1 ∙ children_of h n in
      let r =
      children_shown ts d b (at + node_size) (and_second (writable_head h n) (all_writable ts) w) (omega arith)
      (shows_second b at (at + node_size) xs (encode_all ts) (omega (arith, node_length (fields_of h n))) s) in
      ap (λ (o : Option Head). rooted (λ a. tree_in d b a) (fields_at b at).children (at + node_size) o) e.0
      ∙ ap (λ (k : ℕ). node h (children_at (λ a. tree_in d b a) k (at + node_size))) c
      ∙ ap (λ (us : Formulas). node h us) r

  pub children_shown : (ts : Formulas) (d : ℕ) (b : List ℕ) (at : ℕ) → all_writable ts ≡ true → depths ts ≤ d → Shows b at (encode_all ts)
      → children_at (λ a. tree_in d b a) (count ts) at ≡ ts
  children_shown last d b at w l s = refl
  children_shown (next t ts) d b at w l s =
      let e = tree_shown t d b at (and_first (writable t) (all_writable ts) w) (omega arith) (shows_first b at (encode t) (encode_all ts) s) in
      let x = at + node_size * size t in
      let r =
      children_shown ts d b x (and_second (writable t) (all_writable ts) w) (omega arith)
      (shows_second b at x (encode t) (encode_all ts) (omega (arith, encode_length t)) s) in
      ap (λ (f : Formula). next f (children_at (λ a. tree_in d b a) (count ts) (at + node_size * size f))) e ∙ ap (λ (us : Formulas). next t us) r

-- the bytes of a formula that can be written are read as that formula
pub formula_encode : (f : Formula) → writable f ≡ true → formula_of (encode f) ≡ some f
unfolding formula_of tree_in
formula_encode f w =
    let b = encode f in
    let n = encode_length f in
    let e : tree_at b 0 ≡ f = tree_shown f (length b) b 0 w (omega (arith, depth_le_size f)) (shows_self b) in
    let c : (well_formed f && eqb (node_size * size f) (length b)) ≡ true =
    and_both (well_formed f) (eqb (node_size * size f) (length b)) (writable_well_formed f w) (eq-eqb (node_size * size f) (length b) (sym n)) in
    ap (λ (t : Formula). cond (well_formed t && eqb (node_size * size t) (length b)) (some t) none) e ∙ ap (λ (x : Bool). cond x (some f) none) c

-- ---- read and written

spans : (b : List ℕ) (at n m : ℕ) → take (node_size * n) (drop at b) ++ take (node_size * m) (drop (at + node_size * n) b) ≡ take (node_size * (n + m)) (drop at b)
spans b at n m =
    let e : node_size * n + node_size * m ≡ node_size * (n + m) = omega arith in
    ap (λ (l : List ℕ). take (node_size * n) (drop at b) ++ take (node_size * m) l) (sym (drop-drop (node_size * n) at b))
    ∙ sym (take-add (node_size * n) (node_size * m) (drop at b))
    ∙ ap (λ (k : ℕ). take k (drop at b)) e

children_copied : (b : List ℕ) (t : ℕ → Formula) → ((x : ℕ) → well_formed (t x) ≡ true → encode (t x) ≡ take (node_size * size (t x)) (drop x b))
    → (k at : ℕ) → all_well_formed (children_at t k at) ≡ true → encode_all (children_at t k at) ≡ take (node_size * sizes (children_at t k at)) (drop at b)
unfolding encode
children_copied b t h zero at w = refl
children_copied b t h (suc k) at w =
    let x = at + node_size * size (t at) in
    let us = children_at t k x in
    ap (λ (l : List ℕ). l ++ encode_all us) (h at (and_first (well_formed (t at)) (all_well_formed us) w))
    ∙ ap (λ (l : List ℕ). take (node_size * size (t at)) (drop at b) ++ l) (children_copied b t h k x (and_second (well_formed (t at)) (all_well_formed us) w))
    ∙ spans b at (size (t at)) (sizes us)

-- a head that was read can be written
operation_read : (o : Operation) (n : ℕ) → Fit (operation_fields o n) → is_some (head_of (operation_fields o n)) ≡ true → writable_operation o n ≡ true
operation_read (unary o) n t e = let f = operation_fields (unary o) n in and_second (inner f 3) (eqb n 1) (sym (unary_is f refl) ∙ e)
operation_read (binary o) n t e = let f = operation_fields (binary o) n in and_second (inner f 6) (eqb n 2) (sym (binary_is f refl) ∙ e)
operation_read (compare o) n t e = let f = operation_fields (compare o) n in and_second (inner f 6) (eqb n 2) (sym (compare_is f refl) ∙ e)
operation_read (call g) n t e = lt-ltb n 65536 t.children

head_read : (h : Head) (n : ℕ) → Fit (fields_of h n) → head_of (fields_of h n) ≡ some h → is_node h ≡ true → writable_head h n ≡ true
head_read (number b) n t e i =
    let f = fields_of (number b) n in
    let l : (eqb n 0 && true) ≡ true = sym (number_is f refl) ∙ ap (λ (o : Option Head). is_some o) e in
    and_both (eqb n 0) (ltb b 18446744073709551616) (and_first (eqb n 0) true l) (lt-ltb b 18446744073709551616 t.value)
head_read (truth b) n t e i =
    let f = fields_of (truth b) n in
    let l : (eqb n 0 && true && ltb (cond b 1 0) 2) ≡ true = sym (truth_is f refl) ∙ ap (λ (o : Option Head). is_some o) e in
    and_first (eqb n 0) true (and_first (eqb n 0 && true) (ltb (cond b 1 0) 2) l)
head_read (symbol k) n t e i =
    let f = fields_of (symbol k) n in
    let l : (eqb n 0 && true) ≡ true = sym (symbol_is f refl) ∙ ap (λ (o : Option Head). is_some o) e in
    and_both (eqb n 0) (ltb k 4294967296) (and_first (eqb n 0) true l) (lt-ltb k 4294967296 t.symbol_number)
head_read (operation o) n t e i = operation_read o n t (ap (λ (o : Option Head). is_some o) e)
head_read (junction And) n t e i = lt-ltb n 65536 t.children
head_read (junction Or) n t e i = lt-ltb n 65536 t.children
head_read ifelse n t e i = lt-ltb n 65536 t.children
head_read conditional n t e i =
    let f = fields_of conditional n in
    and_second (inner f 1) (eqb n 3) (sym (conditional_is f refl) ∙ ap (λ (o : Option Head). is_some o) e)
head_read malformed n t e i = i

children_read : (t : ℕ → Formula) → ((x : ℕ) → well_formed (t x) ≡ true → writable (t x) ≡ true)
    → (k at : ℕ) → all_well_formed (children_at t k at) ≡ true → all_writable (children_at t k at) ≡ true
children_read t h zero at w = refl
children_read t h (suc k) at w =
    let us = children_at t k (at + node_size * size (t at)) in
    and_both (writable (t at)) (all_writable us) (h at (and_first (well_formed (t at)) (all_well_formed us) w))
    (children_read t h k (at + node_size * size (t at)) (and_second (well_formed (t at)) (all_well_formed us) w))

-- a tree that was read can be written
pub writable_tree : (b : List ℕ) → Bytes b → (d at : ℕ) → well_formed (tree_in d b at) ≡ true → writable (tree_in d b at) ≡ true
unfolding tree_in
writable_tree b h zero at w = absurd (no_true w)
writable_tree b h (suc d) at w =
    let m = node_of d b at w in
    let k = (fields_at b at).children in
    let ts = children_at (λ a. tree_in d b a) k (at + node_size) in
    let fit : Fit (fields_of m.head k) = subst (λ (f : Fields). Fit f) (sym m.headed.back) (fields_fit b at h) in
    let back : head_of (fields_of m.head k) ≡ some m.head = ap (λ (f : Fields). head_of f) m.headed.back ∙ m.headed.fields in
    ap writable m.tree
    ∙ ap (λ (n : ℕ). writable_head m.head n && all_writable ts) (count_children (λ a. tree_in d b a) k (at + node_size))
    ∙ and_both (writable_head m.head k) (all_writable ts) (head_read m.head k fit back m.headed.is)
    (children_read (λ a. tree_in d b a) (λ x. writable_tree b h d x) k (at + node_size) m.children)

-- a subtree's bytes are its encoding
pub copied_tree : (b : List ℕ) → Bytes b → (d at : ℕ) → well_formed (tree_in d b at) ≡ true
    → encode (tree_in d b at) ≡ take (node_size * size (tree_in d b at)) (drop at b)
unfolding tree_in encode
copied_tree b h zero at w = absurd (no_true w)
copied_tree b h (suc d) at w =
    let m = node_of d b at w in
    let k = (fields_at b at).children in
    let ts = children_at (λ a. tree_in d b a) k (at + node_size) in
    let c = count_children (λ a. tree_in d b a) k (at + node_size) in
    let r = children_copied b (λ a. tree_in d b a) (λ x. copied_tree b h d x) k (at + node_size) m.children in
    let z : node_size * (1 + sizes ts) ≡ node_size * suc (sizes ts) = omega arith in
    ap encode m.tree
    ∙ ap (λ (n : ℕ). node_bytes (fields_of m.head n) ++ encode_all ts) c
    ∙ ap (λ (f : Fields). node_bytes f ++ encode_all ts) m.headed.back
    ∙ ap (λ (l : List ℕ). l ++ encode_all ts) (node_again b at h m.headed.inside)
    ∙ ap (λ (l : List ℕ). take node_size (drop at b) ++ l) r
    ∙ spans b at 1 (sizes ts)
    ∙ ap (λ (n : ℕ). take n (drop at b)) z
    ∙ ap (λ (f : Formula). take (node_size * size f) (drop at b)) (sym m.tree)

-- the bytes of a formula are its encoding
pub encode_formula : (b : List ℕ) → Bytes b → (f : Formula) → formula_of b ≡ some f → encode f ≡ b
encode_formula b h f e =
    let t : is_some (formula_of b) ≡ true = ap (λ (o : Option Formula). is_some o) e in
    let w = whole b t in
    let q : tree_at b 0 ≡ f = same_formula (sym w.2 ∙ e) in
    ap encode (sym q)
    ∙ copied_tree b h (length b) 0 w.0
    ∙ ap (λ (n : ℕ). take n b) w.1
    ∙ take-length b
  where
    same_formula : {f g : Formula} → ◌≡◌ {A = Option Formula} (some f) (some g) → f ≡ g
    same_formula e = cc
