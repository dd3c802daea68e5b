-- Nodes and children as they stand in the formula's bytes, and the terms that they are.
use mathlib.Core.Path.{◌≡◌, refl, sym, ap}
use mathlib.Core.Bool.{Bool, true, false, cond, ◌&&◌, ◌||◌}
use mathlib.Core.List.{List, [], ◌∷◌}
use mathlib.Core.Option.{Option, none, some}
use mathlib.Core.Logic.{◌⊎◌, inl, inr}
use Prim.Native.Nat.{ℕ, zero, suc, ◌+◌, ◌-◌, ◌*◌, ◌≤◌, ◌<◌}
use native.Mathlib.Omega.{arith}
use lib.ListN.{length, get_or, get_elem?}
use lib.Dec.{eqb, leb, ltb}
use borrow.Author.Tests.{eq-eqb, eqb-true, leb-true}
use Rattle.formula.specs.Operator.{And, Junction, Operation, Or, argument_kind, arity, binary, call, compare, result_kind, stepped, unary, Positive, Negative, Not, Add, Subtract, Multiply, Divide, Power, Modulo, Lt, Le, Gt, Ge, Eq, Ne, Exp, Log, Log10, Sqrt, Sin, Cos, Tan, Tanh, Abs, Floor, Ceil, Min, Max, Hill, InverseGaussianDensity}
use Rattle.formula.specs.Formula.{Head, all_well_formed, conditional, ifelse, is_node, junction, last, next, number, operation, size, sizes, well_formed}
use Rattle.formula.specs.Formula as Written
use Rattle.formula.specs.Node.{Fields, binaries, booleans, calls, compares, fields_at, head_at, head_of, heads, inner_head, rooted, tree_in, unaries, node_size}
use Rattle.formula.specs.Term.{branch, chain, end, term, truth}
use Rattle.layout.specs.Opcode.{listing, operation_number}
use Rattle.lower.specs.Operators.{arity_at, chooses_at, gives_boolean, listing_at, opcode_at, stepped_at, takes_boolean}
use Rattle.lower.specs.Piece.{arm, ends, is_boolean, junction_of, kids, past}

-- ---- children

pub kids_none : (b : List ℕ) (d at left : ℕ) → left ≡ 0 → kids b d left at ≡ last
unfolding kids
kids_none b d at left e = rw e

kids_suc : (b : List ℕ) (d k at : ℕ) → kids b d (suc k) at ≡ next (tree_in d b at) (kids b d k (at + node_size * size (tree_in d b at)))
unfolding kids
kids_suc b d k at = refl

pub kids_step : (b : List ℕ) (d left at : ℕ) → (left ≡ 0 → ⊥) → kids b d left at ≡ next (tree_in d b at) (kids b d (left - 1) (at + node_size * size (tree_in d b at)))
kids_step b d zero at n = absurd (n refl)
kids_step b d (suc k) at n = let e : suc k - 1 ≡ k = omega arith in rw e (kids_suc b d k at)

pub past_none : (b : List ℕ) (d left at : ℕ) → left ≡ 0 → past b d left at ≡ at
past_none b d left at e = rw (kids_none b d at left e) (omega arith)

pub past_one : (b : List ℕ) (d left at : ℕ) → left ≡ 1 → past b d left at ≡ at + node_size * size (tree_in d b at)
past_one b d left at e =
    let k = kids_step b d left at (λ z. omega arith) in
    let n = kids_none b d (at + node_size * size (tree_in d b at)) (left - 1) (omega arith) in
    rw (k, n) (omega arith)

pub past_step : (b : List ℕ) (d left at : ℕ) → (left ≡ 0 → ⊥) → past b d (left - 1) (at + node_size * size (tree_in d b at)) ≡ past b d left at
past_step b d left at n = omega (arith, ap sizes (kids_step b d left at n))

both : (a c : Bool) → (a && c) ≡ true → (a ≡ true) × (c ≡ true)
both true c e = (refl, e)
both false c e = absurd (let z : ◌≡◌ {A = ℕ} 0 1 = cc in omega arith)

pub first_well : (b : List ℕ) (d left at : ℕ) → (left ≡ 0 → ⊥) → all_well_formed (kids b d left at) ≡ true → well_formed (tree_in d b at) ≡ true
first_well b d left at n e = (both (well_formed (tree_in d b at)) _ (rw (kids_step b d left at n) at e)).0

pub rest_well : (b : List ℕ) (d left at : ℕ) → (left ≡ 0 → ⊥) → all_well_formed (kids b d left at) ≡ true
    → all_well_formed (kids b d (left - 1) (at + node_size * size (tree_in d b at))) ≡ true
rest_well b d left at n e = (both (well_formed (tree_in d b at)) _ (rw (kids_step b d left at n) at e)).1

pub one_well : (b : List ℕ) (d left at : ℕ) → left ≡ 1 → well_formed (tree_in d b at) ≡ true → all_well_formed (kids b d left at) ≡ true
one_well b d left at e w =
    rw (kids_step b d left at (λ z. omega arith), kids_none b d (at + node_size * size (tree_in d b at)) (left - 1) (omega arith), w)

pub none_well : (b : List ℕ) (d left at : ℕ) → left ≡ 0 → all_well_formed (kids b d left at) ≡ true
none_well b d left at e = rw (kids_none b d at left e)

-- ---- arms

pub arm_none : (b : List ℕ) (d left at : ℕ) (c : Bool) → left ≡ 0 → arm b d c left at ≡ truth (ends (junction_of c))
unfolding arm
arm_none b d left at c e = rw (kids_none b d at left e)

pub arm_one : (b : List ℕ) (d left at : ℕ) (c : Bool) → left ≡ 1 → arm b d c left at ≡ term (tree_in d b at)
unfolding arm
arm_one b d left at c e =
    rw (kids_step b d left at (λ z. omega arith), kids_none b d (at + node_size * size (tree_in d b at)) (left - 1) (omega arith)) (alone (junction_of c))
  where
    alone : (j : Junction) → chain j (term (tree_in d b at)) end ≡ term (tree_in d b at)
    alone And = refl
    alone Or = refl

pub arm_and : (b : List ℕ) (d left at : ℕ) → 2 ≤ left
    → arm b d true left at ≡ branch (term (tree_in d b at)) (arm b d true (left - 1) (at + node_size * size (tree_in d b at))) (truth false)
unfolding arm
arm_and b d left at h =
    let x = at + node_size * size (tree_in d b at) in
    rw (kids_step b d left at (λ z. omega arith), kids_step b d (left - 1) x (λ z. omega arith))

pub arm_or : (b : List ℕ) (d left at : ℕ) → 2 ≤ left
    → arm b d false left at ≡ branch (term (tree_in d b at)) (truth true) (arm b d false (left - 1) (at + node_size * size (tree_in d b at)))
unfolding arm
arm_or b d left at h =
    let x = at + node_size * size (tree_in d b at) in
    rw (kids_step b d left at (λ z. omega arith), kids_step b d (left - 1) x (λ z. omega arith))

-- ---- a node

pub record Node (b : List ℕ) (d at : ℕ) : Type 0 where
  pub deep : 0 < d
  pub inside : at + node_size ≤ length b
  pub head : Head
  pub is_head : head_of (fields_at b at) ≡ some head
  pub tree : tree_in d b at ≡ Written.node head (kids b (d - 1) (fields_at b at).children (at + node_size))
  pub all : all_well_formed (kids b (d - 1) (fields_at b at).children (at + node_size)) ≡ true

some_inside : (b : List ℕ) (at : ℕ) (h : Head) → head_at b at ≡ some h → (at + node_size ≤ length b) × (head_of (fields_at b at) ≡ some h)
unfolding head_at
some_inside b at h e = go (leb (at + node_size) (length b)) refl e
  where
    go : (x : Bool) → leb (at + node_size) (length b) ≡ x → cond x (head_of (fields_at b at)) none ≡ some h → (at + node_size ≤ length b) × (head_of (fields_at b at) ≡ some h)
    go true t f = (leb-true (at + node_size) (length b) t, f)
    go false t f = absurd (let z : ◌≡◌ {A = ℕ} 0 1 = cc in omega arith)

stands_at : (b : List ℕ) (d at : ℕ) (o : Option Head) → head_at b at ≡ o
    → well_formed (rooted (λ a. tree_in d b a) (fields_at b at).children (at + node_size) o) ≡ true → Node b (suc d) at
unfolding tree_in kids
stands_at b d at none e w = absurd (let z : ◌≡◌ {A = ℕ} 0 1 = cc in omega arith)
stands_at b d at (some h) e w =
    let i = some_inside b at h e in
    let p : suc d - 1 ≡ d = omega arith in
    record {
      deep = omega arith;
      inside = i.0;
      head = h;
      is_head = i.1;
      tree = rw (e, p);
      all = rw p (both (is_node h) _ w).1;
    }

pub stands : (b : List ℕ) (d at : ℕ) → well_formed (tree_in d b at) ≡ true → Node b d at
unfolding tree_in
stands b zero at w = absurd (let z : ◌≡◌ {A = ℕ} 0 1 = cc in omega arith)
stands b (suc d) at w = stands_at b d at (head_at b at) refl w

-- ---- heads by their fields

when_some : (c : Bool) (o : Option Head) (h : Head) → cond c o none ≡ some h → (c ≡ true) × (o ≡ some h)
when_some true o h e = (refl, e)
when_some false o h e = absurd (let z : ◌≡◌ {A = ℕ} 0 1 = cc in omega arith)

never : {A : Type 0} {h : Head} → none ≡ some h → A
never e = absurd (let z : ◌≡◌ {A = ℕ} 0 1 = cc in omega arith)

module _ (f : Fields) (h : Head) (is : head_of f ≡ some h) where
  at_kind : (k : ℕ) → f.kind ≡ k → get_or (heads f) k none ≡ some h
  unfolding head_of
  at_kind k e = rw e at is

  pub number_head_is : f.kind ≡ 0 → (h ≡ number f.value) × (f.children ≡ 0)
  number_head_is e =
      let w = when_some (eqb f.operator 0 && eqb f.children 0 && eqb f.symbol_number 0) (some (number f.value)) h (at_kind 0 e) in
      let v = both (eqb f.operator 0 && eqb f.children 0) _ w.0 in
      let e₁ = w.1 in
      (cc, eqb-true f.children 0 (both (eqb f.operator 0) _ v.0).1)

  pub truth_head_is : f.kind ≡ 1 → (h ≡ Written.truth (eqb f.value 1)) × (f.children ≡ 0)
  truth_head_is e =
      let w = when_some (eqb f.operator 0 && eqb f.children 0 && eqb f.symbol_number 0 && ltb f.value 2) (some (Written.truth (eqb f.value 1))) h (at_kind 1 e) in
      let u = both (eqb f.operator 0 && eqb f.children 0 && eqb f.symbol_number 0) _ w.0 in
      let v = both (eqb f.operator 0 && eqb f.children 0) _ u.0 in
      let e₁ = w.1 in
      (cc, eqb-true f.children 0 (both (eqb f.operator 0) _ v.0).1)

  pub symbol_head_is : f.kind ≡ 2 → (h ≡ Written.symbol f.symbol_number) × (f.children ≡ 0)
  symbol_head_is e =
      let w = when_some (eqb f.operator 0 && eqb f.children 0 && eqb f.value 0) (some (Written.symbol f.symbol_number)) h (at_kind 2 e) in
      let v = both (eqb f.operator 0 && eqb f.children 0) _ w.0 in
      let e₁ = w.1 in
      (cc, eqb-true f.children 0 (both (eqb f.operator 0) _ v.0).1)

  -- an inner node: its count, and its place in the table
  inner_is : (table : List Head) (c : Bool) → inner_head table c f ≡ some h → (c ≡ true) × (get_elem? table f.operator ≡ some h)
  inner_is table c e =
      let w = when_some (c && eqb f.symbol_number 0 && eqb f.value 0) (get_elem? table f.operator) h e in
      let v = both (c && eqb f.symbol_number 0) _ w.0 in
      ((both c _ v.0).0, w.1)

  pub boolean_head_is : f.kind ≡ 6 → h ≡ junction (junction_of (eqb f.operator 0))
  boolean_head_is e = go f.operator (inner_is booleans true (at_kind 6 e)).1
    where
      go : (o : ℕ) → get_elem? booleans o ≡ some h → h ≡ junction (junction_of (eqb o 0))
      go zero x = cc
      go (suc zero) x = cc
      go (suc (suc o)) x = never x

  pub choice_head_is : chooses_at f.kind f.operator ≡ true → (h ≡ conditional) ⊎ (h ≡ ifelse)
  choice_head_is e = go (eqb f.kind 8) (eqb f.kind 7) (eqb f.operator 14) refl refl refl (unfold chooses_at in e)
    where
      eight : (o : ℕ) → get_elem? (conditional ∷ []) o ≡ some h → conditional ≡ h
      eight zero x = cc
      eight (suc o) x = never x

      go : (a c d : Bool) → eqb f.kind 8 ≡ a → eqb f.kind 7 ≡ c → eqb f.operator 14 ≡ d → (a || (c && d)) ≡ true → (h ≡ conditional) ⊎ (h ≡ ifelse)
      go true c d p q r s = inl (sym (eight f.operator (inner_is (conditional ∷ []) (eqb f.children 3) (at_kind 8 (eqb-true f.kind 8 p))).1))
      go false true true p q r s =
          let x = (inner_is calls true (at_kind 7 (eqb-true f.kind 7 q))).1 in
          let y : get_elem? calls 14 ≡ some h = rw (eqb-true f.operator 14 r) at x in
          inr cc
      go false true false p q r s = absurd (let z : ◌≡◌ {A = ℕ} 0 1 = cc in omega arith)
      go false false d p q r s = absurd (let z : ◌≡◌ {A = ℕ} 0 1 = cc in omega arith)

-- ---- operations by their numbers

-- what the numbers of kind and operator say of an operation with n children
pub record Known (k o n : ℕ) (h : Head) : Type 0 where
  pub op : Operation
  pub is_op : h ≡ operation op
  pub right : arity_at k o n ≡ arity op n
  pub takes : takes_boolean k o ≡ is_boolean (argument_kind op)
  pub gives : gives_boolean k o ≡ is_boolean (result_kind op)
  pub steps : stepped_at k o ≡ stepped op
  pub lists : listing_at k o ≡ listing op
  pub code : opcode_at k o ≡ operation_number op
  pub small : o < 16

unary_known : (n o : ℕ) (h : Head) → n ≡ 1 → get_elem? unaries o ≡ some h → Known 3 o n h
unfolding arity_at takes_boolean gives_boolean stepped_at listing_at opcode_at
unary_known n zero h e x = let r = eq-eqb n 1 e in record { op = unary Positive; is_op = cc; right = sym r; takes = refl; gives = refl; steps = refl; lists = refl; code = refl; small = omega arith }
unary_known n (suc zero) h e x = let r = eq-eqb n 1 e in record { op = unary Negative; is_op = cc; right = sym r; takes = refl; gives = refl; steps = refl; lists = refl; code = refl; small = omega arith }
unary_known n (suc (suc zero)) h e x = let r = eq-eqb n 1 e in record { op = unary Not; is_op = cc; right = sym r; takes = refl; gives = refl; steps = refl; lists = refl; code = refl; small = omega arith }
unary_known n (suc (suc (suc o))) h e x = never x

binary_known : (n o : ℕ) (h : Head) → n ≡ 2 → get_elem? binaries o ≡ some h → Known 4 o n h
unfolding arity_at takes_boolean gives_boolean stepped_at listing_at opcode_at
binary_known n zero h e x = let r = eq-eqb n 2 e in record { op = binary Add; is_op = cc; right = sym r; takes = refl; gives = refl; steps = refl; lists = refl; code = refl; small = omega arith }
binary_known n (suc zero) h e x = let r = eq-eqb n 2 e in record { op = binary Subtract; is_op = cc; right = sym r; takes = refl; gives = refl; steps = refl; lists = refl; code = refl; small = omega arith }
binary_known n (suc (suc zero)) h e x = let r = eq-eqb n 2 e in record { op = binary Multiply; is_op = cc; right = sym r; takes = refl; gives = refl; steps = refl; lists = refl; code = refl; small = omega arith }
binary_known n (suc (suc (suc zero))) h e x = let r = eq-eqb n 2 e in record { op = binary Divide; is_op = cc; right = sym r; takes = refl; gives = refl; steps = refl; lists = refl; code = refl; small = omega arith }
binary_known n (suc (suc (suc (suc zero)))) h e x = let r = eq-eqb n 2 e in record { op = binary Power; is_op = cc; right = sym r; takes = refl; gives = refl; steps = refl; lists = refl; code = refl; small = omega arith }
binary_known n (suc (suc (suc (suc (suc zero))))) h e x = let r = eq-eqb n 2 e in record { op = binary Modulo; is_op = cc; right = sym r; takes = refl; gives = refl; steps = refl; lists = refl; code = refl; small = omega arith }
binary_known n (suc (suc (suc (suc (suc (suc o)))))) h e x = never x

compare_known : (n o : ℕ) (h : Head) → n ≡ 2 → get_elem? compares o ≡ some h → Known 5 o n h
unfolding arity_at takes_boolean gives_boolean stepped_at listing_at opcode_at
compare_known n zero h e x = let r = eq-eqb n 2 e in record { op = compare Lt; is_op = cc; right = sym r; takes = refl; gives = refl; steps = refl; lists = refl; code = refl; small = omega arith }
compare_known n (suc zero) h e x = let r = eq-eqb n 2 e in record { op = compare Le; is_op = cc; right = sym r; takes = refl; gives = refl; steps = refl; lists = refl; code = refl; small = omega arith }
compare_known n (suc (suc zero)) h e x = let r = eq-eqb n 2 e in record { op = compare Gt; is_op = cc; right = sym r; takes = refl; gives = refl; steps = refl; lists = refl; code = refl; small = omega arith }
compare_known n (suc (suc (suc zero))) h e x = let r = eq-eqb n 2 e in record { op = compare Ge; is_op = cc; right = sym r; takes = refl; gives = refl; steps = refl; lists = refl; code = refl; small = omega arith }
compare_known n (suc (suc (suc (suc zero)))) h e x = let r = eq-eqb n 2 e in record { op = compare Eq; is_op = cc; right = sym r; takes = refl; gives = refl; steps = refl; lists = refl; code = refl; small = omega arith }
compare_known n (suc (suc (suc (suc (suc zero))))) h e x = let r = eq-eqb n 2 e in record { op = compare Ne; is_op = cc; right = sym r; takes = refl; gives = refl; steps = refl; lists = refl; code = refl; small = omega arith }
compare_known n (suc (suc (suc (suc (suc (suc o)))))) h e x = never x

call_known : (n o : ℕ) (h : Head) → get_elem? calls o ≡ some h → (o ≡ 14 → ⊥) → Known 7 o n h
unfolding arity_at takes_boolean gives_boolean stepped_at listing_at opcode_at
call_known n zero h x y = record { op = call Exp; is_op = cc; right = refl; takes = refl; gives = refl; steps = refl; lists = refl; code = refl; small = omega arith }
call_known n (suc zero) h x y = record { op = call Log; is_op = cc; right = refl; takes = refl; gives = refl; steps = refl; lists = refl; code = refl; small = omega arith }
call_known n (suc (suc zero)) h x y = record { op = call Log10; is_op = cc; right = refl; takes = refl; gives = refl; steps = refl; lists = refl; code = refl; small = omega arith }
call_known n (suc (suc (suc zero))) h x y = record { op = call Sqrt; is_op = cc; right = refl; takes = refl; gives = refl; steps = refl; lists = refl; code = refl; small = omega arith }
call_known n (suc (suc (suc (suc zero)))) h x y = record { op = call Sin; is_op = cc; right = refl; takes = refl; gives = refl; steps = refl; lists = refl; code = refl; small = omega arith }
call_known n (suc (suc (suc (suc (suc zero))))) h x y = record { op = call Cos; is_op = cc; right = refl; takes = refl; gives = refl; steps = refl; lists = refl; code = refl; small = omega arith }
call_known n (suc (suc (suc (suc (suc (suc zero)))))) h x y = record { op = call Tan; is_op = cc; right = refl; takes = refl; gives = refl; steps = refl; lists = refl; code = refl; small = omega arith }
call_known n (suc (suc (suc (suc (suc (suc (suc zero))))))) h x y = record { op = call Tanh; is_op = cc; right = refl; takes = refl; gives = refl; steps = refl; lists = refl; code = refl; small = omega arith }
call_known n (suc (suc (suc (suc (suc (suc (suc (suc zero)))))))) h x y = record { op = call Abs; is_op = cc; right = refl; takes = refl; gives = refl; steps = refl; lists = refl; code = refl; small = omega arith }
call_known n (suc (suc (suc (suc (suc (suc (suc (suc (suc zero))))))))) h x y = record { op = call Floor; is_op = cc; right = refl; takes = refl; gives = refl; steps = refl; lists = refl; code = refl; small = omega arith }
call_known n (suc (suc (suc (suc (suc (suc (suc (suc (suc (suc zero)))))))))) h x y = record { op = call Ceil; is_op = cc; right = refl; takes = refl; gives = refl; steps = refl; lists = refl; code = refl; small = omega arith }
call_known n (suc (suc (suc (suc (suc (suc (suc (suc (suc (suc (suc zero))))))))))) h x y = record { op = call Min; is_op = cc; right = refl; takes = refl; gives = refl; steps = refl; lists = refl; code = refl; small = omega arith }
call_known n (suc (suc (suc (suc (suc (suc (suc (suc (suc (suc (suc (suc zero)))))))))))) h x y = record { op = call Max; is_op = cc; right = refl; takes = refl; gives = refl; steps = refl; lists = refl; code = refl; small = omega arith }
call_known n (suc (suc (suc (suc (suc (suc (suc (suc (suc (suc (suc (suc (suc zero))))))))))))) h x y = record { op = call Hill; is_op = cc; right = refl; takes = refl; gives = refl; steps = refl; lists = refl; code = refl; small = omega arith }
call_known n (suc (suc (suc (suc (suc (suc (suc (suc (suc (suc (suc (suc (suc (suc zero)))))))))))))) h x y = absurd (y refl)
call_known n (suc (suc (suc (suc (suc (suc (suc (suc (suc (suc (suc (suc (suc (suc (suc zero))))))))))))))) h x y = record { op = call InverseGaussianDensity; is_op = cc; right = refl; takes = refl; gives = refl; steps = refl; lists = refl; code = refl; small = omega arith }
call_known n (suc (suc (suc (suc (suc (suc (suc (suc (suc (suc (suc (suc (suc (suc (suc (suc o)))))))))))))))) h x y = never x

chosen_ifelse : (k o : ℕ) → k ≡ 7 → o ≡ 14 → chooses_at k o ≡ true
unfolding chooses_at
chosen_ifelse k o e f = rw (e, f)

chosen_conditional : (k o : ℕ) → k ≡ 8 → chooses_at k o ≡ true
unfolding chooses_at
chosen_conditional k o e = rw e

not_both : (c : Bool) → c ≡ false → c ≡ true → ⊥
not_both true e f = let z : ◌≡◌ {A = ℕ} 0 1 = cc in omega arith
not_both false e f = let z : ◌≡◌ {A = ℕ} 0 1 = cc in omega arith

module _ (f : Fields) (h : Head) (is : head_of f ≡ some h) (n₃ : 3 ≤ f.kind) (n₆ : f.kind ≡ 6 → ⊥) (nc : chooses_at f.kind f.operator ≡ false) where
  known_at : (k : ℕ) → f.kind ≡ k → (o : ℕ) → f.operator ≡ o → Known k o f.children h → Known f.kind f.operator f.children h
  known_at k e o e' x = rw (e, e') x

  not_ifelse : f.kind ≡ 7 → f.operator ≡ 14 → ⊥
  not_ifelse e e' = not_both (chooses_at f.kind f.operator) nc (chosen_ifelse f.kind f.operator e e')

  pub known : Known f.kind f.operator f.children h
  known = go f.kind refl
    where
      go : (k : ℕ) → f.kind ≡ k → Known f.kind f.operator f.children h
      go zero e = absurd (omega arith)
      go (suc zero) e = absurd (omega arith)
      go (suc (suc zero)) e = absurd (omega arith)
      go (suc (suc (suc zero))) e =
          let x = inner_is f h is unaries (eqb f.children 1) (at_kind f h is 3 e) in
          known_at 3 e f.operator refl (unary_known f.children f.operator h (eqb-true f.children 1 x.0) x.1)
      go (suc (suc (suc (suc zero)))) e =
          let x = inner_is f h is binaries (eqb f.children 2) (at_kind f h is 4 e) in
          known_at 4 e f.operator refl (binary_known f.children f.operator h (eqb-true f.children 2 x.0) x.1)
      go (suc (suc (suc (suc (suc zero))))) e =
          let x = inner_is f h is compares (eqb f.children 2) (at_kind f h is 5 e) in
          known_at 5 e f.operator refl (compare_known f.children f.operator h (eqb-true f.children 2 x.0) x.1)
      go (suc (suc (suc (suc (suc (suc zero)))))) e = absurd (n₆ e)
      go (suc (suc (suc (suc (suc (suc (suc zero))))))) e =
          let x = inner_is f h is calls true (at_kind f h is 7 e) in
          known_at 7 e f.operator refl (call_known f.children f.operator h x.1 (not_ifelse e))
      go (suc (suc (suc (suc (suc (suc (suc (suc zero)))))))) e =
          absurd (not_both (chooses_at f.kind f.operator) nc (chosen_conditional f.kind f.operator e))
      go (suc (suc (suc (suc (suc (suc (suc (suc (suc k))))))))) e = never (at_kind f h is (suc (suc (suc (suc (suc (suc (suc (suc (suc k))))))))) e)
