-- Which fields are a node's.
use mathlib.Core.Path.{◌≡◌, refl, sym, ap, ◌∙◌}
use mathlib.Core.Bool.{Bool, true, false, cond, ◌&&◌}
use mathlib.Core.List.{List, [], ◌∷◌}
use mathlib.Core.Option.{Option, none, some}
use Prim.Native.Nat.{ℕ, zero, suc, ◌+◌, ◌<◌, ◌≤◌}
use native.Mathlib.Omega.{arith}
use lib.ListN.{length, get_or, get_elem?, get_or-eq_default}
use lib.Dec.{eqb, ltb}
use borrow.Author.Tests.{lt-ltb, le-ltb, ltb-true, ltb-false, eqb-true}
use Rattle.formula.specs.Formula.{Head, number, truth, symbol, operation, junction, ifelse, conditional, malformed, is_node}
use Rattle.formula.specs.Node.{Fields, heads, head_of, when, inner_head, unaries, binaries, compares, booleans, calls, fields_of, inner_fields}
use Rattle.reader.specs.Read.{is_some}
pub use Rattle.formula.proofs.Tests.{no_true, and_first, and_second}

some_when : (c : Bool) (h : Head) → is_some (when c (some h)) ≡ c
some_when true h = refl
some_when false h = refl

suc_ltb : (b : Bool) (i n : ℕ) → ltb i n ≡ b → ltb (suc i) (suc n) ≡ b
suc_ltb true i n e = let h = ltb-true i n e in lt-ltb (suc i) (suc n) (omega arith)
suc_ltb false i n e = let h = ltb-false i n e in le-ltb (suc i) (suc n) (omega arith)

in_table : {A : Type 0} (xs : List A) (i : ℕ) → is_some (get_elem? xs i) ≡ ltb i (length xs)
in_table [] i = sym (le-ltb i 0 (omega arith))
in_table (x ∷ xs) zero = sym (lt-ltb zero (suc (length xs)) (omega arith))
in_table (x ∷ xs) (suc i) = in_table xs i ∙ sym (suc_ltb (ltb i (length xs)) i (length xs) refl)

some_inner : (r s v : Bool) (o : Option Head) → is_some (when (r && s && v) o) ≡ (is_some o && (s && v) && r)
some_inner true true true none = refl
some_inner true true true (some h) = refl
some_inner true true false none = refl
some_inner true true false (some h) = refl
some_inner true false v none = refl
some_inner true false v (some h) = refl
some_inner false s v none = refl
some_inner false true true (some h) = refl
some_inner false true false (some h) = refl
some_inner false false v (some h) = refl

module _ (f : Fields) where
  -- one of the first n operators, no symbol and no value
  abbrev pub inner : ℕ → Bool
  inner n = ltb f.operator n && (eqb f.symbol_number 0 && eqb f.value 0)

  is_inner : (table : List Head) (right : Bool) → is_some (inner_head table right f) ≡ (inner (length table) && right)
  is_inner table right =
      some_inner right (eqb f.symbol_number 0) (eqb f.value 0) (get_elem? table f.operator)
      ∙ ap (λ (b : Bool). b && (eqb f.symbol_number 0 && eqb f.value 0) && right) (in_table table f.operator)

  abbrev at_kind : ℕ → Bool
  at_kind k = is_some (get_or (heads f) k none)

  has_kind : (k : ℕ) → f.kind ≡ k → is_some (head_of f) ≡ at_kind k
  unfolding head_of
  has_kind k e = ap at_kind e

  abbrev pub literal : Bool
  literal = eqb f.operator 0 && eqb f.children 0 && eqb f.symbol_number 0

  pub number_is : f.kind ≡ 0 → is_some (head_of f) ≡ literal
  number_is e = has_kind 0 e ∙ some_when literal (number f.value)

  pub truth_is : f.kind ≡ 1 → is_some (head_of f) ≡ (literal && ltb f.value 2)
  truth_is e = has_kind 1 e ∙ some_when (literal && ltb f.value 2) (truth (eqb f.value 1))

  pub symbol_is : f.kind ≡ 2 → is_some (head_of f) ≡ (eqb f.operator 0 && eqb f.children 0 && eqb f.value 0)
  symbol_is e = has_kind 2 e ∙ some_when (eqb f.operator 0 && eqb f.children 0 && eqb f.value 0) (symbol f.symbol_number)

  pub unary_is : f.kind ≡ 3 → is_some (head_of f) ≡ (inner 3 && eqb f.children 1)
  unary_is e = has_kind 3 e ∙ is_inner unaries (eqb f.children 1)

  pub binary_is : f.kind ≡ 4 → is_some (head_of f) ≡ (inner 6 && eqb f.children 2)
  binary_is e = has_kind 4 e ∙ is_inner binaries (eqb f.children 2)

  pub compare_is : f.kind ≡ 5 → is_some (head_of f) ≡ (inner 6 && eqb f.children 2)
  compare_is e = has_kind 5 e ∙ is_inner compares (eqb f.children 2)

  pub boolean_is : f.kind ≡ 6 → is_some (head_of f) ≡ (inner 2 && true)
  boolean_is e = has_kind 6 e ∙ is_inner booleans true

  pub call_is : f.kind ≡ 7 → is_some (head_of f) ≡ (inner 16 && true)
  call_is e = has_kind 7 e ∙ is_inner calls true

  pub conditional_is : f.kind ≡ 8 → is_some (head_of f) ≡ (inner 1 && eqb f.children 3)
  conditional_is e = has_kind 8 e ∙ is_inner (conditional ∷ []) (eqb f.children 3)

  pub no_kind : 8 < f.kind → is_some (head_of f) ≡ false
  unfolding head_of
  no_kind h =
      let l : 9 ≤ f.kind = omega arith in
      ap (λ (o : Option Head). is_some o) (get_or-eq_default (heads f) none l)

-- a test and then another
pub and_taken : (i x z r : Bool) → r ≡ i → r ≡ true → z ≡ (i && x) → x ≡ z
and_taken i x z r e t q = sym (q ∙ ap (λ (b : Bool). b && x) (sym e ∙ t))

pub and_left : (i x z r : Bool) → r ≡ i → r ≡ false → z ≡ (i && x) → r ≡ z
and_left i x z r e t q = t ∙ sym (q ∙ ap (λ (b : Bool). b && x) (sym e ∙ t))

pub and_all : (i z r : Bool) → r ≡ i → z ≡ (i && true) → r ≡ z
and_all true z r e q = e ∙ sym q
and_all false z r e q = e ∙ sym q

-- ---- a node's fields are those of its head

when_true : (c : Bool) (o : Option Head) (h : Head) → when c o ≡ some h → c ≡ true
when_true true o h e = refl
when_true false o h e = let z : ◌≡◌ {A = ℕ} 0 1 = cc in absurd (omega arith)

when_is : (c : Bool) (o : Option Head) (h : Head) → when c o ≡ some h → o ≡ some h
when_is true o h e = e
when_is false o h e = let z : ◌≡◌ {A = ℕ} 0 1 = cc in absurd (omega arith)

-- the heads of a table have the kind k and their place as operator
Tabled : ℕ → ℕ → ℕ → List Head → Type 0
Tabled k i n [] = Unit {0}
Tabled k i n (h ∷ hs) = (fields_of h n ≡ inner_fields k i n) × Tabled k (suc i) n hs

tabled_at : (k i n : ℕ) (hs : List Head) → Tabled k i n hs → (j : ℕ) (h : Head) → get_elem? hs j ≡ some h → fields_of h n ≡ inner_fields k (i + j) n
unfolding Tabled
tabled_at k i n [] t j h e = let z : ◌≡◌ {A = ℕ} 0 1 = cc in absurd (omega arith)
tabled_at k i n (x ∷ hs) t zero h e =
    let q : x ≡ h = cc in
    let z : i ≡ i + zero = omega arith in
    ap (λ (y : Head). fields_of y n) (sym q) ∙ (t.0 ∙ ap (λ (y : ℕ). inner_fields k y n) z)
tabled_at k i n (x ∷ hs) t (suc j) h e =
    let z : suc i + j ≡ i + suc j = omega arith in
    tabled_at k (suc i) n hs t.1 j h e ∙ ap (λ (y : ℕ). inner_fields k y n) z

same_head : {g h : Head} → ◌≡◌ {A = Option Head} (some g) (some h) → g ≡ h
same_head e = cc

made : (f : Fields) (k o s v : ℕ) → f.kind ≡ k → f.operator ≡ o → f.symbol_number ≡ s → f.value ≡ v
    → ◌≡◌ {A = Fields} (record { kind = k; operator = o; children = f.children; symbol_number = s; value = v }) f
made f k o s v ek eo es ev = rw (← ek, ← eo, ← es, ← ev)

inner_back : (k : ℕ) (hs : List Head) (right : Bool) (f : Fields) (h : Head) → Tabled k 0 f.children hs → f.kind ≡ k
    → inner_head hs right f ≡ some h → fields_of h f.children ≡ f
inner_back k hs right f h t ek e =
    let s = eqb f.symbol_number 0 in
    let v = eqb f.value 0 in
    let w = when_true (right && s && v) (get_elem? hs f.operator) h e in
    let es = eqb-true f.symbol_number 0 (and_second right s (and_first (right && s) v w)) in
    let ev = eqb-true f.value 0 (and_second (right && s) v w) in
    tabled_at k 0 f.children hs t f.operator h (when_is (right && s && v) (get_elem? hs f.operator) h e)
    ∙ made f k (0 + f.operator) 0 0 ek (omega arith) es ev

bit : (v : ℕ) → v < 2 → cond (eqb v 1) 1 0 ≡ v
bit zero l = refl
bit (suc zero) l = refl
bit (suc (suc v)) l = absurd (omega arith)

head_back : (k : ℕ) (f : Fields) (h : Head) → f.kind ≡ k → get_or (heads f) k none ≡ some h → fields_of h f.children ≡ f
unfolding Tabled
head_back zero f h ek e =
    let o = eqb f.operator 0 in
    let c = eqb f.children 0 in
    let s = eqb f.symbol_number 0 in
    let w = when_true (o && c && s) (some (number f.value)) h e in
    let eo = eqb-true f.operator 0 (and_first o c (and_first (o && c) s w)) in
    let es = eqb-true f.symbol_number 0 (and_second (o && c) s w) in
    let eh : number f.value ≡ h = same_head (when_is (o && c && s) (some (number f.value)) h e) in
    ap (λ (x : Head). fields_of x f.children) (sym eh) ∙ made f 0 0 0 f.value ek eo es refl
head_back (suc zero) f h ek e =
    let o = eqb f.operator 0 in
    let c = eqb f.children 0 in
    let s = eqb f.symbol_number 0 in
    let v = ltb f.value 2 in
    let w = when_true (o && c && s && v) (some (truth (eqb f.value 1))) h e in
    let w3 = and_first (o && c && s) v w in
    let eo = eqb-true f.operator 0 (and_first o c (and_first (o && c) s w3)) in
    let es = eqb-true f.symbol_number 0 (and_second (o && c) s w3) in
    let ev = bit f.value (ltb-true f.value 2 (and_second (o && c && s) v w)) in
    let eh : truth (eqb f.value 1) ≡ h = same_head (when_is (o && c && s && v) (some (truth (eqb f.value 1))) h e) in
    ap (λ (x : Head). fields_of x f.children) (sym eh) ∙ made f 1 0 0 (cond (eqb f.value 1) 1 0) ek eo es (sym ev)
head_back (suc (suc zero)) f h ek e =
    let o = eqb f.operator 0 in
    let c = eqb f.children 0 in
    let v = eqb f.value 0 in
    let w = when_true (o && c && v) (some (symbol f.symbol_number)) h e in
    let eo = eqb-true f.operator 0 (and_first o c (and_first (o && c) v w)) in
    let ev = eqb-true f.value 0 (and_second (o && c) v w) in
    let eh : symbol f.symbol_number ≡ h = same_head (when_is (o && c && v) (some (symbol f.symbol_number)) h e) in
    ap (λ (x : Head). fields_of x f.children) (sym eh) ∙ made f 2 0 f.symbol_number 0 ek eo refl ev
head_back (suc (suc (suc zero))) f h ek e = inner_back 3 unaries (eqb f.children 1) f h (refl, (refl, (refl, tt))) ek e
head_back (suc (suc (suc (suc zero)))) f h ek e =
    inner_back 4 binaries (eqb f.children 2) f h (refl, (refl, (refl, (refl, (refl, (refl, tt)))))) ek e
head_back (suc (suc (suc (suc (suc zero))))) f h ek e =
    inner_back 5 compares (eqb f.children 2) f h (refl, (refl, (refl, (refl, (refl, (refl, tt)))))) ek e
head_back (suc (suc (suc (suc (suc (suc zero)))))) f h ek e = inner_back 6 booleans true f h (refl, (refl, tt)) ek e
head_back (suc (suc (suc (suc (suc (suc (suc zero))))))) f h ek e =
    inner_back 7 calls true f h
    (refl, (refl, (refl, (refl, (refl, (refl, (refl, (refl, (refl, (refl, (refl, (refl, (refl, (refl, (refl, (refl, tt)))))))))))))))) ek e
head_back (suc (suc (suc (suc (suc (suc (suc (suc zero)))))))) f h ek e = inner_back 8 (conditional ∷ []) (eqb f.children 3) f h (refl, tt) ek e
head_back (suc (suc (suc (suc (suc (suc (suc (suc (suc k))))))))) f h ek e = let z : ◌≡◌ {A = ℕ} 0 1 = cc in absurd (omega arith)

pub head_fields : (f : Fields) (h : Head) → head_of f ≡ some h → fields_of h f.children ≡ f
unfolding head_of
head_fields f h e = head_back f.kind f h refl e

some_kind : (f : Fields) (h : Head) → head_of f ≡ some h → f.kind < 9
unfolding head_of
some_kind f h e = let t : is_some (head_of f) ≡ true = ap (λ (o : Option Head). is_some o) e in below (ltb f.kind 9) refl t
  where
    below : (b : Bool) → ltb f.kind 9 ≡ b → is_some (head_of f) ≡ true → f.kind < 9
    below true q t = ltb-true f.kind 9 q
    below false q t = let l = ltb-false f.kind 9 q in absurd (no_true (sym (no_kind f (omega arith)) ∙ t))

kind_node : (h : Head) (n k : ℕ) → (fields_of h n).kind ≡ k → k < 9 → is_node h ≡ true
kind_node (number b) n k e l = refl
kind_node (truth b) n k e l = refl
kind_node (symbol i) n k e l = refl
kind_node (operation o) n k e l = refl
kind_node (junction j) n k e l = refl
kind_node ifelse n k e l = refl
kind_node conditional n k e l = refl
kind_node malformed n k e l = absurd (omega arith)

pub head_is_node : (f : Fields) (h : Head) → head_of f ≡ some h → is_node h ≡ true
head_is_node f h e = kind_node h f.children f.kind (ap (λ (x : Fields). x.kind) (head_fields f h e)) (some_kind f h e)
