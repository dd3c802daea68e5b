-- Of each file exactly one of the four answers is true, and it is the one that is given.
use mathlib.Core.Path.{◌≡◌, refl, sym, ap, ap₂, ◌∙◌, subst}
use mathlib.Core.Bool.{Bool, true, false, cond}
use mathlib.Core.List.{List, [], ◌∷◌, ◌++◌, append-nil}
use mathlib.Core.Option.{Option, none, some}
use Prim.Native.Nat.{ℕ, zero, suc, ◌+◌, ◌-◌, ◌*◌, ◌/◌, ◌≤◌, ◌<◌}
use native.Mathlib.Omega.{arith}
use lib.ListN.{length, take, drop, length-append, length-drop, length-replicate, take-append-drop, get_or-append}
use lib.Seq.{get_or-append-add, get_or-take, length-take-le, take-append-le, take_at, take-take}
use lib.Dec.{eqb, leb}
use borrow.Author.Tests.{eq-eqb, eqb-false, eqb-true, le-leb, leb-false, leb-true, lt-leb, ne_eqb}
use Rattle.formula.specs.Text.{byte_at, half_at, word_at, long_at, zeros}
use Rattle.formula.specs.Formula.{Formula, Head, depth, number, size}
use Rattle.formula.specs.Node.{Fields, fields_at, fields_of, formula_of, head_at, head_of, node_bytes, node_size}
use Rattle.formula.specs.Transfer.{Transfer, ended_early, left_over, transfer_of, whole, wrong_field}
use Rattle.reader.specs.Read.{is_some, told}
use Rattle.reader.specs.Transfers.{IsFormula, Says, Spoilt, Unfinished, nodes}
use Rattle.std.specs.Prelude.{Result, Ok, Err}
use Rattle.std.specs.Result.{is_ok}
use Rattle.reader.specs.declared.Malformed.{Malformed}
use Rattle.reader.specs.declared.Malformed.TheVariants.{EndedEarly, WrongField, LeftOver}
use Rattle.reader.proofs.Heads.{no_true}
use Rattle.reader.proofs.Past.{zero_byte}
use Rattle.reader.proofs.Bytes.{Shows}
use Rattle.reader.proofs.Scan.{formula_in, formula_whole, ok_some, past_none, scan_bad, scan_end, scan_start, scan_step, scanned, whole_formula}
use Rattle.reader.proofs.Encode.{head_shown}

-- ---- sixteen bytes that are alike are the same node

module _ (b c : List ℕ) (x y : ℕ) (same : (i : ℕ) → i < node_size → byte_at b (x + i) ≡ byte_at c (y + i)) where
  byte_alike : (p q i : ℕ) → p ≡ x + i → q ≡ y + i → i < node_size → byte_at b p ≡ byte_at c q
  byte_alike p q i e f h = ap (λ (k : ℕ). byte_at b k) e ∙ same i h ∙ ap (λ (k : ℕ). byte_at c k) (sym f)

  half_alike : (p q i : ℕ) → p ≡ x + i → q ≡ y + i → i + 1 < node_size → half_at b p ≡ half_at c q
  unfolding half_at
  half_alike p q i e f h =
      ap₂ (λ (m n : ℕ). m + 256 * n) (byte_alike p q i e f (omega arith)) (byte_alike (p + 1) (q + 1) (i + 1) (omega arith) (omega arith) h)

  word_alike : (p q i : ℕ) → p ≡ x + i → q ≡ y + i → i + 3 < node_size → word_at b p ≡ word_at c q
  unfolding word_at
  word_alike p q i e f h =
      ap₂ (λ (m n : ℕ). m + 65536 * n) (half_alike p q i e f (omega arith)) (half_alike (p + 2) (q + 2) (i + 2) (omega arith) (omega arith) (omega arith))

  long_alike : (p q i : ℕ) → p ≡ x + i → q ≡ y + i → i + 7 < node_size → long_at b p ≡ long_at c q
  unfolding long_at
  long_alike p q i e f h =
      ap₂ (λ (m n : ℕ). m + 4294967296 * n) (word_alike p q i e f (omega arith)) (word_alike (p + 4) (q + 4) (i + 4) (omega arith) (omega arith) (omega arith))

  fields_alike : fields_at b x ≡ fields_at c y
  unfolding fields_at
  fields_alike =
      rw (
        byte_alike x y 0 (omega arith) (omega arith) (omega arith),
        byte_alike (x + 1) (y + 1) 1 refl refl (omega arith),
        half_alike (x + 2) (y + 2) 2 refl refl (omega arith),
        word_alike (x + 4) (y + 4) 4 refl refl (omega arith),
        long_alike (x + 8) (y + 8) 8 refl refl (omega arith),
      )

  head_alike : x + node_size ≤ length b → y + node_size ≤ length c → head_at b x ≡ head_at c y
  unfolding head_at
  head_alike l m =
      ap (λ (o : Bool). cond o (head_of (fields_at b x)) none) (le-leb (x + node_size) (length b) l)
      ∙ ap head_of fields_alike
      ∙ sym (ap (λ (o : Bool). cond o (head_of (fields_at c y)) none) (le-leb (y + node_size) (length c) m))

-- ---- the trees that are owed after some nodes

abbrev next_owed : Bool → ℕ → Option ℕ → Option ℕ
next_owed ok n none = none
next_owed ok n (some zero) = none
next_owed ok n (some (suc o)) = cond ok (some (o + n)) none

abbrev owed_after : List ℕ → ℕ → Option ℕ
owed_after b zero = some 1
owed_after b (suc j) = next_owed (is_some (head_at b (node_size * j))) (half_at b (node_size * j + 2)) (owed_after b j)

step_in : (m : Option ℕ) (ok : Bool) (n o : ℕ) → next_owed ok n m ≡ some o → (p : ℕ) × (m ≡ some (suc p)) × (ok ≡ true) × (p + n ≡ o)
step_in none ok n o e = absurd (let z : ◌≡◌ {A = ℕ} 0 1 = cc in omega arith)
step_in (some zero) ok n o e = absurd (let z : ◌≡◌ {A = ℕ} 0 1 = cc in omega arith)
step_in (some (suc p)) true n o e = (p, refl, refl, cc)
step_in (some (suc p)) false n o e = absurd (let z : ◌≡◌ {A = ℕ} 0 1 = cc in omega arith)

head_inside : (b : List ℕ) (at : ℕ) → is_some (head_at b at) ≡ true → at + node_size ≤ length b
head_inside b at e = by_cases (leb (at + node_size) (length b)) refl
  where
    by_cases : (t : Bool) → leb (at + node_size) (length b) ≡ t → at + node_size ≤ length b
    by_cases true q = leb-true (at + node_size) (length b) q
    by_cases false q = absurd (no_true (sym (past_none b at (leb-false (at + node_size) (length b) q)) ∙ e))

nodes_inside : (b : List ℕ) (j o : ℕ) → owed_after b j ≡ some o → node_size * j ≤ length b
nodes_inside b zero o e = omega arith
nodes_inside b (suc j) o e =
    let s = step_in (owed_after b j) (is_some (head_at b (node_size * j))) (half_at b (node_size * j + 2)) o e in
    let h = head_inside b (node_size * j) s.2 in
    omega arith

-- the scan comes by there
scan_to : (b : List ℕ) (j o : ℕ) → owed_after b j ≡ some o → told (transfer_of b) ≡ scanned b o j
scan_to b zero o e = let q : 1 ≡ o = cc in scan_start b ∙ ap (λ (k : ℕ). scanned b k 0) q
scan_to b (suc j) o e =
    let n = half_at b (node_size * j + 2) in
    let s = step_in (owed_after b j) (is_some (head_at b (node_size * j))) n o e in
    let q = s.3 in
    let p : suc s.0 - 1 + n ≡ o = omega arith in
    scan_to b j (suc s.0) s.1 ∙ scan_step b (suc s.0) j n (λ z. omega arith) s.2 refl ∙ ap (λ (k : ℕ). scanned b k (suc j)) p

-- bytes that begin alike owe alike
owed_alike : (b c : List ℕ) (j : ℕ) → node_size * j ≤ length b → node_size * j ≤ length c → ((i : ℕ) → i < node_size * j → byte_at b i ≡ byte_at c i) → owed_after b j ≡ owed_after c j
owed_alike b c zero l m same = refl
owed_alike b c (suc j) l m same =
    let x = node_size * j in
    let near : (i : ℕ) → i < node_size → byte_at b (x + i) ≡ byte_at c (x + i) = λ i h. same (x + i) (omega arith) in
    let r = owed_alike b c j (omega arith) (omega arith) (λ i h. same i (omega arith)) in
    let h = ap (λ (o : Option Head). is_some o) (head_alike b c x x near (omega arith) (omega arith)) in
    let n = half_alike b c x x near (x + 2) (x + 2) 2 refl refl (omega arith) in
    ap (λ (o : Option ℕ). next_owed (is_some (head_at b x)) (half_at b (x + 2)) o) r
    ∙ ap₂ (λ (t : Bool) (k : ℕ). next_owed t k (owed_after c j)) h n

-- on the way to a formula's end something is owed
owed_before : (b : List ℕ) (m o k : ℕ) → owed_after b m ≡ some o → k < m → (p : ℕ) × (owed_after b k ≡ some (suc p))
owed_before b zero o k e h = absurd (omega arith)
owed_before b (suc m) o k e h =
    let back = step_in (owed_after b m) (is_some (head_at b (node_size * m))) (half_at b (node_size * m + 2)) o e in
    by_cases back.0 back.1 (λ l. owed_before b m (suc back.0) k back.1 l) (eqb k m) refl
  where
    by_cases : (p : ℕ) → owed_after b m ≡ some (suc p) → (k < m → (q : ℕ) × (owed_after b k ≡ some (suc q))) → (t : Bool) → eqb k m ≡ t → (q : ℕ) × (owed_after b k ≡ some (suc q))
    by_cases p f r true q = (p, ap (λ (i : ℕ). owed_after b i) (eqb-true k m q) ∙ f)
    by_cases p f r false q = r (let n = eqb-false k m q in omega arith)

-- ---- where the scan ends

abbrev Ended : List ℕ → Result Unit Malformed → Type 0
Ended b (Ok u) = (j : ℕ) × (owed_after b j ≡ some 0) × (node_size * j ≡ length b)
Ended b (Err (LeftOver k)) = (owed_after b k ≡ some 0) × (node_size * k < length b)
Ended b (Err (EndedEarly k)) = (o : ℕ) × (owed_after b k ≡ some (suc o)) × (length b < node_size * suc k)
Ended b (Err (WrongField k)) = (o : ℕ) × (owed_after b k ≡ some (suc o)) × (node_size * suc k ≤ length b) × (is_some (head_at b (node_size * k)) ≡ false)

ended_is : (b : List ℕ) (r : Result Unit Malformed) → Ended b r → told (transfer_of b) ≡ r
ended_is b (Ok u) e =
    scan_to b e.0 0 e.1 ∙ scan_end b 0 e.0 refl ∙ ap (λ (t : Bool). cond t (Ok tt) (Err (LeftOver e.0))) (eq-eqb (node_size * e.0) (length b) e.2)
ended_is b (Err (LeftOver k)) e =
    scan_to b k 0 e.0
    ∙ scan_end b 0 k refl
    ∙ ap (λ (t : Bool). cond t (Ok tt) (Err (LeftOver k))) (ne_eqb (node_size * k) (length b) (λ q. let h = e.1 in omega arith))
ended_is b (Err (EndedEarly k)) e =
    let h = e.2 in
    scan_to b k (suc e.0) e.1
    ∙ scan_bad b (suc e.0) k (λ z. omega arith) (past_none b (node_size * k) (omega arith))
    ∙ ap (λ (t : Bool). cond t (Err (WrongField k)) (Err (EndedEarly k))) (lt-leb (node_size * suc k) (length b) h)
ended_is b (Err (WrongField k)) e =
    scan_to b k (suc e.0) e.1
    ∙ scan_bad b (suc e.0) k (λ z. omega arith) e.3
    ∙ ap (λ (t : Bool). cond t (Err (WrongField k)) (Err (EndedEarly k))) (le-leb (node_size * suc k) (length b) e.2)

nothing_owed : (b : List ℕ) (j : ℕ) → owed_after b j ≡ some 0 → (t : Bool) → eqb (node_size * j) (length b) ≡ t → (r : Result Unit Malformed) × Ended b r
nothing_owed b j e true q = (Ok tt, (j, e, eqb-true (node_size * j) (length b) q))
nothing_owed b j e false q = (Err (LeftOver j), (e, let n = eqb-false (node_size * j) (length b) q in let h = nodes_inside b j 0 e in omega arith))

next_after : (b : List ℕ) (j o : ℕ) → owed_after b j ≡ some (suc o) → is_some (head_at b (node_size * j)) ≡ true → owed_after b (suc j) ≡ some (o + half_at b (node_size * j + 2))
next_after b j o e w = ap₂ (λ (t : Bool) (m : Option ℕ). next_owed t (half_at b (node_size * j + 2)) m) w e

one_owed : (b : List ℕ) (j o : ℕ) → owed_after b j ≡ some (suc o)
    → (owed_after b (suc j) ≡ some (o + half_at b (node_size * j + 2)) → (r : Result Unit Malformed) × Ended b r)
    → (t u : Bool) → leb (node_size * suc j) (length b) ≡ t → is_some (head_at b (node_size * j)) ≡ u → (r : Result Unit Malformed) × Ended b r
one_owed b j o e on false u q w = (Err (EndedEarly j), (o, e, leb-false (node_size * suc j) (length b) q))
one_owed b j o e on true false q w = (Err (WrongField j), (o, e, leb-true (node_size * suc j) (length b) q, w))
one_owed b j o e on true true q w = on (next_after b j o e w)

-- so many steps are enough
ends_in : (d : ℕ) (b : List ℕ) (j o : ℕ) → owed_after b j ≡ some o → length b < node_size * (j + d) → (r : Result Unit Malformed) × Ended b r
ends_in zero b j o e l = absurd (let h = nodes_inside b j o e in omega arith)
ends_in (suc d) b j zero e l = nothing_owed b j e (eqb (node_size * j) (length b)) refl
ends_in (suc d) b j (suc o) e l =
    one_owed b j o e (λ f. ends_in d b (suc j) (o + half_at b (node_size * j + 2)) f (omega arith)) (leb (node_size * suc j) (length b)) (is_some (head_at b (node_size * j))) refl refl

ended : (b : List ℕ) → Ended b (told (transfer_of b))
ended b =
    let x = ends_in (suc (length b)) b 0 1 refl (omega arith) in
    subst (λ (r : Result Unit Malformed). Ended b r) (sym (ended_is b x.0 x.1)) x.1

-- ---- what was told is what is so

whole_in : (o : Option Formula) → true ≡ is_some o → (f : Formula) × (o ≡ some f)
whole_in none e = absurd (no_true (sym e))
whole_in (some f) e = (f, refl)

none_in : (o : Option Formula) → false ≡ is_some o → o ≡ none
none_in none e = refl
none_in (some f) e = absurd (no_true e)

is_whole : (b : List ℕ) → Ended b (Ok tt) → IsFormula b
is_whole b e = whole_in (formula_of b) (ap is_ok (sym (ended_is b (Ok tt) e)) ∙ ok_some b)

whole_is : (b : List ℕ) (f : Formula) → formula_of b ≡ some f → Ended b (Ok tt)
whole_is b f e = subst (λ (r : Result Unit Malformed). Ended b r) (ap told (formula_whole b f e)) (ended b)

is_none : (b : List ℕ) (m : Malformed) → Ended b (Err m) → formula_of b ≡ none
is_none b m e = none_in (formula_of b) (ap is_ok (sym (ended_is b (Err m) e)) ∙ ok_some b)

told_same : (X Y : Transfer) → ((f : Formula) → X ≡ whole f → ⊥) → told Y ≡ told X → Y ≡ X
told_same (whole f) Y n e = absurd (n f refl)
told_same (ended_early k) (whole f) n e = absurd (let z : ◌≡◌ {A = ℕ} 0 1 = cc in omega arith)
told_same (ended_early k) (ended_early j) n e = let q : j ≡ k = cc in ap (λ (i : ℕ). ended_early i) q
told_same (ended_early k) (wrong_field j) n e = absurd (let z : ◌≡◌ {A = ℕ} 0 1 = cc in omega arith)
told_same (ended_early k) (left_over j) n e = absurd (let z : ◌≡◌ {A = ℕ} 0 1 = cc in omega arith)
told_same (wrong_field k) (whole f) n e = absurd (let z : ◌≡◌ {A = ℕ} 0 1 = cc in omega arith)
told_same (wrong_field k) (ended_early j) n e = absurd (let z : ◌≡◌ {A = ℕ} 0 1 = cc in omega arith)
told_same (wrong_field k) (wrong_field j) n e = let q : j ≡ k = cc in ap (λ (i : ℕ). wrong_field i) q
told_same (wrong_field k) (left_over j) n e = absurd (let z : ◌≡◌ {A = ℕ} 0 1 = cc in omega arith)
told_same (left_over k) (whole f) n e = absurd (let z : ◌≡◌ {A = ℕ} 0 1 = cc in omega arith)
told_same (left_over k) (ended_early j) n e = absurd (let z : ◌≡◌ {A = ℕ} 0 1 = cc in omega arith)
told_same (left_over k) (wrong_field j) n e = absurd (let z : ◌≡◌ {A = ℕ} 0 1 = cc in omega arith)
told_same (left_over k) (left_over j) n e = let q : j ≡ k = cc in ap (λ (i : ℕ). left_over i) q

-- ---- beginnings

taken_byte : (n : ℕ) (b more : List ℕ) → n ≤ length b → (i : ℕ) → i < n → byte_at (take n b ++ more) i ≡ byte_at b i
taken_byte n b more l i h = get_or-append (take n b) more 0 i (let e = length-take-le n b l in omega arith) ∙ get_or-take n b i 0 h

taken_length : (n : ℕ) (b more : List ℕ) → n ≤ length b → length (take n b ++ more) ≡ n + length more
taken_length n b more l = length-append (take n b) more ∙ ap (λ (k : ℕ). k + length more) (length-take-le n b l)

-- the first j nodes owe the same wherever they stand
owed_taken : (b more : List ℕ) (j : ℕ) → node_size * j ≤ length b → owed_after (nodes j b ++ more) j ≡ owed_after b j
owed_taken b more j l =
    owed_alike (nodes j b ++ more) b j (omega (arith, taken_length (node_size * j) b more l)) l (taken_byte (node_size * j) b more l)

-- ---- trees that are owed can be zeros: sixteen are the number 0

zero_node : (b : List ℕ) (at : ℕ) → at + node_size ≤ length b → ((i : ℕ) → i < node_size → byte_at b (at + i) ≡ 0) → (is_some (head_at b at) ≡ true) × (half_at b (at + 2) ≡ 0)
unfolding node_bytes fields_at
zero_node b at l z =
    let xs = node_bytes (fields_of (number 0) 0) in
    let s : Shows b at xs = record { inside = l; each = λ k h. z k h ∙ sym (zero_byte 16 k) } in
    let e = head_shown b at (number 0) 0 refl s in
    (ap (λ (o : Option Head). is_some o) e.0, ap (λ (f : Fields). f.children) e.1)

zeros_after : (b : List ℕ) (j o : ℕ) → owed_after b j ≡ some o → length b ≡ node_size * (j + o) → ((i : ℕ) → node_size * j ≤ i → byte_at b i ≡ 0) → owed_after b (j + o) ≡ some 0
zeros_after b j zero e l z = let q : j + 0 ≡ j = omega arith in ap (λ (i : ℕ). owed_after b i) q ∙ e
zeros_after b j (suc o) e l z =
    let n = zero_node b (node_size * j) (omega arith) (λ i h. z (node_size * j + i) (omega arith)) in
    let k = n.1 in
    let q : o + half_at b (node_size * j + 2) ≡ o = omega arith in
    let r : suc j + o ≡ j + suc o = omega arith in
    ap (λ (i : ℕ). owed_after b i) (sym r)
    ∙ zeros_after b (suc j) o (next_after b j o e n.0 ∙ ap (λ (i : ℕ). some i) q) (omega arith) (λ i h. z i (omega arith))

finished : (b : List ℕ) (j o : ℕ) → owed_after b j ≡ some o → IsFormula (nodes j b ++ zeros (node_size * o))
finished b j o e =
    let l = nodes_inside b j o e in
    let c = nodes j b ++ zeros (node_size * o) in
    let n : length c ≡ node_size * (j + o) = omega (arith, taken_length (node_size * j) b (zeros (node_size * o)) l, length-replicate {A = ℕ} (node_size * o) 0) in
    let t = length-take-le (node_size * j) b l in
    let z : (i : ℕ) → node_size * j ≤ i → byte_at c i ≡ 0 =
    λ i h.
    let q : i ≡ length (nodes j b) + (i - node_size * j) = omega arith in
    ap (λ (k : ℕ). byte_at c k) q ∙ get_or-append-add (nodes j b) (zeros (node_size * o)) (i - node_size * j) 0 ∙ zero_byte (node_size * o) (i - node_size * j) in
    is_whole c (j + o, zeros_after c j o (owed_taken b (zeros (node_size * o)) j l ∙ e) n z, sym n)

some_zeros : (n : ℕ) → (n ≡ 0 → ⊥) → zeros n ≡ [] → ⊥
some_zeros n h e = h (sym (length-replicate {A = ℕ} n 0) ∙ ap length e)

unfinished : (b : List ℕ) (j o : ℕ) → owed_after b j ≡ some (suc o) → Unfinished (nodes j b)
unfinished b j o e = (zeros (node_size * suc o), some_zeros (node_size * suc o) (λ z. omega arith), finished b j (suc o) e)

-- ---- the answer is true

spoilt : (b : List ℕ) (k o : ℕ) → owed_after b k ≡ some (suc o) → node_size * suc k ≤ length b → is_some (head_at b (node_size * k)) ≡ false → Spoilt (nodes (suc k) b)
spoilt b k o e l n more =
    let c = nodes (suc k) b ++ more in
    let x = node_size * k in
    let m = taken_length (node_size * suc k) b more l in
    let byte = taken_byte (node_size * suc k) b more l in
    let same : owed_after c k ≡ owed_after b k = owed_alike c b k (omega arith) (omega arith) (λ i h. byte i (omega arith)) in
    let head : is_some (head_at c x) ≡ is_some (head_at b x) =
    ap (λ (o : Option Head). is_some o) (head_alike c b x x (λ i h. byte (x + i) (omega arith)) (omega arith) (omega arith)) in
    is_none c (WrongField k) (o, same ∙ e, omega arith, head ∙ n)

says_in : (b : List ℕ) (X : Transfer) → transfer_of b ≡ X → Ended b (told X) → Says b X
says_in b (whole f) q e = whole_formula b f q
says_in b (left_over k) q e = (subst IsFormula (append-nil (nodes k b)) (finished b k 0 e.0), e.1)
says_in b (ended_early k) q e =
    let l = nodes_inside b k (suc e.0) e.1 in
    let h = e.2 in
    (omega arith, unfinished b k e.0 e.1)
says_in b (wrong_field k) q e = (e.2, unfinished b k e.0 e.1, spoilt b k e.0 e.1 e.2 e.3)

pub says : (b : List ℕ) → Says b (transfer_of b)
says b = says_in b (transfer_of b) refl (ended b)

-- ---- no other is

none_empty : (xs : List ℕ) → (xs ≡ [] → ⊥) → 0 < length xs
none_empty [] n = absurd (n refl)
none_empty (x ∷ xs) n = omega arith

owes_on : (b : List ℕ) (k : ℕ) → node_size * k ≤ length b → Unfinished (nodes k b) → (p : ℕ) × (owed_after b k ≡ some (suc p))
owes_on b k l u =
    let c = nodes k b ++ u.0 in
    let w = whole_is c u.2.0 u.2.1 in
    let h : k < w.0 = omega (arith, w.2, taken_length (node_size * k) b u.0 l, none_empty u.0 u.1) in
    let p = owed_before c w.0 0 k w.1 h in
    (p.0, sym (owed_taken b u.0 k l) ∙ p.1)

no_formula : {f : Formula} {o : Option Formula} → o ≡ none → o ≡ some f → ⊥
no_formula n e = let z : ◌≡◌ {A = ℕ} 0 1 = cc in omega arith

wrong_by : (b : List ℕ) (k p : ℕ) → owed_after b k ≡ some (suc p) → node_size * suc k ≤ length b → Spoilt (nodes (suc k) b) → (t : Bool) → is_some (head_at b (node_size * k)) ≡ t
    → Ended b (Err (WrongField k))
wrong_by b k p e l s false q = (p, e, l, q)
wrong_by b k p e l s true q =
    let n = p + half_at b (node_size * k + 2) in
    let f = finished b (suc k) n (next_after b k p e q) in
    absurd (no_formula (s (zeros (node_size * n))) f.1)

pub only : (b : List ℕ) (X : Transfer) → Says b X → transfer_of b ≡ X
only b (whole f) s = formula_whole b f s
only b (left_over k) s =
    let c = nodes k b in
    let h = s.1 in
    let l = length-take-le (node_size * k) b (omega arith) in
    let w = whole_is c s.0.0 s.0.1 in
    let j : w.0 ≡ k = omega (arith, w.2) in
    let same = owed_alike c b k (omega arith) (omega arith) (λ i m. get_or-take (node_size * k) b i 0 m) in
    told_same (left_over k) (transfer_of b) (λ f q. let z : ◌≡◌ {A = ℕ} 0 1 = cc in omega arith)
    (ended_is b (Err (LeftOver k)) (sym same ∙ ap (λ (i : ℕ). owed_after c i) (sym j) ∙ w.1, h))
only b (ended_early k) s =
    let e = s.0 in
    let p = owes_on b k (omega arith) s.1 in
    told_same (ended_early k) (transfer_of b) (λ f q. let z : ◌≡◌ {A = ℕ} 0 1 = cc in omega arith) (ended_is b (Err (EndedEarly k)) (p.0, p.1, omega arith))
only b (wrong_field k) s =
    let l = s.0 in
    let p = owes_on b k (omega arith) s.1 in
    told_same (wrong_field k) (transfer_of b) (λ f q. let z : ◌≡◌ {A = ℕ} 0 1 = cc in omega arith)
    (ended_is b (Err (WrongField k)) (wrong_by b k p.0 p.1 l s.2 (is_some (head_at b (node_size * k))) refl))

-- ---- a wrong field and bytes left over are told whatever comes later

same_nodes : (b more : List ℕ) (k : ℕ) → node_size * k ≤ length b → nodes k (b ++ more) ≡ nodes k b
same_nodes b more k h = take-append-le (node_size * k) b more h

pub wrong_stays : (b more : List ℕ) (k : ℕ) → transfer_of b ≡ wrong_field k → transfer_of (b ++ more) ≡ wrong_field k
wrong_stays b more k e =
    let s = subst (λ (X : Transfer). Says b X) e (says b) in
    let l = s.0 in
    only (b ++ more) (wrong_field k) (
      omega (arith, length-append b more),
      subst Unfinished (sym (same_nodes b more k (omega arith))) s.1,
      subst Spoilt (sym (same_nodes b more (suc k) l)) s.2,
    )

pub left_over_stays : (b more : List ℕ) (k : ℕ) → transfer_of b ≡ left_over k → transfer_of (b ++ more) ≡ left_over k
left_over_stays b more k e =
    let s = subst (λ (X : Transfer). Says b X) e (says b) in
    let l = s.1 in
    only (b ++ more) (left_over k) (subst IsFormula (sym (same_nodes b more k (omega arith))) s.0, omega (arith, length-append b more))

-- ---- what operators ask for

module _ (b : List ℕ) (f : Formula) (is : formula_of b ≡ some f) where
  long : node_size * size f ≡ length b
  long = (formula_in b f (depth f) is (omega arith)).2

  -- a formula cut at any byte
  pub cut_early : (c : ℕ) → c < length b → transfer_of (take c b) ≡ ended_early (c / 16)
  cut_early c h =
      let k = c / 16 in
      let n = node_size * k in
      let l : length (take c b) ≡ c = length-take-le c b (omega arith) in
      let whole_again : nodes k (take c b) ++ drop n b ≡ b = ap (λ (xs : List ℕ). xs ++ drop n b) (take-take n c b (omega arith)) ∙ take-append-drop n b in
      let more : drop n b ≡ [] → ⊥ = λ e. omega (arith, length-drop n b, ap length e) in
      only (take c b) (ended_early k) (ap (λ (i : ℕ). i / 16) (sym l), (drop n b, more, (f, ap formula_of whole_again ∙ is)))

  -- with anything after it
  pub longer_left_over : (more : List ℕ) → (more ≡ [] → ⊥) → transfer_of (b ++ more) ≡ left_over (size f)
  longer_left_over more n =
      let e : nodes (size f) (b ++ more) ≡ b = take_at b more (node_size * size f) (sym long) in
      only (b ++ more) (left_over (size f)) ((f, ap formula_of e ∙ is), omega (arith, long, length-append b more, none_empty more n))

  -- with a node that became sixteen bytes that are none
  pub spoilt_wrong : (k : ℕ) (w : List ℕ) → length w ≡ node_size → is_some (head_at w 0) ≡ false → node_size * suc k ≤ length b
      → transfer_of (nodes k b ++ (w ++ drop (node_size * suc k) b)) ≡ wrong_field k
  spoilt_wrong k w lw n h =
      let x = node_size * k in
      let rest = drop (node_size * suc k) b in
      let c = nodes k b ++ (w ++ rest) in
      let e = whole_is b f is in
      let g = owed_before b e.0 0 k e.1 (omega (arith, e.2)) in
      let l = taken_length x b (w ++ rest) (omega arith) in
      let m = length-append w rest in
      let t = length-take-le x b (omega arith) in
      let byte : (i : ℕ) → i < node_size → byte_at c (x + i) ≡ byte_at w (0 + i) =
      λ i s.
      let q : x + i ≡ length (nodes k b) + i = omega arith in
      let r : i ≡ 0 + i = omega arith in
      ap (λ (j : ℕ). byte_at c j) q ∙ get_or-append-add (nodes k b) (w ++ rest) i 0 ∙ get_or-append w rest 0 i (omega arith) ∙ ap (λ (j : ℕ). byte_at w j) r in
      let head : is_some (head_at c x) ≡ false = ap (λ (o : Option Head). is_some o) (head_alike c w x 0 byte (omega arith) (omega arith)) ∙ n in
      told_same (wrong_field k) (transfer_of c) (λ f q. let z : ◌≡◌ {A = ℕ} 0 1 = cc in omega arith)
      (ended_is c (Err (WrongField k)) (g.0, owed_taken b (w ++ rest) k (omega arith) ∙ g.1, omega arith, head))
