-- The derivative with records, without them, is the derivative: one record for each node.
use mathlib.Core.Path.{◌≡◌, refl, sym, ap, ◌∙◌}
use mathlib.Core.Bool.{Bool, true, false, cond}
use mathlib.Core.List.{List, [], ◌∷◌, ◌++◌, map, append-nil, append_assoc}
use mathlib.Core.Option.{Option, none, some}
use Prim.Native.Nat.{ℕ, zero, suc, ◌+◌, ◌*◌}
use native.Mathlib.Omega.{arith}
use lib.ListN.{length, length-append}
use Rattle.formula.specs.Formula.{Formula, Formulas, node, last, next, of_list, to_list, size, sizes, depends}
use Rattle.derivative.specs.Rules.{Parts, Rule, instance}
use Rattle.derivative.specs.Differentiate.{formulas, and_then, applied, the_rule, differentiate, differentiate_all, with_primal, derivative}
use Rattle.derivative.specs.Records.{Record, Recorded, Recordeds, noted, stop, more, gathered, erase, erase_all, records, records_all, by_rule, copied, copy, copies, written_by, arm, differentiate_at, differentiate_from, recorded_with_primal, recorded_derivative, records_of, derivative_records, outer, record_size, record_bytes, list_bytes}
use Rattle.derivative.specs.Provenance.{numbered}
use Rattle.derivative.proofs.Homomorphism.{homomorphism, mapped}
use Rattle.derivative.proofs.Attributes.{map_option}
use Rattle.derivative.proofs.Faultless.{none_some}

-- ---- a rule's instance

erase_gathered : (ts : List Recorded) → erase_all (gathered ts) ≡ of_list (map erase ts)
erase_gathered [] = refl
erase_gathered (t ∷ ts) = rw (erase_gathered ts)

-- what arm r writes at node k is, without records, what the rule gives of formulas
pub erase_instance : (r k : ℕ) (e : Parts Recorded) (q : Rule) → erase (instance (written_by r k) e q) ≡ instance formulas (mapped erase e) q
erase_instance r k e q =
    homomorphism (written_by r k) formulas erase (λ h ts. ap (node h) (erase_gathered ts)) refl refl (λ t. refl) (λ t. refl) e q

-- ---- copies

next_is : {t u : Formula} {ts us : Formulas} → t ≡ u → ts ≡ us → next t ts ≡ next u us
next_is {t} {u} {ts} {us} p q = rw (p, q)

cons_is : {A : Type 0} {x y : A} {xs ys : List A} → x ≡ y → xs ≡ ys → x ∷ xs ≡ y ∷ ys
cons_is {A} {x} {y} {xs} {ys} p q = rw (p, q)

append_is : {A : Type 0} {xs ys us vs : List A} → xs ≡ us → ys ≡ vs → xs ++ ys ≡ us ++ vs
append_is {A} {xs} {ys} {us} {vs} p q = rw (p, q)

mutual
  -- a copy of a part, without records, is that part
  pub erase_copy : (k : ℕ) (t : Formula) → erase (copy k t) ≡ t
  erase_copy k (node h ts) = ap (node h) (erase_copied _ ts)

  erase_copied : (k : ℕ) (ts : Formulas) → erase_all (gathered (copies k ts)) ≡ ts
  erase_copied k last = refl
  erase_copied k (next t ts) = next_is (erase_copy _ t) (erase_copied _ ts)

pub erase_copies : (k : ℕ) (ts : Formulas) → map erase (copies k ts) ≡ to_list ts
erase_copies k last = refl
erase_copies k (next t ts) = cons_is (erase_copy k t) (erase_copies (k + size t) ts)

-- copies one after another
pub numbered_append : (k n m : ℕ) → numbered k n ++ numbered (k + n) m ≡ numbered k (n + m)
numbered_append k zero m = let a : k + 0 ≡ k = omega arith in let b : 0 + m ≡ m = omega arith in rw (a, b)
numbered_append k (suc n) m =
    let a : k + suc n ≡ suc k + n = omega arith in
    let b : suc n + m ≡ suc (n + m) = omega arith in
    rw (a, b, numbered_append (suc k) n m)

mutual
  -- in a copy each node has its own number
  pub copy_records : (k : ℕ) (t : Formula) → records (copy k t) ≡ numbered k (size t)
  copy_records k (node h ts) = ap (λ (rs : List Record). by_rule copied k ∷ rs) (copies_records _ ts)

  pub copies_records : (k : ℕ) (ts : Formulas) → records_all (gathered (copies k ts)) ≡ numbered k (sizes ts)
  copies_records k last = refl
  copies_records k (next t ts) = append_is (copy_records _ t) (copies_records _ ts) ∙ numbered_append k (size t) (sizes ts)

-- ---- as many records as nodes

mutual
  pub records_length : (t : Recorded) → length (records t) ≡ size (erase t)
  records_length (noted r h ts) = rw (records_all_length ts)

  pub records_all_length : (ts : Recordeds) → length (records_all ts) ≡ sizes (erase_all ts)
  records_all_length stop = refl
  records_all_length (more t ts) = rw (length-append (records t) (records_all ts), records_length t, records_all_length ts)

-- ---- the derivative

module _ (s : ℕ) (by_state : Bool) where
  joined : (o : Option Recorded) (os : Option (List Recorded))
      → map_option (map erase) (and_then o (λ d. and_then os (λ ds. some (d ∷ ds))))
      ≡ and_then (map_option erase o) (λ d. and_then (map_option (map erase) os) (λ ds. some (d ∷ ds)))
  joined none os = refl
  joined (some d) none = refl
  joined (some d) (some ds) = refl

  applied_erased : (r k : ℕ) (q : Option Rule) (t : Recorded) (ts : List Recorded) (os : Option (List Recorded))
      → map_option erase (and_then os (λ ds. applied (written_by r k) q t ts ds))
      ≡ and_then (map_option (map erase) os) (λ ds. applied formulas q (erase t) (map erase ts) ds)
  applied_erased r k q t ts none = refl
  applied_erased r k none t ts (some ds) = refl
  applied_erased r k (some q) t ts (some ds) = ap some (erase_instance r k (record { own = t; children = ts; diffs = ds }) q)

  cond_erased : (c : Bool) (o : Option Recorded) (p : Option Formula) (d : Recorded) → map_option erase o ≡ p
      → map_option erase (cond c o (some d)) ≡ cond c p (some (erase d))
  cond_erased true o p d e = e
  cond_erased false o p d e = refl

  mutual
    -- of the formula's node k: erased, it is the derivative
    pub erase_differentiate : (k : ℕ) (f : Formula) → map_option erase (differentiate_at s by_state k f) ≡ differentiate s by_state f
    erase_differentiate k (node h ts) =
        cond_erased (depends s (node h ts)) _ _ _
        (applied_erased (arm h) k (the_rule s by_state h ts) (copy k (node h ts)) (copies (suc k) ts) (differentiate_from s by_state (suc k) ts)
        ∙ rw (erase_differentiate_all (suc k) ts, erase_copied (suc k) ts, erase_copies (suc k) ts))

    pub erase_differentiate_all : (k : ℕ) (ts : Formulas)
        → map_option (map erase) (differentiate_from s by_state k ts) ≡ differentiate_all s by_state ts
    erase_differentiate_all k last = refl
    erase_differentiate_all k (next t ts) =
        joined (differentiate_at s by_state k t) (differentiate_from s by_state (k + size t) ts)
        ∙ rw (erase_differentiate k t, erase_differentiate_all (k + size t) ts)

  outer_erased : (f : Formula) (o : Option Recorded)
      → map_option erase (and_then o (λ d. some (recorded_with_primal f d))) ≡ and_then (map_option erase o) (λ d. some (with_primal f d))
  outer_erased f none = refl
  outer_erased f (some d) = rw (erase_copy 0 f)

  -- Erased, the derivative with records is the derivative, node for node.
  pub erase_derivative : (f : Formula) → map_option erase (recorded_derivative s by_state f) ≡ derivative s by_state f
  erase_derivative f = outer_erased f (differentiate_at s by_state 0 f) ∙ rw (erase_differentiate 0 f)

  -- where there is a derivative there are records of it, and the other way about
  pub recorded_there : (f d : Formula) → derivative s by_state f ≡ some d
      → (t : Recorded) × (recorded_derivative s by_state f ≡ some t) × (erase t ≡ d)
  recorded_there f d e = from (recorded_derivative s by_state f) refl (erase_derivative f ∙ e)
    where
      from : (o : Option Recorded) → recorded_derivative s by_state f ≡ o → map_option erase o ≡ some d
          → (t : Recorded) × (recorded_derivative s by_state f ≡ some t) × (erase t ≡ d)
      from none p q = none_some q
      from (some t) p q = (t, p, cc)

  -- as many records as the derivative has nodes
  pub derivative_records_length : (f d : Formula) → derivative s by_state f ≡ some d → length (derivative_records s by_state f) ≡ size d
  unfolding derivative_records
  derivative_records_length f d e =
      let g = recorded_there f d e in
      ap (λ (o : Option Recorded). length (records_of o)) g.1 ∙ records_length g.0 ∙ ap size g.2

-- ---- the list

-- three outer records, those of the formula's copy, those of the derivative by the rules
pub outer_list : (f : Formula) (d : Recorded)
    → records (recorded_with_primal f d) ≡ by_rule outer 0 ∷ by_rule outer 0 ∷ by_rule outer 0 ∷ (numbered 0 (size f) ++ records d)
outer_list f d = rw (append-nil (records (copy 0 f)), append-nil (records d), copy_records 0 f)

pub list_bytes_append : (xs ys : List Record) → list_bytes (xs ++ ys) ≡ list_bytes xs ++ list_bytes ys
unfolding list_bytes
list_bytes_append [] ys = refl
list_bytes_append (x ∷ xs) ys =
    ap (λ (zs : List ℕ). record_bytes x ++ zs) (list_bytes_append xs ys) ∙ sym (append_assoc (record_bytes x) (list_bytes xs) (list_bytes ys))

-- 8 bytes for each record
pub list_bytes_length : (xs : List Record) → length (list_bytes xs) ≡ record_size * length xs
unfolding list_bytes record_bytes
list_bytes_length [] = refl
list_bytes_length (x ∷ xs) = omega (arith, length-append (record_bytes x) (list_bytes xs), list_bytes_length xs)
