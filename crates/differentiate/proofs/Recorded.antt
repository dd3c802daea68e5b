-- The derivative of a part with its records: without them it is the derivative, and where the definition has one it is that.
use mathlib.Core.Path.{◌≡◌, refl, sym, ap, ◌∙◌}
use mathlib.Core.Bool.{Bool, true, false, cond}
use mathlib.Core.List.{List, [], ◌++◌, map, append-nil}
use mathlib.Core.Option.{Option, none, some}
use Prim.Native.Nat.{ℕ, zero, suc, ◌+◌, ◌*◌, ◌≤◌}
use native.Mathlib.Omega.{arith}
use native.Mathlib.Numerals.{add-one}
use lib.ListN.{length, get_or}
use Rattle.formula.specs.Text.{half_at}
use Rattle.formula.specs.Formula.{Formula, Formulas, node, number, last, next, count, size, depends, well_formed}
use Rattle.formula.specs.Node.{encode, encode_all, node_bytes, fields_of, node_size}
use Rattle.derivative.specs.Rules.{Parts, Rule}
use Rattle.derivative.specs.Differentiate.{formulas, differentiate, the_rule}
use Rattle.derivative.specs.Records.{Record, Recorded, Recordeds, noted, stop, more, erase, erase_all, records, records_all, by_rule, copied, copy, copies, written_by, arm, recorded_literal, without_symbol, differentiate_at, differentiate_from, record_bytes, record_size, list_bytes}
use Rattle.derivative.specs.Provenance.{numbered}
use Rattle.derivative.proofs.Attributes.{map_option}
use Rattle.derivative.proofs.Homomorphism.{mapped}
use Rattle.derivative.proofs.Erased.{erase_copy, erase_copies, erase_instance, erase_differentiate, copy_records, numbered_append, records_length, list_bytes_append, list_bytes_length}
use Rattle.reader.specs.Read.{is_some}
use Rattle.reader.proofs.Encode.{encode_length}
use Rattle.survey.specs.Derived.{derived, derived_all, parts_of, children_of, or_else, zero_literal}
use Rattle.survey.specs.Table.{tree, nth, number_from, IsChild}
use Rattle.survey.proofs.Derivative.{node_right, next_right, some_of}
use Rattle.survey.proofs.Trees.{count_is}
use Rattle.differentiate.specs.Written.{step, bytes, bytes_all, arms, recorded, recorded_all, recorded_parts, copy_of, recorded_of}

-- ---- without the records

erase_or : (r k : ℕ) (q : Option Rule) (e : Parts Recorded) (z : Recorded)
    → erase (or_else (written_by r k) z q e) ≡ or_else formulas (erase z) q (mapped erase e)
erase_or r k none e z = refl
erase_or r k (some q) e z = erase_instance r k e q

erase_cond : (c : Bool) (x z : Recorded) (y : Formula) → erase x ≡ y → erase (cond c x z) ≡ cond c y (erase z)
erase_cond true x z y e = e
erase_cond false x z y e = refl

parts_path : (a b : Formula) (cs ds es gs : List Formula) → a ≡ b → cs ≡ ds → es ≡ gs
    → ◌≡◌ {A = Parts Formula} (record { own = a; children = cs; diffs = es }) (record { own = b; children = ds; diffs = gs })
parts_path a b cs ds es gs p q r = cc

module _ (s : ℕ) (b : Bool) where
  mutual
    pub erase_recorded : (k : ℕ) (t : Formula) → erase (recorded s b k t) ≡ derived s b t
    erase_recorded k (node h ts) =
        erase_cond (depends s (node h ts)) _ (recorded_literal without_symbol k 0) _
        (erase_or (arm h) k (the_rule s b h ts) _ (recorded_literal without_symbol k 0)
        ∙ ap (λ (e : Parts Formula). or_else formulas zero_literal (the_rule s b h ts) e)
        (parts_path _ _ _ _ _ _ (erase_copy k (node h ts)) (erase_copies (suc k) ts) (erase_recorded_all (suc k) ts)))

    pub erase_recorded_all : (k : ℕ) (ts : Formulas) → map erase (recorded_all s b k ts) ≡ derived_all s b ts
    erase_recorded_all k last = refl
    erase_recorded_all k (next t ts) = rw (erase_recorded k t, erase_recorded_all (k + size t) ts)

  -- a node, its children and their derivatives
  pub erase_parts : (k : ℕ) (t : Formula) → mapped erase (recorded_parts s b k t) ≡ parts_of s b t
  erase_parts k t = parts_path _ _ _ _ _ _ (erase_copy k t) (erase_copies (suc k) (children_of t)) (erase_recorded_all (suc k) (children_of t))

  -- ---- where the definition has a derivative

  mutual
    recorded_right : (k : ℕ) (t : Formula) (d : Recorded) → differentiate_at s b k t ≡ some d → recorded s b k t ≡ d
    recorded_right k (node h ts) d e =
        node_right (written_by (arm h) k) (recorded_literal without_symbol k 0) (depends s (node h ts)) (differentiate_from s b (suc k) ts)
        (recorded_all s b (suc k) ts) (the_rule s b h ts) (copy k (node h ts)) (copies (suc k) ts) d (λ ds p. recorded_all_right (suc k) ts ds p) e

    recorded_all_right : (k : ℕ) (ts : Formulas) (ds : List Recorded) → differentiate_from s b k ts ≡ some ds → recorded_all s b k ts ≡ ds
    recorded_all_right k last ds e = some_of [] ds e
    recorded_all_right k (next t ts) ds e =
        next_right (differentiate_at s b k t) (differentiate_from s b (k + size t) ts) (recorded s b k t) (recorded_all s b (k + size t) ts) ds
        (λ d p. recorded_right k t d p) (λ es p. recorded_all_right (k + size t) ts es p) e

  pub recorded_fine : (k : ℕ) (t : Formula) → is_some (differentiate s b t) ≡ true → differentiate_at s b k t ≡ some (recorded s b k t)
  recorded_fine k t e = go (differentiate_at s b k t) refl (erase_differentiate s b k t)
    where
      go : (o : Option Recorded) → differentiate_at s b k t ≡ o → map_option erase o ≡ differentiate s b t → o ≡ some (recorded s b k t)
      go none p q = let z : ◌≡◌ {A = ℕ} 0 1 = let y : is_some (map_option erase none) ≡ true = ap is_some q ∙ e in cc in absurd (omega arith)
      go (some d) p q = ap some (sym (recorded_right k t d p))

-- ---- child i and its derivative, by their numbers

copy_at : (k : ℕ) (ts : Formulas) (i : ℕ) (t : Formula) (z : Recorded) → nth ts i ≡ some t → get_or (copies k ts) i z ≡ copy (number_from k ts i) t
copy_at k last i t z e = let y : ◌≡◌ {A = ℕ} 0 1 = cc in absurd (omega arith)
copy_at k (next u ts) zero t z e = let q : u ≡ t = cc in ap (copy k) q
copy_at k (next u ts) (suc i) t z e = copy_at (k + size u) ts i t z e

copy_past : (k : ℕ) (ts : Formulas) (i : ℕ) (z : Recorded) → count ts ≤ i → get_or (copies k ts) i z ≡ z
copy_past k last i z h = refl
copy_past k (next u ts) zero z h = absurd (omega arith)
copy_past k (next u ts) (suc i) z h = copy_past (k + size u) ts i z (omega arith)

recorded_at : (s : ℕ) (b : Bool) (k : ℕ) (ts : Formulas) (i : ℕ) (t : Formula) (z : Recorded) → nth ts i ≡ some t
    → get_or (recorded_all s b k ts) i z ≡ recorded s b (number_from k ts i) t
recorded_at s b k last i t z e = let y : ◌≡◌ {A = ℕ} 0 1 = cc in absurd (omega arith)
recorded_at s b k (next u ts) zero t z e = let q : u ≡ t = cc in ap (recorded s b k) q
recorded_at s b k (next u ts) (suc i) t z e = recorded_at s b (k + size u) ts i t z e

recorded_past : (s : ℕ) (b : Bool) (k : ℕ) (ts : Formulas) (i : ℕ) (z : Recorded) → count ts ≤ i → get_or (recorded_all s b k ts) i z ≡ z
recorded_past s b k last i z h = refl
recorded_past s b k (next u ts) zero z h = absurd (omega arith)
recorded_past s b k (next u ts) (suc i) z h = recorded_past s b (k + size u) ts i z (omega arith)

module _ (f : List ℕ) (k i r : ℕ) (c : IsChild f k i r) where
  number_is : number_from (suc k) (children_of (tree f k)) i ≡ r
  number_is = ap (λ (x : ℕ). number_from x (children_of (tree f k)) i) (sym (add-one k)) ∙ c.number

  pub copy_is : copy_of k (tree f k) i ≡ copy r (tree f r)
  copy_is = copy_at (suc k) (children_of (tree f k)) i (tree f r) _ c.is ∙ ap (λ (x : ℕ). copy x (tree f r)) number_is

  pub recorded_is : (s : ℕ) (b : Bool) → recorded_of s b k (tree f k) i ≡ recorded s b r (tree f r)
  recorded_is s b = recorded_at s b (suc k) (children_of (tree f k)) i (tree f r) _ c.is ∙ ap (λ (x : ℕ). recorded s b x (tree f r)) number_is

module _ (f : List ℕ) (k i : ℕ) (w : well_formed (tree f k) ≡ true) (h : half_at f (node_size * k + 2) ≤ i) where
  pub copy_none : copy_of k (tree f k) i ≡ (arms k (tree f k)).node (number 0) []
  copy_none = copy_past (suc k) (children_of (tree f k)) i _ (omega (arith, count_is f k w))

  pub recorded_none : (s : ℕ) (b : Bool) → recorded_of s b k (tree f k) i ≡ (arms k (tree f k)).node (number 0) []
  recorded_none s b = recorded_past s b (suc k) (children_of (tree f k)) i _ (omega (arith, count_is f k w))

-- ---- the bytes

mutual
  unfolding bytes encode

  -- the nodes of a tree are the tree's bytes
  pub bytes_nodes : (t : Recorded) → bytes false t ≡ encode (erase t)
  bytes_nodes (noted r h ts) = ap (λ (x : List ℕ). node_bytes (fields_of h (count (erase_all ts))) ++ x) (bytes_all_nodes ts)

  bytes_all_nodes : (ts : Recordeds) → bytes_all false ts ≡ encode_all (erase_all ts)
  bytes_all_nodes stop = refl
  bytes_all_nodes (more t ts) = rw (bytes_nodes t, bytes_all_nodes ts)

mutual
  unfolding bytes list_bytes

  pub bytes_records : (t : Recorded) → bytes true t ≡ list_bytes (records t)
  bytes_records (noted r h ts) = ap (λ (x : List ℕ). record_bytes r ++ x) (bytes_all_records ts)

  bytes_all_records : (ts : Recordeds) → bytes_all true ts ≡ list_bytes (records_all ts)
  bytes_all_records stop = refl
  bytes_all_records (more t ts) = rw (bytes_records t, bytes_all_records ts) (sym (list_bytes_append (records t) (records_all ts)))

pub record_length : (r : Record) → length (record_bytes r) ≡ record_size
unfolding record_bytes
record_length r = refl

-- a record or a node of 16 bytes for each node
pub bytes_length : (m : Bool) (t : Recorded) → length (bytes m t) ≡ step m * size (erase t)
bytes_length true t = omega (arith, ap length (bytes_records t), list_bytes_length (records t), records_length t)
bytes_length false t = omega (arith, ap length (bytes_nodes t), encode_length (erase t))

-- ---- the records of a copy

pub numbered_next : (k n : ℕ) → list_bytes (numbered k (n + 1)) ≡ list_bytes (numbered k n) ++ record_bytes (by_rule copied (k + n))
unfolding list_bytes
numbered_next k n =
    ap list_bytes (sym (numbered_append k n 1))
    ∙ list_bytes_append (numbered k n) (numbered (k + n) 1)
    ∙ ap (λ (x : List ℕ). list_bytes (numbered k n) ++ x) (append-nil (record_bytes (by_rule copied (k + n))))

count_numbered : (k n : ℕ) → length (numbered k n) ≡ n
count_numbered k zero = refl
count_numbered k (suc n) = ap suc (count_numbered (suc k) n)

pub numbered_length : (k n : ℕ) → length (list_bytes (numbered k n)) ≡ record_size * n
numbered_length k n = list_bytes_length (numbered k n) ∙ ap (λ (x : ℕ). record_size * x) (count_numbered k n)

-- a copy's records are its nodes' numbers, and its nodes the part's
pub copy_numbers : (k : ℕ) (t : Formula) → list_bytes (numbered k (size t)) ≡ bytes true (copy k t)
copy_numbers k t = ap list_bytes (sym (copy_records k t)) ∙ sym (bytes_records (copy k t))

pub copy_nodes : (k : ℕ) (t : Formula) → encode t ≡ bytes false (copy k t)
copy_nodes k t = ap encode (sym (erase_copy k t)) ∙ sym (bytes_nodes (copy k t))
