-- The whole derivative, and how a caller comes to it.
use mathlib.Core.Path.{◌≡◌, refl, sym, ap, ◌∙◌, subst}
use mathlib.Core.Bool.{Bool, true, false}
use mathlib.Core.List.{List, [], ◌++◌, append_assoc, append-nil}
use mathlib.Core.Option.{Option, none, some}
use Prim.Native.Nat.{ℕ, ◌*◌, ◌≤◌, min}
use native.Mathlib.Omega.{arith}
use lib.ListN.{length}
use lib.Dec.{leb}
use borrow.Author.Tests.{leb-true}
use Rattle.formula.specs.Formula.{Formula, size, depth, within}
use Rattle.formula.specs.Node.{encode, tree_at, formula_of}
use Rattle.derivative.specs.Differentiate.{differentiate, derivative, and_then, with_primal}
use Rattle.derivative.specs.Records.{Recorded, erase, copy, recorded_literal, outer, recorded_with_primal, recorded_derivative, records_of, derivative_records, list_bytes}
use Rattle.derivative.specs.Attributes.{Attributes, Survey, attributes_of, survey, primal_attributes}
use Rattle.derivative.proofs.Attributes.{survey_right, map_option}
use Rattle.derivative.proofs.Erased.{erase_copy}
use Rattle.reader.specs.Read.{is_some, limited}
use Rattle.reader.proofs.Heads.{and_first, and_second}
use Rattle.reader.proofs.Scan.{whole}
use Rattle.survey.specs.Derived.{derived}
use Rattle.std.specs.Prelude.{Some}
use Rattle.survey.specs.Table.{tree, Room, Filled, found, reading, readings}
use Rattle.survey.specs.declared.Row.{Row}
use Rattle.survey.specs.Worked.{Capped}
use Rattle.survey.specs.declared.Attributes as Declared
use Rattle.survey.proofs.Capped.{capped_tree}
use Rattle.survey.specs.declared.Found.{Found}
use Rattle.survey.proofs.Derivative.{fine_some}
use Rattle.differentiate.specs.Written.{Known, Job, step, bytes, outer_node, primal_bytes, recorded, asked, Writes}
use Rattle.differentiate.proofs.Lists.{as_text}
use Rattle.differentiate.proofs.Recorded.{erase_recorded, recorded_fine, bytes_nodes, bytes_records, bytes_length}

some_of : (a b : Formula) → ◌≡◌ {A = Option Formula} (some a) (some b) → a ≡ b
some_of a b e = cc

-- where there is a derivative it is the written one
of_fine : (s : ℕ) (b : Bool) (t : Formula) (o : Option Formula) → differentiate s b t ≡ o → is_some (and_then o (λ d. some (with_primal t d))) ≡ true → is_some o ≡ true
of_fine s b t none p e = e
of_fine s b t (some d) p e = refl

derivative_is : (s : ℕ) (b : Bool) (t : Formula) → is_some (derivative s b t) ≡ true → derivative s b t ≡ some (with_primal t (derived s b t))
derivative_is s b t e =
    ap (λ (o : Option Formula). and_then o (λ d. some (with_primal t d))) (fine_some s b t (of_fine s b t (differentiate s b t) refl e))

pub written_is : (s : ℕ) (b : Bool) (t d : Formula) → is_some (derivative s b t) ≡ true → derivative s b t ≡ some d → with_primal t (derived s b t) ≡ d
written_is s b t d e p = some_of (with_primal t (derived s b t)) d (sym (derivative_is s b t e) ∙ p)

nested : (a b l x d : List ℕ) → (((a ++ b) ++ l) ++ x) ++ d ≡ a ++ ((b ++ (l ++ (x ++ []))) ++ (d ++ []))
nested a b l x d = simp (append_assoc, append-nil)

primal_text : (m : Bool) (t : Formula) (d : Recorded) → primal_bytes m 0 t ++ bytes m d ≡ bytes m (recorded_with_primal t d)
unfolding bytes
primal_text m t d = nested (outer_node m 0 4 0 2) (outer_node m 0 4 2 2) (bytes m (recorded_literal outer 0 0)) (bytes m (copy 0 t)) (bytes m d)

module _ (m : Bool) (s : ℕ) (b : Bool) (f : List ℕ) (T : List Row) (levels : ℕ) (out : List ℕ) (j : Job m s b f T levels out) where
  abbrev t : Formula
  t = tree f 0

  abbrev D : Recorded
  D = recorded s b 0 t

  erase_whole : erase (recorded_with_primal t D) ≡ with_primal t (derived s b t)
  erase_whole = rw (erase_copy 0 t, erase_recorded s b 0 t)

  pub job_room : length (primal_bytes m 0 t ++ bytes m D) ≤ length out
  job_room =
      let h = j.room (with_primal t (derived s b t)) (derivative_is s b t j.fine) in
      let e : length (primal_bytes m 0 t ++ bytes m D) ≡ step m * size (with_primal t (derived s b t)) =
      ap length (primal_text m t D) ∙ bytes_length m (recorded_with_primal t D) ∙ ap (λ (x : Formula). step m * size x) erase_whole in
      subst (λ (x : ℕ). x ≤ length out) (sym e) h

  recorded_whole : recorded_derivative s b t ≡ some (recorded_with_primal t D)
  recorded_whole =
      ap (λ (o : Option Recorded). and_then o (λ d. some (recorded_with_primal t d))) (recorded_fine s b 0 t (of_fine s b t (differentiate s b t) refl j.fine))

  asked_text : (x : Bool) (d : Formula) → derivative s b t ≡ some d → bytes x (recorded_with_primal t D) ≡ asked x (derivative_records s b t) d
  unfolding derivative_records
  asked_text true d p = bytes_records (recorded_with_primal t D) ∙ ap (λ (o : Option Recorded). list_bytes (records_of o)) (sym recorded_whole)
  asked_text false d p = bytes_nodes (recorded_with_primal t D) ∙ ap encode (erase_whole ∙ written_is s b t d j.fine p)

  pub job_done : (out' : List ℕ) (r : ℕ) → Writes (primal_bytes m 0 t ++ bytes m D) out out' r → (d : Formula) → derivative s b t ≡ some d
      → Writes (asked m (derivative_records s b t) d) out out' r
  job_done out' r w d p = as_text _ _ _ _ _ (primal_text m t D ∙ asked_text m d p) w

-- ---- from the answers of the readers and of the survey

-- a formula within the limits, and a table of 256 rows
pub room_of : (f : List ℕ) (T : List Row) → is_some (formula_of f) ≡ true → within 256 32 (tree_at f 0) ≡ true → 256 ≤ length T → Room f T 0 32
unfolding tree
room_of f T e w l =
    let h = whole f e in
    let n = leb-true (size (tree_at f 0)) 256 (and_first (leb (size (tree_at f 0)) 256) (leb (depth (tree_at f 0)) 32) w) in
    let d = leb-true (depth (tree_at f 0)) 32 (and_second (leb (size (tree_at f 0)) 256) (leb (depth (tree_at f 0)) 32) w) in
    record { formed = h.0; deep = d; long = omega (arith, n) }

pub known_of : (s : ℕ) (b : Bool) (f : List ℕ) (T T' : List Row) (levels : ℕ) → Room f T 0 levels → length T' ≡ length T → Filled s b f T T' 0 → Known s b f T' 0
known_of s b f T T' levels r l i =
    record {
      owned = record { formed = r.formed; long = omega (arith, r.long); own = λ j x y. i.own j x y };
      survey = λ j x y. i.survey j x y;
    }

some_yes : (a : Attributes) (o : Option Formula) → some a ≡ map_option attributes_of o → (is_some o ≡ true)
some_yes a none e = let z : ◌≡◌ {A = ℕ} 0 1 = cc in absurd (omega arith)
some_yes a (some x) e = refl

attributes_yes : (a : Attributes) (o : Option Formula) (d : Formula) → some a ≡ map_option attributes_of o → o ≡ some d → a ≡ attributes_of d
attributes_yes a o d e p = cc

-- what the survey found, where it is fine and the whole derivative is within the limit
module _ (s : ℕ) (b : Bool) (f : List ℕ) (T T' : List Row) (levels : ℕ) (room : Room f T 0 levels) (l : length T' ≡ length T) (i : Filled s b f T T' 0)
    (r : Found) (e : found r ≡ survey s b (tree f 0)) (diff : Declared.Attributes) (fine : r.diff ≡ Some diff) where
  abbrev u : Formula
  u = tree f 0

  found_diff : some (reading diff) ≡ map_option attributes_of (differentiate s b u)
  found_diff = sym (ap readings fine) ∙ ap (λ (x : Survey). x.diff) (e ∙ survey_right s b u)

  is_fine : is_some (derivative s b u) ≡ true
  is_fine = ap (λ (o : Option Formula). is_some (and_then o (λ d. some (with_primal u d)))) (fine_some s b u (some_yes (reading diff) (differentiate s b u) found_diff))

  pub sized : (n : ℕ) → n ≡ (primal_attributes (reading r.own) (reading diff)).nodes → (d : Formula) → derivative s b u ≡ some d → n ≡ min 16385 (size d)
  sized n p d q =
      let own : reading r.own ≡ attributes_of u = ap (λ (x : Survey). x.own) (e ∙ survey_right s b u) in
      let df : reading diff ≡ attributes_of (derived s b u) =
      attributes_yes (reading diff) (differentiate s b u) (derived s b u) found_diff (fine_some s b u (some_yes (reading diff) (differentiate s b u) found_diff)) in
      let w = written_is s b u d is_fine q in
      p ∙ ap (λ (x : Attributes). (primal_attributes x (reading diff)).nodes) own ∙ ap (λ (x : Attributes). (primal_attributes (attributes_of u) x).nodes) df
      ∙ omega (arith, ap size w)

  pub job_of : (m : Bool) (n : ℕ) (out : List ℕ) → n ≡ (primal_attributes (reading r.own) (reading diff)).nodes → n ≤ 16384 → step m * n ≤ length out
      → Job m s b f T' levels out
  job_of m n out p h k =
      record {
        known = known_of s b f T T' levels room l i;
        deep = room.deep;
        fine = is_fine;
        room = λ d q. subst (λ (x : ℕ). step m * x ≤ length out) (let e = sized n p d q in omega arith) k;
      }

-- what the survey found is within the caps
capped_option : (o : Option Formula) (a : Declared.Attributes) → some (reading a) ≡ map_option attributes_of o → Capped a
capped_option none a e = let z : ◌≡◌ {A = ℕ} 0 1 = cc in absurd (omega arith)
capped_option (some d) a e = let q : reading a ≡ attributes_of d = cc in capped_tree a d q

module _ (s : ℕ) (b : Bool) (t : Formula) (r : Found) (e : found r ≡ survey s b t) where
  pub own_capped : Capped r.own
  own_capped = capped_tree r.own t (ap (λ (x : Survey). x.own) (e ∙ survey_right s b t))

  pub diff_capped : (d : Declared.Attributes) → r.diff ≡ Some d → Capped d
  diff_capped d f = capped_option (differentiate s b t) d (sym (ap readings f) ∙ ap (λ (x : Survey). x.diff) (e ∙ survey_right s b t))

-- a formula within the limits, as the reader says it
pub room_from : (f : List ℕ) (T : List Row) → is_some (formula_of f) ≡ true → limited 256 32 (formula_of f) ≡ true → 256 ≤ length T → Room f T 0 32
room_from f T e w l = room_of f T e (sym (ap (λ (o : Option Formula). limited 256 32 o) (whole f e).2) ∙ w) l
