-- A formula within the limits, lowered into memory that is not the caller's.
use lib.Seq.{length-take-le}
use mathlib.Core.Path.{◌≡◌, refl, ap, ◌∙◌}
use mathlib.Core.Bool.{Bool, false}
use mathlib.Core.List.{List, ◌++◌, append_assoc}
use mathlib.Core.Option.{Option, none, some}
use Prim.Native.Nat.{ℕ, ◌-◌, ◌*◌, ◌%◌, ◌≤◌, ◌<◌}
use native.Mathlib.Omega.{arith}
use lib.ListN.{length, take, get_or, length-append, drop}
use lib.Dec.{eqb}
use Rattle.formula.specs.Text.{zeros}
use Rattle.formula.specs.Operator.{Boolean, Number, ValueKind, same_kind}
use Rattle.formula.specs.Formula.{Formula}
use Rattle.formula.specs.Names.{Symbol}
use Rattle.formula.specs.Node.{tree_in}
use Rattle.formula.specs.Path.{placed, root}
use Rattle.formula.specs.Term.{term}
use Rattle.machine.specs.Check.{Fault, fault, kind}
use Rattle.machine.specs.Compile.{filled, own_context}
use Rattle.layout.specs.Image.{image}
use Rattle.layout.specs.Opcode.{kind_number}
use Rattle.reader.proofs.Trees.{size_pos}
use Rattle.lower.specs.Piece.{context_of}
use Rattle.compile.specs.Outcome.{Fits, answer_to, fault_place, lowered_to, slice_after}
use Rattle.compile.specs.Preparation.{Formed}
use Rattle.std.specs.Prelude.{Result, Ok, Err}
use Rattle.refusals.specs.Refusals.{number_of}
use Rattle.refusals.specs.declared.Refusal.{Refusal}
use Rattle.names.specs.declared.Kind.{Kind}
use Rattle.compile.proofs.Numbers.{own_numbers, told_fault}
use Rattle.compile.proofs.Entries.{all_fit, answer_is, few, long, place_is, slice_is}

module _ (b : List ℕ) (K : List Kind) (f : Formula) (ss : List Symbol) (F : Formed b K f ss) where
  pub small : 15 * length b ≤ 61440
  small = omega (arith, few b f F.formed F.limit, long b f F.formed F.limit)

  one_node : 16 ≤ length b
  one_node = omega (arith, size_pos f, long b f F.formed F.limit)

  -- the kind's byte is in the slice lent for the program, of which `part` is the start
  pub kind_inside : (part own : List ℕ) → length part ≡ length (take (15 * length b) own) → 15 * length b ≤ length own → 20 < length (part ++ drop (15 * length b) own)
  kind_inside part own e h =
      omega (arith, one_node, length-append part (drop (15 * length b) own), length-take-le (15 * length b) own h)

  pub fits_own : (path program : ℕ) → 8192 ≤ path → 15 * length b ≤ program → Fits b 32 program path
  fits_own = all_fit b f F.formed F.limit

  header_kind : (rest : List ℕ) → get_or (image (own_context ss) f ++ rest) 20 0 ≡ kind_number (kind (term f))
  unfolding image
  header_kind rest = go (kind (term f))
    where
      go : (k : ValueKind) → kind_number k % 256 ≡ kind_number k
      go Number = refl
      go Boolean = refl

  boolean_is : (k : ValueKind) → eqb (kind_number k) 1 ≡ same_kind k Boolean
  boolean_is Number = refl
  boolean_is Boolean = refl

  abbrev O : Option Fault
  O = fault (own_context ss) (term f) root

  -- what writing the program came to; own is the slice lent for it, p' its start
  module _ (w : Result Unit Refusal) (q q' own p' : List ℕ) (ew : w ≡ answer_to (fault (context_of K false) (term (tree_in 32 b 0)) root))
      (ep : p' ≡ slice_after (context_of K false) (tree_in 32 b 0) (fault (context_of K false) (term (tree_in 32 b 0)) root) (take (15 * length b) own))
      (eq : q' ≡ placed (fault_place (fault (context_of K false) (term (tree_in 32 b 0)) root)) q) where
    own_kind : (rest : List ℕ) → p' ≡ filled (image (own_context ss) f) (take (15 * length b) own) → get_or (p' ++ rest) 20 0 ≡ kind_number (kind (term f))
    own_kind rest e =
        let z = zeros (length (take (15 * length b) own) - length (image (own_context ss) f)) in
        ap (λ (x : List ℕ). get_or (x ++ rest) 20 0) e ∙ ap (λ (x : List ℕ). get_or x 20 0) (append_assoc (image (own_context ss) f) z rest) ∙ header_kind (z ++ rest)

    kind_at : (o : Option Fault) (rest : List ℕ) → w ≡ Ok tt → w ≡ answer_to o → p' ≡ slice_after (own_context ss) f o (take (15 * length b) own)
        → Ok (eqb (get_or (p' ++ rest) 20 0) 1) ≡ lowered_to f o
    kind_at none rest h a c = ap (λ (x : ℕ). Ok (eqb x 1)) (own_kind rest c) ∙ ap (λ (x : Bool). Ok x) (boolean_is (kind (term f)))
    kind_at (some x) rest h a c = absurd (let z : ◌≡◌ {A = ℕ} 0 1 = cc in omega arith)

    fault_at : (o : Option Fault) (n : Refusal) → w ≡ Err n → w ≡ answer_to o → Err n ≡ lowered_to f o
    fault_at none n h a = absurd (let z : ◌≡◌ {A = ℕ} 0 1 = cc in omega arith)
    fault_at (some x) n h a = cc

    path_is : q' ≡ placed (fault_place O) q
    path_is = place_is b f F.formed F.limit K ss F.listed w q q q' (take (15 * length b) own) p' refl ew ep eq

    answer_to_own : w ≡ answer_to O
    answer_to_own = answer_is b f F.formed F.limit K ss F.listed w q q q' (take (15 * length b) own) p' refl ew ep eq

    pub lowered_kind : (rest : List ℕ) → w ≡ Ok tt → (Ok (eqb (get_or (p' ++ rest) 20 0) 1) ≡ lowered_to f O) × (q' ≡ placed (fault_place O) q)
    lowered_kind rest h =
        (kind_at O rest h answer_to_own (slice_is b f F.formed F.limit K ss F.listed w q q q' (take (15 * length b) own) p' refl ew ep eq), path_is)

    pub lowered_fault : (n : Refusal) → w ≡ Err n → (Err n ≡ lowered_to f O) × (q' ≡ placed (fault_place O) q)
    lowered_fault n h = (fault_at O n h answer_to_own, path_is)

    -- its number is that of the fault
    pub lowered_number : (n : Refusal) → w ≡ Err n → ((x : Fault) × (O ≡ some x) × (number_of n ≡ x.number))
    lowered_number n h = told_fault O n (own_numbers f ss (Err n) (fault_at O n h answer_to_own))
