-- The derivative tree is written, read again and lowered.
use mathlib.Core.Path.{◌≡◌, sym, ap, ap₂, ◌∙◌}
use mathlib.Core.Bool.{Bool, true}
use mathlib.Core.List.{List, ◌++◌}
use mathlib.Core.Option.{Option, none, some}
use Prim.Native.Nat.{ℕ, ◌-◌, ◌*◌, ◌/◌, ◌≤◌}
use native.Mathlib.Nat.{le_refl}
use native.Mathlib.Omega.{arith}
use lib.ListN.{length, take, drop, length-append, length-drop}
use lib.Seq.{length-take-le, take_at}
use lib.Dec.{leb}
use borrow.Author.Tests.{leb-true}
use Rattle.formula.specs.Text.{zeros}
use Rattle.formula.specs.Formula.{Formula, depth, size, well_formed}
use Rattle.formula.specs.Names.{Symbol}
use Rattle.formula.specs.Node.{encode, formula_of, tree_in, node_size}
use Rattle.formula.specs.Path.{placed, root}
use Rattle.formula.specs.Term.{term}
use Rattle.machine.specs.Check.{Context, Fault, fault}
use Rattle.machine.specs.Compile.{filled, own_context}
use Rattle.machine.specs.Paths.{longest_path}
use Rattle.layout.specs.Image.{image}
use Rattle.reader.specs.Writable.{writable}
use Rattle.reader.proofs.Bytes.{Bytes}
use Rattle.reader.proofs.Encode.{encode_length, formula_encode, writable_tree}
use Rattle.reader.proofs.Heads.{and_first, and_second}
use Rattle.reader.proofs.Scan.{formula_in}
use Rattle.writer.specs.Over.{zeroed}
use Rattle.lower.specs.Piece.{context_of}
use Rattle.compile.specs.Outcome.{answer_to, Fits, fault_place, slice_after}
use Rattle.compile.proofs.Entries.{few, same_context}
use Rattle.derivative.specs.Differentiate.{derivative}
use Rattle.derivative.specs.Records.{derivative_records, list_bytes, record_size}
use Rattle.derivative.specs.Derive.{by_state, generated_context}
use Rattle.derivative.proofs.Erased.{derivative_records_length, list_bytes_length}
use Rattle.derivative.proofs.Compiles.{derivative_compiles}
use Rattle.derivative.proofs.Paths.{derivative_paths}
use Rattle.survey.specs.Table.{tree}
use Rattle.differentiate.specs.Written.{Writes}
use Rattle.compile.specs.Preparation.{Formed}
use Rattle.std.specs.Prelude.{Result, Ok}
use Rattle.refusals.specs.declared.Refusal.{Refusal}
use Rattle.names.specs.declared.Kind.{Kind}
use Rattle.derive.specs.Outcome.{Derives}
use Rattle.derive.proofs.Parts.{tree_is}
use Rattle.derive.proofs.Writable.{derivative_writable}

-- a formula that bytes hold can be written
pub held_writable : (b : List ℕ) (f : Formula) → Bytes b → formula_of b ≡ some f → writable f ≡ true
held_writable b f bytes e =
    let i = formula_in b f (depth f) e (le_refl (depth f)) in
    sym (ap writable i.0) ∙ writable_tree b bytes (depth f) 0 (ap well_formed i.0 ∙ i.1)

-- what is written at the start of a slice, zero after it
module _ (x t t₁ t₂ : List ℕ) (n : ℕ) (room : length x ≤ length t) (W : Writes x t t₁ n) (e : t₂ ≡ zeroed t₁ n) where
  pub same_long : length t₁ ≡ length t
  same_long = ap length W.held ∙ length-append x (drop (length x) t) ∙ omega (arith, length-drop (length x) t)

  pub written_inside : n ≤ length t₁
  written_inside = omega (arith, W.count, same_long)

  pub filled_with : t₂ ≡ filled x t
  unfolding zeroed
  filled_with =
      let z : length t₁ - n ≡ length t - length x = omega (arith, same_long, W.count) in
      e ∙ ap₂ (λ (y : List ℕ) (k : ℕ). y ++ zeros k) (ap (take n) W.held ∙ take_at x (drop (length x) t) n (sym W.count)) z

module _ (b : List ℕ) (K : List Kind) (s : ℕ) (st : Bool) (program : ℕ) (f : Formula) (ss : List Symbol) (d : Formula) (D : Derives b K s st program f ss d) where
  G : Formed b K f ss
  G = D.given.given

  pub derives_tree : derivative s st (tree b 0) ≡ some d
  derives_tree = ap₂ (λ (c : Bool) (g : Formula). derivative s c g) D.given.is_state (tree_is b f G.formed G.limit) ∙ D.derives

  pub derives_records : derivative_records s st (tree b 0) ≡ derivative_records s (by_state ss s) f
  derives_records = ap₂ (λ (c : Bool) (g : Formula). derivative_records s c g) D.given.is_state (tree_is b f G.formed G.limit)

  -- the room for the records
  pub records_room : (n : ℕ) → record_size * size d ≤ n → length (list_bytes (derivative_records s st (tree b 0))) ≤ n
  records_room n h = omega (arith, list_bytes_length (derivative_records s st (tree b 0)), derivative_records_length s st (tree b 0) d derives_tree)

  few_nodes : size d ≤ 16384
  few_nodes = leb-true (size d) 16384 (and_first (leb (size d) 16384) (leb (depth d) 128) D.limit)

  few_levels : depth d ≤ 128
  few_levels = leb-true (depth d) 128 (and_second (leb (size d) 16384) (leb (depth d) 128) D.limit)

  module _ (bytes : Bytes b) where
    pub derivative_read : formula_of (encode d) ≡ some d
    derivative_read = formula_encode d (derivative_writable s (by_state ss s) f d (held_writable b f bytes G.formed) D.derives)

    module _ (t t₁ t₂ : List ℕ) (n : ℕ) (room : node_size * size d ≤ length t) (W : Writes (encode d) t t₁ n) (e : t₂ ≡ zeroed t₁ n) where
      abbrev l : ℕ
      l = length (encode d)

      n_is : n ≡ node_size * size d
      n_is = W.count ∙ encode_length d

      fits_in : l ≤ length t
      fits_in = omega (arith, encode_length d)

      pub inside_first : n ≤ length t₁
      inside_first = written_inside (encode d) t t₁ t₂ n fits_in W e

      pub tree_filled : t₂ ≡ filled (encode d) t
      tree_filled = filled_with (encode d) t t₁ t₂ n fits_in W e

      pub first_part : take n t₂ ≡ encode d
      first_part = ap (take n) tree_filled ∙ take_at (encode d) (zeros (length t - l)) n (sym W.count)

      pub inside : n ≤ length t₂
      inside = omega (arith, ap length tree_filled, length-append (encode d) (zeros (length t - l)), W.count)

      pub counted : n ≡ length (take n t₂)
      counted = sym (length-take-le n t₂ inside)

      pub nodes : n / 16 ≡ size d
      nodes = omega (arith, n_is)

      tree_back : (tree_in 128 (take n t₂) 0 ≡ d) × (well_formed d ≡ true)
      tree_back =
          let i = formula_in (encode d) d 128 derivative_read few_levels in
          (ap (λ (x : List ℕ). tree_in 128 x 0) first_part ∙ i.0, i.1)

      pub fits : (path : ℕ) → 8192 ≤ path → Fits (take n t₂) 128 program path
      fits path h =
          let B = tree_back.0 in
          let p = derivative_paths (own_context ss) s (by_state ss s) f d D.given.faultless D.given.number (few b f G.formed G.limit) D.derives few_levels in
          record {
            well = ap well_formed B ∙ tree_back.1;
            few = omega (arith, ap size B, few_nodes);
            room = omega (arith, ap size B, D.room);
            places = h;
            short = omega (arith, ap (λ (x : Formula). longest_path (term x)) B, p);
          }

      abbrev C : Context
      C = context_of K true

      abbrev O : Option Fault
      O = fault C (term (tree_in 128 (take n t₂) 0)) root

      same : C ≡ generated_context ss
      same = same_context K ss true G.listed

      faultless : O ≡ none
      faultless =
          ap₂ (λ (x : Context) (g : Formula). fault x (term g) root) same tree_back.0
          ∙ (derivative_compiles (own_context ss) s (by_state ss s) f d D.given.faultless D.given.number D.derives).0

      pub wrote : (q q' p p' : List ℕ) → p' ≡ slice_after C (tree_in 128 (take n t₂) 0) O p → q' ≡ placed (fault_place O) q
          → (q' ≡ q) × (p' ≡ filled (image (generated_context ss) d) p)
      wrote q q' p p' ep eq = (
        eq ∙ ap (λ (o : Option Fault). placed (fault_place o) q) faultless,
        ep ∙ ap (λ (o : Option Fault). slice_after C (tree_in 128 (take n t₂) 0) o p) faultless
            ∙ ap₂ (λ (x : Context) (g : Formula). filled (image x g) p) same tree_back.0,
      )

      -- and the program has no fault
      pub accepted : (w : Result Unit Refusal) → w ≡ answer_to O → w ≡ Ok tt
      accepted w e = e ∙ ap answer_to faultless
