-- A whole formula: what its lowering asks, and what stands in the slices after.
use mathlib.Core.Path.{◌≡◌, refl, sym, ap, ap₂, ◌∙◌, subst}
use mathlib.Core.Bool.{Bool, true, false}
use mathlib.Core.List.{List, [], ◌∷◌, ◌++◌, append_assoc, map}
use mathlib.Core.Option.{Option, none, some}
use Prim.Native.Nat.{ℕ, zero, suc, ◌+◌, ◌-◌, ◌*◌, ◌^◌, ◌≤◌, ◌<◌}
use native.Mathlib.Omega.{arith}
use lib.ListN.{length, length-append}
use lib.Dec.{eqb, ltb}
use borrow.Author.Tests.{ltb-false, ltb-true}
use Rattle.formula.specs.Text.{little_endian, word_at, zeros}
use Rattle.formula.specs.Path.{Path, ◌▸◌, placed, root, text}
use Rattle.formula.specs.Formula.{Formula, size}
use Rattle.formula.specs.Node.{tree_in, node_size}
use Rattle.formula.specs.Term.{Term, term}
use Rattle.machine.specs.Check.{Context, Fault, fault, kind}
use Rattle.machine.specs.Lower.{instruction_count, register_count, result_register}
use Rattle.machine.proofs.Size.{narrow}
use Rattle.layout.specs.Opcode.{kind_number}
use Rattle.layout.specs.Image.{below, entry_count, header, image, lists, magic, path_count, slots}
use Rattle.layout.proofs.Lengths.{bounds, image_room, length_below, length_image, length_lists, length_slots}
use Rattle.writer.specs.Over.{over, zeroed}
use Rattle.paths.specs.Table.{FitsPath, Linked, length_in, linked, path_in_table}
use Rattle.writer.proofs.Over.{over_before, over_length, over_over, text_zeroed}
use Rattle.paths.proofs.Climb.{path_length, path_root}
use Rattle.reader.proofs.Past.{word_past}
use Rattle.lower.specs.Bytes.{laid}
use Rattle.lower.specs.Piece.{Says, Sound, context_of, inner_count, is_boolean, kind_if, own_piece, place}
use Rattle.lower.specs.Ready.{Ready}
use Rattle.lower.specs.declared.Layout.{Layout}
use Rattle.lower.specs.declared.Cursor.{Cursor}
use Rattle.lower.specs.declared.Site.{Site}
use Rattle.lower.specs.declared.Value.{Value}
use Rattle.lower.specs.Low.{Low, Done, Faulty}
use Rattle.std.specs.Prelude.{Ok, Err}
use Rattle.refusals.specs.declared.Refusal.{Refusal}
use Rattle.tally.specs.declared.Counts.{Counts}
use Rattle.names.specs.Lines.{symbol_kind}
use Rattle.names.specs.declared.Kind.{Kind}
use Rattle.lower.proofs.Frames.{third_word}
use Rattle.lower.proofs.Compose.{inner_is}
use Rattle.lower.proofs.Branches.{kind_back}
use Rattle.lower.proofs.Says.{Refused, Taken, refused, taken}
use Rattle.compile.specs.Outcome.{Fits, fault_place, answer_to, slice_after}
use Rattle.compile.proofs.Faults.{Near, near}

length_map : (xs : List Kind) → length (map symbol_kind xs) ≡ length xs
length_map [] = refl
length_map (x ∷ xs) = ap suc (length_map xs)

zeroed_all : (p : List ℕ) → zeroed p 0 ≡ zeros (length p)
unfolding zeroed
zeroed_all p = ap zeros (let e : length p - 0 ≡ length p = omega arith in e)

text_some : (p : Path) → 4 ≤ length (text p)
text_some root = omega arith
text_some (p ▸ s) = rw length-append (omega (arith, text_some p))

-- a right record stands in the slice
record_inside : (p : List ℕ) (base k : ℕ) → Linked p base k → base + 12 * k + 8 < length p
unfolding length_in
record_inside p base k N = go (ltb (base + 12 * k + 8) (length p)) refl
  where
    long : 4 ≤ word_at p (base + 12 * k + 8)
    long = omega (arith, path_length p base k N, text_some (path_in_table p base k))

    go : (x : Bool) → ltb (base + 12 * k + 8) (length p) ≡ x → base + 12 * k + 8 < length p
    go true e = ltb-true (base + 12 * k + 8) (length p) e
    go false e = absurd (omega (arith, long, word_past p (base + 12 * k + 8) (omega (arith, ltb-false (base + 12 * k + 8) (length p) e))))

module _ (b : List ℕ) (d m : ℕ) (p : List ℕ) (ks : List Kind) (g : Bool) (n : Counts) (F : Fits b d (length p) m)
    (counted : (n.code ≡ instruction_count (term (tree_in d b 0))) × (n.paths ≡ path_count (term (tree_in d b 0))) × (n.entries ≡ entry_count (term (tree_in d b 0)))) where
  abbrev code : ℕ
  code = n.code

  abbrev records : ℕ
  records = n.paths

  abbrev entries : ℕ
  entries = n.entries

  ec : code ≡ instruction_count (term (tree_in d b 0))
  ec = counted.0

  er : records ≡ path_count (term (tree_in d b 0))
  er = counted.1

  ee : entries ≡ entry_count (term (tree_in d b 0))
  ee = counted.2

  abbrev f : Formula
  f = tree_in d b 0

  abbrev t : Term
  t = term f

  abbrev C : Context
  C = context_of ks g

  abbrev table : ℕ
  table = 32 + 24 * code

  abbrev L : Layout
  L = record { paths = table; lists = table + 12 * records; generated = g }

  abbrev s : Site
  s = record { path = 0; length = 4 }

  abbrev c : Cursor
  c = record { node = 0; reg = 0; code = 0; path = 1; entry = 0 }

  pub all_room : table + 12 * records + 4 * entries ≤ length p
  all_room = omega (arith, length_image C f, image_room C f, F.room, ec, er, ee)

  pub some_record : 1 ≤ records
  some_record = omega (arith, er, inner_is t)

  abbrev O : Option Fault
  O = fault C t root

  module _ (p₁ : List ℕ) (e₁ : p₁ ≡ over p table (little_endian 4 0 ++ little_endian 4 0 ++ little_endian 4 4)) where
    n₁ : length p₁ ≡ length p
    n₁ = ap length e₁ ∙ over_length p table (little_endian 4 0 ++ little_endian 4 0 ++ little_endian 4 4) (omega (arith, all_room, some_record))

    root_long : length_in p₁ table 0 ≡ 4
    unfolding length_in
    root_long =
        let e : table + 12 * 0 + 8 ≡ table + 8 = omega arith in
        ap₂ (λ (x : List ℕ) (i : ℕ). word_at x i) e₁ e ∙ third_word p table 0 0 4 (omega (arith, all_room, some_record)) (omega arith) (omega arith) (omega arith)

    root_linked : linked p₁ table 0 ≡ true
    unfolding linked
    root_linked = ap (λ (x : ℕ). eqb x 4) root_long

    sound : Sound L p₁ 1
    sound zero l = root_linked
    sound (suc k) l = absurd (omega arith)

    pub ready : Ready L p₁ s c (instruction_count t) (inner_count t) (entry_count t)
    ready =
        record {
          code = omega (arith, ec);
          records = omega (arith, er, inner_is t);
          lists = omega (arith, all_room, ee, n₁);
          few = omega (arith, er, inner_is t, bounds f, F.few);
          brief = omega (arith, bounds f, F.few);
          registers = omega arith;
          site = omega arith;
          long = sym root_long;
          short = omega arith;
          sound = sound;
        }

    place_is : place L p₁ s ≡ root
    place_is = path_root p₁ table

    module _ (p₂ : List ℕ) (r : Low) (S : Says (own_piece C t (place L p₁ s) 0 c (0 + node_size * size f)) L c p₁ p₂ r) where
      -- ---- refused

      module _ (x : Refusal) (k : ℕ) (e : r ≡ Faulty x k) where
        pub R : Refused (own_piece C t (place L p₁ s) 0 c (0 + node_size * size f)) L c p₁ p₂ x k
        R = refused _ L c p₁ p₂ r x k S e

        pub is_fault : O ≡ some R.x
        unfolding own_piece
        is_fault = ap (λ (y : Path). fault C t y) (sym place_is) ∙ R.is_fault

        is_near : Near R.x 8192
        is_near = near C t root 8192 (narrow f (omega (arith, F.few))) (omega (arith, F.short)) R.x is_fault

        pub writes : 8192 ≤ m → length p₂ < 2 ^ 63 → (table + 12 * k + 12 < 2 ^ 64) × FitsPath p₂ table k m
        writes h w = (
          omega (arith, record_inside p₂ table k R.linked),
          (R.linked, omega (arith, path_length p₂ table k R.linked, ap (λ (y : Path). length (text y)) R.place, is_near.short)),
        )

        pub fault_answers : (p₃ q q' : List ℕ) → length p₂ ≡ length p → p₃ ≡ zeroed p₂ 0 → q' ≡ placed (some (path_in_table p₂ table k)) q
            → (Err x ≡ answer_to O) × (p₃ ≡ slice_after C f O p) × (q' ≡ placed (fault_place O) q)
        fault_answers p₃ q q' l e₃ eq =
            subst (λ (o : Option Fault). (Err x ≡ answer_to o) × (p₃ ≡ slice_after C f o p) × (q' ≡ placed (fault_place o) q)) (sym is_fault)
            (ap (λ (y : Refusal). Err y) R.number, e₃ ∙ zeroed_all p₂ ∙ ap zeros l, eq ∙ ap (λ (y : Path). placed (some y) q) R.place)

      -- ---- a program

      module _ (v : Value) (z : Cursor) (e : r ≡ Done v z) (kn : ℕ) (ek : kn ≡ kind_number (kind_if v.boolean)) where
        T : Taken (own_piece C t (place L p₁ s) 0 c (0 + node_size * size f)) L c p₁ p₂ v z
        T = taken _ L c p₁ p₂ r v z S e

        no_fault : O ≡ none
        unfolding own_piece
        no_fault = ap (λ (y : Path). fault C t y) (sym place_is) ∙ T.faultless

        abbrev X : List ℕ
        X = slots t 0 1 0 0 0

        abbrev Y : List ℕ
        Y = below t root 0 1

        abbrev Z : List ℕ
        Z = lists t 0

        bytes : p₂ ≡ over (over (over p₁ 32 X) (table + 12) Y) (table + 12 * records) Z
        unfolding own_piece laid
        bytes =
            T.bytes
            ∙ ap (λ (y : Path). over (over (over p₁ 32 X) (table + 12) (below t y 0 1)) (table + 12 * records + 0) Z) place_is
            ∙ ap (λ (i : ℕ). over (over (over p₁ 32 X) (table + 12) Y) i Z) (let w : table + 12 * records + 0 ≡ table + 12 * records = omega arith in w)

        z_reg : z.reg ≡ register_count t
        unfolding own_piece
        z_reg = ap (λ (y : Cursor). y.reg) T.next ∙ (let w : 0 + register_count t ≡ register_count t = omega arith in w)

        v_a : v.a ≡ result_register t 0
        unfolding own_piece
        v_a = ap (λ (y : Value). y.a) T.value

        v_boolean : v.boolean ≡ is_boolean (kind t)
        unfolding own_piece
        v_boolean = ap (λ (y : Value). y.boolean) T.value

        abbrev H : List ℕ
        H =
            little_endian 4 magic ++ little_endian 4 code ++ little_endian 4 z.reg ++ little_endian 4 v.a ++ little_endian 4 (length ks)
            ++ little_endian 4 kn ++ little_endian 4 records ++ little_endian 4 entries

        head_is : H ≡ header C t
        head_is = rw (ec, z_reg, v_a, sym (length_map ks), ek, v_boolean, kind_back (kind t), er, ee)

        len_x : length X ≡ 24 * code
        len_x = length_slots t 0 1 0 0 0 ∙ ap (λ (y : ℕ). 24 * y) (sym ec)

        len_y : length Y + 12 ≡ 12 * records
        len_y = omega (arith, length_below t root 0 1, er, inner_is t)

        len_z : length Z ≡ 4 * entries
        len_z = length_lists t 0 ∙ ap (λ (y : ℕ). 4 * y) (sym ee)

        abbrev R₀ : List ℕ
        R₀ = little_endian 4 0 ++ little_endian 4 0 ++ little_endian 4 4

        assembled : (p₃ : List ℕ) → p₃ ≡ over p₂ 0 H → p₃ ≡ over p 0 (image C f)
        unfolding image slots below lists
        assembled p₃ e₃ =
            let q₁ : over p₁ 32 X ≡ over p 32 (X ++ R₀) =
            ap (λ (y : List ℕ). over y 32 X) (e₁ ∙ ap (λ (i : ℕ). over p i R₀) (let w : table ≡ 32 + length X = omega (arith, len_x) in w))
            ∙ over_before p 32 X R₀ (omega (arith, len_x, all_room, some_record)) in
            let q₂ : over (over p₁ 32 X) (table + 12) Y ≡ over p 32 ((X ++ R₀) ++ Y) =
            ap₂ (λ (y : List ℕ) (i : ℕ). over y i Y) q₁ (let w : table + 12 ≡ 32 + length (X ++ R₀) = omega (arith, len_x, length-append X R₀) in w)
            ∙ over_over p 32 (X ++ R₀) Y (omega (arith, len_x, length-append X R₀, all_room, some_record)) in
            let q₃ : p₂ ≡ over p 32 (((X ++ R₀) ++ Y) ++ Z) =
            bytes ∙ ap₂ (λ (y : List ℕ) (i : ℕ). over y i Z) q₂ (let w : table + 12 * records ≡ 32 + length ((X ++ R₀) ++ Y) = omega (arith, len_x, len_y, length-append X R₀, length-append (X ++ R₀) Y) in w)
            ∙ over_over p 32 ((X ++ R₀) ++ Y) Z (omega (arith, len_x, len_y, length-append X R₀, length-append (X ++ R₀) Y, all_room)) in
            e₃ ∙ ap (λ (y : List ℕ). over y 0 H) q₃
            ∙ over_before p 0 H (((X ++ R₀) ++ Y) ++ Z) (omega (arith, len_x, len_y, len_z, length-append X R₀, length-append (X ++ R₀) Y, length-append ((X ++ R₀) ++ Y) Z, all_room))
            ∙ ap (λ (y : List ℕ). over p 0 y) (ap (λ (y : List ℕ). y ++ (((X ++ R₀) ++ Y) ++ Z)) head_is ∙ same_rest)
          where
            same_rest : header C t ++ (((X ++ R₀) ++ Y) ++ Z) ≡ ((header C t ++ X) ++ (R₀ ++ Y)) ++ Z
            same_rest =
                ap (λ (y : List ℕ). header C t ++ y) (ap (λ (y : List ℕ). y ++ Z) (append_assoc X R₀ Y) ∙ append_assoc X (R₀ ++ Y) Z)
                ∙ sym (append_assoc (header C t ++ X) (R₀ ++ Y) Z ∙ append_assoc (header C t) X ((R₀ ++ Y) ++ Z))

        pub head_room : length p₂ ≡ length p → 32 ≤ length p₂
        head_room l = omega (arith, all_room)

        pub program_answers : (p₃ p₄ q : List ℕ) → p₃ ≡ over p₂ 0 H → p₄ ≡ zeroed p₃ (table + 12 * records + 4 * entries)
            → (Ok tt ≡ answer_to O) × (p₄ ≡ slice_after C f O p) × (q ≡ placed (fault_place O) q)
        program_answers p₃ p₄ q e₃ e₄ =
            subst (λ (o : Option Fault). (Ok tt ≡ answer_to o) × (p₄ ≡ slice_after C f o p) × (q ≡ placed (fault_place o) q)) (sym no_fault) (
              refl,
              e₄ ∙ text_zeroed p p₃ (image C f) (table + 12 * records + 4 * entries) (sym (length_image C f ∙ (let w : 32 + 24 * instruction_count t + 12 * path_count t + 4 * entry_count t ≡ table + 12 * records + 4 * entries = omega (arith, ec, er, ee) in w))) all_room (assembled p₃ e₃),
              refl,
            )
