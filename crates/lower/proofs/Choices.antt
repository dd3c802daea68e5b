-- What lowering the arms of a condition answers.
use mathlib.Core.Path.{◌≡◌, refl, sym, ap, ap₂, ◌∙◌, subst}
use mathlib.Core.Bool.{Bool, true, false, cond, not, ◌&&◌, ◌||◌}
use mathlib.Core.List.{List, ◌++◌}
use mathlib.Core.Option.{none, some}
use Prim.Native.Nat.{ℕ, ◌+◌, ◌*◌, ◌≤◌}
use native.Mathlib.Omega.{arith}
use lib.ListN.{length, length-append}
use Rattle.refusals.specs.declared.Refusal.TheVariants.{WrongType, Unsupported}
use Rattle.refusals.specs.declared.Refusal.{Refusal}
use Rattle.formula.specs.Operator.{Boolean, Number, ValueKind, same_kind}
use Rattle.formula.specs.Path.{Path, ◌▸◌, else_arm, then_arm}
use Rattle.formula.specs.Term.{Term}
use Rattle.machine.specs.Check.{Context, Fault, dynamic, fault, kind}
use Rattle.machine.specs.Lower.{instruction_count, register_count, result_register}
use Rattle.layout.specs.Image.{below, entry_count, path_count, path_record, slot}
use Rattle.layout.proofs.Lengths.{length_below, length_lists, length_slots}
use Rattle.writer.specs.Over.{over}
use Rattle.writer.proofs.Over.{over_length}
use Rattle.lower.specs.Bytes.{Chunk, laid, written}
use Rattle.lower.specs.Piece.{Kept, Piece, Says, Sound, arms_answer, arms_bytes, branch_piece, is_boolean, kind_if, place, term_piece}
use Rattle.lower.specs.Ready.{Ready}
use Rattle.lower.specs.declared.Layout.{Layout}
use Rattle.lower.specs.declared.Cursor.{Cursor}
use Rattle.lower.specs.declared.Site.{Site}
use Rattle.lower.specs.declared.Value.{Value}
use Rattle.lower.specs.Low.{Low, Done, Faulty}
use Rattle.lower.proofs.Laid.{laid_length}
use Rattle.lower.proofs.Frames.{Same, same_below, same_linked, same_then}
use Rattle.lower.proofs.Says.{Refused, Taken, here, says_done, says_fault}
use Rattle.lower.proofs.Ends.{not_false, not_true}
use Rattle.lower.proofs.Keeps.{kept_code, kept_here, kept_then}
use Rattle.lower.proofs.Compose.{fewer_registers, fits_room, kept_written, place_same, ready_from, refused_up, same_written}
use Rattle.lower.proofs.Branches.{kind_back}
use Rattle.lower.proofs.Arms.{both_arms, first_arm}

same_of : (a b : ValueKind) → same_kind (kind_if (is_boolean b)) (kind_if (is_boolean a)) ≡ same_kind b a
same_of a b = rw (kind_back a, kind_back b)

same_flip : (a b : ValueKind) → same_kind a b ≡ same_kind b a
same_flip Number Number = refl
same_flip Number Boolean = refl
same_flip Boolean Number = refl
same_flip Boolean Boolean = refl

-- the bytes of both arms, where these end as they should
chunk_of : (ks : Context) (y z : Term) (v : Value) (P : Path) (k : ℕ) (c : Cursor) (Q : Path) (vy vz : Value) (e h : Cursor) (n₁ n₂ : ℕ)
    → vy.a ≡ result_register y (c.reg + 1) → vz.a ≡ result_register z (e.reg + 2) → h.code ≡ e.code + 2 + instruction_count z → Q ≡ P
    → e.reg ≡ c.reg + 1 + register_count y → e.code ≡ c.code + 1 + instruction_count y → e.path ≡ c.path + path_count y → e.entry ≡ c.entry + entry_count y
    → let Y = term_piece ks y (P ▸ then_arm) k (record { node = c.node; reg = c.reg + 1; code = c.code + 1; path = c.path; entry = c.entry }) n₁ in
    let Z = term_piece ks z (Q ▸ else_arm) k (record { node = e.node; reg = e.reg + 2; code = e.code + 2; path = e.path; entry = e.entry }) n₂ in
    record {
      code = slot 3 0 c.reg v.a 0 (e.code + 2) k ++ Y.chunk.code ++ slot 2 0 e.reg vy.a 0 0 k ++ slot 4 0 (e.reg + 1) 0 0 (h.code + 1) k ++ Z.chunk.code ++ slot 2 0 e.reg vz.a 0 0 k;
      records = Y.chunk.records ++ Z.chunk.records;
      lists = Y.chunk.lists ++ Z.chunk.lists;
    } ≡ (branch_piece ks v y z P k c n₂).chunk
unfolding branch_piece term_piece
chunk_of ks y z v P k c Q vy vz e h n₁ n₂ y_a z_a z_code same_place is_reg is_code is_path is_entry =
    rw (y_a, z_a, z_code, same_place, is_reg, is_code, is_path, is_entry)

-- the arms y and z of a condition with the value v, with room for both; n₁ and n₂ are where they end in the formula
pub record Arms (L : Layout) (p : List ℕ) (s : Site) (c : Cursor) : Type 0 where
  pub ks : Context
  pub g : ks.generated ≡ L.generated
  pub y : Term
  pub z : Term
  pub v : Value
  pub n₁ : ℕ
  pub n₂ : ℕ
  pub R : Ready L p s c (4 + instruction_count y + instruction_count z) (path_count y + path_count z) (entry_count y + entry_count z)

abbrev pub arms : {L : Layout} {p : List ℕ} {s : Site} {c : Cursor} (ks : Context) (g : ks.generated ≡ L.generated) (y : Term) (z : Term) (v : Value) (n₁ : ℕ) (n₂ : ℕ) (R : Ready L p s c (4 + instruction_count y + instruction_count z) (path_count y + path_count z) (entry_count y + entry_count z)) → Arms L p s c
arms ks g y z v n₁ n₂ R = record { ks = ks; g = g; y = y; z = z; v = v; n₁ = n₁; n₂ = n₂; R = R }

module _ {L : Layout} {p : List ℕ} {s : Site} {c : Cursor} (A : Arms L p s c) where
  abbrev ks : Context
  ks = A.ks

  abbrev g : ks.generated ≡ L.generated
  g = A.g

  abbrev y : Term
  y = A.y

  abbrev z : Term
  z = A.z

  abbrev v : Value
  v = A.v

  abbrev n₁ : ℕ
  n₁ = A.n₁

  abbrev n₂ : ℕ
  n₂ = A.n₂

  abbrev R : Ready L p s c (4 + instruction_count y + instruction_count z) (path_count y + path_count z) (entry_count y + entry_count z)
  R = A.R

  abbrev P : Path
  P = place L p s

  abbrev k : ℕ
  k = s.path

  abbrev W : Piece
  W = branch_piece ks v y z P k c n₂

  pub not_boolean : v.boolean ≡ false → Says W L c p p (Faulty WrongType k)
  unfolding branch_piece
  not_boolean e = here L p s c _ _ _ R W 7 (rw e)

  module _ (tb : v.boolean ≡ true) (u : Bool) (eu : u ≡ not (L.generated || not (true && v.dynamic))) where
    eu' : u ≡ not (ks.generated || not v.dynamic)
    eu' = eu ∙ ap (λ (x : Bool). not (x || not v.dynamic)) (sym g)

    pub unsupported_here : u ≡ true → Says W L c p p (Faulty Unsupported k)
    unfolding branch_piece
    unsupported_here t = here L p s c _ _ _ R W 8 (rw (tb, not_true (ks.generated || not v.dynamic) u eu' t))

    may_vary : u ≡ false → (ks.generated || not v.dynamic) ≡ true
    may_vary t = not_false (ks.generated || not v.dynamic) u eu' t

  -- the condition is Boolean, and may vary as it does
  pub record Begun : Type 0 where
    pub tb : v.boolean ≡ true
    pub u : Bool
    pub eu : u ≡ not (L.generated || not (true && v.dynamic))
    pub tu : u ≡ false

  abbrev pub begun : (tb : v.boolean ≡ true) (u : Bool) (eu : u ≡ not (L.generated || not (true && v.dynamic))) (tu : u ≡ false) → Begun
  begun tb u eu tu = record { tb = tb; u = u; eu = eu; tu = tu }

  module _ (B : Begun) where
    abbrev tb : v.boolean ≡ true
    tb = B.tb

    fine : (ks.generated || not v.dynamic) ≡ true
    fine = may_vary tb B.u B.eu B.tu

    -- ---- the first arm

    abbrev c₁ : Cursor
    c₁ = record { node = c.node; reg = c.reg + 1; code = c.code + 1; path = c.path; entry = c.entry }

    abbrev Y : Piece
    Y = term_piece ks y (P ▸ then_arm) k c₁ n₁

    pub ready_first : Ready L p s c₁ (instruction_count y) (path_count y) (entry_count y)
    ready_first =
        ready_from R p c₁ _ _ _ (λ i b e. refl) refl (omega arith) (omega arith) (omega arith) (omega arith) (omega (arith, R.registers)) R.sound

    pub first_refused : (p₁ : List ℕ) (r : Low) (m : Refusal) (j : ℕ) → Refused Y L c₁ p p₁ m j → r ≡ Faulty m j → Says W L c p p₁ r
    first_refused p₁ r m j F e = refused_up c p r W F (kept_then (kept_here L c p) F.kept (omega arith) (omega arith) (omega arith)) e up
      where
        up : (x : Fault) → Y.fault ≡ some x → W.fault ≡ some x
        up x f = unfold branch_piece term_piece in rw (tb, fine, f)

    -- ---- the second arm

    -- the first arm is lowered
    pub record First : Type 0 where
      pub p₁ : List ℕ
      pub vy : Value
      pub e : Cursor
      pub T : Taken Y L c₁ p p₁ vy e

    abbrev pub first : (p₁ : List ℕ) (vy : Value) (e : Cursor) (T : Taken Y L c₁ p p₁ vy e) → First
    first p₁ vy e T = record { p₁ = p₁; vy = vy; e = e; T = T }

    module _ (F : First) where
      abbrev p₁ : List ℕ
      p₁ = F.p₁

      abbrev vy : Value
      vy = F.vy

      abbrev e : Cursor
      e = F.e

      abbrev T : Taken Y L c₁ p p₁ vy e
      T = F.T

      pub is_node : e.node ≡ n₁
      unfolding term_piece
      is_node = ap (λ (x : Cursor). x.node) T.next

      pub is_reg : e.reg ≡ c.reg + 1 + register_count y
      unfolding term_piece
      is_reg = ap (λ (x : Cursor). x.reg) T.next

      pub is_code : e.code ≡ c.code + 1 + instruction_count y
      unfolding term_piece
      is_code = ap (λ (x : Cursor). x.code) T.next

      pub is_path : e.path ≡ c.path + path_count y
      unfolding term_piece
      is_path = ap (λ (x : Cursor). x.path) T.next

      pub is_entry : e.entry ≡ c.entry + entry_count y
      unfolding term_piece
      is_entry = ap (λ (x : Cursor). x.entry) T.next

      len_y : (length Y.chunk.code ≡ 24 * instruction_count y) × (length Y.chunk.records ≡ 12 * path_count y) × (length Y.chunk.lists ≡ 4 * entry_count y)
      unfolding term_piece
      len_y = (
        length_slots y c.path (c.path + 1) (c.reg + 1) (c.code + 1) c.entry,
        omega (arith, length-append (path_record k (P ▸ then_arm)) (below y (P ▸ then_arm) c.path (c.path + 1)), length_below y (P ▸ then_arm) c.path (c.path + 1)),
        length_lists y (c.reg + 1),
      )

      pub n₁' : length p₁ ≡ length p
      n₁' =
          ap length T.bytes
          ∙ laid_length p (32 + 24 * c₁.code) (L.paths + 12 * c₁.path) (L.lists + 4 * c₁.entry) Y.chunk
          (fits_room ready_first Y.chunk _ _ _ len_y.0 len_y.1 len_y.2 (omega arith) (omega arith) (omega arith))

      -- the jump over the first arm and its copy are written
      pub record Copied : Type 0 where
        pub p₂ : List ℕ
        pub p₃ : List ℕ
        pub e₂ : p₂ ≡ over p₁ (32 + 24 * c.code) (slot 3 0 c.reg v.a 0 (e.code + 2) k)
        pub e₃ : p₃ ≡ over p₂ (32 + 24 * e.code) (slot 2 0 e.reg vy.a 0 0 k)

      abbrev pub copied : (p₂ : List ℕ) (p₃ : List ℕ) (e₂ : p₂ ≡ over p₁ (32 + 24 * c.code) (slot 3 0 c.reg v.a 0 (e.code + 2) k)) (e₃ : p₃ ≡ over p₂ (32 + 24 * e.code) (slot 2 0 e.reg vy.a 0 0 k)) → Copied
      copied p₂ p₃ e₂ e₃ = record { p₂ = p₂; p₃ = p₃; e₂ = e₂; e₃ = e₃ }

      module _ (K : Copied) where
        abbrev p₂ : List ℕ
        p₂ = K.p₂

        abbrev p₃ : List ℕ
        p₃ = K.p₃

        abbrev e₂ : p₂ ≡ over p₁ (32 + 24 * c.code) (slot 3 0 c.reg v.a 0 (e.code + 2) k)
        e₂ = K.e₂

        abbrev e₃ : p₃ ≡ over p₂ (32 + 24 * e.code) (slot 2 0 e.reg vy.a 0 0 k)
        e₃ = K.e₃

        pub n₂' : length p₂ ≡ length p
        n₂' = ap length e₂ ∙ over_length p₁ (32 + 24 * c.code) _ (omega (arith, n₁', R.code, R.records, R.lists)) ∙ n₁'

        pub n₃' : length p₃ ≡ length p
        n₃' = ap length e₃ ∙ over_length p₂ (32 + 24 * e.code) _ (omega (arith, n₂', is_code, R.code, R.records, R.lists)) ∙ n₂'

        -- the jump over the first arm, and its copy, stand in the code
        same_slots : (q : ℕ) → Same L.paths p₁ p₃ q
        same_slots q =
            same_then L.paths p₁ p₂ p₃ q
            (subst (λ (x : List ℕ). Same L.paths p₁ x q) (sym e₂)
            (same_below L.paths p₁ (32 + 24 * c.code) (slot 3 0 c.reg v.a 0 (e.code + 2) k) q (omega (arith, n₁', R.code, R.records, R.lists)) (omega (arith, R.code))))
            (subst (λ (x : List ℕ). Same L.paths p₂ x q) (sym e₃)
            (same_below L.paths p₂ (32 + 24 * e.code) (slot 2 0 e.reg vy.a 0 0 k) q (omega (arith, n₂', is_code, R.code, R.records, R.lists)) (omega (arith, is_code, R.code))))

        same₁ : Same L.paths p p₁ c.path
        same₁ =
            subst (λ (x : List ℕ). Same L.paths p x c.path) (sym T.bytes)
            (same_written ready_first Y.chunk _ _ _ len_y.0 len_y.1 len_y.2 (omega arith) (omega arith) (omega arith))

        pub same₃ : Same L.paths p p₃ c.path
        same₃ = same_then L.paths p p₁ p₃ c.path same₁ (same_slots c.path)

        kept₁ : Kept L c p p₁
        kept₁ =
            subst (λ (x : List ℕ). Kept L c p x) (sym T.bytes)
            (kept_then (kept_here L c p) (kept_written ready_first Y.chunk _ _ _ len_y.0 len_y.1 len_y.2 (omega arith) (omega arith) (omega arith)) (omega arith) (omega arith) (omega arith))

        kept₂ : Kept L c p₁ p₂
        kept₂ =
            subst (λ (x : List ℕ). Kept L c p₁ x) (sym e₂)
            (kept_code L c p₁ (32 + 24 * c.code) (slot 3 0 c.reg v.a 0 (e.code + 2) k) (omega (arith, n₁', R.code, R.records, R.lists)) (omega arith) (omega (arith, R.code)) (omega (arith, R.records)))

        kept₃ : Kept L c p p₃
        kept₃ =
            kept_then (kept_then kept₁ kept₂ (omega arith) (omega arith) (omega arith))
            (subst (λ (x : List ℕ). Kept L c p₂ x) (sym e₃)
            (kept_code L c p₂ (32 + 24 * e.code) (slot 2 0 e.reg vy.a 0 0 k) (omega (arith, n₂', is_code, R.code, R.records, R.lists)) (omega (arith, is_code)) (omega (arith, is_code, R.code)) (omega (arith, R.records))))
            (omega arith) (omega arith) (omega arith)

        sound₁ : Sound L p₁ e.path
        sound₁ = subst (λ (x : Cursor). Sound L p₁ x.path) (sym T.next) T.sound

        sound₃ : Sound L p₃ e.path
        sound₃ j l = same_linked L.paths p₁ p₃ e.path (same_slots e.path) j l (sound₁ j l)

        abbrev c₂ : Cursor
        c₂ = record { node = e.node; reg = e.reg + 2; code = e.code + 2; path = e.path; entry = e.entry }

        pub ready_second : Ready L p₃ s c₂ (1 + instruction_count z) (path_count z) (entry_count z)
        ready_second =
            ready_from R p₃ c₂ _ _ _ same₃ n₃' (omega (arith, is_path)) (omega (arith, is_code)) (omega (arith, is_path)) (omega (arith, is_entry))
            (omega (arith, is_reg, is_code, fewer_registers y, R.registers)) sound₃

        pub ready_arm : Ready L p₃ s c₂ (instruction_count z) (path_count z) (entry_count z)
        ready_arm = ready_from ready_second p₃ c₂ _ _ _ (λ i b x. refl) refl (omega arith) (omega arith) (omega arith) (omega arith) ready_second.registers ready_second.sound

        pub same_place : place L p₃ s ≡ P
        same_place = place_same R p₃ same₃

        abbrev Z : Piece
        Z = term_piece ks z (place L p₃ s ▸ else_arm) k c₂ n₂

        no_fault_y : fault ks y (P ▸ then_arm) ≡ none
        unfolding term_piece
        no_fault_y = T.faultless

        Z_fault : Z.fault ≡ fault ks z (P ▸ else_arm)
        unfolding term_piece
        Z_fault = ap (λ (x : Path). fault ks z (x ▸ else_arm)) same_place

        second_fault : (x : Fault) → fault ks z (P ▸ else_arm) ≡ some x → W.fault ≡ some x
        unfolding branch_piece
        second_fault x f = rw (tb, fine, no_fault_y, f)

        pub second_refused : (p₄ : List ℕ) (r : Low) (m : Refusal) (j : ℕ) → Refused Z L c₂ p₃ p₄ m j → r ≡ Faulty m j → Says W L c p p₄ r
        second_refused p₄ r m j F x =
            refused_up c p r W F (kept_then kept₃ F.kept (omega (arith, is_code)) (omega (arith, is_path)) (omega (arith, is_entry))) x (λ y f. second_fault y (sym Z_fault ∙ f))

        -- the second arm is lowered
        pub record Second : Type 0 where
          pub p₄ : List ℕ
          pub vz : Value
          pub h : Cursor
          pub U : Taken Z L c₂ p₃ p₄ vz h

        abbrev pub second : (p₄ : List ℕ) (vz : Value) (h : Cursor) (U : Taken Z L c₂ p₃ p₄ vz h) → Second
        second p₄ vz h U = record { p₄ = p₄; vz = vz; h = h; U = U }

        module _ (S : Second) where
          abbrev p₄ : List ℕ
          p₄ = S.p₄

          abbrev vz : Value
          vz = S.vz

          abbrev h : Cursor
          h = S.h

          abbrev U : Taken Z L c₂ p₃ p₄ vz h
          U = S.U

          abbrev b : Bool
          b = same_kind (kind_if vy.boolean) (kind_if vz.boolean)

          no_fault_z : fault ks z (P ▸ else_arm) ≡ none
          no_fault_z = sym Z_fault ∙ U.faultless

          y_boolean : vy.boolean ≡ is_boolean (kind y)
          unfolding term_piece
          y_boolean = ap (λ (x : Value). x.boolean) T.value

          z_boolean : vz.boolean ≡ is_boolean (kind z)
          unfolding term_piece
          z_boolean = ap (λ (x : Value). x.boolean) U.value

          alike : b ≡ same_kind (kind z) (kind y)
          alike =
              ap₂ (λ (x w : Bool). same_kind (kind_if x) (kind_if w)) y_boolean z_boolean ∙ same_of (kind z) (kind y) ∙ same_flip (kind y) (kind z)

          len_z : (length Z.chunk.code ≡ 24 * instruction_count z) × (length Z.chunk.records ≡ 12 * path_count z) × (length Z.chunk.lists ≡ 4 * entry_count z)
          unfolding term_piece
          len_z = (
            length_slots z e.path (e.path + 1) (e.reg + 2) (e.code + 2) e.entry,
            omega (arith, length-append (path_record k (place L p₃ s ▸ else_arm)) (below z (place L p₃ s ▸ else_arm) e.path (e.path + 1)), length_below z (place L p₃ s ▸ else_arm) e.path (e.path + 1)),
            length_lists z (e.reg + 2),
          )

          z_reg : h.reg ≡ e.reg + 2 + register_count z
          unfolding term_piece
          z_reg = ap (λ (x : Cursor). x.reg) U.next

          pub z_code : h.code ≡ e.code + 2 + instruction_count z
          unfolding term_piece
          z_code = ap (λ (x : Cursor). x.code) U.next

          pub z_path : h.path ≡ e.path + path_count z
          unfolding term_piece
          z_path = ap (λ (x : Cursor). x.path) U.next

          pub z_entry : h.entry ≡ e.entry + entry_count z
          unfolding term_piece
          z_entry = ap (λ (x : Cursor). x.entry) U.next

          z_node : h.node ≡ n₂
          unfolding term_piece
          z_node = ap (λ (x : Cursor). x.node) U.next

          pub n₄' : length p₄ ≡ length p
          n₄' =
              ap length U.bytes
              ∙ laid_length p₃ (32 + 24 * c₂.code) (L.paths + 12 * c₂.path) (L.lists + 4 * c₂.entry) Z.chunk
              (fits_room ready_second Z.chunk _ _ _ len_z.0 len_z.1 len_z.2 (omega arith) (omega arith) (omega arith))
              ∙ n₃'

          same₄ : Same L.paths p₃ p₄ e.path
          same₄ =
              subst (λ (x : List ℕ). Same L.paths p₃ x e.path) (sym U.bytes)
              (same_written ready_second Z.chunk _ _ _ len_z.0 len_z.1 len_z.2 (omega arith) (omega arith) (omega arith))

          sound₄ : Sound L p₄ h.path
          sound₄ = subst (λ (x : Cursor). Sound L p₄ x.path) (sym U.next) U.sound

          kept₄ : Kept L c p p₄
          kept₄ =
              kept_then kept₃
              (subst (λ (x : List ℕ). Kept L c₂ p₃ x) (sym U.bytes)
              (kept_written ready_second Z.chunk _ _ _ len_z.0 len_z.1 len_z.2 (omega arith) (omega arith) (omega arith)))
              (omega (arith, is_code)) (omega (arith, is_path)) (omega (arith, is_entry))

          place₄ : place L p₄ s ≡ P
          place₄ = place_same ready_second p₄ same₄ ∙ same_place

          pub unlike : b ≡ false → Says W L c p p₄ (Faulty WrongType k)
          unfolding branch_piece
          unlike t =
              says_fault W L c p p₄ (Faulty WrongType k) (record { number = 7; place = P }) k (rw (tb, fine, no_fault_y, no_fault_z, sym alike ∙ t)) refl place₄
              (λ j l. sound₄ j (omega (arith, z_path, is_path, R.site))) kept₄

          pub both_done : (p₅ p₆ : List ℕ) (r : Low) (d : Bool) → b ≡ true → p₅ ≡ over p₄ (32 + 24 * (e.code + 1)) (slot 4 0 (e.reg + 1) 0 0 (h.code + 1) k)
              → p₆ ≡ over p₅ (32 + 24 * h.code) (slot 2 0 e.reg vz.a 0 0 k) → d ≡ (v.dynamic || vy.dynamic || vz.dynamic)
              → r ≡ Done (record { a = e.reg; b = 0; c = 0; boolean = vy.boolean; dynamic = d }) (record { node = h.node; reg = h.reg; code = h.code + 1; path = h.path; entry = h.entry })
              → Says W L c p p₆ r
          both_done p₅ p₆ r d t e₅ e₆ ed er = says_done W L c p p₆ r no_fault (er ∙ same_done) same_bytes sound₆
            where
              no_fault : W.fault ≡ none
              no_fault = unfold branch_piece in rw (tb, fine, no_fault_y, no_fault_z, sym alike ∙ t)

              y_dynamic : vy.dynamic ≡ dynamic ks y
              y_dynamic = unfold term_piece in ap (λ (x : Value). x.dynamic) T.value

              z_dynamic : vz.dynamic ≡ dynamic ks z
              z_dynamic = unfold term_piece in ap (λ (x : Value). x.dynamic) U.value

              y_a : vy.a ≡ result_register y (c.reg + 1)
              y_a = unfold term_piece in ap (λ (x : Value). x.a) T.value

              z_a : vz.a ≡ result_register z (e.reg + 2)
              z_a = unfold term_piece in ap (λ (x : Value). x.a) U.value

              same_done : Done (record { a = e.reg; b = 0; c = 0; boolean = vy.boolean; dynamic = d }) (record { node = h.node; reg = h.reg; code = h.code + 1; path = h.path; entry = h.entry })
                  ≡ Done W.value W.next
              same_done =
                  unfold branch_piece in
                  let f₁ : d ≡ (v.dynamic || dynamic ks y || dynamic ks z) = ed ∙ ap₂ (λ (x w : Bool). v.dynamic || x || w) y_dynamic z_dynamic in
                  let f₂ : h.reg ≡ c.reg + 1 + register_count y + 2 + register_count z = omega (arith, z_reg, is_reg) in
                  let f₃ : h.code + 1 ≡ c.code + 1 + instruction_count y + 2 + instruction_count z + 1 = omega (arith, z_code, is_code) in
                  let f₄ : h.path ≡ c.path + path_count y + path_count z = omega (arith, z_path, is_path) in
                  let f₅ : h.entry ≡ c.entry + entry_count y + entry_count z = omega (arith, z_entry, is_entry) in
                  λ j. Done (record { a = is_reg j; b = 0; c = 0; boolean = y_boolean j; dynamic = f₁ j }) (record { node = z_node j; reg = f₂ j; code = f₃ j; path = f₄ j; entry = f₅ j })

              n₅' : length p₅ ≡ length p
              n₅' = ap length e₅ ∙ over_length p₄ (32 + 24 * (e.code + 1)) _ (omega (arith, n₄', is_code, R.code, R.records, R.lists)) ∙ n₄'

              same₆ : Same L.paths p₄ p₆ h.path
              same₆ =
                  same_then L.paths p₄ p₅ p₆ h.path
                  (subst (λ (x : List ℕ). Same L.paths p₄ x h.path) (sym e₅)
                  (same_below L.paths p₄ (32 + 24 * (e.code + 1)) (slot 4 0 (e.reg + 1) 0 0 (h.code + 1) k) h.path (omega (arith, n₄', is_code, R.code, R.records, R.lists)) (omega (arith, is_code, R.code))))
                  (subst (λ (x : List ℕ). Same L.paths p₅ x h.path) (sym e₆)
                  (same_below L.paths p₅ (32 + 24 * h.code) (slot 2 0 e.reg vz.a 0 0 k) h.path (omega (arith, n₅', z_code, is_code, R.code, R.records, R.lists)) (omega (arith, z_code, is_code, R.code))))

              W_path : W.next.path ≡ c.path + path_count y + path_count z
              W_path = unfold branch_piece in refl

              sound₆ : Sound L p₆ W.next.path
              sound₆ j l =
                  same_linked L.paths p₄ p₆ h.path same₆ j (omega (arith, W_path, z_path, is_path)) (sound₄ j (omega (arith, W_path, z_path, is_path)))

              same_bytes : p₆ ≡ written L c p W.chunk
              same_bytes =
                  let b₀ = L.paths + 12 * c.path in
                  let d₀ = L.lists + 4 * c.entry in
                  let r₃ = slot 3 0 c.reg v.a 0 (e.code + 2) k in
                  let r₂ = slot 2 0 e.reg vy.a 0 0 k in
                  let r₄ = slot 4 0 (e.reg + 1) 0 0 (h.code + 1) k in
                  let r₅ = slot 2 0 e.reg vz.a 0 0 k in
                  let hc : 32 + 24 * c.code + 96 + length Y.chunk.code + length Z.chunk.code ≤ b₀ = omega (arith, len_y.0, len_z.0, R.code) in
                  let hr : b₀ + length Y.chunk.records + length Z.chunk.records ≤ d₀ = omega (arith, len_y.1, len_z.1, R.records) in
                  let hl : d₀ + length Y.chunk.lists + length Z.chunk.lists ≤ length p = omega (arith, len_y.2, len_z.2, R.lists) in
                  let x₁ : 32 + 24 * (c.code + 1) ≡ 32 + 24 * c.code + 24 = omega arith in
                  let g₁ : p₁ ≡ laid p (32 + 24 * c.code + 24) b₀ d₀ Y.chunk = T.bytes ∙ ap (λ (i : ℕ). laid p i b₀ d₀ Y.chunk) x₁ in
                  let x₃ : 32 + 24 * e.code ≡ 32 + 24 * c.code + 24 + length Y.chunk.code = omega (arith, is_code, len_y.0) in
                  let g₃ : p₃ ≡ over p₂ (32 + 24 * c.code + 24 + length Y.chunk.code) r₂ = e₃ ∙ ap (λ (i : ℕ). over p₂ i r₂) x₃ in
                  let f₃ = first_arm p (32 + 24 * c.code) b₀ d₀ r₃ r₂ r₄ r₅ refl refl refl refl Y.chunk Z.chunk hc hr hl p₁ p₂ p₃ g₁ e₂ g₃ in
                  let x₄ : 32 + 24 * (e.code + 2) ≡ 32 + 24 * c.code + 72 + length Y.chunk.code = omega (arith, is_code, len_y.0) in
                  let y₄ : L.paths + 12 * e.path ≡ b₀ + length Y.chunk.records = omega (arith, is_path, len_y.1) in
                  let z₄ : L.lists + 4 * e.entry ≡ d₀ + length Y.chunk.lists = omega (arith, is_entry, len_y.2) in
                  let g₄ : p₄ ≡ laid p₃ (32 + 24 * c.code + 72 + length Y.chunk.code) (b₀ + length Y.chunk.records) (d₀ + length Y.chunk.lists) Z.chunk =
                  U.bytes ∙ ap (λ (i : ℕ). laid p₃ i (L.paths + 12 * e.path) (L.lists + 4 * e.entry) Z.chunk) x₄
                  ∙ ap₂ (λ (i j : ℕ). laid p₃ (32 + 24 * c.code + 72 + length Y.chunk.code) i j Z.chunk) y₄ z₄ in
                  let x₅ : 32 + 24 * (e.code + 1) ≡ 32 + 24 * c.code + 48 + length Y.chunk.code = omega (arith, is_code, len_y.0) in
                  let g₅ : p₅ ≡ over p₄ (32 + 24 * c.code + 48 + length Y.chunk.code) r₄ = e₅ ∙ ap (λ (i : ℕ). over p₄ i r₄) x₅ in
                  let x₆ : 32 + 24 * h.code ≡ 32 + 24 * c.code + 72 + length Y.chunk.code + length Z.chunk.code = omega (arith, z_code, is_code, len_y.0, len_z.0) in
                  let g₆ : p₆ ≡ over p₅ (32 + 24 * c.code + 72 + length Y.chunk.code + length Z.chunk.code) r₅ = e₆ ∙ ap (λ (i : ℕ). over p₅ i r₅) x₆ in
                  both_arms p (32 + 24 * c.code) b₀ d₀ r₃ r₂ r₄ r₅ refl refl refl refl Y.chunk Z.chunk hc hr hl p₃ p₄ p₅ p₆ f₃ g₄ g₅ g₆
                  ∙ ap (λ (w : Chunk). laid p (32 + 24 * c.code) b₀ d₀ w)
                  (chunk_of ks y z v P k c (place L p₃ s) vy vz e h n₁ n₂ y_a z_a z_code same_place is_reg is_code is_path is_entry)

          -- both, by whether the arms are of one kind
          module _ (p₆ : List ℕ) (r : Low) where
            arms_joined : (b' : Bool) → b ≡ b'
                → r ≡ cond b' (Done (record { a = e.reg; b = 0; c = 0; boolean = vy.boolean; dynamic = v.dynamic || vy.dynamic || vz.dynamic }) (record { node = h.node; reg = h.reg; code = h.code + 1; path = h.path; entry = h.entry })) (Faulty WrongType k)
                → p₆ ≡ cond b' (over (over p₄ (32 + 24 * (e.code + 1)) (slot 4 0 (e.reg + 1) 0 0 (h.code + 1) k)) (32 + 24 * h.code) (slot 2 0 e.reg vz.a 0 0 k)) p₄
                → Says W L c p p₆ r
            arms_joined true t er ep = both_done _ p₆ r _ t refl ep refl er
            arms_joined false t er ep =
                subst (λ (x : List ℕ). Says W L c p x r) (sym ep) (subst (λ (x : Low). Says W L c p p₄ x) (sym er) (unlike t))

            pub both_joined : r ≡ arms_answer k v vy vz e h → p₆ ≡ arms_bytes k vy vz e h p₄ → Says W L c p p₆ r
            both_joined er ep = arms_joined b refl er ep
