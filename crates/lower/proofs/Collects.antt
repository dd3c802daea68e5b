-- What lowering the children of an operation answers.
use mathlib.Core.Path.{◌≡◌, refl, sym, ap, ap₂, ◌∙◌, subst}
use mathlib.Core.Bool.{Bool, true, false, cond, ◌&&◌, ◌||◌}
use mathlib.Core.List.{List, [], ◌++◌}
use mathlib.Core.Option.{Option, none, some}
use Prim.Native.Nat.{ℕ, suc, ◌+◌, ◌*◌, ◌≤◌}
use native.Mathlib.Omega.{arith}
use lib.ListN.{length, get_or, length-append}
use Rattle.refusals.specs.declared.Refusal.{Refusal}
use Rattle.refusals.specs.Refusals.{refusal_of}
use Rattle.formula.specs.Text.{little_endian, word_at}
use Rattle.formula.specs.Operator.{ValueKind, same_kind}
use Rattle.formula.specs.Path.{Path, ◌▸◌, argument}
use Rattle.formula.specs.Term.{Term, Terms, ◌and◌, end, term_count}
use Rattle.machine.specs.Check.{Context, Fault, all_kind, any_dynamic, dynamic, fault, faults, kind}
use Rattle.machine.specs.Lower.{instruction_count, instruction_counts, register_count, register_counts, result_register, result_registers}
use Rattle.layout.specs.Image.{below, below_all, entries, entry_count, entry_counts, lists_all, path_count, path_counts, path_record, slots_all}
use Rattle.layout.proofs.Lengths.{length_below, length_below_all, length_entries, length_lists, length_lists_all, length_result_registers, length_slots, length_slots_all}
use Rattle.writer.specs.Over.{over}
use Rattle.paths.specs.Table.{Linked, path_in_table}
use Rattle.writer.proofs.Over.{over_before, over_nil}
use Rattle.lower.specs.Bytes.{Chunk, laid, written}
use Rattle.lower.specs.Piece.{Kept, Lists, ListsAt, Piece, Sound, is_boolean, kind_if, listed, operands_piece, operands_value, place, term_piece}
use Rattle.lower.specs.Ready.{Ready}
use Rattle.lower.specs.declared.Layout.{Layout}
use Rattle.lower.specs.declared.Cursor.{Cursor}
use Rattle.lower.specs.declared.Site.{Site}
use Rattle.lower.specs.declared.Value.{Value}
use Rattle.lower.specs.Low.{Low, Done, Faulty}
use Rattle.lower.proofs.Laid.{Fits, joined, laid_length, laid_then}
use Rattle.lower.proofs.Frames.{Same, same_above, same_linked}
use Rattle.lower.proofs.Says.{Refused, Taken}
use Rattle.lower.proofs.Keeps.{kept_then}
use Rattle.lower.proofs.Compose.{fewer_registers, fits_room, kept_written, place_same, ready_from, same_written}
use Rattle.lower.proofs.Branches.{kind_back}

-- ---- answers

pub lists_done : (L : Layout) (b : Bool) (ts : Terms) (i : ℕ) (P : Piece) (c : Cursor) (p p' : List ℕ) (r : Low) → P.fault ≡ none → r ≡ Done P.value P.next
    → p' ≡ listed L b i P.next.entry (result_registers ts c.reg) (written L c p P.chunk) → Sound L p' P.next.path → Lists L b ts i P c p p' r
unfolding Lists
lists_done L b ts i P c p p' r e x y s = subst (λ (o : Option Fault). ListsAt o L b ts i P c p p' r) (sym e) (x, y, s)

pub lists_fault : (L : Layout) (b : Bool) (ts : Terms) (i : ℕ) (P : Piece) (c : Cursor) (p p' : List ℕ) (r : Low) (x : Fault) (k : ℕ) → P.fault ≡ some x → r ≡ Faulty (refusal_of x.number) k
    → path_in_table p' L.paths k ≡ x.place → Linked p' L.paths k → Kept L c p p' → Lists L b ts i P c p p' r
unfolding Lists
lists_fault L b ts i P c p p' r x k e y z s h = subst (λ (o : Option Fault). ListsAt o L b ts i P c p p' r) (sym e) (k, y, z, s, h)

pub record Collected (L : Layout) (b : Bool) (ts : Terms) (i : ℕ) (P : Piece) (c : Cursor) (p p' : List ℕ) (v : Value) (e : Cursor) : Type 0 where
  pub faultless : P.fault ≡ none
  pub value : v ≡ P.value
  pub next : e ≡ P.next
  pub bytes : p' ≡ listed L b i P.next.entry (result_registers ts c.reg) (written L c p P.chunk)
  pub sound : Sound L p' P.next.path

collected_at : (o : Option Fault) (L : Layout) (b : Bool) (ts : Terms) (i : ℕ) (P : Piece) (c : Cursor) (p p' : List ℕ) (r : Low) (v : Value) (e : Cursor) → P.fault ≡ o
    → ListsAt o L b ts i P c p p' r → r ≡ Done v e → Collected L b ts i P c p p' v e
collected_at none L b ts i P c p p' r v e f (x, y, s) d = record { faultless = f; value = cc; next = cc; bytes = y; sound = s }
collected_at (some x) L b ts i P c p p' r v e f (k, y, z, s, h) d = absurd (let z : ◌≡◌ {A = ℕ} 0 1 = cc in omega arith)

pub collected : (L : Layout) (b : Bool) (ts : Terms) (i : ℕ) (P : Piece) (c : Cursor) (p p' : List ℕ) (r : Low) (v : Value) (e : Cursor) → Lists L b ts i P c p p' r → r ≡ Done v e
    → Collected L b ts i P c p p' v e
unfolding Lists
collected L b ts i P c p p' r v e s d = collected_at P.fault L b ts i P c p p' r v e refl s d

turned_at : (o : Option Fault) (L : Layout) (b : Bool) (ts : Terms) (i : ℕ) (P : Piece) (c : Cursor) (p p' : List ℕ) (r : Low) (n : Refusal) (k : ℕ) → P.fault ≡ o → ListsAt o L b ts i P c p p' r
    → r ≡ Faulty n k → Refused P L c p p' n k
turned_at none L b ts i P c p p' r n k f (x, y, s) d = absurd (let z : ◌≡◌ {A = ℕ} 0 1 = cc in omega arith)
turned_at (some x) L b ts i P c p p' r n k f (j, y, z, s, h) d =
    let e : j ≡ k = cc in
    record {
      x = x;
      is_fault = f;
      number = cc;
      place = subst (λ (m : ℕ). path_in_table p' L.paths m ≡ x.place) e z;
      linked = subst (λ (m : ℕ). Linked p' L.paths m) e s;
      kept = h;
    }

pub turned : (L : Layout) (b : Bool) (ts : Terms) (i : ℕ) (P : Piece) (c : Cursor) (p p' : List ℕ) (r : Low) (n : Refusal) (k : ℕ) → Lists L b ts i P c p p' r → r ≡ Faulty n k → Refused P L c p p' n k
unfolding Lists
turned L b ts i P c p p' r n k s d = turned_at P.fault L b ts i P c p p' r n k refl s d

-- ---- no child

module _ (L : Layout) (i : ℕ) (C : Context) (w : Bool) (P : Path) (k n : ℕ) (c : Cursor) (p : List ℕ) (en : n ≡ c.node) (s : Sound L p c.path) where
  abbrev O : Piece
  O = operands_piece C w end P i k c n

  abbrev nothing : Value
  nothing = record { a = 0; b = 0; c = 0; boolean = true; dynamic = false }

  end_fault : O.fault ≡ none
  unfolding operands_piece
  end_fault = refl

  end_next : c ≡ O.next
  unfolding operands_piece
  end_next =
      let e₁ : c.reg ≡ c.reg + 0 = omega arith in
      let e₂ : c.code ≡ c.code + 0 = omega arith in
      let e₃ : c.path ≡ c.path + 0 = omega arith in
      let e₄ : c.entry ≡ c.entry + 0 = omega arith in
      λ j. record { node = sym en j; reg = e₁ j; code = e₂ j; path = e₃ j; entry = e₄ j }

  end_value : nothing ≡ O.value
  unfolding operands_piece
  end_value = refl

  end_bytes : p ≡ written L c p O.chunk
  unfolding operands_piece laid slots_all below_all lists_all
  end_bytes =
      sym (over_nil (over (over p (32 + 24 * c.code) []) (L.paths + 12 * c.path) []) (L.lists + 4 * c.entry)
      ∙ over_nil (over p (32 + 24 * c.code) []) (L.paths + 12 * c.path) ∙ over_nil p (32 + 24 * c.code))

  end_listed : (x : Bool) → p ≡ listed L x i O.next.entry (result_registers end c.reg) (written L c p O.chunk)
  end_listed false = end_bytes
  end_listed true = end_bytes ∙ sym (over_nil (written L c p O.chunk) (L.lists + 4 * (O.next.entry + i)))

  none_done : (b : Bool) (ts : Terms) → ts ≡ end → Lists L b ts i (operands_piece C w ts P i k c n) c p p (Done nothing c)
  none_done b ts e =
      subst (λ (x : Terms). Lists L b x i (operands_piece C w x P i k c n) c p p (Done nothing c)) (sym e)
      (lists_done L b end i O c p p (Done nothing c) end_fault (ap₂ (λ (x : Value) (y : Cursor). Done x y) end_value end_next) (end_listed b)
      (subst (λ (x : Cursor). Sound L p x.path) end_next s))

  pub none_left : (b : Bool) (ts : Terms) (r : Low) → r ≡ Done (record { a = 0; b = 0; c = 0; boolean = true; dynamic = false }) c → ts ≡ end → Lists L b ts i (operands_piece C w ts P i k c n) c p p r
  none_left b ts r er e = subst (λ (x : Low). Lists L b ts i (operands_piece C w ts P i k c n) c p p x) (sym er) (none_done b ts e)

-- ---- one child, and then the rest

abbrev own : Bool → ℕ → ℕ
own b n = cond b n 0

same_true : (κ : ValueKind) (w : Bool) → same_kind (kind_if (is_boolean κ)) (kind_if w) ≡ same_kind κ (kind_if w)
same_true κ w = rw (kind_back κ)

module _ {L : Layout} {p : List ℕ} {s : Site} {c : Cursor} (b : Bool) (C : Context) (w : Bool) (t : Term) (ts : Terms) (i n₁ n₂ : ℕ)
    (R : Ready L p s c (instruction_counts (t and ts)) (path_counts (t and ts)) (entry_counts (t and ts) + own b (i + term_count (t and ts)))) where
  abbrev P : Path
  P = place L p s

  abbrev k : ℕ
  k = s.path

  abbrev A : Piece
  A = term_piece C t (P ▸ argument i) k c n₁

  abbrev W : Piece
  W = operands_piece C w (t and ts) P i k c n₂

  pub ready_child : Ready L p s c (instruction_count t) (path_count t) (entry_count t)
  ready_child = ready_from R p c _ _ _ (λ j x y. refl) refl (omega arith) (omega arith) (omega arith) (omega arith) R.registers R.sound

  pub child_refused : (p₁ : List ℕ) (r : Low) (m : Refusal) (j : ℕ) → Refused A L c p p₁ m j → r ≡ Faulty m j → Lists L b (t and ts) i W c p p₁ r
  child_refused p₁ r m j F e =
      lists_fault L b (t and ts) i W c p p₁ r F.x j (up F.x F.is_fault) (e ∙ ap (λ (z : Refusal). Faulty z j) F.number) F.place F.linked F.kept
    where
      up : (x : Fault) → A.fault ≡ some x → W.fault ≡ some x
      up x f = unfold operands_piece term_piece in rw f

  module _ (p₁ : List ℕ) (v : Value) (e : Cursor) (T : Taken A L c p p₁ v e) where
    no_fault : fault C t (P ▸ argument i) ≡ none
    unfolding term_piece
    no_fault = T.faultless

    is_reg : e.reg ≡ c.reg + register_count t
    unfolding term_piece
    is_reg = ap (λ (x : Cursor). x.reg) T.next

    is_code : e.code ≡ c.code + instruction_count t
    unfolding term_piece
    is_code = ap (λ (x : Cursor). x.code) T.next

    is_path : e.path ≡ c.path + path_count t
    unfolding term_piece
    is_path = ap (λ (x : Cursor). x.path) T.next

    is_entry : e.entry ≡ c.entry + entry_count t
    unfolding term_piece
    is_entry = ap (λ (x : Cursor). x.entry) T.next

    pub is_node : e.node ≡ n₁
    unfolding term_piece
    is_node = ap (λ (x : Cursor). x.node) T.next

    len_a : (length A.chunk.code ≡ 24 * instruction_count t) × (length A.chunk.records ≡ 12 * path_count t) × (length A.chunk.lists ≡ 4 * entry_count t)
    unfolding term_piece
    len_a = (
      length_slots t c.path (c.path + 1) c.reg c.code c.entry,
      omega (arith, length-append (path_record k (P ▸ argument i)) (below t (P ▸ argument i) c.path (c.path + 1)), length_below t (P ▸ argument i) c.path (c.path + 1)),
      length_lists t c.reg,
    )

    n₁' : length p₁ ≡ length p
    n₁' =
        ap length T.bytes
        ∙ laid_length p (32 + 24 * c.code) (L.paths + 12 * c.path) (L.lists + 4 * c.entry) A.chunk
        (fits_room ready_child A.chunk _ _ _ len_a.0 len_a.1 len_a.2 (omega arith) (omega arith) (omega arith))

    same₁ : Same L.paths p p₁ c.path
    same₁ =
        subst (λ (x : List ℕ). Same L.paths p x c.path) (sym T.bytes)
        (same_written ready_child A.chunk _ _ _ len_a.0 len_a.1 len_a.2 (omega arith) (omega arith) (omega arith))

    kept₁ : Kept L c p p₁
    kept₁ =
        subst (λ (x : List ℕ). Kept L c p x) (sym T.bytes)
        (kept_written ready_child A.chunk _ _ _ len_a.0 len_a.1 len_a.2 (omega arith) (omega arith) (omega arith))

    sound₁ : Sound L p₁ e.path
    sound₁ = subst (λ (x : Cursor). Sound L p₁ x.path) (sym T.next) T.sound

    own_more : (x : Bool) → own x (i + 1 + term_count ts) ≤ own x (i + term_count (t and ts))
    own_more true = omega arith
    own_more false = omega arith

    pub ready_rest : Ready L p₁ s e (instruction_counts ts) (path_counts ts) (entry_counts ts + own b (i + 1 + term_count ts))
    ready_rest =
        ready_from R p₁ e _ _ _ same₁ n₁' (omega (arith, is_path)) (omega (arith, is_code)) (omega (arith, is_path)) (omega (arith, is_entry, own_more b))
        (omega (arith, is_reg, is_code, fewer_registers t, R.registers)) sound₁

    pub same_place : place L p₁ s ≡ P
    same_place = place_same R p₁ same₁

    abbrev B : Piece
    B = operands_piece C w ts (place L p₁ s) (i + 1) k e n₂

    one_more : suc i ≡ i + 1
    one_more = omega arith

    B_fault : B.fault ≡ faults C ts P (suc i)
    unfolding operands_piece
    B_fault = ap₂ (λ (x : Path) (j : ℕ). faults C ts x j) same_place (sym one_more)

    rest_fault : (o : Option Fault) → faults C ts P (suc i) ≡ o → W.fault ≡ o
    unfolding operands_piece
    rest_fault o f = rw (no_fault, f)

    pub rest_refused : (p₂ : List ℕ) (r : Low) (m : Refusal) (j : ℕ) → Refused B L e p₁ p₂ m j → r ≡ Faulty m j → Lists L b (t and ts) i W c p p₂ r
    rest_refused p₂ r m j F x =
        lists_fault L b (t and ts) i W c p p₂ r F.x j (rest_fault (some F.x) (sym B_fault ∙ F.is_fault)) (x ∙ ap (λ (z : Refusal). Faulty z j) F.number) F.place F.linked
        (kept_then kept₁ F.kept (omega (arith, is_code)) (omega (arith, is_path)) (omega (arith, is_entry)))

    module _ (p₂ : List ℕ) (u : Value) (g : Cursor) (kept : length p₂ ≡ length p₁) (U : Collected L b ts (i + 1) B e p₁ p₂ u g) where
      g_entry : g.entry ≡ e.entry + entry_counts ts
      unfolding operands_piece
      g_entry = ap (λ (x : Cursor). x.entry) U.next

      g_path : g.path ≡ e.path + path_counts ts
      unfolding operands_piece
      g_path = ap (λ (x : Cursor). x.path) U.next

      B_entry : B.next.entry ≡ e.entry + entry_counts ts
      unfolding operands_piece
      B_entry = refl

      pub entry_room : cond b (L.lists + 4 * (g.entry + i) + 4) 0 ≤ length p₂
      entry_room = room b R.lists
        where
          room : (x : Bool) → L.lists + 4 * (c.entry + (entry_counts (t and ts) + own x (i + term_count (t and ts)))) ≤ length p → cond x (L.lists + 4 * (g.entry + i) + 4) 0 ≤ length p₂
          room true z = omega (arith, g_entry, is_entry, kept, n₁')
          room false z = omega arith

      pub entry_small : L.lists + 4 * g.entry ≤ length p
      entry_small = small b R.lists
        where
          small : (x : Bool) → L.lists + 4 * (c.entry + (entry_counts (t and ts) + own x (i + term_count (t and ts)))) ≤ length p → L.lists + 4 * g.entry ≤ length p
          small true z = omega (arith, g_entry, is_entry)
          small false z = omega (arith, g_entry, is_entry)

      v_a : v.a ≡ result_register t c.reg
      unfolding term_piece
      v_a = ap (λ (x : Value). x.a) T.value

      v_boolean : v.boolean ≡ is_boolean (kind t)
      unfolding term_piece
      v_boolean = ap (λ (x : Value). x.boolean) T.value

      v_dynamic : v.dynamic ≡ dynamic C t
      unfolding term_piece
      v_dynamic = ap (λ (x : Value). x.dynamic) T.value

      u_is : u ≡ operands_value C w ts e.reg
      unfolding operands_piece
      u_is = U.value

      g_is : g ≡ W.next
      unfolding operands_piece
      g_is =
          let e₁ : e.reg + register_counts ts ≡ c.reg + register_counts (t and ts) = omega (arith, is_reg) in
          let e₂ : e.code + instruction_counts ts ≡ c.code + instruction_counts (t and ts) = omega (arith, is_code) in
          let e₃ : e.path + path_counts ts ≡ c.path + path_counts (t and ts) = omega (arith, is_path) in
          let e₄ : e.entry + entry_counts ts ≡ c.entry + entry_counts (t and ts) = omega (arith, is_entry) in
          U.next ∙ (λ j. record { node = n₂; reg = e₁ j; code = e₂ j; path = e₃ j; entry = e₄ j })

      value_is : (x d : Bool) → x ≡ (same_kind (kind_if v.boolean) (kind_if w) && u.boolean) → d ≡ (v.dynamic || u.dynamic)
          → record { a = v.a; b = u.a; c = u.b; boolean = x; dynamic = d } ≡ W.value
      unfolding operands_piece
      value_is x d ex ed =
          let f₁ : u.a ≡ get_or (result_registers ts (c.reg + register_count t)) 0 0 = ap (λ (z : Value). z.a) u_is ∙ ap (λ (z : ℕ). get_or (result_registers ts z) 0 0) is_reg in
          let f₂ : u.b ≡ get_or (result_registers ts (c.reg + register_count t)) 1 0 = ap (λ (z : Value). z.b) u_is ∙ ap (λ (z : ℕ). get_or (result_registers ts z) 1 0) is_reg in
          let f₃ : x ≡ (same_kind (kind t) (kind_if w) && all_kind (kind_if w) ts) =
          ex ∙ ap₂ (λ (y z : Bool). same_kind (kind_if y) (kind_if w) && z) v_boolean (ap (λ (z : Value). z.boolean) u_is) ∙ ap (λ (z : Bool). z && all_kind (kind_if w) ts) (same_true (kind t) w) in
          let f₄ : d ≡ (dynamic C t || any_dynamic C ts) = ed ∙ ap₂ (λ (y z : Bool). y || z) v_dynamic (ap (λ (z : Value). z.dynamic) u_is) in
          λ j. record { a = v_a j; b = f₁ j; c = f₂ j; boolean = f₃ j; dynamic = f₄ j }

      chunk_is : W.chunk ≡ joined A.chunk B.chunk
      unfolding operands_piece term_piece slots_all below_all lists_all
      chunk_is =
          let b₁ : suc c.path ≡ c.path + 1 = omega arith in
          rw (b₁, one_more, same_place, is_path, is_reg, is_code, is_entry)

      len_w : (length W.chunk.code ≡ 24 * instruction_counts (t and ts)) × (length W.chunk.records ≡ 12 * path_counts (t and ts)) × (length W.chunk.lists ≡ 4 * entry_counts (t and ts))
      unfolding operands_piece
      len_w = (length_slots_all (t and ts) k c.path c.reg c.code c.entry, length_below_all (t and ts) P i k c.path, length_lists_all (t and ts) c.reg)

      w_fits : Fits (length p) (32 + 24 * c.code) (L.paths + 12 * c.path) (L.lists + 4 * c.entry) W.chunk
      w_fits = fits_room R W.chunk _ _ _ len_w.0 len_w.1 len_w.2 (omega arith) (omega arith) (omega arith)

      written_is : written L e p₁ B.chunk ≡ written L c p W.chunk
      written_is =
          ap (λ (x : List ℕ). written L e x B.chunk) T.bytes
          ∙ laid_then p (32 + 24 * c.code) (L.paths + 12 * c.path) (L.lists + 4 * c.entry) (32 + 24 * e.code) (L.paths + 12 * e.path) (L.lists + 4 * e.entry) A.chunk B.chunk
          (omega (arith, len_a.0, is_code)) (omega (arith, len_a.1, is_path)) (omega (arith, len_a.2, is_entry))
          (subst (λ (x : Chunk). Fits (length p) (32 + 24 * c.code) (L.paths + 12 * c.path) (L.lists + 4 * c.entry) x) chunk_is w_fits)
          ∙ ap (λ (x : Chunk). written L c p x) (sym chunk_is)

      W_entry : W.next.entry ≡ g.entry
      W_entry = ap (λ (x : Cursor). x.entry) (sym g_is)

      listed_is : (x : Bool) (p₃ : List ℕ) → L.lists + 4 * (c.entry + (entry_counts (t and ts) + own x (i + term_count (t and ts)))) ≤ length p
          → p₂ ≡ listed L x (i + 1) B.next.entry (result_registers ts e.reg) (written L e p₁ B.chunk)
          → p₃ ≡ cond x (over p₂ (L.lists + 4 * (g.entry + i)) (little_endian 4 v.a)) p₂
          → p₃ ≡ listed L x i W.next.entry (result_registers (t and ts) c.reg) (written L c p W.chunk)
      listed_is false p₃ room f h = h ∙ f ∙ written_is
      listed_is true p₃ room f h =
          let q = written L c p W.chunk in
          let lq : length q ≡ length p = laid_length p (32 + 24 * c.code) (L.paths + 12 * c.path) (L.lists + 4 * c.entry) W.chunk w_fits in
          let a₀ = L.lists + 4 * (g.entry + i) in
          let rest = entries (result_registers ts e.reg) in
          let lr : length rest ≡ 4 * term_count ts = length_entries (result_registers ts e.reg) ∙ ap (λ (z : ℕ). 4 * z) (length_result_registers ts e.reg) in
          let x₁ : L.lists + 4 * (B.next.entry + (i + 1)) ≡ a₀ + length (little_endian 4 v.a) = omega (arith, g_entry, B_entry) in
          let f₁ : p₂ ≡ over q (a₀ + length (little_endian 4 v.a)) rest =
          f ∙ ap (λ (z : List ℕ). over z (L.lists + 4 * (B.next.entry + (i + 1))) rest) written_is ∙ ap (λ (z : ℕ). over q z rest) x₁ in
          let x₂ : a₀ ≡ L.lists + 4 * (W.next.entry + i) = ap (λ (z : ℕ). L.lists + 4 * (z + i)) (sym W_entry) in
          let x₃ : little_endian 4 v.a ++ rest ≡ entries (result_registers (t and ts) c.reg) =
          ap₂ (λ (z y : ℕ). little_endian 4 z ++ entries (result_registers ts y)) v_a is_reg in
          h ∙ ap (λ (z : List ℕ). over z a₀ (little_endian 4 v.a)) f₁
          ∙ over_before q a₀ (little_endian 4 v.a) rest (omega (arith, lq, g_entry, is_entry))
          ∙ ap₂ (λ (z : ℕ) (y : List ℕ). over q z y) x₂ x₃

      same_end : (x : Bool) (p₃ : List ℕ) → cond x (L.lists + 4 * (g.entry + i) + 4) 0 ≤ length p₂ → p₃ ≡ cond x (over p₂ (L.lists + 4 * (g.entry + i)) (little_endian 4 v.a)) p₂
          → Same L.paths p₂ p₃ g.path
      same_end false p₃ room h = λ j l m. ap (λ (z : List ℕ). word_at z j) h
      same_end true p₃ room h =
          subst (λ (z : List ℕ). Same L.paths p₂ z g.path) (sym h)
          (same_above L.paths p₂ (L.lists + 4 * (g.entry + i)) (little_endian 4 v.a) g.path (omega arith) (omega (arith, g_path, is_path, R.records)))

      sound₂ : Sound L p₂ g.path
      sound₂ = subst (λ (x : Cursor). Sound L p₂ x.path) (sym U.next) U.sound

      pub all_collected : (p₃ : List ℕ) (x d : Bool) → p₃ ≡ cond b (over p₂ (L.lists + 4 * (g.entry + i)) (little_endian 4 v.a)) p₂
          → x ≡ (same_kind (kind_if v.boolean) (kind_if w) && u.boolean) → d ≡ (v.dynamic || u.dynamic)
          → Lists L b (t and ts) i W c p p₃ (Done (record { a = v.a; b = u.a; c = u.b; boolean = x; dynamic = d }) g)
      all_collected p₃ x d h ex ed =
          lists_done L b (t and ts) i W c p p₃ (Done (record { a = v.a; b = u.a; c = u.b; boolean = x; dynamic = d }) g) (rest_fault none (sym B_fault ∙ U.faultless))
          (ap₂ (λ (y : Value) (z : Cursor). Done y z) (value_is x d ex ed) g_is) (listed_is b p₃ R.lists U.bytes h)
          (subst (λ (y : Cursor). Sound L p₃ y.path) g_is (λ j l. same_linked L.paths p₂ p₃ g.path (same_end b p₃ entry_room h) j l (sound₂ j l)))
