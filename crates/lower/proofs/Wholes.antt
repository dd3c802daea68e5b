-- A node whole: leaves, And and Or, conditionals, operations.
use mathlib.Core.Path.{◌≡◌, refl, sym, ap, ap₂, ◌∙◌, subst}
use mathlib.Core.Bool.{Bool, true, false, cond}
use mathlib.Core.List.{List, [], ◌++◌, append-nil}
use mathlib.Core.Option.{Option, none, some}
use mathlib.Core.Logic.{⊎_elim}
use Prim.Native.Nat.{ℕ, zero, suc, ◌+◌, ◌-◌, ◌*◌, ◌≤◌, ◌<◌}
use native.Mathlib.Omega.{arith}
use lib.ListN.{length, get_or, length-append}
use lib.Dec.{eqb}
use borrow.Author.Tests.{eq-eqb, ne_eqb}
use Rattle.refusals.specs.declared.Refusal.{Refusal}
use Rattle.formula.specs.Operator.{Junction, Operation, ValueKind, argument_kind, arity, result_kind, stepped}
use Rattle.formula.specs.Path.{Path}
use Rattle.formula.specs.Formula.{Formula, Formulas, Head, conditional, ifelse, last, next, number, size, sizes, well_formed}
use Rattle.formula.specs.Formula as Written
use Rattle.formula.specs.Node.{fields_at, head_of, tree_in, node_size}
use Rattle.formula.specs.Node as Node
use Rattle.formula.specs.Term.{Term, Terms, ◌and◌, apply, branch, branch_term, end, junction_term, literal, miscounted, symbol, term, term_count, term_from, terms, truth}
use Rattle.machine.specs.Check.{Context, Fault, all_kind, any_dynamic, faults}
use Rattle.machine.specs.Lower.{instruction_count, instruction_counts, register_count, register_counts, result_registers}
use Rattle.layout.specs.Opcode.{listing, operation_number}
use Rattle.layout.specs.Image.{below, entries, entry_count, entry_counts, lists, operation_slot, own_entries, path_counts, slots}
use Rattle.layout.proofs.Lengths.{length_below_all, length_entries, length_lists_all, length_operation_slot, length_result_registers, length_slots_all}
use Rattle.writer.specs.Over.{over}
use Rattle.writer.proofs.Over.{over_length, over_nil, over_over}
use Rattle.reader.specs.Read.{written as written_fields}
use Rattle.reader.specs.declared.Fields.{Fields}
use Rattle.lower.specs.Bytes.{Chunk, laid, written}
use Rattle.lower.specs.Operators.{arity_at, chooses_at, gives_boolean, listing_at, opcode_at, stepped_at, takes_boolean}
use Rattle.lower.specs.Piece.{Kept, Piece, Says, SaysAt, Sound, arm, context_of, finish_piece, inner_count, is_boolean, joined, junction_of, kids, kind_if, leaf, listed, operands_piece, own_piece, past, place}
use Rattle.lower.specs.Ready.{Ready}
use Rattle.lower.specs.declared.Layout.{Layout}
use Rattle.lower.specs.declared.Cursor.{Cursor}
use Rattle.lower.specs.declared.Site.{Site}
use Rattle.lower.specs.declared.Value.{Value}
use Rattle.lower.specs.Low.{Low, Done, Faulty}
use Rattle.lower.proofs.Laid.{Fits, laid_after}
use Rattle.lower.proofs.Frames.{Same}
use Rattle.lower.proofs.Keeps.{kept_laid, kept_then}
use Rattle.lower.proofs.Says.{Refused, says_done, says_fault}
use Rattle.lower.proofs.Kids.{Known, Node, arm_one, boolean_head_is, choice_head_is, kids_none, kids_step, known, number_head_is, past_one, stands, symbol_head_is, truth_head_is}
use Rattle.lower.proofs.Compose.{fewer_registers_all, fits_room, place_same, ready_from, refused_up}
use Rattle.lower.proofs.Branches.{kind_back}
use Rattle.lower.proofs.Collects.{Collected}

-- ---- counts of children

pub count_kids : (b : List ℕ) (d n at : ℕ) → term_count (terms (kids b d n at)) ≡ n
unfolding kids
count_kids b d zero at = refl
count_kids b d (suc n) at = ap suc (count_kids b d n (at + node_size * size (tree_in d b at)))

few_joined : (j : Junction) (ts : Terms) → term_count ts < 2 → junction_term j ts ≡ miscounted
few_joined j end h = refl
few_joined j (t and end) h = refl
few_joined j (t and u and us) h = absurd (omega arith)

more_joined : (j : Junction) (ts : Terms) → 2 ≤ term_count ts → junction_term j ts ≡ joined j ts
more_joined j end h = absurd (omega arith)
more_joined j (t and end) h = absurd (omega arith)
more_joined j (t and u and us) h = refl

not_three : (ts : Terms) → (term_count ts ≡ 3 → ⊥) → branch_term ts ≡ miscounted
not_three end h = refl
not_three (a and end) h = refl
not_three (a and b and end) h = refl
not_three (a and b and c and end) h = absurd (h refl)
not_three (a and b and c and d and ds) h = refl

pub three_kids : (b : List ℕ) (d n at : ℕ) → n ≡ 3
    → branch_term (terms (kids b d n at)) ≡ branch (arm b d true 1 at) (arm b d true 1 (past b d 1 at)) (arm b d true 1 (past b d 1 (past b d 1 at)))
three_kids b d n at e =
    let x₁ = past_one b d 1 at refl in
    let x₂ = past_one b d 1 (past b d 1 at) refl in
    let k₁ = kids_step b d n at (λ z. omega arith) in
    let k₂ = kids_step b d (n - 1) (at + node_size * size (tree_in d b at)) (λ z. omega arith) in
    let at₂ = at + node_size * size (tree_in d b at) in
    let k₃ = kids_step b d (n - 1 - 1) (at₂ + node_size * size (tree_in d b at₂)) (λ z. omega arith) in
    let at₃ = at₂ + node_size * size (tree_in d b at₂) in
    let k₄ = kids_none b d (at₃ + node_size * size (tree_in d b at₃)) (n - 1 - 1 - 1) (omega arith) in
    rw (k₁, k₂, k₃, k₄, arm_one b d 1 at true refl, arm_one b d 1 (past b d 1 at) true refl, arm_one b d 1 (past b d 1 (past b d 1 at)) true refl, x₂, x₁)

-- ---- a node and its fields

module _ (b : List ℕ) (d at : ℕ) (f : Fields) (is_f : written_fields f ≡ fields_at b at) (w : well_formed (tree_in d b at) ≡ true) where
  abbrev N : Node b d at
  N = stands b d at w

  abbrev h : Head
  h = N.head

  head_is : head_of (written_fields f) ≡ some h
  head_is = ap head_of is_f ∙ N.is_head

  abbrev ks : Formulas
  ks = kids b (d - 1) f.children (at + node_size)

  same_kids : kids b (d - 1) (fields_at b at).children (at + node_size) ≡ ks
  same_kids = ap (λ (x : Node.Fields). kids b (d - 1) x.children (at + node_size)) (sym is_f)

  pub tree_is : tree_in d b at ≡ Written.node h ks
  tree_is = N.tree ∙ ap (λ (x : Formulas). Written.node h x) same_kids

  pub kids_well : Rattle.formula.specs.Formula.all_well_formed ks ≡ true
  kids_well = subst (λ (x : Formulas). Rattle.formula.specs.Formula.all_well_formed x ≡ true) same_kids N.all

  pub node_deep : 0 < d
  node_deep = N.deep

  pub node_inside : at + node_size ≤ length b
  node_inside = N.inside

  pub size_is : size (tree_in d b at) ≡ suc (sizes ks)
  size_is = ap size tree_is

  pub past_is : past b (d - 1) f.children (at + node_size) ≡ at + node_size * size (tree_in d b at)
  past_is = omega (arith, size_is)

  term_is : term (tree_in d b at) ≡ term_from h (terms ks)
  term_is = ap term tree_is

  no_kids : f.children ≡ 0 → ks ≡ last
  no_kids e = kids_none b (d - 1) (at + node_size) f.children e

  leaf_is : (g : Head) (t : Term) → h ≡ g → f.children ≡ 0 → term_from g end ≡ t → term (tree_in d b at) ≡ t
  leaf_is g t e n x = term_is ∙ ap₂ (λ (y : Head) (z : Formulas). term_from y (terms z)) e (no_kids n) ∙ x

  pub leaf_term_is : f.kind < 3 → term (tree_in d b at) ≡ leaf f
  leaf_term_is l = go f.kind refl
    where
      go : (k : ℕ) → f.kind ≡ k → term (tree_in d b at) ≡ leaf f
      go zero e = let x = number_head_is (written_fields f) h head_is e in leaf_is (number f.value) (literal f.value) x.0 x.1 refl ∙ sym (rw (eq-eqb f.kind 0 e))
      go (suc zero) e =
          let x = truth_head_is (written_fields f) h head_is e in
          leaf_is (Written.truth (eqb f.value 1)) (truth (eqb f.value 1)) x.0 x.1 refl ∙ sym (rw (ne_eqb f.kind 0 (λ z. omega arith), eq-eqb f.kind 1 e))
      go (suc (suc zero)) e =
          let x = symbol_head_is (written_fields f) h head_is e in
          leaf_is (Written.symbol f.symbol) (symbol f.symbol) x.0 x.1 refl ∙ sym (rw (ne_eqb f.kind 0 (λ z. omega arith), ne_eqb f.kind 1 (λ z. omega arith)))
      go (suc (suc (suc k))) e = absurd (omega arith)

  pub leaf_size : f.kind < 3 → at + node_size ≡ at + node_size * size (tree_in d b at)
  leaf_size l = go f.kind refl
    where
      done : f.children ≡ 0 → at + node_size ≡ at + node_size * size (tree_in d b at)
      done n = omega (arith, size_is, ap sizes (no_kids n))

      go : (k : ℕ) → f.kind ≡ k → at + node_size ≡ at + node_size * size (tree_in d b at)
      go zero e = done (number_head_is (written_fields f) h head_is e).1
      go (suc zero) e = done (truth_head_is (written_fields f) h head_is e).1
      go (suc (suc zero)) e = done (symbol_head_is (written_fields f) h head_is e).1
      go (suc (suc (suc k))) e = absurd (omega arith)

  -- And and Or
  junction_is : f.kind ≡ 6 → term (tree_in d b at) ≡ junction_term (junction_of (eqb f.operator 0)) (terms ks)
  junction_is e = term_is ∙ ap (λ (x : Head). term_from x (terms ks)) (boolean_head_is (written_fields f) h head_is e)

  pub few_is : f.kind ≡ 6 → f.children < 2 → term (tree_in d b at) ≡ miscounted
  few_is e l = junction_is e ∙ few_joined (junction_of (eqb f.operator 0)) (terms ks) (omega (arith, count_kids b (d - 1) f.children (at + node_size)))

  pub link_is : f.kind ≡ 6 → 2 ≤ f.children → term (tree_in d b at) ≡ arm b (d - 1) (eqb f.operator 0) f.children (at + node_size)
  unfolding arm
  link_is e l = junction_is e ∙ more_joined (junction_of (eqb f.operator 0)) (terms ks) (omega (arith, count_kids b (d - 1) f.children (at + node_size)))

  -- conditionals
  choice_is : chooses_at f.kind f.operator ≡ true → term (tree_in d b at) ≡ branch_term (terms ks)
  choice_is e =
      term_is
      ∙ ⊎_elim (λ (x : h ≡ conditional). ap (λ (y : Head). term_from y (terms ks)) x) (λ (x : h ≡ ifelse). ap (λ (y : Head). term_from y (terms ks)) x)
      (choice_head_is (written_fields f) h head_is e)

  pub wrong_is : chooses_at f.kind f.operator ≡ true → (f.children ≡ 3 → ⊥) → term (tree_in d b at) ≡ miscounted
  wrong_is e n = choice_is e ∙ not_three (terms ks) (λ x. n (sym (count_kids b (d - 1) f.children (at + node_size)) ∙ x))

  pub branch_is : chooses_at f.kind f.operator ≡ true → f.children ≡ 3
      → term (tree_in d b at)
      ≡ branch (arm b (d - 1) true 1 (at + node_size)) (arm b (d - 1) true 1 (past b (d - 1) 1 (at + node_size))) (arm b (d - 1) true 1 (past b (d - 1) 1 (past b (d - 1) 1 (at + node_size))))
  branch_is e n = choice_is e ∙ three_kids b (d - 1) f.children (at + node_size) n

  -- operations
  module _ (n₃ : 3 ≤ f.kind) (n₆ : f.kind ≡ 6 → ⊥) (nc : chooses_at f.kind f.operator ≡ false) where
    pub knows : Known f.kind f.operator f.children h
    knows = known (written_fields f) h head_is n₃ n₆ nc

    pub apply_is : term (tree_in d b at) ≡ apply knows.op (terms ks)
    apply_is = term_is ∙ ap (λ (x : Head). term_from x (terms ks)) knows.is_op

-- ---- an operation: its children, and then its own instruction

module _ {L : Layout} {p : List ℕ} {s : Site} {c : Cursor} (C : Context) (g : C.generated ≡ L.generated) (o : Operation) (ts : Terms) (f : Fields) (h : Head) (n : ℕ)
    (K : Known f.kind f.operator f.children h) (is_o : K.op ≡ o) (cnt : term_count ts ≡ f.children)
    (R : Ready L p s c (instruction_count (apply o ts)) (inner_count (apply o ts)) (entry_count (apply o ts))) where
  abbrev P : Path
  P = place L p s

  abbrev k : ℕ
  k = s.path

  abbrev lists? : Bool
  lists? = listing_at f.kind f.operator

  lists_is : lists? ≡ listing o
  lists_is = K.lists ∙ ap listing is_o

  abbrev want : Bool
  want = takes_boolean f.kind f.operator

  want_is : kind_if want ≡ argument_kind o
  want_is = ap kind_if K.takes ∙ kind_back (argument_kind K.op) ∙ ap argument_kind is_o

  abbrev A : Piece
  A = operands_piece C want ts P 0 k c n

  abbrev W : Piece
  W = own_piece C (apply o ts) P k c n

  pub ready_operands : Ready L p s c (instruction_counts ts) (path_counts ts) (entry_counts ts + cond lists? (0 + f.children) 0)
  ready_operands =
      let e : cond (listing o) (term_count ts) 0 ≡ cond lists? (0 + f.children) 0 =
      ap₂ (λ (x : Bool) (y : ℕ). cond x y 0) (sym lists_is) (cnt ∙ (let z : f.children ≡ 0 + f.children = omega arith in z)) in
      ready_from R p c _ _ _ (λ j x y. refl) refl (omega arith) (omega arith) (omega arith) (omega (arith, e)) R.registers R.sound

  pub operands_refused : (p₁ : List ℕ) (r : Low) (m : Refusal) (j : ℕ) → Refused A L c p p₁ m j → r ≡ Faulty m j → Says W L c p p₁ r
  operands_refused p₁ r m j F e = refused_up c p r W F F.kept e up
    where
      up : (x : Fault) → A.fault ≡ some x → W.fault ≡ some x
      up x z = unfold own_piece operands_piece in rw z

  module _ (p₁ : List ℕ) (v : Value) (e : Cursor) (kept : length p₁ ≡ length p) (U : Collected L lists? ts 0 A c p p₁ v e) where
    no_faults : faults C ts P 0 ≡ none
    unfolding operands_piece
    no_faults = U.faultless

    e_reg : e.reg ≡ c.reg + register_counts ts
    unfolding operands_piece
    e_reg = ap (λ (x : Cursor). x.reg) U.next

    e_code : e.code ≡ c.code + instruction_counts ts
    unfolding operands_piece
    e_code = ap (λ (x : Cursor). x.code) U.next

    e_path : e.path ≡ c.path + path_counts ts
    unfolding operands_piece
    e_path = ap (λ (x : Cursor). x.path) U.next

    pub e_entry : e.entry ≡ c.entry + entry_counts ts
    unfolding operands_piece
    e_entry = ap (λ (x : Cursor). x.entry) U.next

    A_entry : A.next.entry ≡ c.entry + entry_counts ts
    unfolding operands_piece
    A_entry = refl

    e_node : e.node ≡ n
    unfolding operands_piece
    e_node = ap (λ (x : Cursor). x.node) U.next

    len_a : (length A.chunk.code ≡ 24 * instruction_counts ts) × (length A.chunk.records ≡ 12 * path_counts ts) × (length A.chunk.lists ≡ 4 * entry_counts ts)
    unfolding operands_piece
    len_a = (length_slots_all ts k c.path c.reg c.code c.entry, length_below_all ts P 0 k c.path, length_lists_all ts c.reg)

    a_fits : Fits (length p) (32 + 24 * c.code) (L.paths + 12 * c.path) (L.lists + 4 * c.entry) A.chunk
    a_fits = fits_room ready_operands A.chunk _ _ _ len_a.0 len_a.1 len_a.2 (omega arith) (omega arith) (omega arith)

    abbrev own : List ℕ
    own = entries (own_entries o ts c.reg)

    abbrev with_own : Chunk
    with_own = record { code = A.chunk.code; records = A.chunk.records; lists = A.chunk.lists ++ own }

    len_own : length own ≡ 4 * cond (listing o) (term_count ts) 0
    len_own = length_entries (own_entries o ts c.reg) ∙ ap (λ (x : ℕ). 4 * x) (Rattle.layout.proofs.Lengths.length_own_entries o ts c.reg)

    abbrev q : List ℕ
    q = over (over p (32 + 24 * c.code) A.chunk.code) (L.paths + 12 * c.path) A.chunk.records

    q_length : length q ≡ length p
    q_length =
        over_length (over p (32 + 24 * c.code) A.chunk.code) (L.paths + 12 * c.path) A.chunk.records
        (omega (arith, over_length p (32 + 24 * c.code) A.chunk.code (omega (arith, a_fits.code, a_fits.records, a_fits.lists)), a_fits.records, a_fits.lists))
        ∙ over_length p (32 + 24 * c.code) A.chunk.code (omega (arith, a_fits.code, a_fits.records, a_fits.lists))

    -- the operation's own list stands behind its children's
    listed_own : (x : Bool) → x ≡ listing o → listed L x 0 A.next.entry (result_registers ts c.reg) (written L c p A.chunk) ≡ written L c p with_own
    unfolding laid
    listed_own false x =
        ap (λ (y : List ℕ). over q (L.lists + 4 * c.entry) y)
        (sym (append-nil A.chunk.lists) ∙ ap (λ (y : Bool). A.chunk.lists ++ entries (cond y (result_registers ts c.reg) [])) x)
    listed_own true x =
        let z : L.lists + 4 * (A.next.entry + 0) ≡ L.lists + 4 * c.entry + length A.chunk.lists = omega (arith, A_entry, len_a.2) in
        ap (λ (y : ℕ). over (over q (L.lists + 4 * c.entry) A.chunk.lists) y (entries (result_registers ts c.reg))) z
        ∙ over_over q (L.lists + 4 * c.entry) A.chunk.lists (entries (result_registers ts c.reg)) (omega (arith, q_length, a_fits.lists))
        ∙ ap (λ (y : Bool). over q (L.lists + 4 * c.entry) (A.chunk.lists ++ entries (cond y (result_registers ts c.reg) []))) x

    bytes₁ : p₁ ≡ written L c p with_own
    bytes₁ = U.bytes ∙ listed_own lists? lists_is

    own_fits : Fits (length p) (32 + 24 * c.code) (L.paths + 12 * c.path) (L.lists + 4 * c.entry) with_own
    own_fits =
        record {
          code = a_fits.code;
          records = a_fits.records;
          lists = omega (arith, length-append A.chunk.lists own, len_a.2, len_own, R.lists);
        }

    same₁ : Same L.paths p p₁ c.path
    same₁ =
        subst (λ (x : List ℕ). Same L.paths p x c.path) (sym bytes₁)
        (Rattle.lower.proofs.Frames.same_laid L.paths p (32 + 24 * c.code) (L.paths + 12 * c.path) (L.lists + 4 * c.entry) with_own c.path own_fits
        (omega (arith, len_a.0, R.code)) (omega arith))

    kept₁ : Kept L c p p₁
    kept₁ =
        subst (λ (x : List ℕ). Kept L c p x) (sym bytes₁)
        (kept_laid L c p with_own own_fits (omega (arith, len_a.0, R.code)) (omega (arith, len_a.1, R.records)))

    sound₁ : Sound L p₁ e.path
    sound₁ = subst (λ (x : Cursor). Sound L p₁ x.path) (sym U.next) U.sound

    pub ready_finish : Ready L p₁ s e 1 0 0
    ready_finish =
        ready_from R p₁ e _ _ _ same₁ kept (omega (arith, e_path)) (omega (arith, e_code)) (omega (arith, e_path)) (omega (arith, e_entry))
        (omega (arith, e_reg, e_code, fewer_registers_all ts, R.registers)) sound₁

    pub same_place : place L p₁ s ≡ P
    same_place = place_same R p₁ same₁

    abbrev F : Piece
    F = finish_piece (context_of [] L.generated) f v (place L p₁ s) k e

    v_a : v.a ≡ get_or (result_registers ts c.reg) 0 0
    unfolding operands_piece
    v_a = ap (λ (x : Value). x.a) U.value

    v_b : v.b ≡ get_or (result_registers ts c.reg) 1 0
    unfolding operands_piece
    v_b = ap (λ (x : Value). x.b) U.value

    v_c : v.c ≡ get_or (result_registers ts c.reg) 2 0
    unfolding operands_piece
    v_c = ap (λ (x : Value). x.c) U.value

    v_boolean : v.boolean ≡ all_kind (argument_kind o) ts
    unfolding operands_piece
    v_boolean = ap (λ (x : Value). x.boolean) U.value ∙ ap (λ (x : ValueKind). all_kind x ts) want_is

    v_dynamic : v.dynamic ≡ any_dynamic C ts
    unfolding operands_piece
    v_dynamic = ap (λ (x : Value). x.dynamic) U.value

    right_is : arity_at f.kind f.operator f.children ≡ arity o (term_count ts)
    right_is = K.right ∙ ap₂ (λ (x : Operation) (y : ℕ). arity x y) is_o (sym cnt)

    steps_is : stepped_at f.kind f.operator ≡ stepped o
    steps_is = K.steps ∙ ap stepped is_o

    gives_is : gives_boolean f.kind f.operator ≡ is_boolean (result_kind o)
    gives_is = K.gives ∙ ap (λ (x : Operation). is_boolean (result_kind x)) is_o

    code_is : opcode_at f.kind f.operator ≡ operation_number o
    code_is = K.code ∙ ap operation_number is_o

    fault_is : F.fault ≡ W.fault
    unfolding finish_piece own_piece
    fault_is = rw (no_faults, right_is, v_boolean, steps_is, v_dynamic, same_place, g)

    value_is : F.value ≡ W.value
    unfolding finish_piece own_piece
    value_is = rw (gives_is, v_dynamic, e_reg)

    next_is : F.next ≡ W.next
    unfolding finish_piece own_piece
    next_is =
        let x₁ : e.reg + 1 ≡ c.reg + register_count (apply o ts) = omega (arith, e_reg) in
        let x₂ : e.code + 1 ≡ c.code + instruction_count (apply o ts) = omega (arith, e_code) in
        let x₃ : cond lists? f.children 0 ≡ cond (listing o) (term_count ts) 0 = ap₂ (λ (y : Bool) (z : ℕ). cond y z 0) lists_is (sym cnt) in
        let x₄ : e.entry + cond lists? f.children 0 ≡ c.entry + (entry_counts ts + cond (listing o) (term_count ts) 0) = omega (arith, e_entry) in
        λ j. record { node = e_node j; reg = x₁ j; code = x₂ j; path = e_path j; entry = x₄ j }

    abbrev the_slot : List ℕ
    the_slot = operation_slot o (result_registers ts c.reg) (c.entry + entry_counts ts) (c.reg + register_counts ts) k

    slot_is : F.chunk.code ≡ the_slot
    unfolding finish_piece
    slot_is =
        let x : length (result_registers ts c.reg) ≡ f.children = length_result_registers ts c.reg ∙ cnt in
        rw (code_is, v_a, v_b, v_c, e_reg, e_entry, lists_is, x)

    F_records : (F.chunk.records ≡ []) × (F.chunk.lists ≡ [])
    unfolding finish_piece
    F_records = (refl, refl)

    W_chunk : record { code = with_own.code ++ the_slot; records = with_own.records; lists = with_own.lists } ≡ W.chunk
    unfolding own_piece operands_piece slots below lists
    W_chunk = refl

    all_fits : Fits (length p) (32 + 24 * c.code) (L.paths + 12 * c.path) (L.lists + 4 * c.entry) (record { code = with_own.code ++ the_slot; records = with_own.records; lists = with_own.lists })
    all_fits =
        record {
          code = omega (arith, length-append with_own.code the_slot, len_a.0, length_operation_slot o (result_registers ts c.reg) (c.entry + entry_counts ts) (c.reg + register_counts ts) k, R.code);
          records = own_fits.records;
          lists = own_fits.lists;
        }

    slot_over : (p₂ : List ℕ) → p₂ ≡ written L e p₁ F.chunk → p₂ ≡ over p₁ (32 + 24 * e.code) the_slot
    unfolding laid
    slot_over p₂ y =
        y ∙ ap₂ (λ (u w : List ℕ). over (over (over p₁ (32 + 24 * e.code) F.chunk.code) (L.paths + 12 * e.path) u) (L.lists + 4 * e.entry) w) F_records.0 F_records.1
        ∙ over_nil (over (over p₁ (32 + 24 * e.code) F.chunk.code) (L.paths + 12 * e.path) []) (L.lists + 4 * e.entry)
        ∙ over_nil (over p₁ (32 + 24 * e.code) F.chunk.code) (L.paths + 12 * e.path)
        ∙ ap (λ (u : List ℕ). over p₁ (32 + 24 * e.code) u) slot_is

    bytes_is : (p₂ : List ℕ) → p₂ ≡ written L e p₁ F.chunk → p₂ ≡ written L c p W.chunk
    bytes_is p₂ y =
        slot_over p₂ y
        ∙ ap (λ (u : List ℕ). over u (32 + 24 * e.code) the_slot) bytes₁
        ∙ laid_after p (32 + 24 * c.code) (L.paths + 12 * c.path) (L.lists + 4 * c.entry) the_slot with_own (32 + 24 * e.code) (omega (arith, e_code, len_a.0)) all_fits
        ∙ ap (λ (u : Chunk). written L c p u) W_chunk

    finish_at : (x : Option Fault) (p₂ : List ℕ) (r : Low) → F.fault ≡ x → SaysAt x F L e p₁ p₂ r → Says W L c p p₂ r
    finish_at none p₂ r y (d, b, t) =
        says_done W L c p p₂ r (sym fault_is ∙ y) (d ∙ ap₂ (λ (u : Value) (w : Cursor). Done u w) value_is next_is) (bytes_is p₂ b) (subst (λ (u : Cursor). Sound L p₂ u.path) next_is t)
    finish_at (some x) p₂ r y (j, d, b, t, z) =
        says_fault W L c p p₂ r x j (sym fault_is ∙ y) d b t (kept_then kept₁ z (omega (arith, e_code)) (omega (arith, e_path)) (omega (arith, e_entry)))

    pub finished : (p₂ : List ℕ) (r : Low) → Says F L e p₁ p₂ r → Says W L c p p₂ r
    unfolding Says
    finished p₂ r S = finish_at F.fault p₂ r refl S
