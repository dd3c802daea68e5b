-- The members of the cycle: what each asks of the others, and what it answers.
use mathlib.Core.Path.{◌≡◌, refl, sym, ap, ap₂, ◌∙◌, subst}
use mathlib.Core.Bool.{Bool, true, false, cond, not}
use mathlib.Core.List.{List, [], ◌++◌}
use mathlib.Core.Option.{none}
use Prim.Native.Nat.{ℕ, ◌+◌, ◌-◌, ◌*◌, ◌≤◌, ◌<◌}
use native.Mathlib.Omega.{arith}
use lib.ListN.{length, length-append}
use Rattle.refusals.specs.declared.Refusal.{Refusal}
use Rattle.formula.specs.Text.{little_endian}
use Rattle.formula.specs.Path.{Path, ◌▸◌, condition, step_text}
use Rattle.formula.specs.Formula.{all_well_formed, size}
use Rattle.formula.specs.Node.{tree_in, node_size}
use Rattle.formula.specs.Term.{Term, ◌and◌, branch, term, terms, truth}
use Rattle.machine.specs.Check.{Context}
use Rattle.machine.specs.Lower.{instruction_count, register_count}
use Rattle.machine.proofs.Laws.{instruction_count_pos}
use Rattle.layout.specs.Opcode.{step_of}
use Rattle.layout.specs.Image.{below, constant_slot, entry_count, lists, path_count, path_record, slots, truth_bits}
use Rattle.layout.proofs.Lengths.{length_below, length_lists, length_slots}
use Rattle.writer.specs.Over.{over}
use Rattle.lower.specs.Piece.{Piece, Says, Sound, arm, branch_piece, ends, inner_count, junction_of, kids, own_piece, past, place, term_piece}
use Rattle.lower.specs.Ready.{Ready}
use Rattle.lower.specs.declared.Layout.{Layout}
use Rattle.lower.specs.declared.Cursor.{Cursor}
use Rattle.lower.specs.declared.Site.{Site}
use Rattle.lower.specs.declared.Value.{Value}
use Rattle.lower.specs.Low.{Low, Done, Faulty}
use Rattle.lower.proofs.Laid.{laid_length}
use Rattle.lower.proofs.Frames.{Same}
use Rattle.lower.proofs.Says.{Refused, Taken, slot_done}
use Rattle.lower.proofs.Kids.{arm_and, arm_none, arm_one, arm_or, kids_step, past_none, past_one, past_step, rest_well}
use Rattle.lower.proofs.Compose.{fewer_registers, fits_room, inner_is, place_same, ready_entered, ready_from, same_written, with_record}
use Rattle.lower.proofs.Branches.{condition_refused, whole_branch}

ends_is : (j : Bool) → ends (junction_of j) ≡ not j
ends_is true = refl
ends_is false = refl

-- ---- a part with its own record

module _ {L : Layout} {p : List ℕ} {s : Site} {c : Cursor} (b : List ℕ) (d : ℕ) (j : Bool) (left : ℕ)
    (R : Ready L p s c (instruction_count (arm b d j left c.node)) (path_count (arm b d j left c.node)) (entry_count (arm b d j left c.node))) (step : ℕ) (hs : step < 65539)
    (site : Site) (p₁ : List ℕ) (es : site ≡ record { path = c.path; length = s.length + length (step_text (step_of step)) })
    (ep : p₁ ≡ over p (L.paths + 12 * c.path) (little_endian 4 s.path ++ little_endian 4 step ++ little_endian 4 (s.length + length (step_text (step_of step))))) where
  abbrev T : Term
  T = arm b d j left c.node

  abbrev c₁ : Cursor
  c₁ = record { node = c.node; reg = c.reg; code = c.code; path = c.path + 1; entry = c.entry }

  one : 1 ≤ path_count T
  one = omega (arith, inner_is T)

  pub ready_own : Ready L p₁ site c₁ (instruction_count T) (inner_count T) (entry_count T)
  ready_own =
      let r₀ = ready_entered R one step hs in
      let q : path_count T - 1 ≡ inner_count T = omega (arith, inner_is T) in
      subst (λ (x : ℕ). Ready L p₁ site c₁ (instruction_count T) x (entry_count T)) q
      (subst (λ (x : Site). Ready L p₁ x c₁ (instruction_count T) (path_count T - 1) (entry_count T)) (sym es)
      (subst (λ (x : List ℕ). Ready L x (record { path = c.path; length = s.length + length (step_text (step_of step)) }) c₁ (instruction_count T) (path_count T - 1) (entry_count T)) (sym ep) r₀))

  pub ready_one : left ≡ 1
      → Ready L p₁ site c₁ (instruction_count (term (tree_in d b c.node))) (inner_count (term (tree_in d b c.node))) (entry_count (term (tree_in d b c.node)))
  ready_one e = subst (λ (x : Term). Ready L p₁ site c₁ (instruction_count x) (inner_count x) (entry_count x)) (arm_one b d left c.node j e) ready_own

  module _ (C : Context) where
    abbrev W : Piece
    W = term_piece C T (place L p s ▸ step_of step) s.path c (past b d left c.node)

    pub own_done : (p₂ : List ℕ) (r : Low) → Says (own_piece C T (place L p₁ site) site.path c₁ (past b d left c.node)) L c₁ p₁ p₂ r → Says W L c p p₂ r
    own_done p₂ r S =
        with_record R one step hs C T (past b d left c.node) (omega arith) (omega arith) (omega arith) p₂ r
        (subst (λ (x : List ℕ). Says (own_piece C T (place L x (record { path = c.path; length = s.length + length (step_text (step_of step)) })) c.path c₁ (past b d left c.node)) L c₁ x p₂ r) ep
        (subst (λ (x : Site). Says (own_piece C T (place L p₁ x) x.path c₁ (past b d left c.node)) L c₁ p₁ p₂ r) es S))

    -- one child is itself
    pub one_done : left ≡ 1 → (p₂ : List ℕ) (r : Low)
        → Says (own_piece C (term (tree_in d b c.node)) (place L p₁ site) site.path c₁ (c.node + node_size * size (tree_in d b c.node))) L c₁ p₁ p₂ r → Says W L c p p₂ r
    one_done e p₂ r S =
        own_done p₂ r
        (subst (λ (x : Term). Says (own_piece C x (place L p₁ site) site.path c₁ (past b d left c.node)) L c₁ p₁ p₂ r) (sym (arm_one b d left c.node j e))
        (subst (λ (x : ℕ). Says (own_piece C (term (tree_in d b c.node)) (place L p₁ site) site.path c₁ x) L c₁ p₁ p₂ r) (sym (past_one b d left c.node e)) S))

    -- none is a constant
    abbrev v : Bool
    v = ends (junction_of j)

    abbrev O : Piece
    O = own_piece C (truth v) (place L p₁ site) site.path c₁ (past b d left c.node)

    truth_fault : O.fault ≡ none
    unfolding own_piece
    truth_fault = refl

    truth_chunk : O.chunk ≡ record { code = constant_slot (truth_bits v) c.reg site.path; records = []; lists = [] }
    unfolding own_piece slots below lists
    truth_chunk = refl

    truth_path : O.next.path ≡ c.path + 1
    unfolding own_piece
    truth_path = omega arith

    truth_value : record { a = c.reg; b = 0; c = 0; boolean = true; dynamic = false } ≡ O.value
    unfolding own_piece
    truth_value = refl

    truth_next : left ≡ 0 → record { node = c.node; reg = c.reg + 1; code = c.code + 1; path = c.path + 1; entry = c.entry } ≡ O.next
    unfolding own_piece
    truth_next e =
        let e₁ = sym (past_none b d left c.node e) in
        let e₂ : c.path + 1 ≡ c.path + 1 + 0 = omega arith in
        let e₃ : c.entry ≡ c.entry + 0 = omega arith in
        λ i. record { node = e₁ i; reg = c.reg + 1; code = c.code + 1; path = e₂ i; entry = e₃ i }

    pub none_done : left ≡ 0 → (p₂ : List ℕ) (r : Low)
        → r ≡ Done (record { a = c.reg; b = 0; c = 0; boolean = true; dynamic = false }) (record { node = c.node; reg = c.reg + 1; code = c.code + 1; path = c.path + 1; entry = c.entry })
        → (x : ℕ) → x ≡ truth_bits (not j) → p₂ ≡ over p₁ (32 + 24 * c.code) (constant_slot x c.reg site.path) → Says W L c p p₂ r
    none_done e p₂ r er x ex ep₂ =
        own_done p₂ r
        (subst (λ (x : Term). Says (own_piece C x (place L p₁ site) site.path c₁ (past b d left c.node)) L c₁ p₁ p₂ r) (sym (arm_none b d left c.node j e))
        (slot_done L p₁ site c₁ (instruction_count T) (inner_count T) (entry_count T) ready_own (constant_slot (truth_bits v) c.reg site.path) refl
        (omega (arith, instruction_count_pos T)) p₂ (ep₂ ∙ ap (λ (y : ℕ). over p₁ (32 + 24 * c.code) (constant_slot y c.reg site.path)) (ex ∙ ap truth_bits (sym (ends_is j)))) O r truth_fault truth_chunk (er ∙ ap₂ (λ (x : Value) (y : Cursor). Done x y) truth_value (truth_next e)) truth_path))

-- ---- a conditional: its condition, and then its arms

module _ {L : Layout} {p : List ℕ} {s : Site} {c : Cursor} (C : Context) (t y z : Term) (n₁ n₂ : ℕ)
    (R : Ready L p s c (instruction_count (branch t y z)) (inner_count (branch t y z)) (entry_count (branch t y z))) where
  abbrev A : Piece
  A = term_piece C t (place L p s ▸ condition) s.path c n₁

  abbrev X : Piece
  X = own_piece C (branch t y z) (place L p s) s.path c n₂

  pub ready_condition : Ready L p s c (instruction_count t) (path_count t) (entry_count t)
  ready_condition = ready_from R p c _ _ _ (λ i x w. refl) refl (omega arith) (omega arith) (omega arith) (omega arith) R.registers R.sound

  pub condition_fault : (p₁ : List ℕ) (r : Low) (m : Refusal) (k : ℕ) → Refused A L c p p₁ m k → r ≡ Faulty m k → Says X L c p p₁ r
  condition_fault p₁ r m k F e = condition_refused R C t y z (place L p s) n₁ n₂ (omega arith) (omega arith) (omega arith) p₁ r m k F e

  module _ (p₁ : List ℕ) (v : Value) (e : Cursor) (T : Taken A L c p p₁ v e) where
    c_reg : e.reg ≡ c.reg + register_count t
    unfolding term_piece
    c_reg = ap (λ (x : Cursor). x.reg) T.next

    c_code : e.code ≡ c.code + instruction_count t
    unfolding term_piece
    c_code = ap (λ (x : Cursor). x.code) T.next

    c_path : e.path ≡ c.path + path_count t
    unfolding term_piece
    c_path = ap (λ (x : Cursor). x.path) T.next

    c_entry : e.entry ≡ c.entry + entry_count t
    unfolding term_piece
    c_entry = ap (λ (x : Cursor). x.entry) T.next

    pub c_node : e.node ≡ n₁
    unfolding term_piece
    c_node = ap (λ (x : Cursor). x.node) T.next

    len_a : (length A.chunk.code ≡ 24 * instruction_count t) × (length A.chunk.records ≡ 12 * path_count t) × (length A.chunk.lists ≡ 4 * entry_count t)
    unfolding term_piece
    len_a = (
      length_slots t c.path (c.path + 1) c.reg c.code c.entry,
      omega (arith, length-append (path_record s.path (place L p s ▸ condition)) (below t (place L p s ▸ condition) c.path (c.path + 1)), length_below t (place L p s ▸ condition) c.path (c.path + 1)),
      length_lists t c.reg,
    )

    c_same : Same L.paths p p₁ c.path
    c_same =
        subst (λ (x : List ℕ). Same L.paths p x c.path) (sym T.bytes)
        (same_written ready_condition A.chunk _ _ _ len_a.0 len_a.1 len_a.2 (omega arith) (omega arith) (omega arith))

    c_length : length p₁ ≡ length p
    c_length =
        ap length T.bytes
        ∙ laid_length p (32 + 24 * c.code) (L.paths + 12 * c.path) (L.lists + 4 * c.entry) A.chunk
        (fits_room ready_condition A.chunk _ _ _ len_a.0 len_a.1 len_a.2 (omega arith) (omega arith) (omega arith))

    c_sound : Sound L p₁ e.path
    c_sound = subst (λ (x : Cursor). Sound L p₁ x.path) (sym T.next) T.sound

    pub ready_arms : Ready L p₁ s e (4 + instruction_count y + instruction_count z) (path_count y + path_count z) (entry_count y + entry_count z)
    ready_arms =
        ready_from R p₁ e _ _ _ c_same c_length (omega (arith, c_path)) (omega (arith, c_code)) (omega (arith, c_path)) (omega (arith, c_entry))
        (omega (arith, c_reg, c_code, fewer_registers t, R.registers)) c_sound

    pub arms_done : (p₂ : List ℕ) (r : Low) → Says (branch_piece C v y z (place L p₁ s) s.path e n₂) L e p₁ p₂ r → Says X L c p p₂ r
    arms_done p₂ r S =
        whole_branch R C t y z (place L p s) n₁ n₂ (omega arith) (omega arith) (omega arith) p₁ p₂ v e r T
        (subst (λ (x : Path). Says (branch_piece C v y z x s.path e n₂) L e p₁ p₂ r) (place_same R p₁ c_same) S)

-- ---- And and Or: the first child is a condition, the others are one of its arms

abbrev pub yes_of : Bool → ℕ → ℕ
yes_of j left = cond j (left - 1) 0

abbrev pub no_of : Bool → ℕ → ℕ
no_of j left = cond j 0 (left - 1)

link_splits : (b : List ℕ) (d left at : ℕ) (j : Bool) → 2 ≤ left
    → arm b d j left at ≡ branch (arm b d true 1 at) (arm b d j (yes_of j left) (past b d 1 at)) (arm b d j (no_of j left) (past b d (yes_of j left) (past b d 1 at)))
link_splits b d left at true h =
    arm_and b d left at h
    ∙ rw (arm_one b d 1 at true refl, past_one b d 1 at refl, arm_none b d 0 (past b d (left - 1) (at + node_size * size (tree_in d b at))) true refl)
link_splits b d left at false h =
    arm_or b d left at h
    ∙ rw (arm_one b d 1 at true refl, past_one b d 1 at refl, arm_none b d 0 (at + node_size * size (tree_in d b at)) false refl, past_none b d 0 (at + node_size * size (tree_in d b at)) refl)

link_past : (b : List ℕ) (d left at : ℕ) (j : Bool) → 2 ≤ left → past b d (no_of j left) (past b d (yes_of j left) (past b d 1 at)) ≡ past b d left at
link_past b d left at true h =
    past_none b d 0 (past b d (left - 1) (past b d 1 at)) refl ∙ ap (λ (x : ℕ). past b d (left - 1) x) (past_one b d 1 at refl) ∙ past_step b d left at (λ z. omega arith)
link_past b d left at false h =
    ap (λ (x : ℕ). past b d (left - 1) x) (past_none b d 0 (past b d 1 at) refl ∙ past_one b d 1 at refl) ∙ past_step b d left at (λ z. omega arith)

-- ---- the children of an operation

pub operands_split : (b : List ℕ) (d left at : ℕ) → (left ≡ 0 → ⊥) → terms (kids b d left at) ≡ arm b d true 1 at and terms (kids b d (left - 1) (past b d 1 at))
operands_split b d left at n =
    ap terms (kids_step b d left at n) ∙ rw (arm_one b d 1 at true refl, past_one b d 1 at refl)

pub operands_past : (b : List ℕ) (d left at : ℕ) → (left ≡ 0 → ⊥) → past b d (left - 1) (past b d 1 at) ≡ past b d left at
operands_past b d left at n = ap (λ (x : ℕ). past b d (left - 1) x) (past_one b d 1 at refl) ∙ past_step b d left at n

-- ---- a term that is a conditional of children

-- the term T of some children from a byte on is a conditional: the first is its condition, the others are its arms, and m is their end
pub record Split (b : List ℕ) (d : ℕ) (j : Bool) (y₀ n₀ : ℕ) (T : Term) (m at : ℕ) : Type 0 where
  pub splits : T ≡ branch (arm b d true 1 at) (arm b d j y₀ (past b d 1 at)) (arm b d j n₀ (past b d y₀ (past b d 1 at)))
  pub end_is : past b d n₀ (past b d y₀ (past b d 1 at)) ≡ m

pub link_split : (b : List ℕ) (d left at : ℕ) (j : Bool) → 2 ≤ left → Split b d j (yes_of j left) (no_of j left) (arm b d j left at) (past b d left at) at
link_split b d left at j h = record { splits = link_splits b d left at j h; end_is = link_past b d left at j h }

module _ {L : Layout} {p : List ℕ} {s : Site} {c : Cursor} {b : List ℕ} {d : ℕ} {j : Bool} {y₀ n₀ : ℕ} {T : Term} {m : ℕ} (X : Split b d j y₀ n₀ T m c.node)
    (R : Ready L p s c (instruction_count T) (inner_count T) (entry_count T)) (C : Context) where
  abbrev at₁ : ℕ
  at₁ = past b d 1 c.node

  abbrev T₁ : Term
  T₁ = arm b d true 1 c.node

  abbrev Y : Term
  Y = arm b d j y₀ at₁

  abbrev Z : Term
  Z = arm b d j n₀ (past b d y₀ at₁)

  abbrev A₁ : Piece
  A₁ = term_piece C T₁ (place L p s ▸ condition) s.path c at₁

  R' : Ready L p s c (instruction_count (branch T₁ Y Z)) (inner_count (branch T₁ Y Z)) (entry_count (branch T₁ Y Z))
  R' = subst (λ (x : Term). Ready L p s c (instruction_count x) (inner_count x) (entry_count x)) X.splits R

  abbrev U : Piece
  U = own_piece C T (place L p s) s.path c m

  as_split : (p₂ : List ℕ) (r : Low) → Says (own_piece C (branch T₁ Y Z) (place L p s) s.path c (past b d n₀ (past b d y₀ at₁))) L c p p₂ r → Says U L c p p₂ r
  as_split p₂ r S =
      subst (λ (x : ℕ). Says (own_piece C T (place L p s) s.path c x) L c p p₂ r) X.end_is
      (subst (λ (x : Term). Says (own_piece C x (place L p s) s.path c (past b d n₀ (past b d y₀ at₁))) L c p p₂ r) (sym X.splits) S)

  pub split_first : Ready L p s c (instruction_count T₁) (path_count T₁) (entry_count T₁)
  split_first = ready_condition C T₁ Y Z at₁ (past b d n₀ (past b d y₀ at₁)) R'

  pub split_refused : (p₁ : List ℕ) (r : Low) (i : Refusal) (k : ℕ) → Refused A₁ L c p p₁ i k → r ≡ Faulty i k → Says U L c p p₁ r
  split_refused p₁ r i k F e = as_split p₁ r (condition_fault C T₁ Y Z at₁ (past b d n₀ (past b d y₀ at₁)) R' p₁ r i k F e)

  module _ (p₁ : List ℕ) (v : Value) (e : Cursor) (K : Taken A₁ L c p p₁ v e) where
    pub split_node : e.node ≡ at₁
    split_node = c_node C T₁ Y Z at₁ (past b d n₀ (past b d y₀ at₁)) R' p₁ v e K

    module _ (yes' no' : ℕ) (ey : yes' ≡ y₀) (en : no' ≡ n₀) where
      same_y : Y ≡ arm b d j yes' e.node
      same_y = ap₂ (λ (x i : ℕ). arm b d j x i) (sym ey) (sym split_node)

      same_past : past b d y₀ at₁ ≡ past b d yes' e.node
      same_past = ap₂ (λ (x i : ℕ). past b d x i) (sym ey) (sym split_node)

      same_z : Z ≡ arm b d j no' (past b d yes' e.node)
      same_z = ap₂ (λ (x i : ℕ). arm b d j x i) (sym en) same_past

      same_end : past b d no' (past b d yes' e.node) ≡ past b d n₀ (past b d y₀ at₁)
      same_end = ap₂ (λ (x i : ℕ). past b d x i) en (sym same_past)

      pub split_arms : Ready L p₁ s e (4 + instruction_count (arm b d j yes' e.node) + instruction_count (arm b d j no' (past b d yes' e.node)))
          (path_count (arm b d j yes' e.node) + path_count (arm b d j no' (past b d yes' e.node))) (entry_count (arm b d j yes' e.node) + entry_count (arm b d j no' (past b d yes' e.node)))
      split_arms =
          subst (λ (x : Term). Ready L p₁ s e (4 + instruction_count (arm b d j yes' e.node) + instruction_count x) (path_count (arm b d j yes' e.node) + path_count x) (entry_count (arm b d j yes' e.node) + entry_count x)) same_z
          (subst (λ (x : Term). Ready L p₁ s e (4 + instruction_count x + instruction_count Z) (path_count x + path_count Z) (entry_count x + entry_count Z)) same_y
          (ready_arms C T₁ Y Z at₁ (past b d n₀ (past b d y₀ at₁)) R' p₁ v e K))

      pub split_done : (p₂ : List ℕ) (r : Low)
          → Says (branch_piece C v (arm b d j yes' e.node) (arm b d j no' (past b d yes' e.node)) (place L p₁ s) s.path e (past b d no' (past b d yes' e.node))) L e p₁ p₂ r → Says U L c p p₂ r
      split_done p₂ r S =
          as_split p₂ r
          (arms_done C T₁ Y Z at₁ (past b d n₀ (past b d y₀ at₁)) R' p₁ v e K p₂ r
          (subst (λ (x : ℕ). Says (branch_piece C v Y Z (place L p₁ s) s.path e x) L e p₁ p₂ r) same_end
          (subst (λ (x : Term). Says (branch_piece C v x Z (place L p₁ s) s.path e (past b d no' (past b d yes' e.node))) L e p₁ p₂ r) (sym same_y)
          (subst (λ (x : Term). Says (branch_piece C v (arm b d j yes' e.node) x (place L p₁ s) s.path e (past b d no' (past b d yes' e.node))) L e p₁ p₂ r) (sym same_z) S))))

-- ---- the other children are well formed too

pub rest_well_at : (b : List ℕ) (d left at x : ℕ) → (left ≡ 0 → ⊥) → all_well_formed (kids b d left at) ≡ true → x ≡ past b d 1 at → all_well_formed (kids b d (left - 1) x) ≡ true
rest_well_at b d left at x n w e = subst (λ (y : ℕ). all_well_formed (kids b d (left - 1) y) ≡ true) (sym (e ∙ past_one b d 1 at refl)) (rest_well b d left at n w)

pub rest_well_past : (b : List ℕ) (d left at x : ℕ) → (left ≡ 0 → ⊥) → all_well_formed (kids b d left at) ≡ true → x ≡ past b d 1 at
    → all_well_formed (kids b d (left - 1) (past b d 0 x)) ≡ true
rest_well_past b d left at x n w e = subst (λ (y : ℕ). all_well_formed (kids b d (left - 1) y) ≡ true) (sym (past_none b d 0 x refl)) (rest_well_at b d left at x n w e)
