-- The same answer, at another place of the formula or of another name.
use mathlib.Core.Path.{◌≡◌, refl, sym, ◌∙◌, subst}
use mathlib.Core.Bool.{Bool, true, false, cond}
use mathlib.Core.List.{List}
use mathlib.Core.Option.{Option, none, some}
use Prim.Native.Nat.{ℕ, ◌+◌, ◌-◌}
use native.Mathlib.Omega.{arith}
use lib.Dec.{eqb}
use Rattle.refusals.specs.declared.Refusal.TheVariants.{InvalidInput}
use Rattle.formula.specs.Path.{Path, Step, ◌▸◌, argument}
use Rattle.formula.specs.Formula.{all_well_formed}
use Rattle.formula.specs.Term.{Term, Terms, ◌and◌, literal, miscounted, symbol, term_count, terms, truth}
use Rattle.machine.specs.Check.{Context, Fault, fault}
use Rattle.machine.specs.Lower.{instruction_count, instruction_counts}
use Rattle.layout.specs.Opcode.{step_of}
use Rattle.layout.proofs.Records.{step_back}
use Rattle.layout.specs.Image.{entry_count, entry_counts, path_count, path_counts}
use Rattle.reader.specs.declared.Fields.{Fields}
use Rattle.lower.specs.Piece.{Lists, Piece, Says, SaysAt, arm, context_of, inner_count, kids, leaf, operands_piece, own_piece, past, place, term_piece}
use Rattle.lower.specs.Ready.{Ready}
use Rattle.lower.specs.declared.Layout.{Layout}
use Rattle.lower.specs.declared.Cursor.{Cursor}
use Rattle.lower.specs.declared.Site.{Site}
use Rattle.lower.specs.declared.Choice.{Choice}
use Rattle.lower.specs.declared.Source.{Source}
use Rattle.lower.specs.Low.{Low, Faulty}
use Rattle.lower.proofs.Keeps.{kept_here, kept_then}
use Rattle.lower.proofs.Says.{here}
use Rattle.lower.proofs.Choices.{Arms, arms}
use Rattle.lower.proofs.Compose.{ready_from}
use Rattle.lower.proofs.Kids.{first_well, one_well}
use Rattle.lower.proofs.Lowers.{operands_past, operands_split, rest_well_at}
use Rattle.lower.proofs.Wholes.{count_kids}

-- what is next free, at another node
abbrev pub moved : Cursor → ℕ → Cursor
moved c n = record { node = n; reg = c.reg; code = c.code; path = c.path; entry = c.entry }

pub ready_moved : {L : Layout} {p : List ℕ} {s : Site} {c : Cursor} {I Q E : ℕ} → Ready L p s c I Q E → (n : ℕ) → Ready L p s (moved c n) I Q E
ready_moved {L} {p} {s} {c} R n = ready_from R p (moved c n) _ _ _ (λ i x y. refl) refl (omega arith) (omega arith) (omega arith) (omega arith) R.registers R.sound

pub ready_term : {L : Layout} {p : List ℕ} {s : Site} {c : Cursor} (t t' : Term) → t ≡ t' → Ready L p s c (instruction_count t) (inner_count t) (entry_count t) → (n : ℕ)
    → Ready L p s (moved c n) (instruction_count t') (inner_count t') (entry_count t')
ready_term {L} {p} {s} {c} t t' e R n = ready_moved (subst (λ (x : Term). Ready L p s c (instruction_count x) (inner_count x) (entry_count x)) e R) n

said_at : (o : Option Fault) (P : Piece) (L : Layout) (c : Cursor) (m : ℕ) (p p' : List ℕ) (r : Low) → SaysAt o P L (moved c m) p p' r → SaysAt o P L c p p' r
said_at none P L c m p p' r S = S
said_at (some x) P L c m p p' r (k, a, b, s, h) = (k, a, b, s, kept_then (kept_here L c p) h (omega arith) (omega arith) (omega arith))

says_moved : (L : Layout) (C : Context) (t : Term) (P : Path) (k n m : ℕ) (c : Cursor) (p p' : List ℕ) (r : Low) → Says (own_piece C t P k (moved c m) n) L (moved c m) p p' r
    → Says (own_piece C t P k c n) L c p p' r
unfolding Says own_piece
says_moved L C t P k n m c p p' r S = said_at (fault C t P) (own_piece C t P k c n) L c m p p' r S

pub as_node : (L : Layout) (C : Context) (t t' : Term) (P : Path) (k n n' m : ℕ) (c : Cursor) (p p' : List ℕ) (r : Low) → t ≡ t' → n ≡ n'
    → Says (own_piece C t' P k (moved c m) n) L (moved c m) p p' r → Says (own_piece C t P k c n') L c p p' r
as_node L C t t' P k n n' m c p p' r e f S =
    subst (λ (x : ℕ). Says (own_piece C t P k c x) L c p p' r) f
    (subst (λ (x : Term). Says (own_piece C x P k c n) L c p p' r) (sym e) (says_moved L C t' P k n m c p p' r S))

-- a wrong count of children is refused before they are looked at
pub miscounted_here : {L : Layout} {p : List ℕ} {s : Site} {c : Cursor} {I Q E : ℕ} (R : Ready L p s c I Q E) (C : Context) (t : Term) (n : ℕ) → t ≡ miscounted
    → Says (own_piece C t (place L p s) s.path c n) L c p p (Faulty InvalidInput s.path)
miscounted_here {L} {p} {s} {c} {I} {Q} {E} R C t n e = here L p s c I Q E R (own_piece C t (place L p s) s.path c n) 5 (faulty C t n (place L p s) s.path c e)
  where
    faulty : (C : Context) (t : Term) (n : ℕ) (P : Path) (k : ℕ) (c : Cursor) → t ≡ miscounted → (own_piece C t P k c n).fault ≡ some (record { number = 5; place = P })
    faulty C t n P k c e = unfold own_piece in rw e

-- a leaf is one instruction
pub leaf_ready : {L : Layout} {p : List ℕ} {s : Site} {c : Cursor} (f : Fields) → Ready L p s c (instruction_count (leaf f)) (inner_count (leaf f)) (entry_count (leaf f)) → Ready L p s c 1 0 0
leaf_ready {L} {p} {s} {c} f R = go (eqb f.kind 0) (eqb f.kind 1) R
  where
    go : (a d : Bool)
        → Ready L p s c (instruction_count (cond a (literal f.value) (cond d (truth (eqb f.value 1)) (symbol f.symbol))))
        (inner_count (cond a (literal f.value) (cond d (truth (eqb f.value 1)) (symbol f.symbol)))) (entry_count (cond a (literal f.value) (cond d (truth (eqb f.value 1)) (symbol f.symbol))))
        → Ready L p s c 1 0 0
    go true d r = r
    go false true r = r
    go false false r = r

-- an arm that stands where the one before it ended
pub arm_at : (L : Layout) (C : Context) (b : List ℕ) (d : ℕ) (j : Bool) (left : ℕ) (P : Path) (k : ℕ) (c : Cursor) (p p' : List ℕ) (r : Low) (x y : ℕ) → x ≡ y
    → Says (term_piece C (arm b d j left x) P k c (past b d left x)) L c p p' r → Says (term_piece C (arm b d j left y) P k c (past b d left y)) L c p p' r
arm_at L C b d j left P k c p p' r x y e S = subst (λ (z : ℕ). Says (term_piece C (arm b d j left z) P k c (past b d left z)) L c p p' r) e S

pub arm_ready : {L : Layout} {p : List ℕ} {s : Site} {c : Cursor} (b : List ℕ) (d : ℕ) (j : Bool) (left x y : ℕ) → x ≡ y
    → Ready L p s c (instruction_count (arm b d j left x)) (path_count (arm b d j left x)) (entry_count (arm b d j left x))
    → Ready L p s c (instruction_count (arm b d j left y)) (path_count (arm b d j left y)) (entry_count (arm b d j left y))
arm_ready {L} {p} {s} {c} b d j left x y e R = subst (λ (z : ℕ). Ready L p s c (instruction_count (arm b d j left z)) (path_count (arm b d j left z)) (entry_count (arm b d j left z))) e R

-- the arms of a choice
abbrev pub arms_of : {p : List ℕ} {s : Site} {c : Cursor} (S : Source) (d : ℕ) (A : Choice)
    → let y = arm S.bytes.now d A.yes.conjunction A.yes.left c.node in
    let z = arm S.bytes.now d A.no.conjunction A.no.left (past S.bytes.now d A.yes.left c.node) in
    Ready S.layout p s c (4 + instruction_count y + instruction_count z) (path_count y + path_count z) (entry_count y + entry_count z)
    → Arms S.layout p s c
arms_of {p} {s} {c} S d A R =
    arms (context_of S.kinds.now S.layout.generated) refl (arm S.bytes.now d A.yes.conjunction A.yes.left c.node)
    (arm S.bytes.now d A.no.conjunction A.no.left (past S.bytes.now d A.yes.left c.node)) A.condition (past S.bytes.now d A.yes.left c.node)
    (past S.bytes.now d A.no.left (past S.bytes.now d A.yes.left c.node)) R

-- an arm by another name of its cursor
pub arm_from : (L : Layout) (C : Context) (b : List ℕ) (d : ℕ) (j : Bool) (left : ℕ) (P : Path) (k : ℕ) (p p' : List ℕ) (r : Low) (x y : Cursor) → x ≡ y
    → Says (term_piece C (arm b d j left x.node) P k x (past b d left x.node)) L x p p' r
    → Says (term_piece C (arm b d j left y.node) P k y (past b d left y.node)) L y p p' r
arm_from L C b d j left P k p p' r x y e S =
    subst (λ (z : Cursor). Says (term_piece C (arm b d j left z.node) P k z (past b d left z.node)) L z p p' r) e S

pub ready_to : {L : Layout} {p : List ℕ} {s : Site} (b : List ℕ) (d : ℕ) (j : Bool) (left : ℕ) (x y : Cursor) → x ≡ y
    → Ready L p s y (instruction_count (arm b d j left y.node)) (path_count (arm b d j left y.node)) (entry_count (arm b d j left y.node))
    → Ready L p s x (instruction_count (arm b d j left x.node)) (path_count (arm b d j left x.node)) (entry_count (arm b d j left x.node))
ready_to {L} {p} {s} b d j left x y e R =
    subst (λ (z : Cursor). Ready L p s z (instruction_count (arm b d j left z.node)) (path_count (arm b d j left z.node)) (entry_count (arm b d j left z.node))) (sym e) R

pub well_to : (b : List ℕ) (d left : ℕ) (x y : Cursor) → x ≡ y → all_well_formed (kids b d left y.node) ≡ true → all_well_formed (kids b d left x.node) ≡ true
well_to b d left x y e w = subst (λ (z : Cursor). all_well_formed (kids b d left z.node) ≡ true) (sym e) w

-- ---- a conditional's three children
pub three_past : (b : List ℕ) (d at : ℕ) → past b d 1 (past b d 1 (past b d 1 at)) ≡ past b d 3 at
three_past b d at = operands_past b d 2 (past b d 1 at) (λ z. omega arith) ∙ operands_past b d 3 at (λ z. omega arith)

two_rest : (b : List ℕ) (d at x n : ℕ) → n ≡ 3 → all_well_formed (kids b d n at) ≡ true → x ≡ past b d 1 at → all_well_formed (kids b d (n - 1) x) ≡ true
two_rest b d at x n e w h = rest_well_at b d n at x (λ z. omega arith) w h

pub two_well : (b : List ℕ) (d at x n : ℕ) → n ≡ 3 → all_well_formed (kids b d n at) ≡ true → x ≡ past b d 1 at → all_well_formed (kids b d 1 x) ≡ true
two_well b d at x n e w h = one_well b d 1 x refl (first_well b d (n - 1) x (λ z. omega arith) (two_rest b d at x n e w h))

pub three_well : (b : List ℕ) (d at x n : ℕ) → n ≡ 3 → all_well_formed (kids b d n at) ≡ true → x ≡ past b d 1 at → all_well_formed (kids b d 1 (past b d 1 x)) ≡ true
three_well b d at x n e w h =
    one_well b d 1 (past b d 1 x) refl
    (first_well b d (n - 1 - 1) (past b d 1 x) (λ z. omega arith) (rest_well_at b d (n - 1) x (past b d 1 x) (λ z. omega arith) (two_rest b d at x n e w h) refl))

-- ---- the children of an operation

-- room for a list that the code tells by another name
pub operands_asked : {L : Layout} {p : List ℕ} {s : Site} {c : Cursor} (ts : Terms) (n : ℕ) (x y : Bool) → x ≡ y
    → Ready L p s c (instruction_counts ts) (path_counts ts) (entry_counts ts + cond y (0 + n) 0) → Ready L p s c (instruction_counts ts) (path_counts ts) (entry_counts ts + cond x (0 + n) 0)
operands_asked {L} {p} {s} {c} ts n x y e R = subst (λ (z : Bool). Ready L p s c (instruction_counts ts) (path_counts ts) (entry_counts ts + cond z (0 + n) 0)) (sym e) R

pub lists_as : (L : Layout) (C : Context) (ts : Terms) (P : Path) (k n : ℕ) (c : Cursor) (p p' : List ℕ) (r : Low) (w w' x x' : Bool) → w ≡ w' → x ≡ x'
    → Lists L x ts 0 (operands_piece C w ts P 0 k c n) c p p' r → Lists L x' ts 0 (operands_piece C w' ts P 0 k c n) c p p' r
lists_as L C ts P k n c p p' r w w' x x' e f S =
    subst (λ (z : Bool). Lists L z ts 0 (operands_piece C w' ts P 0 k c n) c p p' r) f (subst (λ (z : Bool). Lists L x ts 0 (operands_piece C z ts P 0 k c n) c p p' r) e S)

-- the first and the rest
pub operands_ready : {L : Layout} {p : List ℕ} {s : Site} {c : Cursor} (b : List ℕ) (d left at : ℕ) (x : Bool) (i : ℕ) → (left ≡ 0 → ⊥)
    → Ready L p s c (instruction_counts (terms (kids b d left at))) (path_counts (terms (kids b d left at))) (entry_counts (terms (kids b d left at)) + cond x (i + left) 0)
    → Ready L p s c (instruction_counts (arm b d true 1 at and terms (kids b d (left - 1) (past b d 1 at)))) (path_counts (arm b d true 1 at and terms (kids b d (left - 1) (past b d 1 at))))
    (entry_counts (arm b d true 1 at and terms (kids b d (left - 1) (past b d 1 at))) + cond x (i + term_count (arm b d true 1 at and terms (kids b d (left - 1) (past b d 1 at)))) 0)
operands_ready {L} {p} {s} {c} b d left at x i n R =
    subst (λ (ts : Terms). Ready L p s c (instruction_counts ts) (path_counts ts) (entry_counts ts + cond x (i + term_count ts) 0)) (operands_split b d left at n)
    (subst (λ (m : ℕ). Ready L p s c (instruction_counts (terms (kids b d left at))) (path_counts (terms (kids b d left at))) (entry_counts (terms (kids b d left at)) + cond x (i + m) 0))
    (sym (count_kids b d left at)) R)

pub operands_as : (L : Layout) (C : Context) (P : Path) (k n i : ℕ) (c : Cursor) (p p' : List ℕ) (r : Low) (w x : Bool) (b : List ℕ) (d left at : ℕ) → (left ≡ 0 → ⊥)
    → Lists L x (arm b d true 1 at and terms (kids b d (left - 1) (past b d 1 at))) i (operands_piece C w (arm b d true 1 at and terms (kids b d (left - 1) (past b d 1 at))) P i k c n) c p p' r
    → Lists L x (terms (kids b d left at)) i (operands_piece C w (terms (kids b d left at)) P i k c n) c p p' r
operands_as L C P k n i c p p' r w x b d left at z S =
    subst (λ (ts : Terms). Lists L x ts i (operands_piece C w ts P i k c n) c p p' r) (sym (operands_split b d left at z)) S

pub rest_ready : {L : Layout} {p : List ℕ} {s : Site} {c : Cursor} (b : List ℕ) (d m x y : ℕ) → x ≡ y → (l : Bool) (i : ℕ)
    → Ready L p s c (instruction_counts (terms (kids b d m x))) (path_counts (terms (kids b d m x))) (entry_counts (terms (kids b d m x)) + cond l (i + 1 + term_count (terms (kids b d m x))) 0)
    → Ready L p s c (instruction_counts (terms (kids b d m y))) (path_counts (terms (kids b d m y))) (entry_counts (terms (kids b d m y)) + cond l (i + 1 + m) 0)
rest_ready {L} {p} {s} {c} b d m x y e l i R =
    subst (λ (j : ℕ). Ready L p s c (instruction_counts (terms (kids b d m y))) (path_counts (terms (kids b d m y))) (entry_counts (terms (kids b d m y)) + cond l (i + 1 + j) 0)) (count_kids b d m y)
    (subst (λ (j : ℕ). Ready L p s c (instruction_counts (terms (kids b d m j))) (path_counts (terms (kids b d m j))) (entry_counts (terms (kids b d m j)) + cond l (i + 1 + term_count (terms (kids b d m j))) 0)) e R)

pub rest_as : (L : Layout) (C : Context) (P : Path) (k i : ℕ) (c : Cursor) (p p' : List ℕ) (r : Low) (w l : Bool) (b : List ℕ) (d left at x : ℕ) → x ≡ past b d 1 at → (left ≡ 0 → ⊥)
    → Lists L l (terms (kids b d (left - 1) x)) i (operands_piece C w (terms (kids b d (left - 1) x)) P i k c (past b d (left - 1) x)) c p p' r
    → Lists L l (terms (kids b d (left - 1) (past b d 1 at))) i (operands_piece C w (terms (kids b d (left - 1) (past b d 1 at))) P i k c (past b d left at)) c p p' r
rest_as L C P k i c p p' r w l b d left at x e n S =
    subst (λ (j : ℕ). Lists L l (terms (kids b d (left - 1) (past b d 1 at))) i (operands_piece C w (terms (kids b d (left - 1) (past b d 1 at))) P i k c j) c p p' r) (operands_past b d left at n)
    (subst (λ (j : ℕ). Lists L l (terms (kids b d (left - 1) j)) i (operands_piece C w (terms (kids b d (left - 1) j)) P i k c (past b d (left - 1) j)) c p p' r) e S)

-- the step of a numbered child
pub at_argument : (L : Layout) (C : Context) (t : Term) (P : Path) (i k n : ℕ) (c : Cursor) (p p' : List ℕ) (r : Low) → Says (term_piece C t (P ▸ step_of (3 + i)) k c n) L c p p' r
    → Says (term_piece C t (P ▸ argument i) k c n) L c p p' r
at_argument L C t P i k n c p p' r S = subst (λ (x : Step). Says (term_piece C t (P ▸ x) k c n) L c p p' r) (step_back (argument i)) S
