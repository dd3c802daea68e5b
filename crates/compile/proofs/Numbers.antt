-- The refusal that compile answers, and those of what it calls, have the definition's number, from 1 to 13, and its node.
use mathlib.Core.Path.{◌≡◌, refl, subst, sym}
use mathlib.Core.Bool.{Bool, true, false, cond, ◌||◌}
use mathlib.Core.List.{List}
use mathlib.Core.Option.{Option, none, some}
use Prim.Native.Nat.{ℕ, ◌≤◌}
use native.Mathlib.Omega.{arith}
use lib.ListN.{length}
use lib.Dec.{ltb}
use Rattle.std.specs.Prelude.{None, Some, Result, Ok, Err}
use Rattle.refusals.specs.Refusals.{node_of, number_of, refusal_at, refusal_of}
use Rattle.refusals.specs.declared.Refusal.{Refusal}
use Rattle.refusals.proofs.Back.{no_node, number_back}
use Rattle.formula.specs.Formula.{Formula, formula_limit}
use Rattle.formula.specs.Names.{Symbol, symbols_of}
use Rattle.formula.specs.Node.{tree_in}
use Rattle.formula.specs.Path.{Path, path_room, root}
use Rattle.formula.specs.Term.{term}
use Rattle.formula.specs.Transfer.{Transfer, ended_early, left_over, transfer_of, whole, wrong_field}
use Rattle.machine.specs.Check.{Context, Fault, fault}
use Rattle.machine.specs.Compile.{Compiled, accepted, compile, lowered_or, own_context, program_room, read, refused, refused_at, sized}
use Rattle.lower.specs.Low.{Low, Faulty, low_of}
use Rattle.lower.specs.Piece.{Says, own_piece}
use Rattle.lower.specs.declared.Cursor.{Cursor}
use Rattle.lower.specs.declared.Fault as Lower
use Rattle.lower.specs.declared.Layout.{Layout}
use Rattle.lower.specs.declared.Value.{Value}
use Rattle.lower.proofs.Results.{as_faulty}
use Rattle.lower.proofs.Says as says
use Rattle.compile.specs.Outcome.{answer_to, lowered_to}
use Rattle.compile.proofs.Faults.{ranged}

pub record Numbered (n : ℕ) : Type 0 where
  pub least : 1 ≤ n
  pub most : n ≤ 13
  pub number : number_of (refusal_of n) ≡ n
  pub node : node_of (refusal_of n) ≡ None

pub record NumberedAt (n k : ℕ) : Type 0 where
  pub least : 1 ≤ n
  pub most : n ≤ 13
  pub number : number_of (refusal_at n k) ≡ n
  pub node : node_of (refusal_at n k) ≡ Some k

abbrev pub Numbers : Compiled → Type 0
Numbers (refused n place) = Numbered n
Numbers (refused_at n k) = NumberedAt n k
Numbers (accepted f ss) = Unit

placed : (n : ℕ) → 3 ≤ n → n ≤ 11 → Numbered n
placed n low high = record { least = omega arith; most = omega arith; number = number_back n 0 (omega arith) (omega arith); node = no_node n 0 low high }

lowered_numbers : (f : Formula) (ss : List Symbol) (o : Option Fault) → ((x : Fault) → o ≡ some x → Numbered x.number) → Numbers (lowered_or f ss o)
lowered_numbers f ss none h = tt
lowered_numbers f ss (some x) h = h x refl

fault_numbered : (f : Formula) (ss : List Symbol) → Numbers (lowered_or f ss (fault (own_context ss) (term f) root))
fault_numbered f ss =
    lowered_numbers f ss (fault (own_context ss) (term f) root)
    (λ x h.
    let N = ranged (own_context ss) (term f) root x h in
    placed x.number (omega (arith, N.least)) (omega (arith, N.most)))

-- what writing a program comes to: see `written` of Entries
pub written_numbers : (f : Formula) (ss : List Symbol) (X : Compiled) → X ≡ lowered_or f ss (fault (own_context ss) (term f) root) → Numbers X
written_numbers f ss X e = subst Numbers (sym e) (fault_numbered f ss)

sized_by : (f : Formula) (ss : List Symbol) (b : Bool) → formula_limit f ≡ b
    → Numbers (cond b (lowered_or f ss (fault (own_context ss) (term f) root)) (refused 4 (some root)))
sized_by f ss false e = placed 4 (omega arith) (omega arith)
sized_by f ss true e = fault_numbered f ss

read_numbers : (o : Transfer) (s : Option (List Symbol)) → Numbers (read sized o s)
read_numbers (ended_early k) s = record { least = omega arith; most = omega arith; number = refl; node = refl }
read_numbers (wrong_field k) s = record { least = omega arith; most = omega arith; number = refl; node = refl }
read_numbers (left_over k) s = record { least = omega arith; most = omega arith; number = refl; node = refl }
read_numbers (whole f) none = placed 3 (omega arith) (omega arith)
read_numbers (whole f) (some ss) = sized_by f ss (formula_limit f) refl

long_numbers : (b : Bool) (o : Transfer) (s : Option (List Symbol)) → Numbers (cond b (refused 1 none) (read sized o s))
long_numbers true o s = record { least = omega arith; most = omega arith; number = refl; node = refl }
long_numbers false o s = read_numbers o s

pub numbers : (b l : List ℕ) (path program : ℕ) → Numbers (compile b l path program)
unfolding compile
numbers b l path program = long_numbers (ltb path path_room || ltb program (program_room (length b))) (transfer_of b) (symbols_of l)

-- ---- the functions below compile

-- a refusal that has the number of a fault, from 5 to 9, and no node
abbrev pub Refuses : Fault → Refusal → Type 0
Refuses x r = (number_of r ≡ x.number) × (5 ≤ x.number) × (x.number ≤ 9) × (node_of r ≡ None)

-- a result that is a refusal just where there is a fault
abbrev pub Tells : {A : Type 0} → Option Fault → Result A Refusal → Type 0
Tells none (Ok v) = Unit
Tells none (Err r) = ⊥
Tells (some x) (Ok v) = ⊥
Tells (some x) (Err r) = Refuses x r

-- the fault of such a refusal
pub told_fault : (o : Option Fault) (r : Refusal) → Tells {A = Bool} o (Err r) → ((x : Fault) × (o ≡ some x) × (number_of r ≡ x.number))
told_fault none r t = absurd t
told_fault (some x) r t = (x, refl, t.0)

fault_numbers : (C : Context) (f : Formula) (p : Path) (x : Fault) → fault C (term f) p ≡ some x → Refuses x (refusal_of x.number)
fault_numbers C f p x e =
    let N = ranged C (term f) p x e in
    (number_back x.number 0 (omega (arith, N.least)) (omega (arith, N.most)), N.least, N.most, no_node x.number 0 (omega (arith, N.least)) (omega (arith, N.most)))

answer_numbers : (o : Option Fault) → ((x : Fault) → o ≡ some x → Refuses x (refusal_of x.number)) → Tells o (answer_to o)
answer_numbers none h = tt
answer_numbers (some x) h = h x refl

lowered_to_numbers : (f : Formula) (o : Option Fault) → ((x : Fault) → o ≡ some x → Refuses x (refusal_of x.number)) → Tells o (lowered_to f o)
lowered_to_numbers f none h = tt
lowered_to_numbers f (some x) h = h x refl

-- what `write` promises of its result
pub write_numbers : (b : List ℕ) (d : ℕ) (C : Context) (r : Result Unit Refusal)
    → r ≡ answer_to (fault C (term (tree_in d b 0)) root) → Tells (fault C (term (tree_in d b 0)) root) r
write_numbers b d C r e =
    let o = fault C (term (tree_in d b 0)) root in
    subst (λ (z : Result Unit Refusal). Tells o z) (sym e) (answer_numbers o (fault_numbers C (tree_in d b 0) root))

-- what `lower_own` promises of its result
pub own_numbers : (f : Formula) (ss : List Symbol) (r : Result Bool Refusal)
    → r ≡ lowered_to f (fault (own_context ss) (term f) root) → Tells (fault (own_context ss) (term f) root) r
own_numbers f ss r e =
    let o = fault (own_context ss) (term f) root in
    subst (λ (z : Result Bool Refusal). Tells o z) (sym e) (lowered_to_numbers f o (fault_numbers (own_context ss) f root))

-- what `node` of `Source` promises, of a fault that it returns at a formula's place
pub node_numbers : (C : Context) (f : Formula) (p : Path) (k n : ℕ) (L : Layout) (c e : Cursor) (q q' : List ℕ) (r : Result Value Lower.Fault) (y : Lower.Fault)
    → r ≡ Err y → Says (own_piece C (term f) p k c n) L c q q' (low_of r e) → ((x : Fault) × (fault C (term f) p ≡ some x) × Refuses x y.refusal)
unfolding own_piece
node_numbers C f p k n L c e q q' r y is S =
    let R = says.refused (own_piece C (term f) p k c n) L c q q' _ y.refusal y.path S (as_faulty e is) in
    (R.x, R.is_fault, subst (λ (z : Refusal). Refuses R.x z) (sym R.number) (fault_numbers C f p R.x R.is_fault))

-- what a caller has of a fault that `node` of `Source` returns at a formula's place: `refused` of lower, and the fault's number
pub node_refused : (C : Context) (f : Formula) (p : Path) (k n : ℕ) (L : Layout) (c : Cursor) (q q' : List ℕ) (r : Low) (y : Refusal) (j : ℕ)
    → Says (own_piece C (term f) p k c n) L c q q' r → r ≡ Faulty y j → ((R : says.Refused (own_piece C (term f) p k c n) L c q q' y j) × (number_of y ≡ R.x.number))
unfolding own_piece
node_refused C f p k n L c q q' r y j S e =
    let R = says.refused (own_piece C (term f) p k c n) L c q q' r y j S e in
    let N = ranged C (term f) p R.x R.is_fault in
    (R, says.refused_number R (omega (arith, N.least)) (omega (arith, N.most)))
