-- What a part of the code returns, as an answer.
use mathlib.Core.Path.{◌≡◌, refl, sym, ap, ap₂, subst, ◌∙◌}
use mathlib.Core.Bool.{Bool, true, false, beq, not}
use mathlib.Core.List.{List}
use Prim.Native.Nat.{ℕ}
use native.Mathlib.Omega.{arith}
use Rattle.std.specs.Prelude.{Result, Ok, Err}
use Rattle.std.specs.Result.{IsErrAnd}
use Rattle.std.proofs.lemmas.Result.{err_from_is_err_and}
use Rattle.refusals.specs.declared.Refusal.{Refusal}
use Rattle.formula.specs.Operator.{same_kind}
use Rattle.formula.specs.Term.{Terms}
use Rattle.lower.specs.Piece.{Lists, Piece, Says, kind_if}
use Rattle.lower.specs.declared.Layout.{Layout}
use Rattle.lower.specs.declared.Cursor.{Cursor}
use Rattle.lower.specs.declared.Fault.{Fault}
use Rattle.lower.specs.declared.Value.{Value}
use Rattle.lower.specs.Low.{Low, Done, Faulty, low_of}

pub as_done : {r : Result Value Fault} {v : Value} (c : Cursor) → r ≡ Ok v → low_of r c ≡ Done v c
as_done c e = ap (λ (x : Result Value Fault). low_of x c) e

pub as_faulty : {r : Result Value Fault} {x : Fault} (c : Cursor) → r ≡ Err x → low_of r c ≡ Faulty x.refusal x.path
as_faulty c e = ap (λ (x : Result Value Fault). low_of x c) e

-- an answer that is done has the cursor that the part leaves
pub known_done : (x : Result Value Fault) (c : Cursor) (r : Low) (v : Value) (e : Cursor) → r ≡ low_of x c → r ≡ Done v e → low_of x c ≡ Done v c
known_done (Ok w) c r v e a d = let z : w ≡ v = cc in ap (λ (u : Value). Done u c) z
known_done (Err y) c r v e a d = absurd (let z : ◌≡◌ {A = ℕ} 0 1 = cc in omega arith)

-- an error that is handed up
pub handed_up : {r : Result Value Fault} {x : Fault} (r' : Result Value Fault) (c : Cursor) → r ≡ Err x → IsErrAnd r' (λ y. y ≡ x) → low_of r' c ≡ low_of r c
handed_up r' c e h =
    let up = err_from_is_err_and r' h in
    ap (λ (z : Result Value Fault). low_of z c) (up.1 ∙ ap Err up.2 ∙ sym e)

pub done_as : {v w : Value} {c e : Cursor} → v ≡ w → c ≡ e → Done v c ≡ Done w e
done_as x y = ap₂ (λ (a : Value) (b : Cursor). Done a b) x y

pub says_as : (P : Piece) (L : Layout) (c : Cursor) (p p' : List ℕ) {r r' : Low} → r' ≡ r → Says P L c p p' r → Says P L c p p' r'
says_as P L c p p' e S = subst (λ (x : Low). Says P L c p p' x) (sym e) S

pub lists_as_is : (L : Layout) (x : Bool) (ts : Terms) (i : ℕ) (P : Piece) (c : Cursor) (p p' : List ℕ) {r r' : Low} → r' ≡ r → Lists L x ts i P c p p' r → Lists L x ts i P c p p' r'
lists_as_is L x ts i P c p p' e S = subst (λ (y : Low). Lists L x ts i P c p p' y) (sym e) S

-- a refusal at a site
pub fault_as : {x : Fault} {n : Refusal} {k : ℕ} → x ≡ record { refusal = n; path = k } → Faulty x.refusal x.path ≡ Faulty n k
fault_as e = ap (λ (y : Fault). Faulty y.refusal y.path) e

-- Boolean or not, both
pub same_as : (a b : Bool) → beq a b ≡ same_kind (kind_if a) (kind_if b)
same_as true true = refl
same_as true false = refl
same_as false true = refl
same_as false false = refl

-- arms that the code tells as of one kind
pub alike : (a b : Bool) → not (beq a b) ≡ false → same_kind (kind_if a) (kind_if b) ≡ true
alike true true e = refl
alike true false e = absurd (cc)
alike false true e = absurd (cc)
alike false false e = refl
