-- What compile accepts is within the limits and has no fault.
use mathlib.Core.Path.{◌≡◌, refl, subst}
use mathlib.Core.List.{List}
use mathlib.Core.Bool.{Bool, true, false, cond, ◌||◌}
use mathlib.Core.Option.{Option, none, some}
use Prim.Native.Nat.{ℕ}
use native.Mathlib.Omega.{arith}
use lib.ListN.{length}
use lib.Dec.{ltb}
use Rattle.formula.specs.Formula.{Formula, formula_limit}
use Rattle.formula.specs.Transfer.{Transfer, ended_early, left_over, transfer_of, whole, wrong_field}
use Rattle.formula.specs.Names.{Symbol, symbols_of}
use Rattle.formula.specs.Path.{path_room, root}
use Rattle.formula.specs.Term.{term}
use Rattle.machine.specs.Check.{Fault, fault}
use Rattle.machine.specs.Compile.{accepted, compile, lowered_or, own_context, program_room, read, refused, sized}

pub record Accepted (f : Formula) (symbols : List Symbol) : Type 0 where
  pub limit : formula_limit f ≡ true
  pub faultless : fault (own_context symbols) (term f) root ≡ none

from_lowered : (f g : Formula) (ss ts : List Symbol) (o : Option Fault) → fault (own_context ss) (term f) root ≡ o → formula_limit f ≡ true
    → lowered_or f ss o ≡ accepted g ts → Accepted g ts
from_lowered f g ss ts none e l h =
    let p : f ≡ g = cc in
    let q : ss ≡ ts = cc in
    let a : Accepted f ss = record { limit = l; faultless = e } in
    subst (λ (x : List Symbol). Accepted g x) q (subst (λ (x : Formula). Accepted x ss) p a)
from_lowered f g ss ts (some x) e l h = absurd (let z : ◌≡◌ {A = ℕ} 0 1 = cc in omega arith)

from_sized : (f g : Formula) (ss ts : List Symbol) (b : Bool) → formula_limit f ≡ b
    → cond b (lowered_or f ss (fault (own_context ss) (term f) root)) (refused 4 (some root)) ≡ accepted g ts → Accepted g ts
from_sized f g ss ts true l h = from_lowered f g ss ts (fault (own_context ss) (term f) root) refl l h
from_sized f g ss ts false l h = absurd (let z : ◌≡◌ {A = ℕ} 0 1 = cc in omega arith)

from_read : (o : Transfer) (n : Option (List Symbol)) (g : Formula) (ts : List Symbol) → read sized o n ≡ accepted g ts → Accepted g ts
from_read (ended_early k) n g ts h = absurd (let z : ◌≡◌ {A = ℕ} 0 1 = cc in omega arith)
from_read (wrong_field k) n g ts h = absurd (let z : ◌≡◌ {A = ℕ} 0 1 = cc in omega arith)
from_read (left_over k) n g ts h = absurd (let z : ◌≡◌ {A = ℕ} 0 1 = cc in omega arith)
from_read (whole f) none g ts h = absurd (let z : ◌≡◌ {A = ℕ} 0 1 = cc in omega arith)
from_read (whole f) (some ss) g ts h = from_sized f g ss ts (formula_limit f) refl h

from_rooms : (b : Bool) (o : Transfer) (n : Option (List Symbol)) (g : Formula) (ts : List Symbol)
    → cond b (refused 1 none) (read sized o n) ≡ accepted g ts → Accepted g ts
from_rooms true o n g ts h = absurd (let z : ◌≡◌ {A = ℕ} 0 1 = cc in omega arith)
from_rooms false o n g ts h = from_read o n g ts h

pub accepted_formula : (formula names : List ℕ) (path_length program_length : ℕ) (f : Formula) (symbols : List Symbol)
    → compile formula names path_length program_length ≡ accepted f symbols → Accepted f symbols
unfolding compile
accepted_formula formula names p q f symbols h =
    from_rooms (ltb p path_room || ltb q (program_room (length formula))) (transfer_of formula) (symbols_of names) f symbols h
