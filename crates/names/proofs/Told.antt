-- What the table tells of the name line.
use mathlib.Core.Path.{◌≡◌, refl, ap, ap₂, ◌∙◌}
use mathlib.Core.Bool.{Bool, true, false, cond, not, ◌&&◌}
use mathlib.Core.List.{List, [], ◌∷◌, map}
use mathlib.Core.Option.{Option, none, some}
use Prim.Native.Nat.{ℕ, zero, suc, ◌-◌, ◌≤◌, ◌<◌}
use native.Mathlib.Omega.{arith}
use lib.ListN.{length, get_or, get_or-append, replicate}
use lib.Dec.{eqb, leb}
use borrow.Author.Tests.{leb-true}
use Rattle.formula.specs.Text.{split, all_some}
use Rattle.formula.specs.Names.{Symbol, SymbolKind, Parameter, State, Time, Input, symbol_of, table, none_twice, symbols_of, kinds, varies, is_state}
use Rattle.std.specs.Prelude.{Some, None}
use Rattle.names.specs.Lines.{kind_as, kind_number, kind_numbered, symbol_kind, names_of, table_of}
use Rattle.names.specs.declared.Kind.{Kind}
use Rattle.names.specs.declared.Kind.TheVariants as Kinds
use Rattle.names.specs.declared.Names.{Names}
use Rattle.names.proofs.Splits.{and_first}

pub names_ok : (o : Option (List Symbol)) (n : Names) → Some n ≡ names_of o → (ss : List Symbol) × (o ≡ some ss) × (n ≡ table_of ss)
names_ok none n e = let z : ◌≡◌ {A = ℕ} 0 1 = cc in absurd (omega arith)
names_ok (some ss) n e = (ss, refl, cc)

pub names_refused : (o : Option (List Symbol)) → None ≡ names_of o → o ≡ none
names_refused none e = refl
names_refused (some ss) e = let z : ◌≡◌ {A = ℕ} 0 1 = cc in absurd (omega arith)

few_by : (t : Bool) (rs ss : List Symbol) → (leb (length rs) 256 && none_twice rs) ≡ t → cond t (some rs) none ≡ some ss → length ss ≤ 256
few_by true rs ss q e =
    let z : rs ≡ ss = cc in
    omega (arith, leb-true (length rs) 256 (and_first (leb (length rs) 256) (none_twice rs) q), ap length z)
few_by false rs ss q e = let z : ◌≡◌ {A = ℕ} 0 1 = cc in absurd (omega arith)

few_in : (o : Option (List Symbol)) (ss : List Symbol) → table o ≡ some ss → length ss ≤ 256
few_in none ss e = let z : ◌≡◌ {A = ℕ} 0 1 = cc in absurd (omega arith)
few_in (some rs) ss e = few_by (leb (length rs) 256 && none_twice rs) rs ss refl e

-- "At most 256 names"
pub names_few : (line : List ℕ) (ss : List Symbol) → symbols_of line ≡ some ss → length ss ≤ 256
unfolding symbols_of
names_few [] ss e = let z : [] ≡ ss = cc in omega (arith, ap length z)
names_few (b ∷ bs) ss e = few_in (all_some (map (λ part. symbol_of (split 58 part)) (split 44 (b ∷ bs)))) ss e

pub kinds_length : (ss : List Symbol) → length (kinds ss) ≡ length ss
kinds_length [] = refl
kinds_length (s ∷ ss) = ap suc (kinds_length ss)

-- ---- the code's kinds and the definitions'

pub kind_back : (k : SymbolKind) → symbol_kind (kind_as k) ≡ k
kind_back Parameter = refl
kind_back State = refl
kind_back Time = refl
kind_back Input = refl

-- only parameters are not dynamic, and a state is told from the others
pub kind_varies : (k : SymbolKind) → varies (symbol_kind (kind_as k)) ≡ varies k
kind_varies k = ap varies (kind_back k)

pub kind_state : (k : SymbolKind) → is_state (symbol_kind (kind_as k)) ≡ is_state k
kind_state k = ap is_state (kind_back k)

-- the same of a kind's number
pub number_varies : (k : SymbolKind) → varies k ≡ not (eqb (kind_number k) 0)
number_varies Parameter = refl
number_varies State = refl
number_varies Time = refl
number_varies Input = refl

pub number_state : (k : SymbolKind) → is_state k ≡ eqb (kind_number k) 1
number_state Parameter = refl
number_state State = refl
number_state Time = refl
number_state Input = refl

-- a kind by its number
pub numbered_back : (k : SymbolKind) → kind_numbered (kind_number k) ≡ k
numbered_back Parameter = refl
numbered_back State = refl
numbered_back Time = refl
numbered_back Input = refl

-- what is told of a number and of the code's kind of it
pub number_as : (n : ℕ) (k : Kind) → symbol_kind k ≡ kind_numbered n → k ≡ kind_as (kind_numbered n)
number_as n Kinds.Parameter e = ap kind_as e
number_as n Kinds.State e = ap kind_as e
number_as n Kinds.Time e = ap kind_as e
number_as n Kinds.Input e = ap kind_as e

pub kinds_back : (ks : List SymbolKind) → map symbol_kind (map kind_as ks) ≡ ks
kinds_back [] = refl
kinds_back (k ∷ ks) = ap₂ (λ (j : SymbolKind) (js : List SymbolKind). j ∷ js) (kind_back k) (kinds_back ks)

pub kinds_count : (ks : List SymbolKind) → length (map kind_as ks) ≡ length ks
kinds_count [] = refl
kinds_count (k ∷ ks) = ap suc (kinds_count ks)

pub kind_at : (ks : List SymbolKind) (i : ℕ) → get_or (map kind_as ks) i Kinds.Parameter ≡ kind_as (get_or ks i Parameter)
kind_at [] i = refl
kind_at (k ∷ ks) zero = refl
kind_at (k ∷ ks) (suc i) = kind_at ks i

-- the kind of a symbol in the table
pub names_kind : (ss : List Symbol) (i : ℕ) → i < length ss → get_or (table_of ss).kinds i Kinds.Parameter ≡ kind_as (get_or (kinds ss) i Parameter)
names_kind ss i h =
    let ks = map kind_as (kinds ss) in
    get_or-append ks (replicate (256 - length ss) Kinds.Parameter) Kinds.Parameter i (omega (arith, kinds_count (kinds ss), kinds_length ss)) ∙ kind_at (kinds ss) i
