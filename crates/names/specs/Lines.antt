-- What the readers of the name line and of digits answer, in the words of their definitions.
use Rattle.std.specs.Prelude.{◌≡◌, Bool, true, false, cond, not, ◌||◌, List, [], ◌∷◌, ◌++◌, map, ℕ, zero, suc, ◌+◌, ◌-◌, ◌*◌, ◌%◌, ◌≤◌, ◌<◌, length, get_or, take, drop, replicate, eqb, Some, None}
use Rattle.std.specs.Prelude as Std
use Rattle.std.specs.List.{All, list_any}
use Rattle.std.proofs.Math.Option.{Option, none, some}
use Rattle.formula.specs.Text.{all, same_bytes, split, joined}
use Rattle.formula.specs.Names.{SymbolKind, Parameter, State, Time, Input, Symbol, is_letter, is_digit, symbol_of, kinds}
use Rattle.names.specs.declared.Kind.{Kind}
use Rattle.names.specs.declared.Kind.TheVariants as Kinds
use Rattle.names.specs.declared.Name.{Name}
use Rattle.names.specs.declared.Names.{Names}

-- 16 ^ i, above every number of i digits
unfoldable pub cap : ℕ → ℕ
cap zero = 1
cap (suc i) = 16 * cap i

-- ---- parts of a line

-- no byte is c
abbrev pub free : ℕ → List ℕ → Bool
free c xs = all (λ x. not (eqb x c)) xs

abbrev pub first_of : Bool → ℕ → List ℕ → List ℕ
first_of true x p = []
first_of false x p = x ∷ p

-- what stands before the first byte that is c, or all
abbrev pub first_piece : ℕ → List ℕ → List ℕ
first_piece c [] = []
first_piece c (x ∷ xs) = first_of (eqb x c) x (first_piece c xs)

-- some that are read, before what comes of the rest of the line
unfoldable pub prefixed : {A : Type 0} → List A → Option (List A) → Option (List A)
prefixed [] r = r
prefixed (a ∷ as') r = joined (some a) (prefixed as' r)

-- ---- the name line

abbrev pub kind_as : SymbolKind → Kind
kind_as Parameter = Kinds.Parameter
kind_as State = Kinds.State
kind_as Time = Kinds.Time
kind_as Input = Kinds.Input

-- and back
abbrev pub symbol_kind : Kind → SymbolKind
symbol_kind Kinds.Parameter = Parameter
symbol_kind Kinds.State = State
symbol_kind Kinds.Time = Time
symbol_kind Kinds.Input = Input

-- a kind's number in a table of bytes, and the kind of a number: from 3 on an input
abbrev pub kind_number : SymbolKind → ℕ
kind_number Parameter = 0
kind_number State = 1
kind_number Time = 2
kind_number Input = 3

abbrev pub kind_numbered : ℕ → SymbolKind
kind_numbered n = cond (eqb n 0) Parameter (cond (eqb n 1) State (cond (eqb n 2) Time Input))

abbrev pub kind_in : Option SymbolKind → Std.Option Kind
kind_in none = None
kind_in (some k) = Some (kind_as k)

-- the bytes from one place to another
unfoldable pub part : List ℕ → ℕ → ℕ → List ℕ
part line at end = take (end - at) (drop at line)

-- where the first comma from a byte on is, or the line's end
pub record Ends (line : List ℕ) (at end : ℕ) : Type 0 where
  pub from : at ≤ end
  pub inside : end ≤ length line
  pub before : (i : ℕ) → at ≤ i → i < end → get_or line i 0 ≡ 44 → ⊥
  pub comma : end < length line → get_or line end 0 ≡ 44

-- the letters and digits from one byte to another, where no more of them follow
pub record Letters (line : List ℕ) (at end : ℕ) : Type 0 where
  pub from : at ≤ end
  pub inside : end ≤ length line
  pub each : (i : ℕ) → at ≤ i → i < end → (is_letter (get_or line i 0) || is_digit (get_or line i 0)) ≡ true
  pub last : end < length line → (is_letter (get_or line end 0) || is_digit (get_or line end 0)) ≡ false

-- the kind of a name with its kind
abbrev pub kind_told : Option Symbol → Std.Option Kind
kind_told none = None
kind_told (some s) = Some (kind_as s.kind)

-- what stands from a byte to the first comma or the line's end: the kind, which is the second byte after the name's end
pub record Tells (line : List ℕ) (at end : ℕ) (r : Std.Option Kind) : Type 0 where
  pub stop : ℕ
  pub ends : Ends line at stop
  pub is : r ≡ kind_told (symbol_of (split 58 (part line at stop)))
  pub after : (r ≡ None → ⊥) → stop ≡ end + 2

-- a number that equal names share: their bytes, one after another
abbrev pub mark_from : ℕ → List ℕ → ℕ
mark_from h [] = h
mark_from h (x ∷ xs) = mark_from ((h * 16777619 + x) % 4294967296) xs

abbrev pub mark : List ℕ → ℕ
mark xs = mark_from 0 xs

-- the bytes of a name
abbrev pub text : List ℕ → Name → List ℕ
text line n = take n.length (drop n.start line)

-- a name stands in the line, with its mark
pub record Stands (line : List ℕ) (n : Name) : Type 0 where
  pub inside : n.start + n.length ≤ length line
  pub marked : n.mark ≡ mark (text line n)

abbrev pub Listed : List ℕ → List Name → Type 0
Listed line ns = All (λ n. Stands line n) ns

-- the marks have taken their places in a table of 1024
abbrev pub Placed : List Name → List Bool → Type 0
Placed [] taken = Unit
Placed (n ∷ ns) taken = (get_or taken (n.mark % 1024) false ≡ true) × Placed ns taken

-- whether one of the names has these bytes
abbrev pub repeats : List ℕ → List Name → List ℕ → Bool
repeats line ns x = list_any (λ n. same_bytes (text line n) x) ns

abbrev pub table_of : List Symbol → Names
table_of ss = record { count = length ss; kinds = map kind_as (kinds ss) ++ replicate (256 - length ss) Kinds.Parameter }

-- the table of a name line, or none: refusal 3
abbrev pub names_of : Option (List Symbol) → Std.Option Names
names_of none = None
names_of (some ss) = Some (table_of ss)
