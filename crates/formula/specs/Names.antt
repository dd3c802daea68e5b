-- The name line: "Names joined by commas, each followed by `:` and its kind: `p` parameter, `s` state, `t` time, `i` input. A name has 1 to 64
-- bytes of `a-z`, `_` and, not first, `0-9`; none twice. At most 256 names; an empty line has none."
use Rattle.std.specs.Prelude.{Bool, true, false, not, cond, ◌&&◌, ◌||◌, List, [], ◌∷◌, map, ℕ, length, get_or, eqb, leb}
use Rattle.std.proofs.Math.Option.{Option, none, some}
use Rattle.formula.specs.Text.{same_bytes, all, split, all_some}

pub data SymbolKind : Type 0 where
  Parameter State Time Input : SymbolKind

pub record Symbol : Type 0 where
  pub name : List ℕ
  pub kind : SymbolKind

abbrev pub between : ℕ → ℕ → ℕ → Bool
between a z b = leb a b && leb b z

-- `a` to `z`, and `_`
abbrev pub is_letter : ℕ → Bool
is_letter b = between 97 122 b || eqb b 95

-- `0` to `9`
abbrev pub is_digit : ℕ → Bool
is_digit b = between 48 57 b

abbrev pub is_name : List ℕ → Bool
is_name [] = false
is_name (b ∷ bs) = is_letter b && all (λ c. is_letter c || is_digit c) bs && leb (length bs) 63

-- `p`, `s`, `t`, `i`
abbrev pub kind_of : ℕ → Option SymbolKind
kind_of b =
    cond (eqb b 112) (some Parameter) (cond (eqb b 115) (some State) (cond (eqb b 116) (some Time) (cond (eqb b 105) (some Input) none)))

abbrev pub named : List ℕ → Option SymbolKind → Option Symbol
named name none = none
named name (some kind) = some (record { name = name; kind = kind })

-- what stands before the `:` and what stands after it
abbrev pub symbol_of : List (List ℕ) → Option Symbol
symbol_of parts =
    let name = get_or parts 0 [] in
    let kind = get_or parts 1 [] in
    cond (eqb (length parts) 2 && is_name name && eqb (length kind) 1) (named name (kind_of (get_or kind 0 0))) none

abbrev pub unlike : List ℕ → List Symbol → Bool
unlike name ss = all (λ s. not (same_bytes name s.name)) ss

abbrev pub none_twice : List Symbol → Bool
none_twice [] = true
none_twice (s ∷ ss) = unlike s.name ss && none_twice ss

abbrev pub table : Option (List Symbol) → Option (List Symbol)
table none = none
table (some ss) = cond (leb (length ss) 256 && none_twice ss) (some ss) none

-- a line that is not as above is none: refusal 3
unfoldable pub symbols_of : List ℕ → Option (List Symbol)
symbols_of [] = some []
symbols_of (b ∷ bs) = table (all_some (map (λ part. symbol_of (split 58 part)) (split 44 (b ∷ bs))))

abbrev pub kinds : List Symbol → List SymbolKind
kinds ss = map (λ s. s.kind) ss

-- only parameters are not dynamic
abbrev pub varies : SymbolKind → Bool
varies Parameter = false
varies State = true
varies Time = true
varies Input = true

abbrev pub is_state : SymbolKind → Bool
is_state Parameter = false
is_state State = true
is_state Time = false
is_state Input = false
