-- Bytes: quoted text, little-endian numbers, decimal numbers, pieces between separators.
use Rattle.std.specs.Prelude.{Bool, true, false, ◌&&◌, List, ◌++◌, ℕ, zero, suc, ◌+◌, ◌*◌, ◌/◌, ◌%◌, get_or, replicate, eqb, ltb}
use Rattle.std.proofs.Math.Option.{Option, none, some}
use Prim.Native.Char.{code}
use Prim.Native.String.{String, [], ◌∷◌}

-- the bytes of an ASCII text
abbrev pub ascii : String → List ℕ
ascii [] = List.[]
ascii (c ∷ s) = List.◌∷◌ (code c) (ascii s)

abbrev pub zeros : ℕ → List ℕ
zeros n = replicate n 0

-- ---- "all little-endian"

-- a number's w lowest bytes
abbrev pub little_endian : ℕ → ℕ → List ℕ
little_endian zero n = List.[]
little_endian (suc w) n = List.◌∷◌ (n % 256) (little_endian w (n / 256))

-- the number of 1, 2, 4 or 8 bytes from a place on; there is 0 past the end
abbrev pub byte_at : List ℕ → ℕ → ℕ
byte_at b at = get_or b at 0

unfoldable pub half_at : List ℕ → ℕ → ℕ
half_at b at = byte_at b at + 256 * byte_at b (at + 1)

unfoldable pub word_at : List ℕ → ℕ → ℕ
unfolding half_at
word_at b at = half_at b at + 65536 * half_at b (at + 2)

unfoldable pub long_at : List ℕ → ℕ → ℕ
unfolding word_at
long_at b at = word_at b at + 4294967296 * word_at b (at + 4)

-- ---- decimal

-- the digits of n, given enough turns; `small` says whether n is below ten
abbrev pub decimal_in : ℕ → Bool → ℕ → List ℕ
decimal_in zero small n = List.[]
decimal_in (suc turns) true n = List.◌∷◌ (48 + n) List.[]
decimal_in (suc turns) false n = decimal_in turns (ltb (n / 10) 10) (n / 10) ++ List.◌∷◌ (48 + n % 10) List.[]

abbrev pub decimal : ℕ → List ℕ
decimal n = decimal_in (suc n) (ltb n 10) n

-- ---- lists

abbrev pub same_bytes : List ℕ → List ℕ → Bool
same_bytes List.[] List.[] = true
same_bytes List.[] (List.◌∷◌ y ys) = false
same_bytes (List.◌∷◌ x xs) List.[] = false
same_bytes (List.◌∷◌ x xs) (List.◌∷◌ y ys) = eqb x y && same_bytes xs ys

abbrev pub all : {A : Type 0} → (A → Bool) → List A → Bool
all p List.[] = true
all p (List.◌∷◌ x xs) = p x && all p xs

abbrev pub glue : ℕ → List (List ℕ) → List (List ℕ)
glue x List.[] = List.◌∷◌ (List.◌∷◌ x List.[]) List.[]
glue x (List.◌∷◌ p ps) = List.◌∷◌ (List.◌∷◌ x p) ps

abbrev pub parted : Bool → ℕ → List (List ℕ) → List (List ℕ)
parted true x ps = List.◌∷◌ List.[] ps
parted false x ps = glue x ps

-- the pieces between the bytes that equal c: one more than there are such bytes
abbrev pub split : ℕ → List ℕ → List (List ℕ)
split c List.[] = List.◌∷◌ List.[] List.[]
split c (List.◌∷◌ x xs) = parted (eqb x c) x (split c xs)

-- every one of them, or none
abbrev pub joined : {A : Type 0} → Option A → Option (List A) → Option (List A)
joined none r = none
joined (some a) none = none
joined (some a) (some as') = some (List.◌∷◌ a as')

abbrev pub all_some : {A : Type 0} → List (Option A) → Option (List A)
all_some List.[] = some List.[]
all_some (List.◌∷◌ o os) = joined o (all_some os)
