-- Eight digits in a word: each byte is tested and read at once with the others.
use Rattle.std.proofs.Common.{◌≡◌, ℕ, zero, suc, ◌+◌, ◌-◌, ◌*◌, ◌/◌, ◌%◌, ◌<◌, ◌≤◌, Bool, true, false, ◌&&◌, eqb, ltb, List, [], ◌∷◌, ◌++◌, map, length, get_or, take, drop, sym, refl, ap, ◌∙◌, subst, ap₂, append_assoc, append-nil, arith, drop-cons, ltb-false, ltb-true, eqb-true}
use mathlib.Core.Option.{Option, some}
use lib.Bits.{bit_and, and_block, and_le_r, and_mask, and_zero_r}
use Rattle.formula.specs.Text.{all_some, byte_at, half_at, joined, little_endian, long_at, word_at}
use Rattle.names.specs.Lines.{cap, part}
use Rattle.std.specs.Prelude.{Some}
use Rattle.values.specs.Eights.{AllBelow, Numbers, digit_byte}
use Rattle.names.proofs.Digits as Digits
use Rattle.names.proofs.Digits.{digit_again}
use Rattle.names.proofs.Splits.{and_first, and_second}
use Rattle.formula.specs.Values.{digit_of, digits_in, hex, hex_digits, numbered, of_digits}

-- ---- bytes in a word, the first lowest

abbrev packed : List ℕ → ℕ
packed [] = 0
packed (x ∷ xs) = x + 256 * packed xs

-- the same byte in n places
abbrev repeated : ℕ → ℕ → ℕ
repeated zero x = 0
repeated (suc n) x = x + 256 * repeated n x

-- the bytes of a word
packed_again : (xs : List ℕ) → AllBelow 256 xs → little_endian (length xs) (packed xs) ≡ xs
packed_again [] h = refl
packed_again (x ∷ xs) h =
    let l = h.0 in
    let r : (x + 256 * packed xs) % 256 ≡ x = omega arith in
    let q : (x + 256 * packed xs) / 256 ≡ packed xs = omega arith in
    ap₂ (λ (i j : ℕ). i ∷ little_endian (length xs) j) r q ∙ ap (λ (ys : List ℕ). x ∷ ys) (packed_again xs h.1)

and_bytes : (r s a b : ℕ) → r < 256 → s < 256 → bit_and (r + 256 * a) (s + 256 * b) ≡ bit_and r s + 256 * bit_and a b
and_bytes r s a b h k =
    let x : r + 256 * a ≡ a * 256 + r = omega arith in
    let y : s + 256 * b ≡ b * 256 + s = omega arith in
    let z : bit_and a b * 256 + bit_and r s ≡ bit_and r s + 256 * bit_and a b = omega arith in
    ap₂ bit_and x y ∙ and_block 8 a b r s h k ∙ z

-- the last four bits of each byte
abbrev nibbles : ℕ → ℕ → List ℕ
nibbles zero x = []
nibbles (suc n) x = bit_and (x % 256) 15 ∷ nibbles n (x / 256)

nibbles_below : (n x : ℕ) → AllBelow 16 (nibbles n x)
nibbles_below zero x = tt
nibbles_below (suc n) x = (omega (arith, and_le_r (x % 256) 15), nibbles_below n (x / 256))

nibbles_packed : (n x : ℕ) → bit_and x (repeated n 15) ≡ packed (nibbles n x)
nibbles_packed zero x = and_zero_r x
nibbles_packed (suc n) x =
    let z : x ≡ x % 256 + 256 * (x / 256) = omega arith in
    ap (λ (i : ℕ). bit_and i (15 + 256 * repeated n 15)) z
    ∙ and_bytes (x % 256) 15 (x / 256) (repeated n 15) (omega arith) (omega arith)
    ∙ ap (λ (i : ℕ). bit_and (x % 256) 15 + 256 * i) (nibbles_packed n (x / 256))

-- ---- the bytes that digits have

-- 1 from ten on
abbrev letter : ℕ → ℕ
letter d = (d + 6) / 16

abbrev byte_of : ℕ → ℕ
byte_of d = d + 48 + 39 * letter d

letters : (ds : List ℕ) → AllBelow 16 ds → bit_and ((packed ds + repeated (length ds) 6) / 16) (repeated (length ds) 1) ≡ packed (map letter ds)
letters [] h = refl
letters (d ∷ ds) h =
    let e = packed ds + repeated (length ds) 6 in
    let r = letter d + 16 * (e % 16) in
    let l = h.0 in
    let z : (d + 256 * packed ds + (6 + 256 * repeated (length ds) 6)) / 16 ≡ r + 256 * (e / 16) = omega arith in
    let o : r % 2 ≡ letter d = omega arith in
    ap (λ (i : ℕ). bit_and i (1 + 256 * repeated (length ds) 1)) z
    ∙ and_bytes r 1 (e / 16) (repeated (length ds) 1) (omega arith) (omega arith)
    ∙ ap₂ (λ (i j : ℕ). i + 256 * j) (and_mask r 1 ∙ o) (letters ds h.1)

bytes_of : (ds : List ℕ) → packed ds + repeated (length ds) 48 + 39 * packed (map letter ds) ≡ packed (map byte_of ds)
bytes_of [] = refl
bytes_of (d ∷ ds) = let p = bytes_of ds in omega arith

-- a test that holds of all numbers below n
abbrev all_pass : (ℕ → Bool) → ℕ → Bool
all_pass f zero = true
all_pass f (suc n) = f n && all_pass f n

pass_by : (f : ℕ → Bool) (t : Bool) (n d : ℕ) → ltb d n ≡ t → all_pass f (suc n) ≡ true → d < suc n → (d < n → all_pass f n ≡ true → f d ≡ true) → f d ≡ true
pass_by f true n d q e l r = r (ltb-true d n q) (and_second (f n) (all_pass f n) e)
pass_by f false n d q e l r =
    let k = ltb-false d n q in
    let z : d ≡ n = omega arith in
    ap f z ∙ and_first (f n) (all_pass f n) e

passes : (f : ℕ → Bool) (n d : ℕ) → all_pass f n ≡ true → d < n → f d ≡ true
passes f zero d e l = absurd (omega arith)
passes f (suc n) d e l = pass_by f (ltb d n) n d refl e l (λ k g. passes f n d g k)

byte_is : (d : ℕ) → d < 16 → digit_byte d ≡ byte_of d
byte_is d l = eqb-true (digit_byte d) (byte_of d) (passes (λ i. eqb (digit_byte i) (byte_of i)) 16 d refl l)

-- read again, a digit's byte gives the digit
byte_again : (d : ℕ) → d < 16 → digit_of (digit_byte d) ≡ some d
byte_again d l = ap digit_of (Digits.byte_is d l) ∙ digit_again d l

bytes_below : (ds : List ℕ) → AllBelow 16 ds → AllBelow 256 (map byte_of ds)
bytes_below [] h = tt
bytes_below (d ∷ ds) h = let l = h.0 in (omega arith, bytes_below ds h.1)

bytes_are : (ds : List ℕ) → AllBelow 16 ds → map byte_of ds ≡ map digit_byte ds
bytes_are [] h = refl
bytes_are (d ∷ ds) h = ap₂ (λ (x : ℕ) (xs : List ℕ). x ∷ xs) (sym (byte_is d h.0)) (bytes_are ds h.1)

bytes_again : (ds : List ℕ) → AllBelow 16 ds → all_some (map digit_of (map digit_byte ds)) ≡ some ds
bytes_again [] h = refl
bytes_again (d ∷ ds) h = ap₂ (λ (o : Option ℕ) (r : Option (List ℕ)). joined o r) (byte_again d h.0) (bytes_again ds h.1)

bytes_fit : (ds : List ℕ) → AllBelow 16 ds → AllBelow 256 ds
bytes_fit [] h = tt
bytes_fit (d ∷ ds) h = let l = h.0 in (omega arith, bytes_fit ds h.1)

-- a word is made of its bytes
word_packed : (w : ℕ) → w < 18446744073709551616 → w ≡ packed (little_endian 8 w)
word_packed w h = omega arith

module _ (w : ℕ) (h : w < 18446744073709551616) (below : AllBelow 16 (little_endian 8 w)) where
  pub digits_le : w ≤ 1085102592571150095
  digits_le =
      let l = below in
      omega (arith, l.0, l.1.0, l.1.1.0, l.1.1.1.0, l.1.1.1.1.0, l.1.1.1.1.1.0, l.1.1.1.1.1.1.0, l.1.1.1.1.1.1.1.0)

  pub spelled_bytes : little_endian 8 (w + 3472328296227680304 + 39 * bit_and ((w + 434041037028460038) / 16) 72340172838076673) ≡ map digit_byte (little_endian 8 w)
  spelled_bytes =
      let ds = little_endian 8 w in
      let same = word_packed w h in
      ap (λ (i : ℕ). little_endian 8 (i + 3472328296227680304 + 39 * bit_and ((i + 434041037028460038) / 16) 72340172838076673)) same
      ∙ ap (λ (i : ℕ). little_endian 8 (packed ds + 3472328296227680304 + 39 * i)) (letters ds below)
      ∙ ap (little_endian 8) (bytes_of ds)
      ∙ packed_again (map byte_of ds) (bytes_below ds below)
      ∙ bytes_are ds below

-- ---- the number of digits: neighbours are joined, then pairs, then fours

-- two digits and what follows them
pair : (d e v m : ℕ) → d < 16 → e < 16 → v % 256 < 16
    → bit_and (16 * (d + 256 * (e + 256 * v)) + (d + 256 * (e + 256 * v)) / 256) (255 + 65536 * m) ≡ 16 * d + e + 65536 * bit_and (16 * v + v / 256) m
pair d e v m h k l =
    let r = 16 * d + e + 256 * (16 * e + v % 256) in
    let u = 16 * v + v / 256 in
    let x : 16 * (d + 256 * (e + 256 * v)) + (d + 256 * (e + 256 * v)) / 256 ≡ u * 65536 + r = omega arith in
    let y : 255 + 65536 * m ≡ m * 65536 + 255 = omega arith in
    let z : r % 256 ≡ 16 * d + e = omega arith in
    ap₂ bit_and x y
    ∙ and_block 16 u m r 255 (omega arith) (omega arith)
    ∙ ap (λ (i : ℕ). bit_and u m * 65536 + i) (and_mask r 8 ∙ z)
    ∙ omega arith

-- two pairs and what follows them
four : (p q v m : ℕ) → p < 256 → q < 256 → v % 65536 < 256
    → bit_and (256 * (p + 65536 * (q + 65536 * v)) + (p + 65536 * (q + 65536 * v)) / 65536) (65535 + 4294967296 * m) ≡ 256 * p + q + 4294967296 * bit_and (256 * v + v / 65536) m
four p q v m h k l =
    let r = 256 * p + q + 65536 * (256 * q + v % 65536) in
    let u = 256 * v + v / 65536 in
    let x : 256 * (p + 65536 * (q + 65536 * v)) + (p + 65536 * (q + 65536 * v)) / 65536 ≡ u * 4294967296 + r = omega arith in
    let y : 65535 + 4294967296 * m ≡ m * 4294967296 + 65535 = omega arith in
    let z : r % 65536 ≡ 256 * p + q = omega arith in
    ap₂ bit_and x y
    ∙ and_block 32 u m r 65535 (omega arith) (omega arith)
    ∙ ap (λ (i : ℕ). bit_and u m * 4294967296 + i) (and_mask r 16 ∙ z)
    ∙ omega arith

-- two fours
last : (p q : ℕ) → p < 65536 → q < 65536
    → (65536 * (p + 4294967296 * (q + 4294967296 * 0)) + (p + 4294967296 * (q + 4294967296 * 0)) / 4294967296) % 4294967296 ≡ 65536 * p + q
last p q h k =
    let i = p + 4294967296 * (q + 4294967296 * 0) in
    let d : i / 4294967296 ≡ q = omega arith in
    let z : 65536 * i + q ≡ 65536 * p + q + 4294967296 * (65536 * q) = omega arith in
    ap (λ (j : ℕ). (65536 * i + j) % 4294967296) d
    ∙ ap (λ (j : ℕ). j % 4294967296) z
    ∙ past (65536 * p + q) (65536 * q) (omega arith)
  where
    past : (r j : ℕ) → r < 4294967296 → (r + 4294967296 * j) % 4294967296 ≡ r
    past r j l = omega arith

abbrev pub pairs_of : ℕ → ℕ
pairs_of y = bit_and (16 * y + y / 256) 71777214294589695

abbrev fours_of : ℕ → ℕ
fours_of p = bit_and (256 * p + p / 65536) 281470681808895

abbrev number_of : ℕ → ℕ
number_of y = (65536 * fours_of (pairs_of y) + fours_of (pairs_of y) / 4294967296) % 4294967296

number_is : (a b c d e f g h : ℕ) → AllBelow 16 (a ∷ b ∷ c ∷ d ∷ e ∷ f ∷ g ∷ h ∷ [])
    → number_of (packed (a ∷ b ∷ c ∷ d ∷ e ∷ f ∷ g ∷ h ∷ [])) ≡ of_digits 0 (a ∷ b ∷ c ∷ d ∷ e ∷ f ∷ g ∷ h ∷ [])
number_is a b c d e f g h (la, (lb, (lc, (ld, (le, (lf, (lg, (lh, u)))))))) =
    let v = e + 256 * (f + 256 * (g + 256 * (h + 256 * 0))) in
    let x = 16 * a + b in
    let y = 16 * c + d in
    let z = 16 * e + f in
    let w = 16 * g + h in
    let pairs : pairs_of (a + 256 * (b + 256 * (c + 256 * (d + 256 * v)))) ≡ x + 65536 * (y + 65536 * (z + 65536 * (w + 65536 * 0))) =
    pair a b (c + 256 * (d + 256 * v)) 1095233372415 la lb (omega arith)
    ∙ ap (λ (i : ℕ). x + 65536 * i)
    (pair c d v 16711935 lc ld (omega arith)
    ∙ ap (λ (i : ℕ). y + 65536 * i) (pair e f (g + 256 * (h + 256 * 0)) 255 le lf (omega arith) ∙ ap (λ (i : ℕ). z + 65536 * i) (pair g h 0 0 lg lh (omega arith)))) in
    let fours : fours_of (x + 65536 * (y + 65536 * (z + 65536 * (w + 65536 * 0)))) ≡ 256 * x + y + 4294967296 * (256 * z + w + 4294967296 * 0) =
    four x y (z + 65536 * (w + 65536 * 0)) 65535 (omega arith) (omega arith) (omega arith)
    ∙ ap (λ (i : ℕ). 256 * x + y + 4294967296 * i) (four z w 0 0 (omega arith) (omega arith) (omega arith)) in
    let all = ap fours_of pairs ∙ fours in
    ap (λ (i : ℕ). (65536 * i + i / 4294967296) % 4294967296) all
    ∙ last (256 * x + y) (256 * z + w) (omega arith) (omega arith)
    ∙ omega arith

-- ---- a word that is spelled as its digits

abbrev pub nibbles_of : ℕ → ℕ
nibbles_of x = bit_and x 1085102592571150095

module _ (x : ℕ) where
  own_nibbles : little_endian 8 (nibbles_of x) ≡ nibbles 8 x
  own_nibbles = ap (little_endian 8) (nibbles_packed 8 x) ∙ packed_again (nibbles 8 x) (bytes_fit (nibbles 8 x) (nibbles_below 8 x))

  pub own_below : AllBelow 16 (little_endian 8 (nibbles_of x))
  own_below = subst (λ (xs : List ℕ). AllBelow 16 xs) (sym own_nibbles) (nibbles_below 8 x)

  pub eight_digits : (w s : ℕ) → little_endian 8 s ≡ map digit_byte (little_endian 8 (nibbles_of x)) → w ≡ s → Numbers 8 (little_endian 8 w) (Some (number_of (nibbles_of x)))
  unfolding cap
  eight_digits w s spelled e =
      let ds = nibbles 8 x in
      let below = nibbles_below 8 x in
      let bytes : little_endian 8 w ≡ map digit_byte ds = ap (little_endian 8) e ∙ spelled ∙ ap (map digit_byte) own_nibbles in (
        ap (λ (xs : List ℕ). numbered (all_some (map digit_of xs))) bytes
            ∙ ap numbered (bytes_again ds below)
            ∙ ap (λ (i : ℕ). some i) (sym (ap number_of (nibbles_packed 8 x) ∙ number_is _ _ _ _ _ _ _ _ below)),
        omega arith,
      )

-- ---- the digits of a number: it is parted into fours, then pairs, then digits

-- a four and what follows it
four_parts : (p v m : ℕ) → p < 65536
    → bit_and ((p + 4294967296 * v) / 256) (255 + 4294967296 * m) + 65536 * bit_and (p + 4294967296 * v) (255 + 4294967296 * m)
    ≡ p / 256 + 65536 * (p % 256) + 4294967296 * (bit_and (v / 256) m + 65536 * bit_and v m)
four_parts p v m h =
    let r = p / 256 + 16777216 * (v % 256) in
    let x : (p + 4294967296 * v) / 256 ≡ v / 256 * 4294967296 + r = omega arith in
    let y : 255 + 4294967296 * m ≡ m * 4294967296 + 255 = omega arith in
    let z : p + 4294967296 * v ≡ v * 4294967296 + p = omega arith in
    let a : r % 256 ≡ p / 256 = omega arith in
    let upper : bit_and ((p + 4294967296 * v) / 256) (255 + 4294967296 * m) ≡ bit_and (v / 256) m * 4294967296 + p / 256 =
    ap₂ bit_and x y ∙ and_block 32 (v / 256) m r 255 (omega arith) (omega arith) ∙ ap (λ (i : ℕ). bit_and (v / 256) m * 4294967296 + i) (and_mask r 8 ∙ a) in
    let lower : bit_and (p + 4294967296 * v) (255 + 4294967296 * m) ≡ bit_and v m * 4294967296 + p % 256 =
    ap₂ bit_and z y ∙ and_block 32 v m p 255 (omega arith) (omega arith) ∙ ap (λ (i : ℕ). bit_and v m * 4294967296 + i) (and_mask p 8) in
    ap₂ (λ (i j : ℕ). i + 65536 * j) upper lower ∙ omega arith

-- a pair and what follows it
pair_parts : (p v m : ℕ) → p < 256
    → bit_and ((p + 65536 * v) / 16) (15 + 65536 * m) + 256 * bit_and (p + 65536 * v) (15 + 65536 * m)
    ≡ p / 16 + 256 * (p % 16) + 65536 * (bit_and (v / 16) m + 256 * bit_and v m)
pair_parts p v m h =
    let r = p / 16 + 4096 * (v % 16) in
    let x : (p + 65536 * v) / 16 ≡ v / 16 * 65536 + r = omega arith in
    let y : 15 + 65536 * m ≡ m * 65536 + 15 = omega arith in
    let z : p + 65536 * v ≡ v * 65536 + p = omega arith in
    let a : r % 16 ≡ p / 16 = omega arith in
    let upper : bit_and ((p + 65536 * v) / 16) (15 + 65536 * m) ≡ bit_and (v / 16) m * 65536 + p / 16 =
    ap₂ bit_and x y ∙ and_block 16 (v / 16) m r 15 (omega arith) (omega arith) ∙ ap (λ (i : ℕ). bit_and (v / 16) m * 65536 + i) (and_mask r 4 ∙ a) in
    let lower : bit_and (p + 65536 * v) (15 + 65536 * m) ≡ bit_and v m * 65536 + p % 16 =
    ap₂ bit_and z y ∙ and_block 16 v m p 15 (omega arith) (omega arith) ∙ ap (λ (i : ℕ). bit_and v m * 65536 + i) (and_mask p 4) in
    ap₂ (λ (i j : ℕ). i + 256 * j) upper lower ∙ omega arith

abbrev pub fours_in : ℕ → ℕ
fours_in n = n / 65536 % 65536 + 4294967296 * (n % 65536)

abbrev pub pairs_in : ℕ → ℕ
pairs_in f = bit_and (f / 256) 1095216660735 + 65536 * bit_and f 1095216660735

abbrev digits_parted : ℕ → ℕ
digits_parted p = bit_and (p / 16) 4222189076152335 + 256 * bit_and p 4222189076152335

pairs_are : (p q : ℕ) → p < 65536 → q < 65536 → pairs_in (p + 4294967296 * q) ≡ p / 256 + 65536 * (p % 256 + 65536 * (q / 256 + 65536 * (q % 256)))
pairs_are p q h k =
    let z : q ≡ q + 4294967296 * 0 = omega arith in
    four_parts p q 255 h
    ∙ ap (λ (i : ℕ). p / 256 + 65536 * (p % 256) + 4294967296 * (bit_and (i / 256) 255 + 65536 * bit_and i 255)) z
    ∙ ap (λ (i : ℕ). p / 256 + 65536 * (p % 256) + 4294967296 * i) (four_parts q 0 0 k)
    ∙ omega arith

digits_are : (x y z w : ℕ) → x < 256 → y < 256 → z < 256 → w < 256
    → digits_parted (x + 65536 * (y + 65536 * (z + 65536 * w)))
    ≡ packed (x / 16 ∷ x % 16 ∷ y / 16 ∷ y % 16 ∷ z / 16 ∷ z % 16 ∷ w / 16 ∷ w % 16 ∷ [])
digits_are x y z w hx hy hz hw =
    let e : w ≡ w + 65536 * 0 = omega arith in
    let last : bit_and (w / 16) 15 + 256 * bit_and w 15 ≡ w / 16 + 256 * (w % 16) + 65536 * 0 =
    ap (λ (i : ℕ). bit_and (i / 16) 15 + 256 * bit_and i 15) e ∙ pair_parts w 0 0 hw in
    pair_parts x (y + 65536 * (z + 65536 * w)) 64425492495 hx
    ∙ ap (λ (i : ℕ). x / 16 + 256 * (x % 16) + 65536 * i)
    (pair_parts y (z + 65536 * w) 983055 hy
    ∙ ap (λ (i : ℕ). y / 16 + 256 * (y % 16) + 65536 * i) (pair_parts z w 15 hz ∙ ap (λ (i : ℕ). z / 16 + 256 * (z % 16) + 65536 * i) last))
    ∙ omega arith

digits_below : (x y z w : ℕ) → x < 256 → y < 256 → z < 256 → w < 256 → AllBelow 16 (x / 16 ∷ x % 16 ∷ y / 16 ∷ y % 16 ∷ z / 16 ∷ z % 16 ∷ w / 16 ∷ w % 16 ∷ [])
digits_below x y z w hx hy hz hw = (omega arith, (omega arith, (omega arith, (omega arith, (omega arith, (omega arith, (omega arith, (omega arith, tt))))))))

-- the digits of a number, and what they are spelled as
module _ (n : ℕ) where
  abbrev parted : List ℕ
  parted =
      n / 65536 % 65536 / 256 / 16 ∷ n / 65536 % 65536 / 256 % 16 ∷ n / 65536 % 65536 % 256 / 16 ∷ n / 65536 % 65536 % 256 % 16 ∷ n % 65536 / 256 / 16
      ∷ n % 65536 / 256 % 16 ∷ n % 65536 % 256 / 16 ∷ n % 65536 % 256 % 16 ∷ []

  parted_packed : digits_parted (pairs_in (fours_in n)) ≡ packed parted
  parted_packed =
      ap digits_parted (pairs_are (n / 65536 % 65536) (n % 65536) (omega arith) (omega arith))
      ∙ digits_are (n / 65536 % 65536 / 256) (n / 65536 % 65536 % 256) (n % 65536 / 256) (n % 65536 % 256) (omega arith) (omega arith) (omega arith) (omega arith)

  parted_below : AllBelow 16 parted
  parted_below = digits_below (n / 65536 % 65536 / 256) (n / 65536 % 65536 % 256) (n % 65536 / 256) (n % 65536 % 256) (omega arith) (omega arith) (omega arith) (omega arith)

  parted_digits : map digit_byte parted ≡ digits_in 8 n
  parted_digits =
      let z0 : n / 65536 % 65536 / 256 / 16 ≡ n / 16 / 16 / 16 / 16 / 16 / 16 / 16 % 16 = omega arith in
      let z1 : n / 65536 % 65536 / 256 % 16 ≡ n / 16 / 16 / 16 / 16 / 16 / 16 % 16 = omega arith in
      let z2 : n / 65536 % 65536 % 256 / 16 ≡ n / 16 / 16 / 16 / 16 / 16 % 16 = omega arith in
      let z3 : n / 65536 % 65536 % 256 % 16 ≡ n / 16 / 16 / 16 / 16 % 16 = omega arith in
      let z4 : n % 65536 / 256 / 16 ≡ n / 16 / 16 / 16 % 16 = omega arith in
      let z5 : n % 65536 / 256 % 16 ≡ n / 16 / 16 % 16 = omega arith in
      let z6 : n % 65536 % 256 / 16 ≡ n / 16 % 16 = omega arith in
      let z7 : n % 65536 % 256 % 16 ≡ n % 16 = omega arith in
      rw (z0, z1, z2, z3, z4, z5, z6, z7)

  own_parted : little_endian 8 (digits_parted (pairs_in (fours_in n))) ≡ parted
  own_parted = ap (little_endian 8) parted_packed ∙ packed_again parted (bytes_fit parted parted_below)

  pub written_below : AllBelow 16 (little_endian 8 (digits_parted (pairs_in (fours_in n))))
  written_below = subst (λ (xs : List ℕ). AllBelow 16 xs) (sym own_parted) parted_below

  pub written : (s : ℕ) → little_endian 8 s ≡ map digit_byte (little_endian 8 (digits_parted (pairs_in (fours_in n)))) → little_endian 8 s ≡ digits_in 8 n
  written s spelled = spelled ∙ ap (map digit_byte) own_parted ∙ parted_digits

-- ---- a value's sixteen digits

-- without its last j digits
abbrev without : ℕ → ℕ → ℕ
without zero n = n
without (suc j) n = without j (n / 16)

digits_joined : (j k t n : ℕ) → t ≡ j + k → digits_in t n ≡ digits_in k (without j n) ++ digits_in j n
digits_joined zero k t n e = let z : t ≡ k = omega arith in ap (λ (i : ℕ). digits_in i n) z ∙ sym (append-nil (digits_in k n))
digits_joined (suc j) k zero n e = absurd (omega arith)
digits_joined (suc j) k (suc t) n e =
    let c = get_or hex_digits (n % 16) 0 ∷ [] in
    ap (λ (xs : List ℕ). xs ++ c) (digits_joined j k t (n / 16) (omega arith)) ∙ append_assoc (digits_in k (without j (n / 16))) (digits_in j (n / 16)) c

pub hex_halves : (n : ℕ) → hex n ≡ digits_in 8 (n / 4294967296) ++ digits_in 8 n
hex_halves n =
    let z : without 8 n ≡ n / 4294967296 = omega arith in
    digits_joined 8 8 16 n refl ∙ ap (λ (i : ℕ). digits_in 8 i ++ digits_in 8 n) z

-- ---- the bytes that a word is read from

module _ (b : List ℕ) where
  abbrev bytes_from : ℕ → ℕ → List ℕ
  bytes_from at zero = []
  bytes_from at (suc n) = byte_at b at ∷ bytes_from (at + 1) n

  from_part : (n at : ℕ) → at + n ≤ length b → bytes_from at n ≡ take n (drop at b)
  from_part zero at h = refl
  from_part (suc n) at h =
      let z : at + 1 ≡ suc at = omega arith in
      ap (λ (ys : List ℕ). byte_at b at ∷ ys) (from_part n (at + 1) (omega arith))
      ∙ ap (λ (j : ℕ). byte_at b at ∷ take n (drop j b)) z
      ∙ sym (ap (take (suc n)) (drop-cons b at 0 (omega arith)))

  long_packed : (at : ℕ) → long_at b at ≡ packed (bytes_from at 8)
  unfolding half_at word_at long_at
  long_packed at =
      let z2 : at + 1 + 1 ≡ at + 2 = omega arith in
      let z3 : at + 1 + 1 + 1 ≡ at + 2 + 1 = omega arith in
      let z4 : at + 1 + 1 + 1 + 1 ≡ at + 4 = omega arith in
      let z5 : at + 1 + 1 + 1 + 1 + 1 ≡ at + 4 + 1 = omega arith in
      let z6 : at + 1 + 1 + 1 + 1 + 1 + 1 ≡ at + 4 + 2 = omega arith in
      let z7 : at + 1 + 1 + 1 + 1 + 1 + 1 + 1 ≡ at + 4 + 2 + 1 = omega arith in
      omega (arith, ap (byte_at b) z2, ap (byte_at b) z3, ap (byte_at b) z4, ap (byte_at b) z5, ap (byte_at b) z6, ap (byte_at b) z7)

  module _ (bytes : (i : ℕ) → byte_at b i < 256) where
    from_below : (n at : ℕ) → AllBelow 256 (bytes_from at n)
    from_below zero at = tt
    from_below (suc n) at = (bytes at, from_below n (at + 1))

    pub long_again : (at : ℕ) → at + 8 ≤ length b → little_endian 8 (long_at b at) ≡ part b at (at + 8)
    unfolding part
    long_again at h =
        let z : at + 8 - at ≡ 8 = omega arith in
        ap (little_endian 8) (long_packed at)
        ∙ packed_again (bytes_from at 8) (from_below 8 at)
        ∙ from_part 8 at h
        ∙ ap (λ (n : ℕ). take n (drop at b)) (sym z)
