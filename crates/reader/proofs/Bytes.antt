-- Little-endian numbers: what is written is read again, and what is read is written again.
use mathlib.Core.Path.{◌≡◌, refl, sym, ap, ◌∙◌}
use mathlib.Core.List.{List, [], ◌∷◌, ◌++◌}
use Prim.Native.Nat.{ℕ, zero, suc, ◌+◌, ◌*◌, ◌/◌, ◌%◌, ◌≤◌, ◌<◌}
use native.Mathlib.Omega.{arith}
use lib.ListN.{length, get_or, take, drop, length-append, get_or-append}
use lib.Seq.{get_or-append-add, drop-cons}
use Rattle.formula.specs.Text.{half_at, word_at, long_at, little_endian}
use Rattle.formula.specs.Node.{Fields, fields_at, node_bytes, node_size}

-- the list xs stands in b from a byte on
pub record Shows (b : List ℕ) (at : ℕ) (xs : List ℕ) : Type 0 where
  pub inside : at + length xs ≤ length b
  pub each : (k : ℕ) → k < length xs → get_or b (at + k) 0 ≡ get_or xs k 0

pub shows_self : (xs : List ℕ) → Shows xs 0 xs
shows_self xs =
    record {
      inside = omega arith;
      each = λ k h. let e : 0 + k ≡ k = omega arith in ap (λ (j : ℕ). get_or xs j 0) e;
    }

pub shows_first : (b : List ℕ) (at : ℕ) (xs ys : List ℕ) → Shows b at (xs ++ ys) → Shows b at xs
shows_first b at xs ys s =
    record {
      inside = omega (arith, length-append xs ys, s.inside);
      each = λ k h. s.each k (omega (arith, length-append xs ys)) ∙ get_or-append xs ys 0 k h;
    }

pub shows_second : (b : List ℕ) (at at' : ℕ) (xs ys : List ℕ) → at' ≡ at + length xs → Shows b at (xs ++ ys) → Shows b at' ys
shows_second b at at' xs ys e s =
    record {
      inside = omega (arith, length-append xs ys, s.inside);
      each = λ k h.
          let q : at' + k ≡ at + (length xs + k) = omega arith in
          ap (λ (j : ℕ). get_or b j 0) q
          ∙ s.each (length xs + k) (omega (arith, length-append xs ys))
          ∙ get_or-append-add xs ys k 0;
    }

-- ---- numbers that fit

pub record Fit (f : Fields) : Type 0 where
  pub children : f.children < 65536
  pub symbol_number : f.symbol_number < 4294967296
  pub value : f.value < 18446744073709551616

two : (n : ℕ) → n < 65536 → n % 256 + 256 * (n / 256 % 256) ≡ n
two n h = omega arith

four : (n : ℕ) → n < 4294967296 → n % 256 + 256 * (n / 256 % 256) + 65536 * (n / 256 / 256 % 256 + 256 * (n / 256 / 256 / 256 % 256)) ≡ n
four n h =
    let m = n / 256 / 256 in
    omega (arith, two m (omega arith))

eight : (n m : ℕ) → m ≡ n / 256 / 256 / 256 / 256 → n < 18446744073709551616
    → n % 256 + 256 * (n / 256 % 256) + 65536 * (n / 256 / 256 % 256 + 256 * (n / 256 / 256 / 256 % 256))
    + 4294967296 * (m % 256 + 256 * (m / 256 % 256) + 65536 * (m / 256 / 256 % 256 + 256 * (m / 256 / 256 / 256 % 256)))
    ≡ n
eight n m e h =
    let l : m < 4294967296 = omega arith in
    let q = four m l in
    omega arith

long_sum : (x0 x1 x2 x3 x4 x5 x6 x7 n m : ℕ) → m ≡ n / 256 / 256 / 256 / 256 → n < 18446744073709551616
    → x0 ≡ n % 256 → x1 ≡ n / 256 % 256 → x2 ≡ n / 256 / 256 % 256 → x3 ≡ n / 256 / 256 / 256 % 256
    → x4 ≡ m % 256 → x5 ≡ m / 256 % 256 → x6 ≡ m / 256 / 256 % 256 → x7 ≡ m / 256 / 256 / 256 % 256
    → x0 + 256 * x1 + 65536 * (x2 + 256 * x3) + 4294967296 * (x4 + 256 * x5 + 65536 * (x6 + 256 * x7)) ≡ n
long_sum x0 x1 x2 x3 x4 x5 x6 x7 n m e h e0 e1 e2 e3 e4 e5 e6 e7 = rw (e0, e1, e2, e3, e4, e5, e6, e7) (eight n m e h)

byte_of : (b : List ℕ) (at i k : ℕ) (xs : List ℕ) → i ≡ at + k → k < length xs → Shows b at xs → get_or b i 0 ≡ get_or xs k 0
byte_of b at i k xs e h s = ap (λ (j : ℕ). get_or b j 0) e ∙ s.each k h

half_of : (b : List ℕ) (at n : ℕ) → n < 65536 → Shows b at (little_endian 2 n) → half_at b at ≡ n
unfolding half_at
half_of b at n h s =
    let xs = little_endian 2 n in
    let e0 : get_or b at 0 ≡ n % 256 = byte_of b at at 0 xs (omega arith) (omega arith) s in
    let e1 : get_or b (at + 1) 0 ≡ n / 256 % 256 = byte_of b at (at + 1) 1 xs refl (omega arith) s in
    omega (arith, two n h)

word_of : (b : List ℕ) (at n : ℕ) → n < 4294967296 → Shows b at (little_endian 4 n) → word_at b at ≡ n
unfolding half_at word_at
word_of b at n h s =
    let xs = little_endian 4 n in
    let e0 : get_or b at 0 ≡ n % 256 = byte_of b at at 0 xs (omega arith) (omega arith) s in
    let e1 : get_or b (at + 1) 0 ≡ n / 256 % 256 = byte_of b at (at + 1) 1 xs refl (omega arith) s in
    let e2 : get_or b (at + 2) 0 ≡ n / 256 / 256 % 256 = byte_of b at (at + 2) 2 xs refl (omega arith) s in
    let e3 : get_or b (at + 2 + 1) 0 ≡ n / 256 / 256 / 256 % 256 = byte_of b at (at + 2 + 1) 3 xs (omega arith) (omega arith) s in
    omega (arith, four n h)

long_of : (b : List ℕ) (at n : ℕ) → n < 18446744073709551616 → Shows b at (little_endian 8 n) → long_at b at ≡ n
unfolding half_at word_at long_at
long_of b at n h s =
    let xs = little_endian 8 n in
    let m = n / 256 / 256 / 256 / 256 in
    let e0 : get_or b at 0 ≡ n % 256 = byte_of b at at 0 xs (omega arith) (omega arith) s in
    let e1 : get_or b (at + 1) 0 ≡ n / 256 % 256 = byte_of b at (at + 1) 1 xs refl (omega arith) s in
    let e2 : get_or b (at + 2) 0 ≡ n / 256 / 256 % 256 = byte_of b at (at + 2) 2 xs refl (omega arith) s in
    let e3 : get_or b (at + 2 + 1) 0 ≡ n / 256 / 256 / 256 % 256 = byte_of b at (at + 2 + 1) 3 xs (omega arith) (omega arith) s in
    let e4 : get_or b (at + 4) 0 ≡ m % 256 = byte_of b at (at + 4) 4 xs refl (omega arith) s in
    let e5 : get_or b (at + 4 + 1) 0 ≡ m / 256 % 256 = byte_of b at (at + 4 + 1) 5 xs (omega arith) (omega arith) s in
    let e6 : get_or b (at + 4 + 2) 0 ≡ m / 256 / 256 % 256 = byte_of b at (at + 4 + 2) 6 xs (omega arith) (omega arith) s in
    let e7 : get_or b (at + 4 + 2 + 1) 0 ≡ m / 256 / 256 / 256 % 256 = byte_of b at (at + 4 + 2 + 1) 7 xs (omega arith) (omega arith) s in
    long_sum (get_or b at 0) (get_or b (at + 1) 0) (get_or b (at + 2) 0) (get_or b (at + 2 + 1) 0) (get_or b (at + 4) 0) (get_or b (at + 4 + 1) 0) (get_or b (at + 4 + 2) 0) (get_or b (at + 4 + 2 + 1) 0) n m refl h e0 e1 e2 e3 e4 e5 e6 e7

-- the fields of written bytes
pub fields_shown : (b : List ℕ) (at : ℕ) (f : Fields) → Fit f → Shows b at (node_bytes f) → fields_at b at ≡ f
unfolding fields_at node_bytes
fields_shown b at f t s =
    let c2 = little_endian 2 f.children in
    let c4 = little_endian 4 f.symbol_number in
    let c8 = little_endian 8 f.value in
    let e0 : get_or b at 0 ≡ f.kind = byte_of b at at 0 (node_bytes f) (omega arith) (omega arith) s in
    let e1 : get_or b (at + 1) 0 ≡ f.operator = byte_of b at (at + 1) 1 (node_bytes f) refl (omega arith) s in
    let s2 : Shows b (at + 2) (c2 ++ (c4 ++ c8)) = shows_second b at (at + 2) (f.kind ∷ f.operator ∷ []) (c2 ++ (c4 ++ c8)) refl s in
    let s4 : Shows b (at + 4) (c4 ++ c8) = shows_second b (at + 2) (at + 4) c2 (c4 ++ c8) (omega arith) s2 in
    let s8 : Shows b (at + 8) c8 = shows_second b (at + 4) (at + 8) c4 c8 (omega arith) s4 in
    let e2 = half_of b (at + 2) f.children t.children (shows_first b (at + 2) c2 (c4 ++ c8) s2) in
    let e4 = word_of b (at + 4) f.symbol_number t.symbol_number (shows_first b (at + 4) c4 c8 s4) in
    let e8 = long_of b (at + 8) f.value t.value s8 in
    rw (e0, e1, e2, e4, e8)

-- ---- bytes that are read

-- so many bytes from a place on
pub bytes_from : List ℕ → ℕ → ℕ → List ℕ
bytes_from b at zero = []
bytes_from b at (suc w) = get_or b at 0 ∷ bytes_from b (at + 1) w

of_bytes : List ℕ → ℕ
of_bytes [] = 0
of_bytes (x ∷ xs) = x + 256 * of_bytes xs

-- every byte of a slice is below 256
abbrev pub Bytes : List ℕ → Type 0
Bytes b = (i : ℕ) → get_or b i 0 < 256

again : (b : List ℕ) → Bytes b → (w at : ℕ) → little_endian w (of_bytes (bytes_from b at w)) ≡ bytes_from b at w
unfolding bytes_from of_bytes
again b h zero at = refl
again b h (suc w) at =
    let x = get_or b at 0 in
    let m = of_bytes (bytes_from b (at + 1) w) in
    let l = h at in
    let r : (x + 256 * m) % 256 ≡ x = omega arith in
    let q : (x + 256 * m) / 256 ≡ m = omega arith in
    ap (λ (y : ℕ). y ∷ little_endian w ((x + 256 * m) / 256)) r
    ∙ ap (λ (y : ℕ). x ∷ little_endian w y) q
    ∙ ap (λ (ys : List ℕ). x ∷ ys) (again b h w (at + 1))

half_bytes : (b : List ℕ) (at : ℕ) → half_at b at ≡ of_bytes (bytes_from b at 2)
unfolding half_at bytes_from of_bytes
half_bytes b at = omega arith

word_bytes : (b : List ℕ) (at : ℕ) → word_at b at ≡ of_bytes (bytes_from b at 4)
unfolding half_at word_at bytes_from of_bytes
word_bytes b at =
    let z2 : at + 1 + 1 ≡ at + 2 = omega arith in
    let z3 : at + 1 + 1 + 1 ≡ at + 2 + 1 = omega arith in
    omega (arith, ap (λ (j : ℕ). get_or b j 0) z2, ap (λ (j : ℕ). get_or b j 0) z3)

long_bytes : (b : List ℕ) (at : ℕ) → long_at b at ≡ of_bytes (bytes_from b at 8)
unfolding half_at word_at long_at bytes_from of_bytes
long_bytes b at =
    let z2 : at + 1 + 1 ≡ at + 2 = omega arith in
    let z3 : at + 1 + 1 + 1 ≡ at + 2 + 1 = omega arith in
    let z4 : at + 1 + 1 + 1 + 1 ≡ at + 4 = omega arith in
    let z5 : at + 1 + 1 + 1 + 1 + 1 ≡ at + 4 + 1 = omega arith in
    let z6 : at + 1 + 1 + 1 + 1 + 1 + 1 ≡ at + 4 + 2 = omega arith in
    let z7 : at + 1 + 1 + 1 + 1 + 1 + 1 + 1 ≡ at + 4 + 2 + 1 = omega arith in
    omega (arith, ap (λ (j : ℕ). get_or b j 0) z2, ap (λ (j : ℕ). get_or b j 0) z3, ap (λ (j : ℕ). get_or b j 0) z4, ap (λ (j : ℕ). get_or b j 0) z5, ap (λ (j : ℕ). get_or b j 0) z6, ap (λ (j : ℕ). get_or b j 0) z7)

bytes_add : (b : List ℕ) (v w at : ℕ) → bytes_from b at (w + v) ≡ bytes_from b at w ++ bytes_from b (at + w) v
unfolding bytes_from
bytes_add b v zero at =
    let e : zero + v ≡ v = omega arith in
    let q : at ≡ at + zero = omega arith in
    ap (λ (j : ℕ). bytes_from b at j) e ∙ ap (λ (j : ℕ). bytes_from b j v) q
bytes_add b v (suc w) at =
    let e : suc w + v ≡ suc (w + v) = omega arith in
    let q : at + 1 + w ≡ at + suc w = omega arith in
    ap (λ (j : ℕ). bytes_from b at j) e
    ∙ ap (λ (ys : List ℕ). get_or b at 0 ∷ ys) (bytes_add b v w (at + 1))
    ∙ ap (λ (j : ℕ). get_or b at 0 ∷ (bytes_from b (at + 1) w ++ bytes_from b j v)) q

pub bytes_are : (b : List ℕ) (w at : ℕ) → at + w ≤ length b → bytes_from b at w ≡ take w (drop at b)
unfolding bytes_from
bytes_are b zero at h = refl
bytes_are b (suc w) at h =
    let q : at + 1 ≡ suc at = omega arith in
    ap (λ (ys : List ℕ). get_or b at 0 ∷ ys) (bytes_are b w (at + 1) (omega arith))
    ∙ ap (λ (j : ℕ). get_or b at 0 ∷ take w (drop j b)) q
    ∙ sym (ap (λ (ys : List ℕ). take (suc w) ys) (drop-cons b at 0 (omega arith)))

-- a node's bytes are those of its fields
pub node_again : (b : List ℕ) (at : ℕ) → Bytes b → at + node_size ≤ length b → node_bytes (fields_at b at) ≡ take node_size (drop at b)
unfolding fields_at node_bytes bytes_from
node_again b at h l =
    let e2 : little_endian 2 (half_at b (at + 2)) ≡ bytes_from b (at + 2) 2 = ap (little_endian 2) (half_bytes b (at + 2)) ∙ again b h 2 (at + 2) in
    let e4 : little_endian 4 (word_at b (at + 4)) ≡ bytes_from b (at + 4) 4 = ap (little_endian 4) (word_bytes b (at + 4)) ∙ again b h 4 (at + 4) in
    let e8 : little_endian 8 (long_at b (at + 8)) ≡ bytes_from b (at + 8) 8 = ap (little_endian 8) (long_bytes b (at + 8)) ∙ again b h 8 (at + 8) in
    let q4 : at + 2 + 2 ≡ at + 4 = omega arith in
    let q8 : at + 4 + 4 ≡ at + 8 = omega arith in
    let s2 = bytes_add b 14 2 at in
    let s4 = bytes_add b 12 2 (at + 2) in
    let s8 = bytes_add b 8 4 (at + 4) in
    let f2 = bytes_from b at 2 in
    let f4 = bytes_from b (at + 2) 2 in
    let f8 = bytes_from b (at + 4) 4 in
    ap (λ (ys : List ℕ). f2 ++ (ys ++ (little_endian 4 (word_at b (at + 4)) ++ little_endian 8 (long_at b (at + 8))))) e2
    ∙ ap (λ (ys : List ℕ). f2 ++ (f4 ++ (ys ++ little_endian 8 (long_at b (at + 8))))) e4
    ∙ ap (λ (ys : List ℕ). f2 ++ (f4 ++ (f8 ++ ys))) e8
    ∙ ap (λ (j : ℕ). f2 ++ (f4 ++ (f8 ++ bytes_from b j 8))) (sym q8)
    ∙ ap (λ (ys : List ℕ). f2 ++ (f4 ++ ys)) (sym s8)
    ∙ ap (λ (j : ℕ). f2 ++ (f4 ++ bytes_from b j 12)) (sym q4)
    ∙ ap (λ (ys : List ℕ). f2 ++ ys) (sym s4)
    ∙ sym s2
    ∙ bytes_are b 16 at l

-- what is read fits
pub fields_fit : (b : List ℕ) (at : ℕ) → Bytes b → Fit (fields_at b at)
unfolding fields_at half_at word_at long_at
fields_fit b at h =
    record {
      children = omega (arith, h (at + 2), h (at + 2 + 1));
      symbol_number = omega (arith, h (at + 4), h (at + 4 + 1), h (at + 4 + 2), h (at + 4 + 2 + 1));
      value = omega (arith, h (at + 8), h (at + 8 + 1), h (at + 8 + 2), h (at + 8 + 2 + 1), h (at + 8 + 4), h (at + 8 + 4 + 1), h (at + 8 + 4 + 2), h (at + 8 + 4 + 2 + 1));
    }
