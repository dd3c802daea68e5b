-- Little-endian numbers in lists of bytes: what is written is read again.
use mathlib.Core.Path.{◌≡◌, ap, sym, ◌∙◌}
use mathlib.Core.List.{List, ◌++◌}
use Prim.Native.Nat.{ℕ, ◌+◌, ◌≤◌, ◌<◌}
use native.Mathlib.Nat.{add_assoc, add-zero}
use native.Mathlib.Omega.{arith}
use lib.ListN.{length, length-append, get_or-append}
use lib.Seq.{get_or-append-add}
use Rattle.formula.specs.Text.{byte_at, half_at, little_endian, long_at, word_at}

-- ---- a number at the head of a list

pub head_half : (n : ℕ) (rest : List ℕ) → n < 65536 → half_at (little_endian 2 n ++ rest) 0 ≡ n
unfolding half_at
head_half n rest h = omega arith

pub head_word : (n : ℕ) (rest : List ℕ) → n < 4294967296 → word_at (little_endian 4 n ++ rest) 0 ≡ n
unfolding word_at half_at
head_word n rest h = omega arith

pub head_long : (n : ℕ) (rest : List ℕ) → n < 18446744073709551616 → long_at (little_endian 8 n ++ rest) 0 ≡ n
unfolding long_at word_at half_at
head_long n rest h = omega arith

-- ---- a number behind other bytes

pub byte_behind : (a b : List ℕ) (j : ℕ) → byte_at (a ++ b) (length a + j) ≡ byte_at b j
byte_behind a b j = get_or-append-add a b j 0

pub byte_before : (a b : List ℕ) (j : ℕ) → j < length a → byte_at (a ++ b) j ≡ byte_at a j
byte_before a b j h = get_or-append a b 0 j h

-- w bytes of b from i on are those of c from j on
abbrev pub Same : List ℕ → List ℕ → ℕ → ℕ → ℕ → Type 0
Same b c i j w = (k : ℕ) → k < w → byte_at b (i + k) ≡ byte_at c (j + k)

pub same_byte : (b c : List ℕ) (i j : ℕ) → Same b c i j 1 → byte_at b i ≡ byte_at c j
same_byte b c i j h = rw (add-zero i, add-zero j) at (h 0 (omega arith))

pub same_part : (b c : List ℕ) (i j w : ℕ) → Same b c i j w → (d v : ℕ) → d + v ≤ w → Same b c (i + d) (j + d) v
same_part b c i j w h d v l k m = ap (byte_at b) (add_assoc i d k) ∙ h (d + k) (omega arith) ∙ ap (byte_at c) (sym (add_assoc j d k))

pub same_half : (b c : List ℕ) (i j : ℕ) → Same b c i j 2 → half_at b i ≡ half_at c j
unfolding half_at
same_half b c i j h = omega (arith, same_byte b c i j (λ k l. h k (omega arith)), h 1 (omega arith))

pub same_word : (b c : List ℕ) (i j : ℕ) → Same b c i j 4 → word_at b i ≡ word_at c j
unfolding word_at
same_word b c i j h =
    omega (arith, same_half b c i j (λ k l. h k (omega arith)), same_half b c (i + 2) (j + 2) (same_part b c i j 4 h 2 2 (omega arith)))

pub same_long : (b c : List ℕ) (i j : ℕ) → Same b c i j 8 → long_at b i ≡ long_at c j
unfolding long_at
same_long b c i j h =
    omega (arith, same_word b c i j (λ k l. h k (omega arith)), same_word b c (i + 4) (j + 4) (same_part b c i j 8 h 4 4 (omega arith)))

-- ---- lists in lists

-- from the byte `at` on, b has the bytes xs
pub record Holds (b : List ℕ) (at : ℕ) (xs : List ℕ) : Type 0 where
  pub bytes : (k : ℕ) → k < length xs → byte_at b (at + k) ≡ byte_at xs k

pub holds_here : (a xs rest : List ℕ) → Holds (a ++ xs ++ rest) (length a) xs
holds_here a xs rest =
    record { bytes = λ k h. byte_before (a ++ xs) rest (length a + k) (omega (arith, length-append a xs)) ∙ byte_behind a xs k }

module _ (b : List ℕ) (at : ℕ) where
  pub holds_left : (xs ys : List ℕ) → Holds b at (xs ++ ys) → Holds b at xs
  holds_left xs ys h = record { bytes = λ k l. h.bytes k (omega (arith, length-append xs ys)) ∙ byte_before xs ys k l }

  -- m is where the second part stands
  pub holds_right : (xs ys : List ℕ) (m : ℕ) → m ≡ at + length xs → Holds b at (xs ++ ys) → Holds b m ys
  holds_right xs ys m e h =
      record {
        bytes =
            λ k l. let there : m + k ≡ at + (length xs + k) = omega arith in
            ap (byte_at b) there ∙ h.bytes (length xs + k) (omega (arith, length-append xs ys)) ∙ byte_behind xs ys k;
      }

  module _ (xs : List ℕ) (h : Holds b at xs) (j m : ℕ) (e : m ≡ at + j) where
    -- m is where the list's byte j stands
    pub holds_same : (w : ℕ) → j + w ≤ length xs → Same b xs m j w
    holds_same w l k n = let there : m + k ≡ at + (j + k) = omega arith in ap (byte_at b) there ∙ h.bytes (j + k) (omega arith)

    pub holds_byte : j + 1 ≤ length xs → byte_at b m ≡ byte_at xs j
    holds_byte l = same_byte b xs m j (holds_same 1 l)

    pub holds_half : j + 2 ≤ length xs → half_at b m ≡ half_at xs j
    holds_half l = same_half b xs m j (holds_same 2 l)

    pub holds_word : j + 4 ≤ length xs → word_at b m ≡ word_at xs j
    holds_word l = same_word b xs m j (holds_same 4 l)

    pub holds_long : j + 8 ≤ length xs → long_at b m ≡ long_at xs j
    holds_long l = same_long b xs m j (holds_same 8 l)

-- several parts, each with the place where it stands
module _ (b : List ℕ) (at : ℕ) (u v w x y z : List ℕ) (i j k l m : ℕ) (vi : i ≡ at + length u) (wj : j ≡ i + length v) (xk : k ≡ j + length w) (yl : l ≡ k + length x)
    (zm : m ≡ l + length y) where
  pub holds_six : Holds b at (u ++ v ++ w ++ x ++ y ++ z) → Holds b at u × Holds b i v × Holds b j w × Holds b k x × Holds b l y × Holds b m z
  holds_six h =
      let h₅ = holds_left b at (u ++ v ++ w ++ x ++ y) z h in
      let h₄ = holds_left b at (u ++ v ++ w ++ x) y h₅ in
      let h₃ = holds_left b at (u ++ v ++ w) x h₄ in
      let h₂ = holds_left b at (u ++ v) w h₃ in
      let uv : length (u ++ v) ≡ length u + length v = simp length-append in
      let uw : length (u ++ v ++ w) ≡ length u + length v + length w = simp length-append in
      let ux : length (u ++ v ++ w ++ x) ≡ length u + length v + length w + length x = simp length-append in
      let uy : length (u ++ v ++ w ++ x ++ y) ≡ length u + length v + length w + length x + length y = simp length-append in (
        holds_left b at u v h₂,
        holds_right b at u v i vi h₂,
        holds_right b at (u ++ v) w j (omega arith) h₃,
        holds_right b at (u ++ v ++ w) x k (omega arith) h₄,
        holds_right b at (u ++ v ++ w ++ x) y l (omega arith) h₅,
        holds_right b at (u ++ v ++ w ++ x ++ y) z m (omega arith) h,
      )

  pub holds_seven : (t : List ℕ) (n : ℕ) → n ≡ m + length z → Holds b at (u ++ v ++ w ++ x ++ y ++ z ++ t)
      → (Holds b at u × Holds b i v × Holds b j w × Holds b k x × Holds b l y × Holds b m z) × Holds b n t
  holds_seven t n tn h =
      let uz : length (u ++ v ++ w ++ x ++ y ++ z) ≡ length u + length v + length w + length x + length y + length z = simp length-append in
      (holds_six (holds_left b at (u ++ v ++ w ++ x ++ y ++ z) t h), holds_right b at (u ++ v ++ w ++ x ++ y ++ z) t n (omega arith) h)
