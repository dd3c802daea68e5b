-- Numbers as they are stored, the lowest byte first.
use mathlib.Core.Path.{◌≡◌, refl, ap, ap₂, sym, ◌∙◌}
use mathlib.Core.List.{List, ◌∷◌}
use Prim.Native.Nat.{ℕ, zero, suc, ◌+◌, ◌-◌, ◌/◌, ◌^◌, ◌%◌, ◌≤◌}
use native.Mathlib.Omega.{arith}
use native.Mathlib.Nat.{div-one, div-div-eq-div-mul, pow-suc}
use borrow.Rule.Slice.PartMut.{put_mid}
use lib.ListN.{length, take}
use Rattle.std.specs.Int.{bytes_low_first, byte_at, to_le_bytes, w64}
use Rattle.formula.specs.Text.{little_endian}
use Rattle.writer.specs.Over.{over}
use Rattle.writer.proofs.Over.{over_lent}

byte_is : (i x : ℕ) → byte_at i x ≡ x / 256 ^ i % 256
byte_is zero x = ap (λ (n : ℕ). n % 256) (sym (div-one x))
byte_is (suc i) x = refl

-- n of k bytes from byte i on
bytes_from : (n k i x : ℕ) → n ≤ k → take n (bytes_low_first i k x) ≡ little_endian n (x / 256 ^ i)
bytes_from zero k i x h = refl
bytes_from (suc n) zero i x h = absurd (omega arith)
bytes_from (suc n) (suc k) i x h =
    let up : x / 256 ^ i / 256 ≡ x / 256 ^ suc i = rw (div-div-eq-div-mul, pow-suc) in
    ap₂ (λ (b : ℕ) (bs : List ℕ). b ∷ bs) (byte_is i x) (bytes_from n k (suc i) x (omega arith) ∙ ap (little_endian n) (sym up))

little_long : (n x : ℕ) → length (little_endian n x) ≡ n
little_long zero x = refl
little_long (suc n) x = ap suc (little_long n (x / 256))

-- the n lowest of the eight bytes of x, written over a part
pub lowest_written : (p : List ℕ) (a n x : ℕ) (xs : List ℕ) → n ≤ 8 → xs ≡ take n (to_le_bytes w64 x) → put_mid a (a + n - a) p xs ≡ over p a (little_endian n x)
lowest_written p a n x xs h e =
    let low : xs ≡ little_endian n x = e ∙ bytes_from n 8 0 x h ∙ ap (little_endian n) (div-one x) in
    rw low (over_lent p a (a + n - a) (little_endian n x) (omega (arith, little_long n x)))

-- the same of bytes that are told by those of an equal number
pub lowest_told : (p : List ℕ) (a n x : ℕ) {y : ℕ} {xs bs : List ℕ} → n ≤ 8 → xs ≡ take n bs → bs ≡ to_le_bytes w64 y → y ≡ x
    → put_mid a (a + n - a) p xs ≡ over p a (little_endian n x)
lowest_told p a n x {y} {xs} {bs} h e f g =
    lowest_written p a n x xs h (e ∙ ap (λ (ys : List ℕ). take n ys) (f ∙ ap (λ (k : ℕ). to_le_bytes w64 k) g))
