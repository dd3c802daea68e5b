-- Numbers of several bytes, of the list of their bytes.
use mathlib.Core.Path.{◌≡◌, refl, sym, ap, ◌∙◌}
use mathlib.Core.Bool.{Bool, true, false}
use mathlib.Core.List.{List, ◌++◌}
use Prim.Native.Nat.{ℕ, ◌+◌, ◌-◌, ◌≤◌, ◌<◌}
use native.Mathlib.Omega.{arith}
use lib.ListN.{drop_of_length-le, length, get_or, take, drop, get_or-append, length-drop}
use lib.Seq.{get_or-take, get_or-append_right}
use Rattle.std.proofs.lemmas.List.{get_or-drop, take-replicate}
use lib.Dec.{ltb}
use borrow.Author.Tests.{ltb-true, ltb-false}
use Rattle.std.specs.Int.{from_le_bytes, w16, w32, w64}
use Rattle.formula.specs.Text.{byte_at, half_at, word_at, long_at, zeros}
use Rattle.reader.proofs.Past.{byte_past, zero_byte}

-- the first n bytes of xs are those of b from a byte on
pub record Loaded (b : List ℕ) (at n : ℕ) (xs : List ℕ) : Type 0 where
  pub each : (i j : ℕ) → i < n → j ≡ at + i → get_or xs i 0 ≡ byte_at b j

pub loaded_known : (b : List ℕ) (at n : ℕ) (xs : List ℕ) → xs ≡ take n (drop at b) → Loaded b at n xs
loaded_known b at n xs q =
    record {
      each = λ i j h e.
          ap (λ (ys : List ℕ). get_or ys i 0) q ∙ get_or-take n (drop at b) i 0 h ∙ get_or-drop at b i 0 ∙ ap (λ (k : ℕ). byte_at b k) (sym e);
    }

pub loaded_padded : (b : List ℕ) (at n m : ℕ) (xs : List ℕ) → xs ≡ take n (drop at b ++ zeros m) → Loaded b at n xs
loaded_padded b at n m xs q =
    record {
      each = λ i j h e.
          ap (λ (ys : List ℕ). get_or ys i 0) q
          ∙ get_or-take n (drop at b ++ zeros m) i 0 h
          ∙ by_length i j e (ltb i (length (drop at b))) refl;
    }
  where
    by_length : (i j : ℕ) → j ≡ at + i → (t : Bool) → ltb i (length (drop at b)) ≡ t → get_or (drop at b ++ zeros m) i 0 ≡ byte_at b j
    by_length i j e true q =
        get_or-append (drop at b) (zeros m) 0 i (ltb-true i (length (drop at b)) q) ∙ get_or-drop at b i 0 ∙ ap (λ (k : ℕ). byte_at b k) (sym e)
    by_length i j e false q =
        let h = ltb-false i (length (drop at b)) q in
        get_or-append_right (drop at b) (zeros m) i 0 h ∙ zero_byte m (i - length (drop at b)) ∙ sym (byte_past b j (omega (arith, length-drop at b)))

-- past the end all are zeros
pub all_padded : (b : List ℕ) (at n : ℕ) → length b ≤ at → zeros n ≡ take n (drop at b ++ zeros n)
all_padded b at n h =
    sym (ap (λ (xs : List ℕ). take n (xs ++ zeros n)) (drop_of_length-le b h) ∙ take-replicate n n 0 (omega arith))

module _ (b : List ℕ) (at n : ℕ) (xs : List ℕ) where
  pub half_loaded : Loaded b at 2 xs → n ≡ from_le_bytes w16 xs → n ≡ half_at b at
  unfolding half_at
  half_loaded l e =
      omega (arith, e, l.each 0 at (omega arith) (omega arith), l.each 1 (at + 1) (omega arith) (omega arith))

  pub word_loaded : Loaded b at 4 xs → n ≡ from_le_bytes w32 xs → n ≡ word_at b at
  unfolding half_at word_at
  word_loaded l e =
      omega (
        arith,
        e,
        l.each 0 at (omega arith) (omega arith),
        l.each 1 (at + 1) (omega arith) (omega arith),
        l.each 2 (at + 2) (omega arith) (omega arith),
        l.each 3 (at + 2 + 1) (omega arith) (omega arith),
      )

  pub long_loaded : Loaded b at 8 xs → n ≡ from_le_bytes w64 xs → n ≡ long_at b at
  unfolding half_at word_at long_at
  long_loaded l e =
      omega (
        arith,
        e,
        l.each 0 at (omega arith) (omega arith),
        l.each 1 (at + 1) (omega arith) (omega arith),
        l.each 2 (at + 2) (omega arith) (omega arith),
        l.each 3 (at + 2 + 1) (omega arith) (omega arith),
        l.each 4 (at + 4) (omega arith) (omega arith),
        l.each 5 (at + 4 + 1) (omega arith) (omega arith),
        l.each 6 (at + 4 + 2) (omega arith) (omega arith),
        l.each 7 (at + 4 + 2 + 1) (omega arith) (omega arith),
      )
