-- Bytes written at the start of a list, and behind one another.
use mathlib.Core.Path.{◌≡◌, refl, sym, ap, ◌∙◌, subst}
use mathlib.Core.List.{List, [], ◌++◌, append_assoc, append-nil}
use Prim.Native.Nat.{ℕ, ◌+◌, ◌-◌, ◌≤◌}
use native.Mathlib.Omega.{arith}
use lib.ListN.{length, take, drop, length-append, length-drop, drop_of_length-le}
use lib.Seq.{take_at, drop-append_seam, drop-drop, take_all}
use borrow.Rule.Slice.PartMut.{mid_of, post_of, put_mid}
use Rattle.writer.specs.Over.{over}
use Rattle.differentiate.specs.Written.{Writes}

pub written_over : (t out out' : List ℕ) (r : ℕ) → r ≡ 0 + length t → out' ≡ over out 0 t → Writes t out out' r
unfolding over
written_over t out out' r n e =
    let z : 0 + length t ≡ length t = omega arith in
    record { count = n ∙ z; held = e ∙ ap (λ (k : ℕ). t ++ drop k out) z }

pub as_text : (x y o o' : List ℕ) (r : ℕ) → x ≡ y → Writes x o o' r → Writes y o o' r
as_text x y o o' r e w = subst (λ (z : List ℕ). Writes z o o' r) e w

pub room_as : (x y : List ℕ) (n : ℕ) → x ≡ y → length y ≤ n → length x ≤ n
room_as x y n e h = omega (arith, ap length e)

-- nothing
pub writes_none : (o : List ℕ) → Writes [] o o 0
writes_none o = record { count = refl; held = refl }

mid_is : (a : ℕ) (xs : List ℕ) → mid_of a (length xs - a) xs ≡ drop a xs
mid_is a xs = let h : length (drop a xs) ≤ length xs - a = omega (arith, length-drop a xs) in take_all (length xs - a) (drop a xs) h

post_is : (a : ℕ) (xs : List ℕ) → post_of a (length xs - a) xs ≡ []
post_is a xs = let h : length (drop a xs) ≤ length xs - a = omega (arith, length-drop a xs) in drop_of_length-le (drop a xs) h

-- the free end behind what was written
module _ (t o o1 : List ℕ) (n : ℕ) (w : Writes t o o1 n) (h : length t ≤ length o) where
  pub same : length o1 ≡ length o
  same = ap length w.held ∙ length-append t (drop (length t) o) ∙ omega (arith, length-drop (length t) o)

  pub free_start : n ≤ length o1
  free_start = omega (arith, w.count, same)

  pub free_room : (u : List ℕ) → length t + length u ≤ length o → length u ≤ length (mid_of n (length o1 - n) o1)
  free_room u r = omega (arith, ap length (mid_is n o1), length-drop n o1, same, w.count)

  behind : drop n o1 ≡ drop (length t) o
  behind = ap (λ (k : ℕ). drop k o1) w.count ∙ ap (drop (length t)) w.held ∙ drop-append_seam t (drop (length t) o)

  pub then_writes : (u ys : List ℕ) (m : ℕ) → Writes u (mid_of n (length o1 - n) o1) ys m → Writes (t ++ u) o (put_mid n (length o1 - n) o1 ys) (n + m)
  then_writes u ys m v =
      let tk : take n o1 ≡ t = ap (take n) w.held ∙ take_at t (drop (length t) o) n (sym w.count) in
      record {
        count = omega (arith, w.count, v.count, length-append t u);
        held =
            ap (λ (x : List ℕ). take n o1 ++ (ys ++ x)) (post_is n o1)
            ∙ ap (λ (x : List ℕ). take n o1 ++ x) (append-nil ys ∙ v.held)
            ∙ ap (λ (x : List ℕ). take n o1 ++ (u ++ drop (length u) x)) (mid_is n o1 ∙ behind)
            ∙ ap (λ (x : List ℕ). x ++ (u ++ drop (length u) (drop (length t) o))) tk
            ∙ ap (λ (x : List ℕ). t ++ (u ++ x)) (drop-drop (length u) (length t) o)
            ∙ sym (append_assoc t u (drop (length t + length u) o))
            ∙ ap (λ (k : ℕ). (t ++ u) ++ drop k o) (sym (length-append t u));
      }

-- the first of two texts fits where both do
pub front : (t u o : List ℕ) → length (t ++ u) ≤ length o → length t ≤ length o
front t u o h = omega (arith, length-append t u)

-- u is to be written behind t, with room for both
module _ {t o o1 : List ℕ} {n : ℕ} (w : Writes t o o1 n) (u : List ℕ) (h : length (t ++ u) ≤ length o) where
  pub behind_room : length u ≤ length (mid_of n (length o1 - n) o1)
  behind_room = free_room t o o1 n w (front t u o h) u (omega (arith, length-append t u))

  pub behind_writes : {ys : List ℕ} {m : ℕ} → Writes u (mid_of n (length o1 - n) o1) ys m → Writes (t ++ u) o (put_mid n (length o1 - n) o1 ys) (n + m)
  behind_writes {ys} {m} v = then_writes t o o1 n w (front t u o h) u ys m v

-- ---- one text after another in a loop: of a whole text all before the rest is written, in so many bytes

pub record Begun (whole rest out out' : List ℕ) (n : ℕ) : Type 0 where
  pub done : List ℕ
  pub text : done ++ rest ≡ whole
  pub writes : Writes done out out' n
  pub inside : n ≤ length out'

pub begun_none : (whole out : List ℕ) → Begun whole whole out out 0
begun_none whole out = record { done = []; text = refl; writes = writes_none out; inside = omega arith }

pub begun_head : (t rest out out' : List ℕ) (n : ℕ) → length (t ++ rest) ≤ length out → Writes t out out' n → Begun (t ++ rest) rest out out' n
begun_head t rest out out' n h w = record { done = t; text = refl; writes = w; inside = free_start t out out' n w (front t rest out h) }

module _ {whole rest out out1 : List ℕ} {n : ℕ} (w : Begun whole rest out out1 n) (h : length whole ≤ length out) where
  both : length (w.done ++ rest) ≤ length out
  both = room_as _ _ _ w.text h

  -- the next text and the rest behind it
  module _ (t rest' : List ℕ) (e : t ++ rest' ≡ rest) where
    nearer : length (w.done ++ t) ≤ length out
    nearer = omega (arith, both, length-append w.done rest, length-append w.done t, length-append t rest', ap length e)

    pub begun_room : length t ≤ length (mid_of n (length out1 - n) out1)
    begun_room = behind_room w.writes t nearer

    pub begun_next : {ys : List ℕ} {m : ℕ} → Writes t (mid_of n (length out1 - n) out1) ys m → Begun whole rest' out (put_mid n (length out1 - n) out1 ys) (n + m)
    begun_next {ys} {m} v =
        let written = behind_writes w.writes t nearer v in
        record {
          done = w.done ++ t;
          text = append_assoc w.done t rest' ∙ ap (λ (x : List ℕ). w.done ++ x) e ∙ w.text;
          writes = written;
          inside = free_start (w.done ++ t) out (put_mid n (length out1 - n) out1 ys) (n + m) written nearer;
        }

  pub begun_last : {ys : List ℕ} {m : ℕ} → Writes rest (mid_of n (length out1 - n) out1) ys m → Writes whole out (put_mid n (length out1 - n) out1 ys) (n + m)
  begun_last v = as_text _ _ _ _ _ w.text (behind_writes w.writes rest both v)

pub begun_done : {whole rest out out' : List ℕ} {n : ℕ} → Begun whole rest out out' n → [] ≡ rest → Writes whole out out' n
begun_done w e = as_text _ _ _ _ _ (sym (append-nil w.done) ∙ ap (λ (x : List ℕ). w.done ++ x) e ∙ w.text) w.writes
