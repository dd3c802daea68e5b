-- Texts written one after another, and the output lines made of them.
use Rattle.std.proofs.Common.{◌≡◌, ℕ, ◌+◌, ◌-◌, ◌/◌, ◌<◌, ◌≤◌, List, [], ◌++◌, length, take, drop, sym, refl, ap, ◌∙◌, subst, ap₂, append_assoc, append-nil, arith, length-append, length-drop, length-take-le}
use lib.Ieee.{Float, binary64, to_bits}
use borrow.Rule.Slice.PartMut.{mid_of, post_of, put_mid, Post-is}
use Rattle.formula.specs.Text.{ascii, decimal, little_endian, zeros}
use Rattle.formula.specs.Path.{Path, placed, text}
use Rattle.formula.specs.Values.{digits_in, hex}
use mathlib.Core.Option.{some}
use Rattle.meaning.specs.Work.{elementary, power}
use Rattle.machine.specs.Machine.{Answer, asks, gives, outside, refused, spent}
use Rattle.writer.specs.Over.{over}
use Rattle.writer.proofs.Over.{next_over, over_length, over_over}
use Rattle.writer.proofs.Decimal.{decimal_length_le}
use Rattle.refusals.specs.declared.Refusal.{Refusal}
use Rattle.run.specs.declared.Answer as Answered
use Rattle.run.specs.declared.Answer.TheVariants as Code
use Rattle.run.specs.Views.{answer_of}
use Rattle.listing.specs.Legs.{Line, bits_text, colon, comma, line_of, printed, refused_as}
use Rattle.listing.specs.Totals.{Totals, total_line}
use Rattle.lines.specs.Text.{Wrote, shown}
use Rattle.values.proofs.Eights.{hex_halves}

-- ---- lengths

pub decimal_long : (n : ℕ) → n < 18446744073709551616 → length (decimal n) ≤ 20
decimal_long n h = decimal_length_le 20 n (omega arith) (omega arith)

pub decimal_byte : (n : ℕ) → n < 256 → length (decimal n) ≤ 3
decimal_byte n h = decimal_length_le 3 n (omega arith) (omega arith)

-- ---- one text, and another after it

pub wrote : (out : List ℕ) (at : ℕ) (xs out' : List ℕ) (end : ℕ) → (end ≡ at + length xs) × (out' ≡ over out at xs) → Wrote out at xs out' end
wrote out at xs out' end h = record { ends = h.0; stands = h.1 }

pub wrote_length : (out : List ℕ) (at : ℕ) (xs out' : List ℕ) (end : ℕ) → Wrote out at xs out' end → end ≤ length out → length out' ≡ length out
wrote_length out at xs out' end w h = ap length w.stands ∙ over_length out at xs (let e = w.ends in omega arith)

pub wrote_then : (out : List ℕ) (at : ℕ) (xs mid : List ℕ) (m : ℕ) (ys out' : List ℕ) (end : ℕ) → m ≤ length out → Wrote out at xs mid m → Wrote mid m ys out' end
    → Wrote out at (xs ++ ys) out' end
wrote_then out at xs mid m ys out' end h w v =
    let e = w.ends in
    record {
      ends = let f = v.ends in omega (arith, length-append xs ys);
      stands = v.stands
          ∙ ap (λ (o : List ℕ). over o m ys) w.stands
          ∙ ap (λ (k : ℕ). over (over out at xs) k ys) e
          ∙ over_over out at xs ys (omega arith);
    }

pub wrote_as : (out : List ℕ) (at : ℕ) (xs ys out' : List ℕ) (end : ℕ) → xs ≡ ys → Wrote out at xs out' end → Wrote out at ys out' end
wrote_as out at xs ys out' end e w = subst (λ (zs : List ℕ). Wrote out at zs out' end) e w

-- ---- bits

-- two words of eight digits
pub bits_wrote : (out : List ℕ) (at n : ℕ) (x : Float) (high low : ℕ) (mid out' : List ℕ) → at + 16 ≤ length out → little_endian 8 high ≡ digits_in 8 (n / 4294967296)
    → little_endian 8 low ≡ digits_in 8 n → n ≡ to_bits binary64 x → mid ≡ over out at (little_endian 8 high) → out' ≡ over mid (at + 8) (little_endian 8 low)
    → Wrote out at (bits_text x) out' (at + 16)
bits_wrote out at n x high low mid out' h e f q v w =
    record {
      ends = refl;
      stands = next_over out mid out' at (at + 8) (little_endian 8 high) (little_endian 8 low) v w refl (omega arith)
          ∙ ap₂ (λ (xs ys : List ℕ). over out at (xs ++ ys)) e f
          ∙ ap (over out at) (sym (hex_halves n) ∙ ap hex q);
    }

-- ---- questions

module _ (out : List ℕ) (at f : ℕ) (x : Float) (o1 o2 o3 o4 : List ℕ) (r1 r2 r3 r4 : ℕ) where
  pub elementary_wrote : r1 ≤ length out → r2 ≤ length out → r3 ≤ length out → Wrote out at (ascii "ask,") o1 r1 → Wrote o1 r1 (decimal f) o2 r2 → Wrote o2 r2 colon o3 r3
      → Wrote o3 r3 (bits_text x) o4 r4 → Wrote out at (shown (line_of (asks (elementary f x)) 0)) o4 r4
  elementary_wrote h1 h2 h3 w1 w2 w3 w4 =
      let a = ascii "ask," in
      let b = bits_text x in
      let v2 = wrote_then out at a o1 r1 (decimal f) o2 r2 h1 w1 w2 in
      let v3 = wrote_then out at (a ++ decimal f) o2 r2 colon o3 r3 h2 v2 w3 in
      wrote_as out at (a ++ decimal f ++ colon ++ b) (a ++ (decimal f ++ colon ++ b)) o4 r4
      (ap (λ (zs : List ℕ). zs ++ b) (append_assoc a (decimal f) colon) ∙ append_assoc a (decimal f ++ colon) b) (wrote_then out at (a ++ decimal f ++ colon) o3 r3 b o4 r4 h3 v3 w4)

module _ (out : List ℕ) (at : ℕ) (x y : Float) (o1 o2 o3 o4 : List ℕ) (r1 r2 r3 r4 : ℕ) where
  pub power_wrote : r1 ≤ length out → r2 ≤ length out → r3 ≤ length out → Wrote out at (ascii "ask,16:") o1 r1 → Wrote o1 r1 (bits_text x) o2 r2 → Wrote o2 r2 colon o3 r3
      → Wrote o3 r3 (bits_text y) o4 r4 → Wrote out at (shown (line_of (asks (power x y)) 0)) o4 r4
  power_wrote h1 h2 h3 w1 w2 w3 w4 =
      let a = ascii "ask,16:" in
      let v2 = wrote_then out at a o1 r1 (bits_text x) o2 r2 h1 w1 w2 in
      let v3 = wrote_then out at (a ++ bits_text x) o2 r2 colon o3 r3 h2 v2 w3 in
      wrote_then out at (a ++ bits_text x ++ colon) o3 r3 (bits_text y) o4 r4 h3 v3 w4

-- ---- a path in a part of the output

pub mid_length : (a n : ℕ) (xs : List ℕ) → a + n ≤ length xs → length (mid_of a (a + n - a) xs) ≡ n
mid_length a n xs h =
    let z : a + n - a ≡ n = omega arith in
    ap (λ (k : ℕ). length (mid_of a k xs)) z ∙ length-take-le n (drop a xs) (omega (arith, length-drop a xs))

zeros_none : (n m : ℕ) → n ≡ m → zeros (n - m) ≡ []
zeros_none n m e = let z : n - m ≡ 0 = omega arith in ap zeros z

pub path_wrote : (out : List ℕ) (from n : ℕ) (path : Path) (ys : List ℕ) → from + n ≤ length out → length (text path) ≡ n
    → ys ≡ placed (some path) (mid_of from (from + n - from) out) → Wrote out from (text path) (put_mid from (from + n - from) out ys) (from + n)
unfolding over
path_wrote out from n path ys h l e =
    let t = text path in
    let m = mid_length from n out h in
    let q : ys ≡ t = e ∙ ap (λ (zs : List ℕ). t ++ zs) (zeros_none (length (mid_of from (from + n - from) out)) (length t) (m ∙ sym l)) ∙ append-nil t in
    record {
      ends = ap (λ (k : ℕ). from + k) (sym l);
      stands = ap (λ (zs : List ℕ). take from out ++ (zs ++ post_of from (from + n - from) out)) q
          ∙ ap (λ (zs : List ℕ). take from out ++ (t ++ zs)) (Post-is from (from + n) out (omega arith) ∙ ap (λ (k : ℕ). drop (from + k) out) (sym l));
    }

-- ---- a line

shown_any : (a : Answer) (count : ℕ) → shown (line_of a 0) ≡ shown (line_of a count)
shown_any (gives v) count = refl
shown_any (asks q) count = refl
shown_any spent count = refl
shown_any (outside p) count = refl
shown_any (refused n) count = refl

-- an answer that is no refusal shows the instructions completed
pub steps_run : (b : List ℕ) (a : Answered.Answer) (count : ℕ) → ((r : Refusal) → a ≡ Code.Refused r → ⊥) → (line_of (answer_of b a) count).steps ≡ count
steps_run b (Code.Value v) count n = refl
steps_run b (Code.Question q) count n = refl
steps_run b Code.Spent count n = refl
steps_run b (Code.Domain k) count n = refl
steps_run b (Code.Refused r) count n = absurd (n r refl)

line_text : (number steps : ℕ) (l : Line) → l.steps ≡ steps → decimal number ++ comma ++ shown l ++ comma ++ decimal steps ++ ascii "\n" ≡ printed number l
line_text number steps l e =
    let x = decimal number ++ comma in
    ap (λ (zs : List ℕ). zs ++ comma ++ decimal steps ++ ascii "\n") (sym (append_assoc x (l.answer ++ comma) l.detail) ∙ ap (λ (zs : List ℕ). zs ++ l.detail) (sym (append_assoc x l.answer comma)))
    ∙ ap (λ (k : ℕ). x ++ l.answer ++ comma ++ l.detail ++ comma ++ decimal k ++ ascii "\n") (sym e)

module _ (out : List ℕ) (at number count steps : ℕ) (a : Answer) (o1 o2 o3 o4 o5 o6 : List ℕ) (r1 r2 r3 r4 r5 r6 : ℕ) where
  pub line_wrote : (line_of a count).steps ≡ steps → r1 ≤ length out → r2 ≤ length out → r3 ≤ length out → r4 ≤ length out → r5 ≤ length out → Wrote out at (decimal number) o1 r1
      → Wrote o1 r1 comma o2 r2 → Wrote o2 r2 (shown (line_of a 0)) o3 r3 → Wrote o3 r3 comma o4 r4 → Wrote o4 r4 (decimal steps) o5 r5 → Wrote o5 r5 (ascii "\n") o6 r6
      → Wrote out at (printed number (line_of a count)) o6 r6
  line_wrote e h1 h2 h3 h4 h5 w1 w2 w3 w4 w5 w6 =
      let x2 = decimal number ++ comma in
      let x3 = x2 ++ shown (line_of a 0) in
      let v2 = wrote_then out at (decimal number) o1 r1 comma o2 r2 h1 w1 w2 in
      let v3 = wrote_then out at x2 o2 r2 (shown (line_of a 0)) o3 r3 h2 v2 w3 in
      let v4 = wrote_then out at x3 o3 r3 comma o4 r4 h3 v3 w4 in
      let v5 = wrote_then out at (x3 ++ comma) o4 r4 (decimal steps) o5 r5 h4 v4 w5 in
      wrote_as out at (x3 ++ comma ++ decimal steps ++ ascii "\n") (printed number (line_of a count)) o6 r6
      (ap (λ (zs : List ℕ). x2 ++ zs ++ comma ++ decimal steps ++ ascii "\n") (shown_any a count) ∙ line_text number steps (line_of a count) e)
      (wrote_then out at (x3 ++ comma ++ decimal steps) o5 r5 (ascii "\n") o6 r6 h5 v5 w6)

-- ---- the total line

module _ (out : List ℕ) (at : ℕ) (t : Totals) (o1 o2 o3 o4 o5 o6 : List ℕ) (r1 r2 r3 r4 r5 r6 : ℕ) where
  pub total_wrote : r1 ≤ length out → r2 ≤ length out → r3 ≤ length out → r4 ≤ length out → r5 ≤ length out → Wrote out at (ascii "total,") o1 r1
      → Wrote o1 r1 (decimal t.values ++ ascii ",") o2 r2 → Wrote o2 r2 (decimal t.domains ++ ascii ",") o3 r3 → Wrote o3 r3 (decimal t.asks ++ ascii ",") o4 r4
      → Wrote o4 r4 (decimal t.bads ++ ascii ",") o5 r5 → Wrote o5 r5 (decimal t.steps ++ ascii "\n") o6 r6 → Wrote out at (total_line t) o6 r6
  total_wrote h1 h2 h3 h4 h5 w1 w2 w3 w4 w5 w6 =
      let x1 = ascii "total," in
      let x2 = x1 ++ (decimal t.values ++ ascii ",") in
      let x3 = x2 ++ (decimal t.domains ++ ascii ",") in
      let x4 = x3 ++ (decimal t.asks ++ ascii ",") in
      let x5 = x4 ++ (decimal t.bads ++ ascii ",") in
      let v2 = wrote_then out at x1 o1 r1 (decimal t.values ++ ascii ",") o2 r2 h1 w1 w2 in
      let v3 = wrote_then out at x2 o2 r2 (decimal t.domains ++ ascii ",") o3 r3 h2 v2 w3 in
      let v4 = wrote_then out at x3 o3 r3 (decimal t.asks ++ ascii ",") o4 r4 h3 v3 w4 in
      let v5 = wrote_then out at x4 o4 r4 (decimal t.bads ++ ascii ",") o5 r5 h4 v4 w5 in
      wrote_as out at (x5 ++ (decimal t.steps ++ ascii "\n")) (total_line t) o6 r6 (simp append_assoc) (wrote_then out at x5 o5 r5 (decimal t.steps ++ ascii "\n") o6 r6 h5 v5 w6)

-- ---- a refusal

refusal_text : (n : ℕ) (place : List ℕ) → ascii "0,refused," ++ decimal n ++ colon ++ place ++ ascii ",0\n" ≡ printed 0 (refused_as n place)
refusal_text n place =
    let x = ascii "0,refused," in
    let y = x ++ (decimal n ++ colon ++ place) in
    ap (λ (zs : List ℕ). zs ++ place ++ ascii ",0\n") (append_assoc x (decimal n) colon)
    ∙ ap (λ (zs : List ℕ). zs ++ ascii ",0\n") (append_assoc x (decimal n ++ colon) place)
    ∙ sym (append_assoc (y ++ comma) (decimal 0) (ascii "\n") ∙ append_assoc y comma (decimal 0 ++ ascii "\n"))

module _ (out : List ℕ) (at n : ℕ) (place o1 o2 o3 o4 o5 : List ℕ) (r1 r2 r3 r4 r5 : ℕ) where
  pub refusal_wrote : r1 ≤ length out → r2 ≤ length out → r3 ≤ length out → r4 ≤ length out → Wrote out at (ascii "0,refused,") o1 r1 → Wrote o1 r1 (decimal n) o2 r2 → Wrote o2 r2 colon o3 r3
      → Wrote o3 r3 place o4 r4 → Wrote o4 r4 (ascii ",0\n") o5 r5 → Wrote out at (printed 0 (refused_as n place)) o5 r5
  refusal_wrote h1 h2 h3 h4 w1 w2 w3 w4 w5 =
      let x = ascii "0,refused," in
      let v2 = wrote_then out at x o1 r1 (decimal n) o2 r2 h1 w1 w2 in
      let v3 = wrote_then out at (x ++ decimal n) o2 r2 colon o3 r3 h2 v2 w3 in
      let v4 = wrote_then out at (x ++ decimal n ++ colon) o3 r3 place o4 r4 h3 v3 w4 in
      wrote_as out at (x ++ decimal n ++ colon ++ place ++ ascii ",0\n") (printed 0 (refused_as n place)) o5 r5 (refusal_text n place)
      (wrote_then out at (x ++ decimal n ++ colon ++ place) o4 r4 (ascii ",0\n") o5 r5 h4 v4 w5)
