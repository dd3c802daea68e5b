-- A name with its kind.
use mathlib.Core.Path.{◌≡◌, refl, sym, ap, ◌∙◌, subst}
use mathlib.Core.Bool.{Bool, true, false, cond, not, ◌&&◌, ◌||◌}
use mathlib.Core.List.{List, [], ◌∷◌, ◌++◌}
use mathlib.Core.Option.{Option, none, some}
use Prim.Native.Nat.{ℕ, zero, suc, ◌+◌, ◌-◌, ◌≤◌, ◌<◌}
use native.Mathlib.Omega.{arith}
use lib.ListN.{length, get_or, take, drop, length-append, length-drop, take-append-drop, drop_of_length-le}
use lib.Seq.{drop-cons, take-take, take_at, get_or-take, get_or-drop, get_or-append-add, get_or_at, length-take-le}
use lib.Dec.{eqb, leb, ltb}
use borrow.Author.Tests.{eqb-true, eqb-false, ne_eqb, leb-true, le-leb, ltb-true, ltb-false}
use Rattle.formula.specs.Text.{parted, split, all}
use Rattle.formula.specs.Names.{SymbolKind, Symbol, is_letter, is_digit, is_name, kind_of, named, symbol_of}
use Rattle.names.specs.Lines.{Ends, Letters, Tells, first_piece, free, kind_in, part, kind_told}
use Rattle.std.specs.Prelude.{Some, None}
use Rattle.std.specs.Prelude as Std
use Rattle.names.specs.declared.Kind.{Kind}
use Rattle.names.proofs.Splits.{no_true, and_first, and_second, and_both, split_end, split_next, later_pieces, pieces}
use Rattle.names.proofs.Letters.{letter_or_digit, end_of}

-- ---- pieces joined again

abbrev join : ℕ → List (List ℕ) → List ℕ
join c [] = []
join c (p ∷ []) = p
join c (p ∷ q ∷ qs) = p ++ (c ∷ join c (q ∷ qs))

join_glued : (c x : ℕ) (f : List ℕ) (l : List (List ℕ)) → join c ((x ∷ f) ∷ l) ≡ x ∷ join c (f ∷ l)
join_glued c x f [] = refl
join_glued c x f (q ∷ qs) = refl

rejoin_by : (b : Bool) (c x : ℕ) (f : List ℕ) (l : List (List ℕ)) (xs : List ℕ) → join c (f ∷ l) ≡ xs → eqb x c ≡ b → join c (parted b x (f ∷ l)) ≡ x ∷ xs
rejoin_by true c x f l xs e q = ap (λ (ys : List ℕ). c ∷ ys) e ∙ ap (λ (y : ℕ). y ∷ xs) (sym (eqb-true x c q))
rejoin_by false c x f l xs e q = join_glued c x f l ∙ ap (λ (ys : List ℕ). x ∷ ys) e

rejoin : (c : ℕ) (xs : List ℕ) → join c (split c xs) ≡ xs
rejoin c [] = refl
rejoin c (x ∷ xs) =
    let p = pieces c xs in
    ap (λ (ps : List (List ℕ)). join c (parted (eqb x c) x ps)) p
    ∙ rejoin_by (eqb x c) c x (first_piece c xs) (later_pieces c xs) xs (sym (ap (join c) p) ∙ rejoin c xs) refl

-- ---- what a symbol's bytes are

pub record Formed (p : List ℕ) (s : Symbol) : Type 0 where
  pub name : is_name s.name ≡ true
  pub byte : ℕ
  pub kind : kind_of byte ≡ some s.kind
  pub is : p ≡ s.name ++ (58 ∷ byte ∷ [])

named_kind : (name : List ℕ) (o : Option SymbolKind) (s : Symbol) → named name o ≡ some s → (s.name ≡ name) × (o ≡ some s.kind)
named_kind name none s e = let z : ◌≡◌ {A = ℕ} 0 1 = cc in absurd (omega arith)
named_kind name (some k) s e =
    let q : ◌≡◌ {A = Symbol} (record { name = name; kind = k }) s = cc in
    (ap (λ (t : Symbol). t.name) (sym q), ap (λ (t : Symbol). some t.kind) q)

formed_kind : (p name kind : List ℕ) (s : Symbol) → p ≡ name ++ (58 ∷ kind) → is_name name ≡ true → eqb (length kind) 1 ≡ true
    → named name (kind_of (get_or kind 0 0)) ≡ some s → Formed p s
formed_kind p name [] s e n l q = let z = eqb-true 0 1 l in absurd (omega arith)
formed_kind p name (k ∷ []) s e n l q =
    let w = named_kind name (kind_of k) s q in
    record {
      name = ap is_name w.0 ∙ n;
      byte = k;
      kind = w.1;
      is = e ∙ ap (λ (x : List ℕ). x ++ (58 ∷ k ∷ [])) (sym w.0);
    }
formed_kind p name (k ∷ j ∷ ks) s e n l q = let z = eqb-true (suc (suc (length ks))) 1 l in absurd (omega arith)

formed_parts : (p : List ℕ) (parts : List (List ℕ)) (s : Symbol) → join 58 parts ≡ p
    → (eqb (length parts) 2 && is_name (get_or parts 0 []) && eqb (length (get_or parts 1 [])) 1) ≡ true
    → named (get_or parts 0 []) (kind_of (get_or (get_or parts 1 []) 0 0)) ≡ some s → Formed p s
formed_parts p [] s j t q = absurd (no_true t)
formed_parts p (a ∷ []) s j t q = absurd (no_true t)
formed_parts p (a ∷ b ∷ []) s j t q =
    formed_kind p a b s (sym j) (and_first (is_name a) (eqb (length b) 1) t) (and_second (is_name a) (eqb (length b) 1) t) q
formed_parts p (a ∷ b ∷ c ∷ ds) s j t q =
    let n = suc (suc (suc (length ds))) in
    let z = eqb-true n 2 (and_first (eqb n 2) (is_name a) (and_first (eqb n 2 && is_name a) (eqb (length b) 1) t)) in
    absurd (omega arith)

formed_by : (t : Bool) (p : List ℕ) (parts : List (List ℕ)) (s : Symbol) → join 58 parts ≡ p
    → (eqb (length parts) 2 && is_name (get_or parts 0 []) && eqb (length (get_or parts 1 [])) 1) ≡ t
    → cond t (named (get_or parts 0 []) (kind_of (get_or (get_or parts 1 []) 0 0))) none ≡ some s → Formed p s
formed_by true p parts s j t q = formed_parts p parts s j t q
formed_by false p parts s j t q = let z : ◌≡◌ {A = ℕ} 0 1 = cc in absurd (omega arith)

pub formed : (p : List ℕ) (s : Symbol) → symbol_of (split 58 p) ≡ some s → Formed p s
formed p s e =
    let ps = split 58 p in
    formed_by (eqb (length ps) 2 && is_name (get_or ps 0 []) && eqb (length (get_or ps 1 [])) 1) p ps s (rejoin 58 p) refl e

unless : (o : Option Symbol) → ((s : Symbol) → o ≡ some s → ⊥) → None ≡ kind_told o
unless none h = refl
unless (some s) h = absurd (h s refl)

name_long : (xs : List ℕ) → is_name xs ≡ true → 1 ≤ length xs
name_long [] e = absurd (no_true e)
name_long (x ∷ xs) e = omega arith

-- ---- the bytes of a name

or_first : (a b : Bool) → a ≡ true → (a || b) ≡ true
or_first a b e = ap (λ (x : Bool). x || b) e

all_at : (xs : List ℕ) → all letter_or_digit xs ≡ true → (i : ℕ) → i < length xs → letter_or_digit (get_or xs i 0) ≡ true
all_at [] e i l = absurd (omega arith)
all_at (x ∷ xs) e zero l = and_first (letter_or_digit x) (all letter_or_digit xs) e
all_at (x ∷ xs) e (suc i) l = all_at xs (and_second (letter_or_digit x) (all letter_or_digit xs) e) i (omega arith)

all_from : (xs : List ℕ) → ((i : ℕ) → i < length xs → letter_or_digit (get_or xs i 0) ≡ true) → all letter_or_digit xs ≡ true
all_from [] h = refl
all_from (x ∷ xs) h = and_both (letter_or_digit x) (all letter_or_digit xs) (h 0 (omega arith)) (all_from xs (λ i l. h (suc i) (omega arith)))

name_first : (xs : List ℕ) → is_name xs ≡ true → is_letter (get_or xs 0 0) ≡ true
name_first [] e = absurd (no_true e)
name_first (x ∷ xs) e = and_first (is_letter x) (all letter_or_digit xs) (and_first (is_letter x && all letter_or_digit xs) (leb (length xs) 63) e)

name_each : (xs : List ℕ) → is_name xs ≡ true → (i : ℕ) → i < length xs → letter_or_digit (get_or xs i 0) ≡ true
name_each [] e i l = absurd (no_true e)
name_each (x ∷ xs) e zero l = or_first (is_letter x) (is_digit x) (name_first (x ∷ xs) e)
name_each (x ∷ xs) e (suc i) l =
    all_at xs (and_second (is_letter x) (all letter_or_digit xs) (and_first (is_letter x && all letter_or_digit xs) (leb (length xs) 63) e)) i (omega arith)

pub name_short : (xs : List ℕ) → is_name xs ≡ true → length xs ≤ 64
name_short [] e = omega arith
name_short (x ∷ xs) e = let q = leb-true (length xs) 63 (and_second (is_letter x && all letter_or_digit xs) (leb (length xs) 63) e) in omega arith

name_from : (xs : List ℕ) → 1 ≤ length xs → length xs ≤ 64 → is_letter (get_or xs 0 0) ≡ true
    → ((i : ℕ) → i < length xs → letter_or_digit (get_or xs i 0) ≡ true) → is_name xs ≡ true
name_from [] l m e h = absurd (omega arith)
name_from (x ∷ xs) l m e h =
    let a = all letter_or_digit xs in
    and_both (is_letter x && a) (leb (length xs) 63) (and_both (is_letter x) a e (all_from xs (λ i k. h (suc i) (omega arith)))) (le-leb (length xs) 63 (omega arith))

-- ---- a name has no `:`

no_colon : (b : ℕ) → letter_or_digit b ≡ true → not (eqb b 58) ≡ true
no_colon b e = ap not (ne_eqb b 58 (λ q. no_true (sym (ap letter_or_digit q) ∙ e)))

all_free : (xs : List ℕ) → all letter_or_digit xs ≡ true → free 58 xs ≡ true
all_free [] e = refl
all_free (x ∷ xs) e =
    and_both (not (eqb x 58)) (free 58 xs) (no_colon x (and_first (letter_or_digit x) (all letter_or_digit xs) e))
    (all_free xs (and_second (letter_or_digit x) (all letter_or_digit xs) e))

name_free : (xs : List ℕ) → is_name xs ≡ true → free 58 xs ≡ true
name_free [] e = absurd (no_true e)
name_free (x ∷ xs) e =
    let l = is_letter x in
    let a = all letter_or_digit xs in
    let w = and_first (l && a) _ e in
    and_both (not (eqb x 58)) (free 58 xs) (no_colon x (or_first l (is_digit x) (and_first l a w))) (all_free xs (and_second l a w))

nothing_left : (xs : List ℕ) (i : ℕ) → length xs ≤ i → drop i xs ≡ []
nothing_left xs i h = drop_of_length-le xs h

-- ---- the entry from one byte to another
module _ (line : List ℕ) (at end : ℕ) (from : at ≤ end) (inside : end ≤ length line) where
  part_length : length (part line at end) ≡ end - at
  unfolding part
  part_length = length-take-le (end - at) (drop at line) (omega (arith, length-drop at line))

  part_byte : (i : ℕ) → i < end - at → get_or (part line at end) i 0 ≡ get_or line (at + i) 0
  unfolding part
  part_byte i h = get_or-take (end - at) (drop at line) i 0 h ∙ get_or-drop at line i 0

  pub part_front : (n : ℕ) → n ≤ end - at → take n (part line at end) ≡ take n (drop at line)
  unfolding part
  part_front n h = take-take n (end - at) (drop at line) h

  long_enough : (s : Symbol) → symbol_of (split 58 (part line at end)) ≡ some s → 3 ≤ end - at
  long_enough s e =
      let f = formed (part line at end) s e in
      omega (arith, part_length, ap length f.is, length-append s.name (58 ∷ f.byte ∷ []), name_long s.name f.name)

  module _ (n : ℕ) (long : 3 ≤ end - at) (en : n ≡ end - at - 2) where
    record Taken (s : Symbol) : Type 0 where
      colon : get_or line (at + n) 0 ≡ 58
      byte : kind_of (get_or line (at + n + 1) 0) ≡ some s.kind
      name : is_name (take n (drop at line)) ≡ true

    taken : (s : Symbol) → symbol_of (split 58 (part line at end)) ≡ some s → Taken s
    taken s e =
        let f = formed (part line at end) s e in
        let l : length s.name ≡ n = omega (arith, part_length, ap length f.is, length-append s.name (58 ∷ f.byte ∷ [])) in
        let z : n + 1 ≡ length s.name + 1 = omega arith in
        let y : at + (n + 1) ≡ at + n + 1 = omega arith in
        record {
          colon = sym (part_byte n (omega arith)) ∙ ap (λ (ys : List ℕ). get_or ys n 0) f.is ∙ get_or_at s.name 58 (f.byte ∷ []) 0 n l;
          byte =
              ap kind_of
              (ap (λ (j : ℕ). get_or line j 0) (sym y)
              ∙ sym (part_byte (n + 1) (omega arith))
              ∙ ap (λ (ys : List ℕ). get_or ys (n + 1) 0) f.is
              ∙ ap (λ (j : ℕ). get_or (s.name ++ (58 ∷ f.byte ∷ [])) j 0) z
              ∙ get_or-append-add s.name (58 ∷ f.byte ∷ []) 1 0)
              ∙ f.kind;
          name =
              ap is_name (sym (part_front n (omega arith)) ∙ ap (take n) f.is ∙ take_at s.name (58 ∷ f.byte ∷ []) n l) ∙ f.name;
        }

    whole_part : get_or line (at + n) 0 ≡ 58 → part line at end ≡ take n (drop at line) ++ (58 ∷ get_or line (at + n + 1) 0 ∷ [])
    whole_part c =
        let p = part line at end in
        let k = get_or line (at + n + 1) 0 in
        let y : at + suc n ≡ at + n + 1 = omega arith in
        let d1 : drop n p ≡ 58 ∷ drop (suc n) p = drop-cons p n 0 (omega (arith, part_length)) ∙ ap (λ (x : ℕ). x ∷ drop (suc n) p) (part_byte n (omega arith) ∙ c) in
        let d2 : drop (suc n) p ≡ k ∷ drop (suc (suc n)) p =
        drop-cons p (suc n) 0 (omega (arith, part_length))
        ∙ ap (λ (x : ℕ). x ∷ drop (suc (suc n)) p) (part_byte (suc n) (omega arith) ∙ ap (λ (j : ℕ). get_or line j 0) y) in
        let d3 : drop (suc (suc n)) p ≡ [] = nothing_left p (suc (suc n)) (omega (arith, part_length)) in
        sym (take-append-drop n p)
        ∙ ap (λ (ys : List ℕ). take n p ++ ys) d1
        ∙ ap (λ (ys : List ℕ). take n p ++ (58 ∷ ys)) d2
        ∙ ap (λ (ys : List ℕ). take n p ++ (58 ∷ k ∷ ys)) d3
        ∙ ap (λ (ys : List ℕ). ys ++ (58 ∷ k ∷ [])) (part_front n (omega arith))

    some_place : (b : ℕ) (o : Option SymbolKind) (r : Std.Option Kind) → kind_of b ≡ o → r ≡ kind_in o → (r ≡ None → ⊥) → (name : List ℕ) → is_name name ≡ true
        → r ≡ kind_told (symbol_of (split 58 (name ++ (58 ∷ b ∷ []))))
    some_place b none r q p h name w = absurd (h p)
    some_place b (some k) r q p h name w =
        let nb : b ≡ 58 → ⊥ = λ z. let e = sym q ∙ ap kind_of z in let c : ◌≡◌ {A = ℕ} 0 1 = cc in omega arith in
        let s1 : split 58 (b ∷ []) ≡ (b ∷ []) ∷ [] = split_end 58 (b ∷ []) (and_both (not (eqb b 58)) true (ap not (ne_eqb b 58 nb)) refl) in
        let s2 : split 58 (name ++ (58 ∷ b ∷ [])) ≡ name ∷ (b ∷ []) ∷ [] = split_next 58 name (b ∷ []) (name_free name w) ∙ ap (λ (ps : List (List ℕ)). name ∷ ps) s1 in
        let t : symbol_of (name ∷ (b ∷ []) ∷ []) ≡ some (record { name = name; kind = k }) =
        ap (λ (x : Bool). cond (x && true) (named name (kind_of b)) none) w ∙ ap (named name) q in
        p ∙ sym (ap (λ (ps : List (List ℕ)). kind_told (symbol_of ps)) s2 ∙ ap kind_told t)

    entry_there : (r : Std.Option Kind) → get_or line (at + n) 0 ≡ 58 → r ≡ kind_in (kind_of (get_or line (at + n + 1) 0)) → (r ≡ None → ⊥)
        → is_name (take n (drop at line)) ≡ true → r ≡ kind_told (symbol_of (split 58 (part line at end)))
    entry_there r c p h w =
        some_place (get_or line (at + n + 1) 0) (kind_of (get_or line (at + n + 1) 0)) r refl p h (take n (drop at line)) w
        ∙ sym (ap (λ (ys : List ℕ). kind_told (symbol_of (split 58 ys))) (whole_part c))

-- ---- an entry by the end of its letters and digits

word_byte : (line : List ℕ) (at n i : ℕ) → i < n → get_or (take n (drop at line)) i 0 ≡ get_or line (at + i) 0
word_byte line at n i l = get_or-take n (drop at line) i 0 l ∙ get_or-drop at line i 0

-- a symbol's name ends there
record Shaped (line : List ℕ) (at stop end : ℕ) (s : Symbol) : Type 0 where
  after : stop ≡ end + 2
  colon : get_or line end 0 ≡ 58
  byte : kind_of (get_or line (end + 1) 0) ≡ some s.kind
  name : is_name (take (end - at) (drop at line)) ≡ true

kind_there : (o : Option SymbolKind) (k : SymbolKind) → o ≡ some k → kind_in o ≡ None → ⊥
kind_there none k e q = let z : ◌≡◌ {A = ℕ} 0 1 = cc in omega arith
kind_there (some j) k e q = let z : ◌≡◌ {A = ℕ} 0 1 = cc in omega arith

pub symbol_none : (o : Option Symbol) (r : Std.Option Kind) → r ≡ kind_told o → r ≡ None → o ≡ none
symbol_none none r e q = refl
symbol_none (some s) r e q = let z : ◌≡◌ {A = ℕ} 0 1 = cc in absurd (omega arith)

module _ (line : List ℕ) (at end : ℕ) (w : Letters line at end) where
  module _ (stop : ℕ) (u : Ends line at stop) (n : ℕ) (long : 3 ≤ stop - at) (en : n ≡ stop - at - 2) (colon : get_or line (at + n) 0 ≡ 58)
      (name : is_name (take n (drop at line)) ≡ true) where
    not_before : end < at + n → ⊥
    not_before l =
        let i = end - at in
        let z : at + i ≡ end = omega (arith, w.from) in
        let m : i < n = omega (arith, w.from) in
        no_true (sym (w.last (omega (arith, u.inside)))
        ∙ ap (λ (j : ℕ). letter_or_digit (get_or line j 0)) (sym z)
        ∙ ap letter_or_digit (sym (word_byte line at n i m))
        ∙ name_each (take n (drop at line)) name i (omega (arith, length-take-le n (drop at line) (omega (arith, length-drop at line, u.inside)))))

    not_after : at + n < end → ⊥
    not_after l = no_true (sym (ap letter_or_digit colon) ∙ w.each (at + n) (omega arith) l)

    word_end : at + n ≡ end
    word_end = word_end_by (ltb end (at + n)) (ltb (at + n) end) refl refl
      where
        word_end_by : (b c : Bool) → ltb end (at + n) ≡ b → ltb (at + n) end ≡ c → at + n ≡ end
        word_end_by true c p q = absurd (not_before (ltb-true end (at + n) p))
        word_end_by false true p q = absurd (not_after (ltb-true (at + n) end q))
        word_end_by false false p q = omega (arith, ltb-false end (at + n) p, ltb-false (at + n) end q)

  shaped : (stop : ℕ) → Ends line at stop → (s : Symbol) → symbol_of (split 58 (part line at stop)) ≡ some s → Shaped line at stop end s
  shaped stop u s e =
      let n = stop - at - 2 in
      let long = long_enough line at stop u.from u.inside s e in
      let t = taken line at stop u.from u.inside n long refl s e in
      let z = word_end stop u n long refl t.colon t.name in
      let y : n ≡ end - at = omega arith in
      record {
        after = omega arith;
        colon = ap (λ (j : ℕ). get_or line j 0) (sym z) ∙ t.colon;
        byte = ap (λ (j : ℕ). kind_of (get_or line (j + 1) 0)) (sym z) ∙ t.byte;
        name = ap (λ (j : ℕ). is_name (take j (drop at line))) (sym y) ∙ t.name;
      }

  tells_none : ((stop : ℕ) → Ends line at stop → (s : Symbol) → Shaped line at stop end s → ⊥) → Tells line at end None
  tells_none h =
      let o = end_of line at (omega (arith, w.from, w.inside)) in
      record {
        stop = o.0;
        ends = o.1;
        is = unless (symbol_of (split 58 (part line at o.0))) (λ s e. h o.0 o.1 s (shaped o.0 o.1 s e));
        after = λ n. absurd (n refl);
      }

  word_length : length (take (end - at) (drop at line)) ≡ end - at
  word_length = length-take-le (end - at) (drop at line) (omega (arith, length-drop at line, w.inside))

  pub no_room_there : length line - end < 2 → Tells line at end None
  no_room_there h = tells_none (λ stop u s g. omega (arith, g.after, u.inside))

  pub too_long_there : 64 < end - at → Tells line at end None
  too_long_there h = tells_none (λ stop u s g. omega (arith, name_short (take (end - at) (drop at line)) g.name, word_length))

  pub no_colon_there : (get_or line end 0 ≡ 58 → ⊥) → Tells line at end None
  no_colon_there h = tells_none (λ stop u s g. h g.colon)

  pub no_letter_there : is_letter (get_or line at 0) ≡ false → Tells line at end None
  no_letter_there h =
      tells_none
      (λ stop u s g.
      let xs = take (end - at) (drop at line) in
      let z : at + 0 ≡ at = omega arith in
      no_true (sym h
      ∙ ap (λ (j : ℕ). is_letter (get_or line j 0)) (sym z)
      ∙ ap is_letter (sym (word_byte line at (end - at) 0 (omega (arith, word_length, name_long xs g.name))))
      ∙ name_first xs g.name))

  pub no_comma_there : (end + 2 ≡ length line → ⊥) → (get_or line (end + 2) 0 ≡ 44 → ⊥) → Tells line at end None
  no_comma_there n h =
      tells_none
      (λ stop u s g.
      h (ap (λ (j : ℕ). get_or line j 0) (sym g.after) ∙ u.comma (omega (arith, g.after, u.inside))))

  module _ (r : Std.Option Kind) (wide : 2 ≤ length line - end) (few : end - at ≤ 64) (colon : get_or line end 0 ≡ 58) (first : is_letter (get_or line at 0) ≡ true)
      (kind : r ≡ kind_in (kind_of (get_or line (end + 1) 0))) (comma : end + 2 < length line → get_or line (end + 2) 0 ≡ 44) where
    room : end + 2 ≤ length line
    room = omega (arith, w.inside)

    some_bytes : 1 ≤ end - at
    some_bytes = some_bytes_by (eqb at end) refl
      where
        some_bytes_by : (b : Bool) → eqb at end ≡ b → 1 ≤ end - at
        some_bytes_by true q = absurd (no_true (sym (ap is_letter (ap (λ (j : ℕ). get_or line j 0) (eqb-true at end q) ∙ colon)) ∙ first))
        some_bytes_by false q = let z = eqb-false at end q in omega (arith, w.from)

    is_named : is_name (take (end - at) (drop at line)) ≡ true
    is_named =
        let xs = take (end - at) (drop at line) in
        let z : at + 0 ≡ at = omega arith in
        name_from xs (omega (arith, word_length, some_bytes)) (omega (arith, word_length))
        (ap is_letter (word_byte line at (end - at) 0 (omega (arith, some_bytes)) ∙ ap (λ (j : ℕ). get_or line j 0) z) ∙ first)
        (λ i l.
        ap letter_or_digit (word_byte line at (end - at) i (omega (arith, word_length)))
        ∙ w.each (at + i) (omega arith) (omega (arith, word_length, w.from)))

    before_stop : (r ≡ None → ⊥) → (i : ℕ) → at ≤ i → i < end + 2 → get_or line i 0 ≡ 44 → ⊥
    before_stop h i a l e = before_by (ltb i end) (eqb i end) refl refl
      where
        before_by : (b c : Bool) → ltb i end ≡ b → eqb i end ≡ c → ⊥
        before_by true c p q = no_true (sym (ap letter_or_digit e) ∙ w.each i a (ltb-true i end p))
        before_by false true p q = let z = ap (λ (j : ℕ). get_or line j 0) (eqb-true i end q) in omega (arith, colon, e)
        before_by false false p q =
            let z : end + 1 ≡ i = omega (arith, ltb-false i end p, eqb-false i end q) in
            h (kind ∙ ap (λ (x : ℕ). kind_in (kind_of x)) (ap (λ (j : ℕ). get_or line j 0) z ∙ e))

    tells_by : (q : Std.Option Kind) → r ≡ q → Tells line at end r
    tells_by None q =
        subst (Tells line at end) (sym q)
        (tells_none (λ stop u s g. kind_there (kind_of (get_or line (end + 1) 0)) s.kind g.byte (sym kind ∙ q)))
    tells_by (Some k) q =
        let some_kind : r ≡ None → ⊥ = λ n. let c : ◌≡◌ {A = ℕ} 0 1 = cc in omega arith in
        let z : at + (end - at) ≡ end = omega (arith, w.from) in
        let y : end - at ≡ end + 2 - at - 2 = omega (arith, w.from) in
        record {
          stop = end + 2;
          ends = record { from = omega (arith, w.from); inside = room; before = before_stop some_kind; comma = comma };
          is =
              entry_there line at (end + 2) (omega (arith, w.from)) room (end - at) (omega (arith, some_bytes)) y r
              (ap (λ (j : ℕ). get_or line j 0) z ∙ colon) (kind ∙ ap (λ (j : ℕ). kind_in (kind_of (get_or line (j + 1) 0))) (sym z)) some_kind is_named;
          after = λ n. refl;
        }

    pub tells_kind : Tells line at end r
    tells_kind = tells_by r refl

-- all that a function needs that tells an entry's kind
pub ruleset entries = (no_room_there, too_long_there, no_colon_there, no_letter_there, no_comma_there, tells_kind)
