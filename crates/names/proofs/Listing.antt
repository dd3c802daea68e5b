-- The names of a line, one after another.
use mathlib.Core.Path.{◌≡◌, refl, sym, ap, ◌∙◌, subst}
use mathlib.Core.Bool.{Bool, true, false, cond, not, ◌&&◌, ◌||◌, and-false}
use mathlib.Core.List.{List, [], ◌∷◌, ◌++◌, map, append_assoc}
use mathlib.Core.Option.{Option, none, some}
use Prim.Native.Nat.{ℕ, zero, suc, ◌+◌, ◌-◌, ◌≤◌, ◌<◌}
use native.Mathlib.Omega.{arith}
use lib.ListN.{length, take, drop, set, length-append, length-drop, replicate, take-append-drop}
use lib.Seq.{drop-cons, drop-drop, take_all, take_at, get_or-take, get_or-drop, length-take-le, set_at}
use lib.Dec.{eqb, leb}
use borrow.Author.Tests.{eqb-true, eqb-false, ne_eqb, eq-eqb, le-leb, lt-leb}
use Rattle.formula.specs.Text.{same_bytes, split, joined, all_some}
use Rattle.formula.specs.Names.{Symbol, symbol_of, unlike, none_twice, table, symbols_of, kinds}
use Rattle.std.specs.Prelude.{Some, None}
use Rattle.names.specs.Lines.{Ends, Tells, kind_as, kind_told, free, names_of, part, prefixed, repeats, text}
use Rattle.names.specs.declared.Kind.{Kind}
use Rattle.names.specs.declared.Kind.TheVariants as Kinds
use Rattle.names.specs.declared.Name.{Name}
use Rattle.names.proofs.Splits.{no_true, and_both, and_first, and_second, free_from, split_end, split_next, prefixed_start, prefixed_more, prefixed_none, prefixed_some}
use Rattle.names.proofs.Entries.{formed, part_front, name_short, symbol_none}
use Rattle.formula.proofs.Tests.{or_none}

abbrev pub part_symbol : List ℕ → Option Symbol
part_symbol p = symbol_of (split 58 p)

-- the symbols from a byte on
unfoldable pub symbols_from : List ℕ → ℕ → Option (List Symbol)
symbols_from line at = all_some (map part_symbol (split 44 (drop at line)))

-- those after an entry
unfoldable pub symbols_after : List ℕ → ℕ → Option (List Symbol)
unfolding symbols_from
symbols_after line end = cond (eqb end (length line)) (some []) (symbols_from line (end + 1))

part_free : (line : List ℕ) (at end : ℕ) → Ends line at end → free 44 (part line at end) ≡ true
unfolding part
part_free line at end g =
    let p = take (end - at) (drop at line) in
    let l : length p ≡ end - at = length-take-le (end - at) (drop at line) (omega (arith, length-drop at line, g.inside)) in
    free_from 44 p
    (λ i h e.
    g.before (at + i) (omega arith) (omega (arith, g.from))
    (sym (get_or-take (end - at) (drop at line) i 0 (omega arith) ∙ get_or-drop at line i 0) ∙ e))

step_by : (t : Bool) (line : List ℕ) (at end : ℕ) → eqb end (length line) ≡ t → Ends line at end
    → symbols_from line at ≡ joined (part_symbol (part line at end)) (cond t (some []) (symbols_from line (end + 1)))
unfolding symbols_from part
step_by true line at end q g =
    let e = eqb-true end (length line) q in
    let xs = drop at line in
    let t : part line at end ≡ xs = take_all (end - at) xs (omega (arith, length-drop at line)) in
    ap (λ (ps : List (List ℕ)). all_some (map part_symbol ps)) (split_end 44 xs (ap (free 44) (sym t) ∙ part_free line at end g))
    ∙ ap (λ (p : List ℕ). joined (part_symbol p) (some [])) (sym t)
step_by false line at end q g =
    let n = eqb-false end (length line) q in
    let l : end < length line = omega (arith, g.inside) in
    let xs = drop at line in
    let p = part line at end in
    let y : at + (end - at) ≡ end = omega (arith, g.from) in
    let z : suc end ≡ end + 1 = omega arith in
    let s : xs ≡ p ++ (44 ∷ drop (end + 1) line) =
    sym (take-append-drop (end - at) xs)
    ∙ ap (λ (ys : List ℕ). p ++ ys) (drop-drop (end - at) at line)
    ∙ ap (λ (j : ℕ). p ++ drop j line) y
    ∙ ap (λ (ys : List ℕ). p ++ ys) (drop-cons line end 0 l)
    ∙ ap (λ (x : ℕ). p ++ (x ∷ drop (suc end) line)) (g.comma l)
    ∙ ap (λ (j : ℕ). p ++ (44 ∷ drop j line)) z in
    ap (λ (ys : List ℕ). all_some (map part_symbol (split 44 ys))) s
    ∙ ap (λ (ps : List (List ℕ)). all_some (map part_symbol ps)) (split_next 44 p (drop (end + 1) line) (part_free line at end g))

symbols_step : (line : List ℕ) (at end : ℕ) → Ends line at end → symbols_from line at ≡ joined (part_symbol (part line at end)) (symbols_after line end)
unfolding symbols_after
symbols_step line at end g = step_by (eqb end (length line)) line at end refl g

symbols_start : (line : List ℕ) → (length line ≡ 0 → ⊥) → symbols_of line ≡ table (symbols_from line 0)
unfolding symbols_of symbols_from
symbols_start [] h = absurd (h refl)
symbols_start (b ∷ bs) h = refl

symbols_empty : (line : List ℕ) → length line ≡ 0 → symbols_of line ≡ some []
unfolding symbols_of
symbols_empty [] e = refl
symbols_empty (b ∷ bs) e = absurd (omega arith)

-- ---- an entry that was found

pub record Found (line : List ℕ) (at end n : ℕ) (k : Kind) : Type 0 where
  pub symbol : Symbol
  pub is : part_symbol (part line at end) ≡ some symbol
  pub name : symbol.name ≡ take n (drop at line)
  pub kind : k ≡ kind_as symbol.kind
  pub inside : at + n ≤ length line
  pub short : n ≤ 64

found_by : (o : Option Symbol) (line : List ℕ) (at stop end : ℕ) (k : Kind) → at ≤ stop → stop ≤ length line → part_symbol (part line at stop) ≡ o
    → Some k ≡ kind_told o → stop ≡ end + 2 → Found line at stop (end - at) k
unfolding part
found_by none line at stop end k from inside q e a = let z : ◌≡◌ {A = ℕ} 0 1 = cc in absurd (omega arith)
found_by (some s) line at stop end k from inside q e a =
    let n = end - at in
    let f = formed (part line at stop) s q in
    let lp : length (part line at stop) ≡ stop - at = length-take-le (stop - at) (drop at line) (omega (arith, length-drop at line)) in
    let ln = length-append s.name (58 ∷ f.byte ∷ []) in
    let en : n ≡ length s.name = omega (arith, lp, ap length f.is, ln) in
    let l : n ≤ stop - at = omega (arith, lp, ap length f.is, ln) in
    record {
      symbol = s;
      is = q;
      name = sym (sym (part_front line at stop from inside n l) ∙ ap (take n) f.is ∙ take_at s.name (58 ∷ f.byte ∷ []) n (sym en));
      kind = cc;
      inside = omega (arith, lp, ap length f.is, ln);
      short = omega (arith, en, name_short s.name f.name);
    }

-- an entry ends two bytes after its name
pub told : (line : List ℕ) (at end : ℕ) (k : Kind) → Tells line at end (Some k) → Ends line at (end + 2) × Found line at (end + 2) (end - at) k
told line at end k t =
    let e = t.after (λ n. let z : ◌≡◌ {A = ℕ} 0 1 = cc in omega arith) in
    subst (λ (j : ℕ). Ends line at j × Found line at j (end - at) k) e
    (t.ends, found_by (part_symbol (part line at t.stop)) line at t.stop end k t.ends.from t.ends.inside refl t.is e)

-- ---- none twice

any_same : List (List ℕ) → List ℕ → Bool
any_same [] x = false
any_same (p ∷ ps) x = same_bytes p x || any_same ps x

repeats_any : (line : List ℕ) (ns : List Name) (x : List ℕ) → repeats line ns x ≡ any_same (map (text line) ns) x
unfolding any_same
repeats_any line [] x = refl
repeats_any line (n ∷ ns) x = ap (λ (t : Bool). same_bytes (text line n) x || t) (repeats_any line ns x)

abbrev pub names_in : List Symbol → List (List ℕ)
names_in ss = map (λ s. s.name) ss

names_snoc : (ss : List Symbol) (s : Symbol) → names_in (ss ++ (s ∷ [])) ≡ names_in ss ++ (s.name ∷ [])
names_snoc [] s = refl
names_snoc (t ∷ ss) s = ap (λ (ps : List (List ℕ)). t.name ∷ ps) (names_snoc ss s)

texts_snoc : (line : List ℕ) (ns : List Name) (n : Name) → map (text line) (ns ++ (n ∷ [])) ≡ map (text line) ns ++ (text line n ∷ [])
texts_snoc line [] n = refl
texts_snoc line (m ∷ ns) n = ap (λ (ps : List (List ℕ)). text line m ∷ ps) (texts_snoc line ns n)

unlike_snoc : (x : List ℕ) (ss : List Symbol) (s : Symbol) → unlike x ss ≡ true → same_bytes x s.name ≡ false → unlike x (ss ++ (s ∷ [])) ≡ true
unlike_snoc x [] s u e = and_both (not (same_bytes x s.name)) true (ap not e) refl
unlike_snoc x (t ∷ ss) s u e =
    let a = not (same_bytes x t.name) in
    and_both a (unlike x (ss ++ (s ∷ []))) (and_first a (unlike x ss) u) (unlike_snoc x ss s (and_second a (unlike x ss) u) e)

once_snoc : (ss : List Symbol) (s : Symbol) → none_twice ss ≡ true → any_same (names_in ss) s.name ≡ false → none_twice (ss ++ (s ∷ [])) ≡ true
unfolding any_same
once_snoc [] s o e = refl
once_snoc (t ∷ ss) s o e =
    let u = unlike t.name ss in
    let d = or_none (same_bytes t.name s.name) (any_same (names_in ss) s.name) e in
    and_both (unlike t.name (ss ++ (s ∷ []))) (none_twice (ss ++ (s ∷ [])))
    (unlike_snoc t.name ss s (and_first u (none_twice ss) o) d.0)
    (once_snoc ss s (and_second u (none_twice ss) o) d.1)

unlike_found : (x : List ℕ) (ss ts : List Symbol) (s : Symbol) → same_bytes x s.name ≡ true → unlike x (ss ++ (s ∷ ts)) ≡ false
unlike_found x [] ts s e = ap (λ (t : Bool). not t && unlike x ts) e
unlike_found x (t ∷ ss) ts s e =
    let a = not (same_bytes x t.name) in
    ap (λ (b : Bool). a && b) (unlike_found x ss ts s e) ∙ and-false a

twice_by : (b : Bool) (t : Symbol) (ss ts : List Symbol) (s : Symbol) → same_bytes t.name s.name ≡ b
    → (any_same (names_in ss) s.name ≡ true → none_twice (ss ++ (s ∷ ts)) ≡ false) → (b || any_same (names_in ss) s.name) ≡ true
    → (unlike t.name (ss ++ (s ∷ ts)) && none_twice (ss ++ (s ∷ ts))) ≡ false
twice_by true t ss ts s q h e = ap (λ (b : Bool). b && none_twice (ss ++ (s ∷ ts))) (unlike_found t.name ss ts s q)
twice_by false t ss ts s q h e =
    ap (λ (b : Bool). unlike t.name (ss ++ (s ∷ ts)) && b) (h e) ∙ and-false (unlike t.name (ss ++ (s ∷ ts)))

twice : (ss ts : List Symbol) (s : Symbol) → any_same (names_in ss) s.name ≡ true → none_twice (ss ++ (s ∷ ts)) ≡ false
unfolding any_same
twice [] ts s e = absurd (no_true e)
twice (t ∷ ss) ts s e = twice_by (same_bytes t.name s.name) t ss ts s refl (λ h. twice ss ts s h) e

-- ---- the table

table_none : (ss : List Symbol) → table (prefixed ss none) ≡ none
table_none ss = ap table (prefixed_none ss)

table_wrong : (ss : List Symbol) (s : Symbol) (r : Option (List Symbol))
    → ((ts : List Symbol) → (leb (length (ss ++ (s ∷ ts))) 256 && none_twice (ss ++ (s ∷ ts))) ≡ false) → table (prefixed ss (joined (some s) r)) ≡ none
table_wrong ss s none h = table_none ss
table_wrong ss s (some ts) h =
    ap table (prefixed_some ss (s ∷ ts)) ∙ ap (λ (b : Bool). cond b (some (ss ++ (s ∷ ts))) none) (h ts)

table_all : (ss : List Symbol) → length ss ≤ 256 → none_twice ss ≡ true → table (some ss) ≡ some ss
table_all ss l o = ap (λ (b : Bool). cond b (some ss) none) (and_both (leb (length ss) 256) (none_twice ss) (le-leb (length ss) 256 l) o)

-- ---- kinds

abbrev pub kinds_in : List Symbol → List Kind
kinds_in ss = map kind_as (kinds ss)

-- Parameter fills the rest
abbrev pub fillers : ℕ → List Kind
fillers m = replicate m Kinds.Parameter

kinds_length : (ss : List Symbol) → length (kinds_in ss) ≡ length ss
kinds_length [] = refl
kinds_length (s ∷ ss) = ap suc (kinds_length ss)

kinds_snoc : (ss : List Symbol) (s : Symbol) → kinds_in (ss ++ (s ∷ [])) ≡ kinds_in ss ++ (kind_as s.kind ∷ [])
kinds_snoc [] s = refl
kinds_snoc (t ∷ ss) s = ap (λ (ks : List Kind). kind_as t.kind ∷ ks) (kinds_snoc ss s)

fillers_more : (m : ℕ) → 0 < m → fillers m ≡ Kinds.Parameter ∷ fillers (m - 1)
fillers_more zero h = absurd (omega arith)
fillers_more (suc m) h = let e : m ≡ suc m - 1 = omega arith in ap (λ (j : ℕ). Kinds.Parameter ∷ fillers j) e

kinds_stored : (ks xs : List Kind) (n : ℕ) (k : Kind) → ks ≡ xs ++ fillers (256 - n) → length xs ≡ n → n < 256 → set ks n k ≡ (xs ++ (k ∷ [])) ++ fillers (256 - (n + 1))
kinds_stored ks xs n k e l h =
    let z : 256 - n - 1 ≡ 256 - (n + 1) = omega arith in
    ap (λ (ys : List Kind). set ys n k) (e ∙ ap (λ (ys : List Kind). xs ++ ys) (fillers_more (256 - n) (omega arith)))
    ∙ set_at xs Kinds.Parameter (fillers (256 - n - 1)) k n l
    ∙ ap (λ (j : ℕ). xs ++ (k ∷ fillers j)) z
    ∙ sym (append_assoc xs (k ∷ []) (fillers (256 - (n + 1))))

-- ---- the line up to a byte

-- with these names, and the kinds of so many
pub record Listing (line : List ℕ) (ns : List Name) (ks : List Kind) (count at : ℕ) : Type 0 where
  pub symbols : List Symbol
  pub all : symbols_of line ≡ table (prefixed symbols (symbols_from line at))
  pub counted : length symbols ≡ count
  pub few : count ≤ 256
  pub once : none_twice symbols ≡ true
  pub inside : at ≤ length line
  pub kinds : ks ≡ kinds_in symbols ++ fillers (256 - count)
  pub names : names_in symbols ≡ map (text line) ns

pub listing_start : (line : List ℕ) → (length line ≡ 0 → ⊥) → Listing line [] (fillers 256) 0 0
listing_start line h =
    record {
      symbols = [];
      all = symbols_start line h ∙ ap table (prefixed_start (symbols_from line 0));
      counted = refl;
      few = omega arith;
      once = refl;
      inside = omega arith;
      kinds = refl;
      names = refl;
    }

pub listing_empty : (line : List ℕ) → length line ≡ 0 → Some (record { count = 0; kinds = fillers 256 }) ≡ names_of (symbols_of line)
listing_empty line e = sym (ap names_of (symbols_empty line e))

module _ (line : List ℕ) (ns : List Name) (ks : List Kind) (count at end : ℕ) (g : Listing line ns ks count at) (u : Ends line at end) where
  refused : symbols_of line ≡ none → None ≡ names_of (symbols_of line)
  refused e = sym (ap names_of e)

  missing : part_symbol (part line at end) ≡ none → None ≡ names_of (symbols_of line)
  missing o =
      refused (g.all
      ∙ ap (λ x. table (prefixed g.symbols x)) (symbols_step line at end u ∙ ap (λ (x : Option Symbol). joined x (symbols_after line end)) o)
      ∙ table_none g.symbols)

  module _ (n : ℕ) (k : Kind) (f : Found line at end n k) where
    with_symbol : symbols_of line ≡ table (prefixed g.symbols (joined (some f.symbol) (symbols_after line end)))
    with_symbol =
        g.all ∙ ap (λ x. table (prefixed g.symbols x)) (symbols_step line at end u ∙ ap (λ (x : Option Symbol). joined x (symbols_after line end)) f.is)

    pub too_many : count ≡ 256 → None ≡ names_of (symbols_of line)
    too_many e =
        refused (with_symbol
        ∙ table_wrong g.symbols f.symbol (symbols_after line end)
        (λ ts.
        let m = length-append g.symbols (f.symbol ∷ ts) in
        let l : 256 < length (g.symbols ++ (f.symbol ∷ ts)) = omega (arith, g.counted) in
        ap (λ (b : Bool). b && none_twice (g.symbols ++ (f.symbol ∷ ts))) (lt-leb (length (g.symbols ++ (f.symbol ∷ ts))) 256 l)))

    module _ (r : Bool) (e : r ≡ repeats line ns (take n (drop at line))) where
      repeated_is : r ≡ any_same (names_in g.symbols) f.symbol.name
      repeated_is =
          e
          ∙ repeats_any line ns (take n (drop at line))
          ∙ ap (λ (ps : List (List ℕ)). any_same ps (take n (drop at line))) (sym g.names)
          ∙ ap (any_same (names_in g.symbols)) (sym f.name)

      pub repeated : r ≡ true → None ≡ names_of (symbols_of line)
      repeated t =
          let w = sym repeated_is ∙ t in
          refused (with_symbol
          ∙ table_wrong g.symbols f.symbol (symbols_after line end)
          (λ ts.
          ap (λ (b : Bool). leb (length (g.symbols ++ (f.symbol ∷ ts))) 256 && b) (twice g.symbols ts f.symbol w)
          ∙ and-false (leb (length (g.symbols ++ (f.symbol ∷ ts))) 256)))

      module _ (t : r ≡ false) (c : count ≡ 256 → ⊥) where
        ss : List Symbol
        ss = g.symbols ++ (f.symbol ∷ [])

        ss_length : length ss ≡ count + 1
        unfolding ss
        ss_length = omega (arith, length-append g.symbols (f.symbol ∷ []), g.counted)

        ss_once : none_twice ss ≡ true
        unfolding ss
        ss_once = once_snoc g.symbols f.symbol g.once (sym repeated_is ∙ t)

        ss_kinds : set ks count k ≡ kinds_in ss ++ fillers (256 - (count + 1))
        unfolding ss
        ss_kinds =
            kinds_stored ks (kinds_in g.symbols) count k g.kinds (kinds_length g.symbols ∙ g.counted) (omega (arith, g.few))
            ∙ ap (λ (j : Kind). (kinds_in g.symbols ++ (j ∷ [])) ++ fillers (256 - (count + 1))) f.kind
            ∙ ap (λ (xs : List Kind). xs ++ fillers (256 - (count + 1))) (sym (kinds_snoc g.symbols f.symbol))

        pub listing_done : end ≡ length line → Some (record { count = count + 1; kinds = set ks count k }) ≡ names_of (symbols_of line)
        unfolding symbols_after ss
        listing_done q =
            let a : symbols_of line ≡ some ss =
            with_symbol
            ∙ ap (λ (b : Bool). table (prefixed g.symbols (joined (some f.symbol) (cond b (some []) (symbols_from line (end + 1)))))) (eq-eqb end (length line) q)
            ∙ ap table (prefixed_some g.symbols (f.symbol ∷ []))
            ∙ table_all ss (omega (arith, ss_length, g.few)) ss_once in
            sym (ap names_of a
            ∙ ap (λ (j : ℕ). Some (record { count = j; kinds = kinds_in ss ++ fillers (256 - j) })) ss_length
            ∙ ap (λ (xs : List Kind). Some (record { count = count + 1; kinds = xs })) (sym ss_kinds))

        -- the name x, with these bytes, is one of them
        pub listing_more : (x : Name) (ms : List Name) → text line x ≡ take n (drop at line) → ms ≡ ns ++ (x ∷ []) → (end ≡ length line → ⊥)
            → Listing line ms (set ks count k) (count + 1) (end + 1)
        unfolding symbols_after ss
        listing_more x ms tx mx q =
            record {
              symbols = ss;
              all =
                  with_symbol
                  ∙ ap (λ (b : Bool). table (prefixed g.symbols (joined (some f.symbol) (cond b (some []) (symbols_from line (end + 1)))))) (ne_eqb end (length line) q)
                  ∙ ap table (prefixed_more g.symbols f.symbol (symbols_from line (end + 1)));
              counted = ss_length;
              few = omega (arith, g.few);
              once = ss_once;
              inside = omega (arith, u.inside);
              kinds = ss_kinds;
              names =
                  names_snoc g.symbols f.symbol
                  ∙ ap (λ (ps : List (List ℕ)). ps ++ (f.symbol.name ∷ [])) g.names
                  ∙ ap (λ (p : List ℕ). map (text line) ns ++ (p ∷ [])) (f.name ∙ sym tx)
                  ∙ sym (texts_snoc line ns x)
                  ∙ ap (map (text line)) (sym mx);
            }

pub no_entry : (line : List ℕ) (ns : List Name) (ks : List Kind) (count at end : ℕ) → Listing line ns ks count at → Tells line at end None
    → None ≡ names_of (symbols_of line)
no_entry line ns ks count at end g t =
    missing line ns ks count at t.stop g t.ends (symbol_none (part_symbol (part line at t.stop)) None t.is refl)
