-- The answers of a leaf and of an operation's last step.
use mathlib.Core.Path.{◌≡◌, refl, sym, ap, ◌∙◌, subst}
use mathlib.Core.Bool.{Bool, true, false, not, ◌&&◌, ◌||◌}
use mathlib.Core.List.{List, [], ◌∷◌, map}
use mathlib.Core.Option.{none}
use Prim.Native.Nat.{ℕ, zero, suc, ◌+◌, ◌*◌, ◌≤◌}
use native.Mathlib.Omega.{arith}
use lib.ListN.{length, get_or}
use lib.Dec.{eqb, ltb}
use borrow.Author.Tests.{eq-eqb, ne_eqb}
use lib.Ieee.{Float, binary64, of_bits}
use Rattle.refusals.specs.declared.Refusal.TheVariants.{InvalidInput, UnknownSymbol, WrongType, Unsupported, OutsideDomain}
use Rattle.arithmetic.specs.Value.{finite}
use Rattle.formula.specs.Names.{Parameter, varies}
use Rattle.names.specs.Lines.{symbol_kind}
use Rattle.names.specs.declared.Kind.{Kind}
use Rattle.names.specs.declared.Kind.TheVariants as Kinds
use Rattle.formula.specs.Term.{Term, literal, symbol, truth}
use Rattle.machine.specs.Check.{Context}
use Rattle.layout.specs.Image.{below, constant_slot, lists, slot, slots, truth_bits}
use Rattle.writer.specs.Over.{over}
use Rattle.reader.specs.declared.Fields.{Fields}
use Rattle.lower.specs.Operators.{arity_at, gives_boolean, listing_at, opcode_at, stepped_at}
use Rattle.lower.specs.Piece.{Piece, Says, context_of, finish_piece, leaf, own_piece, place}
use Rattle.lower.specs.Ready.{Ready}
use Rattle.lower.specs.Leaf.{Loads}
use Rattle.lower.specs.declared.Layout.{Layout}
use Rattle.lower.specs.declared.Cursor.{Cursor}
use Rattle.lower.specs.declared.Site.{Site}
use Rattle.lower.specs.declared.Value.{Value}
use Rattle.lower.specs.Low.{Low, Done, Faulty}
use Rattle.lower.proofs.Says.{here, slot_done}

pub not_true : (b u : Bool) → u ≡ not b → u ≡ true → b ≡ false
not_true true u e f = absurd (let z : ◌≡◌ {A = ℕ} 0 1 = cc in omega arith)
not_true false u e f = refl

pub not_false : (b u : Bool) → u ≡ not b → u ≡ false → b ≡ true
not_false true u e f = refl
not_false false u e f = absurd (let z : ◌≡◌ {A = ℕ} 0 1 = cc in omega arith)

module _ (L : Layout) (p : List ℕ) (s : Site) (c : Cursor) (I : ℕ) (R : Ready L p s c I 0 0) where
  -- ---- an operation's last step

  module _ (f : Fields) (v : Value) where
    abbrev K : ℕ
    K = f.kind

    abbrev O : ℕ
    O = f.operator

    abbrev P : Piece
    P = finish_piece (context_of [] L.generated) f v (place L p s) s.path c

    pub wrong_arity : (a : Bool) → a ≡ arity_at K O f.children → a ≡ false → Says P L c p p (Faulty InvalidInput s.path)
    unfolding finish_piece
    wrong_arity a e t = here L p s c I 0 0 R P 5 (rw (sym e ∙ t))

    module _ (a : Bool) (ea : a ≡ arity_at K O f.children) (ta : a ≡ true) where
      pub wrong_kind : v.boolean ≡ false → Says P L c p p (Faulty WrongType s.path)
      unfolding finish_piece
      wrong_kind t = here L p s c I 0 0 R P 7 (rw (sym ea ∙ ta, t))

      module _ (tb : v.boolean ≡ true) (j u : Bool) (ej : j ≡ stepped_at K O) (eu : u ≡ not (L.generated || not (j && v.dynamic))) where
        alike : u ≡ not (L.generated || not (stepped_at K O && v.dynamic))
        alike = eu ∙ ap (λ (x : Bool). not (L.generated || not (x && v.dynamic))) ej

        pub wrong_step : u ≡ true → Says P L c p p (Faulty Unsupported s.path)
        unfolding finish_piece
        wrong_step t = here L p s c I 0 0 R P 8 (rw (sym ea ∙ ta, tb, not_true (L.generated || not (stepped_at K O && v.dynamic)) u alike t))

        module _ (tu : u ≡ false) (one : 1 ≤ I) (l b : Bool) (o : ℕ) (el : l ≡ listing_at K O) (eo : o ≡ opcode_at K O) (eb : b ≡ gives_boolean K O)
            (p' : List ℕ) (r : Low) where
          faultless : P.fault ≡ none
          unfolding finish_piece
          faultless = rw (sym ea ∙ ta, tb, not_false (L.generated || not (stepped_at K O && v.dynamic)) u alike tu)

          pub listed_slot : l ≡ true → p' ≡ over p (32 + 24 * c.code) (slot o f.children c.reg c.entry 0 0 s.path)
              → r ≡ Done (record { a = c.reg; b = 0; c = 0; boolean = b; dynamic = v.dynamic }) (record { node = c.node; reg = c.reg + 1; code = c.code + 1; path = c.path; entry = c.entry + f.children })
              → Says P L c p p' r
          unfolding finish_piece
          listed_slot tl e d =
              slot_done L p s c I 0 0 R (slot o f.children c.reg c.entry 0 0 s.path) refl one p' e P r faultless (rw (sym el ∙ tl, eo)) (d ∙ rw (sym el ∙ tl, eb)) refl

          pub plain_slot : l ≡ false → p' ≡ over p (32 + 24 * c.code) (slot o 0 c.reg v.a v.b v.c s.path)
              → r ≡ Done (record { a = c.reg; b = 0; c = 0; boolean = b; dynamic = v.dynamic }) (record { node = c.node; reg = c.reg + 1; code = c.code + 1; path = c.path; entry = c.entry })
              → Says P L c p p' r
          unfolding finish_piece
          plain_slot tl e d =
              let z : c.entry ≡ c.entry + 0 = omega arith in
              slot_done L p s c I 0 0 R (slot o 0 c.reg v.a v.b v.c s.path) refl one p' e P r faultless (rw (sym el ∙ tl, eo))
              (d ∙ rw (sym el ∙ tl, eb) (ap (λ (x : ℕ). Done (record { a = c.reg; b = 0; c = 0; boolean = gives_boolean K O; dynamic = v.dynamic }) (record { node = c.node; reg = c.reg + 1; code = c.code + 1; path = c.path; entry = x })) z)) refl

  -- ---- leaves

  module _ (kinds : List Kind) (one : 1 ≤ I) (f : Fields) where
    abbrev C : Context
    C = context_of kinds L.generated

    abbrev T : Piece
    T = own_piece C (leaf f) (place L p s) s.path c c.node

    module _ (t : Term) (is_IsLeaf : leaf f ≡ t) where
      abbrev U : Piece
      U = own_piece C t (place L p s) s.path c c.node

      as_leaf : (p' : List ℕ) (r : Low) → Says U L c p p' r → Says T L c p p' r
      as_leaf p' r x = subst (λ (z : Term). Says (own_piece C z (place L p s) s.path c c.node) L c p p' r) (sym is_IsLeaf) x

    is_number : f.kind ≡ 0 → leaf f ≡ literal f.value
    is_number e = rw (eq-eqb f.kind 0 e)

    is_truth : (f.kind ≡ 0 → ⊥) → f.kind ≡ 1 → leaf f ≡ truth (eqb f.value 1)
    is_truth n e = rw (ne_eqb f.kind 0 n, eq-eqb f.kind 1 e)

    is_symbol : (f.kind ≡ 0 → ⊥) → (f.kind ≡ 1 → ⊥) → leaf f ≡ symbol f.symbol
    is_symbol n m = rw (ne_eqb f.kind 0 n, ne_eqb f.kind 1 m)

    abbrev made : Bool → Bool → Low
    made b d = Done (record { a = c.reg; b = 0; c = 0; boolean = b; dynamic = d }) (record { node = c.node; reg = c.reg + 1; code = c.code + 1; path = c.path; entry = c.entry })

    same_next : (b d : Bool) → made b d ≡ Done (record { a = c.reg; b = 0; c = 0; boolean = b; dynamic = d }) (record { node = c.node; reg = c.reg + 1; code = c.code + 1; path = c.path + 0; entry = c.entry + 0 })
    same_next b d =
        let z : c.entry ≡ c.entry + 0 = omega arith in
        let y : c.path ≡ c.path + 0 = omega arith in
        cc

    pub number_refused : (x : Float) (g : Bool) → f.kind ≡ 0 → x ≡ of_bits binary64 f.value → g ≡ finite x → g ≡ false → Says T L c p p (Faulty OutsideDomain s.path)
    unfolding own_piece
    number_refused x g e ex eg t =
        let h : finite (of_bits binary64 f.value) ≡ false = ap finite (sym ex) ∙ sym eg ∙ t in
        as_leaf (literal f.value) (is_number e) p (Faulty OutsideDomain s.path)
        (here L p s c I 0 0 R (U (literal f.value) (is_number e)) 9 (rw h))

    pub number_made : (x : Float) (g : Bool) (p' : List ℕ) (r : Low) → f.kind ≡ 0 → x ≡ of_bits binary64 f.value → g ≡ finite x → g ≡ true
        → r ≡ made false false → p' ≡ over p (32 + 24 * c.code) (constant_slot f.value c.reg s.path) → Says T L c p p' r
    unfolding own_piece slots below lists
    number_made x g p' r e ex eg t d b =
        let h : finite (of_bits binary64 f.value) ≡ true = ap finite (sym ex) ∙ sym eg ∙ t in
        as_leaf (literal f.value) (is_number e) p' r
        (slot_done L p s c I 0 0 R (constant_slot f.value c.reg s.path) refl one p' b (U (literal f.value) (is_number e)) r (rw h) refl (d ∙ same_next false false) (omega arith))

    pub truth_made : (n : Bool) (p' : List ℕ) (r : Low) → (f.kind ≡ 0 → ⊥) → f.kind ≡ 1 → eqb f.value 1 ≡ n → r ≡ made true false
        → p' ≡ over p (32 + 24 * c.code) (constant_slot (truth_bits n) c.reg s.path) → Says T L c p p' r
    unfolding own_piece slots below lists
    truth_made n p' r m e t d b =
        as_leaf (truth n) (is_truth m e ∙ ap truth t) p' r
        (slot_done L p s c I 0 0 R (constant_slot (truth_bits n) c.reg s.path) refl one p' b (U (truth n) (is_truth m e ∙ ap truth t)) r refl refl (d ∙ same_next true false) (omega arith))

    length_kinds : (ks : List Kind) → length (map symbol_kind ks) ≡ length ks
    length_kinds [] = refl
    length_kinds (x ∷ ks) = ap suc (length_kinds ks)

    at_kinds : (ks : List Kind) (i : ℕ) → get_or (map symbol_kind ks) i Parameter ≡ symbol_kind (get_or ks i Kinds.Parameter)
    at_kinds [] i = refl
    at_kinds (x ∷ ks) zero = refl
    at_kinds (x ∷ ks) (suc i) = at_kinds ks i

    pub symbol_made : (b : Bool) (p' : List ℕ) (r : Low) → (f.kind ≡ 0 → ⊥) → (f.kind ≡ 1 → ⊥) → ltb f.symbol (length kinds) ≡ b
        → Loads b kinds s f.symbol c p p' r → Says T L c p p' r
    unfolding own_piece slots below lists
    symbol_made true p' r m n e (d, x) =
        as_leaf (symbol f.symbol) (is_symbol m n) p' r
        (slot_done L p s c I 0 0 R (slot 1 0 c.reg f.symbol 0 0 s.path) refl one p' x (U (symbol f.symbol) (is_symbol m n)) r (rw (length_kinds kinds, e)) refl
        (d ∙ same_next false (varies (symbol_kind (get_or kinds f.symbol Kinds.Parameter))) ∙ rw (at_kinds kinds f.symbol)) (omega arith))
    symbol_made false p' r m n e (d, x) =
        as_leaf (symbol f.symbol) (is_symbol m n) p' r
        (subst (λ (z : Low). Says (U (symbol f.symbol) (is_symbol m n)) L c p p' z) (sym d)
        (subst (λ (z : List ℕ). Says (U (symbol f.symbol) (is_symbol m n)) L c p z (Faulty UnknownSymbol s.path)) (sym x)
        (here L p s c I 0 0 R (U (symbol f.symbol) (is_symbol m n)) 6 (rw (length_kinds kinds, e)))))
