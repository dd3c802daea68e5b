-- The entry point's cases, in the order of its refusals.
use mathlib.Core.Path.{◌≡◌, refl, sym, ap, ap₂, ◌∙◌, subst}
use mathlib.Core.Bool.{Bool, true, false, cond, ◌||◌}
use mathlib.Core.List.{List, [], ◌∷◌, ◌++◌, map}
use mathlib.Core.Logic.{◌⊎◌, inl, inr, ⊎_elim}
use mathlib.Core.Option.{Option, none, some}
use Prim.Native.Nat.{ℕ, suc, ◌+◌, ◌-◌, ◌*◌, ◌/◌, ◌%◌, ◌≤◌, ◌<◌, min}
use native.Mathlib.Omega.{arith}
use lib.ListN.{length, replicate, take, length-append}
use lib.Seq.{length-take-le, take_at}
use lib.Dec.{leb, ltb}
use borrow.Author.Tests.{le-ltb, leb-true, lt-ltb, ltb-false}
use Rattle.formula.specs.Path.{Path, placed, root}
use Rattle.formula.specs.Formula.{Formula, depth, size, well_formed, within}
use Rattle.formula.specs.Names.{Symbol, SymbolKind, kinds, symbols_of}
use Rattle.formula.specs.Node.{formula_of, tree_in, node_size}
use Rattle.formula.specs.Transfer.{Transfer, ended_early, left_over, transfer_of, whole, wrong_field}
use Rattle.formula.proofs.Tests.{and_first, and_second, or_none}
use Rattle.formula.specs.Term.{term, terms}
use Rattle.machine.specs.Check.{Context, Fault, fault}
use Rattle.machine.specs.Compile.{Compiled, accepted, compile, lowered_or, own_context, path_after, prepared, program_after, program_room, read, refused, refused_at, sized}
use Rattle.machine.specs.Lower.{instruction_count, instruction_counts}
use Rattle.machine.specs.Paths.{longest_path}
use Rattle.machine.proofs.Size.{narrow, path_size}
use Rattle.layout.specs.Image.{entry_count, entry_counts, image, path_count, path_counts}
use Rattle.reader.specs.Read.{limited, told}
use Rattle.reader.specs.Read as Read
use Rattle.reader.specs.declared.Malformed.{Malformed}
use Rattle.reader.specs.declared.Malformed.TheVariants as Malformeds
use Rattle.reader.proofs.Scan.{formula_in, whole_formula}
use Rattle.std.specs.Prelude.{None, Some, Result, Ok, Err}
use Rattle.std.specs.Option.{ok_or}
use Rattle.refusals.specs.Refusals.{node_of, number_of, refusal_at}
use Rattle.refusals.specs.Refusals as Refusals
use Rattle.refusals.specs.declared.Refusal.{Refusal}
use Rattle.refusals.specs.declared.Refusal.TheVariants.{EndedEarly, ExpressionLimit, LeftOver, MalformedLine, SliceTooShort, WrongField}
use Rattle.names.specs.Lines.{kind_as, names_of, symbol_kind, table_of}
use Rattle.names.specs.declared.Kind.{Kind}
use Rattle.names.specs.declared.Kind.TheVariants as Kinds
use Rattle.names.specs.declared.Names.{Names}
use Rattle.names.proofs.Told.{kinds_back, names_few}
use Rattle.lower.specs.Piece.{context_of, kids}
use Rattle.tally.specs.declared.Counts.{Counts}
use Rattle.compile.specs.Outcome.{Fits, answer_to, fault_place, slice_after}
use Rattle.compile.specs.Entry.{answer}
use Rattle.compile.specs.Preparation.{preparation, prepared_as, size_answer}
use Rattle.compile.proofs.Whole as whole
use Rattle.compile.proofs.Faults.{Near, near}

-- ---- the counts of a whole formula

pub whole_counts : (b : List ℕ) (d : ℕ) (n : Counts)
    → (n.code ≡ instruction_counts (terms (kids b d 1 0))) × (n.paths ≡ path_counts (terms (kids b d 1 0))) × (n.entries ≡ entry_counts (terms (kids b d 1 0)))
    → (n.code ≡ instruction_count (term (tree_in d b 0))) × (n.paths ≡ path_count (term (tree_in d b 0))) × (n.entries ≡ entry_count (term (tree_in d b 0)))
unfolding kids
whole_counts b d n h = (omega (arith, h.0), omega (arith, h.1), omega (arith, h.2))

-- the slice has room for what was counted
pub counted_room : {b : List ℕ} {d m : ℕ} (p : List ℕ) (n : Counts) → Fits b d (length p) m
    → (n.code ≡ instruction_counts (terms (kids b d 1 0))) × (n.paths ≡ path_counts (terms (kids b d 1 0))) × (n.entries ≡ entry_counts (terms (kids b d 1 0)))
    → (32 + 24 * n.code + 12 * n.paths + 4 * n.entries ≤ length p) × (1 ≤ n.paths)
counted_room {b} {d} {m} p n F h =
    let counted = whole_counts b d n h in
    (whole.all_room b d m p [] false n F counted, whole.some_record b d m p [] false n F counted)

-- ---- what compile came to

abbrev pub After : Compiled → Result Unit Refusal → List ℕ → List ℕ → List ℕ → List ℕ → Type 0
After Y r q q' p p' = (r ≡ answer Y) × (q' ≡ path_after Y q) × (p' ≡ program_after image Y p)

pub after : (X Y : Compiled) (r : Result Unit Refusal) (q q' p p' : List ℕ) → X ≡ Y → After Y r q q' p p' → After X r q q' p p'
after X Y r q q' p p' e A = subst (λ (Z : Compiled). After Z r q q' p p') (sym e) A

-- ---- 1 to 3, and what comes after

module _ (b l : List ℕ) (path program : ℕ) where
  pub short_path : path < 8192 → Err SliceTooShort ≡ preparation b l path program
  unfolding preparation
  short_path h =
      let e : prepared accepted b l path program ≡ refused 1 none = rw (lt-ltb path 8192 h) in
      sym (ap prepared_as e)

  pub short_program : 8192 ≤ path → program / 240 < length b / 16 + min 1 (length b % 16) → Err SliceTooShort ≡ preparation b l path program
  unfolding preparation
  short_program h k =
      let x : ltb program (program_room (length b)) ≡ true = lt-ltb program (program_room (length b)) (omega arith) in
      let e : prepared accepted b l path program ≡ refused 1 none = rw (le-ltb path 8192 h, x) in
      sym (ap prepared_as e)

  module _ (h : 8192 ≤ path) (k : length b / 16 + min 1 (length b % 16) ≤ program / 240) where
    long_enough : prepared accepted b l path program ≡ read accepted (transfer_of b) (symbols_of l)
    long_enough =
        let x : ltb program (program_room (length b)) ≡ false = le-ltb program (program_room (length b)) (omega arith) in
        rw (le-ltb path 8192 h, x)

    malformed_at : (o : Transfer) (m : Malformed) → Err m ≡ told o → Err (Read.refused m) ≡ prepared_as (read accepted o (symbols_of l))
    malformed_at (whole f) m e = absurd (let w : ◌≡◌ {A = ℕ} 0 1 = cc in omega arith)
    malformed_at (ended_early i) m e = cc
    malformed_at (wrong_field i) m e = cc
    malformed_at (left_over i) m e = cc

    -- bytes that `receive` found malformed
    pub malformed : (m : Malformed) → Err m ≡ told (transfer_of b) → Err (Read.refused m) ≡ preparation b l path program
    unfolding preparation
    malformed m e = malformed_at (transfer_of b) m e ∙ ap prepared_as (sym long_enough)

    -- those that ended early
    pub told_early : (i : ℕ) → Err (Malformeds.EndedEarly i) ≡ told (transfer_of b) → Err (EndedEarly i) ≡ preparation b l path program
    told_early i e = malformed (Malformeds.EndedEarly i) e

    table_in : (f : Formula) (s : Option (List Symbol)) → ok_or (names_of s) MalformedLine ≡ prepared_as (read accepted (whole f) s)
    table_in f none = refl
    table_in f (some ss) = refl

    table_at : (o : Transfer) → Ok tt ≡ told o → ok_or (names_of (symbols_of l)) MalformedLine ≡ prepared_as (read accepted o (symbols_of l))
    table_at (whole f) e = table_in f (symbols_of l)
    table_at (ended_early i) e = absurd (let w : ◌≡◌ {A = ℕ} 0 1 = cc in omega arith)
    table_at (wrong_field i) e = absurd (let w : ◌≡◌ {A = ℕ} 0 1 = cc in omega arith)
    table_at (left_over i) e = absurd (let w : ◌≡◌ {A = ℕ} 0 1 = cc in omega arith)

    -- the names of a formula that is whole
    pub table_is : Ok tt ≡ told (transfer_of b) → ok_or (names_of (symbols_of l)) MalformedLine ≡ preparation b l path program
    unfolding preparation
    table_is e = table_at (transfer_of b) e ∙ ap prepared_as (sym long_enough)

-- what a caller has of a refusal of prepare: one without a place, or one at a node
abbrev pub Early : Compiled → Refusal → Type 0
Early X r = ((n : ℕ) × (X ≡ refused n none) × (n < 5) × (r ≡ Refusals.refusal_of n)) ⊎ ((n : ℕ) × (k : ℕ) × (X ≡ refused_at n k) × (r ≡ refusal_at n k))

-- and of a table of the symbols: a formula over them, with slices long enough
pub record Source (b l : List ℕ) (path program : ℕ) (T : Names) : Type 0 where
  pub f : Formula
  pub symbols : List Symbol
  pub formed : formula_of b ≡ some f
  pub table : T ≡ table_of symbols
  pub few : length symbols ≤ 256
  pub places : 8192 ≤ path
  pub room : 15 * length b ≤ program
  pub comes_to : compile b l path program ≡ sized f symbols

module _ (b l : List ℕ) (path program : ℕ) where
  abbrev short : Bool
  short = ltb path 8192 || ltb program (program_room (length b))

  early_in : (x : Bool) (o : Transfer) (s : Option (List Symbol)) (r : Refusal) → Err r ≡ prepared_as (cond x (refused 1 none) (read accepted o s))
      → Early (cond x (refused 1 none) (read sized o s)) r
  early_in true o s r h = inl (1, refl, omega arith, cc)
  early_in false (ended_early k) s r h = inr (12, k, refl, cc)
  early_in false (wrong_field k) s r h = inr (2, k, refl, cc)
  early_in false (left_over k) s r h = inr (13, k, refl, cc)
  early_in false (whole f) none r h = inl (3, refl, omega arith, cc)
  early_in false (whole f) (some ss) r h = absurd (let w : ◌≡◌ {A = ℕ} 0 1 = cc in omega arith)

  pub early_of : (r : Refusal) → Err r ≡ preparation b l path program → Early (compile b l path program) r
  unfolding compile preparation
  early_of r h = early_in short (transfer_of b) (symbols_of l) r h

  -- a refusal without a node, which is below 5, and one at a node: each with the definition's number
  refused_in : (x : Bool) (o : Transfer) (s : Option (List Symbol)) (r : Refusal) → Err r ≡ prepared_as (cond x (refused 1 none) (read accepted o s)) → node_of r ≡ None
      → (cond x (refused 1 none) (read sized o s) ≡ refused (number_of r) none) × (number_of r < 5)
  refused_in true o s r h n =
      let e : r ≡ SliceTooShort = cc in (ap (λ (y : Refusal). refused (number_of y) none) (sym e), omega (arith, ap number_of e))
  refused_in false (ended_early k) s r h n =
      let e : r ≡ EndedEarly k = cc in absurd (let d = sym (ap node_of e) ∙ n in let w : ◌≡◌ {A = ℕ} 0 1 = cc in omega arith)
  refused_in false (wrong_field k) s r h n =
      let e : r ≡ WrongField k = cc in absurd (let d = sym (ap node_of e) ∙ n in let w : ◌≡◌ {A = ℕ} 0 1 = cc in omega arith)
  refused_in false (left_over k) s r h n =
      let e : r ≡ LeftOver k = cc in absurd (let d = sym (ap node_of e) ∙ n in let w : ◌≡◌ {A = ℕ} 0 1 = cc in omega arith)
  refused_in false (whole f) none r h n =
      let e : r ≡ MalformedLine = cc in (ap (λ (y : Refusal). refused (number_of y) none) (sym e), omega (arith, ap number_of e))
  refused_in false (whole f) (some ss) r h n = absurd (let w : ◌≡◌ {A = ℕ} 0 1 = cc in omega arith)

  pub refusal_of : (r : Refusal) → Err r ≡ preparation b l path program → node_of r ≡ None → (compile b l path program ≡ refused (number_of r) none) × (number_of r < 5)
  unfolding compile preparation
  refusal_of r h n = refused_in short (transfer_of b) (symbols_of l) r h n

  at_node : (r y : Refusal) (j k : ℕ) → r ≡ y → node_of y ≡ Some j → node_of r ≡ Some k → refused_at (number_of y) j ≡ refused_at (number_of r) k
  at_node r y j k e n m =
      let d = sym n ∙ sym (ap node_of e) ∙ m in
      let z : j ≡ k = cc in
      ap₂ (λ (i : ℕ) (u : ℕ). refused_at i u) (sym (ap number_of e)) z

  node_refused_in : (x : Bool) (o : Transfer) (s : Option (List Symbol)) (r : Refusal) (k : ℕ) → Err r ≡ prepared_as (cond x (refused 1 none) (read accepted o s)) → node_of r ≡ Some k
      → cond x (refused 1 none) (read sized o s) ≡ refused_at (number_of r) k
  node_refused_in true o s r k h n =
      let e : r ≡ SliceTooShort = cc in absurd (let d = sym (ap node_of e) ∙ n in let w : ◌≡◌ {A = ℕ} 0 1 = cc in omega arith)
  node_refused_in false (ended_early j) s r k h n = let e : r ≡ EndedEarly j = cc in at_node r (EndedEarly j) j k e refl n
  node_refused_in false (wrong_field j) s r k h n = let e : r ≡ WrongField j = cc in at_node r (WrongField j) j k e refl n
  node_refused_in false (left_over j) s r k h n = let e : r ≡ LeftOver j = cc in at_node r (LeftOver j) j k e refl n
  node_refused_in false (whole f) none r k h n =
      let e : r ≡ MalformedLine = cc in absurd (let d = sym (ap node_of e) ∙ n in let w : ◌≡◌ {A = ℕ} 0 1 = cc in omega arith)
  node_refused_in false (whole f) (some ss) r k h n = absurd (let w : ◌≡◌ {A = ℕ} 0 1 = cc in omega arith)

  pub node_refusal_of : (r : Refusal) (k : ℕ) → Err r ≡ preparation b l path program → node_of r ≡ Some k → compile b l path program ≡ refused_at (number_of r) k
  unfolding compile preparation
  node_refusal_of r k h n = node_refused_in short (transfer_of b) (symbols_of l) r k h n

  source_in : (x : Bool) (o : Transfer) (s : Option (List Symbol)) (T : Names) → short ≡ x → transfer_of b ≡ o → symbols_of l ≡ s
      → Ok T ≡ prepared_as (cond x (refused 1 none) (read accepted o s)) → compile b l path program ≡ cond x (refused 1 none) (read sized o s)
      → Source b l path program T
  source_in true o s T xe oe se e c = absurd (let w : ◌≡◌ {A = ℕ} 0 1 = cc in omega arith)
  source_in false (ended_early k) s T xe oe se e c = absurd (let w : ◌≡◌ {A = ℕ} 0 1 = cc in omega arith)
  source_in false (wrong_field k) s T xe oe se e c = absurd (let w : ◌≡◌ {A = ℕ} 0 1 = cc in omega arith)
  source_in false (left_over k) s T xe oe se e c = absurd (let w : ◌≡◌ {A = ℕ} 0 1 = cc in omega arith)
  source_in false (whole f) none T xe oe se e c = absurd (let w : ◌≡◌ {A = ℕ} 0 1 = cc in omega arith)
  source_in false (whole f) (some ss) T xe oe se e c =
      let long = or_none (ltb path 8192) (ltb program (program_room (length b))) xe in
      record {
        f = f;
        symbols = ss;
        formed = whole_formula b f oe;
        table = cc;
        few = names_few l ss se;
        places = ltb-false path 8192 long.0;
        room = omega (arith, ltb-false program (program_room (length b)) long.1);
        comes_to = c;
      }

  comes : compile b l path program ≡ cond short (refused 1 none) (read sized (transfer_of b) (symbols_of l))
  unfolding compile
  comes = refl

  pub source_of : (T : Names) → Ok T ≡ preparation b l path program → Source b l path program T
  unfolding preparation
  source_of T h = source_in short (transfer_of b) (symbols_of l) T refl refl refl h comes

-- ---- 4, and what comes after

large_is : (small : Bool) (r : Refusal) → Err r ≡ size_answer small → (small ≡ false) × (r ≡ ExpressionLimit)
large_is true r e = absurd (let w : ◌≡◌ {A = ℕ} 0 1 = cc in omega arith)
large_is false r e = (refl, cc)

small_is : (small : Bool) → Ok tt ≡ size_answer small → small ≡ true
small_is true e = refl
small_is false e = absurd (let w : ◌≡◌ {A = ℕ} 0 1 = cc in omega arith)

module _ {b l : List ℕ} {path program : ℕ} {T : Names} (S : Source b l path program T) where
  is_within : within 256 32 S.f ≡ limited 256 32 (formula_of b)
  is_within = sym (ap (limited 256 32) S.formed)

  module _ (ok : Ok tt ≡ size_answer (limited 256 32 (formula_of b))) where
    pub limit_of : within 256 32 S.f ≡ true
    limit_of = is_within ∙ small_is (limited 256 32 (formula_of b)) ok

    pub faults_left : compile b l path program ≡ lowered_or S.f S.symbols (fault (own_context S.symbols) (term S.f) root)
    faults_left = S.comes_to ∙ rw limit_of

    -- the path slice after the limits were looked at
    pub path_kept : (q q₁ : List ℕ) → q₁ ≡ cond (limited 256 32 (formula_of b)) q (placed (some root) q) → q₁ ≡ q
    path_kept q q₁ e = e ∙ ap (λ (t : Bool). cond t q (placed (some root) q)) (small_is (limited 256 32 (formula_of b)) ok)

  module _ (r : Refusal) (no : Err r ≡ size_answer (limited 256 32 (formula_of b))) where
    pub above_limit : (compile b l path program ≡ refused 4 (some root)) × (r ≡ ExpressionLimit)
    above_limit = (S.comes_to ∙ rw (is_within ∙ (large_is (limited 256 32 (formula_of b)) r no).0), (large_is (limited 256 32 (formula_of b)) r no).1)

    pub path_rooted : (q q₁ : List ℕ) → q₁ ≡ cond (limited 256 32 (formula_of b)) q (placed (some root) q) → q₁ ≡ placed (some root) q
    path_rooted q q₁ e = e ∙ ap (λ (t : Bool). cond t q (placed (some root) q)) (large_is (limited 256 32 (formula_of b)) r no).0

-- ---- the table of the symbols

pub listed_length : (xs : List Symbol) → length (map kind_as (kinds xs)) ≡ length xs
listed_length [] = refl
listed_length (x ∷ xs) = ap suc (listed_length xs)

module _ (T : Names) (ss : List Symbol) (is : T ≡ table_of ss) where
  pub counted : T.count ≡ length ss
  counted = ap (λ (t : Names). t.count) is

  listed : T.kinds ≡ map kind_as (kinds ss) ++ replicate (256 - length ss) Kinds.Parameter
  listed = ap (λ (t : Names). t.kinds) is

  pub within_table : T.count ≤ length T.kinds
  within_table = omega (arith, counted, ap length listed, length-append (map kind_as (kinds ss)) (replicate (256 - length ss) Kinds.Parameter), listed_length ss)

  pub prefix_long : T.count ≡ length (take T.count T.kinds)
  prefix_long = sym (length-take-le T.count T.kinds within_table)

  pub prefix : take T.count T.kinds ≡ map kind_as (kinds ss)
  prefix = ap (take T.count) listed ∙ take_at (map kind_as (kinds ss)) (replicate (256 - length ss) Kinds.Parameter) T.count (listed_length ss ∙ sym counted)

-- the kinds in a slice are the symbols'
pub same_context : (K : List Kind) (ss : List Symbol) (g : Bool) → K ≡ map kind_as (kinds ss) → context_of K g ≡ record { symbols = kinds ss; generated = g }
same_context K ss g e = ap (λ (x : List SymbolKind). record { symbols = x; generated = g }) (ap (map symbol_kind) e ∙ kinds_back (kinds ss))

-- ---- a formula within the limits, over its symbols

module _ (b : List ℕ) (f : Formula) (is_f : formula_of b ≡ some f) (limits : within 256 32 f ≡ true) where
  pub few : size f ≤ 256
  few = leb-true (size f) 256 (and_first (leb (size f) 256) (leb (depth f) 32) limits)

  pub low : depth f ≤ 32
  low = leb-true (depth f) 32 (and_second (leb (size f) 256) (leb (depth f) 32) limits)

  tree : tree_in 32 b 0 ≡ f
  tree = (formula_in b f 32 is_f low).0

  well : well_formed f ≡ true
  well = (formula_in b f 32 is_f low).1

  pub long : node_size * size f ≡ length b
  long = (formula_in b f 32 is_f low).2

  pub all_fit : (path program : ℕ) → 8192 ≤ path → 15 * length b ≤ program → Fits b 32 program path
  all_fit path program h k =
      let s : size (tree_in 32 b 0) ≡ size f = ap size tree in
      record {
        well = ap well_formed tree ∙ well;
        few = omega (arith, s, few);
        room = omega (arith, s, long);
        places = h;
        short = omega (arith, ap (λ (g : Formula). longest_path (term g)) tree, path_size f, few);
      }

  module _ (K : List Kind) (ss : List Symbol) (are : K ≡ map kind_as (kinds ss)) where
    abbrev C : Context
    C = context_of K false

    abbrev O : Option Fault
    O = fault C (term (tree_in 32 b 0)) root

    abbrev O' : Option Fault
    O' = fault (own_context ss) (term f) root

    pub same_fault : O ≡ O'
    same_fault = ap₂ (λ (x : Context) (g : Formula). fault x (term g) root) (same_context K ss false are) tree

    pub near_fault : (x : Fault) → O' ≡ some x → Near x 8192
    near_fault = near (own_context ss) (term f) root 8192 (narrow f (omega (arith, few))) (omega (arith, path_size f, few))

    -- what writing the program came to, by the formula's first fault
    module _ (w : Result Unit Refusal) (q q₁ q' p p' : List ℕ) (same : q₁ ≡ q) (ew : w ≡ answer_to O) (ep : p' ≡ slice_after C (tree_in 32 b 0) O p) (eq : q' ≡ placed (fault_place O) q₁) where
      pub answer_is : w ≡ answer_to O'
      answer_is = ew ∙ ap answer_to same_fault

      pub slice_is : p' ≡ slice_after (own_context ss) f O' p
      slice_is = ep ∙ ap₂ (λ (x : Context) (g : Formula). slice_after x g O p) (same_context K ss false are) tree ∙ ap (λ (o : Option Fault). slice_after (own_context ss) f o p) same_fault

      pub place_is : q' ≡ placed (fault_place O') q
      place_is = eq ∙ ap₂ (λ (o : Option Fault) (x : List ℕ). placed (fault_place o) x) same_fault same

      written_at : (o : Option Fault) → ((x : Fault) → o ≡ some x → Near x 8192) → w ≡ answer_to o → p' ≡ slice_after (own_context ss) f o p → q' ≡ placed (fault_place o) q
          → After (lowered_or f ss o) w q q' p p'
      written_at none N a c d = (a, d, c)
      written_at (some x) N a c d = (a, d, c ∙ sym (rw (le-ltb x.number 5 (N x refl).least)))

      -- the answer of compile
      pub written : (X : Compiled) → X ≡ lowered_or f ss O' → After X w q q' p p'
      written X e = after X (lowered_or f ss O') w q q' p p' e (written_at O' near_fault answer_is slice_is place_is)

-- a refusal of 1 to 4
pub early : (X : Compiled) (n : ℕ) (r : Refusal) (place : Option Path) (q q' p : List ℕ) → X ≡ refused n place → n < 5 → r ≡ Refusals.refusal_of n → q' ≡ placed place q
    → After X (Err r) q q' p p
early X n r place q q' p e h i k = after X (refused n place) (Err r) q q' p p e (ap (λ (x : Refusal). Err x) i, k, sym (rw (lt-ltb n 5 h)))

-- a refusal of prepare
pub early_after : (X : Compiled) (r : Refusal) (q p : List ℕ) → Early X r → After X (Err r) q q p p
early_after X r q p =
    ⊎_elim (λ h. early X h.0 r none q q p h.1 h.2 h.3 refl)
    (λ h. after X (refused_at h.0 h.1) (Err r) q q p p h.2 (ap (λ (x : Refusal). Err x) h.3, refl, refl))
