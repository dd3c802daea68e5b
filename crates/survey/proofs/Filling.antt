-- The rows of a node by the rows of its children.
use mathlib.Core.Path.{◌≡◌, refl, sym, ap, ◌∙◌, subst}
use mathlib.Core.Bool.{Bool, true, false, cond, not, ◌&&◌, ◌||◌}
use mathlib.Core.Option.{Option, none, some}
use mathlib.Core.List.{List, ◌∷◌}
use Prim.Native.Nat.{ℕ, suc, ◌+◌, ◌-◌, ◌*◌, ◌<◌, ◌≤◌, max}
use native.Mathlib.Omega.{arith}
use lib.ListN.{length, set, length-set}
use lib.Seq.{get_or-set_same, get_or-set_other}
use lib.Dec.{eqb, ltb}
use borrow.Author.Tests.{leb-true, leb-false, ltb-true, ltb-false}
use Rattle.std.specs.Ordering.{ord_max, nat_cmp, is_lt}
use Rattle.std.proofs.Common.{Less, Equal, Greater}
use lib.Dec.{leb}
use Rattle.formula.specs.Operator.{unary, binary, compare, call}
use Rattle.formula.specs.Formula.{Head, number, truth, symbol, operation, junction, ifelse, conditional, malformed, Formula, Formulas, node, last, next, size, sizes, depth, depths, depends, any_depends, is_symbol, well_formed, all_well_formed}
use Rattle.formula.specs.Text.{byte_at, half_at, word_at}
use Rattle.formula.specs.Node.{Fields, fields_at, fields_of, node_size}
use Rattle.derivative.specs.Rules.{Rule}
use Rattle.derivative.specs.Differentiate.{formulas, the_rule, differentiate, differentiate_all, and_then, applied}
use Rattle.derivative.specs.Attributes.{attributes_of}
use Rattle.reader.specs.Read.{is_some}
use Rattle.reader.proofs.Heads.{and_first, and_second}
use Rattle.reader.proofs.Trees.{size_pos}
use Rattle.survey.specs.Derived.{children_of, head_of_tree, derived, ruled}
use Rattle.survey.specs.Table.{tree, trees, Own, Surveyed, Ready, Room, Filled, reading, row_in, empty_row, or_literal}
use Rattle.formula.specs.Optional.{option_of}
use Rattle.survey.specs.Worked.{literal_attributes}
use Rattle.survey.specs.declared.Attributes as Declared
use Rattle.std.specs.Option.{unwrap_or, is_some as given_is_some}
use Rattle.std.specs.Prelude.{Option as Given, None, Some}
use Rattle.survey.specs.declared.Row.{Row}
use Rattle.survey.proofs.Trees.{opened, trees_next, trees_none}
use Rattle.formula.proofs.Tests.{and_one}

-- ---- a symbol

symbol_head : (h : Head) (n s : ℕ) (F : Fields) → fields_of h n ≡ F → F.kind ≡ 2 → eqb F.symbol_number s ≡ is_symbol s h
symbol_head (symbol i) n s F e z = ap (λ (x : Fields). eqb x.symbol_number s) (sym e)
symbol_head (number b) n s F e z = absurd (omega (arith, ap (λ (x : Fields). x.kind) e))
symbol_head (truth b) n s F e z = absurd (omega (arith, ap (λ (x : Fields). x.kind) e))
symbol_head (operation (unary o)) n s F e z = absurd (omega (arith, ap (λ (x : Fields). x.kind) e))
symbol_head (operation (binary o)) n s F e z = absurd (omega (arith, ap (λ (x : Fields). x.kind) e))
symbol_head (operation (compare o)) n s F e z = absurd (omega (arith, ap (λ (x : Fields). x.kind) e))
symbol_head (operation (call o)) n s F e z = absurd (omega (arith, ap (λ (x : Fields). x.kind) e))
symbol_head (junction j) n s F e z = absurd (omega (arith, ap (λ (x : Fields). x.kind) e))
symbol_head ifelse n s F e z = absurd (omega (arith, ap (λ (x : Fields). x.kind) e))
symbol_head conditional n s F e z = absurd (omega (arith, ap (λ (x : Fields). x.kind) e))
symbol_head malformed n s F e z = absurd (omega (arith, ap (λ (x : Fields). x.kind) e))

other_head : (h : Head) (n s : ℕ) (F : Fields) → fields_of h n ≡ F → (F.kind ≡ 2 → ⊥) → false ≡ is_symbol s h
other_head (symbol i) n s F e z = absurd (z (sym (ap (λ (x : Fields). x.kind) e)))
other_head (number b) n s F e z = refl
other_head (truth b) n s F e z = refl
other_head (operation o) n s F e z = refl
other_head (junction j) n s F e z = refl
other_head ifelse n s F e z = refl
other_head conditional n s F e z = refl
other_head malformed n s F e z = refl

module _ (f : List ℕ) (k s : ℕ) (w : well_formed (tree f k) ≡ true) where
  pub symbol_yes : (v : ℕ) → v ≡ word_at f (node_size * k + 4) → byte_at f (node_size * k) ≡ 2 → eqb v s ≡ is_symbol s (head_of_tree (tree f k))
  unfolding fields_at
  symbol_yes v e z =
      let o = opened f k w in
      ap (λ (x : ℕ). eqb x s) e ∙ symbol_head o.head (half_at f (node_size * k + 2)) s (fields_at f (node_size * k)) o.back z ∙ sym (ap (λ (t : Formula). is_symbol s (head_of_tree t)) o.is)

  pub symbol_no : (byte_at f (node_size * k) ≡ 2 → ⊥) → false ≡ is_symbol s (head_of_tree (tree f k))
  unfolding fields_at
  symbol_no z =
      let o = opened f k w in
      other_head o.head (half_at f (node_size * k + 2)) s (fields_at f (node_size * k)) o.back z ∙ sym (ap (λ (t : Formula). is_symbol s (head_of_tree t)) o.is)

-- ---- a row that stays

abbrev Kept : List Row → List Row → ℕ → Type 0
Kept T T' j = row_in T' j ≡ row_in T j

own_kept : (f : List ℕ) (T T' : List Row) (j : ℕ) → Kept T T' j → Own f T j → Own f T' j
own_kept f T T' j h o = record { nodes = ap (λ (r : Row). r.nodes) h ∙ o.nodes; levels = ap (λ (r : Row). r.levels) h ∙ o.levels }

surveyed_kept : (s : ℕ) (b : Bool) (f : List ℕ) (T T' : List Row) (j : ℕ) → Kept T T' j → Surveyed s b f T j → Surveyed s b f T' j
surveyed_kept s b f T T' j h o =
    record {
      has = ap (λ (r : Row). r.has) h ∙ o.has;
      fine = ap (λ (r : Row). r.fine) h ∙ o.fine;
      diff = ap (λ (r : Row). reading r.diff) h ∙ o.diff;
    }

-- ---- whether there is a derivative

fine_by : (c : Bool) (A : Option (List Formula)) (r : Option Rule) (own z : Formula) (cs : List Formula)
    → is_some (cond c (and_then A (λ ds. applied formulas r own cs ds)) (some z)) ≡ cond c (is_some A && is_some r) true
fine_by false A r own z cs = refl
fine_by true none r own z cs = refl
fine_by true (some ds) none own z cs = refl
fine_by true (some ds) (some r) own z cs = refl

fine_node : (s : ℕ) (b : Bool) (t : Formula) → is_some (differentiate s b t) ≡ cond (depends s t) (is_some (differentiate_all s b (children_of t)) && is_some (the_rule s b (head_of_tree t) (children_of t))) true
fine_node s b (node h ts) = fine_by (depends s (node h ts)) (differentiate_all s b ts) (the_rule s b h ts) (node h ts) _ _

joined : (o : Option Formula) (os : Option (List Formula)) → is_some (and_then o (λ d. and_then os (λ ds. some (d ∷ ds)))) ≡ (is_some o && is_some os)
joined none os = refl
joined (some d) none = refl
joined (some d) (some ds) = refl

same_twice : (c a r : Bool) → (not c || (a && cond c r true)) ≡ cond c (a && r) true
same_twice true a r = refl
same_twice false a r = refl

pub fine_is : (s : ℕ) (b : Bool) (t : Formula) (has fine r v x : Bool) → has ≡ depends s t → fine ≡ is_some (differentiate_all s b (children_of t)) → r ≡ ruled s b t
    → v ≡ (fine && r) → x ≡ (not has || v) → x ≡ is_some (differentiate s b t)
fine_is s b t has fine r v x ph pf pr pv px =
    px
    ∙ ap (λ (y : Bool). not has || y) pv
    ∙ ap (λ (y : Bool). not has || (fine && y)) pr
    ∙ ap (λ (y : Bool). not has || (y && ruled s b t)) pf
    ∙ ap (λ (y : Bool). not y || (is_some (differentiate_all s b (children_of t)) && ruled s b t)) ph
    ∙ same_twice (depends s t) (is_some (differentiate_all s b (children_of t))) (is_some (the_rule s b (head_of_tree t) (children_of t)))
    ∙ sym (fine_node s b t)

-- a derivative's attributes as the code has them
pub given_some : (o : Given Declared.Attributes) → given_is_some o ≡ is_some (option_of o)
given_some None = refl
given_some (Some a) = refl

pub given_right : (o : Given Declared.Attributes) (z : Declared.Attributes) → reading z ≡ literal_attributes 0 → reading (unwrap_or o z) ≡ reading (or_literal o)
given_right None z e = e
given_right (Some a) z e = refl

-- the larger of two as the code has it
pub larger_is : (a b : ℕ) → ord_max nat_cmp a b ≡ max a b
larger_is a b = go (ltb b a) refl (eqb b a) refl
  where
    go : (t : Bool) → ltb b a ≡ t → (u : Bool) → eqb b a ≡ u → ord_max nat_cmp a b ≡ max a b
    go true e u f = ap (λ (x : Bool). cond (is_lt (cond x Less (cond (eqb b a) Equal Greater))) a b) e ∙ omega (arith, ltb-true b a e)
    go false e true f =
        ap (λ (x : Bool). cond (is_lt (cond x Less (cond (eqb b a) Equal Greater))) a b) e
        ∙ ap (λ (x : Bool). cond (is_lt (cond x Equal Greater)) a b) f ∙ omega (arith, ltb-false b a e)
    go false e false f =
        ap (λ (x : Bool). cond (is_lt (cond x Less (cond (eqb b a) Equal Greater))) a b) e
        ∙ ap (λ (x : Bool). cond (is_lt (cond x Equal Greater)) a b) f ∙ omega (arith, ltb-false b a e)

-- ---- the loop over the children

and_assoc : (a b c : Bool) → (a && b && c) ≡ (a && (b && c))
and_assoc true b c = refl
and_assoc false b c = refl

or_assoc : (a b c : Bool) → ((a || b) || c) ≡ (a || (b || c))
or_assoc true b c = refl
or_assoc false b c = refl

or_false : (a : Bool) → (a || false) ≡ a
or_false true = refl
or_false false = refl

module _ (s : ℕ) (b : Bool) (f : List ℕ) (T₀ : List Row) (k d : ℕ) (room : Room f T₀ k d) where
  -- where so many children are left, the first at `next`
  pub record Going (T : List Row) (has fine : Bool) (levels at left : ℕ) : Type 0 where
    pub same_length : length T ≡ length T₀
    pub after : k < at
    pub ends : at + sizes (trees f left at) ≡ k + size (tree f k)
    pub all : all_well_formed (trees f left at) ≡ true
    pub deep : depth (tree f k) ≡ suc (max levels (depths (trees f left at)))
    pub has_is : depends s (tree f k) ≡ (has || any_depends s (trees f left at))
    pub fine_all : is_some (differentiate_all s b (children_of (tree f k))) ≡ (fine && is_some (differentiate_all s b (trees f left at)))
    pub own : (j : ℕ) → k < j → j < at → Own f T j
    pub survey : (j : ℕ) → k < j → j < at → Surveyed s b f T j
    pub before : (j : ℕ) → j < k → row_in T j ≡ row_in T₀ j
    pub beyond : (j : ℕ) → k + size (tree f k) ≤ j → row_in T j ≡ row_in T₀ j

  pub going_start : (has : Bool) (n : ℕ) → has ≡ is_symbol s (head_of_tree (tree f k)) → n ≡ half_at f (node_size * k + 2) → Going T₀ has true 0 (k + 1) n
  going_start has n p q =
      let o = opened f k room.formed in
      let N = half_at f (node_size * k + 2) in
      let c : trees f N (k + 1) ≡ trees f n (k + 1) = ap (λ (x : ℕ). trees f x (k + 1)) (sym q) in
      let e : tree f k ≡ node o.head (trees f n (k + 1)) = o.is ∙ ap (λ (ts : Formulas). node o.head ts) c in
      record {
        same_length = refl;
        after = omega arith;
        ends = omega (arith, ap size e);
        all = sym (ap all_well_formed c) ∙ o.all;
        deep = omega (arith, ap depth e);
        has_is = ap (depends s) e ∙ ap (λ (x : Bool). x || any_depends s (trees f n (k + 1))) (sym (p ∙ ap (λ (t : Formula). is_symbol s (head_of_tree t)) e));
        fine_all = ap (λ (t : Formula). is_some (differentiate_all s b (children_of t))) e;
        own = λ j x y. absurd (omega arith);
        survey = λ j x y. absurd (omega arith);
        before = λ m l. refl;
        beyond = λ m l. refl;
      }

  module _ (T : List Row) (has fine : Bool) (levels at left : ℕ) (g : Going T has fine levels at left) where
    module _ (z : left ≡ 0 → ⊥) where
      abbrev q : trees f left at ≡ next (tree f at) (trees f (left - 1) (at + size (tree f at)))
      q = trees_next f left at z

      abbrev us : Formulas
      us = trees f (left - 1) (at + size (tree f at))

      pub child_room : Room f T at (d - 1)
      child_room =
          record {
            formed = and_first (well_formed (tree f at)) (all_well_formed us) (sym (ap all_well_formed q) ∙ g.all);
            deep = omega (arith, room.deep, g.deep, ap depths q);
            long = omega (arith, room.long, g.ends, g.same_length, ap sizes q);
          }

      -- the child's row
      pub row_there : at < length T
      row_there = omega (arith, child_room.long, size_pos (tree f at))

      going_next : (T' : List Row) → length T' ≡ length T → Filled s b f T T' at → (has' fine' : Bool) (levels' at' : ℕ)
          → has' ≡ (has || (row_in T' at).has) → fine' ≡ (fine && (row_in T' at).fine) → levels' ≡ max levels (row_in T' at).levels
          → at' ≡ at + (row_in T' at).nodes → Going T' has' fine' levels' at' (left - 1)
      going_next T' l i has' fine' levels' at' ph pf pl pa =
          let y = size_pos (tree f at) in
          let o = i.own at (omega arith) (omega arith) in
          let v = i.survey at (omega arith) (omega arith) in
          let pa' : at' ≡ at + size (tree f at) = pa ∙ ap (λ (x : ℕ). at + x) o.nodes in
          let c : us ≡ trees f (left - 1) at' = ap (λ (x : ℕ). trees f (left - 1) x) (sym pa') in
          let r : trees f left at ≡ next (tree f at) (trees f (left - 1) at') = q ∙ ap (λ (ts : Formulas). next (tree f at) ts) c in
          let ph' : has' ≡ (has || depends s (tree f at)) = ph ∙ ap (λ (x : Bool). has || x) v.has in
          let pf' : fine' ≡ (fine && is_some (differentiate s b (tree f at))) = pf ∙ ap (λ (x : Bool). fine && x) v.fine in
          record {
            same_length = l ∙ g.same_length;
            after = omega (arith, g.after);
            ends = omega (arith, g.ends, ap sizes r);
            all = and_second (well_formed (tree f at)) (all_well_formed (trees f (left - 1) at')) (sym (ap all_well_formed r) ∙ g.all);
            deep = omega (arith, g.deep, ap depths r, pl, o.levels);
            has_is =
                g.has_is ∙ ap (λ (ts : Formulas). has || any_depends s ts) r
                ∙ sym (or_assoc has (depends s (tree f at)) (any_depends s (trees f (left - 1) at')))
                ∙ ap (λ (x : Bool). x || any_depends s (trees f (left - 1) at')) (sym ph');
            fine_all =
                g.fine_all ∙ ap (λ (ts : Formulas). fine && is_some (differentiate_all s b ts)) r
                ∙ ap (λ (x : Bool). fine && x) (joined (differentiate s b (tree f at)) (differentiate_all s b (trees f (left - 1) at')))
                ∙ sym (and_assoc fine (is_some (differentiate s b (tree f at))) (is_some (differentiate_all s b (trees f (left - 1) at'))))
                ∙ ap (λ (x : Bool). x && is_some (differentiate_all s b (trees f (left - 1) at'))) (sym pf');
            own = λ j x w. own_row j x w (leb at j) refl;
            survey = λ j x w. survey_row j x w (leb at j) refl;
            before = λ m n. i.before m (omega (arith, g.after)) ∙ g.before m n;
            beyond = λ m n. i.after m (omega (arith, g.ends, ap sizes q)) ∙ g.beyond m n;
          }
        where
          kept : (j : ℕ) → j < at → Kept T T' j
          kept j h = i.before j h

          at_size : at' ≡ at + size (tree f at)
          at_size = let y = size_pos (tree f at) in pa ∙ ap (λ (x : ℕ). at + x) (i.own at (omega arith) (omega arith)).nodes

          own_row : (j : ℕ) → k < j → j < at' → (c : Bool) → leb at j ≡ c → Own f T' j
          own_row j x w true e = i.own j (leb-true at j e) (omega (arith, at_size))
          own_row j x w false e = own_kept f T T' j (kept j (leb-false at j e)) (g.own j x (leb-false at j e))

          survey_row : (j : ℕ) → k < j → j < at' → (c : Bool) → leb at j ≡ c → Surveyed s b f T' j
          survey_row j x w true e = i.survey j (leb-true at j e) (omega (arith, at_size))
          survey_row j x w false e = surveyed_kept s b f T T' j (kept j (leb-false at j e)) (g.survey j x (leb-false at j e))

    pub going_on : (z : left ≡ 0 → ⊥) (T' : List Row) → length T' ≡ length T → Filled s b f T T' at → (has' fine' : Bool) (levels' at' left' : ℕ)
        → has' ≡ (has || (row_in T' at).has) → fine' ≡ (fine && (row_in T' at).fine) → levels' ≡ max levels (row_in T' at).levels
        → at' ≡ at + (row_in T' at).nodes → left' ≡ left - 1 → Going T' has' fine' levels' at' left'
    going_on z T' l i has' fine' levels' at' left' ph pf pl pa e =
        subst (λ (m : ℕ). Going T' has' fine' levels' at' m) (sym e) (going_next z T' l i has' fine' levels' at' ph pf pl pa)

    module _ (z : left ≡ 0) where
      none_left : trees f left at ≡ last
      none_left = trees_none f left at z

      pub size_is : at - k ≡ size (tree f k)
      size_is = omega (arith, g.ends, ap sizes none_left, g.after)

      pub depth_is : levels + 1 ≡ depth (tree f k)
      depth_is = omega (arith, g.deep, ap depths none_left)

      pub symbol_is : has ≡ depends s (tree f k)
      symbol_is = sym (g.has_is ∙ ap (λ (ts : Formulas). has || any_depends s ts) none_left ∙ or_false has)

      pub all_fine : fine ≡ is_some (differentiate_all s b (children_of (tree f k)))
      all_fine = sym (g.fine_all ∙ ap (λ (ts : Formulas). fine && is_some (differentiate_all s b ts)) none_left ∙ and_one fine)

      pub own_room : k < length T
      own_room = omega (arith, room.long, g.same_length, size_pos (tree f k))

      -- a row whose first two numbers are the node's
      module _ (r : Row) (pn : r.nodes ≡ at - k) (pl : r.levels ≡ levels + 1) where
        kept : (j : ℕ) → (j ≡ k → ⊥) → Kept T (set T k r) j
        kept j p = get_or-set_other T k j r empty_row p

        stored : row_in (set T k r) k ≡ r
        stored = let h = own_room in get_or-set_same T k r empty_row h

        own_at : (j : ℕ) → k ≤ j → j < k + size (tree f k) → (c : Bool) → leb j k ≡ c → Own f (set T k r) j
        own_at j x w true e =
            let q : k ≡ j = omega (arith, leb-true j k e) in
            subst (λ (y : ℕ). Own f (set T k r) y) q
            (record { nodes = ap (λ (y : Row). y.nodes) stored ∙ pn ∙ size_is; levels = ap (λ (y : Row). y.levels) stored ∙ pl ∙ depth_is })
        own_at j x w false e =
            let q = leb-false j k e in
            own_kept f T (set T k r) j (kept j (λ y. omega arith)) (g.own j q (omega (arith, size_is, g.after)))

        pub ready : Ready s b f (set T k r) k
        ready =
            record {
              owned =
                  record {
                    formed = room.formed;
                    long = omega (arith, room.long, g.same_length, length-set T k r);
                    own = λ j x w. own_at j x w (leb j k) refl;
                  };
              below = λ j x w. surveyed_kept s b f T (set T k r) j (kept j (λ y. omega arith)) (g.survey j x (omega (arith, size_is, g.after)));
            }

        -- and then the whole row
        module _ (u : Row) (qn : u.nodes ≡ at - k) (ql : u.levels ≡ levels + 1) (ph : u.has ≡ depends s (tree f k)) (py : u.fine ≡ is_some (differentiate s b (tree f k)))
            (pa : reading u.diff ≡ attributes_of (derived s b (tree f k))) where
          abbrev W : List Row
          W = set (set T k r) k u

          kept_end : (j : ℕ) → (j ≡ k → ⊥) → Kept T W j
          kept_end j p = get_or-set_other (set T k r) k j u empty_row p ∙ kept j p

          stored_end : row_in W k ≡ u
          stored_end = let h = own_room in get_or-set_same (set T k r) k u empty_row (omega (arith, length-set T k r))

          own_end : (j : ℕ) → k ≤ j → j < k + size (tree f k) → (c : Bool) → leb j k ≡ c → Own f W j
          own_end j x w true e =
              let q : k ≡ j = omega (arith, leb-true j k e) in
              subst (λ (i : ℕ). Own f W i) q
              (record { nodes = ap (λ (y : Row). y.nodes) stored_end ∙ qn ∙ size_is; levels = ap (λ (y : Row). y.levels) stored_end ∙ ql ∙ depth_is })
          own_end j x w false e =
              let q = leb-false j k e in
              own_kept f T W j (kept_end j (λ y. omega arith)) (g.own j q (omega (arith, size_is, g.after)))

          survey_end : (j : ℕ) → k ≤ j → j < k + size (tree f k) → (c : Bool) → leb j k ≡ c → Surveyed s b f W j
          survey_end j x w true e =
              let q : k ≡ j = omega (arith, leb-true j k e) in
              subst (λ (i : ℕ). Surveyed s b f W i) q
              (record {
                has = ap (λ (y : Row). y.has) stored_end ∙ ph;
                fine = ap (λ (y : Row). y.fine) stored_end ∙ py;
                diff = ap (λ (y : Row). reading y.diff) stored_end ∙ pa;
              })
          survey_end j x w false e =
              let q = leb-false j k e in
              surveyed_kept s b f T W j (kept_end j (λ y. omega arith)) (g.survey j q (omega (arith, size_is, g.after)))

          pub filled : Filled s b f T₀ W k
          filled =
              record {
                own = λ j x w. own_end j x w (leb j k) refl;
                survey = λ j x w. survey_end j x w (leb j k) refl;
                before = λ j l. kept_end j (λ y. omega arith) ∙ g.before j l;
                after = λ j l. let y = size_pos (tree f k) in kept_end j (λ z. omega arith) ∙ g.beyond j l;
              }
