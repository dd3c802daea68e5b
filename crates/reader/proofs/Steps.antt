-- The scan of `receive`: at a node, with so many trees owed.
use mathlib.Core.Path.{◌≡◌, refl, sym, ap, ◌∙◌}
use mathlib.Core.Bool.{Bool, true, false, cond}
use mathlib.Core.List.{List}
use mathlib.Core.Logic.{◌⊎◌, inl, inr, ⊎_elim}
use Prim.Native.Nat.{ℕ, suc, ◌+◌, ◌-◌, ◌*◌, ◌/◌, ◌≤◌, ◌<◌}
use native.Mathlib.Omega.{arith}
use lib.ListN.{length}
use lib.Dec.{eqb, leb}
use borrow.Author.Tests.{eq-eqb, le-leb, lt-leb, ne_eqb}
use Rattle.formula.specs.Node.{Fields, fields_at, head_of, head_at, node_size}
use Rattle.formula.specs.Transfer.{transfer_of}
use Rattle.reader.specs.Read.{is_some, told}
use Rattle.reader.specs.declared.Malformed.{Malformed}
use Rattle.reader.specs.declared.Malformed.TheVariants.{EndedEarly, WrongField, LeftOver}
use Rattle.reader.proofs.Scan.{is_there, past_none, scan_bad, scan_end, scan_start, scan_step, scanned}
use Rattle.std.specs.Prelude.{Ok, Err, Result}

-- at the node k so many trees are owed
unfoldable pub Owing : List ℕ → ℕ → ℕ → Type 0
Owing b k owed = told (transfer_of b) ≡ scanned b owed k

module _ (b : List ℕ) (k owed : ℕ) (w : Owing b k owed) where
  owing_end : owed ≡ 0 → cond (eqb (node_size * k) (length b)) (Ok tt) (Err (LeftOver k)) ≡ told (transfer_of b)
  unfolding Owing
  owing_end z = sym (w ∙ scan_end b owed k z)

  module _ (z : owed ≡ 0 → ⊥) where
    faulty : is_some (head_at b (node_size * k)) ≡ false → cond (leb (node_size * suc k) (length b)) (Err (WrongField k)) (Err (EndedEarly k)) ≡ told (transfer_of b)
    unfolding Owing
    faulty e = sym (w ∙ scan_bad b owed k z e)

    owing_early : length b < node_size * suc k → Err (EndedEarly k) ≡ told (transfer_of b)
    owing_early l =
        sym (ap (λ (c : Bool). cond c (Err (WrongField k)) (Err (EndedEarly k))) (lt-leb (node_size * suc k) (length b) l))
        ∙ faulty (past_none b (node_size * k) (omega arith))

    -- the node there has all its bytes, and these fields
    module _ (l : node_size * k + node_size ≤ length b) (f : Fields) (q : f ≡ fields_at b (node_size * k)) where
      owing_wrong : is_some (head_of f) ≡ false → Err (WrongField k) ≡ told (transfer_of b)
      owing_wrong n =
          sym (ap (λ (c : Bool). cond c (Err (WrongField k)) (Err (EndedEarly k))) (le-leb (node_size * suc k) (length b) (omega arith)))
          ∙ faulty (sym (is_there b (node_size * k) f l q) ∙ n)

      owing_step : is_some (head_of f) ≡ true → Owing b (k + 1) (owed - 1 + f.children)
      unfolding Owing fields_at
      owing_step n =
          let e : suc k ≡ k + 1 = omega arith in
          w
          ∙ scan_step b owed k f.children z (sym (is_there b (node_size * k) f l q) ∙ n) (ap (λ (g : Fields). g.children) q)
          ∙ ap (λ (j : ℕ). scanned b (owed - 1 + f.children) j) e

-- the count is of the trees that are owed; or it is not, and both are more than the nodes that are left
pub record Counted (b : List ℕ) (k count : ℕ) : Type 0 where
  pub owed : ℕ
  pub owing : Owing b k owed
  pub close : (count ≡ owed) ⊎ ((length b / 16 < k + count) × (length b / 16 < k + owed))

pub counted_start : (b : List ℕ) → Counted b 0 1
unfolding Owing
counted_start b = record { owed = 1; owing = scan_start b; close = inl refl }

module _ (b : List ℕ) (k count : ℕ) (s : Counted b k count) (i : k ≤ length b / 16) where
  -- there is one or more of either, or none of both
  some_owed : (count ≡ 0 → ⊥) → s.owed ≡ 0 → ⊥
  some_owed n e = ⊎_elim (λ q. n (q ∙ e)) (λ q. let h = q.1 in omega arith) s.close

  none_owed : count ≡ 0 → s.owed ≡ 0
  none_owed e = ⊎_elim (λ q. sym q ∙ e) (λ q. absurd (let h = q.0 in omega arith)) s.close

  pub counted_over : count ≡ 0 → node_size * k < length b → Err (LeftOver k) ≡ told (transfer_of b)
  counted_over e l =
      sym (ap (λ (c : Bool). cond c (Ok tt) (Err (LeftOver k))) (ne_eqb (node_size * k) (length b) (λ q. omega arith)))
      ∙ owing_end b k s.owed s.owing (none_owed e)

  counted_whole : count ≡ 0 → length b ≤ node_size * k → Ok tt ≡ told (transfer_of b)
  counted_whole e l =
      sym (ap (λ (c : Bool). cond c (Ok tt) (Err (LeftOver k))) (eq-eqb (node_size * k) (length b) (omega arith)))
      ∙ owing_end b k s.owed s.owing (none_owed e)

  -- no node is left
  module _ (e : length b / 16 ≤ k) where
    last : length b / 16 ≡ k
    last = omega arith

    pub ended_early : 0 < count → Err (EndedEarly (length b / 16)) ≡ told (transfer_of b)
    ended_early n = ap (λ (j : ℕ). Err (EndedEarly j)) last ∙ owing_early b k s.owed s.owing (some_owed (λ z. omega arith)) (omega arith)

    pub ended_over : count ≡ 0 → node_size * (length b / 16) < length b → Err (LeftOver (length b / 16)) ≡ told (transfer_of b)
    ended_over z l = ap (λ (j : ℕ). Err (LeftOver j)) last ∙ counted_over z (omega arith)

    pub ended_whole : count ≡ 0 → length b ≤ node_size * (length b / 16) → Ok tt ≡ told (transfer_of b)
    ended_whole z l = counted_whole z (omega arith)

  -- a node is left, with these fields
  module _ (j : k < length b / 16) (f : Fields) (q : f ≡ fields_at b (node_size * k)) (z : count ≡ 0 → ⊥) where
    pub counted_wrong : is_some (head_of f) ≡ false → Err (WrongField k) ≡ told (transfer_of b)
    counted_wrong n = owing_wrong b k s.owed s.owing (some_owed z) (omega arith) f q n

    module _ (n : is_some (head_of f) ≡ true) where
      next_owing : Owing b (k + 1) (s.owed - 1 + f.children)
      next_owing = owing_step b k s.owed s.owing (some_owed z) (omega arith) f q n

      pub counted_on : count ≤ length b / 16 - k → Counted b (k + 1) (count - 1 + f.children)
      counted_on h =
          record {
            owed = s.owed - 1 + f.children;
            owing = next_owing;
            close = ⊎_elim (λ e. inl (ap (λ (c : ℕ). c - 1 + f.children) e)) (λ e. absurd (let m = e.0 in omega arith)) s.close;
          }

      pub counted_still : length b / 16 - k < count → Counted b (k + 1) count
      counted_still h =
          record {
            owed = s.owed - 1 + f.children;
            owing = next_owing;
            close = inr (omega arith, ⊎_elim (λ e. omega arith) (λ e. let m = e.1 in omega arith) s.close);
          }

-- the same refusal, at a place that is equal
pub left_over_at : {r : Result Unit Malformed} {k j : ℕ} → Err (LeftOver k) ≡ r → j ≡ k → Err (LeftOver j) ≡ r
left_over_at e q = ap (λ (i : ℕ). Err (LeftOver i)) q ∙ e
