-- Path records read again: each node's number gives its path.
use mathlib.Core.Path.{◌≡◌, refl, ap, ◌∙◌}
use mathlib.Core.List.{List, [], ◌++◌}
use mathlib.Core.Bool.{true}
use Prim.Native.Nat.{ℕ, zero, suc, ◌+◌, ◌-◌, ◌*◌, ◌≤◌, ◌<◌}
use native.Mathlib.Nat.{suc-add, zero-add}
use native.Mathlib.Omega.{arith}
use lib.ListN.{length, length-append}
use borrow.Author.Tests.{eq-eqb, lt-ltb, ne_eqb}
use Rattle.formula.specs.Text.{half_at, word_at}
use Rattle.formula.specs.Path.{Path, Step, ◌▸◌, argument, condition, else_arm, root, step_text, text, then_arm}
use Rattle.formula.specs.Term.{Term, Terms, ◌and◌, apply, branch, end, literal, miscounted, symbol, term_count, truth}
use Rattle.machine.proofs.Laws.{and_l, and_r, and_true}
use Rattle.machine.proofs.Size.{Narrow, Narrows, argument_short, condition_short, else_short, longest_path, longest_paths, then_short}
use Rattle.layout.specs.Opcode.{last_step, step_number, step_of}
use Rattle.layout.specs.Image.{below, below_all, path_count, path_counts, path_record}
use Rattle.layout.specs.Decode.{length_at, parent_at, path_in, path_of, path_total, record_at, record_ok, records_ok, step_at}
use Rattle.layout.proofs.Bytes.{Holds, head_word, holds_left, holds_right, holds_six, holds_word}
use Rattle.layout.proofs.Lengths.{length_below}

pub step_back : (s : Step) → step_of (step_number s) ≡ s
step_back (argument i) =
    rw (ne_eqb (3 + i) 0 (λ e. omega arith), ne_eqb (3 + i) 1 (λ e. omega arith), ne_eqb (3 + i) 2 (λ e. omega arith))
    (ap argument (let e : 3 + i - 3 ≡ i = omega arith in e))
step_back condition = refl
step_back then_arm = refl
step_back else_arm = refl

module _ (b : List ℕ) where
  -- the number k is the path p's, with any turns that are enough
  pub record Named (k : ℕ) (p : Path) : Type 0 where
    pub path : (turns : ℕ) → k ≤ turns → path_in b turns k ≡ p
    pub text_length : length_at b k ≡ length (text p)
    pub ok : record_ok b k ≡ true

  pub named_path : (k : ℕ) (p : Path) → Named k p → path_of b k ≡ p
  unfolding path_of
  named_path k p N = N.path k (omega arith)

  -- the fields of a path record
  module _ (q k : ℕ) (p : Path) (h : Holds b (record_at b q) (path_record k p)) where
    pub parent_there : k < 4294967296 → parent_at b q ≡ k
    unfolding parent_at word_at half_at
    parent_there l = holds_word b (record_at b q) (path_record k p) h 0 (record_at b q) (omega arith) (omega arith) ∙ head_word k [] l

    pub step_there : last_step p < 4294967296 → word_at b (record_at b q + 4) ≡ last_step p
    unfolding word_at half_at
    step_there l = holds_word b (record_at b q) (path_record k p) h 4 (record_at b q + 4) refl (omega arith) ∙ head_word (last_step p) [] l

    pub length_there : length (text p) < 4294967296 → length_at b q ≡ length (text p)
    unfolding length_at word_at half_at
    length_there l = holds_word b (record_at b q) (path_record k p) h 8 (record_at b q + 8) refl (omega arith) ∙ head_word (length (text p)) [] l

  pub root_in : (turns : ℕ) → path_in b turns 0 ≡ root
  unfolding path_in
  root_in zero = refl
  root_in (suc turns) = refl

  pub child_in : (k q : ℕ) (p : Path) (s : Step) → k < q → parent_at b q ≡ k → step_at b q ≡ s → ((turns : ℕ) → k ≤ turns → path_in b turns k ≡ p)
      → (turns : ℕ) → q ≤ turns → path_in b turns q ≡ p ▸ s
  unfolding path_in
  child_in k q p s l e f h zero m = absurd (omega arith)
  child_in k q p s l e f h (suc turns) m = rw (ne_eqb q 0 (λ z. omega arith), e, f, h turns (omega arith))

  pub named_root : Holds b (record_at b 0) (path_record 0 root) → Named 0 root
  unfolding record_ok parent_at
  named_root h =
      record {
        path = λ turns m. root_in turns;
        text_length = length_there 0 0 root h (omega arith);
        ok = rw (parent_there 0 0 root h (omega arith), step_there 0 0 root h (omega arith), length_there 0 0 root h (omega arith));
      }

  pub named_child : (k q : ℕ) (p : Path) (s : Step) → Named k p → k < q → q < 4294967296 → step_number s < 4294967296
      → length (text (p ▸ s)) < 4294967296 → Holds b (record_at b q) (path_record k (p ▸ s)) → Named q (p ▸ s)
  unfolding record_ok step_at
  named_child k q p s N l m ls lt h =
      let parent : parent_at b q ≡ k = parent_there q k (p ▸ s) h (omega arith) in
      let step : step_at b q ≡ s = ap step_of (step_there q k (p ▸ s) h ls) ∙ step_back s in
      let long = length_there q k (p ▸ s) h lt in
      record {
        path = child_in k q p s l parent step N.path;
        text_length = long;
        ok = rw (ne_eqb q 0 (λ z. omega arith), parent, step, long, N.text_length, lt-ltb k q l, length-append (text p) (step_text s)) (eq-eqb (length (text p) + length (step_text s)) _ refl);
      }

  -- ---- all records

  pub records_append : (m n q : ℕ) → records_ok b m q ≡ true → (r : ℕ) → r ≡ q + m → records_ok b n r ≡ true → records_ok b (m + n) q ≡ true
  records_append zero n q h r e l = rw (zero-add n, let f : q ≡ r = omega arith in f) l
  records_append (suc m) n q h r e l =
      rw (suc-add m n) (and_true _ _ (and_l (record_ok b q) _ h) (records_append m n (suc q) (and_r (record_ok b q) _ h) r (omega arith) l))

  -- every node of the term at p has its path under its own number, the term's being k, and its children's the next
  abbrev mutual
    pub Placed : Term → Path → ℕ → Type 0
    Placed (literal v) p k = Named k p
    Placed (truth v) p k = Named k p
    Placed (symbol i) p k = Named k p
    Placed (apply o ts) p k = Named k p × PlacedAll ts p 0 (suc k)
    Placed (branch c y z) p k =
        Named k p × Placed c (p ▸ condition) (suc k) × Placed y (p ▸ then_arm) (suc k + path_count c)
        × Placed z (p ▸ else_arm) (suc k + path_count c + path_count y)
    Placed miscounted p k = Named k p

    pub PlacedAll : Terms → Path → ℕ → ℕ → Type 0
    PlacedAll end p i q = Unit {0}
    PlacedAll (t and ts) p i q = Placed t (p ▸ argument i) q × PlacedAll ts p (suc i) (q + path_count t)

  module _ (few : path_total b < 4294967296) where
    mutual
      unfolding below record_at

      pub placed : (t : Term) (p : Path) (k : ℕ) → Named k p → Holds b (record_at b (suc k)) (below t p k (suc k)) → k + path_count t ≤ path_total b → Narrow t
          → length (text p) + 17 * longest_path t ≤ 8192 → Placed t p k × (records_ok b (path_count t) k ≡ true)
      placed (literal v) p k N h l w s = (N, and_true _ _ N.ok refl)
      placed (truth v) p k N h l w s = (N, and_true _ _ N.ok refl)
      placed (symbol i) p k N h l w s = (N, and_true _ _ N.ok refl)
      placed (apply o ts) p k N h l w s =
          let A = placed_all ts p 0 k (suc k) N (omega arith) h (omega arith) (omega (arith, w.0)) w.1 s in
          ((N, A.0), and_true _ _ N.ok A.1)
      placed (branch c y z) p k N h l w s =
          let q = suc k in
          let q₁ = q + path_count c in
          let q₂ = q₁ + path_count y in
          let p₀ = p ▸ condition in
          let p₁ = p ▸ then_arm in
          let p₂ = p ▸ else_arm in
          let l₀ = length_below c p₀ q (suc q) in
          let l₁ = length_below y p₁ q₁ (suc q₁) in
          let l₂ = length_below z p₂ q₂ (suc q₂) in
          let s₀ = condition_short p in
          let s₁ = then_short p in
          let s₂ = else_short p in
          let H =
          holds_six b (record_at b q) (path_record k p₀) (below c p₀ q (suc q)) (path_record k p₁) (below y p₁ q₁ (suc q₁)) (path_record k p₂) (below z p₂ q₂ (suc q₂))
          (record_at b (suc q)) (record_at b q₁) (record_at b (suc q₁)) (record_at b q₂) (record_at b (suc q₂)) (omega arith) (omega arith) (omega arith) (omega arith)
          (omega arith) h in
          let N₀ = named_child k q p condition N (omega arith) (omega arith) (omega arith) (omega arith) H.0 in
          let N₁ = named_child k q₁ p then_arm N (omega arith) (omega arith) (omega arith) (omega arith) H.2 in
          let N₂ = named_child k q₂ p else_arm N (omega arith) (omega arith) (omega arith) (omega arith) H.4 in
          let A = placed c p₀ q N₀ H.1 (omega arith) w.0 (omega arith) in
          let B = placed y p₁ q₁ N₁ H.3 (omega arith) w.1 (omega arith) in
          let D = placed z p₂ q₂ N₂ H.5 (omega arith) w.2 (omega arith) in (
            (N, A.0, B.0, D.0),
            and_true _ _ N.ok (records_append (path_count c + path_count y) (path_count z) q (records_append (path_count c) (path_count y) q A.1 q₁ refl B.1) q₂ (omega arith) D.1),
          )
      placed miscounted p k N h l w s = (N, and_true _ _ N.ok refl)

      placed_all : (ts : Terms) (p : Path) (i k q : ℕ) → Named k p → k < q → Holds b (record_at b q) (below_all ts p i k q) → q + path_counts ts ≤ path_total b
          → i + term_count ts ≤ 65536 → Narrows ts → length (text p) + 17 * longest_paths ts ≤ 8192 → PlacedAll ts p i q × (records_ok b (path_counts ts) q ≡ true)
      placed_all end p i k q N m h l a w s = (tt, refl)
      placed_all (t and ts) p i k q N m h l a w s =
          let q₁ = q + path_count t in
          let pᵢ = p ▸ argument i in
          let lᵢ = length_below t pᵢ q (suc q) in
          let sᵢ = argument_short p i (omega arith) in
          let R = path_record k pᵢ in
          let B = below t pᵢ q (suc q) in
          let h₁ = holds_left b (record_at b q) (R ++ B) _ h in
          let N' = named_child k q p (argument i) N m (omega arith) (omega arith) (omega arith) (holds_left b (record_at b q) R B h₁) in
          let A = placed t pᵢ q N' (holds_right b (record_at b q) R B (record_at b (suc q)) (omega arith) h₁) (omega arith) w.0 (omega arith) in
          let D =
          placed_all ts p (suc i) k q₁ N (omega arith) (holds_right b (record_at b q) (R ++ B) _ (record_at b q₁) (omega (arith, length-append R B)) h) (omega arith) (omega arith) w.1
          (omega arith) in
          ((A.0, D.0), records_append (path_count t) (path_counts ts) q A.1 q₁ refl D.1)
