-- A state that is written to cells is read from them again.
use mathlib.Core.Path.{◌≡◌, refl, sym, ap, ◌∙◌, subst}
use mathlib.Core.Bool.{true}
use mathlib.Core.List.{List, [], ◌∷◌, ◌++◌, append_assoc}
use mathlib.Core.Option.{Option, none, some}
use Prim.Native.Nat.{ℕ, zero, suc, ◌+◌, ◌-◌, ◌<◌, ◌≤◌}
use native.Mathlib.Numerals.{add-one}
use native.Mathlib.Omega.{arith}
use lib.ListN.{length, get_or, take, drop}
use lib.Seq.{drop_at, get_or-append-add}
use lib.Dec.{T}
use lib.Ieee.{Float, binary64, fits}
use lib.Ieee.Bits.{of_bits-to_bits}
use borrow.Author.Tests.{lt-ltb, ne_eqb}
use Rattle.meaning.specs.Work.{Question, elementary, power}
use Rattle.machine.specs.Machine.{Reply, State}
use Rattle.vebrostin.specs.Cells.{ArgumentsBack, Askable, ComesBack, Held, padded, question_cells, question_in, state_cells, state_in, value_cell}
use Rattle.vebrostin.specs.Calls.{written}
use Rattle.vebrostin.proofs.Written.{padded_length}

-- every f64 is read again from its bits
pub comes_back : (x : Float) → fits binary64 x ≡ true → ComesBack x
comes_back x e = of_bits-to_bits binary64 x (subst T (sym e) tt)

pub held_take : (n : ℕ) (xs : List Float) → Held xs → Held (take n xs)
held_take zero xs h = tt
held_take (suc n) [] h = tt
held_take (suc n) (x ∷ xs) h = (h.0, held_take n xs h.1)

-- one value more
pub held_more : (xs : List Float) (i : ℕ) (d : Float) → i < length xs → Held (take i xs) → ComesBack (get_or xs i d) → Held (take (i + 1) xs)
held_more [] i d l h e = absurd (omega arith)
held_more (x ∷ xs) zero d l h e = (e, tt)
held_more (x ∷ xs) (suc i) d l h e = rw add-one (h.0, let r = held_more xs i d (omega arith) h.1 e in rw add-one at r)

-- ---- the parts

module _ (at : ℕ) (q : List ℕ) where
  abbrev read : List Float → State
  read ks = record { position = at; kept = ks; pending = question_in (get_or q 0 0) (get_or q 1 0) (get_or q 2 0) }

  abbrev row : List Float → List ℕ
  row ks = at ∷ length ks ∷ padded 9 ks ++ q

  kept_back : (ks : List Float) → length ks ≤ 9 → Held ks → state_in (row ks) ≡ read ks
  kept_back [] l h = refl
  kept_back (a ∷ []) l h = rw h.0
  kept_back (a ∷ b ∷ []) l h = rw (h.0, h.1.0)
  kept_back (a ∷ b ∷ c ∷ []) l h =
      rw (h.0, h.1.0, h.1.1.0)
  kept_back (a ∷ b ∷ c ∷ d ∷ []) l h =
      rw (h.0, h.1.0, h.1.1.0, h.1.1.1.0)
  kept_back (a ∷ b ∷ c ∷ d ∷ e ∷ []) l h =
      rw (h.0, h.1.0, h.1.1.0, h.1.1.1.0, h.1.1.1.1.0)
  kept_back (a ∷ b ∷ c ∷ d ∷ e ∷ f ∷ []) l h =
      rw (h.0, h.1.0, h.1.1.0, h.1.1.1.0, h.1.1.1.1.0, h.1.1.1.1.1.0)
  kept_back (a ∷ b ∷ c ∷ d ∷ e ∷ f ∷ g ∷ []) l h =
      rw (h.0, h.1.0, h.1.1.0, h.1.1.1.0, h.1.1.1.1.0, h.1.1.1.1.1.0, h.1.1.1.1.1.1.0)
  kept_back (a ∷ b ∷ c ∷ d ∷ e ∷ f ∷ g ∷ i ∷ []) l h =
      rw (h.0, h.1.0, h.1.1.0, h.1.1.1.0, h.1.1.1.1.0, h.1.1.1.1.1.0, h.1.1.1.1.1.1.0, h.1.1.1.1.1.1.1.0)
  kept_back (a ∷ b ∷ c ∷ d ∷ e ∷ f ∷ g ∷ i ∷ j ∷ []) l h =
      rw (h.0, h.1.0, h.1.1.0, h.1.1.1.0, h.1.1.1.1.0, h.1.1.1.1.1.0, h.1.1.1.1.1.1.0, h.1.1.1.1.1.1.1.0, h.1.1.1.1.1.1.1.1.0)
  kept_back (a ∷ b ∷ c ∷ d ∷ e ∷ f ∷ g ∷ i ∷ j ∷ k ∷ ks) l h = absurd (omega arith)

pub question_back : (o : Option Question) → Askable o → ArgumentsBack o → (rest : List ℕ)
    → (let c = question_cells o ++ rest in question_in (get_or c 0 0) (get_or c 1 0) (get_or c 2 0) ≡ o)
question_back none a h rest = refl
question_back (some (elementary f x)) a h rest =
    let z : (1 + f) - 1 ≡ f = omega arith in
    rw (ne_eqb (1 + f) 0 (λ e. omega arith), ne_eqb (1 + f) 17 (λ e. a.1 (omega arith)), lt-ltb (1 + f) 256 (omega (arith, a.0)), z, h)
question_back (some (power x y)) a h rest = rw (h.0, h.1)

-- ---- the whole

-- the cells of a state, and what follows them
pub state_back : (s : State) → length s.kept ≤ 9 → Held s.kept → Askable s.pending → ArgumentsBack s.pending → (rest : List ℕ)
    → state_in (state_cells s ++ rest) ≡ s
state_back s few held a h rest =
    let q = question_cells s.pending ++ rest in
    ap (λ (x : List ℕ). state_in (s.position ∷ length s.kept ∷ x)) (append_assoc (padded 9 s.kept) (question_cells s.pending) rest)
    ∙ kept_back s.position q s.kept few held
    ∙ ap (λ (o : Option Question). record { position = s.position; kept = s.kept; pending = o }) (question_back s.pending a h rest)

-- ---- what a host reads from the cells of a reply

fourth : (o : Option Question) (a b : ℕ) (rest : List ℕ) → (let l = question_cells o ++ (a ∷ b ∷ rest) in
    (get_or l 3 0 ≡ a) × (get_or l 4 0 ≡ b) × (take 3 l ≡ question_cells o))
fourth none a b rest = (refl, refl, refl)
fourth (some (elementary f x)) a b rest = (refl, refl, refl)
fourth (some (power x y)) a b rest = (refl, refl, refl)

module _ (r : Reply) (cells : List ℕ) where
  abbrev state_row : List ℕ
  state_row = r.state.position ∷ length r.state.kept ∷ padded 9 r.state.kept

  abbrev outcome_row : List ℕ
  outcome_row = question_cells r.state.pending ++ (r.count ∷ value_cell r.answer ∷ drop 16 cells)

  rows : written r cells ≡ state_row ++ outcome_row
  rows = simp append_assoc

  eleven : length state_row ≡ 11
  eleven = ap (λ (k : ℕ). suc (suc k)) (padded_length 9 r.state.kept)

  at_outcome : (i : ℕ) → get_or (written r cells) (11 + i) 0 ≡ get_or outcome_row i 0
  at_outcome i =
      ap (λ (l : List ℕ). get_or l (11 + i) 0) rows
      ∙ subst (λ (k : ℕ). get_or (state_row ++ outcome_row) (k + i) 0 ≡ get_or outcome_row i 0) eleven (get_or-append-add state_row outcome_row i 0)

  pub written_count : get_or (written r cells) 14 0 ≡ r.count
  written_count = at_outcome 3 ∙ (fourth r.state.pending r.count (value_cell r.answer) (drop 16 cells)).0

  pub written_value : get_or (written r cells) 15 0 ≡ value_cell r.answer
  written_value = at_outcome 4 ∙ (fourth r.state.pending r.count (value_cell r.answer) (drop 16 cells)).1

  pub written_question : take 3 (drop 11 (written r cells)) ≡ question_cells r.state.pending
  written_question =
      ap (λ (l : List ℕ). take 3 (drop 11 l)) rows
      ∙ ap (take 3) (drop_at state_row outcome_row 11 eleven)
      ∙ (fourth r.state.pending r.count (value_cell r.answer) (drop 16 cells)).2
