-- An input handed on part by part: the loop of a caller of `advance`. Each turn uses a byte at least, so the loop ends.
use Rattle.std.proofs.Common.{◌≡◌, ℕ, ◌+◌, ◌-◌, ◌<◌, ◌≤◌, List, [], ◌++◌, length, take, drop, sym, refl, ◌∙◌, subst, arith, length-drop, length-take-le, take_all, take-take, take-add}
use borrow.Rule.Slice.PartMut.{mid_of}
use Rattle.lines.specs.declared.Advanced.{Advanced}
use Rattle.lines.specs.declared.Stage.{Stage}
use Rattle.lines.specs.Owed.{Advances, Memory}
use Rattle.lines.specs.declared.Memory as Lent
use Rattle.lines.specs.Calls.{Advancing, Feedable, SameSlices, held}
use Rattle.lines.proofs.Compose.{advances_none, advances_then, stands_after}

-- ---- slices keep their lengths

pub record SameLengths (m : Memory) (out : List ℕ) (m' : Memory) (out' : List ℕ) : Type 0 where
  pub names : length m'.names ≡ length m.names
  pub path : length m'.path ≡ length m.path
  pub program : length m'.program ≡ length m.program
  pub values : length m'.values ≡ length m.values
  pub regs : length m'.regs ≡ length m.regs
  pub output : length out' ≡ length out

pub same_start : (m : Memory) (out : List ℕ) → SameLengths m out m out
same_start m out = record { names = refl; path = refl; program = refl; values = refl; regs = refl; output = refl }

pub same_then : (m : Memory) (out : List ℕ) (m' : Memory) (out' : List ℕ) (m'' : Memory) (out'' : List ℕ) → SameLengths m out m' out' → SameLengths m' out' m'' out'' → SameLengths m out m'' out''
same_then m out m' out' m'' out'' a b =
    record {
      names = b.names ∙ a.names;
      path = b.path ∙ a.path;
      program = b.program ∙ a.program;
      values = b.values ∙ a.values;
      regs = b.regs ∙ a.regs;
      output = b.output ∙ a.output;
    }

-- the slices of the code's memory
pub slices_start : (m : Lent.Memory) → SameSlices m m
slices_start m = record { path = (refl, refl); program = (refl, refl); values = (refl, refl); regs = (refl, refl); out = (refl, refl) }

pub slices_then : (m m' m'' : Lent.Memory) → SameSlices m m' → SameSlices m' m'' → SameSlices m m''
slices_then m m' m'' a b =
    record {
      path = (b.path.0 ∙ a.path.0, b.path.1 ∙ a.path.1);
      program = (b.program.0 ∙ a.program.0, b.program.1 ∙ a.program.1);
      values = (b.values.0 ∙ a.values.0, b.values.1 ∙ a.values.1);
      regs = (b.regs.0 ∙ a.regs.0, b.regs.1 ∙ a.regs.1);
      out = (b.out.0 ∙ a.out.0, b.out.1 ∙ a.out.1);
    }

pub same_lengths : (names names' : List ℕ) (m m' : Lent.Memory) → length names' ≡ length names → SameSlices m m' → SameLengths (held names m) m.out.now (held names' m') m'.out.now
same_lengths names names' m m' l a = record { names = l; path = a.path.1; program = a.program.1; values = a.values.1; regs = a.regs.1; output = a.out.1 }

pub part_long : (at end : ℕ) (xs : List ℕ) → end ≤ length xs → length (mid_of at (end - at) xs) ≡ end - at
part_long at end xs h = length-take-le (end - at) (drop at xs) (omega (arith, length-drop at xs))

-- ---- the loop's invariant: the bytes before a place are used, and `text` came of them

pub record Feeding (formula input : List ℕ) (m : Memory) (s : Stage) (out : List ℕ) (at : ℕ) (m' : Memory) (s' : Stage) (out' text : List ℕ) : Type 0 where
  pub inside : at ≤ length input
  pub same : SameLengths m out m' out'
  pub advances : Advances formula m s (take at input) m' s' text

pub feeding_start : (formula input : List ℕ) (m : Memory) (s : Stage) (out : List ℕ) → Feeding formula input m s out 0 m s out []
feeding_start formula input m s out = record { inside = omega arith; same = same_start m out; advances = advances_none formula m s }

module _ (formula input : List ℕ) (m : Memory) (s : Stage) (out : List ℕ) (at : ℕ) (m' : Memory) (s' : Stage) (out' text : List ℕ)
    (g : Feeding formula input m s out at m' s' out' text) where
  -- a call for the bytes from there to an end
  module _ (end : ℕ) (h : end ≤ length input) (r : Advanced) (m'' : Memory) (out'' : List ℕ) (a : Advancing formula (mid_of at (end - at) input) m' s' out' r m'' out'') where
    pub feeding_used : Feedable formula m s out → at < end → 1 ≤ r.used
    feeding_used f l =
        a.goes_on (stands_after formula m m' s s' (take at input) text f.stands g.advances) (let o = g.same.output in let p = f.room in omega arith)
        (omega (arith, part_long at end input h))

    pub feeding_advances : Advances formula m s (take (at + r.used) input) m'' r.stage (text ++ take r.length out'')
    feeding_advances =
        let x = take r.length out'' in
        let u = a.inside in
        subst (λ (xs : List ℕ). Advances formula m s xs m'' r.stage (text ++ x)) (sym (take-add at r.used input))
        (advances_then formula m m' m'' s s' r.stage (take at input) (take r.used (drop at input)) text x g.advances
        (subst (λ (xs : List ℕ). Advances formula m' s' xs m'' r.stage x) (take-take r.used (end - at) (drop at input) (omega (arith, part_long at end input h))) a.advances))

    pub feeding_step : at ≤ end → SameLengths m' out' m'' out'' → Feeding formula input m s out (at + r.used) m'' r.stage out'' (text ++ take r.length out'')
    feeding_step k l =
        record {
          inside = let u = a.inside in omega (arith, part_long at end input h);
          same = same_then m out m' out' m'' out'' g.same l;
          advances = feeding_advances;
        }

  -- all of the input was used
  pub feeding_end : length input ≤ at → Advances formula m s input m' s' text
  feeding_end h = subst (λ (xs : List ℕ). Advances formula m s xs m' s' text) (take_all at input h) g.advances
