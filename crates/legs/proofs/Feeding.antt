-- All blocks of standard input, one after another.
use mathlib.Core.Path.{◌≡◌, refl, ◌∙◌}
use mathlib.Core.List.{List, [], ◌++◌}
use Prim.Native.Nat.{ℕ, ◌-◌, ◌≤◌}
use native.Mathlib.Omega.{arith}
use lib.ListN.{length, take}
use borrow.Rule.Slice.PartMut.{mid_of}
use Rattle.lines.specs.declared.Stage.{Stage}
use Rattle.lines.specs.Owed.{Memory}
use Rattle.lines.specs.Calls.{Feedable}
use Rattle.lines.proofs.Compose.{advances_none, advances_then, stands_after}
use Rattle.lines.proofs.Feeding.{Feeding, SameLengths, feeding_end, part_long, same_start, same_then}
use Rattle.std.specs.Prelude.{Ok}
use Rattle.legs.specs.Fed.{FeedableAll, Feeds, FeedsAll}

pub mid_long : (at : ℕ) (xs : List ℕ) → length (mid_of at (length xs - at) xs) ≡ length xs - at
mid_long at xs = part_long at (length xs) xs (omega arith)

-- a whole block was used
pub feeds : (formula input : List ℕ) (m : Memory) (s : Stage) (out : List ℕ) (at : ℕ) (m' : Memory) (s' : Stage) (out' text : List ℕ) → Feeding formula input m s out at m' s' out' text
    → length input ≤ at → Feeds formula m s input m' (Ok s')
feeds formula input m s out at m' s' out' text g h =
    (text, feeding_end formula input m s out at m' s' out' text g h)

-- the loop's invariant
pub record FeedingAll (formula block : List ℕ) (m : Memory) (s : Stage) (out : List ℕ) (block' : List ℕ) (m' : Memory) (s' : Stage) (out' : List ℕ) : Type 0 where
  pub same_block : length block' ≡ length block
  pub same : SameLengths m out m' out'
  pub fed : FeedsAll formula m s m' (Ok s')

module _ (formula block : List ℕ) (m : Memory) (s : Stage) (out : List ℕ) (f : FeedableAll formula block m s out) where
  pub all_start : FeedingAll formula block m s out block m s out
  all_start = record { same_block = refl; same = same_start m out; fed = ([], [], advances_none formula m s) }

  module _ (block' : List ℕ) (m' : Memory) (s' : Stage) (out' : List ℕ) (g : FeedingAll formula block m s out block' m' s' out') where
    pub all_feedable : Feedable formula m' s' out'
    all_feedable =
        let x = g.fed in
        record {
          stands = stands_after formula m m' s s' x.0 x.1 f.stands x.2;
          room = let o = g.same.output in let p = f.room in omega arith;
        }

    pub all_step : (read : List ℕ) (n : ℕ) (m'' : Memory) (s'' : Stage) (out'' : List ℕ) → length read ≡ length block' → SameLengths m' out' m'' out'' → Feeds formula m' s' (take n read) m'' (Ok s'')
        → FeedingAll formula block m s out read m'' s'' out''
    all_step read n m'' s'' out'' l e y =
        let x = g.fed in
        record {
          same_block = l ∙ g.same_block;
          same = same_then m out m' out' m'' out'' g.same e;
          fed = (x.0 ++ take n read, x.1 ++ y.0, advances_then formula m m' m'' s s' s'' x.0 (take n read) x.1 y.0 x.2 y.1);
        }
