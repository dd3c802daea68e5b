-- An input handed on in blocks, and the whole output.
use mathlib.Core.Path.{◌≡◌, refl, sym, ap, ◌∙◌, subst}
use mathlib.Core.Option as Math
use mathlib.Core.List.{List, [], ◌++◌, append_assoc}
use Prim.Native.Nat.{ℕ, ◌+◌, ◌-◌, ◌≤◌}
use native.Mathlib.Omega.{arith}
use lib.ListN.{length, take, drop, length-append, take-append-drop}
use borrow.Rule.Slice.PartMut.{mid_of}
use Rattle.listing.specs.Legs.{legs}
use Rattle.writer.proofs.Over.{over_nil}
use Rattle.lines.specs.declared.Advanced.{Advanced}
use Rattle.lines.specs.declared.Stage.{Stage}
use Rattle.lines.specs.Owed.{Begins, BytesOf, Ends, Memory, Roomy}
use Rattle.lines.specs.Calls.{Advancing}
use Rattle.lines.proofs.Compose.{whole_output}
use Rattle.lines.proofs.Feeding.{Feeding, SameLengths, feeding_advances, feeding_end, feeding_start, feeding_step}
use Rattle.lines.proofs.Texts.{wrote_then}
use Rattle.std.specs.Prelude.{Option, Some, None}
use Rattle.legs_cases.specs.declared.Fed.{Fed}
use Rattle.legs_cases.specs.Listed.{Copies, FeedsAll, Fits, Lists}

-- ---- the loop over the blocks: what came of the bytes before a place stands in the whole

pub record Gathering (formula input : List ℕ) (m : Memory) (s : Stage) (out all : List ℕ) (from at : ℕ) (m' : Memory) (s' : Stage) (out' all' : List ℕ) (len : ℕ) : Type 0 where
  pub whole : length all' ≡ length all
  pub text : List ℕ
  pub fed : Feeding formula input m s out at m' s' out' text
  pub fits : Fits all from text all' len

pub gathering_start : (formula input : List ℕ) (m : Memory) (s : Stage) (out all : List ℕ) (from : ℕ) → from ≤ length all → Gathering formula input m s out all from 0 m s out all from
gathering_start formula input m s out all from h =
    record {
      whole = refl;
      text = [];
      fed = feeding_start formula input m s out;
      fits = record { wrote = record { ends = omega arith; stands = sym (over_nil all from) }; room = h };
    }

module _ (formula input : List ℕ) (m : Memory) (s : Stage) (out all : List ℕ) (from at : ℕ) (m' : Memory) (s' : Stage) (out' all' : List ℕ) (len : ℕ)
    (g : Gathering formula input m s out all from at m' s' out' all' len) where
  module _ (end : ℕ) (h : end ≤ length input) (r : Advanced) (m'' : Memory) (out'' all'' : List ℕ) (a : Advancing formula (mid_of at (end - at) input) m' s' out' r m'' out'')
      (same : SameLengths m' out' m'' out'') where
    pub gathering_step : at ≤ end → length all'' ≡ length all' → (n : ℕ) → Copies all' len (take r.length out'') (Some n) all''
        → Gathering formula input m s out all from (at + r.used) m'' r.stage out'' all'' n
    gathering_step k l n z =
        let x = take r.length out'' in
        let w = g.whole in
        record {
          whole = l ∙ w;
          text = g.text ++ x;
          fed = feeding_step formula input m s out at m' s' out' g.text g.fed end h r m'' out'' a k same;
          fits = record {
            wrote = wrote_then all from g.text all' len x all'' n g.fits.room g.fits.wrote z.wrote;
            room = let q = z.room in omega arith;
          };
        }

    -- what is owed does not fit
    pub gathering_full : Copies all' len (take r.length out'') None all'' → FeedsAll formula m s input m'' all from None all''
    gathering_full z f o =
        let x = take r.length out'' in
        let t = g.text in
        let b = feeding_advances formula input m s out at m' s' out' t g.fed end h r m'' out'' a f o in
        let more = b.0 (drop (at + r.used) input) in
        let w : f input ≡ t ++ (x ++ more) = ap f (sym (take-append-drop (at + r.used) input)) ∙ b.2 (drop (at + r.used) input) ∙ append_assoc t x more in
        record {
          longer = let e = g.fits.wrote.ends in let y = z.1 in let v = g.whole in omega (arith, ap length w, length-append t (x ++ more), length-append x more);
          first = t;
          rest = x ++ more;
          parts = w;
          wrote = record { ends = refl; stands = z.0 ∙ g.fits.wrote.stands };
        }

  pub gathering_end : length input ≤ at → FeedsAll formula m s input m' all from (Some (record { stage = s'; length = len })) all'
  gathering_end h = (g.text, feeding_end formula input m s out at m' s' out' g.text g.fed h, g.fits)

-- ---- the whole

module _ (file : Math.Option (List ℕ)) (formula input : List ℕ) (m : Memory) (s : Stage) (all o₁ : List ℕ) (k₁ : ℕ) (a₁ : List ℕ) (bytes : BytesOf file formula) (roomy : Roomy m)
    (b : Begins file s (take k₁ o₁)) where
  -- the header does not fit
  pub listed_none : Copies all 0 (take k₁ o₁) None a₁ → Lists file input all None a₁
  listed_none z =
      let x = take k₁ o₁ in
      let y = b formula bytes m roomy in
      let more = y.0 input in
      record {
        longer = let v = z.1 in omega (arith, ap length (y.2 input), length-append x more);
        first = [];
        rest = legs file input;
        parts = refl;
        wrote = record { ends = refl; stands = z.0 ∙ sym (over_nil all 0) };
      }

  module _ (n₁ : ℕ) (c : Copies all 0 (take k₁ o₁) (Some n₁) a₁) (l₁ : length a₁ ≡ length all) where
    -- what came of the input does not fit
    pub listed_some : (m' : Memory) (a₂ : List ℕ) → FeedsAll formula m s input m' a₁ n₁ None a₂ → Lists file input all None a₂
    listed_some m' a₂ f =
        let x = take k₁ o₁ in
        let y = b formula bytes m roomy in
        let t = f y.0 y.1 in
        let e = c.wrote.ends in
        let w : legs file input ≡ (x ++ t.first) ++ t.rest = y.2 input ∙ ap (λ (xs : List ℕ). x ++ xs) t.parts ∙ sym (append_assoc x t.first t.rest) in
        record {
          longer = let v = t.longer in omega (arith, ap length (y.2 input), length-append x (y.0 input));
          first = x ++ t.first;
          rest = t.rest;
          parts = w;
          wrote = record { ends = refl; stands = (wrote_then all 0 x a₁ n₁ t.first a₂ (n₁ + length t.first) c.room c.wrote t.wrote).stands };
        }

    -- what `finish` wrote comes last
    module _ (m' : Memory) (fd : Fed) (a₂ : List ℕ) (f : FeedsAll formula m s input m' a₁ n₁ (Some fd) a₂) (l₂ : length a₂ ≡ length a₁) (o₃ : List ℕ) (k₃ : ℕ)
        (e : Ends formula m' fd.stage (take k₃ o₃)) where
      so_far : Fits all 0 (take k₁ o₁ ++ f.0) a₂ fd.length
      so_far =
          record {
            wrote = wrote_then all 0 (take k₁ o₁) a₁ n₁ f.0 a₂ fd.length c.room c.wrote f.2.wrote;
            room = let v = f.2.room in omega arith;
          }

      whole : legs file input ≡ (take k₁ o₁ ++ f.0) ++ take k₃ o₃
      whole =
          whole_output file formula m m' s fd.stage input (take k₁ o₁) f.0 (take k₃ o₃) bytes roomy b f.1 e
          ∙ sym (append_assoc (take k₁ o₁) f.0 (take k₃ o₃))

      pub listed_by : (r : Option ℕ) (a₃ : List ℕ) → Copies a₂ fd.length (take k₃ o₃) r a₃ → Lists file input all r a₃
      listed_by (Some n₃) a₃ d =
          subst (λ (xs : List ℕ). Fits all 0 xs a₃ n₃) (sym whole)
          (record {
            wrote = wrote_then all 0 (take k₁ o₁ ++ f.0) a₂ fd.length (take k₃ o₃) a₃ n₃ so_far.room so_far.wrote d.wrote;
            room = let v = d.room in omega arith;
          })
      listed_by None a₃ d =
          let q = so_far.wrote.ends in
          let v = d.1 in
          record {
            longer = omega (arith, ap length whole, length-append (take k₁ o₁ ++ f.0) (take k₃ o₃));
            first = take k₁ o₁ ++ f.0;
            rest = take k₃ o₃;
            parts = whole;
            wrote = record { ends = refl; stands = d.0 ∙ so_far.wrote.stands };
          }
