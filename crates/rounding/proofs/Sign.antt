-- The sign goes through rounding, and Ceil is Floor of the negated value, negated.
use mathlib.Core.Path.{◌≡◌, refl, sym, ap, ◌∙◌}
use mathlib.Core.Bool.{Bool, true, false, not, cond}
use Prim.Native.Nat.{ℕ, zero, suc, ◌*◌, ◌^◌}
use lib.Dec.{leb}
use lib.Ieee.{Float, nan, inf, fin, Format, up, down, odd, round, neg}
use Rattle.arithmetic.specs.Width.{Width, width, digits, least, past, of_units}
use Rattle.arithmetic.specs.Round.{floor_div, ceil_div, floor_by, ceil_by, floor, ceil}
use Rattle.rounding.specs.Rounding.{round_at}
use Rattle.rounding.proofs.Rounded.{round_is_at}

neg_odd : (d : ℕ) (s : Bool) (q k l : ℕ) → neg (odd d s q k l) ≡ odd d (not s) q k l
unfolding odd neg
neg_odd d s zero k l = refl
neg_odd d s (suc q) k l = refl

neg_units : (W : Width) (s : Bool) (q k : ℕ) → neg (of_units W s q k) ≡ of_units W (not s) q k
unfolding of_units neg
neg_units W s q k = go (leb (past W) (q * 2 ^ k))
  where
    go : (b : Bool) → neg (cond b (inf s) (odd (suc (digits W)) s q k (least W))) ≡ cond b (inf (not s)) (odd (suc (digits W)) (not s) q k (least W))
    go true = refl
    go false = neg_odd (suc (digits W)) s q k (least W)

pub neg_round_at : (W : Width) (s : Bool) (a c : ℕ) → neg (round_at W s a c) ≡ round_at W (not s) a c
unfolding round_at
neg_round_at W s a c = neg_units W s _ _

neg_round : (F : Format) (s : Bool) (a c : ℕ) → neg (round F s a c) ≡ round F (not s) a c
neg_round F s a c = ap neg (round_is_at F s a c) ∙ neg_round_at (width F) s a c ∙ sym (round_is_at F (not s) a c)

pub neg_neg : (x : Float) → neg (neg x) ≡ x
unfolding neg
neg_neg nan = refl
neg_neg (inf true) = refl
neg_neg (inf false) = refl
neg_neg (fin true m e) = refl
neg_neg (fin false m e) = refl

-- for a rounding that the sign goes through
module _ (rounded : Bool → ℕ → ℕ → Float) (through : (s : Bool) (a c : ℕ) → neg (rounded s a c) ≡ rounded (not s) a c) where
  pub floor_neg_by : (x : Float) → neg (ceil_by rounded (neg x)) ≡ floor_by rounded x
  unfolding neg
  floor_neg_by nan = refl
  floor_neg_by (inf true) = refl
  floor_neg_by (inf false) = refl
  floor_neg_by (fin true m e) = through false (ceil_div (m * up e) (down e)) 1
  floor_neg_by (fin false m e) = through true (floor_div (m * up e) (down e)) 1

  pub ceil_neg_by : (x : Float) → neg (floor_by rounded (neg x)) ≡ ceil_by rounded x
  unfolding neg
  ceil_neg_by nan = refl
  ceil_neg_by (inf true) = refl
  ceil_neg_by (inf false) = refl
  ceil_neg_by (fin true m e) = through false (floor_div (m * up e) (down e)) 1
  ceil_neg_by (fin false m e) = through true (ceil_div (m * up e) (down e)) 1

pub floor_neg : (F : Format) (x : Float) → neg (ceil F (neg x)) ≡ floor F x
unfolding floor ceil
floor_neg F x = floor_neg_by (round F) (neg_round F) x

pub ceil_neg : (F : Format) (x : Float) → neg (floor F (neg x)) ≡ ceil F x
unfolding floor ceil
ceil_neg F x = ceil_neg_by (round F) (neg_round F) x
