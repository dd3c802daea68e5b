-- What the promises of this crate's functions say of f64 values. r is what a function gives, by its contract; every f64 fits binary64.
-- The operators +, -, * and / of the code are `add`, `sub`, `mul` and `div` of binary64: `f64_conforms` has them, beside these.
use Rattle.std.proofs.Common.{◌≡◌, ℕ, Bool, true, false, not, T, List, [], ◌∷◌, pos, sym, ◌∙◌, subst}
use mathlib.Core.List.Memᴰ
use lib.Ieee.{Float, nan, inf, fin, binary64, lt, fits, is_nan}
use lib.Ieee.Positive.{num, den, positive}
use Rattle.arithmetic.specs.Width.{Width, width}
use Rattle.arithmetic.specs.Value.{finite, 0f}
use Rattle.arithmetic.specs.Round.{floor, ceil}
use Rattle.arithmetic.specs.Root.{sqrt}
use Rattle.arithmetic.specs.Modulo.{modulo}
use Rattle.arithmetic.specs.Extremum.{held, hold, below, above, extremum}
use Rattle.rounding.specs.Rounding.{Counts}
use Rattle.rounding.specs.Exact.{sign}
use Rattle.rounding.specs.Whole.{IsFloor, IsCeil}
use Rattle.rounding.specs.NearestRoot.{NearerRoot, IsNearestRoot}
use Rattle.rounding.specs.Modulo.{IsModulo}
use Rattle.rounding.specs.Extremum.{number, Each, IsExtremum}
use Rattle.rounding.proofs.Formats.{f64_conforms}

-- 52 digits after the leading one, and values below 2 ^ 1024
abbrev pub f64 : Width
f64 = width binary64

-- `root::sqrt`: the nearest f64 to the root; of a zero that zero, and below zero a NaN
pub sqrt_is_nearest : (x r : Float) → T (fits binary64 x) → T (positive x) → r ≡ sqrt binary64 x → IsNearestRoot f64 (num x) (den x) r
sqrt_is_nearest x r t h e = subst (λ (y : Float). IsNearestRoot f64 (num x) (den x) y) (sym e) (f64_conforms.roots x t h)

-- r is nearer to the root than any other f64 y
pub sqrt_is_nearer : (x r y : Float) → T (fits binary64 x) → T (positive x) → r ≡ sqrt binary64 x → T (fits binary64 y) → T (not (is_nan y))
    → (v j : ℕ) × Counts f64 r false v × Counts f64 y (sign y) j × NearerRoot f64 (num x) (den x) v j
sqrt_is_nearer x r y t h e u k =
    let n = sqrt_is_nearest x r t h e in
    let z = f64_conforms.sizes y u k in
    (n.units, z.0, n.counts, z.1, n.nearer z.0 z.2)

pub sqrt_of_zero : (s : Bool) (r : Float) → r ≡ sqrt binary64 (fin s 0 (pos 0)) → r ≡ fin s 0 (pos 0)
sqrt_of_zero s r e = e ∙ f64_conforms.root_of_zero s

pub sqrt_below_zero : (x r : Float) → T (lt x 0f) → r ≡ sqrt binary64 x → r ≡ nan
sqrt_below_zero x r h e = e ∙ f64_conforms.root_below_zero x h

-- `whole::floor`, `whole::ceil`: the largest whole number not above x, the least not below it, with x's sign
pub floor_is_largest : (x r : Float) → T (fits binary64 x) → T (finite x) → r ≡ floor binary64 x → IsFloor f64 x r
floor_is_largest x r t h e = subst (λ (y : Float). IsFloor f64 x y) (sym e) (f64_conforms.floors x t h)

pub ceil_is_least : (x r : Float) → T (fits binary64 x) → T (finite x) → r ≡ ceil binary64 x → IsCeil f64 x r
ceil_is_least x r t h e = subst (λ (y : Float). IsCeil f64 x y) (sym e) (f64_conforms.ceils x t h)

-- `modulo::modulo`, by a finite b above 0 and by an infinity
pub modulo_is_as_said : (a b r : Float) → T (fits binary64 a) → T (fits binary64 b) → T (finite a) → T (positive b) → r ≡ modulo binary64 a b → IsModulo f64 a b r
modulo_is_as_said a b r t u h k e = subst (λ (y : Float). IsModulo f64 a b y) (sym e) (f64_conforms.modulos a b t u h k)

pub modulo_below_infinity : (a r : Float) → T (finite a) → lt a 0f ≡ true → r ≡ modulo binary64 a (inf false) → r ≡ 0f
modulo_below_infinity a r h k e = e ∙ f64_conforms.modulo_of_minus a h k

pub modulo_within_infinity : (a r : Float) → T (finite a) → lt a 0f ≡ false → r ≡ modulo binary64 a (inf false) → r ≡ a
modulo_within_infinity a r h k e = e ∙ f64_conforms.modulo_of_plus a h k

held_is : (beyond : Float → Float → Bool)
    → ((x : Float) (xs : List Float) → T (number binary64 x) → Each (fits binary64) xs → T (number binary64 (extremum beyond (x ∷ xs))) × IsExtremum beyond (x ∷ xs) (extremum beyond (x ∷ xs)))
    → (earlier next r : Float) → T (number binary64 earlier) → T (fits binary64 next) → r ≡ held beyond earlier next → IsExtremum beyond (earlier ∷ next ∷ []) r
unfolding hold
held_is beyond h earlier next r t u e =
    subst (λ (y : Float). IsExtremum beyond (earlier ∷ next ∷ []) y) (sym e)
    (h earlier (next ∷ []) t (λ x m. subst (λ (y : Float). T (fits binary64 y)) (sym (Memᴰ.eq_of_singleton m)) u)).1

-- `extremum::hold_below`, `extremum::hold_above`: of a number and any next value the one that the other is not below, or not above; -0 is below +0
pub minimum_is_least : (earlier next r : Float) → T (number binary64 earlier) → T (fits binary64 next) → r ≡ held below earlier next → IsExtremum below (earlier ∷ next ∷ []) r
minimum_is_least earlier next r t u e = held_is below f64_conforms.minimums.result earlier next r t u e

pub maximum_is_most : (earlier next r : Float) → T (number binary64 earlier) → T (fits binary64 next) → r ≡ held above earlier next → IsExtremum above (earlier ∷ next ∷ []) r
maximum_is_most earlier next r t u e = held_is above f64_conforms.maximums.result earlier next r t u e
