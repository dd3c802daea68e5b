-- "Sqrt is the nearest f64 to the exact root, proved over whole numbers; of -0 it is -0, and below zero Domain."
-- For any width; a format is one.
use Prim.Native.Nat.{ℕ, zero, suc, ◌+◌, ◌-◌, ◌*◌, ◌/◌, ◌^◌, compare}
use Rattle.std.specs.Prelude.{true, false, cond, leb, Float}
use Rattle.std.specs.Float.{nan, inf, fin, Format}
use Rattle.std.specs.Float.Ieee.{up, down, size, nearest}
use Rattle.arithmetic.specs.Width.{Width, width, digits, least, of_units}

-- the largest r with r * r ≤ n, for an n below 4 ^ d: by binary digits, the leading ones first
abbrev pub grown : ℕ → ℕ → ℕ
grown n r = cond (leb ((2 * r + 1) * (2 * r + 1)) n) (2 * r + 1) (2 * r)

unfoldable pub root_below : ℕ → ℕ → ℕ
root_below zero n = zero
root_below (suc d) n = grown n (root_below d (n / 4))

-- the largest r with r * r ≤ n
unfoldable pub root : ℕ → ℕ
unfolding root_below size
root n = root_below (size n) n

-- The root of a / c, rounded: its square is n / c, in squared units. As far up as the root, values are multiples of 2 ^ k units, and it lies from q to q + 1 such
-- multiples. It becomes the nearer one, as four times its square compares with the square of 2 q + 1 of them; half way between the two, the even one.
unfoldable pub nearest_root : Width → ℕ → ℕ → Float
unfolding root of_units
nearest_root W a c =
    let n = a * 2 ^ least W * 2 ^ least W in
    let k = size (root (n / c)) - digits W in
    let u = c * (2 ^ k * 2 ^ k) in
    let q = root (n / u) in
    of_units W false (nearest q (compare (4 * n) ((2 * q + 1) * (2 * q + 1) * u))) k

unfoldable pub sqrt_at : Width → Float → Float
unfolding nearest_root
sqrt_at W nan = nan
sqrt_at W (inf true) = nan
sqrt_at W (inf false) = inf false
sqrt_at W (fin s zero e) = fin s zero e
sqrt_at W (fin true (suc m) e) = nan
sqrt_at W (fin false (suc m) e) = nearest_root W (suc m * up e) (down e)

-- the square root in a format; below zero it is NaN
abbrev pub sqrt : Format → Float → Float
sqrt F x = sqrt_at (width F) x
