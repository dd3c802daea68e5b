-- What a code says of its number.
use mathlib.Core.Path.{◌≡◌, refl, ap, ◌∙◌}
use mathlib.Core.Bool.{true, false}
use Prim.Native.Nat.{ℕ, ◌/◌}
use native.Mathlib.Omega.{arith}
use Rattle.rules.specs.Codes.{Reads, writes}
use Rattle.rules.specs.declared.Code.{Code}
use Rattle.rules.specs.declared.Code.TheVariants as Variant

-- no other code has the number 0
pub nothing_read : (code : Code) (c : ℕ) → Reads code c → c ≡ 0 → code ≡ Variant.Nothing
nothing_read Variant.Nothing c r e = refl
nothing_read (Variant.Child i) c r e = absurd (omega (arith, r.kind))
nothing_read (Variant.Derivative i) c r e = absurd (omega (arith, r.kind))
nothing_read Variant.Whole c r e = absurd (omega (arith, r.kind))
nothing_read (Variant.Node h) c r e =
    let z : true ≡ false = r.node ∙ ap (λ (x : ℕ). writes (x / 16)) e in
    absurd (let y : ◌≡◌ {A = ℕ} 0 1 = cc in omega arith)
nothing_read (Variant.Unless i) c r e = absurd (omega (arith, r.kind))
nothing_read Variant.Add c r e = absurd (omega (arith, r.kind))
nothing_read Variant.Multiply c r e = absurd (omega (arith, r.kind))
nothing_read Variant.Extremum c r e = absurd (omega (arith, r.kind))
nothing_read (Variant.Literal l) c r e = absurd (omega (arith, r.kind))
