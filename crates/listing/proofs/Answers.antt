-- "answer (`value`, `domain`, `ask`, `bad`)": no line of output has another. A run whose budget is all of the code is never spent.
use mathlib.Core.Path.{◌≡◌, refl, ap, sym, ◌∙◌}
use mathlib.Core.List.{List, map}
use mathlib.Core.Logic.{◌⊎◌, inl, inr}
use mathlib.Core.Option.{Option, none, some}
use Prim.Native.Nat.{ℕ}
use native.Mathlib.Omega.{arith}
use lib.ListN.{length, get_or}
use lib.Ieee.{Float, binary64, of_bits}
use Rattle.formula.specs.Text.{ascii}
use Rattle.formula.specs.Path.{path_room}
use Rattle.machine.specs.Program.{Program}
use Rattle.machine.specs.Machine.{Answer, asks, gives, outside, refused, run, spent}
use Rattle.machine.proofs.Progress.{run_lawful}
use Rattle.listing.specs.Legs.{line_of, run_line, value_record, zero_registers}

abbrev pub Known : List ℕ → Type 0
Known a = (a ≡ ascii "value") ⊎ ((a ≡ ascii "domain") ⊎ ((a ≡ ascii "ask") ⊎ (a ≡ ascii "bad")))

line_known : (a : Answer) (count : ℕ) → (a ≡ spent → ⊥) → Known (line_of a count).answer
line_known (gives v) count h = inl refl
line_known (asks q) count h = inr (inr (inl refl))
line_known spent count h = absurd (h refl)
line_known (outside p) count h = inr (inl refl)
line_known (refused n) count h = inr (inr (inr refl))

pub run_known : (P : Program) (inputs : List Float) → Known (run_line P inputs).answer
run_known P inputs =
    let r = run binary64 inputs P (record { room = path_room; budget = length P.code; given = none }) (zero_registers P) in
    line_known r.answer r.count ((run_lawful binary64 inputs P (record { room = path_room; budget = length P.code; given = none }) (zero_registers P)).enough (omega arith))

-- of every line of values
pub value_known : (P : Program) (line : Option (List ℕ)) → Known (value_record P line).answer
value_known P none = inr (inr (inr refl))
value_known P (some bits) = run_known P (map (λ b. of_bits binary64 b) bits)

starts : (a t : List ℕ) → a ≡ t → a ≡ ascii "spent" → get_or t 0 0 ≡ 115
starts a t f e = ap (λ (l : List ℕ). get_or l 0 0) (sym f ∙ e)

known_is : (a : List ℕ) → Known a → a ≡ ascii "spent" → ⊥
known_is a (inl f) e = omega (arith, starts a (ascii "value") f e)
known_is a (inr (inl f)) e = omega (arith, starts a (ascii "domain") f e)
known_is a (inr (inr (inl f))) e = omega (arith, starts a (ascii "ask") f e)
known_is a (inr (inr (inr f))) e = omega (arith, starts a (ascii "bad") f e)

pub never_spent : (P : Program) (inputs : List Float) → (run_line P inputs).answer ≡ ascii "spent" → ⊥
never_spent P inputs = known_is (run_line P inputs).answer (run_known P inputs)
