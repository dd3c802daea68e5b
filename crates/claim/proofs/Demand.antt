-- Demand 3, proved.
use mathlib.Core.Path.{◌≡◌}
use mathlib.Core.Option.{none}
use Prim.Native.Nat.{◌*◌, ◌≤◌}
use native.Mathlib.Omega.{arith}
use lib.Dec.{leb}
use lib.Ieee.{Format, binary64}
use borrow.Author.Tests.{leb-true}
use Rattle.formula.specs.Formula.{depth, size}
use Rattle.formula.specs.Path.{root}
use Rattle.formula.specs.Term.{Term, term}
use Rattle.machine.specs.Check.{Context, fault}
use Rattle.machine.specs.Compile.{own_context}
use Rattle.machine.proofs.Accepted.{accepted_formula}
use Rattle.machine.proofs.Laws.{and_l}
use Rattle.machine.proofs.Size.{Narrow, longest_path, narrow, path_size}
use Rattle.derivative.specs.Derive.{generated_context}
use Rattle.derivative.proofs.Derived.{derived_compiles}
use Rattle.claim.specs.Claim.{Demand3, DerivativeDemand, FormulaDemand, Lists}
use Rattle.claim.proofs.Lists.{theorem}

-- a term without fault whose paths are short enough
pub lists : (F : Format) (C : Context) (t : Term) → fault C t root ≡ none → Narrow t → 17 * longest_path t ≤ 8188 → Lists F C t
lists F C t ok few low inputs same_count fins regs w room budget cs = theorem F C inputs t same_count ok few low fins regs w room budget cs

pub formula_demand : FormulaDemand
formula_demand formula names p q f symbols e =
    let a = accepted_formula formula names p q f symbols e in
    let small : size f ≤ 256 = leb-true (size f) 256 (and_l (leb (size f) 256) (leb (depth f) 32) a.limit) in
    lists binary64 (own_context symbols) (term f) a.faultless (narrow f (omega arith)) (omega (arith, path_size f))

pub derivative_demand : DerivativeDemand
derivative_demand formula names s p l d rs symbols e =
    let c = derived_compiles formula names s p l d rs symbols e in
    lists binary64 (generated_context symbols) (term d) c.0 c.2 c.3

pub demand_3 : Demand3
demand_3 = (formula_demand, derivative_demand)
