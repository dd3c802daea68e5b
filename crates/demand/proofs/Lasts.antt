-- What the claim says of the last reply of any list.
use mathlib.Core.Bool.{true}
use mathlib.Core.Path.{◌≡◌, refl, ap, ap₂, sym, ◌∙◌, subst}
use mathlib.Core.List.{List, [], ◌∷◌, map}
use mathlib.Core.Option.{none}
use Prim.Native.Nat.{ℕ, ◌≤◌}
use lib.ListN.{length}
use Rattle.std.proofs.Common.{min}
use lib.Ieee.{Float, binary64}
use Rattle.formula.specs.Term.{Term}
use Rattle.machine.specs.Check.{Context}
use Rattle.machine.specs.Program.{Program}
use Rattle.machine.specs.Lower.{program}
use Rattle.machine.specs.Machine.{Answer, Call, Reply, asks, gives, outside, refused, resume, run, spent}
use Rattle.claim.specs.Claim.{Calls, Fulfils, History, Lists, Resumes, after, noted, refusal, start}
use Rattle.claim.proofs.Demand.{derivative_demand, formula_demand}
use Rattle.arithmetic.specs.Value.{finite}
use Rattle.formula.specs.Text.{all}
use Rattle.layout.specs.Decode.{program_at}
use Rattle.demand.specs.Listed.{Played, call_of, play_at, playing}
use Rattle.demand.specs.Listed as Listed
use Rattle.demand.specs.declared.calls.Call as Code
use Rattle.demand.specs.Last.{Demand, Last, LastResume, Source, Within, begun, compiled, differentiated, resumed}

sourced : (C : Context) (t : Term) → Source C t → Lists binary64 C t
sourced _ _ (compiled formula names p q f symbols e) = formula_demand formula names p q f symbols e
sourced _ _ (differentiated formula names s p t q d symbols e) = derivative_demand formula names s p t q d symbols e

noted_state : (h : History) (c : Call) (r : Reply) (a : Answer) → (noted h c r a).state ≡ r.state
noted_state h c r (gives v) = refl
noted_state h c r (asks q) = refl
noted_state h c r spent = refl
noted_state h c r (outside p) = refl
noted_state h c r (refused n) = refl

noted_registers : (h : History) (c : Call) (r : Reply) (a : Answer) → (noted h c r a).registers ≡ r.registers
noted_registers h c r (gives v) = refl
noted_registers h c r (asks q) = refl
noted_registers h c r spent = refl
noted_registers h c r (outside p) = refl
noted_registers h c r (refused n) = refl

module _ (C : Context) (inputs : List Float) (t : Term) where
  within : (cs : List Call) (h : History) → Resumes binary64 C inputs t h cs → (resumed C inputs t h cs).total ≤ length (program C t).code
  within [] h x = x
  within (d ∷ cs) h x = within cs _ x.1

  -- what is played last is the resume that the history speaks of
  resumes_owed : (cs : List Call) (c : Call) (x : Played) (h : History) → h.state ≡ x.reply.state → h.registers ≡ x.reply.registers → Resumes binary64 C inputs t h (c ∷ cs)
      → LastResume C inputs t h c cs (playing inputs (program C t) x (c ∷ cs)).reply
  resumes_owed [] c x h e f o =
      subst (λ (r : Reply). Fulfils binary64 C inputs t h c r (refusal h.stage c)) (ap₂ (λ s g. resume binary64 inputs (program C t) c s g) e f) o.0
  resumes_owed (d ∷ cs) c x h e f o =
      let q = ap₂ (λ s g. resume binary64 inputs (program C t) c s g) e f in
      let r = resume binary64 inputs (program C t) c h.state h.registers in
      resumes_owed cs d (Listed.noted c.room (resume binary64 inputs (program C t) c x.reply.state x.reply.registers) x.path) (after h c r)
      (noted_state h c r r.answer ∙ ap (λ (y : Reply). y.state) q) (noted_registers h c r r.answer ∙ ap (λ (y : Reply). y.registers) q) o.1

  last_owed : (regs : List Float) (room budget : ℕ) (cs : List Call) (path : List ℕ) → Calls binary64 C inputs t regs room budget cs
      → (let c : Call = record { room = room; budget = budget; given = none } in
      Last C inputs t regs c cs (playing inputs (program C t) (Listed.noted room (run binary64 inputs (program C t) c regs) path) cs).reply)
  last_owed regs room budget [] path x = x.0
  last_owed regs room budget (d ∷ cs) path x =
      let c : Call = record { room = room; budget = budget; given = none } in
      let r = run binary64 inputs (program C t) c regs in
      resumes_owed cs d (Listed.noted room r path) (begun C inputs t c regs) (noted_state (start regs) c r r.answer) (noted_registers (start regs) c r r.answer) x.1

module _ (inputs : List Float) (b path : List ℕ) (regs : List Float) (reply : Reply) where
  owed : (room budget : ℕ) (cs : List Call) (C : Context) (t : Term) → Source C t → program_at b ≡ program C t → length inputs ≡ (program C t).inputs → all finite inputs ≡ true
      → (program C t).registers ≤ length regs
      → (let c : Call = record { room = room; budget = budget; given = none } in
      reply ≡ (playing inputs (program_at b) (Listed.noted room (run binary64 inputs (program_at b) c regs) path) cs).reply
      → Last C inputs t regs c cs reply × Within C inputs t regs c cs)
  owed room budget cs C t s q same fins enough e =
      let c : Call = record { room = room; budget = budget; given = none } in
      let X = sourced C t s inputs same fins regs enough room budget cs in
      let p = e ∙ ap (λ (P : Program). (playing inputs P (Listed.noted room (run binary64 inputs P c regs) path) cs).reply) q in (
        subst (λ (z : Reply). Last C inputs t regs c cs z) (sym p) (last_owed C inputs t regs room budget cs path X),
        within C inputs t cs (begun C inputs t c regs) X.1,
      )

  pub demand : (calls : List Code.Call) → reply ≡ (play_at inputs b path calls regs).reply → Demand inputs b (length path) calls regs reply
  unfolding play_at
  demand [] e C t s q same fins enough = owed 0 0 [] C t s q same fins enough e
  demand (c ∷ cs) e C t s q same fins enough = owed (min c.room (length path)) c.budget (map (call_of (length path)) cs) C t s q same fins enough e
