-- What the exported functions answer and leave.
use Rattle.std.specs.Prelude.{◌≡◌, Bool, true, false, cond, ◌||◌, List, [], ◌∷◌, ◌++◌, ◌⊎◌, ℕ, ◌<◌, length, drop, get_or, set, ltb, Float, Result, Ok, Err, unwrap_or}
use Rattle.std.proofs.Math.Option.{Option, none, some}
use Rattle.arithmetic.specs.Value.{finite}
use Rattle.refusals.specs.Numbers.{slice_too_short}
use Rattle.refusals.specs.Refusals as refusals
use Rattle.refusals.specs.declared.Refusal.{Refusal}
use Rattle.formula.specs.Path.{placed}
use Rattle.machine.specs.Machine.{Answer, Reply, place_of, refused, gives, asks, spent, outside}
use Rattle.layout.specs.Decode.{code_count}
use Rattle.layout.specs.Image.{image}
use Rattle.machine.specs.Compile as Compile
use Rattle.derivative.specs.Derive as Derive
use Rattle.work.specs.View.{question_of}
use Rattle.work.specs.declared.Question.{Question}
use Rattle.work.specs.declared.Outcome.TheVariants as Outcomes
use Rattle.work.specs.declared.Outcome.TheVariants.{Value}
use Rattle.instruction.specs.Effects.{effect_at}
use Rattle.instruction.specs.declared.Effect.TheVariants.{Work}
use Rattle.run.specs.Calls.{Settled, resume_at, run_at, stale_at}
use Rattle.vebrostin.specs.Cells.{Askable, kept_in, number_of, outcome_cells, state_cells, state_in}

-- ---- numbers that cross in slices

-- the numbers of a report, in which a call hands out numbers beside its answer: a place for each, 0 where there is none. Compile and derive have one,
-- the node of a refusal; the other places, and the report of a run, stay as they were.
abbrev pub report_length : ℕ
report_length = 8

abbrev pub node_place : ℕ
node_place = 0

-- a state's numbers, with a run's count and value
abbrev pub state_length : ℕ
state_length = 16

abbrev pub report_short : List ℕ → Bool
report_short report = ltb (length report) report_length

-- for a run
abbrev pub short : List ℕ → List ℕ → Bool
short cells report = report_short report || ltb (length cells) state_length

-- "1" before anything else is looked at, where such a slice is too short: `refusal` says so, and no slice changes
abbrev pub with_room : {A : Type 0} → Bool → A → A → A
with_room few refusal o = cond few refusal o

-- ---- compile and derive

-- a report with this node
abbrev pub reported : ℕ → List ℕ → List ℕ
reported node report = with_room (report_short report) report (set report node_place node)

-- the number of the code's refusal, and its node; 0 where nothing is refused, and where it has no node
abbrev pub told_number : {T : Type 0} → Result T Refusal → ℕ
told_number (Ok x) = 0
told_number (Err r) = refusals.number_of r

abbrev pub told_node : {T : Type 0} → Result T Refusal → ℕ
told_node (Ok x) = 0
told_node (Err r) = unwrap_or (refusals.node_of r) 0

-- 0 for a program, else the refusal
abbrev pub compile_number : Compile.Compiled → ℕ
compile_number (Compile.accepted f symbols) = 0
compile_number (Compile.refused n place) = n
compile_number (Compile.refused_at n k) = n

abbrev pub compile_node : Compile.Compiled → ℕ
compile_node (Compile.accepted f symbols) = 0
compile_node (Compile.refused n place) = 0
compile_node (Compile.refused_at n k) = k

-- of formula bytes and a name line, with path and program slices of these lengths and this report
abbrev pub compile_outcome : List ℕ → List ℕ → ℕ → ℕ → List ℕ → Compile.Compiled
compile_outcome b l q p report = with_room (report_short report) (Compile.refused slice_too_short none) (Compile.compile b l q p)

-- the number answered, and the path, program and report slices before and after
abbrev pub Compiles : Compile.Compiled → ℕ → List ℕ → List ℕ → List ℕ → List ℕ → List ℕ → List ℕ → Type 0
Compiles X n q q' p p' t t' =
    (n ≡ compile_number X) × (q' ≡ Compile.path_after X q) × (p' ≡ Compile.program_after image X p)
    × (t' ≡ reported (compile_node X) t)

-- 0 for a tree, its records and its program, else the refusal
abbrev pub derive_number : Derive.Derived → ℕ
derive_number (Derive.derived d rs symbols) = 0
derive_number (Derive.formula_refused n place) = n
derive_number (Derive.formula_refused_at n k) = n
derive_number (Derive.refused n place) = n

abbrev pub derive_node : Derive.Derived → ℕ
derive_node (Derive.derived d rs symbols) = 0
derive_node (Derive.formula_refused n place) = 0
derive_node (Derive.formula_refused_at n k) = k
derive_node (Derive.refused n place) = 0

-- of formula bytes, a name line and a symbol, with a path slice of this length, tree, list and program slices of these and this report
abbrev pub derive_outcome : List ℕ → List ℕ → ℕ → ℕ → Derive.Lengths → List ℕ → Derive.Derived
derive_outcome b names s q l report = with_room (report_short report) (Derive.formula_refused slice_too_short none) (Derive.derive b names s q l)

-- the number answered, and the path, tree, list, program and report slices before and after
abbrev pub Derives : Derive.Derived → ℕ → List ℕ → List ℕ → List ℕ → List ℕ → List ℕ → List ℕ → List ℕ → List ℕ → List ℕ → List ℕ → Type 0
Derives X n q q' t t' l l' p p' u u' =
    (n ≡ derive_number X)
    × (q' ≡ Derive.path_after X q) × (t' ≡ Derive.tree_after X t) × (l' ≡ Derive.list_after X l) × (p' ≡ Derive.program_after image X p)
    × (u' ≡ reported (derive_node X) u)

-- ---- run and resume

-- the number answered, and the cells, registers, path slice and report after
pub record Outcome : Type 0 where
  pub number : ℕ
  pub cells : List ℕ
  pub registers : List Float
  pub path : List ℕ
  pub report : List ℕ

-- such a 1 of a run
abbrev pub untouched : List ℕ → List Float → List ℕ → List ℕ → Outcome
untouched cells regs path report =
    record { number = slice_too_short; cells = cells; registers = regs; path = path; report = report }

abbrev pub told : Reply → List ℕ → List ℕ → List ℕ → Outcome
told r cells path report =
    record {
      number = number_of r.answer;
      cells = cells;
      registers = r.registers;
      path = placed (place_of r.answer) path;
      report = report;
    }

abbrev pub is_refused : Answer → Bool
is_refused (gives v) = false
is_refused (asks q) = false
is_refused spent = false
is_refused (outside p) = false
is_refused (refused n) = true

-- a reply in the first sixteen cells; what follows them stays
abbrev pub written : Reply → List ℕ → List ℕ
written r cells = (state_cells r.state ++ outcome_cells r) ++ drop 16 cells

-- a call ended with this reply: the number answered, the cells before and after, and the registers after
pub record Ends (r : Reply) (n : ℕ) (cells cells' : List ℕ) (regs' : List Float) : Type 0 where
  pub number : n ≡ number_of r.answer
  pub left : cells' ≡ written r cells
  pub registers : regs' ≡ r.registers
  pub state : Askable r.state.pending → state_in cells' ≡ r.state

-- an instruction puts this question, which the cells can hold, and its answer is its result
pub record PutsOnly (b : List ℕ) (regs : List Float) (at : ℕ) (q : Question) : Type 0 where
  pub puts : (inputs : List Float) → effect_at inputs b at [] regs ≡ Work (Outcomes.Question q)
  pub takes : (inputs : List Float) (v : Float) → effect_at inputs b at (v ∷ []) regs ≡ Work (Value v)
  pub askable : Askable (some (question_of q))

-- the value answers the question that the cells hold, which is the only one of its instruction
pub record Answers (b : List ℕ) (regs : List Float) (cells : List ℕ) (v : Float) : Type 0 where
  pub there : get_or cells 0 0 < code_count b
  pub none_kept : kept_in cells ≡ []
  pub fresh : (inputs : List Float) → stale_at inputs b regs (get_or cells 0 0) [] (state_in cells).pending (some v) ≡ false
  pub result : (inputs : List Float) → effect_at inputs b (get_or cells 0 0) (v ∷ []) regs ≡ Work (Value v)
  pub is_finite : finite v ≡ true

-- the cells after a resume: "hand the state back unaltered", count and value too
abbrev pub after : Reply → List ℕ → List ℕ
after r cells = cond (is_refused r.answer) cells (written r cells)

unfoldable pub run_outcome : List Float → List ℕ → ℕ → List Float → List ℕ → List ℕ → List ℕ → Outcome
run_outcome inputs b budget regs cells path report =
    let r = run_at inputs b (length path) budget regs in
    with_room (short cells report) (untouched cells regs path report) (told r (written r cells) path report)

unfoldable pub resume_outcome : List Float → List ℕ → ℕ → Option Float → List Float → List ℕ → List ℕ → List ℕ → Outcome
resume_outcome inputs b budget given regs cells path report =
    let r = resume_at inputs b (length path) budget given (state_in cells) regs in
    with_room (short cells report) (untouched cells regs path report) (told r (after r cells) path report)

-- "Run state: made by the run, read by the next call": what the next call reads from the cells is the state of the reply
abbrev pub Carries : List ℕ → List ℕ → Reply → Type 0
Carries cells report r = short cells report ≡ false → state_in cells ≡ r.state

abbrev pub Leaves : Outcome → ℕ → List ℕ → List Float → List ℕ → List ℕ → Type 0
Leaves o n c r p t = (n ≡ o.number) × (c ≡ o.cells) × (r ≡ o.registers) × (p ≡ o.path) × (t ≡ o.report)

-- a call without the check of the bytes is settled where a slice of numbers is too short, and else as the run is
abbrev pub Settles : List ℕ → List ℕ → List ℕ → List ℕ → Type 0
Settles b path cells report = (short cells report ≡ true) ⊎ Settled b (length path)
