-- What `start`, `advance` and `finish` promise: the text, how far they came, and what every lent slice holds after. Free are the values and registers
-- after lines of values; their lengths stay, as those of all slices.
use Rattle.std.specs.Prelude.{◌≡◌, ℕ, ◌+◌, ◌-◌, ◌<◌, ◌≤◌, List, length, take, drop, Float}
use Rattle.std.proofs.Math.Option.{Option}
use Rattle.machine.specs.Compile.{compile, path_after, program_after}
use Rattle.machine.specs.Program.{Program}
use Rattle.layout.specs.Image.{image}
use Rattle.listing.specs.Legs.{line_limit}
use Rattle.listing.specs.Totals.{nothing}
use Rattle.names.specs.Lines.{first_piece}
use Rattle.writer.specs.Over.{over}
use Rattle.lines.specs.declared.Advanced.{Advanced}
use Rattle.lines.specs.declared.Begun.{Begun}
use Rattle.lines.specs.declared.Listed.{Listed}
use Rattle.lines.specs.declared.Stage.{Stage}
use Rattle.lines.specs.declared.Stage.TheVariants.{Finished, Names, Values}
use Rattle.lines.specs.declared.Line.{Line}
use Rattle.lines.specs.declared.Memory as Lent
use Rattle.lines.specs.Record.{Ready}
use Rattle.lines.specs.Owed.{Advances, Begins, CompiledAs, Ends, EndsWith, Lists, Memory, Stands, memory, output_room}

-- ---- the memory that the code has, and the slice for the name line beside it

abbrev pub held : List ℕ → Lent.Memory → Memory
held names m = memory names m.path.now m.program.now m.values.now m.regs.now

-- the slices are those that were lent
pub record SameSlices (m m' : Lent.Memory) : Type 0 where
  pub path : (m'.path.ghost_name ≡ m.path.ghost_name) × (length m'.path.now ≡ length m.path.now)
  pub program : (m'.program.ghost_name ≡ m.program.ghost_name) × (length m'.program.now ≡ length m.program.now)
  pub values : (m'.values.ghost_name ≡ m.values.ghost_name) × (length m'.values.now ≡ length m.values.now)
  pub regs : (m'.regs.ghost_name ≡ m.regs.ghost_name) × (length m'.regs.now ≡ length m.regs.now)
  pub out : (m'.out.ghost_name ≡ m.out.ghost_name) × (length m'.out.now ≡ length m.out.now)

-- ---- the memory after

-- the slices of the formula's text
pub record SameTexts (m m' : Memory) : Type 0 where
  pub names : m'.names ≡ m.names
  pub path : m'.path ≡ m.path
  pub program : m'.program ≡ m.program

-- the slices of the numbers
pub record SameNumbers (m m' : Memory) : Type 0 where
  pub values : m'.values ≡ m.values
  pub regs : m'.regs ≡ m.regs

-- the path and program slices are as compile leaves them
pub record CompiledOver (formula line : List ℕ) (m m' : Memory) : Type 0 where
  pub path : m'.path ≡ path_after (compile formula line (length m.path) (length m.program)) m.path
  pub program : m'.program ≡ program_after image (compile formula line (length m.path) (length m.program)) m.program

-- the bytes of the input up to its first newline, as many as the names' slice has places for after the first k
abbrev pub kept_bytes : List ℕ → ℕ → List ℕ → List ℕ
kept_bytes names k input = take (length names - k) (first_piece 10 input)

-- a program that fits the slices of the numbers
abbrev pub Fits : Memory → Type 0
Fits m = Ready m.program (length m.values) (length m.regs)

-- After a part of a name line, of which k bytes are kept. No call of `start` or `advance` leaves more kept bytes than there are places.
pub record NamesLeave (formula input : List ℕ) (k : ℕ) (m : Memory) (r : Advanced) (m' : Memory) : Type 0 where
  pub numbers : SameNumbers m m'
  pub names : m'.names ≡ over m.names k (kept_bytes m.names k input)
  pub unended : k ≤ length m.names → length (first_piece 10 input) ≡ length input
      → (r ≡ record { stage = Names (k + length (kept_bytes m.names k input)); used = length input; length = 0 })
      × (m'.path ≡ m.path) × (m'.program ≡ m.program)
  pub ended : k ≤ length m.names → length (first_piece 10 input) < length input
      → (r.used ≡ length (first_piece 10 input) + 1)
      × CompiledOver formula (take (k + length (kept_bytes m.names k input)) m'.names) m m'
  pub unfit : length m.names < k → (r ≡ record { stage = Names k; used = 0; length = 0 }) × (m'.path ≡ m.path) × (m'.program ≡ m.program)

-- after a part of the lines of values; nothing is done without a program that fits the slices
pub record ValuesLeave (l : Line) (m : Memory) (r : Advanced) (m' : Memory) : Type 0 where
  pub texts : SameTexts m m'
  pub unfit : (Fits m → ⊥) → (r ≡ record { stage = Values l; used = 0; length = 0 }) × (m' ≡ m)

abbrev pub Leaves : List ℕ → List ℕ → Memory → Stage → Advanced → Memory → Type 0
Leaves formula input m (Names k) r m' = NamesLeave formula input k m r m'
Leaves formula input m (Values l) r m' = ValuesLeave l m r m'
Leaves formula input m (Finished t) r m' = (r ≡ record { stage = Finished t; used = length input; length = 0 }) × (m' ≡ m)

-- at the input's end: a name line is compiled, a line of values is run
pub record NamesLeaveLast (formula : List ℕ) (k : ℕ) (m : Memory) (r : ℕ) (m' : Memory) : Type 0 where
  pub numbers : SameNumbers m m'
  pub names : m'.names ≡ m.names
  pub ended : k ≤ length m.names → CompiledOver formula (take k m.names) m m'
  pub unfit : length m.names < k → (r ≡ 0) × (m'.path ≡ m.path) × (m'.program ≡ m.program)

pub record ValuesLeaveLast (m : Memory) (r : ℕ) (m' : Memory) : Type 0 where
  pub texts : SameTexts m m'
  pub unfit : (Fits m → ⊥) → (r ≡ 0) × (m' ≡ m)

abbrev pub LeavesLast : List ℕ → Memory → Stage → ℕ → Memory → Type 0
LeavesLast formula m (Names k) r m' = NamesLeaveLast formula k m r m'
LeavesLast formula m (Values l) r m' = ValuesLeaveLast m r m'
LeavesLast formula m (Finished t) r m' = m' ≡ m

-- ---- the calls

pub record Starting (file : Option (List ℕ)) (out : List ℕ) (r : Begun) (out' : List ℕ) : Type 0 where
  pub begins : output_room ≤ length out → Begins file r.stage (take r.length out')
  pub idle : length out < output_room → EndsWith nothing r.stage × (r.length ≡ 0) × (out' ≡ out)
  pub room : r.length ≤ length out
  pub beyond : drop r.length out' ≡ drop r.length out

-- with room in the output, input that is there is used
abbrev pub GoesOn : List ℕ → List ℕ → ℕ → Type 0
GoesOn input out used = output_room ≤ length out → 1 ≤ length input → 1 ≤ used

-- From a stage that stands, input is used. So any input is used up by finitely many calls.
pub record Advancing (formula input : List ℕ) (m : Memory) (s : Stage) (out : List ℕ) (r : Advanced) (m' : Memory) (out' : List ℕ) : Type 0 where
  pub advances : Advances formula m s (take r.used input) m' r.stage (take r.length out')
  pub goes_on : Stands formula m s → GoesOn input out r.used
  pub inside : r.used ≤ length input
  pub room : r.length ≤ length out
  pub beyond : drop r.length out' ≡ drop r.length out
  pub leaves : output_room ≤ length out → Leaves formula input m s r m'
  pub idle : length out < output_room → (r ≡ record { stage = s; used = 0; length = 0 }) × (m' ≡ m) × (out' ≡ out)

-- what it takes to hand all of an input on, part by part: a stage that stands, and room in the output
pub record Feedable (formula : List ℕ) (m : Memory) (s : Stage) (out : List ℕ) : Type 0 where
  pub stands : Stands formula m s
  pub room : output_room ≤ length out

pub record Finishing (formula : List ℕ) (m : Memory) (s : Stage) (out : List ℕ) (r : ℕ) (m' : Memory) (out' : List ℕ) : Type 0 where
  pub ends : output_room ≤ length out → Ends formula m s (take r out')
  pub room : r ≤ length out
  pub beyond : drop r out' ≡ drop r out
  pub leaves : output_room ≤ length out → LeavesLast formula m s r m'
  pub idle : length out < output_room → (r ≡ 0) × (m' ≡ m) × (out' ≡ out)

-- ---- each stage by itself

-- a name line is compiled
pub record Beginning (formula line path program path' program' : List ℕ) (r : Begun) (out out' : List ℕ) : Type 0 where
  pub built : CompiledAs formula line path program program' r out out'
  pub room : r.length ≤ 8209
  pub beyond : drop r.length out' ≡ drop r.length out
  pub path_is : path' ≡ path_after (compile formula line (length path) (length program)) path
  pub program_is : program' ≡ program_after image (compile formula line (length path) (length program)) program

-- lines of values are listed
pub record ListingBlock (P : Program) (l : Line) (values : List Float) (input out : List ℕ) (r : Listed) (values' : List Float) (out' : List ℕ) : Type 0 where
  pub lists : Lists P l.number l.reading l.totals values (take r.used input) (take r.length out') r.line.number r.line.reading r.line.totals values'
  pub goes_on : l.number ≤ line_limit → GoesOn input out r.used
  pub inside : r.used ≤ length input
  pub room : r.length ≤ length out
  pub beyond : drop r.length out' ≡ drop r.length out
