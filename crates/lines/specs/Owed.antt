-- Where a listing stands between two blocks of input, and what is still to be written for the input that is left.
use Rattle.std.specs.Prelude.{◌≡◌, ℕ, suc, ◌+◌, ◌-◌, ◌≤◌, min, Bool, true, false, cond, List, [], ◌++◌, length, take, nat_le, nat_lt, Float}
use Rattle.std.specs.Prelude as Std
use Rattle.std.specs.Prelude.{None, Some}
use Rattle.std.specs.Borrow.{Bor}
use Rattle.std.proofs.Math.Option.{Option, none, some}
use Rattle.formula.specs.Text.{zeros}
use Rattle.formula.specs.Values.{lines_of}
use Rattle.formula.specs.Term.{term}
use Rattle.machine.specs.Compile.{Compiled, accepted, own_context}
use Rattle.machine.specs.Compile as Compile
use Rattle.machine.specs.Lower.{program}
use Rattle.machine.specs.Program.{Program}
use Rattle.layout.specs.Decode.{program_at}
use Rattle.listing.specs.Legs.{compiled, legs, line_limit, node_line, records, refusal_line, with_file, with_input}
use Rattle.listing.specs.Totals as Total
use Rattle.listing.specs.Totals.{add_up, nothing, plus, total_line, with_total}
use Rattle.names.specs.Lines.{free}
use Rattle.lines.specs.declared.Begun.{Begun}
use Rattle.lines.specs.declared.Stage.{Stage}
use Rattle.lines.specs.declared.Stage.TheVariants.{Finished, Names, Values}
use Rattle.lines.specs.declared.sums.Totals.{Totals}
use Rattle.lines.specs.declared.Line.{Line}
use Rattle.values.specs.Reading.{Reading, Reads, Starts}
use Rattle.lines.specs.Record.{Ready}
use Rattle.lines.specs.Text.{Wrote}
use Rattle.lines.specs.Sums.{Few, totals_of}

-- ---- lines of values

-- a text, and under it the total of t and of its lines together
abbrev pub under : Total.Totals → List ℕ → List ℕ
under t more = more ++ total_line (plus t (add_up (lines_of more)))

-- the output from line n on, where the lines before have these totals: the records of the lines up to the limit, and the total line
unfoldable pub output_from : Program → ℕ → Total.Totals → List (List ℕ) → List ℕ
output_from P n t lines = under t (records P n (take (suc line_limit - n) lines))

-- After these bytes of input and this output: a line that had begun as `seen` became one that has begun as `now_seen`, and the output is what the
-- definition gives, whatever input follows.
pub record After (P : Program) (n : ℕ) (t : Totals) (seen fed text : List ℕ) (n' : ℕ) (s' : Reading) (t' : Totals) (values' : List Float) : Type 0 where
  pub now_seen : List ℕ
  pub no_newline : free 10 now_seen ≡ true
  pub read : Reads now_seen s' values'
  pub few : Few n' (totals_of t')
  pub same : (rest : List ℕ) → output_from P n (totals_of t) (lines_of (seen ++ (fed ++ rest))) ≡ text ++ output_from P n' (totals_of t') (lines_of (now_seen ++ rest))

abbrev pub Lists : Program → ℕ → Reading → Totals → List Float → List ℕ → List ℕ → ℕ → Reading → Totals → List Float → Type 0
Lists P n s t values fed text n' s' t' values' =
    (seen : List ℕ) → free 10 seen ≡ true → Reads seen s values → Few n (totals_of t) → After P n t seen fed text n' s' t' values'

-- the lines after the last that is listed are not looked at
abbrev pub stage_at : Line → Stage
stage_at l = cond (nat_le l.number line_limit) (Values l) (Finished l.totals)

-- ---- the name line

-- the first bytes of a name line that has begun as `seen`
pub record Keeps (seen : List ℕ) (k : ℕ) (names : List ℕ) : Type 0 where
  pub count : k ≡ min (length seen) (length names)
  pub stand : take k names ≡ take (length names) seen

abbrev pub KeepsOn : ℕ → List ℕ → List ℕ → ℕ → List ℕ → Type 0
KeepsOn k names bytes k' names' = (seen : List ℕ) → Keeps seen k names → Keeps (seen ++ bytes) k' names'

-- ---- the whole

-- the memory that a caller lends
pub record Memory : Type 0 where
  pub names : List ℕ
  pub path : List ℕ
  pub program : List ℕ
  pub values : List Float
  pub regs : List Float

abbrev pub memory : List ℕ → List ℕ → List ℕ → List Float → List Float → Memory
memory names path program values regs = record { names = names; path = path; program = program; values = values; regs = regs }

-- memory that is large enough, at the start: a well-formed name line has at most 17,151 bytes, a formula at most 256 names and 1,276 registers
pub record Roomy (m : Memory) : Type 0 where
  pub names : 17152 ≤ length m.names
  pub path : m.path ≡ zeros 8192
  pub program : length m.program ≡ 61440
  pub values : 256 ≤ length m.values
  pub regs : 1276 ≤ length m.regs

-- a name line that has begun; what is owed for the rest of the input is `g`
pub record Naming (formula : List ℕ) (m : Memory) (k : ℕ) (g : List ℕ → List ℕ) : Type 0 where
  pub roomy : Roomy m
  pub seen : List ℕ
  pub no_newline : free 10 seen ≡ true
  pub kept : Keeps seen k m.names
  pub owes : (rest : List ℕ) → g rest ≡ with_total (with_input formula (lines_of (seen ++ rest)))

-- line n of the values has begun; the lines before have these totals, which are small enough for a sum to be exact
pub record Listing (m : Memory) (n : ℕ) (s : Reading) (t : Totals) (g : List ℕ → List ℕ) : Type 0 where
  pub ready : Ready m.program (length m.values) (length m.regs)
  pub seen : List ℕ
  pub no_newline : free 10 seen ≡ true
  pub read : Reads seen s m.values
  pub within : n ≤ line_limit
  pub few : Few n (totals_of t)
  pub owes : (rest : List ℕ) → g rest ≡ output_from (program_at m.program) n (totals_of t) (lines_of (seen ++ rest))

-- the total line is owed at the end, whatever input follows
abbrev pub Owed : List ℕ → Memory → Stage → (List ℕ → List ℕ) → Type 0
Owed formula m (Names k) g = Naming formula m k g
Owed formula m (Values l) g = Listing m l.number l.reading l.totals g
Owed formula m (Finished t) g = (rest : List ℕ) → g rest ≡ total_line (totals_of t)

-- something is owed: the memory and the stage are as `start` and `advance` leave them
abbrev pub Stands : List ℕ → Memory → Stage → Type 0
Stands formula m s = (g : List ℕ → List ℕ) × Owed formula m s g

-- at the end, with these totals
abbrev pub EndsWith : Total.Totals → Stage → Type 0
EndsWith u s = (t : Totals) × (s ≡ Finished t) × (totals_of t ≡ u)

-- whether it is at the end
abbrev pub TellsFinished : Stage → Bool → Type 0
TellsFinished (Names k) b = b ≡ false
TellsFinished (Values l) b = b ≡ false
TellsFinished (Finished t) b = b ≡ true

-- the bytes of output that every call needs: 8,242 for a record with the longest path (a header with a refusal's line has fewer), and 111 for the
-- total line
abbrev pub output_room : ℕ
output_room = 8353

-- what was owed for the input `fed` and any other after it was `text`, and then what is owed now
abbrev pub Advances : List ℕ → Memory → Stage → List ℕ → Memory → Stage → List ℕ → Type 0
Advances formula m s fed m' s' text =
    (g : List ℕ → List ℕ) → Owed formula m s g → (g' : List ℕ → List ℕ) × Owed formula m' s' g' × ((rest : List ℕ) → g (fed ++ rest) ≡ text ++ g' rest)

-- what was owed at the end of the input was `text`
abbrev pub Ends : List ℕ → Memory → Stage → List ℕ → Type 0
Ends formula m s text = (g : List ℕ → List ℕ) → Owed formula m s g → g [] ≡ text

-- a formula file that can be read, or none
abbrev pub file_of : Std.Option (Bor (List ℕ)) → Option (List ℕ)
file_of (Some bytes) = some bytes.now
file_of None = none

-- the formula that `advance` and `finish` are given: the file's bytes, or any where there is no file
abbrev pub BytesOf : Option (List ℕ) → List ℕ → Type 0
BytesOf (some bytes) formula = bytes ≡ formula
BytesOf none formula = Unit {0}

-- the output of `legs` begins with `text`, and then comes what is owed
abbrev pub Begins : Option (List ℕ) → Stage → List ℕ → Type 0
Begins file s text =
    (formula : List ℕ) → BytesOf file formula → (m : Memory) → Roomy m
    → (g : List ℕ → List ℕ) × Owed formula m s g × ((input : List ℕ) → legs file input ≡ text ++ g input)

-- ---- compiling

-- the stage after a name line: a refusal's line is written, or the lines of values begin
abbrev pub Compiles : Compiled → List ℕ → Begun → List ℕ → List ℕ → Type 0
Compiles (Compile.refused n place) program' r out out' = EndsWith nothing r.stage × Wrote out 0 (refusal_line n place) out' r.length
Compiles (Compile.refused_at n k) program' r out out' = EndsWith nothing r.stage × Wrote out 0 (node_line n k) out' r.length
Compiles (accepted f symbols) program' r out out' =
    (s : Reading) × (t : Totals) × (r.stage ≡ Values (record { number = 1; reading = s; totals = t })) × Starts s × (totals_of t ≡ nothing) × (r.length ≡ 0) × Ready program' 256 1276
    × (program_at program' ≡ program (own_context symbols) (term f))

abbrev pub CompiledAs : List ℕ → List ℕ → List ℕ → List ℕ → List ℕ → Begun → List ℕ → List ℕ → Type 0
CompiledAs formula names path program program' r out out' =
    path ≡ zeros 8192 → length program ≡ 61440 → Compiles (compiled formula names) program' r out out'

-- how long a text without zeros is that has only zeros after it
abbrev pub TextLength : List ℕ → ℕ → Type 0
TextLength path r = (r ≤ length path) × (r ≤ 8192) × ((t : List ℕ) (m : ℕ) → path ≡ t ++ zeros m → free 0 t ≡ true → length t ≤ 8192 → r ≡ length t)

-- with the header written up to a place
abbrev pub Opens : Option (List ℕ) → Begun → List ℕ → ℕ → List ℕ → Type 0
Opens file r out at out' =
    (text : List ℕ) × Wrote out at text out' r.length
    × ((formula : List ℕ) → BytesOf file formula → (m : Memory) → Roomy m
    → (g : List ℕ → List ℕ) × Owed formula m r.stage g × ((input : List ℕ) → with_total (with_file file (lines_of input)) ≡ text ++ g input))
