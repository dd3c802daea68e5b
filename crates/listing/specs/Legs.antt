-- `legs` reads `formula.bin` and standard input, and prints a line for each line of values: "line number, answer (`value`, `domain`, `ask`, `bad`),
-- detail (bits, path, function number in decimal and bits joined by `:` with 16 for Power, refusal number), instructions completed". Under these it
-- prints what they add up to.
use Rattle.std.specs.Prelude.{cond, List, [], ◌∷◌, ◌++◌, map, ℕ, suc, length, replicate, take, ltb, Float}
use Rattle.std.proofs.Math.Option.{Option, none, some}
use Rattle.std.specs.Float.{binary64}
use Rattle.std.specs.Float.Ieee.{of_bits, to_bits}
use Rattle.refusals.specs.Numbers.{malformed_line, slice_too_short}
use Rattle.arithmetic.specs.Value.{0f}
use Rattle.formula.specs.Text.{ascii, decimal}
use Rattle.formula.specs.Values.{hex, lines_of, values_of}
use Rattle.formula.specs.Path.{Path, path_room, text}
use Rattle.formula.specs.Term.{term}
use Rattle.meaning.specs.Work.{Question, elementary, power}
use Rattle.machine.specs.Program.{Program}
use Rattle.machine.specs.Lower.{program}
use Rattle.machine.specs.Machine.{Answer, asks, gives, outside, refused, run, spent}
use Rattle.machine.specs.Compile.{Compiled, accepted, compile, own_context, program_room}
use Rattle.machine.specs.Compile as Compile
use Rattle.listing.specs.Totals.{with_total}

-- ---- one line of output

pub record Line : Type 0 where
  pub answer : List ℕ
  pub detail : List ℕ
  pub steps : ℕ

abbrev pub comma : List ℕ
comma = ascii ","

abbrev pub colon : List ℕ
colon = ascii ":"

abbrev pub record_text : ℕ → Line → List ℕ
record_text n l = decimal n ++ comma ++ l.answer ++ comma ++ l.detail ++ comma ++ decimal l.steps

abbrev pub printed : ℕ → Line → List ℕ
printed n l = record_text n l ++ ascii "\n"

abbrev pub bits_text : Float → List ℕ
bits_text x = hex (to_bits binary64 x)

abbrev pub question_text : Question → List ℕ
question_text (elementary f x) = decimal f ++ colon ++ bits_text x
question_text (power a b) = ascii "16" ++ colon ++ bits_text a ++ colon ++ bits_text b

-- "`bad` is a malformed or refused line, steps 0."
abbrev pub bad : ℕ → Line
bad n = record { answer = ascii "bad"; detail = decimal n; steps = 0 }

-- a run whose budget is all of the code is never spent: `never_spent` in proofs/Answers
abbrev pub line_of : Answer → ℕ → Line
line_of (gives v) count = record { answer = ascii "value"; detail = bits_text v; steps = count }
line_of (asks q) count = record { answer = ascii "ask"; detail = question_text q; steps = count }
line_of spent count = record { answer = ascii "spent"; detail = []; steps = count }
line_of (outside p) count = record { answer = ascii "domain"; detail = text p; steps = count }
line_of (refused n) count = bad n

-- ---- one line of values

abbrev pub zero_registers : Program → List Float
zero_registers P = replicate P.registers 0f

abbrev pub run_line : Program → List Float → Line
run_line P inputs =
    let r = run binary64 inputs P (record { room = path_room; budget = length P.code; given = none }) (zero_registers P) in
    line_of r.answer r.count

-- "A value line that isn't hex digits and commas as said shows `bad` with 3; otherwise a wrong count of values or a value that isn't finite shows 5."
abbrev pub value_record : Program → Option (List ℕ) → Line
value_record P none = bad malformed_line
value_record P (some bits) = run_line P (map (λ b. of_bits binary64 b) bits)

abbrev pub records : Program → ℕ → List (List ℕ) → List ℕ
records P n [] = []
records P n (l ∷ ls) = printed n (value_record P (values_of l)) ++ records P (suc n) ls

-- ---- the whole output

abbrev pub header : List ℕ
header = ascii "no,answer,detail,steps\n"

abbrev pub place_text : Option Path → List ℕ
place_text none = []
place_text (some p) = text p

-- "A formula refused in compiling gives, after the header, only `0,refused,N:PATH,0`, the path empty without a place."
abbrev pub refused_as : ℕ → List ℕ → Line
refused_as n place = record { answer = ascii "refused"; detail = decimal n ++ colon ++ place; steps = 0 }

abbrev pub refusal_line : ℕ → Option Path → List ℕ
refusal_line n place = printed 0 (refused_as n (place_text place))

-- "`legs` shows it as `N:node`"
abbrev pub node_line : ℕ → ℕ → List ℕ
node_line n k = printed 0 (refused_as n (decimal k))

-- "`legs` reads at most 1,000,000 value lines"
unfoldable pub line_limit : ℕ
line_limit = 1000000

abbrev pub listed : List (List ℕ) → Compiled → List ℕ
listed value_lines (Compile.refused n place) = refusal_line n place
listed value_lines (Compile.refused_at n k) = node_line n k
listed value_lines (accepted f symbols) = records (program (own_context symbols) (term f)) 1 (take line_limit value_lines)

-- "`legs` takes a `formula.bin` of at most 4,096 bytes"
abbrev pub formula_room : ℕ
formula_room = 4096

abbrev pub compiled : List ℕ → List ℕ → Compiled
compiled formula names = compile formula names path_room (program_room formula_room)

-- "An empty file is an empty name line"
abbrev pub with_input : List ℕ → List (List ℕ) → List ℕ
with_input formula [] = listed [] (compiled formula [])
with_input formula (names ∷ value_lines) = listed value_lines (compiled formula names)

-- "a longer one, or none, prints `0,refused,1:,0` after the header"
abbrev pub with_file : Option (List ℕ) → List (List ℕ) → List ℕ
with_file none lines = refusal_line slice_too_short none
with_file (some formula) lines = cond (ltb formula_room (length formula)) (refusal_line slice_too_short none) (with_input formula lines)

-- the output for a formula file, where there is one that can be read, and standard input. "A refused formula prints its total line with zeros": that is
-- what its one line adds up to.
unfoldable pub legs : Option (List ℕ) → List ℕ → List ℕ
unfolding values_of compile
legs file input = header ++ with_total (with_file file (lines_of input))
