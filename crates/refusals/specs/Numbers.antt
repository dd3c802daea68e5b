-- "Bad input is refused by the number that document 01 fixes": each number's name, under 'Compile', 'Derive' and 'Run and resume'; 12 and 13 are
-- document 02's, slip 2.
use Rattle.std.specs.Prelude.{ℕ}

-- "1, path slice or program slice too short"; derive: the tree slice too
abbrev pub slice_too_short : ℕ
slice_too_short = 1

-- "2 now means a wrong field"
abbrev pub wrong_field : ℕ
wrong_field = 2

-- "3, name line not as above"; a line of values "that isn't hex digits and commas as said"
abbrev pub malformed_line : ℕ
malformed_line = 3

-- "4 `ExpressionLimit` at `root`"
abbrev pub expression_limit : ℕ
expression_limit = 4

-- "5 `InvalidInput` (arity)"; run: "input count wrong, too few registers, an input not finite, or budget 0"
abbrev pub invalid_input : ℕ
invalid_input = 5

-- "6 `UnknownSymbol`"; derive: "a symbol number not in the table"
abbrev pub unknown_symbol : ℕ
unknown_symbol = 6

-- "7 `Type`"; derive: "if it is Boolean"
abbrev pub wrong_type : ℕ
wrong_type = 7

-- "8 `Unsupported`"; derive: "from the rules"
abbrev pub unsupported : ℕ
unsupported = 8

-- "9 `Domain` (non-finite literal)"; run: "9 at the instruction's path"
abbrev pub outside_domain : ℕ
outside_domain = 9

-- "10, not a program"
abbrev pub no_program : ℕ
no_program = 10

-- "11 (resume), position not at an instruction, a pending question that this instruction .. doesn't put, or a value supplied while no question shown
-- for that instruction is pending"
abbrev pub stale_state : ℕ
stale_state = 11

-- "new 12, ended early, and 13, bytes left over, both in 2's place"
abbrev pub ended_early : ℕ
ended_early = 12

abbrev pub left_over : ℕ
left_over = 13
