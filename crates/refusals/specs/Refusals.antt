-- A refusal by its number and its node.
use Rattle.std.specs.Prelude.{Option, Some, None, ℕ, cond, eqb}
use Rattle.refusals.specs.Numbers.{slice_too_short, wrong_field, malformed_line, expression_limit, invalid_input, unknown_symbol, wrong_type, unsupported, outside_domain, no_program, stale_state, ended_early, left_over}
use Rattle.refusals.specs.declared.Refusal.{Refusal}
use Rattle.refusals.specs.declared.Refusal.TheVariants.{SliceTooShort, WrongField, MalformedLine, ExpressionLimit, InvalidInput, UnknownSymbol, WrongType, Unsupported, OutsideDomain, NoProgram, StaleState, EndedEarly, LeftOver}

abbrev pub number_of : Refusal → ℕ
number_of SliceTooShort = slice_too_short
number_of (WrongField k) = wrong_field
number_of MalformedLine = malformed_line
number_of ExpressionLimit = expression_limit
number_of InvalidInput = invalid_input
number_of UnknownSymbol = unknown_symbol
number_of WrongType = wrong_type
number_of Unsupported = unsupported
number_of OutsideDomain = outside_domain
number_of NoProgram = no_program
number_of StaleState = stale_state
number_of (EndedEarly k) = ended_early
number_of (LeftOver k) = left_over

-- "at which node from 0", where the refusal is of formula bytes
abbrev pub node_of : Refusal → Option ℕ
node_of SliceTooShort = None
node_of (WrongField k) = Some k
node_of MalformedLine = None
node_of ExpressionLimit = None
node_of InvalidInput = None
node_of UnknownSymbol = None
node_of WrongType = None
node_of Unsupported = None
node_of OutsideDomain = None
node_of NoProgram = None
node_of StaleState = None
node_of (EndedEarly k) = Some k
node_of (LeftOver k) = Some k

-- the refusal of a number, at a node where it names one
abbrev pub refusal_at : ℕ → ℕ → Refusal
refusal_at n k =
    cond (eqb n slice_too_short) SliceTooShort
    (cond (eqb n wrong_field) (WrongField k)
    (cond (eqb n malformed_line) MalformedLine
    (cond (eqb n expression_limit) ExpressionLimit
    (cond (eqb n invalid_input) InvalidInput
    (cond (eqb n unknown_symbol) UnknownSymbol
    (cond (eqb n wrong_type) WrongType
    (cond (eqb n unsupported) Unsupported
    (cond (eqb n outside_domain) OutsideDomain
    (cond (eqb n no_program) NoProgram
    (cond (eqb n stale_state) StaleState
    (cond (eqb n ended_early) (EndedEarly k)
    (LeftOver k))))))))))))

-- the refusal of a number that names no node
abbrev pub refusal_of : ℕ → Refusal
refusal_of n = refusal_at n 0
