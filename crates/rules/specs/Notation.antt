-- The rules of `derivative.rs` in prefix (Polish) notation, a letter for each code. A code is a byte: its upper half is what it does,
-- its lower half which one.
use Rattle.std.specs.Prelude.{Bool, true, false, cond, List, [], ◌∷◌, ℕ, zero, suc, ◌+◌, ◌*◌, ◌/◌, ◌%◌, get_or, eqb, ltb}
use Rattle.std.proofs.Math.Option.{Option, none, some}
use Rattle.formula.specs.Text.{ascii}
use Rattle.arithmetic.specs.Constant.{ln_ten_bits}
use Rattle.formula.specs.Formula.{Head}
use Rattle.formula.specs.Node.{head_of, inner_fields}
use Rattle.derivative.specs.Rules.{Rule, Rules, child, whole, diff, make, add, mul, unless_zero, zeroth, end, ◌and◌, lit, 0·0, extremum_from, less_one, zero_bits, one_bits}

-- a, b, c are the children, da, db, dc their derivatives, and the whole the node itself; DIV to IF write a node; ADD and MUL simplify
abbrev pub A : ℕ
A = 0x10

abbrev pub B : ℕ
B = 0x11

abbrev pub C : ℕ
C = 0x12

abbrev pub DA : ℕ
DA = 0x20

abbrev pub DB : ℕ
DB = 0x21

abbrev pub DC : ℕ
DC = 0x22

abbrev pub WHOLE : ℕ
WHOLE = 0x30

abbrev pub DIV : ℕ
DIV = 0x43

abbrev pub POW : ℕ
POW = 0x44

abbrev pub LT : ℕ
LT = 0x50

abbrev pub GT : ℕ
GT = 0x52

abbrev pub EQ : ℕ
EQ = 0x54

abbrev pub UNLESS_DA : ℕ
UNLESS_DA = 0x60

abbrev pub UNLESS_DB : ℕ
UNLESS_DB = 0x61

abbrev pub LOG : ℕ
LOG = 0x71

abbrev pub SIN : ℕ
SIN = 0x74

abbrev pub COS : ℕ
COS = 0x75

abbrev pub FLOOR : ℕ
FLOOR = 0x79

abbrev pub HILL : ℕ
HILL = 0x7d

abbrev pub IF : ℕ
IF = 0x80

abbrev pub ADD : ℕ
ADD = 0x90

abbrev pub MUL : ℕ
MUL = 0xa0

abbrev pub EXTREMUM : ℕ
EXTREMUM = 0xb0

abbrev pub ZERO : ℕ
ZERO = 0xc0

abbrev pub ONE : ℕ
ONE = 0xc1

abbrev pub TWO : ℕ
TWO = 0xc2

abbrev pub THREE : ℕ
THREE = 0xc3

abbrev pub HALF : ℕ
HALF = 0xc4

abbrev pub THREE_HALVES : ℕ
THREE_HALVES = 0xc5

abbrev pub MINUS_ONE : ℕ
MINUS_ONE = 0xc6

abbrev pub TINY : ℕ
TINY = 0xc7

abbrev pub LN_TEN : ℕ
LN_TEN = 0xc8

abbrev pub N : ℕ
N = 0xc9

abbrev pub N_LESS_ONE : ℕ
N_LESS_ONE = 0xca

-- the literal 1 that `power` writes for the power 0
abbrev pub ZEROTH : ℕ
ZEROTH = 0xcb

-- ---- the letters

-- what stands beside a letter
abbrev pub coded : List ℕ → List ℕ → ℕ → ℕ → ℕ
coded [] cs other x = other
coded (l ∷ ls) [] other x = other
coded (l ∷ ls) (c ∷ cs) other x = cond (eqb x l) c (coded ls cs other x)

-- children, derivatives, the node itself, and literals
abbrev pub operands : List ℕ
operands = ascii "abcxyzw0123ht-eTnmo"

abbrev pub operand_codes : List ℕ
operand_codes = A ∷ B ∷ C ∷ DA ∷ DB ∷ DC ∷ WHOLE ∷ ZERO ∷ ONE ∷ TWO ∷ THREE ∷ HALF ∷ THREE_HALVES ∷ MINUS_ONE ∷ TINY ∷ LN_TEN ∷ N ∷ N_LESS_ONE ∷ ZEROTH ∷ []

abbrev pub operators : List ℕ
operators = ascii "+*/^<>=?LSCFHMXY"

abbrev pub operator_codes : List ℕ
operator_codes = ADD ∷ MUL ∷ DIV ∷ POW ∷ LT ∷ GT ∷ EQ ∷ IF ∷ LOG ∷ SIN ∷ COS ∷ FLOOR ∷ HILL ∷ EXTREMUM ∷ UNLESS_DA ∷ UNLESS_DB ∷ []

unfoldable pub code_of : ℕ → ℕ
code_of x = coded operands operand_codes (coded operators operator_codes 0 x) x

-- ---- the rules, by the kind and the operator of the node

abbrev pub others : List (ℕ × List ℕ)
others = (0x20, ascii "1")
    ∷ (0x30, ascii "x")
    ∷ (0x31, ascii "*-x")
    ∷ (0x80, ascii "?ayz")
    ∷ (0x8d, ascii "?>a0+***/HabcaHcbabx+***wHcba+La*-Lcy*-***/wcHcbabz?<a00X?>b10?=b1/xc***/H*ecbc*ecHcb*ecbx")
    ∷
    []

abbrev pub binaries : List (ℕ × List ℕ)
binaries = (0x40, ascii "+xy")
    ∷ (0x41, ascii "+x*-y")
    ∷ (0x42, ascii "+*xb*ay")
    ∷ (0x43, ascii "/+*xb*-*ay^b2")
    ∷ (0x44, ascii "+X?=b00?=b1x**b^a+b*-1xY?=a00**wLay")
    ∷ (0x45, ascii "+/0w+x*-*F/aby")
    ∷ (0x46, ascii "**n^amx")
    ∷ (0x47, ascii "**nax")
    ∷ (0x48, ascii "**nox")
    ∷
    []

abbrev pub calls : List (ℕ × List ℕ)
calls = (0x70, ascii "*wx")
    ∷ (0x71, ascii "*/1ax")
    ∷ (0x72, ascii "*/1*aTx")
    ∷ (0x73, ascii "*/1*2wx")
    ∷ (0x74, ascii "*Cax")
    ∷ (0x75, ascii "**-Sax")
    ∷ (0x76, ascii "*/1^Ca2x")
    ∷ (0x77, ascii "*+1*-^w2x")
    ∷ (0x78, ascii "?>a0x?<a0*-x0")
    ∷ (0x7b, ascii "M")
    ∷ (0x7c, ascii "M")
    ∷ (0x7d, ascii "?>a0+***/HabcaHcbabx+***wHcba+La*-Lcy*-***/wcHcbabz?<a00X?>b10/10")
    ∷ (0x7e, ascii "?ayz")
    ∷ (0x7f, ascii "?>w0*w++*+*-/ta*h+/c^a2*-/c^b2x*/*c+a*-b^b3y*+/hc*-/^+a*-b2*2*^b2az0")
    ∷
    []

abbrev pub look : List (ℕ × List ℕ) → ℕ → List ℕ
look [] q = []
look (e ∷ es) q = cond (eqb q e.0) e.1 (look es q)

-- the letters of a rule; a node without a rule has none
unfoldable pub letters : ℕ → List ℕ
letters q = cond (eqb (q / 16) 4) (look binaries q) (cond (eqb (q / 16) 7) (look calls q) (look others q))

unfoldable pub letter_at : ℕ → ℕ → ℕ
unfolding letters
letter_at q i = get_or (letters q) i 0

unfoldable pub code_at : ℕ → ℕ → ℕ
unfolding letter_at code_of
code_at q i = code_of (letter_at q i)

-- ---- reading

-- no rule has more codes
abbrev pub most_codes : ℕ
most_codes = 128

-- how many parts follow a code
abbrev pub call_parts : ℕ → ℕ
call_parts o = cond (eqb o 13) 3 1

abbrev pub parts : ℕ → ℕ → ℕ
parts k o = get_or (0 ∷ 0 ∷ 0 ∷ 0 ∷ 2 ∷ 2 ∷ 1 ∷ call_parts o ∷ 3 ∷ 2 ∷ 2 ∷ []) k 0

-- the code after so many parts, where `past` is the code after one
abbrev pub past_all : (ℕ → ℕ) → ℕ → ℕ → ℕ
past_all past zero i = i
past_all past (suc left) i = past_all past left (past i)

-- the code after the part that starts at a code, of at most d levels
unfoldable pub end_at : ℕ → ℕ → ℕ → ℕ
unfolding code_at
end_at zero q i = i
end_at (suc d) q i = cond (ltb i most_codes) (past_all (λ j. end_at d q j) (parts (code_at q i / 16) (code_at q i % 16)) (i + 1)) i

-- the literals, n the exponent of a Power where it is one
abbrev pub literal_code : ℕ → ℕ → ℕ
literal_code n o =
    get_or
    (0
    ∷ 0x3ff0000000000000
    ∷ 0x4000000000000000
    ∷ 0x4008000000000000
    ∷ 0x3fe0000000000000
    ∷ 0x3ff8000000000000
    ∷ 0xbff0000000000000
    ∷ 0x3e45798ee2308c3a
    ∷ ln_ten_bits
    ∷ n
    ∷ less_one n
    ∷ 0x3ff0000000000000
    ∷ [])
    o 0

-- the last of them is `power`'s
abbrev pub literal_rule : ℕ → ℕ → Rule
literal_rule n o = cond (eqb o 11) zeroth (lit (literal_code n o))

-- the head that a code writes
abbrev pub coded_head : ℕ → ℕ → Option Head
coded_head k o = head_of (inner_fields k o (parts k o))

abbrev pub made : Option Head → Rules → Rule
made none rs = 0·0
made (some h) rs = make h rs

-- so many rules one after another
abbrev pub rules_from : (ℕ → Rule) → (ℕ → ℕ) → ℕ → ℕ → Rules
rules_from rule past zero i = end
rules_from rule past (suc left) i = rule i and rules_from rule past left (past i)

-- the derivative of the first of so many children that equals the node
abbrev pub extremum : ℕ → Rule
extremum zero = 0·0
extremum (suc left) = extremum_from 0 left

-- what a code does with the parts that follow it, the first at i
abbrev pub decoded : ℕ → ℕ → ℕ → ℕ → (ℕ → Rule) → (ℕ → ℕ) → ℕ → Rule
decoded n count k o rule past i =
    let node = made (coded_head k o) (rules_from rule past (parts k o) i) in
    get_or
    (0·0
    ∷ child o
    ∷ diff o
    ∷ whole
    ∷ node
    ∷ node
    ∷ unless_zero o (rule i)
    ∷ node
    ∷ node
    ∷ add (rule i) (rule (past i))
    ∷ mul (rule i) (rule (past i))
    ∷ extremum count
    ∷ [])
    k (literal_rule n o)

-- the rule that starts at a code, of at most d levels, for a node with so many children
unfoldable pub rule_at : ℕ → ℕ → ℕ → ℕ → ℕ → Rule
unfolding code_at end_at
rule_at n count zero q i = 0·0
rule_at n count (suc d) q i =
    cond (ltb i most_codes)
    (decoded n count (code_at q i / 16) (code_at q i % 16) (λ j. rule_at n count d q j) (λ j. end_at d q j) (i + 1))
    0·0

-- the deepest rule has 14 levels
abbrev pub rule_levels : ℕ
rule_levels = 16

-- a rule, where there is one
unfoldable pub rule_numbered : ℕ → ℕ → ℕ → Option Rule
unfolding code_at rule_at
rule_numbered n count q = cond (eqb (code_at q 0) 0) none (some (rule_at n count rule_levels q 0))

-- ---- the choice of a rule, by the kind and the operator of a node

abbrev pub or_zero : Option ℕ → ℕ
or_zero none = 0
or_zero (some n) = n

-- "the powers 0 and 1 that the rules themselves write"
abbrev pub power_number : Option ℕ → ℕ
power_number none = 0x44
power_number (some n) = cond (one_bits (less_one n)) 0x47 (cond (zero_bits (less_one n)) 0x48 0x46)

abbrev pub childless : ℕ → Bool
childless zero = true
childless (suc n) = false

unfoldable pub rule_number : Bool → Bool → ℕ → Option ℕ → ℕ → ℕ → ℕ
rule_number by_state moving count exponent k o =
    let q = 16 * k + o in
    cond (eqb q 0x44) (power_number exponent)
    (cond (eqb q 0x7d) (cond by_state 0x8d 0x7d)
    (cond (eqb q 0x7e) (cond moving 0 0x7e)
    (cond (eqb q 0x80) (cond moving 0 0x80)
    (cond (eqb q 0x7b) (cond (childless count) 0 0x7b)
    (cond (eqb q 0x7c) (cond (childless count) 0 0x7c) q)))))
