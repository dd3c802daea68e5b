-- "Proved together, as a table: (1), (2) those lines. (3) Derivative by distance ... (12) Ceil -0.5 is -0.0."
use Rattle.std.specs.Prelude.{◌≡◌, refl, List, [], ◌∷◌, ◌++◌, ℕ, length, replicate, set, take, Float}
use Rattle.std.proofs.Math.Option.{none, some}
use Rattle.std.specs.Float.{binary64}
use Rattle.std.specs.Float.Ieee.{add, sub, mul, div, rem, neg, lt, le, eq, ne, of_bits, to_bits, round}
use Rattle.arithmetic.specs.Value.{0f, whole, absolute}
use Rattle.arithmetic.specs.Round.{floor, ceil}
use Rattle.arithmetic.specs.Root.{sqrt_at}
use Rattle.arithmetic.specs.Extremum.{hold}
use Rattle.formula.specs.Text.{ascii, half_at, word_at, long_at}
use Rattle.formula.specs.Operator.{binary, compare, call, Binary, Add, Multiply, Divide, Power, Modulo, Lt, Exp, Hill, Sqrt, Ceil}
use Rattle.formula.specs.Formula.{Formula, node, last, number, symbol, operation, conditional, size, of_list}
use Rattle.formula.specs.Node.{encode, formula_of, tree_in, head_at, head_of, fields_at, inner_fields, node_bytes}
use Rattle.formula.specs.Transfer.{transfer_of}
use Rattle.formula.specs.Names.{symbols_of}
use Rattle.formula.specs.Values.{values_of}
use Rattle.formula.specs.Path.{root, path_room}
use Rattle.formula.specs.Term.{term}
use Rattle.meaning.specs.Work.{power, hill_work, density_work}
use Rattle.machine.specs.Program.{Program}
use Rattle.machine.specs.Lower.{program}
use Rattle.machine.specs.Machine.{Answer, asks, gives, outside, refused, resume, run}
use Rattle.machine.specs.Compile.{Compiled, accepted, compile, own_context}
use Rattle.derivative.specs.Rules.{less_one}
use Rattle.derivative.specs.Derive.{Derived, derive, derived, generated_context}
use Rattle.listing.specs.Legs.{legs, line_limit}

-- ---- formulas

abbrev of2 : Binary → Formula → Formula → Formula
of2 o a b = node (operation (binary o)) (of_list (a ∷ b ∷ []))

abbrev sym : ℕ → Formula
sym i = node (symbol i) last

abbrev lit : ℕ → Formula
lit bits = node (number bits) last

-- Add(climb, Divide(Multiply(burn, distance), Add(tas, wind)))
abbrev flight : Formula
flight = of2 Add (sym 0) (of2 Divide (of2 Multiply (sym 1) (sym 2)) (of2 Add (sym 3) (sym 4)))

abbrev name_line : List ℕ
name_line = ascii "climb:p,burn:p,distance:i,tas:i,wind:i"

abbrev input : List ℕ
input =
    name_line
    ++ ascii "\n4056800000000000,4072c00000000000,4079000000000000,4069000000000000,0000000000000000"
    ++ ascii "\n4056800000000000,4072c00000000000,4079000000000000,4069000000000000,c069000000000000\n"

-- ---- runs, from formula bytes and a name line

abbrev room : ℕ
room = 100000

abbrev 1e0 : ℕ
1e0 = 0x3ff0000000000000

abbrev 2e0 : ℕ
2e0 = 0x4000000000000000

abbrev 3e0 : ℕ
3e0 = 0x4008000000000000

abbrev zeroed : Program → List Float
zeroed P = replicate P.registers 0f

-- the answer of a run with budget to spare, and the instructions that it completed
abbrev first_answer : Program → List Float → Answer × ℕ
first_answer P inputs =
    let r = run binary64 inputs P (record { room = path_room; budget = 100; given = none }) (zeroed P) in
    (r.answer, r.count)

abbrev run_compiled : List Float → Compiled → Answer × ℕ
run_compiled inputs (Compiled.refused n place) = (refused n, 0)
run_compiled inputs (Compiled.refused_at n k) = (refused n, 0)
run_compiled inputs (accepted f symbols) = first_answer (program (own_context symbols) (term f)) inputs

abbrev answer_of : Formula → List ℕ → List Float → Answer × ℕ
answer_of f names inputs = run_compiled inputs (compile (encode f) names path_room room)

-- instructions and registers
abbrev counts : Compiled → ℕ × ℕ
counts (Compiled.refused n place) = (0, 0)
counts (Compiled.refused_at n k) = (0, 0)
counts (accepted f symbols) = let P = program (own_context symbols) (term f) in (length P.code, P.registers)

-- ---- (3): the derivative's nodes, its question, and what a supplied value brings

abbrev run_derived : List Float → Float → Derived → ℕ × Answer × Answer
run_derived inputs x (Derived.formula_refused n place) = (0, refused n, refused n)
run_derived inputs x (Derived.formula_refused_at n k) = (0, refused n, refused n)
run_derived inputs x (Derived.refused n place) = (0, refused n, refused n)
run_derived inputs x (derived d rs symbols) =
    let P = program (generated_context symbols) (term d) in
    let r = run binary64 inputs P (record { room = path_room; budget = 100; given = none }) (zeroed P) in
    let s = resume binary64 inputs P (record { room = path_room; budget = 100; given = some x }) r.state r.registers in
    (size d, r.answer, s.answer)

abbrev float : ℕ → Float
float bits = of_bits binary64 bits

abbrev flight_inputs : List Float
flight_inputs = float 0x4056800000000000 ∷ float 0x4072c00000000000 ∷ float 0x4079000000000000 ∷ float 0x4069000000000000 ∷ float 0 ∷ []

-- (4) to (8), (10) to (12): closed formulas
abbrev closed : Formula → Answer × ℕ
closed f = answer_of f [] []

abbrev branching : Formula
branching = node conditional (of_list (node (operation (compare Lt)) (of_list (sym 0 ∷ lit 1e0 ∷ [])) ∷ lit 2e0 ∷ lit 3e0 ∷ []))

pub flights :
    (legs (some (encode flight)) input
    ≡ ascii "no,answer,detail,steps\n1,value,4085900000000000,9\n2,domain,root.arguments[1],7\ntotal,1,1,0,0,16\n")
    × (run_derived flight_inputs (float 0x40e3880000000000) (derive (encode flight) name_line 2 path_room (record { tree = room; list = room; program = room }))
    ≡ (23, asks (power (float 0x4069000000000000) (float 2e0)), gives (float 0x3ff8000000000000)))
    × (closed (of2 Modulo (lit 0xbff0000000000000) (lit 3e0)) ≡ (gives (float 2e0), 3))
    × (closed (of2 Modulo (lit 0xbbc79ca10c924223) (lit 3e0)) ≡ (gives (float 0), 3))
    × (closed (of2 Modulo (lit 0xc008000000000000) (lit 3e0)) ≡ (gives (float 0x8000000000000000), 3))
    × (closed (of2 Power (lit 0) (lit 0)) ≡ (outside root, 2))
    × (closed (of2 Power (lit 0xc020000000000000) (lit 0x3fe0000000000000)) ≡ (outside root, 2))
    × (counts (compile (encode branching) (ascii "p:p") path_room room) ≡ (9, 8))
    × (answer_of branching (ascii "p:p") (float 0 ∷ []) ≡ (gives (float 2e0), 7))
    × (answer_of branching (ascii "p:p") (float 1e0 ∷ []) ≡ (gives (float 3e0), 6))
    × (closed (node (operation (call Hill)) (of_list (lit 0 ∷ lit 2e0 ∷ lit 1e0 ∷ []))) ≡ (gives (float 0), 4))
    × (closed (node (operation (call Sqrt)) (of_list (lit 2e0 ∷ []))) ≡ (gives (float 0x3ff6a09e667f3bcd), 2))
    × (closed (node (operation (call Ceil)) (of_list (lit 0xbfe0000000000000 ∷ []))) ≡ (gives (float 0x8000000000000000), 2))
unfolding add sub mul div rem neg lt le eq ne of_bits to_bits round whole absolute floor ceil sqrt_at hold half_at word_at long_at encode formula_of transfer_of tree_in head_at head_of fields_at node_bytes symbols_of values_of hill_work density_work compile less_one derive line_limit legs
flights = (refl, refl, refl, refl, refl, refl, refl, refl, refl, refl, refl, refl, refl)

-- ---- the total line

-- Conditional(a < 1, 1 / a, Exp(a))
abbrev choosing : Formula
choosing =
    node conditional
    (of_list (node (operation (compare Lt)) (of_list (sym 0 ∷ lit 1e0 ∷ [])) ∷ of2 Divide (lit 1e0) (sym 0) ∷ node (operation (call Exp)) (of_list (sym 0 ∷ [])) ∷ []))

abbrev listing_of : Formula → List ℕ → List ℕ
listing_of f lines = legs (some (encode f)) lines

-- "decimal counts of the value, domain, ask and bad lines and the sum of their steps .. with the empty list giving five zeros. A refused formula prints its
-- total line with zeros."
pub totals :
    (listing_of choosing (ascii "a:p\nbff0000000000000\n0000000000000000\n4000000000000000\nx\n\n")
    ≡ ascii "no,answer,detail,steps\n1,value,bff0000000000000,9\n2,domain,root.then,6\n3,ask,0:4000000000000000,5\n4,bad,3,0\n5,bad,5,0\ntotal,1,1,1,2,20\n")
    × (listing_of (lit 1e0) (ascii "\n\n\n") ≡ ascii "no,answer,detail,steps\n1,value,3ff0000000000000,1\n2,value,3ff0000000000000,1\ntotal,2,0,0,0,2\n")
    × (listing_of (lit 1e0) [] ≡ ascii "no,answer,detail,steps\ntotal,0,0,0,0,0\n")
    × (listing_of (sym 0) (ascii "\n") ≡ ascii "no,answer,detail,steps\n0,refused,6:root,0\ntotal,0,0,0,0,0\n")
    × (legs none (ascii "a:p\n") ≡ ascii "no,answer,detail,steps\n0,refused,1:,0\ntotal,0,0,0,0,0\n")
unfolding add sub mul div rem neg lt le eq ne of_bits to_bits round whole absolute half_at word_at long_at encode formula_of transfer_of tree_in head_at head_of fields_at node_bytes symbols_of values_of compile line_limit legs
totals = (refl, refl, refl, refl, refl)

-- ---- a formula file cut in transfer

abbrev flight_bytes : List ℕ
flight_bytes = encode flight

-- `legs` on a formula file and a name line: number and node of the refusal
abbrev refused_by : List ℕ → List ℕ → List ℕ → Type 0
refused_by file names detail =
    legs (some file) (names ++ ascii "\n") ≡ ascii "no,answer,detail,steps\n0,refused," ++ detail ++ ascii ",0\ntotal,0,0,0,0,0\n"

-- the flight's formula with another byte at a place
abbrev spoilt : ℕ → ℕ → List ℕ
spoilt at x = set flight_bytes at x

abbrev minimum : ℕ → List ℕ
minimum n = node_bytes (inner_fields 7 11 n)

abbrev leaf : List ℕ
leaf = encode (sym 0)

-- "whether bytes ended early, a field is wrong, or bytes follow the root's last child, and at which node from 0": the worked flight's formula has 9 nodes
pub transfers :
    refused_by [] name_line (ascii "12:0")
    × refused_by (take 5 flight_bytes) name_line (ascii "12:0")
    × refused_by (take 16 flight_bytes) name_line (ascii "12:1")
    × refused_by (take 40 flight_bytes) name_line (ascii "12:2")
    × refused_by (take 40 flight_bytes) (ascii "a:p,") (ascii "12:2")
    × refused_by (take 128 flight_bytes) name_line (ascii "12:8")
    × refused_by (take 143 flight_bytes) name_line (ascii "12:8")
    × refused_by flight_bytes (ascii "a:p,") (ascii "3:")
    × refused_by (flight_bytes ++ (0 ∷ [])) name_line (ascii "13:9")
    × refused_by (flight_bytes ++ leaf) name_line (ascii "13:9")
    × refused_by (spoilt 48 9) name_line (ascii "2:3")
    × refused_by (take 70 (spoilt 48 9)) name_line (ascii "2:3")
    × refused_by (take 50 (spoilt 48 9)) name_line (ascii "12:3")
    × refused_by (spoilt 2 3) name_line (ascii "2:0")
    × refused_by (minimum 2 ++ leaf ++ leaf ++ leaf) (ascii "a:p") (ascii "13:3")
    × refused_by (minimum 4 ++ leaf ++ leaf ++ leaf) (ascii "a:p") (ascii "12:4")
unfolding half_at word_at long_at encode formula_of transfer_of tree_in head_at head_of fields_at node_bytes symbols_of values_of compile line_limit legs
transfers = (refl, refl, refl, refl, refl, refl, refl, refl, refl, refl, refl, refl, refl, refl, refl, refl)
