-- "ends with a line `total,V,D,Q,B,S`: decimal counts of the value, domain, ask and bad lines and the sum of their steps. It is proved that each
-- equals what the printed records above it add up to": the total is read off that text, cut at newlines and at commas.
use Rattle.std.specs.Prelude.{Bool, true, false, List, [], ◌∷◌, ◌++◌, ℕ, ◌+◌, ◌-◌, ◌*◌, get_or}
use Rattle.formula.specs.Text.{ascii, decimal, same_bytes, split}
use Rattle.formula.specs.Values.{lines_of}

-- V, D, Q, B and S
pub record Totals : Type 0 where
  pub values : ℕ
  pub domains : ℕ
  pub asks : ℕ
  pub bads : ℕ
  pub steps : ℕ

-- "the empty list giving five zeros"
abbrev pub nothing : Totals
nothing = record { values = 0; domains = 0; asks = 0; bads = 0; steps = 0 }

abbrev pub plus : Totals → Totals → Totals
plus a b =
    record {
      values = a.values + b.values;
      domains = a.domains + b.domains;
      asks = a.asks + b.asks;
      bads = a.bads + b.bads;
      steps = a.steps + b.steps;
    }

-- what one line adds: one in the column of its answer, and its steps
abbrev pub one_if : Bool → ℕ
one_if true = 1
one_if false = 0

abbrev pub one_line : List ℕ → ℕ → Totals
one_line answer steps =
    record {
      values = one_if (same_bytes answer (ascii "value"));
      domains = one_if (same_bytes answer (ascii "domain"));
      asks = one_if (same_bytes answer (ascii "ask"));
      bads = one_if (same_bytes answer (ascii "bad"));
      steps = steps;
    }

-- ---- a line of text

-- what stands between two commas, from 0 on
abbrev pub field : ℕ → List ℕ → List ℕ
field k line = get_or (split 44 line) k []

-- the number that digits are in decimal, after those of n
abbrev pub decimal_after : ℕ → List ℕ → ℕ
decimal_after n [] = n
decimal_after n (d ∷ ds) = decimal_after (10 * n + (d - 48)) ds

abbrev pub of_decimal : List ℕ → ℕ
of_decimal digits = decimal_after 0 digits

-- the second field is the answer, the fourth the steps. A refusal's line has another answer, and 0 steps.
abbrev pub counted : List ℕ → Totals
counted line = one_line (field 1 line) (of_decimal (field 3 line))

abbrev pub add_up : List (List ℕ) → Totals
add_up [] = nothing
add_up (line ∷ lines) = plus (counted line) (add_up lines)

-- ---- a text with its total

abbrev pub total_line : Totals → List ℕ
total_line t =
    ascii "total,"
    ++ decimal t.values
    ++ ascii ","
    ++ decimal t.domains
    ++ ascii ","
    ++ decimal t.asks
    ++ ascii ","
    ++ decimal t.bads
    ++ ascii ","
    ++ decimal t.steps
    ++ ascii "\n"

-- the lines of a text, and under them what they add up to
abbrev pub with_total : List ℕ → List ℕ
with_total above = above ++ total_line (add_up (lines_of above))
