-- The totals in the code beside those of the definition.
use Rattle.std.specs.Prelude.{◌≡◌, ℕ, ◌+◌, ◌*◌, ◌%◌, ◌^◌, ◌<◌, ◌≤◌, List}
use Rattle.run.specs.Views.{answer_of}
use Rattle.listing.specs.Legs.{line_of, record_text}
use Rattle.listing.specs.Totals as Total
use Rattle.listing.specs.Totals.{counted, plus}
use Rattle.lines.specs.declared.record.Outcome.{Outcome}
use Rattle.lines.specs.declared.sums.Totals.{Totals}

abbrev pub totals_of : Totals → Total.Totals
totals_of t = record { values = t.values; domains = t.domains; asks = t.asks; bads = t.bads; steps = t.steps }

-- the numbers that 64 bits hold of them
abbrev pub wrapped : Total.Totals → Total.Totals
wrapped t =
    record {
      values = t.values % 2 ^ 64;
      domains = t.domains % 2 ^ 64;
      asks = t.asks % 2 ^ 64;
      bads = t.bads % 2 ^ 64;
      steps = t.steps % 2 ^ 64;
    }

-- with a line more: what its record adds, whatever its number
abbrev pub Adds : Totals → Outcome → Totals → Type 0
Adds t o r = (b : List ℕ) (n : ℕ) → totals_of r ≡ wrapped (plus (totals_of t) (counted (record_text n (line_of (answer_of b o.answer) o.count))))

-- totals of fewer than n lines, each of at most 2^32 steps
pub record Few (n : ℕ) (t : Total.Totals) : Type 0 where
  pub lines : t.values + t.domains + t.asks + t.bads < n
  pub steps : t.steps ≤ n * 4294967296
