-- What a symbol's lowering answers.
use Rattle.std.specs.Prelude.{◌≡◌, Bool, true, false, List, ℕ, ◌+◌, ◌*◌, get_or}
use Rattle.refusals.specs.declared.Refusal.TheVariants.{UnknownSymbol}
use Rattle.formula.specs.Names.{varies}
use Rattle.names.specs.Lines.{symbol_kind}
use Rattle.names.specs.declared.Kind.{Kind}
use Rattle.names.specs.declared.Kind.TheVariants.{Parameter}
use Rattle.layout.specs.Image.{slot}
use Rattle.writer.specs.Over.{over}
use Rattle.lower.specs.declared.Cursor.{Cursor}
use Rattle.lower.specs.declared.Site.{Site}
use Rattle.lower.specs.Low.{Low, Done, Faulty}

-- the symbol is in the table, or it is refused
abbrev pub Loads : Bool → List Kind → Site → ℕ → Cursor → List ℕ → List ℕ → Low → Type 0
Loads true kinds s i c p p' r =
    (r
    ≡ Done (record { a = c.reg; b = 0; c = 0; boolean = false; dynamic = varies (symbol_kind (get_or kinds i Parameter)) })
    (record { node = c.node; reg = c.reg + 1; code = c.code + 1; path = c.path; entry = c.entry }))
    × (p' ≡ over p (32 + 24 * c.code) (slot 1 0 c.reg i 0 0 s.path))
Loads false kinds s i c p p' r = (r ≡ Faulty UnknownSymbol s.path) × (p' ≡ p)
