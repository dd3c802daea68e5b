-- Bytes written over a part of a slice.
use Rattle.std.specs.Prelude.{List, ℕ, ◌+◌, ◌*◌}
use Rattle.writer.specs.Over.{over}
use Rattle.lower.specs.declared.Layout.{Layout}
use Rattle.lower.specs.declared.Cursor.{Cursor}

-- the bytes of instructions, of path records and of list entries
pub record Chunk : Type 0 where
  pub code : List ℕ
  pub records : List ℕ
  pub lists : List ℕ

unfoldable pub laid : List ℕ → ℕ → ℕ → ℕ → Chunk → List ℕ
unfolding over
laid p a b c w = over (over (over p a w.code) b w.records) c w.lists

-- each at the place that is next free
abbrev pub written : Layout → Cursor → List ℕ → Chunk → List ℕ
written L c p w = laid p (32 + 24 * c.code) (L.paths + 12 * c.path) (L.lists + 4 * c.entry) w
