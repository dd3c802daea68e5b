-- What lowering asks of the slice and of what is next free.
use Rattle.std.specs.Prelude.{◌≡◌, List, ℕ, ◌+◌, ◌*◌, ◌≤◌, ◌<◌, length}
use Rattle.paths.specs.Table.{length_in}
use Rattle.formula.specs.Term.{Term, Terms}
use Rattle.machine.specs.Lower.{instruction_count, instruction_counts}
use Rattle.layout.specs.Image.{entry_count, entry_counts, path_count, path_counts}
use Rattle.lower.specs.Piece.{Sound, inner_count}
use Rattle.lower.specs.declared.Layout.{Layout}
use Rattle.lower.specs.declared.Cursor.{Cursor}
use Rattle.lower.specs.declared.Site.{Site}

-- room for so many instructions, path records and entries; the records so far are right, the site's among them
pub record Ready (L : Layout) (p : List ℕ) (s : Site) (c : Cursor) (instructions paths entries : ℕ) : Type 0 where
  pub code : 32 + 24 * (c.code + instructions) ≤ L.paths
  pub records : L.paths + 12 * (c.path + paths) ≤ L.lists
  pub lists : L.lists + 4 * (c.entry + entries) ≤ length p
  pub few : c.path + paths ≤ 1000000
  pub brief : c.code + instructions ≤ 1000000
  pub registers : c.reg ≤ c.code
  pub site : s.path < c.path
  pub long : s.length ≡ length_in p L.paths s.path
  pub short : s.length ≤ 4 + 17 * s.path
  pub sound : Sound L p c.path

-- room for a term below a site, and for one whose own record is the site's
abbrev pub RoomFor : Layout → List ℕ → Site → Cursor → Term → Type 0
RoomFor L p s c t = Ready L p s c (instruction_count t) (path_count t) (entry_count t)

abbrev pub RoomAt : Layout → List ℕ → Site → Cursor → Term → Type 0
RoomAt L p s c t = Ready L p s c (instruction_count t) (inner_count t) (entry_count t)

-- room for the arms of a condition that is lowered already
abbrev pub RoomForArms : Layout → List ℕ → Site → Cursor → Term → Term → Type 0
RoomForArms L p s c y z = Ready L p s c (4 + instruction_count y + instruction_count z) (path_count y + path_count z) (entry_count y + entry_count z)

-- room for the children of an operation, and for so many entries of its own list
abbrev pub RoomForAll : Layout → List ℕ → Site → Cursor → Terms → ℕ → Type 0
RoomForAll L p s c ts listed = Ready L p s c (instruction_counts ts) (path_counts ts) (entry_counts ts + listed)
