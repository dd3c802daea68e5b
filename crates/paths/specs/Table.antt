-- A table of path records from a byte on, 12 bytes a record: the parent's number, the step, the length of the text. Record 0 is the root's.
use Rattle.std.specs.Prelude.{◌≡◌, Bool, cond, true, ◌&&◌, List, ℕ, zero, suc, ◌+◌, ◌*◌, ◌≤◌, length, eqb, ltb}
use Rattle.formula.specs.Text.{word_at}
use Rattle.formula.specs.Path.{Path, Step, ◌▸◌, root, step_text}
use Rattle.layout.specs.Opcode.{step_of}

unfoldable pub parent_in : List ℕ → ℕ → ℕ → ℕ
parent_in b base k = word_at b (base + 12 * k)

unfoldable pub step_in : List ℕ → ℕ → ℕ → Step
step_in b base k = step_of (word_at b (base + 12 * k + 4))

unfoldable pub length_in : List ℕ → ℕ → ℕ → ℕ
length_in b base k = word_at b (base + 12 * k + 8)

-- with as many turns as its own number: a parent's number is smaller
unfoldable pub climbed : List ℕ → ℕ → ℕ → ℕ → Path
climbed b base zero k = root
climbed b base (suc turns) k = cond (eqb k 0) root (climbed b base turns (parent_in b base k) ▸ step_in b base k)

-- the path of the record k
unfoldable pub path_in_table : List ℕ → ℕ → ℕ → Path
path_in_table b base k = climbed b base k k

-- the root's text has 4 bytes; any other has a smaller parent, and its text is its parent's and its step's
unfoldable pub linked : List ℕ → ℕ → ℕ → Bool
linked b base k =
    cond (eqb k 0) (eqb (length_in b base 0) 4)
    (ltb (parent_in b base k) k && eqb (length_in b base k) (length_in b base (parent_in b base k) + length (step_text (step_in b base k))))

-- every record to k is so
abbrev pub Linked : List ℕ → ℕ → ℕ → Type 0
Linked b base k = (j : ℕ) → j ≤ k → linked b base j ≡ true

-- and the text of record k has room
abbrev pub FitsPath : List ℕ → ℕ → ℕ → ℕ → Type 0
FitsPath b base k room = Linked b base k × (length_in b base k ≤ room)
