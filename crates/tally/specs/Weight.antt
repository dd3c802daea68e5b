-- A node's counts, by its fields and the counts of its children.
use Rattle.std.specs.Prelude.{Bool, cond, not, ◌&&◌, ℕ, ◌+◌, ◌-◌, ◌*◌, eqb, ltb}
use Rattle.reader.specs.declared.Fields.{Fields}
use Rattle.lower.specs.Operators.{chooses_at, listing_at}
use Rattle.tally.specs.declared.Counts.{Counts}

-- so much more at the same byte
abbrev pub more : Counts → ℕ → ℕ → ℕ → Counts
more t code paths entries =
    record { node = t.node; code = t.code + code; paths = t.paths + paths; entries = t.entries + entries }

-- a leaf, or what is refused before its children are looked at
abbrev pub one : Counts → Counts
one t = record { node = t.node; code = 1; paths = 1; entries = 0 }

-- And and Or are a branch for each child but the last, with a constant for its other arm
unfoldable pub weight : Fields → Counts → Counts
weight f t =
    let n = f.children in
    cond (ltb f.kind 3) (one t)
    (cond (eqb f.kind 6) (cond (ltb n 2) (one t) (more t (5 * (n - 1)) (2 * (n - 1)) 0))
    (cond (chooses_at f.kind f.operator) (cond (eqb n 3) (more t 4 1 0) (one t))
    (cond (listing_at f.kind f.operator) (more t 1 1 n) (more t 1 1 0))))

-- And, Or and Ifelse with a wrong count drop their children
unfoldable pub drops_at : Fields → Bool
drops_at f = cond (eqb f.kind 6) (ltb f.children 2) (chooses_at f.kind f.operator && not (eqb f.children 3))
