-- What `legs` prints for a formula file that was cut, lengthened or spoilt in transfer, whatever its input.
use Rattle.std.proofs.Common.{◌≡◌, ℕ, suc, ◌*◌, ◌/◌, ◌<◌, ◌≤◌, Bool, false, cond, List, [], ◌∷◌, ◌++◌, length, take, drop, ap, ◌∙◌, arith, length-take-le, le-ltb}
use mathlib.Core.Option.{none, some}
use Rattle.refusals.specs.Numbers.{ended_early, left_over, wrong_field}
use Rattle.formula.specs.Formula.{Formula, size}
use Rattle.formula.specs.Node.{formula_of, head_at, node_size}
use Rattle.formula.specs.Path.{path_room}
use Rattle.formula.specs.Values.{lines_of}
use Rattle.machine.specs.Compile.{Compiled, program_room, refused_at}
use Rattle.reader.specs.Read.{is_some}
use Rattle.reader.specs.Transfers.{nodes}
use Rattle.compile.proofs.Cut.{cut_refused, longer_refused, spoilt_refused}
use Rattle.listing.specs.Legs.{compiled, formula_room, header, legs, listed, node_line, refusal_line, with_input}
use Rattle.listing.specs.Totals.{nothing, total_line, with_total}
use Rattle.listing.proofs.Sums.{node_total}

room_le : (n : ℕ) → n ≤ formula_room → program_room n ≤ program_room formula_room
room_le n h = omega arith

-- the header, the refusal's line and five zeros
abbrev pub refused_output : ℕ → ℕ → List ℕ
refused_output n k = header ++ (node_line n k ++ total_line nothing)

module _ (file : List ℕ) (n k : ℕ) (short : length file ≤ formula_room) (by : (names : List ℕ) → compiled file names ≡ refused_at n k) where
  any_input : (lines : List (List ℕ)) → with_input file lines ≡ node_line n k
  any_input [] = ap (λ (X : Compiled). listed [] X) (by [])
  any_input (names ∷ values) = ap (λ (X : Compiled). listed values X) (by names)

  refused_always : (input : List ℕ) → legs (some file) input ≡ refused_output n k
  unfolding legs
  refused_always input =
      ap (λ (t : Bool). header ++ with_total (cond t (refusal_line 1 none) (with_input file (lines_of input)))) (le-ltb formula_room (length file) short)
      ∙ ap (λ (xs : List ℕ). header ++ with_total xs) (any_input (lines_of input))
      ∙ ap (λ (xs : List ℕ). header ++ xs) (node_total n k)

module _ (b : List ℕ) (f : Formula) (is : formula_of b ≡ some f) where
  enough : path_room ≤ path_room
  enough = omega arith

  pub legs_cut : (c : ℕ) → c < length b → c ≤ formula_room → (input : List ℕ) → legs (some (take c b)) input ≡ refused_output ended_early (c / 16)
  legs_cut c h s =
      let l : length (take c b) ≤ formula_room = omega (arith, length-take-le c b (omega arith)) in
      refused_always (take c b) ended_early (c / 16) l
      (λ names. cut_refused b f is names path_room (program_room formula_room) enough c h (room_le (length (take c b)) l))

  pub legs_longer : (more : List ℕ) → (more ≡ [] → ⊥) → length (b ++ more) ≤ formula_room → (input : List ℕ) → legs (some (b ++ more)) input ≡ refused_output left_over (size f)
  legs_longer more n l =
      refused_always (b ++ more) left_over (size f) l
      (λ names. longer_refused b f is names path_room (program_room formula_room) enough more n (room_le (length (b ++ more)) l))

  pub legs_spoilt : (k : ℕ) (w : List ℕ) → length w ≡ node_size → is_some (head_at w 0) ≡ false → node_size * suc k ≤ length b
      → (let file = nodes k b ++ (w ++ drop (node_size * suc k) b) in length file ≤ formula_room → (input : List ℕ) → legs (some file) input ≡ refused_output wrong_field k)
  legs_spoilt k w e n m l =
      let file = nodes k b ++ (w ++ drop (node_size * suc k) b) in
      refused_always file wrong_field k l
      (λ names. spoilt_refused b f is names path_room (program_room formula_room) enough k w e n m (room_le (length file) l))
