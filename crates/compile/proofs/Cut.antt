-- A formula file cut, lengthened or spoilt in transfer, as compile refuses it. Derive and `legs` hand compile's refusal on.
use mathlib.Core.Path.{◌≡◌, ap, ◌∙◌}
use mathlib.Core.List.{List, [], ◌++◌}
use mathlib.Core.Option.{some}
use Prim.Native.Nat.{ℕ, suc, ◌*◌, ◌/◌, ◌≤◌, ◌<◌}
use lib.ListN.{drop, length, take}
use borrow.Author.Tests.{le-ltb}
use mathlib.Core.Bool.{false}
use Rattle.refusals.specs.Numbers.{ended_early, left_over, wrong_field}
use Rattle.formula.specs.Formula.{Formula, size}
use Rattle.formula.specs.Names.{symbols_of}
use Rattle.formula.specs.Node.{formula_of, head_at, node_size}
use Rattle.formula.specs.Path.{path_room}
use Rattle.formula.specs.Transfer.{Transfer, transfer_of}
use Rattle.machine.specs.Compile.{compile, program_room, read, refused_at, sized}
use Rattle.reader.specs.Read.{is_some}
use Rattle.reader.specs.Transfers.{nodes}
use Rattle.reader.proofs.Transfers.{cut_early, longer_left_over, spoilt_wrong}

-- with slices that are long enough the bytes decide first
received : (b l : List ℕ) (path program : ℕ) → path_room ≤ path → program_room (length b) ≤ program → compile b l path program ≡ read sized (transfer_of b) (symbols_of l)
unfolding compile
received b l path program h k = rw (le-ltb path path_room h, le-ltb program (program_room (length b)) k)

module _ (b : List ℕ) (f : Formula) (is : formula_of b ≡ some f) (l : List ℕ) (path program : ℕ) (h : path_room ≤ path) where
  pub cut_refused : (c : ℕ) → c < length b → program_room (length (take c b)) ≤ program → compile (take c b) l path program ≡ refused_at ended_early (c / 16)
  cut_refused c s k = received (take c b) l path program h k ∙ ap (λ (X : Transfer). read sized X (symbols_of l)) (cut_early b f is c s)

  pub longer_refused : (more : List ℕ) → (more ≡ [] → ⊥) → program_room (length (b ++ more)) ≤ program → compile (b ++ more) l path program ≡ refused_at left_over (size f)
  longer_refused more s k = received (b ++ more) l path program h k ∙ ap (λ (X : Transfer). read sized X (symbols_of l)) (longer_left_over b f is more s)

  pub spoilt_refused : (n : ℕ) (w : List ℕ) → length w ≡ node_size → is_some (head_at w 0) ≡ false → node_size * suc n ≤ length b
      → (let c = nodes n b ++ (w ++ drop (node_size * suc n) b) in program_room (length c) ≤ program → compile c l path program ≡ refused_at wrong_field n)
  spoilt_refused n w e s m k =
      received (nodes n b ++ (w ++ drop (node_size * suc n) b)) l path program h k ∙ ap (λ (X : Transfer). read sized X (symbols_of l)) (spoilt_wrong b f is n w e s m)
