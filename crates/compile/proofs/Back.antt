-- What compile wrote is read back as the program of the formula.
use mathlib.Core.Path.{◌≡◌, sym, ap, ◌∙◌}
use mathlib.Core.Bool.{Bool, true, false, cond, ◌||◌}
use mathlib.Core.List.{List, ◌++◌}
use mathlib.Core.Option.{Option, none, some}
use Prim.Native.Nat.{ℕ, ◌-◌, ◌≤◌}
use native.Mathlib.Omega.{arith}
use lib.ListN.{length}
use lib.Dec.{eqb, leb, ltb}
use borrow.Author.Tests.{leb-true, ltb-true}
use Rattle.formula.specs.Text.{zeros}
use Rattle.formula.specs.Path.{path_room, root}
use Rattle.formula.specs.Formula.{Formula, Formulas, count, depth, formula_limit, last, next, node, size}
use Rattle.formula.specs.Formula as Tree
use Rattle.formula.specs.Names.{Symbol, kinds, symbols_of}
use Rattle.formula.specs.Node.{formula_of}
use Rattle.formula.specs.Transfer.{Transfer, ended_early, left_over, transfer_of, whole, wrong_field}
use Rattle.formula.specs.Term.{term}
use Rattle.machine.specs.Check.{Fault, fault}
use Rattle.machine.specs.Compile.{Compiled, accepted, compile, lowered_or, own_context, program_room, read, sized}
use Rattle.machine.specs.Compile as Compile
use Rattle.machine.specs.Lower.{program}
use Rattle.machine.proofs.Accepted.{accepted_formula}
use Rattle.machine.proofs.Size.{path_size}
use Rattle.layout.specs.Image.{image}
use Rattle.layout.specs.Decode.{program_at}
use Rattle.layout.proofs.Literals.{FormulaLiterals, FormulasLiterals, HeadLiteral, literals}
use Rattle.layout.proofs.ReadBack.{read_back}
use Rattle.reader.specs.Writable.{all_writable, writable, writable_head}
use Rattle.reader.proofs.Bytes.{Bytes}
use Rattle.reader.proofs.Encode.{writable_tree}
use Rattle.reader.proofs.Heads.{and_first, and_second}
use Rattle.reader.proofs.Scan.{formula_in, whole_formula}
use Rattle.names.proofs.Told.{kinds_length, names_few}

-- ---- what was accepted

sized_parts : (b : Bool) (o : Option Fault) (g f : Formula) (ts ss : List Symbol) → cond b (lowered_or g ts o) (Compile.refused 4 (some root)) ≡ accepted f ss → (g ≡ f) × (ts ≡ ss)
sized_parts true none g f ts ss e = (cc, cc)
sized_parts true (some x) g f ts ss e = absurd (let z : ◌≡◌ {A = ℕ} 0 1 = cc in omega arith)
sized_parts false o g f ts ss e = absurd (let z : ◌≡◌ {A = ℕ} 0 1 = cc in omega arith)

read_parts : (o : Transfer) (s : Option (List Symbol)) (f : Formula) (ss : List Symbol) → read sized o s ≡ accepted f ss → (o ≡ whole f) × (s ≡ some ss)
read_parts (ended_early k) s f ss e = absurd (let z : ◌≡◌ {A = ℕ} 0 1 = cc in omega arith)
read_parts (wrong_field k) s f ss e = absurd (let z : ◌≡◌ {A = ℕ} 0 1 = cc in omega arith)
read_parts (left_over k) s f ss e = absurd (let z : ◌≡◌ {A = ℕ} 0 1 = cc in omega arith)
read_parts (whole g) none f ss e = absurd (let z : ◌≡◌ {A = ℕ} 0 1 = cc in omega arith)
read_parts (whole g) (some ts) f ss e =
    let x = sized_parts (formula_limit g) (fault (own_context ts) (term g) root) g f ts ss e in (ap (λ (y : Formula). whole y) x.0, ap (λ (y : List Symbol). some y) x.1)

long_parts : (b : Bool) (o : Transfer) (s : Option (List Symbol)) (f : Formula) (ss : List Symbol) → cond b (Compile.refused 1 none) (read sized o s) ≡ accepted f ss → (o ≡ whole f) × (s ≡ some ss)
long_parts true o s f ss e = absurd (let z : ◌≡◌ {A = ℕ} 0 1 = cc in omega arith)
long_parts false o s f ss e = read_parts o s f ss e

pub accepted_parts : (b l : List ℕ) (p q : ℕ) (f : Formula) (ss : List Symbol) → compile b l p q ≡ accepted f ss → (formula_of b ≡ some f) × (symbols_of l ≡ some ss)
unfolding compile
accepted_parts b l p q f ss e =
    let x = long_parts (ltb p path_room || ltb q (program_room (length b))) (transfer_of b) (symbols_of l) f ss e in (whole_formula b f x.0, x.1)

-- ---- nodes that can be written have literals of 8 bytes

head_literals : (h : Tree.Head) (n : ℕ) → writable_head h n ≡ true → HeadLiteral h
head_literals (Tree.number v) n w = ltb-true v 18446744073709551616 (and_second (eqb n 0) (ltb v 18446744073709551616) w)
head_literals (Tree.truth v) n w = tt
head_literals (Tree.symbol i) n w = tt
head_literals (Tree.operation o) n w = tt
head_literals (Tree.junction j) n w = tt
head_literals Tree.ifelse n w = tt
head_literals Tree.conditional n w = tt
head_literals Tree.malformed n w = tt

mutual
  pub written_literals : (f : Formula) → writable f ≡ true → FormulaLiterals f
  written_literals (node h ts) w =
      (head_literals h (count ts) (and_first (writable_head h (count ts)) (all_writable ts) w), all_written_literals ts (and_second (writable_head h (count ts)) (all_writable ts) w))

  all_written_literals : (ts : Formulas) → all_writable ts ≡ true → FormulasLiterals ts
  all_written_literals last w = tt
  all_written_literals (next t ts) w =
      (written_literals t (and_first (writable t) (all_writable ts) w), all_written_literals ts (and_second (writable t) (all_writable ts) w))

module _ (b l : List ℕ) (bytes : Bytes b) (p q : ℕ) (f : Formula) (ss : List Symbol) (e : compile b l p q ≡ accepted f ss) where
  small : size f ≤ 256
  small = leb-true (size f) 256 (and_first (leb (size f) 256) (leb (depth f) 32) (accepted_formula b l p q f ss e).limit)

  low : depth f ≤ 32
  low = leb-true (depth f) 32 (and_second (leb (size f) 256) (leb (depth f) 32) (accepted_formula b l p q f ss e).limit)

  pub known : length (kinds ss) ≤ 256
  known = omega (arith, kinds_length ss, names_few l ss (accepted_parts b l p q f ss e).1)

  pub formula_writable : writable f ≡ true
  formula_writable =
      let i = formula_in b f 32 (accepted_parts b l p q f ss e).0 low in
      sym (ap writable i.0) ∙ writable_tree b bytes 32 0 (ap Tree.well_formed i.0 ∙ i.1)

  pub formula_back : (rest : List ℕ) → program_at (image (own_context ss) f ++ rest) ≡ program (own_context ss) (term f)
  formula_back rest =
      read_back (own_context ss) f rest (accepted_formula b l p q f ss e).faultless (omega (arith, small)) (literals f (written_literals f formula_writable)) known
      (omega (arith, small, path_size f))

  -- what compile writes reads back as the definition's program
  pub reads_back : (slice : List ℕ) → program_at (Compile.program_after image (compile b l p q) slice) ≡ program (own_context ss) (term f)
  reads_back slice =
      ap (λ (X : Compiled). program_at (Compile.program_after image X slice)) e ∙ formula_back (zeros (length slice - length (image (own_context ss) f)))
