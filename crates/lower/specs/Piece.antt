-- What lowering a part comes to: its first fault, or the bytes, the value and what is next free.
use Rattle.refusals.specs.Refusals.{refusal_of}
use Rattle.refusals.specs.declared.Refusal.TheVariants.{WrongType}
use Rattle.std.specs.Prelude.{◌≡◌, Bool, true, false, cond, ◌&&◌, ◌||◌, List, [], ◌++◌, map, ℕ, ◌+◌, ◌*◌, ◌≤◌, ◌<◌, get_or, length, eqb}
use Rattle.std.proofs.Math.Option.{Option, none, some}
use Rattle.refusals.specs.Numbers.{invalid_input, unsupported, wrong_type}
use Rattle.formula.specs.Operator.{Boolean, Number, ValueKind, Junction, And, Or, same_kind}
use Rattle.names.specs.Lines.{symbol_kind}
use Rattle.names.specs.declared.Kind.{Kind}
use Rattle.formula.specs.Path.{Path, ◌▸◌, else_arm, then_arm}
use Rattle.formula.specs.Term.{Term, Terms, ◌and◌, apply, branch, chain, end, literal, miscounted, symbol, truth, terms}
use Rattle.machine.specs.Check.{Context, Fault, any_dynamic, all_kind, dynamic, fault, faults, kind, or_else, supported, unless}
use Rattle.machine.specs.Lower.{instruction_count, instruction_counts, register_count, register_counts, result_register, result_registers}
use Rattle.layout.specs.Image.{below, below_all, entries, entry_count, entry_counts, lists, lists_all, path_count, path_counts, path_record, slot, slots, slots_all}
use Rattle.writer.specs.Over.{over}
use Rattle.paths.specs.Table.{Linked, linked, path_in_table}
use Rattle.formula.specs.Formula.{Formulas, sizes}
use Rattle.formula.specs.Node.{children_at, node_size, tree_in}
use Rattle.reader.specs.declared.Fields.{Fields}
use Rattle.lower.specs.Bytes.{Chunk, written}
use Rattle.lower.specs.Operators.{arity_at, gives_boolean, listing_at, opcode_at, stepped_at}
use Rattle.lower.specs.declared.Site.{Site}
use Rattle.lower.specs.declared.Source.{Source}
use Rattle.lower.specs.declared.Layout.{Layout}
use Rattle.lower.specs.declared.Cursor.{Cursor}
use Rattle.lower.specs.declared.Value.{Value}
use Rattle.lower.specs.Low.{Low, Done, Faulty}

-- ---- the context, of the kinds of the symbols
abbrev pub context_of : List Kind → Bool → Context
context_of kinds generated = record { symbols = map symbol_kind kinds; generated = generated }

abbrev pub context : Source → Context
context S = context_of S.kinds.now S.layout.generated

abbrev pub is_boolean : ValueKind → Bool
is_boolean Number = false
is_boolean Boolean = true

abbrev pub kind_if : Bool → ValueKind
kind_if true = Boolean
kind_if false = Number

-- ---- pieces

pub record Piece : Type 0 where
  pub fault : Option Fault
  pub chunk : Chunk
  pub value : Value
  pub next : Cursor

-- the records before the number q are right
abbrev pub Sound : Layout → List ℕ → ℕ → Type 0
Sound L p q = (k : ℕ) → k < q → linked p L.paths k ≡ true

-- what stands before all that is next free is as it was: header and instructions, path records, list entries
pub record Kept (L : Layout) (c : Cursor) (p p' : List ℕ) : Type 0 where
  pub long : length p' ≡ length p
  pub code : (i : ℕ) → i < 32 + 24 * c.code → get_or p' i 0 ≡ get_or p i 0
  pub records : (i : ℕ) → L.paths ≤ i → i < L.paths + 12 * c.path → get_or p' i 0 ≡ get_or p i 0
  pub lists : (i : ℕ) → L.lists ≤ i → i < L.lists + 4 * c.entry → get_or p' i 0 ≡ get_or p i 0

-- a refusal carries the number of its path's record, and leaves free what it wrote beside the records of that path
abbrev pub SaysAt : Option Fault → Piece → Layout → Cursor → List ℕ → List ℕ → Low → Type 0
SaysAt none P L c p p' r = (r ≡ Done P.value P.next) × (p' ≡ written L c p P.chunk) × Sound L p' P.next.path
SaysAt (some x) P L c p p' r =
    (k : ℕ) × (r ≡ Faulty (refusal_of x.number) k) × (path_in_table p' L.paths k ≡ x.place) × Linked p' L.paths k × Kept L c p p'

unfoldable pub Says : Piece → Layout → Cursor → List ℕ → List ℕ → Low → Type 0
Says P L c p p' r = SaysAt P.fault P L c p p' r

-- ---- a term

-- the path records below a term's own
abbrev pub inner_count : Term → ℕ
inner_count (literal b) = 0
inner_count (truth b) = 0
inner_count (symbol i) = 0
inner_count (apply o ts) = path_counts ts
inner_count (branch c y e) = path_count c + path_count y + path_count e
inner_count miscounted = 0

abbrev pub term_value : Context → Term → ℕ → Value
term_value C t r = record { a = result_register t r; b = 0; c = 0; boolean = is_boolean (kind t); dynamic = dynamic C t }

abbrev pub after : Term → ℕ → Cursor → ℕ → Cursor
after t paths c node =
    record {
      node = node;
      reg = c.reg + register_count t;
      code = c.code + instruction_count t;
      path = c.path + paths;
      entry = c.entry + entry_count t;
    }

-- at a path whose record k stands already
unfoldable pub own_piece : Context → Term → Path → ℕ → Cursor → ℕ → Piece
own_piece C t p k c node =
    record {
      fault = fault C t p;
      chunk =
          record {
            code = slots t k c.path c.reg c.code c.entry;
            records = below t p k c.path;
            lists = lists t c.reg;
          };
      value = term_value C t c.reg;
      next = after t (inner_count t) c node;
    }

-- with its own record first
unfoldable pub term_piece : Context → Term → Path → ℕ → Cursor → ℕ → Piece
term_piece C t p parent c node =
    record {
      fault = fault C t p;
      chunk =
          record {
            code = slots t c.path (c.path + 1) c.reg c.code c.entry;
            records = path_record parent p ++ below t p c.path (c.path + 1);
            lists = lists t c.reg;
          };
      value = term_value C t c.reg;
      next = after t (path_count t) c node;
    }

-- ---- children joined by And or Or; none is the constant that ends such a chain, one is itself
abbrev pub ends : Junction → Bool
ends And = false
ends Or = true

abbrev pub joined : Junction → Terms → Term
joined j end = truth (ends j)
joined j (t and ts) = chain j t ts

abbrev pub junction_of : Bool → Junction
junction_of true = And
junction_of false = Or

-- ---- the arms of a condition that is lowered already
abbrev pub branch_fault : Context → ValueKind → Bool → Term → Term → Path → Option Fault
branch_fault C κ varies y e p =
    or_else (unless (same_kind κ Boolean) wrong_type p)
    (or_else (unless (supported C varies) unsupported p)
    (or_else (fault C y (p ▸ then_arm)) (or_else (fault C e (p ▸ else_arm)) (unless (same_kind (kind e) (kind y)) wrong_type p))))

unfoldable pub branch_piece : Context → Value → Term → Term → Path → ℕ → Cursor → ℕ → Piece
branch_piece C v y z p k c node =
    let r = c.reg + 1 in
    let n = c.code + 1 in
    let q = c.path in
    let e = c.entry in
    let r₂ = r + register_count y in
    let n₂ = n + instruction_count y in
    let q₂ = q + path_count y in
    let e₂ = e + entry_count y in
    let r₃ = r₂ + 2 + register_count z in
    let n₃ = n₂ + 2 + instruction_count z in
    record {
      fault = branch_fault C (kind_if v.boolean) v.dynamic y z p;
      chunk =
          record {
            code =
                slot 3 0 c.reg v.a 0 (n₂ + 2) k
                ++ slots y q (q + 1) r n e ++ slot 2 0 r₂ (result_register y r) 0 0 k ++ slot 4 0 (r₂ + 1) 0 0 (n₃ + 1) k
                ++ slots z q₂ (q₂ + 1) (r₂ + 2) (n₂ + 2) e₂ ++ slot 2 0 r₂ (result_register z (r₂ + 2)) 0 0 k;
            records =
                (path_record k (p ▸ then_arm) ++ below y (p ▸ then_arm) q (q + 1))
                ++ (path_record k (p ▸ else_arm) ++ below z (p ▸ else_arm) q₂ (q₂ + 1));
            lists = lists y r ++ lists z (r₂ + 2);
          };
      value = record { a = r₂; b = 0; c = 0; boolean = is_boolean (kind y); dynamic = v.dynamic || dynamic C y || dynamic C z };
      next = record { node = node; reg = r₃; code = n₃ + 1; path = q₂ + path_count z; entry = e₂ + entry_count z };
    }

-- so many registers and instructions further
abbrev pub further : Cursor → ℕ → Cursor
further c n = record { node = c.node; reg = c.reg + n; code = c.code + n; path = c.path; entry = c.entry }

-- the end of both arms, lowered to the values y and z up to e and g: two arms of one kind are one value
abbrev pub arms_answer : ℕ → Value → Value → Value → Cursor → Cursor → Low
arms_answer k v y z e g =
    cond (same_kind (kind_if y.boolean) (kind_if z.boolean))
    (Done (record { a = e.reg; b = 0; c = 0; boolean = y.boolean; dynamic = v.dynamic || y.dynamic || z.dynamic })
    (record { node = g.node; reg = g.reg; code = g.code + 1; path = g.path; entry = g.entry }))
    (Faulty WrongType k)

-- a jump after the first arm's copy, to behind the second's
abbrev pub arms_bytes : ℕ → Value → Value → Cursor → Cursor → List ℕ → List ℕ
arms_bytes k y z e g p =
    cond (same_kind (kind_if y.boolean) (kind_if z.boolean))
    (over (over p (32 + 24 * (e.code + 1)) (slot 4 0 (e.reg + 1) 0 0 (g.code + 1) k)) (32 + 24 * g.code) (slot 2 0 e.reg z.a 0 0 k))
    p

-- ---- the children of an operation, from the i-th on; the entries of its list stand after those of the children
abbrev pub operands_value : Context → Bool → Terms → ℕ → Value
operands_value C want ts r =
    let is = result_registers ts r in
    record { a = get_or is 0 0; b = get_or is 1 0; c = get_or is 2 0; boolean = all_kind (kind_if want) ts; dynamic = any_dynamic C ts }

unfoldable pub operands_piece : Context → Bool → Terms → Path → ℕ → ℕ → Cursor → ℕ → Piece
operands_piece C want ts p i k c node =
    record {
      fault = faults C ts p i;
      chunk =
          record {
            code = slots_all ts k c.path c.reg c.code c.entry;
            records = below_all ts p i k c.path;
            lists = lists_all ts c.reg;
          };
      value = operands_value C want ts c.reg;
      next =
          record {
            node = node;
            reg = c.reg + register_counts ts;
            code = c.code + instruction_counts ts;
            path = c.path + path_counts ts;
            entry = c.entry + entry_counts ts;
          };
    }

-- the entries i on of the operation's own list, where all of the children's lists end before the entry e
abbrev pub listed : Layout → Bool → ℕ → ℕ → List ℕ → List ℕ → List ℕ
listed L false i e is p = p
listed L true i e is p = over p (L.lists + 4 * (e + i)) (entries is)

abbrev pub ListsAt : Option Fault → Layout → Bool → Terms → ℕ → Piece → Cursor → List ℕ → List ℕ → Low → Type 0
ListsAt none L listing ts i P c p p' r =
    (r ≡ Done P.value P.next) × (p' ≡ listed L listing i P.next.entry (result_registers ts c.reg) (written L c p P.chunk))
    × Sound L p' P.next.path
ListsAt (some x) L listing ts i P c p p' r =
    (k : ℕ) × (r ≡ Faulty (refusal_of x.number) k) × (path_in_table p' L.paths k ≡ x.place) × Linked p' L.paths k × Kept L c p p'

unfoldable pub Lists : Layout → Bool → Terms → ℕ → Piece → Cursor → List ℕ → List ℕ → Low → Type 0
Lists L listing ts i P c p p' r = ListsAt P.fault L listing ts i P c p p' r

-- ---- the children that stand from a byte on

unfoldable pub kids : List ℕ → ℕ → ℕ → ℕ → Formulas
kids b d left at = children_at (λ a. tree_in d b a) left at

-- as the arm of a conditional, or as the rest of And or Or
unfoldable pub arm : List ℕ → ℕ → Bool → ℕ → ℕ → Term
unfolding kids
arm b d conjunction left at = joined (junction_of conjunction) (terms (kids b d left at))

-- the byte after them
abbrev pub past : List ℕ → ℕ → ℕ → ℕ → ℕ
past b d left at = at + node_size * sizes (kids b d left at)

-- a site's path
abbrev pub place : Layout → List ℕ → Site → Path
place L p s = path_in_table p L.paths s.path

-- ---- a leaf, by its fields
abbrev pub leaf : Fields → Term
leaf f = cond (eqb f.kind 0) (literal f.value) (cond (eqb f.kind 1) (truth (eqb f.value 1)) (symbol f.symbol))

-- ---- an operation whose children are lowered
unfoldable pub finish_piece : Context → Fields → Value → Path → ℕ → Cursor → Piece
finish_piece C f v p k c =
    let lists? = listing_at f.kind f.operator in
    record {
      fault =
          or_else (unless (arity_at f.kind f.operator f.children) invalid_input p)
          (or_else (unless v.boolean wrong_type p) (unless (supported C (stepped_at f.kind f.operator && v.dynamic)) unsupported p));
      chunk =
          record {
            code =
                cond lists? (slot (opcode_at f.kind f.operator) f.children c.reg c.entry 0 0 k)
                (slot (opcode_at f.kind f.operator) 0 c.reg v.a v.b v.c k);
            records = [];
            lists = [];
          };
      value = record { a = c.reg; b = 0; c = 0; boolean = gives_boolean f.kind f.operator; dynamic = v.dynamic };
      next =
          record {
            node = c.node;
            reg = c.reg + 1;
            code = c.code + 1;
            path = c.path;
            entry = c.entry + cond lists? f.children 0;
          };
    }
