-- The bytes and the records of a node, of a literal and of a copy.
use mathlib.Core.Path.{◌≡◌, refl, sym, ap, ◌∙◌}
use mathlib.Core.Bool.{Bool, true, false}
use mathlib.Core.List.{List, [], ◌∷◌, append-nil}
use Prim.Native.Nat.{ℕ, ◌+◌, ◌*◌, ◌/◌, ◌%◌, ◌≤◌, ◌<◌}
use native.Mathlib.Omega.{arith}
use lib.ListN.{length, take, drop, replicate}
use Rattle.formula.specs.Text.{byte_at, half_at, little_endian}
use Rattle.writer.specs.Over.{over}
use Rattle.formula.specs.Operator.{unary, binary, compare, call, Positive, Negative, Not, Add, Subtract, Multiply, Divide, Power, Modulo, Exp, Log, Log10, Sqrt, Sin, Cos, Tan, Tanh, Abs, Floor, Ceil, Min, Max, Hill, InverseGaussianDensity}
use Rattle.formula.specs.Formula.{Head, number, truth, symbol, operation, junction, ifelse, conditional, malformed, node, last, size, well_formed}
use Rattle.formula.specs.Node.{Fields, fields_at, fields_of, encode, node_bytes, inner_fields, node_size}
use Rattle.derivative.specs.Records.{Record, Recorded, erase, by_rule, copy, arm, recorded_literal, record_bytes, record_size, list_bytes}
use Rattle.derivative.specs.Provenance.{numbered}
use Rattle.reader.proofs.Bytes.{Bytes}
use Rattle.reader.proofs.Trees.{size_pos}
use Rattle.reader.proofs.Encode.{copied_tree}
use Rattle.survey.specs.Table.{tree, Owned, IsChild, row_in}
use Rattle.survey.specs.declared.Row.{Row}
use Rattle.survey.proofs.Rows.{own_row}
use Rattle.survey.proofs.Trees.{tree_ends, opened}
use Rattle.differentiate.specs.Written.{start, step, bytes, coded_arm, arm_of, arm_literal, copy_of}
use Rattle.differentiate.proofs.Recorded.{record_length, bytes_length, numbered_length, copy_numbers, copy_nodes, copy_is, copy_none}
pub use Rattle.reader.proofs.Encode.{node_length}

pub node_is : (k o n : ℕ) → n < 256 → k ∷ o ∷ n ∷ 0 ∷ 0 ∷ 0 ∷ 0 ∷ 0 ∷ 0 ∷ 0 ∷ 0 ∷ 0 ∷ 0 ∷ 0 ∷ 0 ∷ 0 ∷ [] ≡ node_bytes (inner_fields k o n)
unfolding node_bytes
node_is k o n h =
    let a : n % 256 ≡ n = omega arith in
    let z : n / 256 % 256 ≡ 0 = omega arith in
    sym (ap (λ (x : ℕ). k ∷ o ∷ x ∷ n / 256 % 256 ∷ 0 ∷ 0 ∷ 0 ∷ 0 ∷ 0 ∷ 0 ∷ 0 ∷ 0 ∷ 0 ∷ 0 ∷ 0 ∷ 0 ∷ []) a
    ∙ ap (λ (x : ℕ). k ∷ o ∷ n ∷ x ∷ 0 ∷ 0 ∷ 0 ∷ 0 ∷ 0 ∷ 0 ∷ 0 ∷ 0 ∷ 0 ∷ 0 ∷ 0 ∷ 0 ∷ []) z)

pub literal_is : (b : ℕ) → over (replicate 16 0) 8 (little_endian 8 b) ≡ encode (node (number b) last)
unfolding over encode node_bytes
literal_is b = refl

module _ (f : List ℕ) (T : List Row) (k : ℕ) (o : Owned f T k) where
  pub tree_room : node_size * k + node_size * (row_in T k).nodes ≤ length f
  tree_room = omega (arith, (own_row f T k o).nodes, tree_ends f k o.formed)

pub tree_bytes : (f : List ℕ) (k : ℕ) → well_formed (tree f k) ≡ true → Bytes f → (n : ℕ) → n ≡ node_size * size (tree f k) → take n (drop (node_size * k) f) ≡ encode (tree f k)
unfolding tree
tree_bytes f k w h n e = ap (λ (m : ℕ). take m (drop (node_size * k) f)) e ∙ sym (copied_tree f h (length f) (node_size * k) w)

-- ---- a node or its record

pub start_record : (m : Bool) (r : Record) (b : List ℕ) → m ≡ true → record_bytes r ≡ start m r b
start_record m r b e = sym (ap (λ (x : Bool). start x r b) e)

pub literal_record : (m : Bool) (r k b : ℕ) → m ≡ true → record_bytes (by_rule r k) ≡ bytes m (recorded_literal r k b)
unfolding bytes
literal_record m r k b e = start_record m (by_rule r k) _ e ∙ sym (append-nil (start m (by_rule r k) _))

pub literal_node : (m : Bool) (r k b : ℕ) → m ≡ false → encode (node (number b) last) ≡ bytes m (recorded_literal r k b)
unfolding bytes encode
literal_node m r k b e = sym (ap (λ (x : Bool). bytes x (recorded_literal r k b)) e)

-- the room that it takes
pub start_length : (m : Bool) (r : Record) (f : Fields) → length (start m r (node_bytes f)) ≡ step m
start_length true r f = record_length r
start_length false r f = node_length f

pub bytes_room : (m : Bool) (t : Recorded) (x : List ℕ) (n : ℕ) → bytes m t ≡ x → length x ≤ n → step m ≤ n
bytes_room true t x n e h = omega (arith, ap length e, bytes_length true t, size_pos (erase t))
bytes_room false t x n e h = omega (arith, ap length e, bytes_length false t, size_pos (erase t))

-- ---- copies

module _ (f : List ℕ) (T : List Row) (k : ℕ) (o : Owned f T k) (m : Bool) where
  pub copy_record : m ≡ true → list_bytes (numbered k ((row_in T k).nodes)) ≡ bytes m (copy k (tree f k))
  copy_record e =
      ap (λ (n : ℕ). list_bytes (numbered k n)) (own_row f T k o).nodes ∙ copy_numbers k (tree f k) ∙ sym (ap (λ (x : Bool). bytes x (copy k (tree f k))) e)

  pub copy_node : m ≡ false → encode (tree f k) ≡ bytes m (copy k (tree f k))
  copy_node e = copy_nodes k (tree f k) ∙ sym (ap (λ (x : Bool). bytes x (copy k (tree f k))) e)

pub copy_length : (f : List ℕ) (k : ℕ) (m : Bool) → m ≡ true → length (bytes m (copy k (tree f k))) ≡ record_size * size (tree f k)
copy_length f k m e =
    ap (λ (x : Bool). length (bytes x (copy k (tree f k)))) e ∙ ap length (sym (copy_numbers k (tree f k))) ∙ numbered_length k (size (tree f k))

pub child_text : (m : Bool) (f : List ℕ) (k i r : ℕ) → IsChild f k i r → bytes m (copy r (tree f r)) ≡ bytes m (copy_of k (tree f k) i)
child_text m f k i r c = ap (bytes m) (sym (copy_is f k i r c))

pub none_text : (m : Bool) (f : List ℕ) (k i : ℕ) → well_formed (tree f k) ≡ true → half_at f (node_size * k + 2) ≤ i
    → arm_literal m k (tree f k) 0 ≡ bytes m (copy_of k (tree f k) i)
none_text m f k i w h = ap (bytes m) (sym (copy_none f k i w h))

-- ---- the number of an arm

coded_head : (h : Head) (n : ℕ) → coded_arm (fields_of h n).kind (fields_of h n).operator ≡ arm h
coded_head (number b) n = refl
coded_head (truth b) n = refl
coded_head (symbol i) n = refl
coded_head (operation (unary Positive)) n = refl
coded_head (operation (unary Negative)) n = refl
coded_head (operation (unary Not)) n = refl
coded_head (operation (binary Add)) n = refl
coded_head (operation (binary Subtract)) n = refl
coded_head (operation (binary Multiply)) n = refl
coded_head (operation (binary Divide)) n = refl
coded_head (operation (binary Power)) n = refl
coded_head (operation (binary Modulo)) n = refl
coded_head (operation (compare o)) n = refl
coded_head (operation (call Exp)) n = refl
coded_head (operation (call Log)) n = refl
coded_head (operation (call Log10)) n = refl
coded_head (operation (call Sqrt)) n = refl
coded_head (operation (call Sin)) n = refl
coded_head (operation (call Cos)) n = refl
coded_head (operation (call Tan)) n = refl
coded_head (operation (call Tanh)) n = refl
coded_head (operation (call Abs)) n = refl
coded_head (operation (call Floor)) n = refl
coded_head (operation (call Ceil)) n = refl
coded_head (operation (call Min)) n = refl
coded_head (operation (call Max)) n = refl
coded_head (operation (call Hill)) n = refl
coded_head (operation (call InverseGaussianDensity)) n = refl
coded_head (junction j) n = refl
coded_head ifelse n = refl
coded_head conditional n = refl
coded_head malformed n = refl

pub arm_coded : (f : List ℕ) (k : ℕ) → well_formed (tree f k) ≡ true → coded_arm (byte_at f (node_size * k)) (byte_at f (node_size * k + 1)) ≡ arm_of (tree f k)
unfolding fields_at
arm_coded f k w =
    let o = opened f k w in
    ap (λ (F : Fields). coded_arm F.kind F.operator) (sym o.back) ∙ coded_head o.head (half_at f (node_size * k + 2)) ∙ sym (ap arm_of o.is)
