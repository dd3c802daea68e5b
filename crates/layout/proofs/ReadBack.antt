-- The bytes that a formula's program is written as are that program, whatever stands after them.
use mathlib.Core.Path.{◌≡◌, refl, ap, ap₂, sym, ◌∙◌, subst}
use mathlib.Core.List.{List, [], ◌∷◌, ◌++◌}
use mathlib.Core.Bool.{Bool, true, false, cond}
use mathlib.Core.Option.{none}
use Prim.Native.Nat.{ℕ, zero, suc, ◌+◌, ◌*◌, ◌≤◌, ◌<◌}
use native.Mathlib.Omega.{arith}
use lib.ListN.{length, get_or, length-append}
use lib.Dec.{eqb}
use lib.Ieee.{binary64, of_bits}
use borrow.Author.Tests.{le-leb, lt-ltb, ltb-true}
use Rattle.arithmetic.specs.Value.{truth_value}
use Rattle.formula.specs.Text.{half_at, little_endian, word_at}
use Rattle.formula.specs.Operator.{Boolean, Number, ValueKind, arity, same_kind}
use Rattle.formula.specs.Path.{Path, ◌▸◌, argument, condition, else_arm, root, then_arm}
use Rattle.formula.specs.Formula.{Formula, size}
use Rattle.formula.specs.Term.{Term, Terms, ◌and◌, apply, branch, end, literal, miscounted, symbol, term, term_count, truth}
use Rattle.machine.specs.Check.{Context, dynamic, fault, faults, kind, supported, unless}
use Rattle.machine.specs.Program.{valid}
use Rattle.machine.specs.Lower.{instruction_count, instruction_counts, lowered, lowered_all, program, register_count, register_counts, result_register, result_registers}
use Rattle.machine.proofs.Laws.{length_lowered, length_lowered_all, none_left, none_right, result_lt, unless_none}
use Rattle.machine.proofs.Size.{Narrow, longest_path, narrow}
use Rattle.machine.proofs.Valid.{program_valid}
use Rattle.layout.specs.Opcode.{kind_number, listing}
use Rattle.layout.specs.Image.{below, entries, entry_count, entry_counts, header, image, lists, lists_all, magic, path_count, path_counts, path_record, slot, slots, slots_all, truth_bits}
use Rattle.layout.specs.Decode.{code_count, entries_from, entry_at, entry_total, input_count, instructions, path_total, program_at, raw_program, record_at, records_ok, register_total, result_at, slot_at, slots_ok, well_formed}
use Rattle.layout.proofs.Bytes.{Holds, head_word, holds_here, holds_left, holds_right, holds_seven, holds_word}
use Rattle.layout.proofs.Lengths.{bounds, length_below, length_image, length_lists, length_lists_all, length_result_registers, length_slots, length_slots_all}
use Rattle.layout.proofs.Literals.{AllLiterals, Literals}
use Rattle.layout.proofs.Slots.{Reads, one_constant, one_copy, one_jump, one_jump_if_false, one_load, one_operation, reads_append, reads_instructions, reads_ok, reads_one}
use Rattle.layout.proofs.Records.{Placed, PlacedAll, named_path, named_root, placed}

truth_back : (v : Bool) → of_bits binary64 (truth_bits v) ≡ truth_value v
unfolding of_bits
truth_back true = refl
truth_back false = refl

truth_fits : (v : Bool) → truth_bits v < 18446744073709551616
truth_fits true = omega arith
truth_fits false = omega arith

-- ---- lists of registers

results_below : (ts : Terms) (r m : ℕ) → r + register_counts ts < m → (j : ℕ) → get_or (result_registers ts r) j 0 < m
results_below end r m h j = omega arith
results_below (t and ts) r m h zero = omega (arith, result_lt t r)
results_below (t and ts) r m h (suc j) = results_below ts (r + register_count t) m (omega arith) j

entries_back : (b : List ℕ) (is : List ℕ) (j : ℕ) → Holds b (entry_at b j) (entries is) → ((i : ℕ) → get_or is i 0 < 4294967296)
    → entries_from b (length is) j ≡ is
unfolding entry_at
entries_back b [] j h small = refl
entries_back b (i ∷ is) j h small =
    let at = entry_at b j in
    let first = holds_word b at (little_endian 4 i) (holds_left b at (little_endian 4 i) (entries is) h) 0 at (omega arith) (omega arith) ∙ head_word i [] (small 0) in
    let more = holds_right b at (little_endian 4 i) (entries is) (entry_at b (suc j)) (omega arith) h in
    ap₂ (λ x y. x ∷ y) first (entries_back b is (suc j) more (λ m. small (suc m)))

-- ---- instructions

module _ (C : Context) (b : List ℕ) (few : path_total b < 4294967296) (known : length C.symbols ≤ 256) where
  -- the ends of registers, instructions, entries and path numbers fit their fields
  abbrev Within : ℕ → ℕ → ℕ → ℕ → Type 0
  Within r n e q = (r < 4294967296) × (n < 4294967296) × (e < 65536) × (q ≤ path_total b)

  mutual
    unfolding slots lists entry_at

    reads : (t : Term) (p : Path) (k r n e : ℕ) → fault C t p ≡ none → Literals t → Placed b t p k → Holds b (slot_at n) (slots t k (suc k) r n e)
        → Holds b (entry_at b e) (lists t r) → Within (r + register_count t) (n + instruction_count t) (e + entry_count t) (k + path_count t)
        → Reads b (lowered t p r n) n e (e + entry_count t)
    reads (literal v) p k r n e ok lit N h g fit =
        reads_one b _ n e e _ (omega arith) (one_constant b few n e k p (named_path b k p N) (omega arith) v r h lit (omega arith))
    reads (truth v) p k r n e ok lit N h g fit =
        reads_one b _ n e e _ (omega arith)
        (rw (← truth_back v) (one_constant b few n e k p (named_path b k p N) (omega arith) (truth_bits v) r h (truth_fits v) (omega arith)))
    reads (symbol i) p k r n e ok lit N h g fit =
        reads_one b _ n e e _ (omega arith)
        (one_load b few n e k p (named_path b k p N) (omega arith) r i h (omega arith) (omega (arith, ltb-true i (length C.symbols) (unless_none _ 6 p ok))))
    reads (apply o ts) p k r n e ok lit N h g fit =
        let is = result_registers ts r in
        let nₒ = n + instruction_counts ts in
        let eₒ = e + entry_counts ts in
        let rₒ = r + register_counts ts in
        let code = slots_all ts k (suc k) r n e in
        let many = length_result_registers ts r in
        let arity_ok = unless_none (arity o (term_count ts)) 5 p (none_left _ _ (none_right (faults C ts p 0) _ ok)) in
        let own = cond (listing o) (length is) 0 in
        let own_is : own ≡ cond (listing o) (term_count ts) 0 = ap (λ x. cond (listing o) x 0) many in
        let small = results_below ts r 4294967296 (omega arith) in
        let lists_there = holds_right b (entry_at b e) (lists_all ts r) _ (entry_at b eₒ) (omega (arith, length_lists_all ts r)) g in
        reads_append b (lowered_all ts p 0 r n) _ n nₒ e eₒ _ (omega (arith, length_lowered_all ts p 0 r n))
        (reads_all ts p 0 k (suc k) r n e (none_left _ _ ok) lit N.1 (holds_left b (slot_at n) code _ h) (holds_left b (entry_at b e) (lists_all ts r) _ g) (omega arith))
        (reads_one b _ nₒ eₒ (eₒ + own) _ (omega arith)
        (one_operation b few nₒ eₒ k p (named_path b k p N.0) (omega arith) o is rₒ
        (holds_right b (slot_at n) code _ (slot_at nₒ) (omega (arith, length_slots_all ts k (suc k) r n e)) h) (rw many arity_ok)
        (λ l. entries_back b is eₒ (subst (λ c. Holds b (entry_at b eₒ) (entries (cond c is []))) l lists_there) small) (omega arith) (omega arith)
        (λ l. let all_own : own ≡ length is = ap (λ c. cond c (length is) 0) l in omega arith) small))
    reads (branch c y z) p k r n e ok lit N h g fit =
        let r₁ = suc (r + register_count c) in
        let n₁ = suc (n + instruction_count c) in
        let r₂ = r₁ + register_count y in
        let n₂ = suc (suc (n₁ + instruction_count y)) in
        let q = suc k in
        let q₁ = q + path_count c in
        let q₂ = q₁ + path_count y in
        let e₁ = e + entry_count c in
        let e₂ = e₁ + entry_count y in
        let p₀ = p ▸ condition in
        let p₁ = p ▸ then_arm in
        let p₂ = p ▸ else_arm in
        let ok₁ = none_right (fault C c p₀) _ ok in
        let ok₂ = none_right (unless (same_kind (kind c) Boolean) 7 p) _ ok₁ in
        let ok₃ = none_right (unless (supported C (dynamic C c)) 8 p) _ ok₂ in
        let ok₄ = none_right (fault C y p₁) _ ok₃ in
        let named = named_path b k p N.0 in
        let there : k < path_total b = omega arith in
        let lc = length_slots c q (suc q) r n e in
        let ly = length_slots y q₁ (suc q₁) r₁ n₁ e₁ in
        let lz = length_slots z q₂ (suc q₂) (suc (suc r₂)) n₂ e₂ in
        let H =
        holds_seven b (slot_at n) (slots c q (suc q) r n e) (slot 3 0 (r + register_count c) (result_register c r) 0 n₂ k) (slots y q₁ (suc q₁) r₁ n₁ e₁)
        (slot 2 0 r₂ (result_register y r₁) 0 0 k) (slot 4 0 (suc r₂) 0 0 (suc (n₂ + instruction_count z)) k) (slots z q₂ (suc q₂) (suc (suc r₂)) n₂ e₂)
        (slot_at (n + instruction_count c)) (slot_at n₁) (slot_at (n₁ + instruction_count y)) (slot_at (suc (n₁ + instruction_count y))) (slot_at n₂) (omega arith) (omega arith)
        (omega arith) (omega arith) (omega arith) (slot 2 0 r₂ (result_register z (suc (suc r₂))) 0 0 k) (slot_at (n₂ + instruction_count z)) (omega arith) h in
        let g₂ = holds_left b (entry_at b e) (lists c r ++ lists y r₁) _ g in
        let mc = length_lists c r in
        let my = length_lists y r₁ in
        let myc = length-append (lists c r) (lists y r₁) in
        rw (let f : e + (entry_count c + entry_count y + entry_count z) ≡ e₂ + entry_count z = omega arith in f)
        (reads_append b (lowered c p₀ r n) _ n (n + instruction_count c) e e₁ _ (omega (arith, length_lowered c p₀ r n))
        (reads c p₀ q r n e (none_left _ _ ok) lit.0 N.1 H.0.0 (holds_left b (entry_at b e) (lists c r) (lists y r₁) g₂) (omega arith)) (
          e₁,
          one_jump_if_false b few (n + instruction_count c) e₁ k p named there (r + register_count c) (result_register c r) n₂ H.0.1 (omega arith) (omega (arith, result_lt c r)) (omega arith),
          reads_append b (lowered y p₁ r₁ n₁) _ n₁ (n₁ + instruction_count y) e₁ e₂ _ (omega (arith, length_lowered y p₁ r₁ n₁))
              (reads y p₁ q₁ r₁ n₁ e₁ (none_left _ _ ok₃) lit.1 N.2 H.0.2 (holds_right b (entry_at b e) (lists c r) (lists y r₁) (entry_at b e₁) (omega arith) g₂) (omega arith)) (
                e₂,
                one_copy b few (n₁ + instruction_count y) e₂ k p named there r₂ (result_register y r₁) H.0.3 (omega arith) (omega (arith, result_lt y r₁)),
                (
                  e₂,
                  one_jump b few (suc (n₁ + instruction_count y)) e₂ k p named there (suc r₂) (suc (n₂ + instruction_count z)) H.0.4 (omega arith) (omega arith),
                  reads_append b (lowered z p₂ (suc (suc r₂)) n₂) _ n₂ (n₂ + instruction_count z) e₂ (e₂ + entry_count z) _ (omega (arith, length_lowered z p₂ (suc (suc r₂)) n₂))
                      (reads z p₂ q₂ (suc (suc r₂)) n₂ e₂ (none_left _ _ ok₄) lit.2 N.3 H.0.5
                      (holds_right b (entry_at b e) (lists c r ++ lists y r₁) _ (entry_at b e₂) (omega arith) g) (omega arith))
                      (reads_one b _ (n₂ + instruction_count z) (e₂ + entry_count z) (e₂ + entry_count z) _ refl
                      (one_copy b few (n₂ + instruction_count z) (e₂ + entry_count z) k p named there r₂ (result_register z (suc (suc r₂))) H.1 (omega arith)
                      (omega (arith, result_lt z (suc (suc r₂)))))),
                ),
              ),
        ))
    reads miscounted p k r n e ok lit N h g fit = absurd (let z : ◌≡◌ {A = ℕ} 0 1 = cc in omega arith)

    reads_all : (ts : Terms) (p : Path) (i k q r n e : ℕ) → faults C ts p i ≡ none → AllLiterals ts → PlacedAll b ts p i q
        → Holds b (slot_at n) (slots_all ts k q r n e) → Holds b (entry_at b e) (lists_all ts r)
        → Within (r + register_counts ts) (n + instruction_counts ts) (e + entry_counts ts) (q + path_counts ts) → Reads b (lowered_all ts p i r n) n e (e + entry_counts ts)
    reads_all end p i k q r n e ok lit N h g fit = omega arith
    reads_all (t and ts) p i k q r n e ok lit N h g fit =
        let pᵢ = p ▸ argument i in
        let code = slots t q (suc q) r n e in
        let r₁ = r + register_count t in
        let n₁ = n + instruction_count t in
        let e₁ = e + entry_count t in
        rw (let f : e + (entry_count t + entry_counts ts) ≡ e₁ + entry_counts ts = omega arith in f)
        (reads_append b (lowered t pᵢ r n) _ n n₁ e e₁ _ (omega (arith, length_lowered t pᵢ r n))
        (reads t pᵢ q r n e (none_left _ _ ok) lit.0 N.0 (holds_left b (slot_at n) code _ h) (holds_left b (entry_at b e) (lists t r) _ g) (omega arith))
        (reads_all ts p (suc i) k (q + path_count t) r₁ n₁ e₁ (none_right (fault C t pᵢ) _ ok) lit.1 N.1
        (holds_right b (slot_at n) code _ (slot_at n₁) (omega (arith, length_slots t q (suc q) r n e)) h)
        (holds_right b (entry_at b e) (lists t r) _ (entry_at b e₁) (omega (arith, length_lists t r)) g) (omega arith)))

-- ---- the header

kind_back : (κ : ValueKind) → cond (eqb (kind_number κ) 0) Number Boolean ≡ κ
kind_back Number = refl
kind_back Boolean = refl

kind_small : (κ : ValueKind) → kind_number κ < 2
kind_small Number = omega arith
kind_small Boolean = omega arith

-- a header's fields
pub record Header (b : List ℕ) (C : Context) (t : Term) : Type 0 where
  pub first : word_at b 0 ≡ magic
  pub codes : code_count b ≡ instruction_count t
  pub registers : register_total b ≡ register_count t
  pub result : result_at b ≡ result_register t 0
  pub inputs : input_count b ≡ length C.symbols
  pub kinds : word_at b 20 ≡ kind_number (kind t)
  pub paths : path_total b ≡ path_count t
  pub entries_all : entry_total b ≡ entry_count t

-- the numbers of a term fit their fields
abbrev pub Small : Context → Term → Type 0
Small C t =
    (instruction_count t < 4294967296) × (register_count t < 4294967296) × (path_count t < 4294967296) × (entry_count t < 65536) × (length C.symbols ≤ 256)

pub header_back : (b : List ℕ) (C : Context) (t : Term) → Small C t → Holds b 0 (header C t) → Header b C t
unfolding code_count register_total result_at input_count path_total entry_total half_at word_at
header_back b C t small h =
    let H = header C t in
    record {
      first = holds_word b 0 H h 0 0 refl (omega arith);
      codes = holds_word b 0 H h 4 4 refl (omega arith) ∙ head_word (instruction_count t) [] (omega arith);
      registers = holds_word b 0 H h 8 8 refl (omega arith) ∙ head_word (register_count t) [] (omega arith);
      result = holds_word b 0 H h 12 12 refl (omega arith) ∙ head_word (result_register t 0) [] (omega (arith, result_lt t 0));
      inputs = holds_word b 0 H h 16 16 refl (omega arith) ∙ head_word (length C.symbols) [] (omega arith);
      kinds = holds_word b 0 H h 20 20 refl (omega arith) ∙ head_word (kind_number (kind t)) [] (omega (arith, kind_small (kind t)));
      paths = holds_word b 0 H h 24 24 refl (omega arith) ∙ head_word (path_count t) [] (omega arith);
      entries_all = holds_word b 0 H h 28 28 refl (omega arith) ∙ head_word (entry_count t) [] (omega arith);
    }

-- ---- the whole

-- bytes with the four parts of a term's program
pub record Written (b : List ℕ) (C : Context) (t : Term) : Type 0 where
  pub head : Holds b 0 (header C t)
  pub code : Holds b 32 (slots t 0 1 0 0 0)
  pub records : Holds b (32 + 24 * instruction_count t) (path_record 0 root ++ below t root 0 1)
  pub registers : Holds b (32 + 24 * instruction_count t + 12 * path_count t) (lists t 0)
  pub long : 32 + 24 * instruction_count t + 12 * path_count t + 4 * entry_count t ≤ length b

module _ (b : List ℕ) (C : Context) (t : Term) (W : Written b C t) (small : Small C t) (ok : fault C t root ≡ none) (literals : Literals t) (narrow_term : Narrow t)
    (short : 17 * longest_path t ≤ 8188) where
  head_read : Header b C t
  head_read = header_back b C t small W.head

  few_paths : path_total b < 4294967296
  few_paths = omega (arith, head_read.paths, small.2)

  records_read : Placed b t root 0 × (records_ok b (path_count t) 0 ≡ true)
  unfolding record_at
  records_read =
      let n = head_read.codes in
      let m = head_read.paths in
      let at = 32 + 24 * instruction_count t in
      let l = length_below t root 0 1 in
      let first = holds_left b at (path_record 0 root) (below t root 0 1) W.records in
      let R = named_root b (subst (λ (x : ℕ). Holds b x (path_record 0 root)) (omega arith) first) in
      placed b few_paths t root 0 R (holds_right b at (path_record 0 root) (below t root 0 1) (record_at b 1) (omega arith) W.records) (omega arith) narrow_term (omega arith)

  code_read : Reads b (lowered t root 0 0) 0 0 (0 + entry_count t)
  unfolding entry_at
  code_read =
      let n = head_read.codes in
      let m = head_read.paths in
      reads C b few_paths small.4 t root 0 0 0 0 ok literals records_read.0 W.code (subst (λ (x : ℕ). Holds b x (lists t 0)) (omega arith) W.registers)
      (omega arith)

  pub written_well_formed : well_formed b ≡ true
  unfolding well_formed entry_at
  written_well_formed =
      let H = head_read in
      let room : 32 + 24 * code_count b + 12 * path_total b + 4 * entry_total b ≤ length b = omega (arith, H.codes, H.paths, H.entries_all, W.long) in
      let lines : slots_ok b (instruction_count t) 0 0 ≡ true =
      rw (length_lowered t root 0 0) at (reads_ok b (lowered t root 0 0) 0 0 _ code_read (omega (arith, H.entries_all))) in
      rw (
        le-leb 32 (length b) (omega arith),
        H.first,
        H.kinds,
        lt-ltb (kind_number (kind t)) 2 (kind_small (kind t)),
        le-leb _ (length b) room,
        H.paths,
        records_read.1,
        H.codes,
        lines,
      )

  pub written_program : program_at b ≡ program C t
  unfolding program_at raw_program
  written_program =
      let H = head_read in
      let code : instructions b (code_count b) 0 ≡ lowered t root 0 0 =
      ap (λ (x : ℕ). instructions b x 0) (H.codes ∙ sym (length_lowered t root 0 0)) ∙ reads_instructions b (lowered t root 0 0) 0 0 _ code_read in
      let kinds : cond (eqb (word_at b 20) 0) Number Boolean ≡ kind t = ap (λ (x : ℕ). cond (eqb x 0) Number Boolean) H.kinds ∙ kind_back (kind t) in
      let raw : raw_program b ≡ program C t =
      λ i. record { code = code i; registers = H.registers i; result = H.result i; inputs = H.inputs i; kind = kinds i } in
      rw written_well_formed raw

pub written : (C : Context) (f : Formula) (rest : List ℕ) → Written (image C f ++ rest) C (term f)
unfolding image
written C f rest =
    let t = term f in
    let b = image C f ++ rest in
    let I = holds_here [] (image C f) rest in
    let code = slots t 0 1 0 0 0 in
    let records = path_record 0 root ++ below t root 0 1 in
    let h₂ = holds_left b 0 (header C t ++ code ++ records) (lists t 0) I in
    let h₁ = holds_left b 0 (header C t ++ code) records h₂ in
    let lc = length_slots t 0 1 0 0 0 in
    let lb = length_below t root 0 1 in
    let l₁ : length (header C t ++ code) ≡ 32 + 24 * instruction_count t = length-append (header C t) code ∙ omega arith in
    let l₂ : length (header C t ++ code ++ records) ≡ 32 + 24 * instruction_count t + 12 * path_count t =
    length-append (header C t ++ code) records ∙ omega (arith, length-append (path_record 0 root) (below t root 0 1)) in
    record {
      head = holds_left b 0 (header C t) code h₁;
      code = holds_right b 0 (header C t) code 32 refl h₁;
      records = holds_right b 0 (header C t ++ code) records _ (omega arith) h₂;
      registers = holds_right b 0 (header C t ++ code ++ records) (lists t 0) _ (omega arith) I;
      long = omega (arith, length-append (image C f) rest, length_image C f);
    }

small_image : (C : Context) (f : Formula) → size f ≤ 16384 → length C.symbols ≤ 256 → Small C (term f)
small_image C f nodes known = omega (arith, bounds f)

module _ (C : Context) (f : Formula) (rest : List ℕ) (ok : fault C (term f) root ≡ none) (nodes : size f ≤ 16384) (literals : Literals (term f))
    (known : length C.symbols ≤ 256) (short : 17 * longest_path (term f) ≤ 8188) where
  pub read_back : program_at (image C f ++ rest) ≡ program C (term f)
  read_back = written_program (image C f ++ rest) C (term f) (written C f rest) (small_image C f nodes known) ok literals (narrow f (omega arith)) short

  pub image_valid : valid (program_at (image C f ++ rest)) ≡ true
  image_valid = ap valid read_back ∙ program_valid C (term f) ok (narrow f (omega arith)) short
