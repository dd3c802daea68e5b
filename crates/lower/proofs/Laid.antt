-- Three parts of a program that grow at once: instructions, path records, lists.
use mathlib.Core.Path.{◌≡◌, refl, sym, ap, ◌∙◌, subst}
use mathlib.Core.List.{List, [], ◌++◌, append-nil}
use Prim.Native.Nat.{ℕ, ◌+◌, ◌≤◌}
use native.Mathlib.Omega.{arith}
use lib.ListN.{length, length-append}
use Rattle.writer.specs.Over.{over}
use Rattle.writer.proofs.Over.{over_before, over_length, over_nil, over_over}
use Rattle.writer.proofs.Apart.{over_apart}
use Rattle.lower.specs.Bytes.{Chunk, laid}

abbrev pub joined : Chunk → Chunk → Chunk
joined w v = record { code = w.code ++ v.code; records = w.records ++ v.records; lists = w.lists ++ v.lists }

pub chunk_path : (w v : Chunk) → w.code ≡ v.code → w.records ≡ v.records → w.lists ≡ v.lists → w ≡ v
chunk_path w v a b c = λ i. record { code = a i; records = b i; lists = c i }

-- the parts do not run into each other
pub record Fits (n a b c : ℕ) (w : Chunk) : Type 0 where
  pub code : a + length w.code ≤ b
  pub records : b + length w.records ≤ c
  pub lists : c + length w.lists ≤ n

pub laid_length : (p : List ℕ) (a b c : ℕ) (w : Chunk) → Fits (length p) a b c w → length (laid p a b c w) ≡ length p
unfolding laid
laid_length p a b c w f =
    let l₁ = over_length p a w.code (omega (arith, f.code, f.records, f.lists)) in
    let l₂ = over_length (over p a w.code) b w.records (omega (arith, l₁, f.records, f.lists)) in
    over_length (over (over p a w.code) b w.records) c w.lists (omega (arith, l₁, l₂, f.lists)) ∙ l₂ ∙ l₁

pub laid_then : (p : List ℕ) (a b c a' b' c' : ℕ) (w v : Chunk) → a' ≡ a + length w.code → b' ≡ b + length w.records → c' ≡ c + length w.lists
    → Fits (length p) a b c (joined w v) → laid (laid p a b c w) a' b' c' v ≡ laid p a b c (joined w v)
unfolding laid
laid_then p a b c a' b' c' w v ea eb ec f =
    let X = w.code in
    let Y = w.records in
    let Z = w.lists in
    let X' = v.code in
    let Y' = v.records in
    let Z' = v.lists in
    let lx = length-append X X' in
    let ly = length-append Y Y' in
    let lz = length-append Z Z' in
    let fc : a + length (X ++ X') ≤ b = f.code in
    let fr : b + length (Y ++ Y') ≤ c = f.records in
    let fl : c + length (Z ++ Z') ≤ length p = f.lists in
    let p₁ = over p a X in
    let n₁ : length p₁ ≡ length p = over_length p a X (omega arith) in
    let p₂ = over p₁ b Y in
    let n₂ : length p₂ ≡ length p = over_length p₁ b Y (omega arith) ∙ n₁ in
    let m₁ : length (over p₁ a' X') ≡ length p = over_length p₁ a' X' (omega arith) ∙ n₁ in
    let q = over p a (X ++ X') in
    let k₁ : length q ≡ length p = over_length p a (X ++ X') (omega arith) in
    let k₂ : length (over q b Y) ≡ length p = over_length q b Y (omega arith) ∙ k₁ in
    let e₁ : over (over p₂ c Z) a' X' ≡ over (over p₂ a' X') c Z = over_apart p₂ a' c X' Z (omega arith) (omega arith) in
    let e₂ : over p₂ a' X' ≡ over (over p₁ a' X') b Y = over_apart p₁ a' b X' Y (omega arith) (omega arith) in
    let e₃ : over p₁ a' X' ≡ q = ap (λ (z : ℕ). over p₁ z X') ea ∙ over_over p a X X' (omega arith) in
    let g₁ : over (over (over q b Y) c Z) b' Y' ≡ over (over (over q b Y) b' Y') c Z = over_apart (over q b Y) b' c Y' Z (omega arith) (omega arith) in
    let g₂ : over (over q b Y) b' Y' ≡ over q b (Y ++ Y') = ap (λ (z : ℕ). over (over q b Y) z Y') eb ∙ over_over q b Y Y' (omega arith) in
    let r = over q b (Y ++ Y') in
    let k₃ : length r ≡ length p = over_length q b (Y ++ Y') (omega arith) ∙ k₁ in
    let h : over (over r c Z) c' Z' ≡ over r c (Z ++ Z') = ap (λ (z : ℕ). over (over r c Z) z Z') ec ∙ over_over r c Z Z' (omega arith) in
    rw (e₁, e₂, e₃, g₁, g₂) h

-- an instruction before a chunk
pub laid_before : (p : List ℕ) (a b c : ℕ) (r : List ℕ) (w : Chunk) → Fits (length p) (a + length r) b c w
    → over (laid p (a + length r) b c w) a r ≡ laid p a b c (record { code = r ++ w.code; records = w.records; lists = w.lists })
unfolding laid
laid_before p a b c r w f =
    let X = w.code in
    let Y = w.records in
    let Z = w.lists in
    let h : a + length r + length X ≤ b = f.code in
    let h₁ : b + length Y ≤ c = f.records in
    let h₂ : c + length Z ≤ length p = f.lists in
    let q = over p (a + length r) X in
    let n₁ : length q ≡ length p = over_length p (a + length r) X (omega arith) in
    let n₂ : length (over q b Y) ≡ length p = over_length q b Y (omega arith) ∙ n₁ in
    let e₁ : over (over (over q b Y) c Z) a r ≡ over (over (over q b Y) a r) c Z = over_apart (over q b Y) a c r Z (omega arith) (omega arith) in
    let e₂ : over (over q b Y) a r ≡ over (over q a r) b Y = over_apart q a b r Y (omega arith) (omega arith) in
    let e₃ : over q a r ≡ over p a (r ++ X) = over_before p a r X (omega arith) in
    rw (e₁, e₂, e₃)

-- an instruction after a chunk
pub laid_after : (p : List ℕ) (a b c : ℕ) (r : List ℕ) (w : Chunk) (a' : ℕ) → a' ≡ a + length w.code
    → Fits (length p) a b c (record { code = w.code ++ r; records = w.records; lists = w.lists })
    → over (laid p a b c w) a' r ≡ laid p a b c (record { code = w.code ++ r; records = w.records; lists = w.lists })
unfolding laid
laid_after p a b c r w a' e f =
    let v : Chunk = record { code = r; records = []; lists = [] } in
    let e₁ : joined w v ≡ record { code = w.code ++ r; records = w.records; lists = w.lists } =
    chunk_path (joined w v) (record { code = w.code ++ r; records = w.records; lists = w.lists }) refl (append-nil w.records) (append-nil w.lists) in
    let q = laid p a b c w in
    sym (over_nil (over (over q a' r) (b + length w.records) []) (c + length w.lists) ∙ over_nil (over q a' r) (b + length w.records))
    ∙ laid_then p a b c a' (b + length w.records) (c + length w.lists) w v e refl refl
    (subst (λ (x : Chunk). Fits (length p) a b c x) (sym e₁) f)
    ∙ ap (λ (x : Chunk). laid p a b c x) e₁
