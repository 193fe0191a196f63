-- The keys of the terms below a counter, and what the pair loop's answer on them says of the terms.
-- Assumes nothing.
use Prim.Native.Nat.{ℕ, ◌+◌, ◌<◌}
use mathlib.Core.Path.{◌≡◌, sym, ap, ◌∙◌}
use mathlib.Core.Bool.{Bool}
use mathlib.Core.List.{List}
use lib.ListN.{length, get_or, length-set}
use native.Mathlib.Omega.{arith}
use borrow.Author.Count.{below_more}
use Rattle.sheet.specs.Limits.{max_terms}
use Rattle.sheet.specs.Sheet.{Term, Sheet, count_terms, term_at, WellFormed}
use Rattle.sheet.proofs.Below.{arguments-wider}
use Rattle.keys.specs.Ready.{Near}
use Rattle.keys.specs.Keys.{first_key, second_key, SymbolFits}
use Rattle.shelves.specs.Rows.{key_count, stored, RowAgrees, shelf_count, Shelved}
use Rattle.shelves.proofs.Rows.{first-kept, second-kept, first-new, second-new}
use Rattle.keys.proofs.Keys.{level-same, same_keys, same-input}
use Rattle.meets.specs.Parts.{Functional}

-- the keys of the terms below k
pub record Keyed (s : Sheet) (v keys : List ℕ) (k : ℕ) : Type 0 where
  pub first : (j : ℕ) → j < k → get_or keys j 0 ≡ first_key v (count_terms s) (term_at s j)
  pub second : (j : ℕ) → j < k → get_or keys (max_terms + j) 0 ≡ second_key v (count_terms s) (term_at s j)
  pub symbols : (j : ℕ) → j < k → SymbolFits (term_at s j)

-- and their shelves, in rooms of their sizes
pub record Kept (s : Sheet) (v keys : List ℕ) (shelves : List Bool) (k : ℕ) : Type 0 where
  pub sized : length keys ≡ key_count
  pub shelf : length shelves ≡ shelf_count
  pub keyed : Keyed s v keys k
  pub shelved : Shelved keys shelves k

-- the keys a and b of term i
pub record Input (s : Sheet) (v : List ℕ) (i a b : ℕ) : Type 0 where
  pub first : a ≡ first_key v (count_terms s) (term_at s i)
  pub second : b ≡ second_key v (count_terms s) (term_at s i)
  pub symbol : SymbolFits (term_at s i)

-- x is what the code read of term i
pub input : {s : Sheet} {v : List ℕ} {i a b t : ℕ} {x : Term} → t ≡ count_terms s → x ≡ term_at s i
    → (a ≡ first_key v t x) × (b ≡ second_key v t x) × SymbolFits x → Input s v i a b
input p q told = let (first, second, symbol) = rw (p, q) at told in record { first = first; second = second; symbol = symbol }

module _ {s : Sheet} {v keys : List ℕ} {shelves : List Bool} {i a b : ℕ} {new : List ℕ} (K : Kept s v keys shelves i) (i< : i < max_terms) (I : Input s v i a b) (e : new ≡ stored keys i a b) where
  pub keyed-more : Keyed s v new (i + 1)
  keyed-more =
      rw e
      (record {
        first = below_more _ i (λ j l. first-kept keys a b i< j l ∙ K.keyed.first j l) (first-new keys a b i< K.sized ∙ I.first);
        second = below_more _ i (λ j l. second-kept keys a b i< j l ∙ K.keyed.second j l) (second-new keys a b i< K.sized ∙ I.second);
        symbols = below_more _ i K.keyed.symbols I.symbol;
      })

  pub kept_more : {after : List Bool} → (length after ≡ shelf_count) × Shelved new after (i + 1) → Kept s v new after (i + 1)
  kept_more put = record { sized = ap length e ∙ simp length-set K.sized; shelf = put.0; keyed = keyed-more; shelved = put.1 }

module _ {s : Sheet} {v keys : List ℕ} {i a b : ℕ} (K : Keyed s v keys (i + 1)) (I : Input s v i a b) where
  pub row-functional : RowAgrees keys v a b (get_or v i 0) i → Functional s v i
  row-functional R =
      record {
        function = λ j l same.
            let (some, first, second) = same_keys v (count_terms s) same in
            let e : get_or v j 0 ≡ get_or v i 0 =
            (R.row (omega (arith, I.first))).alike j l (K.first j (omega arith) ∙ first ∙ sym I.first)
            (K.second j (omega arith) ∙ second ∙ sym I.second) in
            rw e;
      }

  pub functional-row : WellFormed s → Near v (count_terms s) → i < count_terms s → Functional s v i → RowAgrees keys v a b (get_or v i 0) i
  functional-row W N i< h =
      record {
        row = λ p. record {
          alike = λ j l e f. level-same _ _ _ (h.function j l (same-input v (count_terms s) N (term_at s j) (term_at s i)
              (arguments-wider (omega arith) (W.arguments j (omega arith)))
              (arguments-wider (omega arith) (W.arguments i i<))
              (K.symbols j (omega arith))
              I.symbol
              (omega (arith, I.first))
              (sym (K.first j (omega arith)) ∙ e ∙ I.first)
              (sym (K.second j (omega arith)) ∙ f ∙ I.second)));
        };
      }
