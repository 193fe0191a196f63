-- A row of bounds is filled from the front: as many as there are, and 0 behind them.
-- Assumes nothing.
use Prim.Native.Nat.{ℕ, ◌+◌, ◌*◌, ◌≤◌, ◌<◌}
use mathlib.Core.Path.{◌≡◌, sym, ◌∙◌}
use mathlib.Core.Bool.{cond}
use mathlib.Core.List.{List}
use lib.Dec.{ltb}
use lib.ListN.{length, get_or, replicate, length-replicate, get_or-replicate}
use lib.Seq.{ext_get_or}
use native.Mathlib.Decide.{dec_lt}
use native.Mathlib.Omega.{arith}
use borrow.Author.Tests.{lt-ltb, le-ltb}
use Rattle.big.specs.Big.{big_of}
use Rattle.sheet.proofs.Decode.{length-each, get_or-each}
use Rattle.recited.specs.Recited.{row_at}

abbrev bound_at : (b : List ℕ) (at count : ℕ) → ℕ → ℕ
bound_at b at count k = cond (ltb k count) (big_of b (at + 2 * k) 2) 0

-- the first x of them are in the row
pub record Filled (b : List ℕ) (at count x : ℕ) (row : List ℕ) : Type 0 where
  pub size : length row ≡ 129
  pub few : x ≤ 129
  pub within : x ≤ count
  pub front : (k : ℕ) → k < x → get_or row k 0 ≡ big_of b (at + 2 * k) 2
  pub rest : (k : ℕ) → x ≤ k → k < 129 → get_or row k 0 ≡ 0

module _ (b : List ℕ) (at count : ℕ) where
  pub none_filled : Filled b at count 0 (replicate 129 0)
  none_filled =
      record {
        size = length-replicate {A = ℕ} 129 0;
        few = omega arith;
        within = omega arith;
        front = λ k l. absurd (omega arith);
        rest = λ k l m. get_or-replicate 129 k 0 0 m;
      }

  module _ {x : ℕ} {row : List ℕ} (F : Filled b at count x row) where
    pub all-filled : (x < 129 → count ≤ x) → row ≡ row_at b at count
    all-filled h =
        ext_get_or 0 row (row_at b at count) (F.size ∙ sym (length-each 129 (bound_at b at count)))
        (λ k l. same k (omega (arith, F.size)) (dec_lt k x) ∙ sym (get_or-each 129 (bound_at b at count) 0 k (omega (arith, F.size))))
      where
        same : (k : ℕ) → k < 129 → Dec (k < x) → get_or row k 0 ≡ bound_at b at count k
        same k l (yes i) = rw (lt-ltb k count (omega (arith, F.within))) (F.front k i)
        same k l (no i) = rw (le-ltb k count (omega (arith, h (omega arith)))) (F.rest k (omega arith) l)
