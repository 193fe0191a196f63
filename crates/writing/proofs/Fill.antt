-- The record of values, value by value behind a head.
-- Assumes nothing.
use Rattle.std.proofs.Common.{◌≡◌, ℕ, ◌+◌, ◌*◌, ◌<◌, ◌≤◌, List, length, ℤ, refl, ◌∙◌, arith, below_more}
use Rattle.big.specs.Big.{Bytes, big_of, complement_of, Kept}
use Rattle.sheet.specs.Decode.{each}
use Rattle.sheet.proofs.Decode.{length-each, get_or-each}
use Rattle.writing.specs.Head.{Headed}
use Rattle.answer.specs.Levels.{value_at, Recorded}
use Rattle.answer.proofs.Read.{holds_read}
use Rattle.writing.proofs.Heads.{before-kept, head-stays}

-- the first i of the values f stand behind the head, and nothing else is changed
pub record Filled (f : ℕ → ℤ) (old new : List ℕ) (i : ℕ) : Type 0 where
  pub values : (k : ℕ) → k < i → big_of new (8 + 8 * k) 8 ≡ complement_of 8 (f k)
  pub kept : Kept old new 8 (8 * i)

pub fill_none : (f : ℕ → ℤ) (old : List ℕ) → Filled f old old 0
fill_none f old = record { values = λ k l. absurd (omega arith); kept = record { before = λ m l. refl; after = λ m l. refl } }

pub fill_more : {f : ℕ → ℤ} {old mid new : List ℕ} {i : ℕ} → Filled f old mid i →
    (big_of new (8 + 8 * i) 8 ≡ complement_of 8 (f i)) × Kept mid new (8 + 8 * i) 8 → Filled f old new (i + 1)
fill_more {i} F (e, K) = record {
  values = below_more _ i (λ k l. before-kept K (8 + 8 * k) 8 (omega arith) ∙ F.values k l) e;
  kept = record {
    before = λ m l. K.before m (omega arith) ∙ F.kept.before m l;
    after = λ m l. K.after m (omega arith) ∙ F.kept.after m (omega arith);
  };
}

-- behind a head, all t of them are the record
pub recorded : (v : List ℕ) (D t : ℕ) {old mid new : List ℕ} → Bytes new → 8 + 8 * t ≤ length new →
    Headed old mid (8 + 8 * t) 0 D → Filled (value_at v t) mid new t → Recorded old new v D t
recorded v D t {new} B l H F =
    let S = head-stays H F.kept in
    let e : length (each t (value_at v t)) ≡ t = length-each t (value_at v t) in
    record {
      bytes = rw e at
          (holds_read new B D (each t (value_at v t)) (omega arith) (omega (arith, S.size_is)) S.one-is S.verdict-is S.count-is S.zero_is
          (λ i p. rw (get_or-each t (value_at v t) _ i (omega arith)) (F.values i (omega arith))));
      kept = λ k p. F.kept.after k p ∙ H.kept.after k (omega arith);
    }
