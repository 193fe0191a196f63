-- The numbers of a set's entries that stand from a place on are its list.
-- Assumes nothing.
use Rattle.std.proofs.Common.{◌≡◌, ℕ, ◌+◌, ◌≤◌, ◌<◌, List, length, get_or, take, drop, length-take, length-drop, get_or-take, ap, ◌∙◌, arith}
use Rattle.big.specs.Big.{Kept}
use Rattle.order.specs.First.{Set, Listed}
use Rattle.paper.specs.Written.{Lists}

pub lists : {L : ℕ} {A : Set} {old : List ℕ} (new : List ℕ) {at k : ℕ} → at + k ≤ length new → length new ≡ length old → Listed L A (drop at new) k →
    Kept old new at k → Lists L A old new at k
lists new {at} {k} fits size listed kept = record {
  list = take k (drop at new);
  count = count;
  listed = record {
    entry = λ i h. rw (same i h) (listed.entry i h);
    one = λ i h. rw (same i h) (listed.one i h);
    rising = λ i j h l. rw (same i (omega arith), same j l) (listed.rising i j h l);
    all = λ x h e. let (i, l, is) = listed.all x h e in (i, l, same i l ∙ is);
  };
  written = record {
    end_is = omega (arith, count);
    bytes-are = ap (λ (n : ℕ). take n (drop at new)) count;
    before = kept.before;
    after = kept.after;
    size = size;
  };
}
  where
    count : length (take k (drop at new)) ≡ k
    count = simp (length-take, length-drop) (omega arith)

    same : (i : ℕ) → i < k → get_or (take k (drop at new)) i 0 ≡ get_or (drop at new) i 0
    same i h = get_or-take k (drop at new) i 0 h
