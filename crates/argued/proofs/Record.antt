-- The record: the list behind the head, the steps behind it, and the head before both.
-- Assumes nothing.
use Rattle.std.proofs.Common.{◌≡◌, ℕ, zero, suc, ◌+◌, ◌<◌, ◌≤◌, List, ◌++◌, length, get_or, drop, ◌∙◌, append_assoc, arith, length-append, length-drop, get_or-drop, ext_get_or, take-add}
use Rattle.order.specs.First.{Set, Listed}
use Rattle.sheet.specs.Sheet.{Sheet, count_entries}
use Rattle.paper.specs.Record.{head_length, reason_record, steps_bytes}
use Rattle.paper.specs.Written.{Appended, Lists}
use Rattle.paper.proofs.Pieces.{then}
use Rattle.argued.specs.Argued.{Closed, Argued}

-- a rising list has no more numbers than there are
pub few-listed : {L : ℕ} {S : Set} {list : List ℕ} {k : ℕ} → Listed L S list k → k ≤ L
few-listed {L} {list = list} {k} l = go k (omega arith)
  where
    at_least : (i : ℕ) → i < k → i ≤ get_or list i 0
    at_least zero h = omega arith
    at_least (suc i) h = omega (arith, at_least i (omega arith), l.rising i (suc i) (omega arith) h)

    go : (n : ℕ) → n ≤ k → n ≤ L
    go zero h = omega arith
    go (suc n) h = omega (arith, at_least n (omega arith), l.entry n (omega arith))

-- bytes before bytes
in-front : {old mid new : List ℕ} {at end : ℕ} {hs xs : List ℕ} → Appended old mid at end xs → Appended mid new 0 at hs → Appended old new 0 end (hs ++ xs)
in-front {mid = mid} {new} {at} {hs = hs} {xs} A H = record {
  end_is = omega (arith, A.end_is, H.end_is, length-append hs xs);
  bytes-are =
      let p : length hs ≡ at = omega (arith, H.end_is) in
      rw (length-append, take-add, H.bytes-are, p, behind, A.bytes-are);
  before = λ k h. absurd (omega arith);
  after = λ k h. H.after k (omega (arith, A.end_is)) ∙ A.after k h;
  size = H.size ∙ A.size;
}
  where
    behind : drop at new ≡ drop at mid
    behind = ext_get_or 0 _ _ (simp length-drop (omega (arith, H.size))) (λ i h. simp get_or-drop (H.after (at + i) (omega arith)))

module _ {s : Sheet} {S : Set} {old mid new : List ℕ} {k end : ℕ} (L : Lists (count_entries s) S old mid head_length k) (C : Closed s S k mid new end) where
  whole : Appended old new 0 end (reason_record L.list C.steps)
  unfolding reason_record
  whole =
      let e : head_length + length L.list + length (steps_bytes C.steps) ≡ end = omega (arith, L.count, C.written.written.end_is) in
      rw (append_assoc, e, L.count) (in-front (then L.written C.written.written) C.written.head)

  pub argued : Argued s S old new end
  argued =
      let e : end ≡ length (reason_record L.list C.steps) = omega (arith, whole.end_is) in
      record {
        list = L.list;
        listed = rw L.count L.listed;
        steps = C.steps;
        last = C.last;
        closes = C.closes;
        spare = C.spare;
        size_is = e;
        short = C.written.short;
        bytes = rw e whole.bytes-are;
        after = whole.after;
      }
