-- A head in front of listed entries is the record of a clash.
-- Assumes nothing.
use Prim.Native.Nat.{ℕ, ◌+◌, ◌≤◌, ◌<◌}
use mathlib.Core.Path.{◌≡◌, sym, ap, ◌∙◌}
use mathlib.Core.List.{List}
use lib.ListN.{length, get_or, take, drop, length-take, length-drop}
use lib.Seq.{get_or-take, get_or-drop}
use native.Mathlib.Omega.{arith}
use Rattle.big.specs.Big.{Bytes, Kept}
use Rattle.order.specs.First.{Set, Listed}
use Rattle.answer.proofs.Read.{clashes-read}
use Rattle.writing.specs.Head.{Headed}
use Rattle.listing.specs.Named.{Named}

module _ (L : ℕ) (A : Set) (old mid new : List ℕ) (k : ℕ) (size : 8 + k ≤ length new)
    (listed : Listed L A (drop 8 mid) k) (kept : Kept old mid 8 k) (head : Headed mid new (8 + k) 1 k) where
  list : List ℕ
  list = take k (drop 8 new)

  list_length : length list ≡ k
  unfolding list
  list_length = simp (length-take, length-drop) (omega arith)

  list_at : (i : ℕ) → i < k → get_or list i 0 ≡ get_or new (8 + i) 0
  unfolding list
  list_at i h = get_or-take k (drop 8 new) i 0 h ∙ get_or-drop 8 new i 0

  list-is : (i : ℕ) → i < k → get_or list i 0 ≡ get_or (drop 8 mid) i 0
  list-is i h = list_at i h ∙ head.kept.after (8 + i) (omega arith) ∙ sym (get_or-drop 8 mid i 0)

  within : (i : ℕ) → i < length list → i < k
  within i h = omega (arith, list_length)

  own : Listed L A list (length list)
  own = record {
    entry = λ i h. omega (arith, listed.entry i (within i h), list-is i (within i h));
    one = λ i h. rw (list-is i (within i h)) (listed.one i (within i h));
    rising = λ i j h l. omega (arith, listed.rising i j h (within j l), list-is i (within i (omega arith)), list-is j (within j l));
    all = λ x l e. let (i, h, q) = listed.all x l e in (i, omega (arith, list_length), list-is i h ∙ q);
  }

  pub named : Bytes new → Named L A old new (8 + k)
  named B = record {
    list = list;
    listed = own;
    size_is = omega (arith, list_length);
    bytes = ap (λ (x : ℕ). take (8 + x) new) (sym list_length) ∙ clashes-read new B list (omega (arith, list_length))
        (head.size_is ∙ omega (arith, list_length)) head.one-is head.verdict-is (head.count-is ∙ sym list_length) head.zero_is
        (λ i h. sym (list_at i (within i h)));
    kept = λ i l. head.kept.after i (omega arith) ∙ kept.after i l;
  }
