-- The lazy panels: the promise leaves one number for a starred sheet that holds, and one reply for one that clashes, and theirs is another.
-- Assumes nothing.
use Prim.Native.Nat.{ℕ, ◌≤◌, ◌<◌}
use mathlib.Core.Path.{◌≡◌, refl, sym, ap, ◌∙◌}
use mathlib.Core.Logic.{inl, inr}
use mathlib.Core.List.{List, [], ◌∷◌, ◌++◌}
use lib.ListN.{length, get_or, take, drop}
use lib.Seq.{take-append_seam}
use native.Mathlib.Omega.{arith}
use Rattle.big.specs.Big.{big_of, bytes_of}
use Rattle.order.specs.First.{set_of, number as by_number}
use Rattle.sheet.specs.Limits.{max_entries, room_needed}
use Rattle.sheet.specs.Decode.{each}
use Rattle.sheet.specs.Sheet.{Sheet, count_entries}
use Rattle.sheet.proofs.Decode.{length-each, get_or-each}
use Rattle.meaning.specs.Judged.{HoldsAll, ClashesFirst}
use Rattle.grounds.proofs.Replies.{fine-larger}
use Rattle.answer.specs.Record.{clashes_record, ListWithin}
use Rattle.promise.specs.Answered.{over, Decided, Answered}
use Rattle.promise.proofs.Unique.{not-both, holds-all, one-first}
use Rattle.starred.specs.Bytes.{bytes1, bytes2, bytes6}
use Rattle.starred.specs.Claim.{Reads}
use Rattle.starred.proofs.Starred.{starred}
use Rattle.lazy.specs.Lazy.{NoReply, Lazy}

-- what any reply to a starred sheet is
module _ {bytes old new : List ℕ} {line : Sheet} {number place : ℕ} (reads : Reads bytes line) (room : room_needed ≤ length old)
    (a : Answered bytes old new number place) where
  says : Decided line old new number place
  says = rw reads.decodes at (a.judged (fine-larger bytes room_needed (length old) reads.accepted room))

  where-holds : HoldsAll line → number ≡ 0
  where-holds h = go says
    where
      go : Decided line old new number place → number ≡ 0
      go (inl p) = p.number_is
      go (inr c) = absurd (not-both line (set_of c.list) h c.first.has)

  where-clashes : {list : List ℕ} → ClashesFirst line list → ListWithin (count_entries line) list → (number ≡ 1) × (new ≡ over (clashes_record list) old)
  where-clashes {list} f w = go says
    where
      go : Decided line old new number place → (number ≡ 1) × (new ≡ over (clashes_record list) old)
      go (inl p) = absurd (not-both line (set_of list) (holds-all p) f.first.has)
      go (inr c) = let e = one-first line c.list list c.first f.first c.within w in (c.number_is, cc)

-- the starred lists are the first k entries
counted : (L k : ℕ) → 1 ≤ k → k ≤ L → ListWithin L (each k by_number)
counted L k h l =
    let n = length-each k by_number in
    let at : (i : ℕ) → i < length (each k by_number) → get_or (each k by_number) i 0 ≡ i = λ i p. get_or-each k by_number 0 i (omega arith) in
    record { some = omega arith; entry = λ i p. omega (arith, at i p); rising = λ i j p q. omega (arith, at i (omega arith), at j q) }

-- the room tells how many entries are named, and which
count-told : (es old : List ℕ) → length es ≤ max_entries → big_of (over (clashes_record es) old) 4 2 ≡ length es
unfolding big_of bytes_of clashes_record
count-told es old h = omega arith

room-told : (es es' old : List ℕ) → length es ≤ max_entries → length es' ≤ max_entries → over (clashes_record es) old ≡ over (clashes_record es') old → es ≡ es'
unfolding bytes_of clashes_record
room-told es es' old h h' e =
    let rest : es ++ drop (length (clashes_record es)) old ≡ es' ++ drop (length (clashes_record es')) old = ap (drop 8) e in
    cc (count-told es old h, count-told es' old h', take-append_seam es (drop (length (clashes_record es)) old), take-append_seam es' (drop (length (clashes_record es')) old))

blamed : (list : List ℕ) → length list ≤ max_entries → (list ≡ 0 ∷ 1 ∷ 2 ∷ [] → ⊥) → NoReply bytes6 (λ old new number. new ≡ over (clashes_record list) old)
unfolding each
blamed list h n old new number place room a e =
    let c = where-clashes starred.sheet6 room a starred.judged.sheet6 (counted 4 3 (omega arith) (omega arith)) in
    n (room-told list (0 ∷ 1 ∷ 2 ∷ []) old h (omega arith) (sym e ∙ c.1))

first-answer : {old new : List ℕ} {number place : ℕ} → room_needed ≤ length old → Answered bytes1 old new number place → new ≡ over (clashes_record (0 ∷ 1 ∷ 2 ∷ [])) old
unfolding each
first-answer room a = (where-clashes starred.sheet1 room a starred.judged.sheet1 (counted 3 3 (omega arith) (omega arith))).1

first-record : (old : List ℕ) → take 11 (over (clashes_record (0 ∷ 1 ∷ 2 ∷ [])) old) ≡ clashes_record (0 ∷ 1 ∷ 2 ∷ [])
unfolding bytes_of clashes_record
first-record old = refl

second_holds : {old new : List ℕ} {number place : ℕ} → room_needed ≤ length old → Answered bytes2 old new number place → number ≡ 0
second_holds room a = where-holds starred.sheet2 room a starred.judged.sheet2

pub lazy : Lazy
unfolding each
lazy = record {
  refuses = λ old new number place room a h. omega (arith, second_holds room a);
  holds = λ old new number place room a h.
      omega (arith, (where-clashes starred.sheet7 room a starred.judged.sheet7 (counted 2 1 (omega arith) (omega arith))).0);
  names-where-holds = λ old new number place room a h. omega (arith, second_holds room a);
  names-every = blamed _ (omega arith) (λ e. omega (arith, ap length e));
  writes_nothing = λ old new number place room a h. h.1 (ap (take 11) (sym h.0 ∙ first-answer room a) ∙ first-record old);
  makes-up = λ old new number place room a h. h (ap (λ (b : List ℕ). big_of b 4 2) (first-answer room a) ∙ count-told (0 ∷ 1 ∷ 2 ∷ []) old (omega arith));
  blames = blamed;
  fewest = blamed _ (omega arith) (λ e. omega (arith, ap length e));
}
