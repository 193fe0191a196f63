-- Every reason that the panel writes gets a yes: its record is one, and the check of its list and its steps says so.
-- Assumes nothing.
use Prim.Native.Nat.{ℕ, suc, ◌+◌, ◌*◌, ◌^◌, ◌≤◌, ◌<◌}
use mathlib.Core.Path.{◌≡◌, refl, sym, ◌∙◌, ap, subst}
use mathlib.Core.Logic.{◌⊎◌, inl, inr}
use mathlib.Core.List.{List, [], ◌∷◌, ◌++◌, append_assoc}
use lib.ListN.{length, get_or, take, drop, length-append, length-take, get_or-eq_default}
use lib.Seq.{take-append_seam, drop-append_seam, get_or-take}
use native.Mathlib.Omega.{arith}
use Rattle.big.specs.Big.{Bytes, big_of, bytes_of}
use Rattle.big.proofs.Bytes.{bytes-length}
use Rattle.whole.proofs.Order.{order}
use Rattle.order.specs.First.{Set}
use Rattle.sheet.specs.Limits.{room_needed}
use Rattle.sheet.specs.Decode.{byte_at, sheet_of}
use Rattle.sheet.specs.Sheet.{Sheet, WellFormed, count_entries}
use Rattle.grounds.specs.Table.{Reply, fine, refused, refusal}
use Rattle.grounds.proofs.Replies.{refused-ten, fine-sheet}
use Rattle.grounds.proofs.Fine.{fine-formed}
use Rattle.answer.specs.Record.{ListWithin}
use Rattle.promise.proofs.Listing.{within-short}
use Rattle.reasons.specs.Step.{Step, step_at}
use Rattle.reasons.specs.Rules.{TieRight, Closing}
use Rattle.reasons.specs.Rules.TieRight.{by-walks, by-functions}
use Rattle.reasons.specs.Rules.Closing.{by-walk, by-entry}
use Rattle.reasons.specs.Reason.{Reason}
use Rattle.paper.specs.Record.{step_bytes, steps_bytes, count_ties, head_bytes, reason_record, reason_room}
use Rattle.reason.specs.Reasoned.{Told, holds, short, why, Reasoned}
use Rattle.surveyor.specs.Surveyed.{Rises, Surveyed}
use Rattle.recited.specs.Recited.{list_end, IsRecord, Recited}
use Rattle.recited.proofs.Recites.{recites-one}
use Rattle.vouched.proofs.Read.{Stands, front, behind, number_read, Fits, Said, steps-read, steps-counted, step-read, at_least}
use Rattle.vouched.proofs.Worth.{yes-exactly, yes-place}

-- what the rules leave of the steps' numbers
tie-fits : {s : Sheet} {S : Set} {steps : List Step} {n : ℕ} {k : Step} → WellFormed s → TieRight s S steps n k → Fits k
tie-fits W (by-walks a b h c t u) = (c, omega (arith, t.few, W.terms), omega (arith, u.few, W.terms))
tie-fits W (by-functions a b h i) = tt

closing-fits : {s : Sheet} {S : Set} {steps : List Step} {n : ℕ} {k : Step} → WellFormed s → Closing s S steps n k → Fits k
closing-fits W (by-walk a w u) = omega (arith, w.few, W.terms)
closing-fits W (by-entry u r t) = tt

reason-fits : {s : Sheet} {list : List ℕ} {steps : List Step} → WellFormed s → Reason s list steps → (n : ℕ) → n < length steps → Fits (step_at steps n)
reason-fits {steps = steps} W R n l = go (order R.last n)
  where
    go : (R.last ≤ n) ⊎ (n < R.last) → Fits (step_at steps n)
    go (inr h) = tie-fits W (R.closes.ties n h)
    go (inl h) = let e : n ≡ R.last = omega (arith, R.closes.count) in rw e (closing-fits W R.closes.closing)

-- the record that the panel writes, and its two parts
pub record Vouched (sheet record' : List ℕ) : Type 0 where
  pub form : IsRecord record'
  pub yes : (N P : ℕ) → Recited sheet (take (big_of record' 6 2) (drop 10 record')) (drop (list_end record') record') N P → (N ≡ 0) × (P ≡ 0)

-- each step has thirteen bytes at least
steps-long : {b : List ℕ} → Bytes b → (steps : List Step) → ((n : ℕ) → n < length steps → Fits (step_at steps n)) → (at : ℕ) →
    Stands b at (steps_bytes steps) → 13 * length steps ≤ length (steps_bytes steps)
unfolding steps_bytes
steps-long B [] f at h = omega arith
steps-long {b} B (k ∷ ks) f at h =
    let R = step-read B k (f 0 (omega arith)) (front (step_bytes k) (steps_bytes ks) h) in
    let more = behind (step_bytes k) (steps_bytes ks) (at + length (step_bytes k)) refl h in
    omega (arith, steps-long B ks (λ n l. f (suc n) (omega arith)) (at + length (step_bytes k)) more, length-append (step_bytes k) (steps_bytes ks), R.size_is, at_least b at)

-- bytes stand in themselves, and behind others
itself : (b : List ℕ) → Stands b 0 b
itself b = record { same = λ x l. ap (λ (n : ℕ). get_or b n 0) (omega arith); within = omega arith }

record Head (b : List ℕ) (size ties k m : ℕ) : Type 0 where
  size_is : big_of b 0 4 ≡ size
  one-is : byte_at b 4 ≡ 1
  ties-are : byte_at b 5 ≡ ties
  k-is : big_of b 6 2 ≡ k
  m-is : big_of b 8 2 ≡ m

head-length : (size ties k m : ℕ) → length (head_bytes size ties k m) ≡ 10
unfolding head_bytes
head-length size ties k m = simp (length-append, bytes-length) refl

head_read : {b : List ℕ} (size ties k m : ℕ) → size < 256 ^ 4 → k < 256 ^ 2 → m < 256 ^ 2 → Stands b 0 (head_bytes size ties k m) → Head b size ties k m
unfolding head_bytes
head_read {b} size ties k m ls lk lm h =
    let four = bytes_of 4 size in
    let two : List ℕ = 1 ∷ ties ∷ [] in
    let lk' = bytes_of 2 k in
    let lm' = bytes_of 2 m in
    let a = front (four ++ two ++ lk') lm' h in
    let c = front (four ++ two) lk' a in
    let d = behind four two 4 (omega (arith, bytes-length 4 size)) c in
    let e = behind (four ++ two) lk' 6 (omega (arith, bytes-length 4 size, length-append four two)) a in
    let f = behind (four ++ two ++ lk') lm' 8 (omega (arith, bytes-length 4 size, bytes-length 2 k, length-append four two, length-append (four ++ two) lk')) h in
    record {
      size_is = number_read 4 size ls (front four two c);
      one-is = d.same 0 (omega arith);
      ties-are = d.same 1 (omega arith);
      k-is = number_read 2 k lk e;
      m-is = number_read 2 m lm f;
    }

-- a record, of a sheet that isn't sent back
module _ (sheet list : List ℕ) (steps : List Step) (e : refusal sheet room_needed ≡ fine) (W : WellFormed (sheet_of sheet))
    (L : ListWithin (count_entries (sheet_of sheet)) list) (R : Reason (sheet_of sheet) list steps)
    (B : Bytes (reason_record list steps)) (room : length (reason_record list steps) ≤ reason_room) where
  bytes : List ℕ
  bytes = reason_record list steps

  rest : List ℕ
  rest = steps_bytes steps

  head : List ℕ
  head = head_bytes (10 + length list + length rest) (count_ties steps) (length list) (length steps)

  whole : bytes ≡ head ++ list ++ rest
  unfolding reason_record bytes head rest
  whole = refl

  length-head : length head ≡ 10
  unfolding head
  length-head = head-length (10 + length list + length rest) (count_ties steps) (length list) (length steps)

  front_length : length (head ++ list) ≡ 10 + length list
  front_length = length-append head list ∙ ap (λ (n : ℕ). n + length list) length-head

  all-length : length bytes ≡ 10 + length list + length rest
  all-length = ap (λ (b : List ℕ). length b) whole ∙ length-append (head ++ list) rest ∙ ap (λ (n : ℕ). n + length rest) front_length

  stands : Stands bytes 0 (head ++ list ++ rest)
  stands = rw (sym whole) (itself bytes)

  B' : Bytes bytes
  unfolding bytes
  B' = B

  fits : (n : ℕ) → n < length steps → Fits (step_at steps n)
  fits = reason-fits W R

  steps-stand : Stands bytes (10 + length list) rest
  steps-stand = behind (head ++ list) rest (10 + length list) (omega (arith, front_length)) stands

  small : (length list ≤ 128) × (length bytes ≤ 68379)
  unfolding bytes
  small = (omega (arith, within-short L, W.entries), room)

  H : Head bytes (10 + length list + length rest) (count_ties steps) (length list) (length steps)
  unfolding head rest
  H =
      let (a, b) = small in
      let many = steps-long B' steps fits (10 + length list) steps-stand in
      head_read _ _ _ _ (omega (arith, all-length)) (omega arith) (omega (arith, all-length)) (front head list (front (head ++ list) rest stands))

  form : IsRecord bytes
  unfolding rest
  form =
      record {
        long = omega (arith, all-length);
        stated = H.size_is ∙ sym all-length;
        one = H.one-is;
        steps = rw (H.k-is, H.m-is, H.ties-are) (steps-counted B' steps fits (10 + length list) steps-stand (sym all-length));
      }

  list-is : take (big_of bytes 6 2) (drop 10 bytes) ≡ list
  list-is =
      let d = subst (λ n. drop n (head ++ (list ++ rest)) ≡ list ++ rest) length-head (drop-append_seam head (list ++ rest)) in
      rw (H.k-is, whole, append_assoc, d) (take-append_seam list rest)

  rest-is : drop (list_end bytes) bytes ≡ rest
  rest-is = rw (H.k-is, whole, sym front_length) (drop-append_seam (head ++ list) rest)

  rest-bytes : Bytes rest
  rest-bytes i = go (order (length rest) i)
    where
      go : (length rest ≤ i) ⊎ (i < length rest) → get_or rest i 0 < 256
      go (inl l) = omega (arith, get_or-eq_default rest 0 l)
      go (inr l) = omega (arith, steps-stand.same i l, B' (10 + length list + i))

  said : Said rest 0 steps
  unfolding rest
  said = steps-read rest-bytes steps fits 0 (itself rest) (omega arith)

  says-yes : (N P : ℕ) → Recited sheet list rest N P → (N ≡ 0) × (P ≡ 0)
  says-yes N P r =
      let same = recites-one r.recites said.recites in
      let S : Surveyed sheet list said.records N P = rw (sym same) r.surveyed in
      let yes = (yes-exactly S e).1 (rises, record { formed = said.formed; reason = rw said.steps-are R }) in
      (yes, yes-place (S.told e) yes)
    where
      rises : Rises (count_entries (sheet_of sheet)) list
      rises = record { rising = λ x l. L.rising x (suc x) (omega arith) l; below = L.entry }

  vouched : Vouched sheet (reason_record list steps)
  unfolding bytes
  vouched = record { form = form; yes = λ N P r. says-yes N P (subst (λ l. Recited sheet l rest N P) list-is (subst (λ b. Recited sheet (take (big_of bytes 6 2) (drop 10 bytes)) b N P) rest-is r)) }

-- every reason that the panel writes
pub panel-yes : {sheet old new : List ℕ} {P : ℕ} → Bytes new → Reasoned sheet old new 1 P → Vouched sheet (take P new)
panel-yes {sheet} {old} {new} {P} B a = go (refusal sheet room_needed) refl
  where
    told : refusal sheet room_needed ≡ fine → Told (sheet_of sheet) old new 1 P → Vouched sheet (take P new)
    told e (holds h b) = absurd (omega (arith, b.number_is))
    told e (short c l b) = absurd (omega (arith, b.number_is))
    told e (why w) =
        let W = (fine-formed sheet (fine-sheet sheet room_needed e).0).1 in
        let r = reason_record w.list w.steps in
        let p : take P new ≡ r = rw (w.place_is, w.room-is) (take-append_seam r (drop (length r) old)) in
        rw p (vouched sheet w.list w.steps e W w.within w.reason (rw (sym p) (take-bytes P)) w.fits)
      where
        take-bytes : (n : ℕ) → Bytes (take n new)
        take-bytes n i = go (order n i)
          where
            go : (n ≤ i) ⊎ (i < n) → get_or (take n new) i 0 < 256
            go (inl l) = omega (arith, get_or-eq_default (take n new) 0 {n = i} (omega (arith, length-take n new)))
            go (inr l) = omega (arith, get_or-take n new i 0 l, B i)

    go : (r : Reply) → refusal sheet room_needed ≡ r → Vouched sheet (take P new)
    go fine e = told e (a.told e)
    go (refused Q S) e = absurd (omega (arith, refused-ten sheet room_needed Q S e, (a.sent_back Q S e).number_is))
