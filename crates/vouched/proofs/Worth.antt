-- A yes means that the entries of the list clash; it is given exactly where the records say a reason for the list; and the answer is one
-- only. Assumes nothing.
use Prim.Native.Nat.{ℕ, suc, ◌≤◌, ◌<◌}
use mathlib.Core.Path.{◌≡◌, refl, sym, ◌∙◌}
use mathlib.Core.Logic.{◌⊎◌, inl, inr, ◌↔◌}
use mathlib.Core.List.{List, []}
use lib.ListN.{length}
use native.Mathlib.Omega.{arith}
use Rattle.whole.proofs.Order.{order}
use Rattle.order.specs.First.{Set, set_of}
use Rattle.sheet.specs.Decode.{sheet_of}
use Rattle.sheet.specs.Limits.{room_needed}
use Rattle.sheet.specs.Sheet.{Sheet, count_entries}
use Rattle.meaning.specs.Meaning.{Clashes}
use Rattle.meaning.proofs.Empty.{empty_holds}
use Rattle.grounds.specs.Table.{Reply, fine, refused, refusal}
use Rattle.grounds.proofs.Replies.{refused-ten, fine-sheet}
use Rattle.grounds.proofs.Fine.{fine-formed}
use Rattle.reasons.specs.Step.{Step}
use Rattle.reasons.specs.Rules.{TieRight, Closing}
use Rattle.reasons.specs.Rules.TieRight.{by-walks, by-functions}
use Rattle.reasons.specs.Reason.{Reason}
use Rattle.reasons.proofs.Sound.{reason-clashes}
use Rattle.stated.specs.Said.{steps_of, Formed, record_at}
use Rattle.stated.specs.declared.Step.{Step as Record}
use Rattle.stated.proofs.Said.{length-steps, step-said}
use Rattle.surveyor.specs.Surveyed.{Rises, Right, FirstWrong, Told, no-list, yes, wrong, Surveyed}

-- a step that ties doesn't close
ties-or-closes : {s : Sheet} {S : Set} {steps : List Step} {n : ℕ} {k : Step} → TieRight s S steps n k → Closing s S steps n k → ⊥
ties-or-closes (by-walks a b h c t u) = elim [ ]
ties-or-closes (by-functions a b h t) = elim [ ]

module _ {s : Sheet} {list : List ℕ} {records : List Record} where
  -- the first wrong step is one
  not-before : {n m : ℕ} → FirstWrong s list records n → FirstWrong s list records m → n < m → ⊥
  not-before {n} f g l = f.no_tie (omega (arith, g.within)) (g.before n l)

  one-wrong : {n m : ℕ} → FirstWrong s list records n → FirstWrong s list records m → n ≡ m
  one-wrong {n} {m} f g = go (order n m) (order m n)
    where
      go : (n ≤ m) ⊎ (m < n) → (m ≤ n) ⊎ (n < m) → n ≡ m
      go (inl a) (inl b) = omega arith
      go (inr a) b = absurd (not-before g f a)
      go (inl a) (inr b) = absurd (not-before f g b)

  -- and none is where all are right
  not-wrong : {n m : ℕ} → Right s list records n → FirstWrong s list records m → ⊥
  not-wrong {n} {m} r f = go (order m n)
    where
      last : length records ≡ suc n
      last = r.closes.last

      here : (m ≤ n) → (n ≤ m) ⊎ (m < n) → ⊥
      here a (inl b) = let e : m ≡ n = omega arith in f.no-closing (omega arith) (rw e r.closes)
      here a (inr b) = f.no_tie (omega arith) (r.ties m b)

      go : (m ≤ n) ⊎ (n < m) → ⊥
      go (inl a) = here a (order n m)
      go (inr a) = ties-or-closes (f.before n a).right r.closes.closing

  told-one : {N P N' P' : ℕ} → Told s list records N P → Told s list records N' P' → (N ≡ N') × (P ≡ P')
  told-one (no-list h a b) (no-list h' a' b') = (a ∙ sym a', b ∙ sym b')
  told-one (no-list h a b) (yes r x a' b') = absurd (h r)
  told-one (no-list h a b) (wrong r x a' b') = absurd (h r)
  told-one (yes r x a b) (no-list h a' b') = absurd (h r)
  told-one (yes r x a b) (yes r' x' a' b') = (a ∙ sym a', b ∙ sym b')
  told-one (yes r x a b) (wrong r' x' a' b') = absurd (not-wrong x x')
  told-one (wrong r x a b) (no-list h a' b') = absurd (h r)
  told-one (wrong r x a b) (yes r' x' a' b') = absurd (not-wrong x' x)
  told-one (wrong r x a b) (wrong r' x' a' b') = (a ∙ sym a', b ∙ one-wrong x x' ∙ sym b')

-- the answer is one only
pub one_answer : {sheet list : List ℕ} {records : List Record} {N P N' P' : ℕ} → Surveyed sheet list records N P → Surveyed sheet list records N' P' →
    (N ≡ N') × (P ≡ P')
one_answer {sheet} {list} {records} {N} {P} {N'} {P'} a b = go (refusal sheet room_needed) refl
  where
    go : (r : Reply) → refusal sheet room_needed ≡ r → (N ≡ N') × (P ≡ P')
    go fine e = told-one (a.told e) (b.told e)
    go (refused Q R) e = let (x, y) = a.sent_back Q R e in let (z, w) = b.sent_back Q R e in (x ∙ sym z, y ∙ sym w)

-- the records say a reason for the list, each in the form of a step
pub record Reasoning (s : Sheet) (list : List ℕ) (records : List Record) : Type 0 where
  pub formed : (n : ℕ) → n < length records → Formed (record_at records n)
  pub reason : Reason s list (steps_of records)

module _ {s : Sheet} {list : List ℕ} {records : List Record} where
  right-reason : {n : ℕ} → Right s list records n → Reasoning s list records
  right-reason {n} r =
      record {
        formed = λ m l. formed m l (order n m);
        reason =
            record {
              last = n;
              closes =
                  record {
                    count = length-steps records ∙ r.closes.last;
                    ties = λ m l. rw (step-said records m (omega (arith, r.closes.last))) (r.ties m l).right;
                    closing = rw (step-said records n (omega (arith, r.closes.last))) r.closes.closing;
                  };
              exactly = r.closes.exactly;
            };
      }
    where
      formed : (m : ℕ) → m < length records → (n ≤ m) ⊎ (m < n) → Formed (record_at records m)
      formed m l (inr h) = (r.ties m h).formed
      formed m l (inl h) = let e : m ≡ n = omega (arith, r.closes.last) in rw e r.closes.formed

  reason-right : (R : Reasoning s list records) → Right s list records R.reason.last
  reason-right R =
      let last = R.reason.last in
      let count : length records ≡ suc last = sym (length-steps records) ∙ R.reason.closes.count in
      record {
        ties = λ m l. record { formed = R.formed m (omega arith); right = rw (sym (step-said records m (omega arith))) (R.reason.closes.ties m l) };
        closes =
            record {
              last = count;
              formed = R.formed last (omega arith);
              closing = rw (sym (step-said records last (omega arith))) R.reason.closes.closing;
              exactly = R.reason.exactly;
            };
      }

  told-yes : {N P : ℕ} → Told s list records N P → N ≡ 0 ↔ Rises (count_entries s) list × Reasoning s list records
  told-yes (no-list h a b) = (λ e. absurd (omega arith), λ d. absurd (h d.0))
  told-yes (yes r x a b) = (λ e. (r, right-reason x), λ d. a)
  told-yes (wrong r x a b) = (λ e. absurd (omega arith), λ d. absurd (not-wrong (reason-right d.1) x))

  -- at place 0
  pub yes-place : {N P : ℕ} → Told s list records N P → N ≡ 0 → P ≡ 0
  yes-place (no-list h a b) e = b
  yes-place (yes r x a b) e = b
  yes-place (wrong r x a b) e = absurd (omega arith)

-- a yes is given to a sheet that isn't sent back, a list that rises below L and a reason for it, and to nothing else
pub yes-exactly : {sheet list : List ℕ} {records : List Record} {N P : ℕ} → Surveyed sheet list records N P → refusal sheet room_needed ≡ fine →
    N ≡ 0 ↔ Rises (count_entries (sheet_of sheet)) list × Reasoning (sheet_of sheet) list records
yes-exactly a e = told-yes (a.told e)

-- a yes means that those entries clash
pub yes-clashes : {sheet list : List ℕ} {records : List Record} {P : ℕ} → Surveyed sheet list records 0 P → Clashes (sheet_of sheet) (set_of list)
yes-clashes {sheet} {list} {records} a = go (refusal sheet room_needed) refl
  where
    go : (r : Reply) → refusal sheet room_needed ≡ r → Clashes (sheet_of sheet) (set_of list)
    go fine e =
        let W = (fine-formed sheet (fine-sheet sheet room_needed e).0).1 in
        reason-clashes (sheet_of sheet) list (steps_of records) W ((yes-exactly a e).0 refl).1.reason
    go (refused Q R) e = absurd (omega (arith, refused-ten sheet room_needed Q R e, (a.sent_back Q R e).0))

-- so it is never given to an empty list
pub yes-some : {sheet : List ℕ} {records : List Record} {P : ℕ} → Surveyed sheet [] records 0 P → ⊥
yes-some {sheet} a = go (refusal sheet room_needed) refl
  where
    go : (r : Reply) → refusal sheet room_needed ≡ r → ⊥
    go fine e = yes-clashes a (empty_holds (sheet_of sheet) (fine-formed sheet (fine-sheet sheet room_needed e).0).1)
    go (refused Q R) e = omega (arith, refused-ten sheet room_needed Q R e, (a.sent_back Q R e).0)
