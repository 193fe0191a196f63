-- The lazy panels that document 01 shuts out, and two of its shortcuts: for each a starred sheet to which its reply breaks the promise,
-- whatever the answer room held; one that writes nothing is let off only where the room held that very answer before.
-- Assumes nothing.
use Rattle.std.specs.Prelude.{ℕ, ◌≤◌, ◌≡◌, List, [], ◌∷◌, length, take}
use Rattle.big.specs.Big.{big_of}
use Rattle.sheet.specs.Limits.{max_entries, room_needed}
use Rattle.answer.specs.Record.{clashes_record}
use Rattle.promise.specs.Answered.{over, Answered}
use Rattle.starred.specs.Bytes

-- no reply to these bytes that keeps the promise is so, in a room that is long enough
abbrev pub NoReply : (bytes : List ℕ) → ((old new : List ℕ) (number : ℕ) → Type 0) → Type 0
NoReply bytes So = (old new : List ℕ) (number place : ℕ) → room_needed ≤ length old → Answered bytes old new number place → So old new number → ⊥

pub record Lazy : Type 0 where
  -- refuses every sheet
  pub refuses : NoReply Bytes.bytes2 (λ old new number. 10 ≤ number)
  -- says holds always, with zeros or any other values
  pub holds : NoReply Bytes.bytes7 (λ old new number. number ≡ 0)
  -- names every entry always
  pub names-where-holds : NoReply Bytes.bytes2 (λ old new number. number ≡ 1)
  pub names-every : NoReply Bytes.bytes6 (λ old new number. new ≡ over (clashes_record (0 ∷ 1 ∷ 2 ∷ 3 ∷ [])) old)
  -- writes nothing
  pub writes_nothing : NoReply Bytes.bytes1 (λ old new number. (new ≡ old) × (take 11 old ≡ clashes_record (0 ∷ 1 ∷ 2 ∷ []) → ⊥))
  -- makes up k
  pub makes-up : NoReply Bytes.bytes1 (λ old new number. big_of new 4 2 ≡ 3 → ⊥)
  -- blames whatever the search met last: any list but the first
  pub blames : (list : List ℕ) → length list ≤ max_entries → (list ≡ 0 ∷ 1 ∷ 2 ∷ [] → ⊥) → NoReply Bytes.bytes6 (λ old new number. new ≡ over (clashes_record list) old)
  -- chooses the fewest entries: one of those lists
  pub fewest : NoReply Bytes.bytes6 (λ old new number. new ≡ over (clashes_record (3 ∷ [])) old)
