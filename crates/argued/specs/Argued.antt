-- What is written of a list that clashes: its reason's steps behind it, or the whole record.
-- Assumes nothing.
use Rattle.std.specs.Prelude.{◌≡◌, ℕ, ◌+◌, ◌≤◌, List, length, take, slice_index}
use Rattle.order.specs.First.{Set, Listed}
use Rattle.sheet.specs.Sheet.{Sheet, count_entries}
use Rattle.reasons.specs.Step.{Step}
use Rattle.reasons.specs.Reason.{Closes, NothingSpare}
use Rattle.paper.specs.Record.{head_length, head_bytes, count_ties, reason_record, reason_room, steps_bytes}
use Rattle.paper.specs.Written.{Appended}

-- with room for a list of k numbers behind the head: these steps are written behind it, up to `end`, and then the head
pub record StepsWritten (k : ℕ) (steps : List Step) (old new : List ℕ) (end : ℕ) : Type 0 where
  pub between : List ℕ
  pub written : Appended old between (head_length + k) end (steps_bytes steps)
  pub head : Appended between new 0 head_length (head_bytes end (count_ties steps) k (length steps))
  pub short : end ≤ reason_room

-- and they close it, with none to spare
pub record Closed (s : Sheet) (S : Set) (k : ℕ) (old new : List ℕ) (end : ℕ) : Type 0 where
  pub steps : List Step
  pub last : ℕ
  pub closes : Closes s S steps last
  pub spare : NothingSpare s steps last
  pub written : StepsWritten k steps old new end

-- new is old with the record of the entries of S and of steps that close them in its first bytes
pub record Argued (s : Sheet) (S : Set) (old new : List ℕ) (size : ℕ) : Type 0 where
  pub list : List ℕ
  pub listed : Listed (count_entries s) S list (length list)
  pub steps : List Step
  pub last : ℕ
  pub closes : Closes s S steps last
  pub spare : NothingSpare s steps last
  pub size_is : size ≡ length (reason_record list steps)
  pub short : size ≤ reason_room
  pub bytes : take size new ≡ reason_record list steps
  pub after : (b : ℕ) → size ≤ b → slice_index new b ≡ slice_index old b
